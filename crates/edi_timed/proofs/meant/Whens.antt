-- The line of the `when` at a position is that of the statement that stands there in the code.
use Rattle.std.proofs.Common.{◌≡◌, ℕ, zero, suc, List, [], ◌∷◌, refl, sym, ap, ◌∙◌}
use Rattle.edi_unit.specs.Types.{Shape}
use Rattle.edi_unit.specs.Tree.{skip, assign, call, halt, if_act, while_act, when_act, cobegin, Acts, no_act, act_then, clause, Clauses, no_clause, clause_then}
use Rattle.edi_unit.specs.Tree.{Block, ProgramUnit}
use Rattle.edi_meaning.specs.Step.{Position}
use Rattle.edi_scheme.specs.Pieces.{ClauseKind, once, repeated, released}
use Rattle.edi_scheme.specs.Sites as code
use Rattle.edi_scheme.specs.Sites.{Site, statements, statement, nothing_there, site, body_site}
use Rattle.edi_timeline.specs.Stints as meant
use Rattle.edi_timeline.specs.Stints.{Led, line_at, when_line}

-- without addresses
abbrev bare : Site → Led
bare (statements s at) = meant.statements s
bare (statement a at) = meant.statement a
bare nothing_there = meant.nothing

module _ (types : List Shape) (blocks : List Block) (b : ℕ) where
  bare_statement : (s : Acts) (at n : ℕ) → bare (code.nth_statement types blocks b s at n) ≡ meant.nth_statement s n
  bare_statement no_act at n = refl
  bare_statement (act_then a s) at zero = refl
  bare_statement (act_then a s) at (suc n) = bare_statement s _ n

  bare_list : (kind : ClauseKind) (cs : Clauses) (at n : ℕ) → bare (code.nth_list types blocks b kind cs at n) ≡ meant.nth_list cs n
  bare_list kind no_clause at n = refl
  bare_list kind (clause_then (clause e s) cs) at zero = refl
  bare_list kind (clause_then (clause e s) cs) at (suc n) = bare_list kind cs _ n

  bare_into : (x : Site) (n : ℕ) → bare (code.into types blocks b x n) ≡ meant.into (bare x) n
  bare_into (statements s at) n = bare_statement s at n
  bare_into (statement (if_act cs) at) n = bare_list once cs at n
  bare_into (statement (while_act cs) at) n = bare_list repeated cs at n
  bare_into (statement (when_act cs line) at) n = bare_list released cs _ n
  bare_into (statement skip at) n = refl
  bare_into (statement (assign v e) at) n = refl
  bare_into (statement (call c es line) at) n = refl
  bare_into (statement (halt line) at) n = refl
  bare_into (statement (cobegin bs line) at) n = refl
  bare_into nothing_there n = refl

  bare_led : (path : List ℕ) (x : Site) → bare (code.led types blocks b x path) ≡ meant.led (bare x) path
  bare_led [] x = refl
  bare_led (n ∷ path) x = bare_led path (code.into types blocks b x n) ∙ ap (λ z. meant.led z path) (bare_into x n)

pub line_is : (unit : ProgramUnit) (position : Position) (cs : Clauses) (line at : ℕ) → site unit position ≡ statement (when_act cs line) at →
    when_line unit position ≡ line
line_is unit position cs line at e =
    ap line_at (sym (bare_led unit.types unit.blocks position.of position.path (body_site unit.types unit.blocks position.of)))
    ∙ ap (λ x. line_at (bare x)) e
