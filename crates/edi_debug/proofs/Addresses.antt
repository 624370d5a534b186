-- Sights fit the unit: each is a `when` with an address.
use Rattle.std.proofs.Common.{◌≡◌, ℕ, suc, ◌+◌, ◌<◌, Bool, true, if◌then◌else◌, List, ◌++◌, length, All, Some, None, slice_get, refl, sym, ap, ◌∙◌, subst, arith}
use Rattle.std.proofs.Common.{length-append}
use Rattle.std.specs.Prelude.{nat_lt, slice_index_or}
use Rattle.std.proofs.lemmas.Option.{slice_get_within, slice_get-get_or}
use Rattle.edi_tree.specs.Tree as text
use Rattle.edi_unit.specs.Types.{Shape}
use Rattle.edi_unit.specs.Tree as tree
use Rattle.edi_unit.specs.Tree.{Act, if_act, while_act, when_act, Acts, no_act, act_then, Clause, clause, Clauses, no_clause, clause_then, Block, ProgramUnit}
use Rattle.edi_unit.specs.Need.{block_at}
use Rattle.edi_static.specs.Programs.{Resolved, Sound}
use Rattle.edi_scheme.specs.Pieces.{ClauseKind, once, repeated, released, close_code, code_length}
use Rattle.edi_scheme.specs.Lengths.{expression_length, act_length, clause_length}
use Rattle.edi_scheme.specs.Sites.{body_start}
use Rattle.edi_scheme.specs.Awaits.{act_awaits, acts_awaits, clause_awaits, clauses_awaits, block_awaits, await_address}
use Rattle.edi_sights.specs.declared.answer.Sight.{Sight}
use Rattle.edi_sights.specs.Sights.{sights_of}
use Rattle.edi_sights.specs.Whens.{act_lines, acts_lines, clause_lines, clauses_lines, block_lines}
use Rattle.edi_sights.specs.Fits.{IsWhen}
use Rattle.edi_sights.proofs.told.Met.{sights_are_whens}
use Rattle.edi_debug.specs.stops.Seen.{SightFits}

-- ---- each `when` of a block has an address

both_long : (a b c d : List ℕ) → length a ≡ length b → length c ≡ length d → length (a ++ c) ≡ length (b ++ d)
both_long a b c d e f = omega (arith, length-append a c, length-append b d, e, f)

module _ (types : List Shape) (blocks : List Block) (b : ℕ) where
  mutual
    act_long : (a : Act) (at : ℕ) → length (act_awaits types blocks b a at) ≡ length (act_lines a)
    act_long tree.skip at = refl
    act_long (tree.assign p e) at = refl
    act_long (tree.call c xs line) at = refl
    act_long (tree.halt line) at = refl
    act_long (tree.cobegin bs line) at = refl
    act_long (if_act cs) at = clauses_long once cs at
    act_long (while_act cs) at = clauses_long repeated cs at
    act_long (when_act cs line) at = ap suc (clauses_long released cs (at + 2))

    acts_long : (s : Acts) (at : ℕ) → length (acts_awaits types blocks b s at) ≡ length (acts_lines s)
    acts_long no_act at = refl
    acts_long (act_then a s) at =
        both_long (act_awaits types blocks b a at) (act_lines a) (acts_awaits types blocks b s (at + act_length types blocks b a)) (acts_lines s)
        (act_long a at) (acts_long s (at + act_length types blocks b a))

    clause_long : (c : Clause) (at : ℕ) → length (clause_awaits types blocks b c at) ≡ length (clause_lines c)
    clause_long (clause e s) at = acts_long s (at + expression_length types blocks b e + 3)

    clauses_long : (kind : ClauseKind) (cs : Clauses) (at : ℕ) → length (clauses_awaits types blocks b kind cs at) ≡ length (clauses_lines cs)
    clauses_long kind no_clause at = refl
    clauses_long kind (clause_then c cs) at =
        both_long (clause_awaits types blocks b c at) (clause_lines c)
        (clauses_awaits types blocks b kind cs (at + clause_length types blocks b c + code_length (close_code kind 0 cs))) (clauses_lines cs)
        (clause_long c at) (clauses_long kind cs (at + clause_length types blocks b c + code_length (close_code kind 0 cs)))

-- the address with the number of a line
has_address : (unit : ProgramUnit) (b i line : ℕ) → b < length unit.blocks → slice_get (block_lines unit.blocks b) i ≡ Some line
    → (at : ℕ) × (await_address unit b i ≡ Some at)
has_address unit b i line inside e =
    let awaits : List ℕ = block_awaits unit.types unit.blocks b in
    let short : i < length awaits =
    subst (λ n. i < n) (sym (acts_long unit.types unit.blocks b (block_at unit.blocks b).body (body_start unit.types unit.blocks b)))
    (slice_get_within (block_lines unit.blocks b) i line e) in
    let there : nat_lt b (length unit.blocks) ≡ true = grind (arith, inside) in
    (slice_index_or awaits i 0, ap (λ (t : Bool). if t then slice_get awaits i else None) there ∙ slice_get-get_or awaits i 0 short)

-- ---- sights

when_fits : (unit : ProgramUnit) (line : ℕ) (s : Sight) → IsWhen unit line s → SightFits unit s
when_fits unit line s h =
    let address : (at : ℕ) × (await_address unit s.block s.index ≡ Some at) = has_address unit s.block s.index line h.there h.on_line in
    record { at = address.0; stands = address.1; slot_fits = h.slot_fits }

pub sights_fit : (tree : text.Program) (unit : ProgramUnit) → Sound tree → Resolved tree unit → (line : ℕ) (name : List ℕ)
    → All (SightFits unit) (sights_of tree line name)
sights_fit tree unit sound resolved line name i d h = when_fits unit line _ ((sights_are_whens tree unit sound resolved line name).0 i d h)
