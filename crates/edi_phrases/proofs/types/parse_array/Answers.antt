use Rattle.std.proofs.Common.{◌≡◌, ℕ, ◌+◌, ◌<◌, List, [], ◌∷◌, refl, arith}
use Rattle.edi_lex.specs.declared.symbol.Symbol.TheVariants as is
use Rattle.edi_lex.specs.declared.symbol.Mark.{Mark}
use Rattle.edi_tree.specs.declared.names.Name.{Name}
use Rattle.edi_tree.specs.Stands.{on, just, name_mark}
use Rattle.edi_tree.specs.Levels.{Element, word, kept, named, level_end}
use Rattle.edi_grammar.specs.Grammar as item
use Rattle.edi_grammar.specs.Grammar.{Part, token, part}
use Rattle.edi_grammar.specs.Kind.{front}
use Rattle.edi_grammar.specs.Kinds as kind
use Rattle.edi_grammar.specs.Rules as g
use Rattle.edi_grammar.specs.Rules.{Sort}
use Rattle.edi_phrases.specs.Words.{at_line, HeadStands}
use Rattle.edi_phrases.specs.Parses.{Goes, Passes}
use Rattle.edi_phrases.proofs.Moves.{at_exit, over_mark, over_open, over_end, over_part, lacks, refused, halts}
use Rattle.edi_phrases.proofs.Heads.{decl_rule, behind_head}
use Rattle.edi_phrases.proofs.types.parse_array.Goals as goal

abbrev inner : List (Part Sort)
inner = token kind.Open ∷ token kind.Name ∷ token kind.Close ∷ item.level_end ∷ []

abbrev range : List (Part Sort)
range = part g.Constant ∷ token kind.Colon ∷ part g.Constant ∷ token kind.CloseBracket ∷ item.level_end ∷ inner

-- behind the bracket
bounded : {n line : ℕ} {p q : List Mark} (name : Name) → front p ≡ kind.Array → HeadStands is.Array name is.OpenBracket line p q → n < 64
    → Goes g.TypeDecl n (λ es. word is.Array ∷ named name ∷ kept is.OpenBracket line ∷ es) range p q
bounded {line = line} name chosen stands room = behind_head is.Array is.OpenBracket name (on is.OpenBracket line) (decl_rule _ chosen) refl
    (omega (arith, room)) (refl, refl) stands

-- before the upper bound
above : {n i : ℕ} {f lower : List Element → List Element} {p q r t : List Mark} → Goes g.TypeDecl n f range p q → Passes g.Constant (n + 1) lower q r
    → r ≡ at_line is.Colon i ∷ t → Goes g.TypeDecl n (λ es. f (lower (word is.Colon ∷ es)))
    (part g.Constant ∷ token kind.CloseBracket ∷ item.level_end ∷ inner) p t
above {i = i} go low colon = over_mark (just is.Colon) (at_line is.Colon i) (over_part go low (omega arith)) colon refl refl (refl, tt)

-- behind the range
ranged : {n i : ℕ} {f upper : List Element → List Element} {p q r t : List Mark}
    → Goes g.TypeDecl n f (part g.Constant ∷ token kind.CloseBracket ∷ item.level_end ∷ inner) p q → Passes g.Constant (n + 1) upper q r
    → r ≡ at_line is.CloseBracket i ∷ t → Goes g.TypeDecl n (λ es. f (upper (word is.CloseBracket ∷ level_end ∷ es))) inner p t
ranged {i = i} go high close = over_end (over_mark (just is.CloseBracket) (at_line is.CloseBracket i) (over_part go high (omega arith)) close refl refl
    (refl, tt))

-- behind the name of the elements' type
typed : {n i : ℕ} {f : List Element → List Element} {p q r t : List Mark} (name : Name) → Goes g.TypeDecl n f inner p q → q ≡ at_line is.Open i ∷ r → n < 64
    → r ≡ at_line (is.Name name.text) name.line ∷ t → Goes g.TypeDecl n (λ es. f (word is.Open ∷ named name ∷ es)) (token kind.Close ∷ item.level_end ∷ []) p t
typed {i = i} name go bracket room element = over_mark (name_mark name) (at_line (is.Name name.text) name.line)
    (over_open (just is.Open) (at_line is.Open i) go bracket refl (omega (arith, room)) (refl, tt)) element refl refl (refl, refl)

pub returns-in_err-name-clause-halts : goal.returns-in_err-name-clause-halts
returns-in_err-name-clause-halts c = at_exit _ c.from_residual.ensures.1 (c.in_err-name.ensures.halts.at g.TypeDecl range (decl_rule _ c.requires.chosen)
    (omega arith))

pub returns-in_err-lower-clause-halts : goal.returns-in_err-lower-clause-halts
returns-in_err-lower-clause-halts c = at_exit _ c.from_residual-in_err-lower.ensures.1 (halts (bounded c.in_ok-name.name c.requires.chosen
    c.in_ok-name.ensures.found c.in_ok-name.ensures.room) (omega arith) c.in_err-lower.ensures.halts)

pub returns-in_err-behind_colon-clause-halts : goal.returns-in_err-behind_colon-clause-halts
returns-in_err-behind_colon-clause-halts c = at_exit _ c.from_residual-in_err-behind_colon.ensures.1
    (lacks (over_part (bounded c.in_ok-name.name c.requires.chosen c.in_ok-name.ensures.found c.in_ok-name.ensures.room) c.in_ok-lower.ensures.passes
    (omega arith)) c.in_err-behind_colon.ensures.none)

pub returns-in_err-upper-clause-halts : goal.returns-in_err-upper-clause-halts
returns-in_err-upper-clause-halts c = at_exit _ c.from_residual-in_err-upper.ensures.1 (halts (above
    (bounded c.in_ok-name.name c.requires.chosen c.in_ok-name.ensures.found c.in_ok-name.ensures.room) c.in_ok-lower.ensures.passes
    c.in_ok-behind_colon.ensures.found) (omega arith) c.in_err-upper.ensures.halts)

pub returns-in_err-behind_range-clause-halts : goal.returns-in_err-behind_range-clause-halts
returns-in_err-behind_range-clause-halts c = at_exit _ c.from_residual-in_err-behind_range.ensures.1
    (lacks (over_part (above (bounded c.in_ok-name.name c.requires.chosen c.in_ok-name.ensures.found c.in_ok-name.ensures.room) c.in_ok-lower.ensures.passes
    c.in_ok-behind_colon.ensures.found) c.in_ok-upper.ensures.passes (omega arith)) c.in_err-behind_range.ensures.none)

pub returns-in_err-behind_open-clause-halts : goal.returns-in_err-behind_open-clause-halts
returns-in_err-behind_open-clause-halts c = at_exit _ c.from_residual-in_err-behind_open.ensures.1
    (refused (ranged (above (bounded c.in_ok-name.name c.requires.chosen c.in_ok-name.ensures.found c.in_ok-name.ensures.room) c.in_ok-lower.ensures.passes
    c.in_ok-behind_colon.ensures.found) c.in_ok-upper.ensures.passes c.in_ok-behind_range.ensures.found) refl (omega arith) c.in_err-behind_open.ensures.none)

pub returns-in_err-element-clause-halts : goal.returns-in_err-element-clause-halts
returns-in_err-element-clause-halts c = at_exit _ c.from_residual-in_err-element.ensures.1 (lacks (over_open (just is.Open)
    (at_line is.Open c.in_ok-behind_open.field-0-0) (ranged (above (bounded c.in_ok-name.name c.requires.chosen c.in_ok-name.ensures.found
    c.in_ok-name.ensures.room) c.in_ok-lower.ensures.passes c.in_ok-behind_colon.ensures.found) c.in_ok-upper.ensures.passes
    c.in_ok-behind_range.ensures.found) c.in_ok-behind_open.ensures.found refl (omega (arith, c.in_ok-behind_open.ensures.room)) (refl, tt))
    c.in_err-element.ensures.none)

pub returns-in_err-rest-clause-halts : goal.returns-in_err-rest-clause-halts
returns-in_err-rest-clause-halts c = at_exit _ c.from_residual-in_err-rest.ensures.1 (lacks (typed c.in_ok-element.element
    (ranged (above (bounded c.in_ok-name.name c.requires.chosen c.in_ok-name.ensures.found c.in_ok-name.ensures.room) c.in_ok-lower.ensures.passes
    c.in_ok-behind_colon.ensures.found) c.in_ok-upper.ensures.passes c.in_ok-behind_range.ensures.found) c.in_ok-behind_open.ensures.found
    c.in_ok-behind_open.ensures.room c.in_ok-element.ensures.found) c.in_err-rest.ensures.none)

pub returns-clause-passes : goal.returns-clause-passes
returns-clause-passes c = over_end (over_mark (just is.Close) (at_line is.Close c.in_ok-rest.field-0-0)
    (typed c.in_ok-element.element (ranged (above (bounded c.in_ok-name.name c.requires.chosen c.in_ok-name.ensures.found c.in_ok-name.ensures.room)
    c.in_ok-lower.ensures.passes c.in_ok-behind_colon.ensures.found) c.in_ok-upper.ensures.passes c.in_ok-behind_range.ensures.found)
    c.in_ok-behind_open.ensures.found c.in_ok-behind_open.ensures.room c.in_ok-element.ensures.found) c.in_ok-rest.ensures.found refl refl (refl, tt))
