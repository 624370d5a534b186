-- What the end of a parsing says of what the marks begin.
use Rattle.std.proofs.Common.{◌≡◌, ℕ, zero, suc, ◌<◌, ◌≤◌, List, [], ◌∷◌, ◌++◌, length, Option, Some, None, Bool, pos, true, false, refl, sym, ap, ◌∙◌, subst, arith}
use Rattle.std.proofs.Common.{append_assoc}
use Rattle.std.specs.Prelude.{nat_eq, nat_lt, ◌&&◌, ◌+◌, drop, replicate, slice_index_or, slice_set}
use Rattle.std.proofs.lemmas.List.{at_drop_all, drop_more, get_or-set_same, get_or-set_other}
use Rattle.std.proofs.lemmas.Bool.{eqb-true, ltb-true, ltb-false}
use Rattle.std.proofs.lemmas.List.{append-nil}
use Rattle.edi_lex.specs.declared.symbol.Mark.{Mark}
use Rattle.edi_lex.specs.declared.symbol.Symbol.{Symbol}
use Rattle.edi_lex.specs.declared.symbol.Symbol.TheVariants as is
use Rattle.edi_tree.specs.Levels.{elements}
use Rattle.edi_tree.specs.Tree.{Program}
use Rattle.edi_tree.specs.Spells.{Spells, to_end, ProgramBegins}
use Rattle.edi_grammar.specs.Grammar as item
use Rattle.edi_grammar.specs.Grammar.{Part, ends_in}
use Rattle.edi_grammar.specs.Parser.{Why, complete, wrong, too_deep, Stops}
use Rattle.edi_grammar.specs.Edison.{edison, start}
use Rattle.edi_grammar.specs.Kind.{kind_of}
use Rattle.edi_grammar.proofs.Start.{first_fault}
use Rattle.edi_grammar.specs.derivation.Faults.{somes, AreShallow, IsTheTree}
use Rattle.edi_grammar.proofs.derivation.Firsts.{misplaced, placed, too_deep_at, whole_tree}
use Rattle.edi_grammar.proofs.derivation.Programs.{marks_of, opens_in, program_of_text}
use Rattle.edi_syntax.specs.Ends.{EndsWrong, EndsDeep}
use Rattle.edi_syntax.specs.declared.fault.SyntaxFault.TheVariants as fault
use Rattle.edi_syntax.proofs.Places.{begins_front, level_of}
use Rattle.edi_syntax.proofs.Once.{no_tree}
use Rattle.edi_grammar.specs.Rules.{Sort, opens}
use Rattle.edi_syntax.proofs.Stopping.{same_marks}
use Rattle.edi_explain.specs.expected.Awaited.{waits}
use Rattle.edi_explain.specs.expected.Advances.{Advances, Awaits, Ends, Reads, StopsAt, Takes, may_be}
use Rattle.edi_explain.specs.expected.MayStand.{Begin, IsWhole}
use Rattle.edi_explain.specs.expected.Reaches.{DoBegin, May}
use Rattle.edi_explain.specs.declared.expected.parser.Step.{Step}
use Rattle.edi_explain.specs.declared.expected.parser.Step.TheVariants as step
use Rattle.edi_explain.proofs.expected.OneKind.{somes_both, kind_decides}
use Rattle.edi_explain.proofs.expected.Numbers.{both_left, both_right}

pub to_end_somes : (marks : List Mark) → to_end marks ≡ somes marks ++ None ∷ []
to_end_somes [] = refl
to_end_somes (m ∷ marks) = ap (λ l. Some m ∷ l) (to_end_somes marks)

at_most : (k level : ℕ) → (k < level → ⊥) → level ≤ k
at_most k level h = by (nat_lt k level) refl where
  by : (b : Bool) → nat_lt k level ≡ b → level ≤ k
  by true e = absurd (h (ltb-true k level e))
  by false e = ltb-false k level e

-- As in `Firsts` of the grammar: marks that are read to their end are not too deep.
shallow_all : (marks : List Mark) → Stops edison 64 start (to_end marks) complete [] → AreShallow marks
shallow_all marks stops front behind m level cut opens_m l = at_most 64 level (λ deep.
    let v = first_fault 64 (to_end marks) complete [] stops in
    let p = placed front m level l in
    let places : to_end marks ≡ somes front ++ Some m ∷ (somes behind ++ None ∷ []) =
    to_end_somes marks ∙ ap (λ u. u ++ None ∷ []) (ap somes cut ∙ somes_both front (m ∷ behind)) ∙ append_assoc (somes front) (Some m ∷ somes behind) (None ∷ []) in
    v.shallow (somes front) (somes behind ++ None ∷ []) (Some m) p.n (p.first ++ item.mark (Some m) ∷ p.last) (sym (append-nil v.before) ∙ sym v.cut ∙ places)
    p.derived (p.first, p.last, refl, p.spelled, sym (opens_in m) ∙ opens_m, subst (λ k. 64 < k) p.ends deep))

whole_begins : (marks : List Mark) (tree : Program) → Spells tree marks → ProgramBegins (somes marks)
whole_begins marks tree spells = (tree, marks, None ∷ [], spells, to_end_somes marks)

pub reaches_whole : (marks : List Mark) (tree : Program) → IsTheTree marks tree → Stops edison 64 start (to_end marks) complete []
    → IsWhole marks × Begin marks
reaches_whole marks tree t stops = (
  (tree, t.spells, t.shallow),
  record { begins = whole_begins marks tree t.spells; shallow = shallow_all marks stops },
)

-- a parser that reads all has read a program
pub whole_stops : (marks : List Mark) → Stops edison 64 start (to_end marks) complete [] → IsWhole marks × Begin marks
whole_stops marks stops =
    let v = first_fault 64 (to_end marks) complete [] stops in
    let p = program_of_text v.lives.0 v.lives.2 v.lives.5 in
    let spelled = marks_of (elements p.0) v.lives.2 p.1 in
    let same : spelled.0 ≡ marks = same_marks spelled.0 marks
    (sym spelled.2 ∙ v.lives.3 ∙ ap (λ more. v.before ++ more) v.lives.4 ∙ sym v.cut) in
    let spells : Spells p.0 marks = subst (λ ms. Spells p.0 ms) same spelled.1 in
    reaches_whole marks p.0 (whole_tree marks p.0 spells stops) stops

pub reaches_part : (marks rest : List Mark) → length rest ≡ 0 → EndsWrong marks rest → (IsWhole marks → ⊥) × Begin marks
reaches_part marks (r ∷ rest) none e = absurd (omega (arith, none))
reaches_part marks [] none e =
    let same : e.before ≡ marks = sym (append-nil e.before) ∙ sym e.cut in (
      λ w. e.misplaced.fails (
        w.0,
        marks,
        [],
        w.1,
        to_end_somes marks ∙ ap (λ u. somes u ++ None ∷ []) (sym same)
            ∙ sym (append-nil (somes e.before ++ None ∷ [])),
      ),
      record { begins = subst (λ u. ProgramBegins (somes u)) same e.misplaced.begins; shallow = subst (λ u. AreShallow u) same e.misplaced.shallow },
    )

somes_cut : (marks before : List Mark) (r : Mark) (rest : List Mark) → marks ≡ before ++ r ∷ rest
    → somes marks ≡ (somes before ++ Some r ∷ []) ++ somes rest
somes_cut marks before r rest e = ap somes e ∙ somes_both before (r ∷ rest) ∙ sym (append_assoc (somes before) (Some r ∷ []) (somes rest))

pub reaches_not : (marks : List Mark) (r : Mark) (rest : List Mark) → EndsWrong marks (r ∷ rest) → (IsWhole marks → ⊥) × (Begin marks → ⊥)
reaches_not marks r rest e =
    let no : ProgramBegins (somes marks) → ⊥ = λ b. e.misplaced.fails (begins_front (somes e.before ++ Some r ∷ []) (somes rest)
    (subst (λ l. ProgramBegins l) (somes_cut marks e.before r rest e.cut) b)) in
    (λ w. no (whole_begins marks w.0 w.1), λ b. no b.begins)

pub reaches_not_deep : (marks rest : List Mark) → EndsDeep marks rest → (IsWhole marks → ⊥) × (Begin marks → ⊥)
reaches_not_deep marks rest e =
    let cut : marks ≡ e.before ++ e.m ∷ e.more = e.cut ∙ ap (λ l. e.before ++ l) e.here in (
      λ w. no_tree marks 0 (fault.TooDeep e.m.line (length e.before)) w.0
          (record { before = e.before; m = e.m; deep = e.deep; on_line = refl; at_index = refl }) w.1 w.2,
      λ b.
          let l = level_of e.before e.m e.deep.begins in
          let small : l.0 ≤ 64 = b.shallow e.before e.more e.m l.0 cut e.deep.opens_level l.1 in
          omega (arith, small, e.deep.deep l.0 l.1),
    )

-- ---- the stops, as places of marks

cut_marks : (marks before rest : List Mark) → to_end marks ≡ somes before ++ to_end rest → marks ≡ before ++ rest
cut_marks marks [] rest e = same_marks marks rest e
cut_marks [] (b ∷ before) rest e = cc
cut_marks (m ∷ marks) (b ∷ before) rest e =
    let heads : Some m ∷ to_end marks ≡ Some b ∷ (somes before ++ to_end rest) = e in
    let same : m ≡ b = cc in
    let less : to_end marks ≡ somes before ++ to_end rest = cc in
    ap (λ l. m ∷ l) (cut_marks marks before rest less) ∙ ap (λ m. m ∷ (before ++ rest)) same

pub part_stops : (marks : List Mark) → Stops edison 64 start (to_end marks) wrong (None ∷ []) → (IsWhole marks → ⊥) × Begin marks
part_stops marks stops = let m = misplaced marks None [] stops in
    reaches_part marks [] refl (record { before = m.0; cut = cut_marks marks m.0 [] m.1; misplaced = m.2 })

pub wrong_stops : (marks rest : List Mark) (r : Mark) → Stops edison 64 start (to_end marks) wrong (Some r ∷ to_end rest)
    → (IsWhole marks → ⊥) × (Begin marks → ⊥)
wrong_stops marks rest r stops = let m = misplaced marks (Some r) (to_end rest) stops in
    reaches_not marks r rest (record { before = m.0; cut = cut_marks marks m.0 (r ∷ rest) m.1; misplaced = m.2 })

pub deep_stops : (marks rest : List Mark) (r : Mark) → Stops edison 64 start (to_end marks) too_deep (Some r ∷ to_end rest)
    → (IsWhole marks → ⊥) × (Begin marks → ⊥)
deep_stops marks rest r stops = let m = too_deep_at marks r (to_end rest) stops in
    reaches_not_deep marks (r ∷ rest) (record { before = m.0; m = r; more = rest; here = refl; cut = cut_marks marks m.0 (r ∷ rest) m.1; deep = m.2 })

-- what one symbol of the kind shows
pub by_sample : (before : List Mark) (m : Mark) (a : ℕ) (b : Bool) → kind_of m.symbol ≡ suc a → DoBegin (before ++ m ∷ []) b → May before (suc a) b
by_sample before m a true k h = (m, k, h)
by_sample before m a false k h = λ o. h (kind_decides before o.0 m (o.1 ∙ sym k) o.2)

-- ---- a symbol more, by where the parser stops

-- these symbols are of this kind, the next one and so on
abbrev are_of_kinds : ℕ → List Symbol → Bool
are_of_kinds n [] = true
are_of_kinds n (s ∷ more) = nat_eq (kind_of s) n && are_of_kinds (suc n) more

sample_in : (all : List Symbol) (n k : ℕ) → are_of_kinds n all ≡ true → n ≤ k → k < n + length all → (s : Symbol) × (kind_of s ≡ k)
sample_in [] n k h least most = absurd (omega (arith, least, most))
sample_in (s ∷ all) n k h least most = by (nat_lt n k) refl (λ less. sample_in all (suc n) k (both_right _ _ h) less (omega (arith, most))) where
  by : (b : Bool) → nat_lt n k ≡ b → (suc n ≤ k → (s : Symbol) × (kind_of s ≡ k)) → (s : Symbol) × (kind_of s ≡ k)
  by true e more = let less : n < k = ltb-true n k e in more (omega (arith, less))
  by false e more = let few : k ≤ n = ltb-false n k e in
      let same : n ≡ k = omega (arith, least, few) in (s, eqb-true (kind_of s) n (both_left _ _ h) ∙ same)

-- some symbol of each kind
abbrev all_symbols : List Symbol
all_symbols = is.Name [] ∷ is.Numeral (pos 0) ∷ is.Chars (97 ∷ []) ∷ is.Chars [] ∷ is.Also ∷ is.And ∷ is.Array ∷ is.Begin ∷ is.Cobegin ∷ is.Const ∷ is.Div
    ∷ is.Do ∷ is.Else ∷ is.End ∷ is.Enum ∷ is.If ∷ is.In ∷ is.Lib ∷ is.Mod ∷ is.Module ∷ is.Not ∷ is.Or ∷ is.Post ∷ is.Pre ∷ is.Proc ∷ is.Record ∷ is.Set
    ∷ is.Skip ∷ is.Val ∷ is.Var ∷ is.When ∷ is.While ∷ is.Equal ∷ is.NotEqual ∷ is.Less ∷ is.AtMost ∷ is.Greater ∷ is.AtLeast ∷ is.Plus ∷ is.Minus ∷ is.Star
    ∷ is.Colon ∷ is.Becomes ∷ is.Comma ∷ is.Semicolon ∷ is.Period ∷ is.Open ∷ is.Close ∷ is.OpenBracket ∷ is.CloseBracket ∷ []

all_of_kinds : are_of_kinds 1 all_symbols ≡ true
all_of_kinds = refl

sample_of : (a : ℕ) → suc a ≤ 50 → (m : Mark) × (kind_of m.symbol ≡ suc a)
sample_of a known = let s = sample_in all_symbols 1 (suc a) all_of_kinds (omega arith) (omega (arith, known)) in (record { symbol = s.0; line = 1 }, s.1)

-- the marks with one more, and then the end of the text
with_one : (before : List Mark) (m : Mark) → to_end (before ++ m ∷ []) ≡ somes before ++ Some m ∷ None ∷ []
with_one before m =
    to_end_somes (before ++ m ∷ []) ∙ ap (λ l. l ++ None ∷ []) (somes_both before (m ∷ [])) ∙ append_assoc (somes before) (Some m ∷ []) (None ∷ [])

module _ (before : List Mark) (numbers : List ℕ) (h : Awaits before numbers) where
  at_end : (y : Why) (r : List (Option Mark)) → Stops edison 64 (waits numbers) (None ∷ []) y r → Stops edison 64 start (to_end before) y r
  at_end y r stops = subst (λ l. Stops edison 64 start l y r) (sym (to_end_somes before)) (h.go (None ∷ []) y r stops)

  with_mark : (m : Mark) (y : Why) (r : List (Option Mark)) → Stops edison 64 (waits numbers) (Some m ∷ None ∷ []) y r
      → Stops edison 64 start (to_end (before ++ m ∷ [])) y r
  with_mark m y r stops = subst (λ l. Stops edison 64 start l y r) (sym (with_one before m)) (h.go (Some m ∷ None ∷ []) y r stops)

  -- it is taken, and the end of the text comes after it
  begins_with : (m : Mark) (then after : List (Part Sort)) (second : Step) → Takes (waits numbers) then (kind_of m.symbol) → Advances then after 0 second
      → Begin (before ++ m ∷ [])
  begins_with m then after step.Taken t e = absurd (omega (arith, e.some))
  begins_with m then after step.Wrong t e = (part_stops (before ++ m ∷ []) (with_mark m wrong (None ∷ []) (t.go (Some m) refl (None ∷ []) wrong (None ∷ [])
      (e None refl [])))).1
  begins_with m then after step.TooDeep t e = let no : false ≡ true = e.0 in absurd (cc)
  begins_with m then after step.Whole t e = (whole_stops (before ++ m ∷ []) (with_mark m complete [] (t.go (Some m) refl (None ∷ []) complete []
      (e.go None refl [])))).1

  pub taken_may : (k : ℕ) (then after : List (Part Sort)) (second : Step) → k ≤ 50 → Takes (waits numbers) then k → Advances then after 0 second
      → May before k true
  taken_may zero then after second known t e = absurd (omega (arith, t.some))
  taken_may (suc a) then after second known t e =
      let m = sample_of a known in (m.0, m.1, begins_with m.0 then after second (subst (λ k. Takes (waits numbers) then k) (sym m.1) t) e)

  pub whole_may : (k : ℕ) → Ends (waits numbers) k → May before k true
  whole_may zero e = (whole_stops before (at_end complete [] (e.go None refl []))).0
  whole_may (suc a) e = let no : suc a ≡ 0 = e.none in absurd (cc)

  pub wrong_may_not : (k : ℕ) → k ≤ 50 → StopsAt (waits numbers) k wrong → May before k false
  wrong_may_not zero known e = (part_stops before (at_end wrong (None ∷ []) (e None refl []))).0
  wrong_may_not (suc a) known e = let m = sample_of a known in
      by_sample before m.0 a false m.1 (wrong_stops (before ++ m.0 ∷ []) [] m.0 (with_mark m.0 wrong (Some m.0 ∷ None ∷ []) (e (Some m.0) m.1 (None ∷ [])))).1

  pub deep_may_not : (k : ℕ) → k ≤ 50 → opens k ≡ true → StopsAt (waits numbers) k too_deep → May before k false
  deep_may_not zero known o e = let no : false ≡ true = o in absurd (cc)
  deep_may_not (suc a) known o e = let m = sample_of a known in
      by_sample before m.0 a false m.1 (deep_stops (before ++ m.0 ∷ []) [] m.0 (with_mark m.0 too_deep (Some m.0 ∷ None ∷ []) (e (Some m.0) m.1 (None ∷ [])))).1

-- so, by what comes of the symbol
pub may_by_step : (before : List Mark) (numbers items : List ℕ) (then after : List (Part Sort)) (k : ℕ) (s second : Step) → k ≤ 50
    → Advances (waits items) then k s → Advances then after 0 second → items ≡ numbers → Awaits before numbers → May before k (may_be s)
may_by_step before numbers items then after k s second known f e same h = by s (subst (λ l. Advances (waits l) then k s) same f) where
  by : (s : Step) → Advances (waits numbers) then k s → May before k (may_be s)
  by step.Taken t = taken_may before numbers h k then after second known t e
  by step.Wrong t = wrong_may_not before numbers h k known t
  by step.TooDeep t = deep_may_not before numbers h k known t.0 t.1
  by step.Whole t = whole_may before numbers h k t

-- ---- marks, one by one

-- where the parser stops from here on, it does from the front
pub record AwaitsRest (marks rest : List Mark) (numbers : List ℕ) : Type 0 where
  pub go : (words : List (Option Mark)) (y : Why) (r : List (Option Mark)) → Stops edison 64 (waits numbers) (somes rest ++ words) y r
      → Stops edison 64 start (somes marks ++ words) y r

pub begun : (marks : List Mark) (numbers : List ℕ) → numbers ≡ 51 ∷ [] → AwaitsRest marks marks numbers
begun marks numbers e = record { go = λ words y r h. subst (λ n. Stops edison 64 (waits n) (somes marks ++ words) y r) e h }

pub one_taken : (marks rest : List Mark) (m : Mark) (numbers new : List ℕ) → AwaitsRest marks (m ∷ rest) numbers
    → Takes (waits numbers) (waits new) (kind_of m.symbol) → AwaitsRest marks rest new
one_taken marks rest m numbers new h t = record { go = λ words y r s. h.go words y r (t.go (Some m) refl (somes rest ++ words) y r s) }

pub all_taken : (marks : List Mark) (numbers : List ℕ) → AwaitsRest marks [] numbers → Awaits marks numbers
all_taken marks numbers h = record { go = λ words y r s. h.go words y r s }

some_kind : (s : Symbol) → kind_of s ≡ 0 → ⊥
some_kind (is.Chars []) e = cc
some_kind (is.Chars (c ∷ [])) e = cc
some_kind (is.Chars (c ∷ d ∷ more)) e = cc
some_kind _ e = cc

from_front : (marks rest : List Mark) (m : Mark) (numbers : List ℕ) → AwaitsRest marks (m ∷ rest) numbers → (y : Why)
    → Stops edison 64 (waits numbers) (Some m ∷ (somes rest ++ None ∷ [])) y (Some m ∷ (somes rest ++ None ∷ []))
    → Stops edison 64 start (to_end marks) y (Some m ∷ to_end rest)
from_front marks rest m numbers h y stops =
    subst (λ l. Stops edison 64 start l y (Some m ∷ to_end rest)) (sym (to_end_somes marks))
    (subst (λ l. Stops edison 64 start (somes marks ++ None ∷ []) y (Some m ∷ l)) (sym (to_end_somes rest))
    (h.go (None ∷ []) y (Some m ∷ (somes rest ++ None ∷ [])) stops))

-- one of them is not taken
pub one_not_taken : (marks rest : List Mark) (m : Mark) (numbers new : List ℕ) (s : Step) → AwaitsRest marks (m ∷ rest) numbers
    → Advances (waits numbers) (waits new) (kind_of m.symbol) s → (s ≡ step.Taken → ⊥) → Reads marks None
one_not_taken marks rest m numbers new step.Taken h a not = absurd (not refl)
one_not_taken marks rest m numbers new step.Wrong h a not = wrong_stops marks rest m
    (from_front marks rest m numbers h wrong (a (Some m) refl (somes rest ++ None ∷ [])))
one_not_taken marks rest m numbers new step.TooDeep h a not = deep_stops marks rest m
    (from_front marks rest m numbers h too_deep (a.1 (Some m) refl (somes rest ++ None ∷ [])))
one_not_taken marks rest m numbers new step.Whole h a not = absurd (some_kind m.symbol a.none)

-- ---- the mark of an index

cut_at : (marks : List Mark) (i : ℕ) (m : Mark) → i < length marks → m ≡ slice_index_or marks i m → drop i marks ≡ m ∷ drop (i + 1) marks
cut_at marks i m inside is = drop_more marks i m inside ∙ ap (λ n. n ∷ drop (i + 1) marks) (sym is)

pub step_taken : (marks : List Mark) (i : ℕ) (m : Mark) (numbers new : List ℕ) (kind : ℕ) (s : Step) → i < length marks → m ≡ slice_index_or marks i m
    → kind ≡ kind_of m.symbol → AwaitsRest marks (drop i marks) numbers → Advances (waits numbers) (waits new) kind s → s ≡ step.Taken
    → AwaitsRest marks (drop (i + 1) marks) new
step_taken marks i m numbers new kind s inside is k h a t =
    one_taken marks (drop (i + 1) marks) m numbers new (subst (λ l. AwaitsRest marks l numbers) (cut_at marks i m inside is) h)
    (subst (λ k. Advances (waits numbers) (waits new) k step.Taken) k (subst (λ s. Advances (waits numbers) (waits new) kind s) t a))

pub step_not_taken : (marks : List Mark) (i : ℕ) (m : Mark) (numbers new : List ℕ) (kind : ℕ) (s : Step) → i < length marks → m ≡ slice_index_or marks i m
    → kind ≡ kind_of m.symbol → AwaitsRest marks (drop i marks) numbers → Advances (waits numbers) (waits new) kind s → (s ≡ step.Taken → ⊥)
    → Reads marks None
step_not_taken marks i m numbers new kind s inside is k h a not =
    one_not_taken marks (drop (i + 1) marks) m numbers new s (subst (λ l. AwaitsRest marks l numbers) (cut_at marks i m inside is) h)
    (subst (λ k. Advances (waits numbers) (waits new) k s) k a) not

pub none_left : (marks : List Mark) (i : ℕ) (numbers : List ℕ) → length marks ≤ i → AwaitsRest marks (drop i marks) numbers → Awaits marks numbers
none_left marks i numbers none h = all_taken marks numbers (subst (λ l. AwaitsRest marks l numbers) (at_drop_all (λ l. l) marks i none) h)

-- what begins no program may go on by nothing
pub nothing_may : (before : List Mark) (k : ℕ) → Reads before None → May before k false
nothing_may before zero h = h.0
nothing_may before (suc a) h = λ o. h.1 (record {
  begins = begins_front (somes before) (Some o.0 ∷ []) (subst (λ l. ProgramBegins l) (somes_both before (o.0 ∷ [])) o.2.begins);
  shallow = λ front behind m level cut opens_m l. o.2.shallow front (behind ++ o.0 ∷ []) m level
      (ap (λ l. l ++ o.0 ∷ []) cut ∙ append_assoc front (m ∷ behind) (o.0 ∷ [])) opens_m l;
})

-- a table in which nothing may stand
pub all_false : (n k : ℕ) → slice_index_or (replicate n false) k false ≡ false
all_false zero k = refl
all_false (suc n) zero = refl
all_false (suc n) (suc k) = all_false n k

pub nothing_in : (before : List Mark) (n k : ℕ) → Reads before None → May before k (slice_index_or (replicate n false) k false)
nothing_in before n k h = subst (λ b. May before k b) (sym (all_false n k)) (nothing_may before k h)

-- a table that says so of the kinds below n, and then of n
pub grown : (before : List Mark) (kinds : List Bool) (n : ℕ) (b : Bool) → n < length kinds
    → ((k : ℕ) → k < n → May before k (slice_index_or kinds k false)) → May before n b → (k : ℕ) → k < n + 1
    → May before k (slice_index_or (slice_set kinds n b) k false)
grown before kinds n b fits old new k small = by (nat_lt k n) refl where
  by : (c : Bool) → nat_lt k n ≡ c → May before k (slice_index_or (slice_set kinds n b) k false)
  by true e = let less : k < n = ltb-true k n e in
      subst (λ c. May before k c) (sym (get_or-set_other kinds n k b false (λ same. omega (arith, less, same)))) (old k less)
  by false e = let most : n ≤ k = ltb-false k n e in
      let same : n ≡ k = omega (arith, most, small) in
      subst (λ k. May before k (slice_index_or (slice_set kinds n b) k false)) same
      (subst (λ c. May before n c) (sym (get_or-set_same kinds n b false fits)) new)
