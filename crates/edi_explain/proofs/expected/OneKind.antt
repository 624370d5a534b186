-- Whether a symbol may stand behind marks, is said by its kind.
use Rattle.std.proofs.Common.{◌≡◌, ℕ, zero, suc, ◌+◌, ◌≤◌, List, [], ◌∷◌, ◌++◌, Option, Some, true, refl, sym, ap, ◌∙◌, subst, arith}
use Rattle.std.proofs.Common.{append_assoc, None, ◌-◌, ◌⊎◌, inl, inr}
use Rattle.edi_lex.specs.declared.symbol.Mark.{Mark}
use Rattle.edi_tree.specs.Stands.{Spelled, StandsAsMark, StandAsMarks}
use Rattle.edi_tree.specs.Spells.{ProgramBegins}
use Rattle.edi_tree.specs.Levels.{Element, mark, level_end, marks_among, elements, opens, with_symbol, one_less, level_behind, Level}
use Rattle.edi_grammar.specs.Grammar as item
use Rattle.edi_grammar.specs.Grammar.{closing, plain, Derives, opened, ends_in}
use Rattle.edi_grammar.specs.Kind.{kind_of, kind_at}
use Rattle.edi_grammar.specs.Rules as g
use Rattle.edi_grammar.specs.Open.{open_behind}
use Rattle.edi_grammar.specs.Edison.{edison, start}
use Rattle.edi_grammar.specs.derivation.Fits.{Items, Fit}
use Rattle.edi_grammar.specs.derivation.Faults.{somes, AreShallow}
use Rattle.edi_grammar.proofs.derivation.Programs.{items_for, program_derived, program_of_text, opens_in}
use Rattle.edi_grammar.proofs.derivation.Programs.{counted}
use Rattle.edi_grammar.proofs.derivation.Firsts.{begins_of, level_is_ending, placed}
use Rattle.edi_explain.specs.expected.MayStand.{Begin}
use Rattle.edi_explain.proofs.expected.Swaps.{no_item, some_same, swapped, split, plain_at}

-- a begun program may go on with another symbol of the kind
pub begins_with : (before : List Mark) (a b : Option Mark) → kind_at a ≡ kind_at b → ProgramBegins (somes before ++ a ∷ [])
    → ProgramBegins (somes before ++ b ∷ [])
begins_with before a b k p =
    let items = items_for (elements p.0) p.1 p.3 in
    let d = program_derived p.0 items.0 items.1 in
    let s = split items.0 (somes before) a p.2 (items.2 ∙ p.4 ∙ append_assoc (somes before) (a ∷ []) p.2) in
    let text = subst (λ l. Derives edison d.0 start l) s.cut d.1 in
    begins_of (somes before ++ b ∷ []) (plain s.last) d.0 (s.first ++ item.mark b ∷ s.last)
    (plain_at s.first b s.last ∙ ap (λ u. u ++ b ∷ plain s.last) s.before ∙ sym (append_assoc (somes before) (b ∷ []) (plain s.last)))
    (swapped edison d.0 start s.first a b s.last k text)

-- elements that fit items, cut where the items are
pub record Cut (es : List Element) (first : Items) (m : Mark) (front : List Mark) : Type 0 where
  pub before : List Element
  pub s : Spelled
  pub after : List Element
  pub cut : es ≡ before ++ mark s ∷ after
  pub stand : StandAsMarks (marks_among before) front
  pub stands : StandsAsMark s m
  pub levels : (k : ℕ) → level_behind k before ≡ open_behind edison k first

less_one : (k : ℕ) → one_less k ≡ k - 1
less_one zero = refl
less_one (suc k) = omega arith

pub cut_of : (es : List Element) (first : Items) (m : Mark) (last : Items) (front : List Mark) → plain first ≡ somes front
    → Fit es (first ++ item.mark (Some m) ∷ last) → Cut es first m front
cut_of [] [] m last front e fit = let no : item.mark (Some m) ∷ last ≡ item.mark None ∷ [] = fit in absurd cc
cut_of [] (i ∷ first) m last front e fit =
    let heads : i ∷ (first ++ item.mark (Some m) ∷ last) ≡ item.mark None ∷ [] = fit in
    let rest : first ++ item.mark (Some m) ∷ last ≡ [] = cc in
    absurd (no_item first (item.mark (Some m)) last rest)
cut_of (mark s ∷ es) [] m last [] e fit =
    let heads : item.mark (Some m) ∷ last ≡ item.mark (Some fit.0) ∷ fit.1 = fit.2 in
    let one : fit.0 ≡ m = cc in
    record { before = []; s = s; after = es; cut = refl; stand = tt; stands = subst (λ m. StandsAsMark s m) one fit.3; levels = λ k. refl }
cut_of (mark s ∷ es) [] m last (c ∷ front) e fit = let no : [] ≡ Some c ∷ somes front = e in absurd cc
cut_of (level_end ∷ es) [] m last front e fit = let heads : item.mark (Some m) ∷ last ≡ closing ∷ fit.0 = fit.1 in absurd cc
cut_of (mark s ∷ es) (closing ∷ first) m last front e fit =
    let heads : closing ∷ (first ++ item.mark (Some m) ∷ last) ≡ item.mark (Some fit.0) ∷ fit.1 = fit.2 in absurd cc
cut_of (mark s ∷ es) (item.mark o ∷ first) m last [] e fit = let no : o ∷ plain first ≡ [] = e in absurd cc
cut_of (mark s ∷ es) (item.mark o ∷ first) m last (c ∷ front) e fit =
    let heads : item.mark o ∷ (first ++ item.mark (Some m) ∷ last) ≡ item.mark (Some fit.0) ∷ fit.1 = fit.2 in
    let one : o ≡ Some fit.0 = cc in
    let rest : fit.1 ≡ first ++ item.mark (Some m) ∷ last = cc in
    let both : o ∷ plain first ≡ Some c ∷ somes front = e in
    let same : o ≡ Some c = cc in
    let mark_is : fit.0 ≡ c = some_same fit.0 c (sym one ∙ same) in
    let more : plain first ≡ somes front = cc in
    let p = cut_of es first m last front more (subst (λ l. Fit es l) rest fit.4) in
    record {
      before = mark s ∷ p.before;
      s = p.s;
      after = p.after;
      cut = ap (λ l. mark s ∷ l) p.cut;
      stand = (subst (λ m. StandsAsMark s m) mark_is fit.3, p.stand);
      stands = p.stands;
      levels = λ k. p.levels (with_symbol k s.symbol) ∙ ap (λ k. open_behind edison k first)
          (counted k s fit.0 fit.3 ∙ ap (λ o. k + opened edison (kind_at o)) (sym one));
    }
cut_of (level_end ∷ es) (item.mark o ∷ first) m last front e fit =
    let heads : item.mark o ∷ (first ++ item.mark (Some m) ∷ last) ≡ closing ∷ fit.0 = fit.1 in absurd cc
cut_of (level_end ∷ es) (closing ∷ first) m last front e fit =
    let heads : closing ∷ (first ++ item.mark (Some m) ∷ last) ≡ closing ∷ fit.0 = fit.1 in
    let rest : fit.0 ≡ first ++ item.mark (Some m) ∷ last = cc in
    let p = cut_of es first m last front e (subst (λ l. Fit es l) rest fit.2) in
    record {
      before = level_end ∷ p.before;
      s = p.s;
      after = p.after;
      cut = ap (λ l. level_end ∷ l) p.cut;
      stand = p.stand;
      stands = p.stands;
      levels = λ k. p.levels (one_less k) ∙ ap (λ k. open_behind edison k first) (less_one k);
    }

-- another symbol of the kind opens the same level
pub level_with_kind : (front : List Mark) (m o : Mark) (level : ℕ) → kind_of m.symbol ≡ kind_of o.symbol → Level front m level → Level front o level
level_with_kind front m o level k l =
    let p = placed front m level l in
    let d = swapped edison p.n start p.first (Some m) (Some o) p.last k p.derived in
    let t = program_of_text p.n (p.first ++ item.mark (Some o) ∷ p.last) d in
    let c = cut_of (elements t.0) p.first o p.last front p.spelled t.1 in (
      t.0,
      c.before,
      c.s,
      c.after,
      c.cut,
      c.stand,
      c.stands,
      p.ends ∙ sym (level_is_ending t.0 c.before c.after c.s o p.n p.first p.last c.stands c.levels d),
    )

-- a cut of marks and one more is the last one, or is within the marks
abbrev pub Within : List Mark → Mark → List Mark → Mark → List Mark → Type 0
Within before o front m behind = ((front ≡ before) × (m ≡ o)) ⊎ ((more : List Mark) × (before ≡ front ++ m ∷ more))

within : (before : List Mark) (o : Mark) (front : List Mark) (m : Mark) (behind : List Mark) → before ++ o ∷ [] ≡ front ++ m ∷ behind
    → Within before o front m behind
within [] o [] m behind e = let same : o ≡ m = cc in inl (refl, sym same)
within [] o (c ∷ front) m behind e =
    let heads : o ∷ [] ≡ c ∷ (front ++ m ∷ behind) = e in
    let rest : front ++ m ∷ behind ≡ [] = cc in
    absurd (no_item front m behind rest)
within (b ∷ before) o [] m behind e = let same : b ≡ m = cc in inr (before, ap (λ b. b ∷ before) same)
within (b ∷ before) o (c ∷ front) m behind e =
    let heads : b ∷ (before ++ o ∷ []) ≡ c ∷ (front ++ m ∷ behind) = e in
    let one : b ≡ c = cc in
    let rest : before ++ o ∷ [] ≡ front ++ m ∷ behind = cc in
    further one (within before o front m behind rest) where
      further : b ≡ c → Within before o front m behind → Within (b ∷ before) o (c ∷ front) m behind
      further one (inl h) = inl (ap (λ l. c ∷ l) h.0 ∙ ap (λ c. c ∷ before) (sym one), h.1)
      further one (inr h) = inr (h.0, ap (λ l. b ∷ l) h.1 ∙ ap (λ b. b ∷ (front ++ m ∷ h.0)) one)

pub shallow_with : (before : List Mark) (a b : Mark) → kind_of a.symbol ≡ kind_of b.symbol → AreShallow (before ++ a ∷ []) → AreShallow (before ++ b ∷ [])
shallow_with before a b k h front behind m level cut opens_m l = by (within before b front m behind cut) where
  by : Within before b front m behind → level ≤ 64
  by (inl s) =
      let at_b : Level before b level = subst (λ m. Level before m level) s.1 (subst (λ u. Level u m level) s.0 l) in
      let opens_a : opens a.symbol ≡ true = opens_in a ∙ ap g.opens k ∙ sym (opens_in b) ∙ ap (λ (m : Mark). opens m.symbol) (sym s.1) ∙ opens_m in
      h before [] a level refl opens_a (level_with_kind before b a level (sym k) at_b)
  by (inr s) = h front (s.0 ++ a ∷ []) m level (ap (λ u. u ++ a ∷ []) s.1 ∙ append_assoc front (m ∷ s.0) (a ∷ [])) opens_m l

pub somes_both : (u v : List Mark) → somes (u ++ v) ≡ somes u ++ somes v
somes_both [] v = refl
somes_both (a ∷ u) v = ap (λ l. Some a ∷ l) (somes_both u v)

-- the law: what one symbol of a kind may, each of the kind may
pub kind_decides : (before : List Mark) (a b : Mark) → kind_of a.symbol ≡ kind_of b.symbol → Begin (before ++ a ∷ []) → Begin (before ++ b ∷ [])
kind_decides before a b k h = record {
  begins = subst (λ l. ProgramBegins l) (sym (somes_both before (b ∷ [])))
      (begins_with before (Some a) (Some b) k (subst (λ l. ProgramBegins l) (somes_both before (a ∷ [])) h.begins));
  shallow = shallow_with before a b k h.shallow;
}
