-- Programs and the texts of the grammar.
use Rattle.std.proofs.Common.{◌≡◌, ℕ, zero, suc, ◌+◌, ◌-◌, List, [], ◌∷◌, ◌++◌, Option, Some, None, Bool, true, false, refl, sym, ap, ◌∙◌, subst, arith}
use Rattle.std.proofs.Common.{if◌then◌else◌}
use Rattle.edi_lex.specs.declared.symbol.Symbol.{Symbol}
use Rattle.edi_lex.specs.declared.symbol.Symbol.TheVariants as is
use Rattle.edi_lex.specs.declared.symbol.Mark.{Mark}
use Rattle.edi_tree.specs.Tree.{Program}
use Rattle.edi_tree.specs.Stands.{Spelled, IsOn, StandsAsMark, StandAsMarks}
use Rattle.edi_tree.specs.Spells.{Spells, to_end}
use Rattle.edi_tree.specs.Levels.{Element, mark, level_end, marks_among, elements, opens, with_symbol, one_less, level_behind}
use Rattle.edi_grammar.specs.Grammar as item
use Rattle.edi_grammar.specs.Grammar.{token, closing, plain, Derives, opened}
use Rattle.edi_grammar.specs.Kinds as kind
use Rattle.edi_grammar.specs.Kind.{kind_of, kind_at}
use Rattle.edi_grammar.specs.Open.{open_behind}
use Rattle.edi_grammar.specs.Rules as g
use Rattle.edi_grammar.specs.Edison.{edison, start}
use Rattle.edi_grammar.proofs.EdisonIsFair.{fair}
use Rattle.edi_grammar.proofs.Start.{good}
use Rattle.edi_grammar.proofs.Trees.{forget, trees_of, same_trees}
use Rattle.edi_grammar.specs.derivation.Parts.{Tree}
use Rattle.edi_grammar.specs.derivation.Fits.{Items, Fit}
use Rattle.edi_grammar.specs.derivation.Faults.{somes}
use Rattle.edi_grammar.proofs.derivation.Builds.{Ts, build}
use Rattle.edi_grammar.proofs.derivation.Stands.{none_at}
use Rattle.edi_grammar.proofs.derivation.Closes.{sound}
use Rattle.edi_grammar.proofs.derivation.Reading.{Read}
use Rattle.edi_grammar.proofs.derivation.ProgramTakes.{program_takes}

-- marks as elements say give items, and items give marks
pub items_for : (es : List Element) (marks : List Mark) → StandAsMarks (marks_among es) marks → (items : Items) × Fit es items × (plain items ≡ to_end marks)
items_for [] [] h = (item.mark None ∷ [], refl, refl)
items_for [] (m ∷ marks) h = absurd h
items_for (mark s ∷ es) [] h = absurd h
items_for (mark s ∷ es) (m ∷ marks) h = let more = items_for es marks h.1 in
    (item.mark (Some m) ∷ more.0, (m, more.0, refl, h.0, more.1), ap (λ l. Some m ∷ l) more.2)
items_for (level_end ∷ es) marks h = let more = items_for es marks h in (closing ∷ more.0, (more.0, refl, more.1), more.2)

pub marks_of : (es : List Element) (items : Items) → Fit es items → (marks : List Mark) × StandAsMarks (marks_among es) marks × (plain items ≡ to_end marks)
marks_of [] items h = ([], tt, ap plain h)
marks_of (mark s ∷ es) items h = let more = marks_of es h.1 h.4 in (h.0 ∷ more.0, (h.3, more.1), ap plain h.2 ∙ ap (λ l. Some h.0 ∷ l) more.2)
marks_of (level_end ∷ es) items h = let more = marks_of es h.0 h.2 in (more.0, more.1, ap plain h.1 ∙ more.2)

-- a program whose elements fit is read
pub program_read : (tree : Program) (items : Items) → Fit (elements tree) items → Read start items (tree, (None, tt))
program_read tree items fit =
    let t = program_takes tree [] items fit in
    let last : Read (token kind.End_of_text ∷ []) t.rest (None, tt) = record { steps = 2; reads = ([], t.fits, refl, refl) } in
    t.go last

pub program_derived : (tree : Program) (items : Items) → Fit (elements tree) items → (n : ℕ) × Derives edison n start items
program_derived tree items fit = let r = program_read tree items fit in (r.steps, forget edison Tree build r.steps start items (tree, (None, tt)) r.reads)

-- a text of the grammar is a program
pub program_of_text : (n : ℕ) (items : Items) → Derives edison n start items → (tree : Program) × Fit (elements tree) items
program_of_text n items d =
    let t = trees_of edison Tree build n start items d in
    let s = sound n start items t.0 t.1 in
    let none : t.0.1.0 ≡ None = none_at t.0.1.0 s.2.2 in
    let nothing : s.2.0 ≡ [] = s.2.3 in
    let last : s.0 ≡ item.mark None ∷ [] = s.2.1 ∙ ap (λ o. item.mark o ∷ s.2.0) none ∙ ap (λ l. item.mark None ∷ l) nothing in
    (t.0.0, s.1 [] last)

-- no two programs spell the same marks
pub same_program : (tree other : Program) (marks : List Mark) → Spells tree marks → Spells other marks → tree ≡ other
same_program tree other marks h f =
    let a = items_for (elements tree) marks h in
    let b = items_for (elements other) marks f in
    let r = program_read tree a.0 a.1 in
    let q = program_read other b.0 b.1 in
    let one : Ts start = (tree, (None, tt)) in
    let two : Ts start = (other, (None, tt)) in
    let same : one ≡ two = same_trees edison Tree build fair r.steps start q.steps a.0 b.0 one two good (tt, tt) (a.2 ∙ sym b.2) r.reads q.reads in
    ap first_tree same where
      first_tree : Ts start → Program
      first_tree ts = ts.0

-- a symbol opens a level in the tree where its kind does in the grammar
opens_same : (s : Symbol) → opens s ≡ g.opens (kind_of s)
opens_same (is.Chars []) = refl
opens_same (is.Chars (c ∷ [])) = refl
opens_same (is.Chars (c ∷ d ∷ more)) = refl
opens_same s = refl

pub opens_of : (s : Spelled) (m : Mark) → StandsAsMark s m → opens s.symbol ≡ g.opens (kind_of m.symbol)
opens_of s m h = ap opens (sym h.0) ∙ opens_same m.symbol

pub opens_in : (m : Mark) → opens m.symbol ≡ g.opens (kind_of m.symbol)
opens_in m = opens_same m.symbol

one_more : (k : ℕ) (b c : Bool) → b ≡ c → (if b then suc k else k) ≡ k + (if c then 1 else 0)
one_more k true c e = rw (sym e) (omega arith)
one_more k false c e = rw (sym e) (omega arith)

pub counted : (k : ℕ) (s : Spelled) (m : Mark) → StandsAsMark s m → with_symbol k s.symbol ≡ k + opened edison (kind_at (Some m))
counted k s m h = one_more k (opens s.symbol) (g.opens (kind_of m.symbol)) (opens_of s m h)

less_one : (k : ℕ) → one_less k ≡ k - 1
less_one zero = refl
less_one (suc k) = omega arith

-- elements whose marks begin with these and go on with this one, in items
pub record Cut (before : List Element) (s : Spelled) (after : List Element) (front : List Mark) (m : Mark) : Type 0 where
  pub first : Items
  pub last : Items
  pub fits : Fit (before ++ mark s ∷ after) (first ++ item.mark (Some m) ∷ last)
  pub spelled : plain first ≡ somes front
  pub levels : (k : ℕ) → level_behind k before ≡ open_behind edison k first

line_for : Option ℕ → ℕ
line_for None = 1
line_for (Some line) = line

mark_for : Spelled → Mark
mark_for s = record { symbol = s.symbol; line = line_for s.line }

mark_stands : (s : Spelled) → StandsAsMark s (mark_for s)
unfolding mark_for line_for
mark_stands s = (refl, on s.line) where
  on : (line : Option ℕ) → IsOn line (line_for line)
  on None = tt
  on (Some line) = refl

marks_for : (es : List Element) → (marks : List Mark) × StandAsMarks (marks_among es) marks
marks_for [] = ([], tt)
marks_for (mark s ∷ es) = let more = marks_for es in (mark_for s ∷ more.0, (mark_stands s, more.1))
marks_for (level_end ∷ es) = marks_for es

pub cut_at : (before : List Element) (s : Spelled) (after : List Element) (front : List Mark) (m : Mark) → StandAsMarks (marks_among before) front
    → StandsAsMark s m → Cut before s after front m
cut_at [] s after [] m h st =
    let marks = marks_for after in
    let rest = items_for after marks.0 marks.1 in
    record { first = []; last = rest.0; fits = (m, rest.0, refl, st, rest.1); spelled = refl; levels = λ k. refl }
cut_at [] s after (b ∷ front) m h st = absurd h
cut_at (mark c ∷ before) s after [] m h st = absurd h
cut_at (mark c ∷ before) s after (b ∷ front) m h st = let more = cut_at before s after front m h.1 st in record {
  first = item.mark (Some b) ∷ more.first;
  last = more.last;
  fits = (b, more.first ++ item.mark (Some m) ∷ more.last, refl, h.0, more.fits);
  spelled = ap (λ l. Some b ∷ l) more.spelled;
  levels = λ k. more.levels (with_symbol k c.symbol) ∙ ap (λ k. open_behind edison k more.first) (counted k c b h.0);
}
cut_at (level_end ∷ before) s after front m h st = let more = cut_at before s after front m h st in record {
  first = closing ∷ more.first;
  last = more.last;
  fits = (more.first ++ item.mark (Some m) ∷ more.last, refl, more.fits);
  spelled = more.spelled;
  levels = λ k. more.levels (one_less k) ∙ ap (λ k. open_behind edison k more.first) (less_one k);
}

-- marks that elements have, cut where the elements are
pub record Parted (before : List Element) (s : Spelled) (marks : List Mark) : Type 0 where
  pub front : List Mark
  pub m : Mark
  pub behind : List Mark
  pub cut : marks ≡ front ++ m ∷ behind
  pub stand : StandAsMarks (marks_among before) front
  pub stands : StandsAsMark s m

pub parted : (before : List Element) (s : Spelled) (after : List Element) (marks : List Mark) → StandAsMarks (marks_among (before ++ mark s ∷ after)) marks
    → Parted before s marks
parted [] s after [] h = absurd h
parted [] s after (m ∷ marks) h = record { front = []; m = m; behind = marks; cut = refl; stand = tt; stands = h.0 }
parted (mark c ∷ before) s after [] h = absurd h
parted (mark c ∷ before) s after (b ∷ marks) h = let more = parted before s after marks h.1 in
    record { front = b ∷ more.front; m = more.m; behind = more.behind; cut = ap (λ l. b ∷ l) more.cut; stand = (h.0, more.stand); stands = more.stands }
parted (level_end ∷ before) s after marks h = let more = parted before s after marks h in
    record { front = more.front; m = more.m; behind = more.behind; cut = more.cut; stand = more.stand; stands = more.stands }

pub level_with : (before : List Element) (k : ℕ) (s : Spelled) → level_behind k (before ++ mark s ∷ []) ≡ with_symbol (level_behind k before) s.symbol
level_with [] k s = refl
level_with (mark c ∷ before) k s = level_with before (with_symbol k c.symbol) s
level_with (level_end ∷ before) k s = level_with before (one_less k) s

pub open_with : (first : Items) (k : ℕ) (m : Mark) → open_behind edison k (first ++ item.mark (Some m) ∷ []) ≡ open_behind edison k first + opened edison
    (kind_at (Some m))
open_with [] k m = refl
open_with (item.mark o ∷ first) k m = open_with first (k + opened edison (kind_at o)) m
open_with (closing ∷ first) k m = open_with first (k - 1) m
