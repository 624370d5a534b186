-- Where the predictive parser stops is the first fault, in the words of syntax trees.
use Rattle.std.proofs.Common.{◌≡◌, ℕ, zero, suc, ◌+◌, ◌<◌, ◌≤◌, max, List, [], ◌∷◌, ◌++◌, Option, Some, Bool, true, false, refl, sym, ap, ◌∙◌, subst, arith}
use Rattle.std.proofs.Common.{if◌then◌else◌, append_assoc}
use Rattle.std.specs.Prelude.{nat_lt}
use Rattle.std.proofs.lemmas.Bool.{ltb-true, ltb-false}
use Rattle.edi_lex.specs.declared.symbol.Mark.{Mark}
use Rattle.edi_tree.specs.Tree.{Program}
use Rattle.edi_tree.specs.Stands.{Spelled, StandsAsMark, StandAsMarks}
use Rattle.edi_tree.specs.Spells.{Spells, to_end, ProgramBegins}
use Rattle.edi_tree.specs.Levels.{Element, mark, level_end, marks_among, elements, opens, with_symbol, one_less, level_behind, greatest_level, most_levels, Level}
use Rattle.edi_grammar.specs.Grammar as item
use Rattle.edi_grammar.specs.Grammar.{closing, plain, Derives, opened, ends_in}
use Rattle.edi_grammar.specs.Parser.{complete, wrong, too_deep, Stops}
use Rattle.edi_grammar.specs.Verdict.{Shallow}
use Rattle.edi_grammar.specs.Kind.{kind_at}
use Rattle.edi_grammar.specs.Open.{open_behind}
use Rattle.edi_grammar.specs.Edison.{edison, start}
use Rattle.edi_grammar.proofs.EdisonIsFair.{fair}
use Rattle.edi_grammar.proofs.Open.{open_is_ending}
use Rattle.edi_grammar.proofs.Start.{first_fault}
use Rattle.edi_grammar.specs.derivation.Fits.{Items, Fit}
use Rattle.edi_grammar.specs.derivation.Faults.{somes, AreShallow, IsMisplaced, IsTooDeepAt, IsTheTree}
use Rattle.edi_grammar.proofs.derivation.Programs.{items_for, marks_of, program_derived, program_of_text, same_program, opens_in}
use Rattle.edi_grammar.proofs.derivation.Programs.{counted, cut_at, parted, level_with, open_with}

cons_not_nil : {A : Type 0} (u : List A) (a : A) (v : List A) → u ++ a ∷ v ≡ [] → ⊥
cons_not_nil [] a v e = cc
cons_not_nil (b ∷ u) a v e = cc

-- what stands before another one is no end of the text
pub before_place : (u : List (Option Mark)) (marks : List Mark) (here : Option Mark) (behind : List (Option Mark)) → to_end marks ≡ u ++ here ∷ behind
    → (before : List Mark) × (u ≡ somes before)
before_place [] marks here behind e = ([], refl)
before_place (o ∷ u) [] here behind e = let none : [] ≡ u ++ here ∷ behind = cc in absurd (cons_not_nil u here behind (sym none))
before_place (o ∷ u) (m ∷ marks) here behind e =
    let heads : Some m ∷ to_end marks ≡ o ∷ (u ++ here ∷ behind) = e in
    let same : o ≡ Some m = cc in
    let rest : to_end marks ≡ u ++ here ∷ behind = cc in
    let more = before_place u marks here behind rest in
    (m ∷ more.0, ap (λ l. o ∷ l) more.1 ∙ ap (λ o. o ∷ somes more.0) same)

-- what begins a text begins a program
pub begins_of : (u more : List (Option Mark)) (n : ℕ) (items : Items) → plain items ≡ u ++ more → Derives edison n start items → ProgramBegins u
begins_of u more n items e d =
    let p = program_of_text n items d in
    let marks = marks_of (elements p.0) items p.1 in
    (p.0, marks.0, more, marks.1, sym marks.2 ∙ e)

-- the levels that are open with a symbol are those that end behind it
pub level_is_ending : (tree : Program) (before after : List Element) (s : Spelled) (m : Mark) (n : ℕ) (first last : Items) → StandsAsMark s m
    → ((k : ℕ) → level_behind k before ≡ open_behind edison k first) → Derives edison n start (first ++ item.mark (Some m) ∷ last)
    → level_behind 0 (before ++ mark s ∷ []) ≡ ends_in edison last
level_is_ending tree before after s m n first last st levels d =
    level_with before 0 s ∙ counted (level_behind 0 before) s m st ∙ ap (λ k. k + opened edison (kind_at (Some m))) (levels 0) ∙ sym (open_with first 0 m)
    ∙ open_is_ending edison fair n start (first ++ item.mark (Some m) ∷ last) (first ++ item.mark (Some m) ∷ []) last (omega arith, tt)
    (sym (append_assoc first (item.mark (Some m) ∷ []) last)) d

at_most : (k level : ℕ) → (k < level → ⊥) → level ≤ k
at_most k level h = by (nat_lt k level) refl where
  by : (b : Bool) → nat_lt k level ≡ b → level ≤ k
  by true e = absurd (h (ltb-true k level e))
  by false e = ltb-false k level e

-- a level of a program, in a text of the grammar
pub record Placed (front : List Mark) (m : Mark) (level : ℕ) : Type 0 where
  pub n : ℕ
  pub first : Items
  pub last : Items
  pub derived : Derives edison n start (first ++ item.mark (Some m) ∷ last)
  pub spelled : plain first ≡ somes front
  pub ends : level ≡ ends_in edison last

pub placed : (front : List Mark) (m : Mark) (level : ℕ) → Level front m level → Placed front m level
placed front m level l =
    let c = cut_at l.1 l.2 l.3 front m l.5 l.6 in
    let d = program_derived l.0 (c.first ++ item.mark (Some m) ∷ c.last) (subst (λ es. Fit es (c.first ++ item.mark (Some m) ∷ c.last)) (sym l.4) c.fits) in
    record {
      n = d.0;
      first = c.first;
      last = c.last;
      derived = d.1;
      spelled = c.spelled;
      ends = l.7 ∙ level_is_ending l.0 l.1 l.3 l.2 m d.0 c.first c.last
          l.6 c.levels d.1;
    }

plain_front : (first last : Items) (o : Option Mark) → plain (first ++ item.mark o ∷ last) ≡ plain first ++ o ∷ plain last
plain_front [] last o = refl
plain_front (item.mark s ∷ first) last o = ap (λ l. s ∷ l) (plain_front first last o)
plain_front (closing ∷ first) last o = plain_front first last o

shallow_of : (before : List Mark) → Shallow edison 64 start (somes before) → AreShallow before
shallow_of before h front behind m level cut opens_m l = at_most 64 level (λ deep.
    let p = placed front m level l in
    h (somes front) (somes behind) (Some m) p.n (p.first ++ item.mark (Some m) ∷ p.last) (ap somes cut ∙ somes_both front (m ∷ behind)) p.derived
    (p.first, p.last, refl, p.spelled, sym (opens_in m) ∙ opens_m, subst (λ k. 64 < k) p.ends deep)) where
      somes_both : (u v : List Mark) → somes (u ++ v) ≡ somes u ++ somes v
      somes_both [] v = refl
      somes_both (a ∷ u) v = ap (λ l. Some a ∷ l) (somes_both u v)

pub misplaced : (marks : List Mark) (here : Option Mark) (behind : List (Option Mark)) → Stops edison 64 start (to_end marks) wrong (here ∷ behind)
    → (before : List Mark) × (to_end marks ≡ somes before ++ here ∷ behind) × IsMisplaced marks before here
misplaced marks here behind stops =
    let v = first_fault 64 (to_end marks) wrong (here ∷ behind) stops in
    let b = before_place v.before marks here behind v.cut in
    let cut = v.cut ∙ ap (λ u. u ++ here ∷ behind) b.1 in (
      b.0,
      cut,
      record {
        position = (behind, cut);
        begins = subst (λ u. ProgramBegins u) b.1 (begins_of v.before v.lives.1 v.lives.0 v.lives.2 v.lives.3 v.lives.5);
        shallow = shallow_of b.0 (subst (λ u. Shallow edison 64 start u) b.1 v.shallow);
        fails = λ f.
            let items = items_for (elements f.0) f.1 f.3 in
            let d = program_derived f.0 items.0 items.1 in
            v.blocks here behind f.2 d.0 items.0 refl (items.2 ∙ f.4 ∙ append_assoc (somes b.0) (here ∷ []) f.2 ∙ ap (λ u. u ++ here ∷ f.2) (sym b.1)) d.1;
      },
    )

-- two cuts of items behind the same symbols, before a symbol, are one
same_cut : (u v : Items) (a b : Option Mark) (x y : Items) → u ++ item.mark a ∷ x ≡ v ++ item.mark b ∷ y → plain u ≡ plain v → x ≡ y
same_cut [] [] a b x y e p = cc
same_cut [] (item.mark s ∷ v) a b x y e p = cc
same_cut [] (closing ∷ v) a b x y e p = let no : item.mark a ∷ x ≡ closing ∷ (v ++ item.mark b ∷ y) = e in cc
same_cut (item.mark s ∷ u) [] a b x y e p = cc
same_cut (closing ∷ u) [] a b x y e p = let no : closing ∷ (u ++ item.mark a ∷ x) ≡ item.mark b ∷ y = e in cc
same_cut (item.mark s ∷ u) (item.mark t ∷ v) a b x y e p =
    let whole : item.mark s ∷ (u ++ item.mark a ∷ x) ≡ item.mark t ∷ (v ++ item.mark b ∷ y) = e in
    let rest : u ++ item.mark a ∷ x ≡ v ++ item.mark b ∷ y = cc in
    let both : s ∷ plain u ≡ t ∷ plain v = p in
    let more : plain u ≡ plain v = cc in
    same_cut u v a b x y rest more
same_cut (item.mark s ∷ u) (closing ∷ v) a b x y e p = let no : item.mark s ∷ (u ++ item.mark a ∷ x) ≡ closing ∷ (v ++ item.mark b ∷ y) = e in cc
same_cut (closing ∷ u) (item.mark t ∷ v) a b x y e p = let no : closing ∷ (u ++ item.mark a ∷ x) ≡ item.mark t ∷ (v ++ item.mark b ∷ y) = e in cc
same_cut (closing ∷ u) (closing ∷ v) a b x y e p =
    let whole : closing ∷ (u ++ item.mark a ∷ x) ≡ closing ∷ (v ++ item.mark b ∷ y) = e in
    let rest : u ++ item.mark a ∷ x ≡ v ++ item.mark b ∷ y = cc in
    same_cut u v a b x y rest p

pub too_deep_at : (marks : List Mark) (m : Mark) (behind : List (Option Mark)) → Stops edison 64 start (to_end marks) too_deep (Some m ∷ behind)
    → (before : List Mark) × (to_end marks ≡ somes before ++ Some m ∷ behind) × IsTooDeepAt marks before m
too_deep_at marks m behind stops =
    let v = first_fault 64 (to_end marks) too_deep (Some m ∷ behind) stops in
    let b = before_place v.before marks (Some m) behind v.cut in
    let goes = v.lives.4 in
    let same_head : Some m ∷ behind ≡ goes.0 ∷ goes.1 = goes.3 in
    let one : goes.0 ≡ Some m = cc in
    let text : plain v.lives.2 ≡ v.before ++ Some m ∷ goes.2 = v.lives.3 ∙ ap (λ more. v.before ++ more) (goes.4 ∙ ap (λ o. o ∷ goes.2) one) in
    let deep = v.blocks (Some m) behind goes.2 v.lives.0 v.lives.2 refl text v.lives.5 in
    let cut = v.cut ∙ ap (λ u. u ++ Some m ∷ behind) b.1 in (
      b.0,
      cut,
      record {
        position = (behind, cut);
        begins = begins_of (somes b.0 ++ Some m ∷ []) goes.2 v.lives.0 v.lives.2
            (text ∙ ap (λ u. u ++ Some m ∷ goes.2) b.1 ∙ sym (append_assoc (somes b.0) (Some m ∷ []) goes.2)) v.lives.5;
        shallow = shallow_of b.0 (subst (λ u. Shallow edison 64 start u) b.1 v.shallow);
        opens_level = opens_in m ∙ deep.4;
        deep = λ level l.
            let p = placed b.0 m level l in
            let all = p.first ++ item.mark (Some m) ∷ p.last in
            let t = v.blocks (Some m) behind (plain p.last) p.n all refl
            (plain_front p.first p.last (Some m) ∙ ap (λ u. u ++ Some m ∷ plain p.last) (p.spelled ∙ sym b.1)) p.derived in
            let same : p.last ≡ t.1 = same_cut p.first t.0 (Some m) (Some m) p.last t.1 t.2 (p.spelled ∙ sym b.1 ∙ sym t.3) in
            subst (λ k. 64 < k) (sym (p.ends ∙ ap (ends_in edison) same)) t.5;
      },
    )

small_with : (k : ℕ) (b : Bool) → k ≤ 64 → (b ≡ true → suc k ≤ 64) → (if b then suc k else k) ≤ 64
small_with k true h f = f refl
small_with k false h f = h

small_end : (k a : ℕ) → k ≤ 64 → a ≤ 64 → max k a ≤ 64
small_end k a h f = grind (arith, h, f)

less_small : (k : ℕ) → k ≤ 64 → one_less k ≤ 64
less_small zero h = h
less_small (suc k) h = omega (arith, h)

-- where no symbol opens more than 64 levels, no more are open at once
greatest_small : (es : List Element) (k : ℕ) → k ≤ 64
    → ((before : List Element) (s : Spelled) (after : List Element) → es ≡ before ++ mark s ∷ after → opens s.symbol ≡ true
    → with_symbol (level_behind k before) s.symbol ≤ 64) → greatest_level k es ≤ 64
greatest_small [] k small all = small
greatest_small (mark s ∷ es) k small all =
    greatest_small es (with_symbol k s.symbol) (small_with k (opens s.symbol) small (λ o. subst (λ b. (if b then suc k else k) ≤ 64) o (all [] s es refl o)))
    (λ before c after e o. all (mark s ∷ before) c after (ap (λ l. mark s ∷ l) e) o)
greatest_small (level_end ∷ es) k small all =
    small_end k (greatest_level (one_less k) es) small
    (greatest_small es (one_less k) (less_small k small) (λ before c after e o. all (level_end ∷ before) c after (ap (λ l. level_end ∷ l) e) o))

shallow_program : (tree : Program) (marks : List Mark) → Spells tree marks → AreShallow marks → most_levels tree ≤ 64
shallow_program tree marks spells h = greatest_small (elements tree) 0 (omega arith) (λ before s after e o.
    let p = parted before s after marks (subst (λ es. StandAsMarks (marks_among es) marks) e spells) in
    subst (λ k. k ≤ 64) (level_with before 0 s)
    (h p.front p.behind p.m (level_behind 0 (before ++ mark s ∷ [])) p.cut (ap opens p.stands.0 ∙ o) (tree, before, s, after, e, p.stand, p.stands, refl)))

pub whole_tree : (marks : List Mark) (tree : Program) → Spells tree marks → Stops edison 64 start (to_end marks) complete [] → IsTheTree marks tree
whole_tree marks tree spells stops =
    let v = first_fault 64 (to_end marks) complete [] stops in
    record {
      spells = spells;
      shallow = shallow_program tree marks spells (shallow_all marks v.before (sym v.cut) v.shallow);
      one = λ other h. same_program other tree marks h spells;
    } where
      split_somes : (marks front behind : List Mark) (m : Mark) → marks ≡ front ++ m ∷ behind → (rest : List (Option Mark))
          × (to_end marks ≡ somes front ++ Some m ∷ rest)
      split_somes marks [] behind m e = (to_end behind, ap to_end e)
      split_somes [] (a ∷ front) behind m e = cc
      split_somes (c ∷ marks) (a ∷ front) behind m e =
          let same : c ≡ a = cc in
          let rest : marks ≡ front ++ m ∷ behind = cc in
          let more = split_somes marks front behind m rest in
          (more.0, ap (λ l. Some c ∷ l) more.1 ∙ ap (λ a. Some a ∷ (somes front ++ Some m ∷ more.0)) same)

      shallow_all : (marks : List Mark) (before : List (Option Mark)) → before ++ [] ≡ to_end marks → Shallow edison 64 start before → AreShallow marks
      shallow_all marks before e h front behind m level cut opens_m l = at_most 64 level (λ deep.
          let p = placed front m level l in
          let s = split_somes marks front behind m cut in
          h (somes front) s.0 (Some m) p.n (p.first ++ item.mark (Some m) ∷ p.last) (sym (append_nil before) ∙ e ∙ s.1) p.derived
          (p.first, p.last, refl, p.spelled, sym (opens_in m) ∙ opens_m, subst (λ k. 64 < k) p.ends deep)) where
            append_nil : (x : List (Option Mark)) → x ++ [] ≡ x
            append_nil [] = refl
            append_nil (a ∷ x) = ap (λ x. a ∷ x) (append_nil x)
