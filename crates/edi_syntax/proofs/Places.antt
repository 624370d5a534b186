-- Places in marks, and the levels that are open there.
use Rattle.std.proofs.Common.{◌≡◌, ℕ, suc, ◌≤◌, List, [], ◌∷◌, ◌++◌, Option, Some, Bool, true, false, refl, sym, ap, ◌∙◌, subst, arith, if◌then◌else◌}
use Rattle.std.proofs.Common.{append_assoc, ◌⊎◌, inl, inr}
use Rattle.edi_lex.specs.declared.symbol.Mark.{Mark}
use Rattle.edi_tree.specs.Tree.{Program}
use Rattle.edi_tree.specs.Stands.{Spelled, StandsAsMark, StandAsMarks}
use Rattle.edi_tree.specs.Spells.{Spells, to_end, ProgramBegins}
use Rattle.edi_tree.specs.Levels.{Element, mark, level_end, marks_among, elements, opens, with_symbol, one_less, level_behind, greatest_level, most_levels, Level}
use Rattle.edi_grammar.specs.derivation.Faults.{somes}

pub somes_both : (u v : List Mark) → somes (u ++ v) ≡ somes u ++ somes v
somes_both [] v = refl
somes_both (a ∷ u) v = ap (λ l. Some a ∷ l) (somes_both u v)

-- what begins with what begins a program begins one
pub begins_front : (u v : List (Option Mark)) → ProgramBegins (u ++ v) → ProgramBegins u
begins_front u v b = (b.0, b.1, v ++ b.2, b.3, b.4 ∙ append_assoc u v b.2)

-- the place of the other is behind the mark at this place
abbrev pub IsBehind : List Mark → Option Mark → List Mark → Type 0
IsBehind before here other = (m : Mark) × (more : List Mark) × (here ≡ Some m) × (other ≡ before ++ m ∷ more)

-- two places are one, or one is behind the other
pub apart : (u v : List Mark) (a b : Option Mark) (x y : List (Option Mark)) → somes u ++ a ∷ x ≡ somes v ++ b ∷ y → ((u ≡ v) × (a ≡ b))
    ⊎ (IsBehind u a v ⊎ IsBehind v b u)
apart [] [] a b x y e = inl (refl, cc)
apart [] (c ∷ v) a b x y e = let same : a ≡ Some c = cc in inr (inl (c, v, same, refl))
apart (c ∷ u) [] a b x y e = let same : b ≡ Some c = cc in inr (inr (c, u, same, refl))
apart (c ∷ u) (d ∷ v) a b x y e =
    let heads : Some c ∷ (somes u ++ a ∷ x) ≡ Some d ∷ (somes v ++ b ∷ y) = e in
    let same : c ≡ d = cc in
    let rest : somes u ++ a ∷ x ≡ somes v ++ b ∷ y = cc in
    further same (apart u v a b x y rest) where
      further : c ≡ d → ((u ≡ v) × (a ≡ b)) ⊎ (IsBehind u a v ⊎ IsBehind v b u) → ((c ∷ u ≡ d ∷ v) × (a ≡ b))
          ⊎ (IsBehind (c ∷ u) a (d ∷ v) ⊎ IsBehind (d ∷ v) b (c ∷ u))
      further same (inl h) = inl (ap (λ l. c ∷ l) h.0 ∙ ap (λ m. m ∷ v) same, h.1)
      further same (inr (inl h)) = inr (inl (h.0, h.1, h.2, ap (λ l. d ∷ l) h.3 ∙ ap (λ m. m ∷ (u ++ h.0 ∷ h.1)) (sym same)))
      further same (inr (inr h)) = inr (inr (h.0, h.1, h.2, ap (λ l. c ∷ l) h.3 ∙ ap (λ m. m ∷ (v ++ h.0 ∷ h.1)) same))

-- the marks up to the place of another one begin the marks before that
pub front_begins : (before other : List Mark) (here : Option Mark) → IsBehind before here other → ProgramBegins (somes other)
    → ProgramBegins (somes before ++ here ∷ [])
front_begins before other here h b =
    let whole : somes other ≡ (somes before ++ here ∷ []) ++ somes h.1 = ap somes h.3 ∙ somes_both before (h.0 ∷ h.1)
    ∙ ap (λ o. somes before ++ o ∷ somes h.1) (sym h.2) ∙ sym (append_assoc (somes before) (here ∷ []) (somes h.1)) in
    begins_front (somes before ++ here ∷ []) (somes h.1) (subst (λ l. ProgramBegins l) whole b)

-- elements whose marks are these, cut before a mark
pub record Cut (es : List Element) (front : List Mark) (m : Mark) : Type 0 where
  pub before : List Element
  pub s : Spelled
  pub after : List Element
  pub cut : es ≡ before ++ mark s ∷ after
  pub stand : StandAsMarks (marks_among before) front
  pub stands : StandsAsMark s m

behind_end : {es : List Element} {front : List Mark} {m : Mark} → Cut es front m → Cut (level_end ∷ es) front m
behind_end c = record { before = level_end ∷ c.before; s = c.s; after = c.after; cut = ap (λ l. level_end ∷ l) c.cut; stand = c.stand; stands = c.stands }

behind_mark : {es : List Element} {front : List Mark} {m : Mark} (s : Spelled) (b : Mark) → StandsAsMark s b → Cut es front m → Cut (mark s ∷ es) (b ∷ front) m
behind_mark s b st c = record {
  before = mark s ∷ c.before;
  s = c.s;
  after = c.after;
  cut = ap (λ l. mark s ∷ l) c.cut;
  stand = (st, c.stand);
  stands = c.stands;
}

pub cut_of : (es : List Element) (marks front : List Mark) (m : Mark) (rest : List (Option Mark)) → StandAsMarks (marks_among es) marks
    → to_end marks ≡ somes front ++ Some m ∷ rest → Cut es front m
cut_of [] [] [] m rest h e = cc
cut_of [] [] (b ∷ front) m rest h e = cc
cut_of [] (c ∷ marks) front m rest h e = absurd h
cut_of (level_end ∷ es) marks front m rest h e = behind_end (cut_of es marks front m rest h e)
cut_of (mark s ∷ es) [] front m rest h e = absurd h
cut_of (mark s ∷ es) (c ∷ marks) [] m rest h e = let same : c ≡ m = cc in
    record { before = []; s = s; after = es; cut = refl; stand = tt; stands = subst (λ m. StandsAsMark s m) same h.0 }
cut_of (mark s ∷ es) (c ∷ marks) (b ∷ front) m rest h e =
    let heads : Some c ∷ to_end marks ≡ Some b ∷ (somes front ++ Some m ∷ rest) = e in
    let same : c ≡ b = cc in
    let less : to_end marks ≡ somes front ++ Some m ∷ rest = cc in
    behind_mark s b (subst (λ m. StandsAsMark s m) same h.0) (cut_of es marks front m rest h.1 less)

-- a level in this tree
abbrev pub LevelIn : Program → List Mark → Mark → Type 0
LevelIn tree front m = (level : ℕ) × Level front m level × (level ≤ most_levels tree)

least : (es : List Element) (level : ℕ) → level ≤ greatest_level level es
least [] level = omega arith
least (mark s ∷ es) level = more (opens s.symbol) (least es (with_symbol level s.symbol)) where
  more : (b : Bool) → (if b then suc level else level) ≤ greatest_level (with_symbol level s.symbol) es → level ≤ greatest_level (with_symbol level s.symbol) es
  more true h = omega (arith, h)
  more false h = h
least (level_end ∷ es) level = omega arith

at_most_greatest : (before : List Element) (s : Spelled) (after : List Element) (k : ℕ) → level_behind k (before ++ mark s ∷ []) ≤ greatest_level k
    (before ++ mark s ∷ after)
at_most_greatest [] s after k = least after (with_symbol k s.symbol)
at_most_greatest (mark c ∷ before) s after k = at_most_greatest before s after (with_symbol k c.symbol)
at_most_greatest (level_end ∷ before) s after k = omega (arith, at_most_greatest before s after (one_less k))

-- a program that spells marks has a level at each of them
pub level_in : (tree : Program) (marks front : List Mark) (m : Mark) (rest : List (Option Mark)) → Spells tree marks → to_end marks ≡ somes front ++ Some m
    ∷ rest → LevelIn tree front m
level_in tree marks front m rest h e =
    let c = cut_of (elements tree) marks front m rest h e in
    let small : level_behind 0 (c.before ++ mark c.s ∷ []) ≤ most_levels tree = subst (λ k. level_behind 0 (c.before ++ mark c.s ∷ []) ≤ k)
    (ap (greatest_level 0) (sym c.cut)) (at_most_greatest c.before c.s c.after 0) in
    (level_behind 0 (c.before ++ mark c.s ∷ []), (tree, c.before, c.s, c.after, c.cut, c.stand, c.stands, refl), small)

-- what begins a program has a level at its last mark
pub level_of : (front : List Mark) (m : Mark) → ProgramBegins (somes front ++ Some m ∷ []) → (level : ℕ) × Level front m level
level_of front m b = let l = level_in b.0 b.1 front m b.2 b.3 (b.4 ∙ append_assoc (somes front) (Some m ∷ []) b.2) in (l.0, l.1)
