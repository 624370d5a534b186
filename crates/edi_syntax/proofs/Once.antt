-- Marks have one syntax fault at most, and then no program.
use Rattle.std.proofs.Common.{◌≡◌, ℕ, ◌≤◌, List, [], ◌∷◌, ◌++◌, length, Option, Some, Result, Err, Bool, true, false, refl, sym, ap, ◌∙◌, subst, arith}
use Rattle.std.proofs.Common.{append_assoc, ◌⊎◌, inl, inr}
use Rattle.edi_lex.specs.declared.symbol.Mark.{Mark}
use Rattle.edi_tree.specs.Tree.{Program}
use Rattle.edi_tree.specs.Spells.{Spells, ProgramBegins}
use Rattle.edi_tree.specs.Levels.{most_levels}
use Rattle.edi_grammar.specs.derivation.Faults.{somes, AreShallow, IsMisplaced, IsTooDeepAt}
use Rattle.edi_syntax.specs.Refusal.{line_of, is_outside, IsWrong, IsSyntaxFault, Refuses}
use Rattle.edi_syntax.specs.declared.fault.SyntaxFault.{SyntaxFault}
use Rattle.edi_syntax.specs.declared.fault.SyntaxFault.TheVariants as fault
use Rattle.edi_syntax.proofs.Places.{IsBehind, apart, front_begins, level_in, level_of}

-- two misplaced ones are one
same_misplaced : (marks u v : List Mark) (a b : Option Mark) → IsMisplaced marks u a → IsMisplaced marks v b → (u ≡ v) × (a ≡ b)
same_misplaced marks u v a b p q = by (apart u v a b p.position.0 q.position.0 (sym p.position.1 ∙ q.position.1)) where
  by : ((u ≡ v) × (a ≡ b)) ⊎ (IsBehind u a v ⊎ IsBehind v b u) → (u ≡ v) × (a ≡ b)
  by (inl h) = h
  by (inr (inl h)) = absurd (p.fails (front_begins u v a h q.begins))
  by (inr (inr h)) = absurd (q.fails (front_begins v u b h p.begins))

-- what is too deep is not too deep before another place that is so
not_before : (u v : List Mark) (m : Mark) (marks : List Mark) → IsTooDeepAt marks u m → AreShallow v → IsBehind u (Some m) v → ⊥
not_before u v m marks p shallow h =
    let same : h.0 ≡ m = cc in
    let l = level_of u m p.begins in
    let small : l.0 ≤ 64 = shallow u h.1 m l.0 (h.3 ∙ ap (λ m. u ++ m ∷ h.1) same) p.opens_level l.1 in
    omega (arith, small, p.deep l.0 l.1)

same_deep : (marks u v : List Mark) (m n : Mark) → IsTooDeepAt marks u m → IsTooDeepAt marks v n → (u ≡ v) × (m ≡ n)
same_deep marks u v m n p q = by (apart u v (Some m) (Some n) p.position.0 q.position.0 (sym p.position.1 ∙ q.position.1)) where
  by : ((u ≡ v) × (Some m ≡ Some n)) ⊎ (IsBehind u (Some m) v ⊎ IsBehind v (Some n) u) → (u ≡ v) × (m ≡ n)
  by (inl h) = let same : Some m ≡ Some n = h.1 in (h.0, cc)
  by (inr (inl h)) = absurd (not_before u v m marks p q.shallow h)
  by (inr (inr h)) = absurd (not_before v u n marks q p.shallow h)

-- nothing is misplaced where something is too deep
not_both : (marks u v : List Mark) (a : Option Mark) (m : Mark) → IsMisplaced marks u a → IsTooDeepAt marks v m → ⊥
not_both marks u v a m p q = by (apart u v a (Some m) p.position.0 q.position.0 (sym p.position.1 ∙ q.position.1)) where
  by : ((u ≡ v) × (a ≡ Some m)) ⊎ (IsBehind u a v ⊎ IsBehind v (Some m) u) → ⊥
  by (inl h) = p.fails (subst (λ o. ProgramBegins (somes u ++ o ∷ [])) (sym h.1) (subst (λ l. ProgramBegins (somes l ++ Some m ∷ [])) (sym h.0) q.begins))
  by (inr (inl h)) = p.fails (front_begins u v a h (begins_less q.begins)) where
    begins_less : ProgramBegins (somes v ++ Some m ∷ []) → ProgramBegins (somes v)
    begins_less b = (b.0, b.1, Some m ∷ b.2, b.3, b.4 ∙ append_assoc (somes v) (Some m ∷ []) b.2)
  by (inr (inr h)) = not_before v u m marks q p.shallow h

same_wrong : (marks : List Mark) (last l i k j : ℕ) (x y : Bool) → IsWrong x marks last l i → IsWrong y marks last k j → (x ≡ y) × (l ≡ k) × (i ≡ j)
same_wrong marks last l i k j x y p q =
    let s = same_misplaced marks p.before q.before p.here q.here p.misplaced q.misplaced in (
      sym p.kind ∙ ap (λ u. is_outside u p.here) s.0 ∙ ap (λ o. is_outside q.before o) s.1 ∙ q.kind,
      p.on_line ∙ ap (line_of last) s.1 ∙ sym q.on_line,
      p.at_index ∙ ap length s.0 ∙ sym q.at_index,
    )

both : {A : Type 0} (f : ℕ → ℕ → A) (l k i j : ℕ) → l ≡ k → i ≡ j → f l i ≡ f k j
both f l k i j e h = ap (λ l. f l i) e ∙ ap (λ i. f k i) h

pub same_fault : (marks : List Mark) (last : ℕ) (f g : SyntaxFault) → IsSyntaxFault marks last f → IsSyntaxFault marks last g → f ≡ g
same_fault marks last (fault.Syntax l i) (fault.Syntax k j) p q = let s = same_wrong marks last l i k j false false p q in
    both (λ l i. fault.Syntax l i) l k i j s.1 s.2
same_fault marks last (fault.Syntax l i) (fault.TooDeep k j) p q = absurd (not_both marks p.before q.before p.here q.m p.misplaced q.deep)
same_fault marks last (fault.Syntax l i) (fault.NotInProfile k j) p q = let s = same_wrong marks last l i k j false true p q in let no : false ≡ true = s.0 in
    absurd (cc)
same_fault marks last (fault.Syntax l i) fault.NoMemory p q = absurd q
same_fault marks last (fault.TooDeep l i) (fault.Syntax k j) p q = absurd (not_both marks q.before p.before q.here p.m q.misplaced p.deep)
same_fault marks last (fault.TooDeep l i) (fault.TooDeep k j) p q =
    let s = same_deep marks p.before q.before p.m q.m p.deep q.deep in
    both (λ l i. fault.TooDeep l i) l k i j (p.on_line ∙ ap (λ (m : Mark). m.line) s.1 ∙ sym q.on_line) (p.at_index ∙ ap length s.0 ∙ sym q.at_index)
same_fault marks last (fault.TooDeep l i) (fault.NotInProfile k j) p q = absurd (not_both marks q.before p.before q.here p.m q.misplaced p.deep)
same_fault marks last (fault.TooDeep l i) fault.NoMemory p q = absurd q
same_fault marks last (fault.NotInProfile l i) (fault.Syntax k j) p q = let s = same_wrong marks last l i k j true false p q in let no : true ≡ false = s.0 in
    absurd (cc)
same_fault marks last (fault.NotInProfile l i) (fault.TooDeep k j) p q = absurd (not_both marks p.before q.before p.here q.m p.misplaced q.deep)
same_fault marks last (fault.NotInProfile l i) (fault.NotInProfile k j) p q = let s = same_wrong marks last l i k j true true p q in
    both (λ l i. fault.NotInProfile l i) l k i j s.1 s.2
same_fault marks last (fault.NotInProfile l i) fault.NoMemory p q = absurd q
same_fault marks last fault.NoMemory g p q = absurd p

-- marks of a program have no misplaced one
tree_not_misplaced : (marks before : List Mark) (here : Option Mark) (tree : Program) → IsMisplaced marks before here → Spells tree marks → ⊥
tree_not_misplaced marks before here tree p h = p.fails (tree, marks, p.position.0, h, p.position.1 ∙ sym (append_assoc (somes before) (here ∷ []) p.position.0))

tree_not_deep : (marks before : List Mark) (m : Mark) (tree : Program) → IsTooDeepAt marks before m → Spells tree marks → most_levels tree ≤ 64 → ⊥
tree_not_deep marks before m tree p h small =
    let l = level_in tree marks before m p.position.0 h p.position.1 in
    omega (arith, p.deep l.0 l.1, l.2, small)

pub no_tree : (marks : List Mark) (last : ℕ) (f : SyntaxFault) (tree : Program) → IsSyntaxFault marks last f → Spells tree marks → most_levels tree ≤ 64 → ⊥
no_tree marks last (fault.Syntax l i) tree p h small = tree_not_misplaced marks p.before p.here tree p.misplaced h
no_tree marks last (fault.TooDeep l i) tree p h small = tree_not_deep marks p.before p.m tree p.deep h small
no_tree marks last (fault.NotInProfile l i) tree p h small = tree_not_misplaced marks p.before p.here tree p.misplaced h
no_tree marks last fault.NoMemory tree p h small = p

-- what refuses marks that a program spells is want of memory
pub refuses_no_program : (marks : List Mark) (last : ℕ) (e : SyntaxFault) (tree : Program) → Refuses marks last e → Spells tree marks → most_levels tree ≤ 64
    → e ≡ fault.NoMemory
refuses_no_program marks last (fault.Syntax l i) tree r h small = absurd (no_tree marks last (fault.Syntax l i) tree r h small)
refuses_no_program marks last (fault.TooDeep l i) tree r h small = absurd (no_tree marks last (fault.TooDeep l i) tree r h small)
refuses_no_program marks last (fault.NotInProfile l i) tree r h small = absurd (no_tree marks last (fault.NotInProfile l i) tree r h small)
refuses_no_program marks last fault.NoMemory tree r h small = refl

abbrev pub the_err : (A : Type 0) → SyntaxFault → Result A SyntaxFault
the_err A e = Err e

-- what refuses marks is their fault, or want of memory
pub refuses_by_it : {A : Type 0} (marks : List Mark) (last : ℕ) (e f : SyntaxFault) → Refuses marks last e → IsSyntaxFault marks last f
    → (the_err A e ≡ the_err A f) ⊎ (the_err A e ≡ the_err A fault.NoMemory)
refuses_by_it {A} marks last (fault.Syntax l i) f r h = inl (ap (the_err A) (same_fault marks last (fault.Syntax l i) f r h))
refuses_by_it {A} marks last (fault.TooDeep l i) f r h = inl (ap (the_err A) (same_fault marks last (fault.TooDeep l i) f r h))
refuses_by_it {A} marks last (fault.NotInProfile l i) f r h = inl (ap (the_err A) (same_fault marks last (fault.NotInProfile l i) f r h))
refuses_by_it marks last fault.NoMemory f r h = inr refl
