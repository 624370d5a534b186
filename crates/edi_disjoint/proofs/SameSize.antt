-- Two tables with the same values by name, in which each name stands once, are as long.
use Rattle.std.proofs.Common.{◌≡◌, suc, ◌⊎◌, inl, inr, Bool, true, false, ◌||◌, if◌then◌else◌, [], ◌∷◌, length, Some, None, refl, sym, ap, ◌∙◌}
use Rattle.edi_calls.specs.Names.{Name, Table, same, find, without, names}
use Rattle.edi_calls.specs.Ready.{has}
use Rattle.edi_calls.proofs.Names.{no_some, Once}
use Rattle.edi_meaning.proofs.Parents.{once-without}
use Rattle.edi_calls.proofs.Tables.{same-refl, same-equal, same-or-other, find-without-same, find-without-other}

or_false : (a b : Bool) → (a || b) ≡ false → (a ≡ false) × (b ≡ false)
or_false true b e = absurd (cc)
or_false false b e = (refl, e)

module _ {A : Type 0} where
  none_of : (t : Table A) (r : Name) → has (names t) r ≡ false → find t r ≡ None
  none_of [] r h = refl
  none_of (x ∷ t) r h =
      let both : (same r x.0 ≡ false) × (has (names t) r ≡ false) = or_false (same r x.0) (has (names t) r) h in
      ap (λ b. if b then Some x.1 else find t r) both.0 ∙ none_of t r both.1

  without_none : (t : Table A) (r : Name) → has (names t) r ≡ false → without t r ≡ t
  without_none [] r h = refl
  without_none (x ∷ t) r h =
      let both : (same r x.0 ≡ false) × (has (names t) r ≡ false) = or_false (same r x.0) (has (names t) r) h in
      ap (λ b. if b then without t r else x ∷ without t r) both.0 ∙ ap (λ l. x ∷ l) (without_none t r both.1)

  one_less : (t : Table A) (r : Name) (a : A) → find t r ≡ Some a → Once (names t) → length t ≡ suc (length (without t r))
  one_less [] r a e o = absurd (cc)
  one_less (x ∷ t) r a e o = go (same r x.0) refl e (λ f. one_less t r a f o.1)
    where
      go : (b : Bool) → same r x.0 ≡ b → (if b then Some x.1 else find t r) ≡ Some a → (find t r ≡ Some a → length t ≡ suc (length (without t r)))
          → suc (length t) ≡ suc (length (if b then without t r else x ∷ without t r))
      go true k e more = ap (λ l. suc (length l)) (sym (without_none t r (ap (has (names t)) (same-equal r x.0 k) ∙ o.0)))
      go false k e more = ap suc (more e)

  pub same_size : (t u : Table A) → Once (names t) → Once (names u) → ((r : Name) → find t r ≡ find u r) → length t ≡ length u
  same_size [] [] o k h = refl
  same_size [] (x ∷ u) o k h =
      let found : find (x ∷ u) x.0 ≡ Some x.1 = ap (λ b. if b then Some x.1 else find u x.0) (same-refl x.0) in
      absurd (no_some (find (x ∷ u) x.0) (sym (h x.0)) found)
  same_size (x ∷ t) u o k h =
      let found : find u x.0 ≡ Some x.1 = sym (h x.0) ∙ ap (λ b. if b then Some x.1 else find t x.0) (same-refl x.0) in
      ap suc (same_size t (without u x.0) o.1 (once-without u x.0 k) (λ r. rest r (same-or-other r x.0))) ∙ sym (one_less u x.0 x.1 found k)
    where
      rest : (r : Name) → (r ≡ x.0) ⊎ (same r x.0 ≡ false) → find t r ≡ find (without u x.0) r
      rest r (inl e) = ap (find t) e ∙ none_of t x.0 o.0 ∙ sym (ap (find (without u x.0)) e ∙ find-without-same u x.0)
      rest r (inr n) = sym (ap (λ b. if b then Some x.1 else find t r) n) ∙ h r ∙ sym (find-without-other u x.0 r n)
