-- What the texts lend, block by block, is what the definition calls the targets.
use Rattle.std.proofs.Common.{◌≡◌, ℕ, zero, suc, ◌+◌, ◌<◌, ◌^◌, ◌⊎◌, inl, inr, List, [], ◌∷◌, length}
use Rattle.std.proofs.Common.{sym, subst, ap, ◌∙◌, arith}
use Rattle.std.specs.Prelude.{Contains}
use Rattle.std.specs.Global.{Vec}
use Rattle.edi_unit.specs.Need.{outer}
use Rattle.edi_unit.specs.Tree.{ProgramUnit}
use Rattle.edi_disjoint.specs.declared.mentions.Mention.{Mention}
use Rattle.edi_disjoint.specs.declared.mentions.Mention.TheVariants as mention
use Rattle.edi_disjoint.specs.Footprints.{Variable, variable_at, IsTarget}
use Rattle.edi_disjoint.specs.Found.{Lists, AreTexts}
use Rattle.edi_disjoint.specs.Apart.{text_at}
use Rattle.edi_disjoint.specs.Apart.{with_view, with_lent, with_all_lent, next_block, all_lent}
use Rattle.edi_disjoint.proofs.Contained.{contains_either, contains_first, contains_later, contains_none}
use Rattle.edi_disjoint.proofs.Reaching.{text_is}
use Rattle.edi_disjoint.proofs.Variables.{lists_with, lists_as}

module _ (unit : ProgramUnit) where
  abbrev LentAs : ℕ → Mention → Variable → Type 0
  LentAs n m x = (levels : ℕ) × (m ≡ mention.Lends levels x.number) × (outer unit.blocks n levels ≡ x.home)

  abbrev LentIn : ℕ → List Mention → Variable → Type 0
  LentIn n ms x = (levels : ℕ) × Contains ms (mention.Lends levels x.number) × (outer unit.blocks n levels ≡ x.home)

  abbrev AllLent : ℕ → List (Vec Mention) → Variable → Type 0
  AllLent n ts x = (j : ℕ) × (levels : ℕ) × Contains (text_at ts j) (mention.Lends levels x.number) × (outer unit.blocks (n + j) levels ≡ x.home)

  lends_same : (l k i j : ℕ) → mention.Lends l k ≡ mention.Lends i j → (l ≡ i) × (k ≡ j)
  lends_same l k i j e = (first e, second e)
    where
      first : mention.Lends l k ≡ mention.Lends i j → l ≡ i
      first e = cc

      second : mention.Lends l k ≡ mention.Lends i j → k ≡ j
      second e = cc

  lent_variable : (n l k : ℕ) (x : Variable) → LentAs n (mention.Lends l k) x → variable_at unit.blocks n l k ≡ x
  lent_variable n l k x h =
      let same : (l ≡ h.0) × (k ≡ x.number) = lends_same l k h.0 x.number h.1 in
      ap (λ (i : ℕ). record { home = outer unit.blocks n i; number = k }) same.0 ∙ ap (λ (i : ℕ). record { home = i; number = k }) h.2
      ∙ ap (λ (i : ℕ). record { home = x.home; number = i }) same.1

  lent_one : (xs : List Variable) (P : Variable → Type 0) (n : ℕ) (m : Mention) → Lists xs P → Lists (with_lent unit.blocks n xs m) (λ x. P x ⊎ LentAs n m x)
  lent_one xs P n (mention.Lends l k) h =
      lists_as (with_view xs (variable_at unit.blocks n l k))
      (λ x y. elim y [ inl o ↦ inl o | inr q ↦ inr (l, ap (λ z. mention.Lends l z.number) q, ap (λ z. z.home) q) ])
      (λ x y. elim y [ inl o ↦ inl o | inr e ↦ inr (lent_variable n l k x e) ])
      (lists_with xs (variable_at unit.blocks n l k) P h)
  lent_one xs P n (mention.Reads l k) h = lists_as xs (λ x y. inl y) (λ x y. elim y [ inl o ↦ o | inr e ↦ absurd (none e.0 x.number e.1) ]) h
    where
      none : (i j : ℕ) → mention.Reads l k ≡ mention.Lends i j → ⊥
      none i j e = cc
  lent_one xs P n (mention.Assigns l k) h = lists_as xs (λ x y. inl y) (λ x y. elim y [ inl o ↦ o | inr e ↦ absurd (none e.0 x.number e.1) ]) h
    where
      none : (i j : ℕ) → mention.Assigns l k ≡ mention.Lends i j → ⊥
      none i j e = cc
  lent_one xs P n (mention.Calls c) h = lists_as xs (λ x y. inl y) (λ x y. elim y [ inl o ↦ o | inr e ↦ absurd (none e.0 x.number e.1) ]) h
    where
      none : (i j : ℕ) → mention.Calls c ≡ mention.Lends i j → ⊥
      none i j e = cc
  lent_one xs P n (mention.Passes c) h = lists_as xs (λ x y. inl y) (λ x y. elim y [ inl o ↦ o | inr e ↦ absurd (none e.0 x.number e.1) ]) h
    where
      none : (i j : ℕ) → mention.Passes c ≡ mention.Lends i j → ⊥
      none i j e = cc

  lent_text : (xs : List Variable) (P : Variable → Type 0) (n : ℕ) (ms : List Mention) → Lists xs P → Lists (with_all_lent unit.blocks n xs ms) (λ x. P x ⊎ LentIn n ms x)
  lent_text xs P n [] h = lists_as xs (λ x y. inl y) (λ x y. elim y [ inl o ↦ o | inr e ↦ absurd (contains_none _ e.1) ]) h
  lent_text xs P n (m ∷ ms) h =
      lists_as (with_all_lent unit.blocks n (with_lent unit.blocks n xs m) ms)
      (λ x y. elim y [
        | inl o ↦ elim o [ inl i ↦ inl i | inr e ↦ inr (e.0, subst (Contains (m ∷ ms)) e.1 (contains_first m ms), e.2) ]
        | inr e ↦ inr (e.0, contains_later m _ ms e.1, e.2)
      ])
      (λ x y. elim y [
        | inl i ↦ inl (inl i)
        | inr e ↦ elim (contains_either m _ ms e.1) [ inl q ↦ inl (inr (e.0, q, e.2)) | inr c ↦ inr (e.0, c, e.2) ]
      ])
      (lent_text (with_lent unit.blocks n xs m) (λ x. P x ⊎ LentAs n m x) n ms (lent_one xs P n m h))

  lent_texts : (xs : List Variable) (P : Variable → Type 0) (n : ℕ) (ts : List (Vec Mention)) → n + length ts < 2 ^ 32 → Lists xs P →
      Lists (all_lent unit.blocks n xs ts) (λ x. P x ⊎ AllLent n ts x)
  lent_texts xs P n [] few h = lists_as xs (λ x y. inl y) (λ x y. elim y [ inl o ↦ o | inr e ↦ absurd (contains_none _ e.2) ]) h
  lent_texts xs P n (t ∷ ts) few h =
      let next : suc n ≡ next_block n = omega (arith, few) in
      subst (λ k. Lists (all_lent unit.blocks k (with_all_lent unit.blocks n xs t.items) ts) (λ x. P x ⊎ AllLent n (t ∷ ts) x)) next
      (lists_as (all_lent unit.blocks (suc n) (with_all_lent unit.blocks n xs t.items) ts)
      (λ x y. elim y [
        | inl o ↦ elim o [ inl i ↦ inl i | inr e ↦ inr (0, e.0, e.1, ap (λ k. outer unit.blocks k e.0) (at_first n) ∙ e.2) ]
        | inr e ↦ inr (suc e.0, e.1, e.2, ap (λ k. outer unit.blocks k e.1) (at_later n e.0) ∙ e.3)
      ])
      (λ x y. elim y [ inl i ↦ inl (inl i) | inr e ↦ split x e.0 e.1 e.2 e.3 ])
      (lent_texts (with_all_lent unit.blocks n xs t.items) (λ x. P x ⊎ LentIn n t.items x) (suc n) ts (omega (arith, few)) (lent_text xs P n t.items h)))
    where
      at_first : (n : ℕ) → n + 0 ≡ n
      at_first n = omega arith

      at_later : (n j : ℕ) → n + suc j ≡ suc n + j
      at_later n j = omega arith

      split : (x : Variable) (j levels : ℕ) → Contains (text_at (t ∷ ts) j) (mention.Lends levels x.number) → outer unit.blocks (n + j) levels ≡ x.home →
          (P x ⊎ LentIn n t.items x) ⊎ AllLent (suc n) ts x
      split x zero levels c e = inl (inr (levels, c, ap (λ k. outer unit.blocks k levels) (sym (at_first n)) ∙ e))
      split x (suc j) levels c e = inr (j, levels, c, ap (λ k. outer unit.blocks k levels) (sym (at_later n j)) ∙ e)

-- what the texts lend, from block 0 on, as long as the numbers of blocks are words
pub lent_targets : (unit : ProgramUnit) (texts : List (Vec Mention)) → AreTexts unit texts → length texts < 2 ^ 32 → Lists (all_lent unit.blocks 0 [] texts) (IsTarget unit)
lent_targets unit texts t few =
    lists_as (all_lent unit.blocks 0 [] texts) (λ x y. elim y [ inl o ↦ absurd o | inr e ↦ to x e.0 e.1 e.2 e.3 ]) (λ x y. inr (from x y))
    (lent_texts unit [] (λ x. ⊥) 0 texts (omega (arith, few)) (λ x h. absurd (contains_none x h), λ x h. absurd h))
  where
    zero_plus : (j : ℕ) → 0 + j ≡ j
    zero_plus j = omega arith

    to : (x : Variable) (j levels : ℕ) → Contains (text_at texts j) (mention.Lends levels x.number) → outer unit.blocks (0 + j) levels ≡ x.home → IsTarget unit x
    to x j levels c e = record {
      block = j;
      levels = levels;
      stands = subst (λ ms. Contains ms (mention.Lends levels x.number)) (text_is unit texts t j) c;
      is = ap (λ k. outer unit.blocks k levels) (sym (zero_plus j)) ∙ e;
    }

    from : (x : Variable) → IsTarget unit x → AllLent unit 0 texts x
    from x h = (
      h.block,
      h.levels,
      subst (λ ms. Contains ms (mention.Lends h.levels x.number)) (sym (text_is unit texts t h.block)) h.stands,
      ap (λ k. outer unit.blocks k h.levels) (zero_plus h.block) ∙ h.is,
    )
