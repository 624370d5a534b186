-- What a drive may have between two flushes: for callers.
use Rattle.std.proofs.Common.{◌≡◌, ◌⊎◌, ℕ, ◌<◌, inl, inr, Bool, true, false, List, length, refl, sym, ◌∙◌, ap, subst, arith, set, length-set}
use Rattle.std.specs.Prelude.{Option, Some, None, slice_get, slice_set, nat_eq}
use Rattle.std.specs.Str.{bytes_eq}
use Rattle.std.proofs.lemmas.Bool.{ne_eqb, cases_eq, cases_lt, and_parts, false≢true}
use Rattle.std.proofs.lemmas.Slice.Eq.{bytes_eq-Decides}
use Rattle.std.proofs.lemmas.Option.{slice_get_cases, slice_get_within, slice_get_past}
use Rattle.edi_disk.specs.declared.disk.Disk.{Disk}
use Rattle.edi_disk.specs.declared.cache.Slot.{Slot}
use Rattle.edi_disk.specs.Shown.{shown, shown_by, drive_of}
use Rattle.edi_disk.specs.Since.{Between, KeptBy, Kept, nothing, only}
use Rattle.edi_disk.proofs.Gets.{get-set_same, get-set_other, same_gets}

pub between_itself : (base : List (List ℕ)) (was_put : ℕ → List ℕ → Bool) → Between base was_put base
between_itself base was_put = record { as_many = refl; each = λ n block e. inl e }

-- a block more is put, or one that may stand there is written
pub between_set : (base : List (List ℕ)) (was_put : ℕ → List ℕ → Bool) (blocks : List (List ℕ)) (n : ℕ) (bytes : List ℕ) → Between base was_put blocks
    → n < length blocks
    → (slice_get base n ≡ Some bytes) ⊎ (was_put n bytes ≡ true) → Between base was_put (slice_set blocks n bytes)
between_set base was_put blocks n bytes h lt may = record {
  as_many = length-set blocks n bytes ∙ h.as_many;
  each = λ k block e.
      elim (cases_eq k n) [
        | inl same ↦
            let here : Some bytes ≡ Some block = sym (get-set_same blocks n bytes lt) ∙ subst (λ (m : ℕ). slice_get (set blocks n bytes) m ≡ Some block) same
            e in
            let is : bytes ≡ block = cc in
            subst (λ (m : ℕ). (slice_get base m ≡ Some block) ⊎ (was_put m block ≡ true)) (sym same)
            (subst (λ (v : List ℕ). (slice_get base n ≡ Some v) ⊎ (was_put n v ≡ true)) is may)
        | inr ne ↦ h.each k block (sym (get-set_other blocks n k bytes (λ e. ne (sym e))) ∙ e)
      ];
}

-- no slot is past the other list's end
as_far : (base : List (List ℕ)) (was_put : ℕ → List ℕ → Bool) (blocks : List (List ℕ)) (n : ℕ) → Between base was_put blocks → slice_get blocks n ≡ None
    → slice_get base n ≡ None
as_far base was_put blocks n h none =
    elim (cases_lt n (length blocks)) [
      | inl lt ↦
          let some = (slice_get_cases blocks n).1 in
          elim some [
            | inl f ↦ let e : None ≡ Some f.0 = sym none ∙ f.2 in absurd (cc)
            | inr f ↦ absurd (omega arith)
          ]
      | inr le ↦ let many = h.as_many in slice_get_past base n (omega arith)
    ]

-- a block that was not put is as in base
pub between_unput : (base : List (List ℕ)) (was_put : ℕ → List ℕ → Bool) (blocks : List (List ℕ)) (n : ℕ) → Between base was_put blocks
    → ((block : List ℕ) → was_put n block ≡ false) → slice_get blocks n ≡ slice_get base n
between_unput base was_put blocks n h unput = at (slice_get blocks n) refl
  where
    at : (o : Option (List ℕ)) → slice_get blocks n ≡ o → slice_get blocks n ≡ slice_get base n
    at None e = e ∙ sym (as_far base was_put blocks n h e)
    at (Some block) e = elim (h.each n block e) [ inl is ↦ e ∙ sym is | inr put ↦ absurd (false≢true (sym (unput block) ∙ put)) ]

-- nothing was put
pub between_nothing : (base blocks : List (List ℕ)) → Between base nothing blocks → blocks ≡ base
between_nothing base blocks h = same_gets blocks base (λ k. between_unput base nothing blocks k h (λ block. refl))

-- one block was put: the blocks are as in base, or with it
pub between_only : (base blocks : List (List ℕ)) (n : ℕ) (bytes : List ℕ) → Between base (only n bytes) blocks → (blocks ≡ base)
    ⊎ (blocks ≡ slice_set base n bytes)
between_only base blocks n bytes h = at (slice_get blocks n) refl
  where
    elsewhere : (k : ℕ) → (k ≡ n → ⊥) → slice_get blocks k ≡ slice_get base k
    elsewhere k ne = between_unput base (only n bytes) blocks k h (λ block. rw (ne_eqb n k (λ e. ne (sym e))) refl)

    old : slice_get blocks n ≡ slice_get base n → blocks ≡ base
    old here = same_gets blocks base (λ k. elim (cases_eq k n) [ inl same ↦ rw same here | inr ne ↦ elsewhere k ne ])

    new : slice_get blocks n ≡ Some bytes → blocks ≡ slice_set base n bytes
    new here =
        let lt = slice_get_within blocks n bytes here in
        let many = h.as_many in
        same_gets blocks (set base n bytes) (λ k.
        elim (cases_eq k n) [
          | inl same ↦ rw same (here ∙ sym (get-set_same base n bytes (omega arith)))
          | inr ne ↦ elsewhere k ne ∙ sym (get-set_other base n k bytes (λ e. ne (sym e)))
        ])

    at : (o : Option (List ℕ)) → slice_get blocks n ≡ o → (blocks ≡ base) ⊎ (blocks ≡ slice_set base n bytes)
    at None e = inl (old (e ∙ sym (as_far base (only n bytes) blocks n h e)))
    at (Some block) e =
        elim (h.each n block e) [
          | inl is ↦ inl (old (e ∙ sym is))
          | inr put ↦
              let both = and_parts (nat_eq n n) (bytes_eq bytes block) put in
              let is : bytes ≡ block = (bytes_eq-Decides bytes block).0 both.1 in
              inr (new (e ∙ ap (λ (v : List ℕ). Some v) (sym is)))
        ]

-- where the drive has what is shown, nothing was put since these blocks
pub kept_by_settled : {D : Type 0} (contents : D → Option (List (List ℕ))) (base : List (List ℕ)) (was_put : ℕ → List ℕ → Bool) (drive : D) (slots : List Slot)
    → contents drive ≡ Some base → shown_by contents drive slots ≡ Some base → KeptBy contents base was_put drive slots
kept_by_settled contents base was_put drive slots on_drive on_disk = record {
  on_drive = λ blocks e. let same : blocks ≡ base = cc in rw same (between_itself base was_put);
  on_disk = λ blocks e. let same : blocks ≡ base = cc in rw same (between_itself base was_put);
}

pub kept_settled : {D : Type 0} (contents : D → Option (List (List ℕ))) (base : List (List ℕ)) (was_put : ℕ → List ℕ → Bool) (disk : Disk D)
    → contents (drive_of disk) ≡ Some base → shown contents disk ≡ Some base → Kept contents base was_put disk
kept_settled contents base was_put disk on_drive on_disk = kept_by_settled contents base was_put (drive_of disk) disk.cache on_drive on_disk
