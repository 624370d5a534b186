-- The blocks with the entries as a catalogue keeps them.
use Rattle.std.proofs.Common.{◌≡◌, ℕ, zero, suc, ◌+◌, ◌*◌, ◌/◌, ◌%◌, ◌<◌, ◌⊎◌, inl, inr, true, false, List, [], ◌∷◌, ◌++◌, length, set, get_or, refl, ap}
use Rattle.std.proofs.Common.{sym, subst, ◌∙◌, arith}
use Rattle.std.proofs.Math.ListN.{get_or-append}
use Rattle.std.proofs.Math.Seq.{get_or-append_seam}
use Rattle.std.proofs.lemmas.Bool.{cases_eq}
use Rattle.std.proofs.lemmas.List.{get_or-set_other, get_or-set_same, get_or_default}
use Rattle.std.proofs.lemmas.Grind.{get_or-set_at}
use Rattle.std.specs.Prelude.{Option}
use Rattle.std.specs.Option.{ForSome}
use Rattle.edi_image.specs.declared.faults.MountFault.{MountFault}
use Rattle.edi_image.specs.declared.faults.MountFault.TheVariants as fault
use Rattle.edi_image.specs.Rules.{is_in}
use Rattle.edi_image.specs.Entries.{block_at}
use Rattle.edi_image.specs.Stored.{are_data}
use Rattle.edi_image.specs.Finds.{IsFirst, is_drive_fault}
use Rattle.edi_image.proofs.ImageRules.{no_blocks}
use Rattle.edi_catalog.specs.Mounted.{AreEntries}
use Rattle.edi_catalog.specs.Writing.{patched, IsWritten}
use Rattle.edi_catalog.proofs.EntryFrames.{block_kept}
use Rattle.edi_catalog.proofs.Unchanged.{not_early}

-- ---- reading them

-- one more block
pub kept_more : (before after : List (List ℕ)) (bytes : List ℕ) (blocks : List (List ℕ)) (i : ℕ) → after ≡ before ++ bytes ∷ [] → length before ≡ i
    → ((k : ℕ) → k < i → get_or before k [] ≡ block_at blocks (1 + k)) → block_at blocks (1 + i) ≡ bytes
    → (k : ℕ) → k < i + 1 → get_or after k [] ≡ block_at blocks (1 + k)
kept_more before after bytes blocks i more many so_far is k h = ap (λ bs. get_or bs k []) more ∙ go (cases_eq k i) where
  go : (k ≡ i) ⊎ (k ≡ i → ⊥) → get_or (before ++ bytes ∷ []) k [] ≡ block_at blocks (1 + k)
  go (inl e) =
      ap (λ n. get_or (before ++ bytes ∷ []) n []) (e ∙ sym many) ∙ get_or-append_seam before bytes [] []
      ∙ sym is ∙ ap (λ n. block_at blocks (1 + n)) (sym e)
  go (inr other) =
      let early : k < i = omega (arith, h, other) in
      get_or-append before (bytes ∷ []) [] k (omega (arith, many, early)) ∙ so_far k early

nothing_at : (k : ℕ) → get_or {A = List ℕ} [] k [] ≡ block_at [] (1 + k)
nothing_at zero = refl
nothing_at (suc k) = refl

-- no disk has none
pub none_kept : (kept blocks : List (List ℕ)) → kept ≡ [] → length blocks ≡ 0 → AreEntries kept blocks
none_kept kept blocks none size =
    subst (λ ks. AreEntries ks blocks) (sym none) (subst (AreEntries []) (sym (no_blocks blocks size)) (λ k h. nothing_at k))

-- the drive has failed, or there is no memory: that is no fault of an image
pub drive_is : (e : MountFault) → is_drive_fault e ≡ true → (e ≡ fault.Fault) ⊎ (e ≡ fault.NoMemory)
drive_is fault.Short h = absurd (let no : false ≡ true = h in cc)
drive_is fault.Header h = absurd (let no : false ≡ true = h in cc)
drive_is (fault.Entry s) h = absurd (let no : false ≡ true = h in cc)
drive_is (fault.Page s n) h = absurd (let no : false ≡ true = h in cc)
drive_is (fault.Shared n) h = absurd (let no : false ≡ true = h in cc)
drive_is fault.Fault h = inl refl
drive_is fault.NoMemory h = inr refl

pub no_image_fault : (e : MountFault) (broken : Option MountFault) → (e ≡ fault.Fault) ⊎ (e ≡ fault.NoMemory) → IsFirst e broken
no_image_fault e broken (inl is) = subst (λ f. IsFirst f broken) (sym is) tt
no_image_fault e broken (inr is) = subst (λ f. IsFirst f broken) (sym is) tt

-- ---- writing one of them

reached : (blocks : List (List ℕ)) (n : ℕ) → length (block_at blocks n) ≡ 512 → n < length blocks
reached [] zero h = absurd (omega arith)
reached [] (suc n) h = absurd (omega arith)
reached (b ∷ blocks) zero h = omega arith
reached (b ∷ blocks) (suc n) h = let rest : n < length blocks = reached blocks n h in omega (arith, rest)

-- the entry of a slot is written
pub entries_over : (slot : ℕ) (entry : List ℕ) (kept old new : List (List ℕ)) → slot < 256 → length kept ≡ 32 → AreEntries kept old
    → IsWritten slot entry old new → AreEntries (set kept (slot / 8) (patched (64 * (slot % 8)) entry (get_or kept (slot / 8) []))) new
entries_over slot entry kept old new h many are written k less = go (cases_eq k (slot / 8)) where
  go : (k ≡ slot / 8) ⊎ (k ≡ slot / 8 → ⊥)
      → get_or (set kept (slot / 8) (patched (64 * (slot % 8)) entry (get_or kept (slot / 8) []))) k [] ≡ block_at new (1 + k)
  go (inl e) =
      let few : slot / 8 < 32 = omega arith in
      let index : 1 + k ≡ 1 + slot / 8 = omega (arith, e) in
      get_or-set_at kept (slot / 8) k _ [] e (omega (arith, few, many))
      ∙ ap (patched (64 * (slot % 8)) entry) (are (slot / 8) few)
      ∙ sym (get_or-set_at old (1 + slot / 8) (1 + k) _ [] index (reached old (1 + slot / 8) written.whole))
      ∙ sym (ap (λ bs. block_at bs (1 + k)) written.now)
  go (inr other) =
      get_or-set_other kept (slot / 8) k _ [] other ∙ are k less
      ∙ sym (ap (λ bs. block_at bs (1 + k)) written.now ∙ block_kept old slot entry (1 + k) (λ e. other (let same : k ≡ slot / 8 = omega (arith, e) in same)))

-- a file is laid behind them
pub entries_laid : (count : ℕ) (numbers : List ℕ) (kept old laid : List (List ℕ)) → are_data count numbers ≡ true
    → ((n : ℕ) → is_in n numbers ≡ false → block_at laid n ≡ block_at old n) → AreEntries kept old → AreEntries kept laid
entries_laid count numbers kept old laid data_ others are =
    λ k h. are k h ∙ sym (others (1 + k) (not_early count numbers (1 + k) data_ (omega arith)))

-- ---- the block of a slot, as it is kept

pub kept_inside : (slot : ℕ) (kept : List (List ℕ)) → slot < 256 → length kept ≡ 32 → slot / 8 < length kept
kept_inside slot kept h many = omega (arith, h, many)

same_there : (slot : ℕ) (kept : List (List ℕ)) (there : List ℕ) → slot < 256 → length kept ≡ 32 → there ≡ get_or kept (slot / 8) there
    → there ≡ get_or kept (slot / 8) []
same_there slot kept there h many is = is ∙ get_or_default kept (slot / 8) there [] (kept_inside slot kept h many)

pub kept_block : (slot : ℕ) (kept : List (List ℕ)) (there : List ℕ) (told : Option (List (List ℕ))) → slot < 256 → length kept ≡ 32
    → there ≡ get_or kept (slot / 8) there → ForSome told (AreEntries kept) → ForSome told (λ blocks. block_at blocks (1 + slot / 8) ≡ there)
kept_block slot kept there told h many is are = λ blocks e.
    sym (same_there slot kept there h many is ∙ are blocks e (slot / 8) (let few : slot / 8 < 32 = omega arith in few))

pub kept_now : (slot : ℕ) (kept : List (List ℕ)) (entry there now : List ℕ) → slot < 256 → length kept ≡ 32 → there ≡ get_or kept (slot / 8) there
    → now ≡ patched (64 * (slot % 8)) entry there
    → set kept (slot / 8) now ≡ set kept (slot / 8) (patched (64 * (slot % 8)) entry (get_or kept (slot / 8) []))
kept_now slot kept entry there now h many is made =
    ap (set kept (slot / 8)) (made ∙ ap (patched (64 * (slot % 8)) entry) (same_there slot kept there h many is))

pub block_now : (slot : ℕ) (kept : List (List ℕ)) (now : List ℕ) → slot < 256 → length kept ≡ 32 → now ≡ get_or (set kept (slot / 8) now) (slot / 8) []
block_now slot kept now h many = sym (get_or-set_same kept (slot / 8) now [] (kept_inside slot kept h many))
