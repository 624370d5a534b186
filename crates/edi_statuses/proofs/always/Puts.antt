-- `put`: there is an image with the file that is put, where the drive has a place for it.
use Rattle.std.proofs.Common.{◌≡◌, ℕ, zero, suc, ◌+◌, ◌-◌, ◌≤◌, ◌<◌, Bool, true, false, List, [], ◌∷◌, length, set, get_or-set_same, Option, Some, None, refl, ap, sym, subst, ◌∙◌}
use Rattle.std.proofs.Common.{arith, inl, inr}
use Rattle.std.specs.Prelude.{◌&&◌, is_none, nat_le, nat_lt, if◌then◌else◌}
use Rattle.std.specs.List.{list_all}
use Rattle.std.specs.Option.{option_map, option_and_then}
use Rattle.std.proofs.lemmas.Bool.{leb-true, ltb-false}
use Rattle.edi_host.specs.Blocks.{is_block}
use Rattle.edi_host.specs.Contents.{Contents}
use Rattle.edi_calls.specs.State.{File, blocks_in, blocks_of, blocks_taken, find_slot, first_free, first_index, is_title, is_titled, most_bytes, put_slot, slot_at}
use Rattle.edi_calls.specs.Calls.{is_protected, slot_for}
use Rattle.edi_calls.proofs.Indices.{IsIndexOf, first_index-found}
use Rattle.edi_image.specs.Image.{Holds, mount_fault_of, slots_of}
use Rattle.edi_image.specs.Records.{FileRecord}
use Rattle.edi_image.specs.Stored.{StoredFile, is_stored}
use Rattle.edi_image.proofs.KeptFiles.{file_of}
use Rattle.edi_image.proofs.UsedBlocks.{or_left, or_right}
use Rattle.edi_catalog.specs.SlotsChanged.{changed_at, file_protected}
use Rattle.edi_catalog.specs.SlotsStored.{put_at, stored_file}
use Rattle.edi_catalog.specs.Writing.{file_as}
use Rattle.edi_catalog.proofs.FileShape.{shape_of}
use Rattle.edi_catalog.proofs.Sizes.{kept_at}
use Rattle.edi_catalog.proofs.StoredFiles.{length_record}
use Rattle.edi_words.specs.Words as words
use Rattle.edi_statuses.specs.Outside.{Devices, KernelLeft}
use Rattle.edi_statuses.specs.Steps.{goes, ◌>>=◌, FitsDisk, Mounts, Ready}
use Rattle.edi_statuses.specs.Commands.{ArePut, HasPlace, IsDone, OnlyBlocks, PutSteps, is_full, kind_of_bytes, put_in, released}
use Rattle.edi_statuses.specs.Always.{HasBlocks, MayEnd, told_outside}
use Rattle.edi_statuses.proofs.always.Steps.{put_some}
use Rattle.edi_statuses.proofs.always.Ends.{blocks_some, does_some, of_table}
use Rattle.edi_statuses.proofs.always.Stored.{files_in, files_stored}
use Rattle.edi_statuses.proofs.always.Calls.{one_block}
use Rattle.edi_statuses.proofs.always.Images.{HasFileAt, IsImage, image_changed, image_stored, titled_file}

-- ---- slots in which one file is released

-- the file of a title is found where it was
found_again : (test : Option File → Bool) (slots : List (Option File)) (index : ℕ) (slot : Option File) → first_index test slots ≡ Some index
    → test slot ≡ true → first_index test (set slots index slot) ≡ Some index
found_again test [] index slot h passes = h
found_again test (first ∷ slots) zero slot h passes = ap (λ b. if b then Some 0 else option_map suc (first_index test slots)) passes
found_again test (first ∷ slots) (suc index) slot h passes =
    go (test first) (first_index test slots) refl h (λ e. found_again test slots index slot e passes)
  where
    go : (b : Bool) (o : Option ℕ) → first_index test slots ≡ o → (if b then Some 0 else option_map suc o) ≡ Some (suc index)
        → (first_index test slots ≡ Some index → first_index test (set slots index slot) ≡ Some index)
        → (if b then Some 0 else option_map suc (first_index test (set slots index slot))) ≡ Some (suc index)
    go true o e h later = absurd (let no : Some 0 ≡ Some (suc index) = h in cc)
    go false None e h later = absurd (let no : None ≡ Some (suc index) = h in cc)
    go false (Some k) e h later =
        let both : Some (suc k) ≡ Some (suc index) = h in
        let same : k ≡ index = cc in
        ap (option_map suc) (later (e ∙ ap Some same))

-- files of the same sizes take as many blocks
taken_again : (slots : List (Option File)) (index : ℕ) (slot : Option File) → blocks_in slot ≡ blocks_in (slot_at slots index) → index < length slots
    → blocks_taken (set slots index slot) ≡ blocks_taken slots
taken_again [] index slot same within = absurd (omega (arith, within))
taken_again (first ∷ slots) zero slot same within = ap (λ n. n + blocks_taken slots) same
taken_again (first ∷ slots) (suc index) slot same within = ap (λ n. blocks_in first + n) (taken_again slots index slot same (omega (arith, within)))

-- the record of a file that is released, and that file in the image
abbrev released_record : StoredFile → FileRecord
released_record file = record file.record_ { protected = false }

abbrev unprotected : List (List ℕ) → StoredFile → File
unprotected blocks file = record (file_of blocks file) { protected = false }

-- what is known of the slots after the release
record AreReleased (title : List ℕ) (old new : List (Option File)) (slot : ℕ) : Type 0 where
  taken : blocks_taken new ≡ blocks_taken old
  place : slot_for new title ≡ Some slot

-- a place in a free slot, or that of the file of the title
record HasSlot (title : List ℕ) (old : List (List ℕ)) : Type 0 where
  new : IsImage (length old) (released title (slots_of old))
  slot : ℕ
  are : AreReleased title (slots_of old) (released title (slots_of old)) slot

module _ (old : List (List ℕ)) (title : List ℕ) (sized : list_all is_block old ≡ true) (valid : mount_fault_of old ≡ None) where
  abbrev slots : List (Option File)
  slots = slots_of old

  -- the file of the title, released
  by_slot : (o : Option ℕ) → find_slot slots title ≡ o → (is_none o && is_none (first_free slots)) ≡ false
      → HasSlot title old
  by_slot None e open_ = free (first_free slots) refl open_
    where
      same : slots ≡ released title slots
      same = ap (λ o. changed_at (file_protected false) o slots) (sym e)

      free : (o : Option ℕ) → first_free slots ≡ o → is_none o ≡ false → HasSlot title old
      free None f wrong = absurd (let never : true ≡ false = wrong in cc)
      free (Some k) f right = record {
        new = subst (IsImage (length old)) same (record { blocks = old; many = refl; sized = sized; holds = record { valid = valid; files = refl } });
        slot = k;
        are = subst (λ s. AreReleased title slots s k) same
            (record {
              taken = refl;
              place =
                  ap (λ o. if is_none o then first_free slots
                  else option_and_then (λ j. if is_protected (slot_at slots j) then None else Some j) o) e ∙ f;
            });
      }
  by_slot (Some index) e open_ = record { new = image; slot = index; are = subst (λ s. AreReleased title slots s index) same released_so }
    where
      at : HasFileAt old index
      at = (titled_file old title index valid e).0

      is : IsIndexOf (is_titled title) slots index
      is = first_index-found (is_titled title) slots index e

      same : set slots index (Some (unprotected old at.file)) ≡ released title slots
      same =
          sym (ap (λ o. changed_at (file_protected false) o slots) e
          ∙ ap (λ f. set slots index (option_and_then (file_protected false) f)) at.in_image)

      fits : is_stored (length old) (Some at.file) ≡ true
      fits = ap (is_stored (length old)) (sym at.there) ∙ kept_at (length old) (files_in old) index (files_stored old sized valid)

      image : IsImage (length old) (released title slots)
      image =
          subst (IsImage (length old)) same
          (subst (λ f. IsImage (length old) (set slots index (file_as (Some (released_record at.file)) f))) at.in_image
          (image_changed old index (Some (released_record at.file)) sized valid (titled_file old title index valid e).1
          (record {
            file = at.file;
            there = at.there;
            fits = record { title = (shape_of (length old) at.file fits).titled; maps = refl; length_ = refl; free = inl refl };
          })
          (length_record (released_record at.file) (shape_of (length old) at.file fits).titled)))

      found : find_slot (set slots index (Some (unprotected old at.file))) title ≡ Some index
      found =
          found_again (is_titled title) slots index (Some (unprotected old at.file)) e (ap (is_titled title) (sym at.in_image) ∙ is.passes None)

      released_so : AreReleased title slots (set slots index (Some (unprotected old at.file))) index
      released_so = record {
        taken = taken_again slots index (Some (unprotected old at.file)) (sym (ap blocks_in at.in_image)) is.within;
        place =
            ap (λ o. if is_none o then first_free (set slots index (Some (unprotected old at.file)))
            else option_and_then (λ k. if is_protected (slot_at (set slots index (Some (unprotected old at.file))) k) then None else Some k) o) found
            ∙ ap (λ f. if is_protected f then None else Some index)
            (get_or-set_same slots index (Some (unprotected old at.file)) None is.within);
      }

  -- the image with the file
  put_image : (bytes : List ℕ) → is_title title ≡ true → length bytes ≤ most_bytes → is_full old title (length bytes) ≡ false
      → (new : List (List ℕ)) × ArePut title bytes old new × (mount_fault_of new ≡ None) × (list_all is_block new ≡ true)
  put_image bytes titled short room =
      let free_blocks : nat_lt (length old - (33 + blocks_taken slots)) (blocks_of (length bytes)) ≡ false =
      or_left (nat_lt (length old - (33 + blocks_taken slots)) (blocks_of (length bytes))) (is_none (find_slot slots title) && is_none (first_free slots)) room in
      let has : HasSlot title old =
      by_slot (find_slot slots title) refl
      (or_right (nat_lt (length old - (33 + blocks_taken slots)) (blocks_of (length bytes))) (is_none (find_slot slots title) && is_none (first_free slots)) room)
      in
      let between : List (List ℕ) = has.new.blocks in
      let files : slots_of between ≡ released title slots = has.new.holds.files in
      let fits : blocks_of (length bytes) ≤ length old - (33 + blocks_taken slots) = ltb-false _ (blocks_of (length bytes)) free_blocks in
      let taken : blocks_taken (slots_of between) ≡ blocks_taken slots = ap blocks_taken files ∙ has.are.taken in
      let enough : blocks_of (length bytes) + 33 + blocks_taken (slots_of between) ≤ length between =
      omega (arith, fits, taken, has.new.many, one_block (length bytes)) in
      let place : slot_for (slots_of between) title ≡ Some has.slot = ap (λ s. slot_for s title) files ∙ has.are.place in
      let now = image_stored between title (kind_of_bytes bytes) bytes has.slot has.new.sized has.new.holds.valid titled short enough place in
      let wanted : put_slot (slots_of between) has.slot (Some (stored_file title (kind_of_bytes bytes) bytes)) ≡ put_in title bytes slots =
      ap (λ s. put_slot s has.slot (Some (stored_file title (kind_of_bytes bytes) bytes))) files
      ∙ ap (λ o. put_at o (stored_file title (kind_of_bytes bytes) bytes) (released title slots)) (sym has.are.place) in
      (now.blocks, (now.many ∙ has.new.many, subst (Holds now.blocks) wanted now.holds), now.holds.valid, now.sized)

-- ---- the command

-- what its steps have found
record IsReady (d : Devices) (title bytes : List ℕ) : Type 0 where
  short : length bytes ≤ most_bytes
  valid : mount_fault_of d.blocks ≡ None
  room : is_full d.blocks title (length bytes) ≡ false

module _ (files : Contents) (d : Devices) (title : List ℕ) where
  place_then : (bytes a : List ℕ) → (HasPlace (told_outside files d) title (length bytes) >>= λ room. Ready bytes) (goes a)
      → (is_full d.blocks title (length bytes) ≡ false) × (a ≡ bytes)
  place_then bytes a (inl never) = absurd never
  place_then bytes a (inr h) = (h.1, h.2)

  mounts_then : (bytes a : List ℕ) → nat_le (length bytes) most_bytes ≡ true
      → (Mounts (told_outside files d) >>= λ done. HasPlace (told_outside files d) title (length bytes) >>= λ room. Ready bytes) (goes a) → IsReady d title a
  mounts_then bytes a short (inl never) = absurd never
  mounts_then bytes a short (inr h) =
      let p = place_then bytes a h.2 in
      subst (IsReady d title) (sym p.1) (record { short = leb-true (length bytes) most_bytes short; valid = h.1; room = p.0 })

  fits_then : (bytes a : List ℕ) → (FitsDisk bytes >>= λ fits. Mounts (told_outside files d)
      >>= λ done. HasPlace (told_outside files d) title (length bytes) >>= λ room. Ready bytes) (goes a) → IsReady d title a
  fits_then bytes a (inl never) = absurd never
  fits_then bytes a (inr h) = mounts_then bytes a h.1 h.2

  put_then : (file a : List ℕ) → PutSteps (told_outside files d) file title (goes a) → IsReady d title a
  put_then file a (inl never) = absurd never
  put_then file a (inr h) = fits_then h.0 a h.2

pub put_may : (files : Contents) (d : Devices) (kernel : KernelLeft) → HasBlocks d → (file title : List ℕ) → is_title title ≡ true
    → MayEnd (words.put file title) files d kernel
put_may files d kernel sized file title titled =
    of_table (words.put file title) files d kernel _
    (does_some (words.put file title) files d kernel (PutSteps (told_outside files d) file title) (λ bytes. IsDone (OnlyBlocks (ArePut title bytes)))
    (put_some files d file title)
    (λ bytes went. let ready = put_then files d title file bytes went in
    let made = put_image d.blocks title sized ready.valid bytes titled ready.short ready.room in
    blocks_some (words.put file title) files d kernel (ArePut title bytes) made.0 made.1 (λ h. made.3) (λ e before. made.2))) (λ s after shown k h. h)
