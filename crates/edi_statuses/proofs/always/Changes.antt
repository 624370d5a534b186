-- Where a state has an image, the state after a change of the files that a line of a session makes has one too.
use Rattle.std.proofs.Common.{◌≡◌, ℕ, ◌+◌, ◌-◌, ◌≤◌, ◌<◌, Bool, true, false, List, length, set, Option, Some, None, refl, ap, sym, subst, ◌∙◌, arith, inl, inr}
use Rattle.std.specs.Prelude.{IfSome, is_none, is_some, nat_lt, if◌then◌else◌}
use Rattle.std.specs.List.{list_all}
use Rattle.std.specs.Option.{option_and_then}
use Rattle.std.proofs.Math.ListN.{length-set}
use Rattle.std.proofs.lemmas.Bool.{ltb-false}
use Rattle.edi_host.specs.Blocks.{is_block}
use Rattle.edi_calls.specs.declared.kinds.FileKind.{FileKind}
use Rattle.edi_calls.specs.Calls.{is_protected, slot_for}
use Rattle.edi_calls.specs.State.{File, State, blocks_of, blocks_taken, find_file, find_slot, free, is_title, is_titled, most_bytes, put_slot, slot_at}
use Rattle.edi_calls.proofs.Indices.{IsIndexOf, first_index-found}
use Rattle.edi_image.specs.Bytes.{bytes_of_slot}
use Rattle.edi_image.specs.Image.{mount_fault_of, slots_of}
use Rattle.edi_image.specs.Records.{FileRecord}
use Rattle.edi_image.specs.Stored.{StoredFile, is_stored}
use Rattle.edi_image.proofs.KeptFiles.{file_of, slots_are}
use Rattle.edi_catalog.specs.declared.ends.CatEnd.{CatEnd}
use Rattle.edi_catalog.specs.Files.{find_index}
use Rattle.edi_catalog.specs.Refusing.{no_renaming, no_room}
use Rattle.edi_catalog.specs.SlotsChanged.{changed_at, deleted, file_protected, file_renamed, slots_changed}
use Rattle.edi_catalog.specs.SlotsStored.{put_at, slots_stored, stored_file}
use Rattle.edi_catalog.specs.Writing.{IsRecordFor, file_as}
use Rattle.edi_catalog.proofs.FileShape.{shape_of}
use Rattle.edi_catalog.proofs.Sizes.{kept_at}
use Rattle.edi_catalog.proofs.StoredFiles.{length_record}
use Rattle.edi_catalog.proofs.WholeFiles.{index_same}
use Rattle.edi_statuses.proofs.always.Stored.{files_in, files_stored}
use Rattle.edi_statuses.proofs.always.Images.{IsImage, image_changed, image_stored, titled_file}
use Rattle.edi_statuses.proofs.always.Calls.{HasImage, one_block}

-- ---- the entry of the file of a title is changed

module _ (blocks : List (List ℕ)) (sized : list_all is_block blocks ≡ true) (valid : mount_fault_of blocks ≡ None) where
  -- another entry that may stand for that of a file, and the file that it makes in the image
  record IsEntryOf (change : File → Option File) (file : StoredFile) : Type 0 where
    entry : Option FileRecord
    file_is : file_as entry (Some (file_of blocks file)) ≡ change (file_of blocks file)
    fits : IfSome entry (IsRecordFor (files_in blocks) file)
    long : length (bytes_of_slot entry) ≡ 64

  -- every file with a title has one
  abbrev HasEntries : (File → Option File) → Type 0
  HasEntries change = (file : StoredFile) → is_title file.record_.title ≡ true → IsEntryOf change file

  at_slot : (change : File → Option File) (title : List ℕ) → HasEntries change → (o : Option ℕ) → find_slot (slots_of blocks) title ≡ o
      → IsImage (length blocks) (changed_at change o (slots_of blocks))
  at_slot change title entries None e = record { blocks = blocks; many = refl; sized = sized; holds = record { valid = valid; files = refl } }
  at_slot change title entries (Some index) e =
      let found = titled_file blocks title index valid e in
      let fits : is_stored (length blocks) (Some found.0.file) ≡ true =
      ap (is_stored (length blocks)) (sym found.0.there) ∙ kept_at (length blocks) (files_in blocks) index (files_stored blocks sized valid) in
      let new = entries found.0.file (shape_of (length blocks) found.0.file fits).titled in
      subst (λ f. IsImage (length blocks) (set (slots_of blocks) index (option_and_then change f))) (sym found.0.in_image)
      (subst (λ f. IsImage (length blocks) (set (slots_of blocks) index f)) new.file_is
      (subst (λ f. IsImage (length blocks) (set (slots_of blocks) index (file_as new.entry f))) found.0.in_image
      (image_changed blocks index new.entry sized valid found.1 (record { file = found.0.file; there = found.0.there; fits = new.fits }) new.long)))

  deleted_entries : HasEntries deleted
  deleted_entries file titled = record { entry = None; file_is = refl; fits = tt; long = refl }

  protected_entries : (now : Bool) → HasEntries (file_protected now)
  protected_entries now file titled = record {
    entry = Some (record file.record_ { protected = now });
    file_is = refl;
    fits = record { title = titled; maps = refl; length_ = refl; free = inl refl };
    long = length_record (record file.record_ { protected = now }) titled;
  }

  -- another title, which no file has
  renamed_entries : (g : List ℕ) → is_title g ≡ true → find_slot (slots_of blocks) g ≡ None → HasEntries (file_renamed g)
  renamed_entries g titled free_title file old = record {
    entry = Some (record file.record_ { title = g });
    file_is = refl;
    fits = record {
      title = titled;
      maps = refl;
      length_ = refl;
      free = inr (sym (ap (λ slots. find_slot slots g) (slots_are blocks) ∙ index_same blocks g (files_in blocks)) ∙ free_title);
    };
    long = length_record (record file.record_ { title = g }) titled;
  }

-- ---- where a change is not refused

-- no file has a title that finds none
unfound : (slots : List (Option File)) (title : List ℕ) → is_some (find_file slots title) ≡ false → find_slot slots title ≡ None
unfound slots title h = go (find_slot slots title) refl h
  where
    none_there : (index : ℕ) → IsIndexOf (is_titled title) slots index → (o : Option File) → slot_at slots index ≡ o → is_some o ≡ false → ⊥
    none_there index is None e h = (let no : false ≡ true = ap (is_titled title) (sym e) ∙ is.passes None in absurd (cc))
    none_there index is (Some file) e h = (let no : true ≡ false = h in absurd (cc))

    go : (o : Option ℕ) → find_slot slots title ≡ o → is_some (option_and_then (slot_at slots) o) ≡ false → o ≡ None
    go None e h = refl
    go (Some index) e h = absurd (none_there index (first_index-found (is_titled title) slots index e) (slot_at slots index) refl h)

new_title : (file there : Option File) → no_renaming file there ≡ None → is_some there ≡ false
new_title None there h = absurd (cc)
new_title (Some file) there h = go file.protected (is_some there) _ _ h
  where
    go : (b c : Bool) (x y : CatEnd) → (if b then Some x else (if c then Some y else None)) ≡ None → c ≡ false
    go true c x y h = absurd (cc)
    go false true x y h = absurd (cc)
    go false false x y h = refl

-- four tests none of which refuses
all_pass : (a b c d : Bool) (w x y z : CatEnd)
    → (if a then Some w else (if b then Some x else (if c then Some y else (if d then Some z else None)))) ≡ None
    → (b ≡ false) × (c ≡ false) × (d ≡ false)
all_pass true b c d w x y z h = absurd (cc)
all_pass false true c d w x y z h = absurd (cc)
all_pass false false true d w x y z h = absurd (cc)
all_pass false false false true w x y z h = absurd (cc)
all_pass false false false false w x y z h = (refl, refl, refl)

some_slot : (o : Option ℕ) → is_none o ≡ false → (index : ℕ) × (o ≡ Some index)
some_slot None h = absurd (let no : true ≡ false = h in cc)
some_slot (Some index) h = (index, refl)

-- ---- the changes

-- as many slots
pub changed_many : (change : File → Option File) (title : List ℕ) (slots : List (Option File)) → length (slots_changed change title slots) ≡ length slots
changed_many change title slots = go (find_slot slots title)
  where
    go : (o : Option ℕ) → length (changed_at change o slots) ≡ length slots
    go None = refl
    go (Some index) = length-set slots index _

pub stored_many : (title : List ℕ) (kind : FileKind) (bytes : List ℕ) (slots : List (Option File))
    → length (slots_stored title kind bytes slots) ≡ length slots
stored_many title kind bytes slots = go (slot_for slots title)
  where
    go : (o : Option ℕ) → length (put_at o (stored_file title kind bytes) slots) ≡ length slots
    go None = refl
    go (Some index) = length-set slots index _

module _ (s : State) (h : HasImage s) where
  abbrev blocks : List (List ℕ)
  blocks = h.image.blocks

  files : slots_of blocks ≡ s.slots
  files = h.image.holds.files

  changed_image : (change : File → Option File) (title : List ℕ) → HasEntries blocks h.image.sized h.image.holds.valid change
      → IsImage s.blocks (slots_changed change title s.slots)
  changed_image change title entries =
      subst (λ n. IsImage n (slots_changed change title s.slots)) h.image.many
      (subst (λ slots. IsImage (length blocks) (slots_changed change title slots)) files
      (at_slot blocks h.image.sized h.image.holds.valid change title entries (find_slot (slots_of blocks) title) refl))

  pub deleted_image : (title : List ℕ) → IsImage s.blocks (slots_changed deleted title s.slots)
  deleted_image title = changed_image deleted title (deleted_entries blocks h.image.sized h.image.holds.valid)

  pub protected_image : (now : Bool) (title : List ℕ) → IsImage s.blocks (slots_changed (file_protected now) title s.slots)
  protected_image now title = changed_image (file_protected now) title (protected_entries blocks h.image.sized h.image.holds.valid now)

  pub renamed_image : (f g : List ℕ) → is_title g ≡ true → no_renaming (find_file s.slots f) (find_file s.slots g) ≡ None
      → IsImage s.blocks (slots_changed (file_renamed g) f s.slots)
  renamed_image f g titled allowed =
      changed_image (file_renamed g) f
      (renamed_entries blocks h.image.sized h.image.holds.valid g titled
      (ap (λ slots. find_slot slots g) files ∙ unfound s.slots g (new_title (find_file s.slots f) (find_file s.slots g) allowed)))

  -- a file is stored where there is room
  stored_at : (title : List ℕ) (kind : FileKind) (bytes : List ℕ) (index : ℕ) → is_title title ≡ true → length bytes ≤ most_bytes
      → blocks_of (length bytes) ≤ free s → slot_for s.slots title ≡ Some index
      → IsImage s.blocks (put_slot s.slots index (Some (stored_file title kind bytes)))
  stored_at title kind bytes index titled short room slot =
      let fits : blocks_of (length bytes) ≤ s.blocks - (33 + blocks_taken s.slots) = room in
      let taken : blocks_taken (slots_of blocks) ≡ blocks_taken s.slots = ap blocks_taken files in
      let enough : blocks_of (length bytes) + 33 + blocks_taken (slots_of blocks) ≤ length blocks =
      omega (arith, fits, taken, h.image.many, one_block (length bytes)) in
      subst (λ n. IsImage n (put_slot s.slots index (Some (stored_file title kind bytes)))) h.image.many
      (subst (λ slots. IsImage (length blocks) (put_slot slots index (Some (stored_file title kind bytes)))) files
      (image_stored blocks title kind bytes index h.image.sized h.image.holds.valid titled short enough (ap (λ slots. slot_for slots title) files ∙ slot)))

  pub stored_image : (title : List ℕ) (kind : FileKind) (bytes : List ℕ) → is_title title ≡ true
      → no_room title (length bytes) (free s) s.slots ≡ None → IsImage s.blocks (slots_stored title kind bytes s.slots)
  stored_image title kind bytes titled allowed =
      let pass = all_pass (is_protected (find_file s.slots title)) (nat_lt most_bytes (length bytes)) (is_none (slot_for s.slots title))
      (nat_lt (free s) (blocks_of (length bytes))) _ _ _ _ allowed in
      let slot = some_slot (slot_for s.slots title) pass.1 in
      subst (λ o. IsImage s.blocks (put_at o (stored_file title kind bytes) s.slots)) (sym slot.1)
      (stored_at title kind bytes slot.0 titled (ltb-false most_bytes (length bytes) pass.0) (ltb-false (free s) (blocks_of (length bytes)) pass.2) slot.1)
