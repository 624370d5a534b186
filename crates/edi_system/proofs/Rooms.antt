-- Where a text is stored, and which file may be removed: the catalogue against the slots of its image.
use Rattle.std.proofs.Common.{◌≡◌, ◌≤◌, ◌⊎◌, inl, inr, ℕ, ◌+◌, ◌-◌, Bool, true, false, List, length, map, Option, Some, None, refl, sym, ap, ◌∙◌}
use Rattle.std.specs.Prelude.{is_none, nat_le, nat_lt, if◌then◌else◌, slice_index_or, slice_set, Result, Ok, Err}
use Rattle.std.specs.List.{list_all}
use Rattle.std.specs.Option.{option_map, option_and_then}
use Rattle.std.proofs.Math.ListN.{get_or-map}
use Rattle.std.proofs.lemmas.Bool.{le-leb, le-ltb, lt-leb, ltb-false}
use borrow.Author.Tests.{ltb-true}
use Rattle.edi_host.specs.Blocks.{is_block}
use Rattle.edi_calls.specs.State.{File, blocks_of, find_slot, first_free, most_bytes, put_slot, slot_at}
use Rattle.edi_calls.specs.State as calls
use Rattle.edi_calls.specs.Calls.{open_slot, slot_for}
use Rattle.edi_calls.specs.Calls as made
use Rattle.edi_catalog.specs.declared.ends.CatEnd.{CatEnd}
use Rattle.edi_catalog.specs.declared.ends.CatEnd.TheVariants as cat
use Rattle.edi_image.specs.Image.{Holds, slots_of}
use Rattle.edi_image.specs.Stored.{StoredFile, is_stored, is_titled, IsKeptOf}
use Rattle.edi_catalog.specs.Files.{file_titled, find_index}
use Rattle.edi_catalog.specs.Changes.{not_deleted, Leaves}
use Rattle.edi_catalog.specs.SlotsChanged.{changed_at, deleted, slots_changed}
use Rattle.edi_catalog.specs.Storing.{blocks_free, not_stored, index_for}
use Rattle.edi_catalog.specs.SlotsStored.{put_at}
use Rattle.edi_catalog.specs.Writing.{is_protected}
use Rattle.edi_image.proofs.KeptFiles.{file_of}
use Rattle.edi_catalog.proofs.WholeFiles.{index_same}
use Rattle.edi_catalog.proofs.StoredIndex.{slot_for_same}
use Rattle.edi_system.specs.Catalogue.{is_refused}
use Rattle.edi_system.proofs.OtherFiles.{find_titled}
use Rattle.edi_catalog.proofs.Sizes.{slots_kept, taken_same}

-- ---- an image, and what a catalogue over it keeps

pub record IsImageOf (count : ℕ) (files : List (Option StoredFile)) (blocks : List (List ℕ)) : Type 0 where
  pub sized : list_all is_block blocks ≡ true
  pub many : length blocks ≡ count
  pub stored : list_all (is_stored count) files ≡ true
  pub kept : IsKeptOf blocks files

-- the slot where so many bytes are stored under a title in an image, if they may be
abbrev pub room_in : List (List ℕ) → (title : List ℕ) → (size : ℕ) → Option ℕ
room_in blocks title size =
    if nat_le (blocks_of size) (length blocks - (33 + calls.blocks_taken (slots_of blocks))) then slot_for (slots_of blocks) title else None

room_is : (count : ℕ) (files : List (Option StoredFile)) (blocks : List (List ℕ)) (title : List ℕ) (size : ℕ) → IsImageOf count files blocks
    → room_in blocks title size ≡ (if nat_le (blocks_of size) (blocks_free count files) then slot_for (slots_of blocks) title else None)
room_is count files blocks title size image =
    ap (λ n. if nat_le (blocks_of size) (n - (33 + calls.blocks_taken (slots_of blocks))) then slot_for (slots_of blocks) title else None) image.many
    ∙ ap (λ n. if nat_le (blocks_of size) (count - (33 + n)) then slot_for (slots_of blocks) title else None)
    (taken_same blocks count files image.sized image.many image.stored image.kept)

-- ---- the file that may be changed

protected_same : (blocks : List (List ℕ)) (file : Option StoredFile) → made.is_protected (option_map (file_of blocks) file) ≡ is_protected file
protected_same blocks None = refl
protected_same blocks (Some file) = refl

open_same : (blocks : List (List ℕ)) (title : List ℕ) (files : List (Option StoredFile))
    → open_slot (map (option_map (file_of blocks)) files) title ≡ (if is_protected (file_titled title files) then None else find_index title files)
open_same blocks title files =
    ap (option_and_then (λ k. if made.is_protected (slot_at (map (option_map (file_of blocks)) files) k) then None else Some k)) (index_same blocks title files)
    ∙ go (find_index title files)
  where
    go : (index : Option ℕ)
        → option_and_then (λ k. if made.is_protected (slot_at (map (option_map (file_of blocks)) files) k) then None else Some k) index
        ≡ (if is_protected (option_and_then (λ k. slice_index_or files k None) index) then None else index)
    go None = refl
    go (Some k) =
        ap (λ b. if b then None else Some k)
        (ap made.is_protected (get_or-map (option_map (file_of blocks)) files k None) ∙ protected_same blocks (slice_index_or files k None))

-- nothing is stored in place of a protected file
closed : (blocks : List (List ℕ)) (title : List ℕ) (files : List (Option StoredFile)) → is_protected (file_titled title files) ≡ true
    → slot_for (map (option_map (file_of blocks)) files) title ≡ None
closed blocks title files e =
    ap (λ o. if is_none o then first_free (map (option_map (file_of blocks)) files) else open_slot (map (option_map (file_of blocks)) files) title)
    (index_same blocks title files)
    ∙ go (find_index title files) refl
  where
    go : (index : Option ℕ) → find_index title files ≡ index
        → (if is_none index then first_free (map (option_map (file_of blocks)) files) else open_slot (map (option_map (file_of blocks)) files) title) ≡ None
    go None is =
        absurd (let no : false ≡ true = sym (ap (λ o. is_protected (option_and_then (λ k. slice_index_or files k None) o)) is) ∙ e in cc)
    go (Some k) is = open_same blocks title files ∙ ap (λ b. if b then None else find_index title files) e

-- ---- storing

-- a slot where bytes are stored
pub record HasRoom (blocks : List (List ℕ)) (title : List ℕ) (size : ℕ) : Type 0 where
  pub index : ℕ
  pub room : room_in blocks title size ≡ Some index
  pub slot : slot_for (slots_of blocks) title ≡ Some index

either_way : {A : Type 0} (b : Bool) (x : A) → (if b then x else x) ≡ x
either_way true x = refl
either_way false x = refl

module _ (count : ℕ) (files : List (Option StoredFile)) (blocks : List (List ℕ)) (title : List ℕ) (size : ℕ) (image : IsImageOf count files blocks) where
  -- the tests in their order, with the answers that they give
  refused : (protected large : Bool) (index : Option ℕ) (full : Bool) → Option CatEnd
  refused protected large index full =
      if protected then Some cat.Protected
      else (if large then Some (cat.TooLarge size)
      else (if is_none index then Some cat.CatalogFull
      else (if full then Some (cat.Full (blocks_of size) (blocks_free count files)) else None)))

  pub has_room : not_stored title size (blocks_free count files) files ≡ None → HasRoom blocks title size
  unfolding refused
  has_room = go (is_protected (file_titled title files)) (nat_lt most_bytes size) (index_for title files) (nat_lt (blocks_free count files) (blocks_of size))
      refl refl refl refl where
        go : (protected large : Bool) (index : Option ℕ) (full : Bool) → is_protected (file_titled title files) ≡ protected → nat_lt most_bytes size ≡ large
            → index_for title files ≡ index → nat_lt (blocks_free count files) (blocks_of size) ≡ full → refused protected large index full ≡ None
            → HasRoom blocks title size
        go true large index full p l o f h = absurd (let no : Some cat.Protected ≡ None = h in cc)
        go false true index full p l o f h = absurd (let no : Some (cat.TooLarge size) ≡ None = h in cc)
        go false false None full p l o f h = absurd (let no : Some cat.CatalogFull ≡ None = h in cc)
        go false false (Some index) true p l o f h = absurd (let no : Some (cat.Full (blocks_of size) (blocks_free count files)) ≡ None = h in cc)
        go false false (Some index) false p l o f h = record {
          index = index;
          room = room_is count files blocks title size image
              ∙ ap (λ b. if b then slot_for (slots_of blocks) title else None)
              (le-leb (blocks_of size) (blocks_free count files) (ltb-false (blocks_free count files) (blocks_of size) f))
              ∙ slot_for_same blocks title files image.kept p ∙ o;
          slot = slot_for_same blocks title files image.kept p ∙ o;
        }

  pub has_no_room : (why : CatEnd) → size ≤ most_bytes → not_stored title size (blocks_free count files) files ≡ Some why → room_in blocks title size ≡ None
  unfolding refused
  has_no_room why most h =
      room_is count files blocks title size image
      ∙ go (is_protected (file_titled title files)) (nat_lt most_bytes size) (index_for title files) (nat_lt (blocks_free count files) (blocks_of size)) refl
      refl refl refl h
    where
      no_slot : slot_for (slots_of blocks) title ≡ None
          → (if nat_le (blocks_of size) (blocks_free count files) then slot_for (slots_of blocks) title else None) ≡ None
      no_slot none =
          ap (λ o. if nat_le (blocks_of size) (blocks_free count files) then o else None) none
          ∙ either_way (nat_le (blocks_of size) (blocks_free count files)) None

      go : (protected large : Bool) (index : Option ℕ) (full : Bool) → is_protected (file_titled title files) ≡ protected → nat_lt most_bytes size ≡ large
          → index_for title files ≡ index → nat_lt (blocks_free count files) (blocks_of size) ≡ full → refused protected large index full ≡ Some why
          → (if nat_le (blocks_of size) (blocks_free count files) then slot_for (slots_of blocks) title else None) ≡ None
      go true large index full p l o f h = no_slot (ap (λ slots. slot_for slots title) (slots_kept blocks files image.kept) ∙ closed blocks title files p)
      go false true index full p l o f h = absurd (let no : false ≡ true = sym (le-ltb most_bytes size most) ∙ l in cc)
      go false false None full p l o f h = no_slot (slot_for_same blocks title files image.kept p ∙ o)
      go false false (Some index) true p l o f h =
          ap (λ b. if b then slot_for (slots_of blocks) title else None)
          (lt-leb (blocks_of size) (blocks_free count files) (ltb-true (blocks_free count files) (blocks_of size) f))
      go false false (Some index) false p l o f h = absurd (let no : None ≡ Some why = h in cc)

-- ---- removing

-- a slot whose file may be removed
pub record MayLeave (blocks : List (List ℕ)) (title : List ℕ) : Type 0 where
  pub index : ℕ
  pub open_ : open_slot (slots_of blocks) title ≡ Some index
  pub slot : find_slot (slots_of blocks) title ≡ Some index

module _ (files : List (Option StoredFile)) (blocks : List (List ℕ)) (title : List ℕ) (kept : IsKeptOf blocks files) where
  open_is : open_slot (slots_of blocks) title ≡ (if is_protected (file_titled title files) then None else find_index title files)
  open_is = ap (λ slots. open_slot slots title) (slots_kept blocks files kept) ∙ open_same blocks title files

  found_is : find_slot (slots_of blocks) title ≡ find_index title files
  found_is = ap (λ slots. find_slot slots title) (slots_kept blocks files kept) ∙ index_same blocks title files

  pub may_leave : not_deleted (file_titled title files) ≡ None → MayLeave blocks title
  may_leave h = go (find_index title files) refl h where
    go : (index : Option ℕ) → find_index title files ≡ index → not_deleted (option_and_then (λ k. slice_index_or files k None) index) ≡ None
        → MayLeave blocks title
    go None e h = absurd (let no : Some cat.NoSuch ≡ None = h in cc)
    go (Some k) e h = record {
      index = k;
      open_ = open_is
          ∙ ap (λ o. if is_protected (option_and_then (λ j. slice_index_or files j None) o) then None else o) e ∙ free_of (slice_index_or files k None) h;
      slot = found_is ∙ e;
    } where
      free_of : (file : Option StoredFile) → not_deleted file ≡ None → (if is_protected file then None else Some k) ≡ Some k
      free_of None h = refl
      free_of (Some file) h = unmarked file.record_.protected h where
        unmarked : (b : Bool) → (if b then Some cat.Protected else None) ≡ None → (if b then None else Some k) ≡ Some k
        unmarked true h = absurd (let no : Some cat.Protected ≡ None = h in cc)
        unmarked false h = refl

  pub may_not_leave : (why : CatEnd) → not_deleted (file_titled title files) ≡ Some why → open_slot (slots_of blocks) title ≡ None
  may_not_leave why h = open_is ∙ go (find_index title files) refl h where
    go : (index : Option ℕ) → find_index title files ≡ index → not_deleted (option_and_then (λ k. slice_index_or files k None) index) ≡ Some why
        → (if is_protected (option_and_then (λ k. slice_index_or files k None) index) then None else index) ≡ None
    go None e h = refl
    go (Some k) e h = held_by (slice_index_or files k None) (find_titled title files k e) h where
      held_by : (file : Option StoredFile) → is_titled title file ≡ true → not_deleted file ≡ Some why → (if is_protected file then None else Some k) ≡ None
      held_by None t h = absurd (let no : false ≡ true = t in cc)
      held_by (Some file) t h = marked file.record_.protected h where
        marked : (b : Bool) → (if b then Some cat.Protected else None) ≡ Some why → (if b then None else Some k) ≡ None
        marked true h = refl
        marked false h = absurd (let no : None ≡ Some why = h in cc)

-- ---- what is left of the slots

-- a slot is as it was to be, and after a fault it is so or as before
abbrev pub Slots : {X : Type 0} → Result X CatEnd → (wanted : List (Option File)) → (old new : List (List ℕ)) → Type 0
Slots (Ok x) wanted old new = slots_of new ≡ wanted
Slots (Err e) wanted old new = (slots_of new ≡ slots_of old) ⊎ (slots_of new ≡ wanted)

leaves_slots : {X : Type 0} (answer : Result X CatEnd) (wanted slots : List (Option File)) (old new : List (List ℕ)) → is_refused answer ≡ false
    → wanted ≡ slots → Leaves answer (slots_of old) wanted old new → Slots answer slots old new
leaves_slots (Ok x) wanted slots old new open_ same leaves = leaves.files ∙ same
leaves_slots (Err cat.Fault) wanted slots old new open_ same leaves = go leaves.one where
  go : Holds new (slots_of old) ⊎ Holds new wanted → (slots_of new ≡ slots_of old) ⊎ (slots_of new ≡ slots)
  go (inl before) = inl before.files
  go (inr after) = inr (after.files ∙ same)
leaves_slots (Err cat.NoSuch) wanted slots old new open_ same leaves = absurd (let no : true ≡ false = open_ in cc)
leaves_slots (Err cat.Taken) wanted slots old new open_ same leaves = absurd (let no : true ≡ false = open_ in cc)
leaves_slots (Err cat.Protected) wanted slots old new open_ same leaves = absurd (let no : true ≡ false = open_ in cc)
leaves_slots (Err (cat.TooLarge n)) wanted slots old new open_ same leaves = absurd (let no : true ≡ false = open_ in cc)
leaves_slots (Err cat.CatalogFull) wanted slots old new open_ same leaves = absurd (let no : true ≡ false = open_ in cc)
leaves_slots (Err (cat.Full n m)) wanted slots old new open_ same leaves = absurd (let no : true ≡ false = open_ in cc)

pub stored_slots : {X : Type 0} (answer : Result X CatEnd) (title : List ℕ) (file : File) (index : ℕ) (old new : List (List ℕ)) → is_refused answer ≡ false
    → slot_for (slots_of old) title ≡ Some index → Leaves answer (slots_of old) (put_at (slot_for (slots_of old) title) file (slots_of old)) old new
    → Slots answer (put_slot (slots_of old) index (Some file)) old new
stored_slots answer title file index old new open_ is = leaves_slots answer _ _ old new open_ (ap (λ o. put_at o file (slots_of old)) is)

pub removed_slots : {X : Type 0} (answer : Result X CatEnd) (title : List ℕ) (index : ℕ) (old new : List (List ℕ)) → is_refused answer ≡ false
    → find_slot (slots_of old) title ≡ Some index → Leaves answer (slots_of old) (slots_changed deleted title (slots_of old)) old new
    → Slots answer (put_slot (slots_of old) index None) old new
removed_slots answer title index old new open_ is =
    leaves_slots answer _ _ old new open_
    (ap (λ o. changed_at deleted o (slots_of old)) is ∙ ap (λ slot. slice_set (slots_of old) index slot) (nothing (slice_index_or (slots_of old) index None)))
  where
    nothing : (slot : Option File) → option_and_then deleted slot ≡ None
    nothing None = refl
    nothing (Some file) = refl
