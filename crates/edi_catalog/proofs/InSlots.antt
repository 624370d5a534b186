-- What is kept of the files of an image, told by its slots.
use Rattle.std.proofs.Common.{◌≡◌, ◌⊎◌, inl, inr, ◌<◌, ℕ, ◌+◌, ◌*◌, ◌-◌, Bool, true, false, List, length, get_or, Option, Some, None, refl, sym, ap, subst}
use Rattle.std.proofs.Common.{◌∙◌, arith}
use Rattle.std.specs.Prelude.{min, is_none, nat_lt, if◌then◌else◌, flat_map, slice_get, slice_index, slice_index_or, IfSome, Result, Ok, Err}
use Rattle.std.specs.List.{list_all}
use Rattle.std.specs.Option.{option_map}
use Rattle.std.proofs.Math.ListN.{get_or-map}
use Rattle.std.proofs.lemmas.List.{get_or-take, length-take}
use Rattle.std.proofs.lemmas.Option.{slice_get-get_or}
use Rattle.edi_told.specs.Told.{WhereTold}
use Rattle.edi_host.specs.Blocks.{is_block}
use Rattle.edi_disk.specs.Shown.{drive_of}
use Rattle.edi_calls.specs.declared.kinds.FileKind.{FileKind}
use Rattle.edi_calls.specs.State.{File, blocks_of, find_file, most_bytes, pages_of, slot_at}
use Rattle.edi_calls.specs.Calls as made
use Rattle.edi_calls.specs.Calls.{slot_for}
use Rattle.edi_image.specs.Entries.{block_at}
use Rattle.edi_image.specs.Image.{Holds, slots_of}
use Rattle.edi_image.specs.Stored.{StoredFile, is_stored, blocks_taken, bytes_in, IsKeptOf}
use Rattle.edi_image.proofs.KeptFiles.{file_of}
use Rattle.edi_catalog.specs.declared.catalog.Catalog.{Catalog}
use Rattle.edi_catalog.specs.declared.entry.Entry.{Entry}
use Rattle.edi_catalog.specs.declared.ends.CatEnd.{CatEnd}
use Rattle.edi_catalog.specs.declared.ends.CatEnd.TheVariants as cat
use Rattle.edi_catalog.specs.Changes.{CatalogAnswers, Changes, Leaves, not_deleted, not_found, not_renamed}
use Rattle.edi_catalog.specs.Files.{entry_of, file_titled, PageIs}
use Rattle.edi_catalog.specs.InSlots.{entry_told, free_in, PageIn, SlotsAnswer}
use Rattle.edi_catalog.specs.Refusing.{no_deletion, no_renaming, no_room, no_such}
use Rattle.edi_catalog.specs.Mounted.{IsMounted, disk_of, files_of}
use Rattle.edi_catalog.specs.Storing.{StoreAnswers, StoreChanges, blocks_free, index_for, not_stored, stored_entry}
use Rattle.edi_catalog.specs.SlotsStored.{slots_stored}
use Rattle.edi_catalog.specs.Writing.{is_protected}
use Rattle.edi_catalog.proofs.PageBytes.{file_in, page_at}
use Rattle.edi_catalog.proofs.Sizes.{bytes_sized, kept_at, kept_pages, page_sized, slots_kept, some_fact, taken_same, titled_kept}
use Rattle.edi_catalog.proofs.StoredIndex.{slot_for_same}

-- ---- entries, slots and free blocks

module _ (blocks : List (List ℕ)) (count : ℕ) (files : List (Option StoredFile)) (sized : list_all is_block blocks ≡ true) (many : length blocks ≡ count)
    (stored : list_all (is_stored count) files ≡ true) (kept : IsKeptOf blocks files) where
  entry_same : (file : Option StoredFile) → is_stored count file ≡ true → option_map entry_of file ≡ option_map entry_told (option_map (file_of blocks) file)
  entry_same None fits = refl
  entry_same (Some file) fits =
      ap (λ n. Some (record (entry_of file) { length = n })) (sym (bytes_sized blocks count file sized many fits))

  pub find_told : (title : List ℕ) → option_map entry_of (file_titled title files) ≡ option_map entry_told (find_file (slots_of blocks) title)
  find_told title =
      entry_same (file_titled title files) (titled_kept count title files stored)
      ∙ ap (option_map entry_told) (sym (file_in blocks title files kept))

  pub slot_told : (i : ℕ) → is_stored count (slice_index_or files i None) ≡ true
      → option_map entry_of (slice_index_or files i None) ≡ option_map entry_told (slot_at (slots_of blocks) i)
  slot_told i fits =
      entry_same (slice_index_or files i None) fits
      ∙ ap (option_map entry_told) (sym (ap (λ slots. slot_at slots i) (slots_kept blocks files kept) ∙ get_or-map (option_map (file_of blocks)) files i None))

  pub free_told : count - (33 + blocks_taken files) ≡ free_in blocks
  free_told =
      ap (λ n. n - (33 + blocks_taken files)) (sym many)
      ∙ ap (λ n. length blocks - (33 + n)) (sym (taken_same blocks count files sized many stored kept))

  -- a page that was read
  page_bytes : (file : StoredFile) (i : ℕ) (page : List ℕ) → is_stored count (Some file) ≡ true → length page ≡ 512
      → block_at blocks (slice_index file.pages i) ≡ page
      → i < length file.pages → (k : ℕ) → k < 512 → 512 * i + k < length (bytes_in blocks file) → slice_get page k ≡ slice_get (bytes_in blocks file)
      (512 * i + k)
  page_bytes file i page fits long is within k few below =
      let pages = kept_pages count file fits in
      let there = page_at (block_at blocks) file.pages i k (λ j h. page_sized blocks count file.pages j sized many pages.0 h) few within in
      let cut : length (bytes_in blocks file) ≡ min file.record_.length (length (flat_map (block_at blocks) file.pages)) =
      length-take file.record_.length (flat_map (block_at blocks) file.pages) in
      let inside : 512 * i + k < file.record_.length = omega (arith, cut, below) in
      slice_get-get_or page k 0 (omega (arith, long, few))
      ∙ ap Some (ap (λ xs. get_or xs k 0) (sym is) ∙ sym there.1
      ∙ sym (get_or-take file.record_.length (flat_map (block_at blocks) file.pages) (512 * i + k) 0 inside))
      ∙ sym (slice_get-get_or (bytes_in blocks file) (512 * i + k) 0 below)

  pub page_told : {X : Type 0} (E : Type 0) (x : X) (title : List ℕ) (i : ℕ) (page : List ℕ) → length page ≡ 512 → IfSome (file_titled title files)
      (λ file. i < pages_of file.record_.length)
      → PageIs {X = X} {E = E} (Ok x) (file_titled title files) i page blocks → PageIn {X = X} {E = E} (Ok x) (find_file (slots_of blocks) title) i page
  page_told {X} E x title i page long within is =
      subst (λ o. PageIn {X = X} {E = E} (Ok x) o i page) (sym (file_in blocks title files kept))
      (go (file_titled title files) (titled_kept count title files stored) within is)
    where
      go : (file : Option StoredFile) → is_stored count file ≡ true → IfSome file (λ file. i < pages_of file.record_.length) → PageIs {X = X} {E = E} (Ok x)
          file i page blocks
          → PageIn {X = X} {E = E} (Ok x) (option_map (file_of blocks) file) i page
      go None fits within is = absurd is
      go (Some file) fits within is =
          page_bytes file i page fits long is (subst (λ n. i < n) (sym (kept_pages count file fits).1) within)

  -- ---- refusals

  pub such_told : (title : List ℕ) → not_found (file_titled title files) ≡ no_such (find_file (slots_of blocks) title)
  such_told title = go (file_titled title files) ∙ ap no_such (sym (file_in blocks title files kept)) where
    go : (file : Option StoredFile) → not_found file ≡ no_such (option_map (file_of blocks) file)
    go None = refl
    go (Some file) = refl

  pub deletion_told : (title : List ℕ) → not_deleted (file_titled title files) ≡ no_deletion (find_file (slots_of blocks) title)
  deletion_told title = go (file_titled title files) ∙ ap no_deletion (sym (file_in blocks title files kept)) where
    go : (file : Option StoredFile) → not_deleted file ≡ no_deletion (option_map (file_of blocks) file)
    go None = refl
    go (Some file) = refl

  pub renaming_told : (old new : List ℕ) → not_renamed (file_titled old files) (file_titled new files) ≡ no_renaming (find_file (slots_of blocks) old)
      (find_file (slots_of blocks) new)
  renaming_told old new =
      go (file_titled old files) (file_titled new files) ∙ ap (λ o. no_renaming o (option_map (file_of blocks) (file_titled new files)))
      (sym (file_in blocks old files kept))
      ∙ ap (no_renaming (find_file (slots_of blocks) old)) (sym (file_in blocks new files kept))
    where
      go : (file there : Option StoredFile) → not_renamed file there ≡ no_renaming (option_map (file_of blocks) file) (option_map (file_of blocks) there)
      go None None = refl
      go None (Some there) = refl
      go (Some file) None = refl
      go (Some file) (Some there) = refl

  protected_told : (title : List ℕ) → is_protected (file_titled title files) ≡ made.is_protected (find_file (slots_of blocks) title)
  protected_told title = go (file_titled title files) ∙ ap made.is_protected (sym (file_in blocks title files kept)) where
    go : (file : Option StoredFile) → is_protected file ≡ made.is_protected (option_map (file_of blocks) file)
    go None = refl
    go (Some file) = refl

  pub storing_told : (title : List ℕ) (size : ℕ) → not_stored title size (blocks_free count files) files ≡ no_room title size (free_in blocks) (slots_of blocks)
  storing_told title size =
      ap (λ n. not_stored title size n files) free_told ∙ by_protection (is_protected (file_titled title files)) refl
      ∙ ap (λ b. if b then Some cat.Protected else rest (slot_for (slots_of blocks) title)) (protected_told title)
    where
      rest : Option ℕ → Option CatEnd
      rest index =
          if nat_lt most_bytes size then Some (cat.TooLarge size)
          else (if is_none index then Some cat.CatalogFull
          else (if nat_lt (free_in blocks) (blocks_of size) then Some (cat.Full (blocks_of size) (free_in blocks)) else None))

      by_protection : (b : Bool) → is_protected (file_titled title files) ≡ b
          → (if b then Some cat.Protected else rest (index_for title files)) ≡ (if b then Some cat.Protected else rest (slot_for (slots_of blocks) title))
      by_protection true is = refl
      by_protection false is = ap rest (sym (slot_for_same blocks title files kept is))

-- ---- what is left of the slots

changes_to : {X : Type 0} (result : Result X CatEnd) (refusal other : Option CatEnd) (wanted : List (Option File))
    (files files' kept : List (Option StoredFile)) (old new : List (List ℕ))
    → refusal ≡ other → CatalogAnswers result refusal files kept files' → Leaves result (slots_of old) wanted old new
    → SlotsAnswer result other (slots_of old) wanted (slots_of new)
changes_to (Ok x) refusal other wanted files files' kept old new same answers leaves = (sym same ∙ answers.0, leaves.files)
changes_to (Err cat.Fault) refusal other wanted files files' kept old new same answers leaves = (sym same ∙ answers, go leaves.one) where
  go : Holds new (slots_of old) ⊎ Holds new wanted → (slots_of new ≡ slots_of old) ⊎ (slots_of new ≡ wanted)
  go (inl before) = inl before.files
  go (inr after) = inr after.files
changes_to (Err cat.NoSuch) refusal other wanted files files' kept old new same answers leaves = (sym same ∙ answers.0, ap slots_of leaves)
changes_to (Err cat.Taken) refusal other wanted files files' kept old new same answers leaves = (sym same ∙ answers.0, ap slots_of leaves)
changes_to (Err cat.Protected) refusal other wanted files files' kept old new same answers leaves = (sym same ∙ answers.0, ap slots_of leaves)
changes_to (Err (cat.TooLarge n)) refusal other wanted files files' kept old new same answers leaves = (sym same ∙ answers.0, ap slots_of leaves)
changes_to (Err cat.CatalogFull) refusal other wanted files files' kept old new same answers leaves = (sym same ∙ answers.0, ap slots_of leaves)
changes_to (Err (cat.Full n m)) refusal other wanted files files' kept old new same answers leaves = (sym same ∙ answers.0, ap slots_of leaves)

store_to : {X : Type 0} (result : Result X CatEnd) (refusal other : Option CatEnd) (index : Option ℕ) (entry : Entry) (wanted : List (Option File))
    (files files' : List (Option StoredFile)) (old new : List (List ℕ))
    → refusal ≡ other → StoreAnswers result refusal index entry files files' → Leaves result (slots_of old) wanted old new
    → SlotsAnswer result other (slots_of old) wanted (slots_of new)
store_to (Ok x) refusal other index entry wanted files files' old new same answers leaves = (sym same ∙ answers.0, leaves.files)
store_to (Err cat.Fault) refusal other index entry wanted files files' old new same answers leaves = (sym same ∙ answers, go leaves.one) where
  go : Holds new (slots_of old) ⊎ Holds new wanted → (slots_of new ≡ slots_of old) ⊎ (slots_of new ≡ wanted)
  go (inl before) = inl before.files
  go (inr after) = inr after.files
store_to (Err cat.NoSuch) refusal other index entry wanted files files' old new same answers leaves = (sym same ∙ answers.0, ap slots_of leaves)
store_to (Err cat.Taken) refusal other index entry wanted files files' old new same answers leaves = (sym same ∙ answers.0, ap slots_of leaves)
store_to (Err cat.Protected) refusal other index entry wanted files files' old new same answers leaves = (sym same ∙ answers.0, ap slots_of leaves)
store_to (Err (cat.TooLarge n)) refusal other index entry wanted files files' old new same answers leaves = (sym same ∙ answers.0, ap slots_of leaves)
store_to (Err cat.CatalogFull) refusal other index entry wanted files files' old new same answers leaves = (sym same ∙ answers.0, ap slots_of leaves)
store_to (Err (cat.Full n m)) refusal other index entry wanted files files' old new same answers leaves = (sym same ∙ answers.0, ap slots_of leaves)

told_with : {A : Type 0} (P Q : A → A → Type 0) (a b : Option A) → ((x y : A) → a ≡ Some x → P x y → Q x y) → WhereTold a b P → WhereTold a b Q
told_with P Q a None so told = tt
told_with P Q None (Some y) so told = absurd told
told_with P Q (Some x) (Some y) so told = so x y refl told

some_told : {A : Type 0} (o : Option A) (P : A → Type 0) → ((x : A) → o ≡ Some x → P x) → IfSome o P
some_told None P all = tt
some_told (Some x) P all = all x refl

-- ---- over a drive

module _ {D : Type 0} (contents : D → Option (List (List ℕ))) (count faults : D → ℕ)
    (counted : (drive : D) → IfSome (contents drive) (λ blocks. length blocks ≡ count drive))
    (sized : (drive : D) → IfSome (contents drive) (λ blocks. list_all is_block blocks ≡ true)) where
  -- a call that changes a file
  pub changes_in_slots : {X : Type 0} (result : Result X CatEnd) (refusal : Option CatEnd) (other : List (Option File) → Option CatEnd)
      (kept : List (Option StoredFile)) (wanted : List (Option File) → List (Option File)) (before after : Catalog D)
      → IsMounted contents count before
      → ((blocks : List (List ℕ)) → list_all is_block blocks ≡ true → length blocks ≡ count (drive_of (disk_of before)) → IsKeptOf blocks (files_of before)
      → refusal ≡ other (slots_of blocks))
      → Changes contents count faults result refusal kept wanted before after
      → WhereTold (contents (drive_of (disk_of before))) (contents (drive_of (disk_of after)))
      (λ old new. SlotsAnswer result (other (slots_of old)) (slots_of old) (wanted (slots_of old)) (slots_of new))
  changes_in_slots result refusal other kept wanted before after mounted same changes =
      told_with (λ old new. Leaves result (slots_of old) (wanted (slots_of old)) old new) _ (contents (drive_of (disk_of before)))
      (contents (drive_of (disk_of after)))
      (λ old new told leaves. changes_to result refusal (other (slots_of old)) (wanted (slots_of old)) (files_of before) (files_of after) kept old new
      (same old (some_fact (λ b. list_all is_block b ≡ true) _ old told (sized (drive_of (disk_of before))))
      (some_fact (λ b. length b ≡ count (drive_of (disk_of before))) _ old told (counted (drive_of (disk_of before)))) (mounted.image old told))
      changes.answers leaves)
      changes.leaves

  pub store_in_slots : {X : Type 0} (result : Result X CatEnd) (title : List ℕ) (k : FileKind) (bytes : List ℕ) (before after : Catalog D)
      → IsMounted contents count before
      → StoreChanges contents count faults result
      (not_stored title (length bytes) (blocks_free (count (drive_of (disk_of before))) (files_of before)) (files_of before)) title k bytes before after
      → WhereTold (contents (drive_of (disk_of before))) (contents (drive_of (disk_of after)))
      (λ old new. SlotsAnswer result (no_room title (length bytes) (free_in old) (slots_of old)) (slots_of old) (slots_stored title k bytes (slots_of old))
      (slots_of new))
  store_in_slots result title k bytes before after mounted changes =
      told_with (λ old new. Leaves result (slots_of old) (slots_stored title k bytes (slots_of old)) old new) _ (contents (drive_of (disk_of before)))
      (contents (drive_of (disk_of after)))
      (λ old new told leaves. store_to result _ (no_room title (length bytes) (free_in old) (slots_of old)) (index_for title (files_of before))
      (stored_entry title k (length bytes)) (slots_stored title k bytes (slots_of old))
      (files_of before) (files_of after) old new
      (storing_told old (count (drive_of (disk_of before))) (files_of before)
      (some_fact (λ b. list_all is_block b ≡ true) _ old told (sized (drive_of (disk_of before))))
      (some_fact (λ b. length b ≡ count (drive_of (disk_of before))) _ old told (counted (drive_of (disk_of before)))) mounted.stored (mounted.image old told)
      title (length bytes))
      changes.answers leaves)
      changes.leaves

  -- a call that only asks
  asked : (catalog : Catalog D) (Q : List (List ℕ) → Type 0) → IsMounted contents count catalog
      → ((blocks : List (List ℕ)) → list_all is_block blocks ≡ true → length blocks ≡ count (drive_of (disk_of catalog)) → IsKeptOf blocks (files_of catalog)
      → Q blocks)
      → IfSome (contents (drive_of (disk_of catalog))) Q
  asked catalog Q mounted so = some_told (contents (drive_of (disk_of catalog))) Q
      (λ blocks told. so blocks (some_fact (λ b. list_all is_block b ≡ true) _ blocks told (sized (drive_of (disk_of catalog))))
      (some_fact (λ b. length b ≡ count (drive_of (disk_of catalog))) _ blocks told (counted (drive_of (disk_of catalog)))) (mounted.image blocks told))

  pub find_in_slots : (catalog : Catalog D) (title : List ℕ) (result : Option Entry) → result ≡ option_map entry_of (file_titled title (files_of catalog))
      → IsMounted contents count catalog
      → IfSome (contents (drive_of (disk_of catalog))) (λ blocks. result ≡ option_map entry_told (find_file (slots_of blocks) title))
  find_in_slots catalog title result is mounted =
      asked catalog _ mounted (λ blocks size many kept.
      is ∙ find_told blocks (count (drive_of (disk_of catalog))) (files_of catalog) size many mounted.stored kept title)

  pub slot_in_slots : (catalog : Catalog D) (i : ℕ) (result : Option Entry) → result ≡ option_map entry_of (slice_index_or (files_of catalog) i None)
      → IsMounted contents count catalog
      → IfSome (contents (drive_of (disk_of catalog))) (λ blocks. result ≡ option_map entry_told (slot_at (slots_of blocks) i))
  slot_in_slots catalog i result is mounted =
      asked catalog _ mounted (λ blocks size many kept.
      is ∙ slot_told blocks (count (drive_of (disk_of catalog))) (files_of catalog) size many mounted.stored kept i
      (kept_at (count (drive_of (disk_of catalog))) (files_of catalog) i mounted.stored))

  pub free_in_slots : (catalog : Catalog D) (result : ℕ) → result ≡ count (drive_of (disk_of catalog)) - (33 + blocks_taken (files_of catalog))
      → IsMounted contents count catalog
      → IfSome (contents (drive_of (disk_of catalog))) (λ blocks. result ≡ free_in blocks)
  free_in_slots catalog result is mounted =
      asked catalog _ mounted (λ blocks size many kept.
      is ∙ free_told blocks (count (drive_of (disk_of catalog))) (files_of catalog) size many mounted.stored kept)

  -- a page that was read
  pub page_in_slots : {X : Type 0} (E : Type 0) (x : X) (before after : Catalog D) (title : List ℕ) (i : ℕ) (page : List ℕ) → IsMounted contents count before
      → length page ≡ 512
      → IfSome (file_titled title (files_of before)) (λ file. i < pages_of file.record_.length)
      → WhereTold (contents (drive_of (disk_of before))) (contents (drive_of (disk_of after)))
      (λ old new. (new ≡ old) × PageIs {X = X} {E = E} (Ok x) (file_titled title (files_of before)) i page old)
      → WhereTold (contents (drive_of (disk_of before))) (contents (drive_of (disk_of after)))
      (λ old new. PageIn {X = X} {E = E} (Ok x) (find_file (slots_of old) title) i page)
  page_in_slots {X} E x before after title i page mounted long within reads =
      told_with (λ old new. (new ≡ old) × PageIs {X = X} {E = E} (Ok x) (file_titled title (files_of before)) i page old) _
      (contents (drive_of (disk_of before))) (contents (drive_of (disk_of after)))
      (λ old new told is. page_told old (count (drive_of (disk_of before))) (files_of before)
      (some_fact (λ b. list_all is_block b ≡ true) _ old told (sized (drive_of (disk_of before))))
      (some_fact (λ b. length b ≡ count (drive_of (disk_of before))) _ old told (counted (drive_of (disk_of before)))) mounted.stored (mounted.image old told)
      E x title i page long within is.1)
      reads
