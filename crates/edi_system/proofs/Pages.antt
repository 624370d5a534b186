-- The byte of a text at a position, from the page that is kept.
use Rattle.std.proofs.Common.{◌≡◌, true, ◌≤◌, ◌<◌, ℕ, List, length, take, Option, Some, None, refl, sym, ap, subst, ◌∙◌, arith}
use Rattle.std.specs.Prelude.{◌/◌, ◌%◌, min, flat_map, slice_get, slice_index, IfSome, Ok, if◌then◌else◌}
use Rattle.std.specs.List.{list_all}
use Rattle.std.specs.Option.{option_map, option_and_then, ForSome}
use Rattle.std.proofs.lemmas.List.{length-take}
use Rattle.std.proofs.lemmas.Option.{slice_get_past}
use Rattle.edi_told.specs.Told.{WhereTold}
use Rattle.edi_disk.specs.Shown.{drive_of}
use Rattle.edi_host.specs.Blocks.{is_block}
use Rattle.edi_calls.specs.declared.kinds.FileKind.{FileKind}
use Rattle.edi_calls.specs.declared.kinds.FileKind.TheVariants as kind
use Rattle.edi_calls.specs.State.{find_file, pages_of}
use Rattle.edi_calls.specs.Calls.{bytes_of, found_as, is_text}
use Rattle.edi_catalog.specs.declared.catalog.Catalog.{Catalog}
use Rattle.edi_image.specs.Entries.{block_at}
use Rattle.edi_image.specs.Image.{slots_of}
use Rattle.edi_image.specs.Stored.{StoredFile, is_stored, bytes_in, IsKeptOf}
use Rattle.edi_catalog.specs.Files.{entry_of, file_titled, PageIs}
use Rattle.edi_catalog.specs.Mounted.{disk_of, files_of, IsMounted}
use Rattle.edi_catalog.proofs.Mounts.{told_now}
use Rattle.edi_image.proofs.KeptFiles.{file_of}
use Rattle.edi_system.specs.State.{found_of, IsReading}
use Rattle.edi_system.specs.Reading.{begun, byte_in, text_of}
use Rattle.edi_system.specs.declared.reading.Reading.{Reading}
use Rattle.edi_catalog.proofs.PageBytes.{byte_at, file_in}
use Rattle.edi_catalog.proofs.Sizes.{kept_pages, page_sized, some_fact, titled_kept}

byte_of : (blocks : List (List ℕ)) (title : List ℕ) (files : List (Option StoredFile)) (file : StoredFile) (position : ℕ) → IsKeptOf blocks files
    → file_titled title files ≡ Some file → byte_in blocks title position ≡ slice_get (bytes_in blocks file) position
byte_of blocks title files file position kept there =
    ap (λ o. slice_get (bytes_of o) position) (file_in blocks title files kept ∙ ap (option_map (file_of blocks)) there)

-- no byte stands at the end
pub byte_none : {D : Type 0} (contents : D → Option (List (List ℕ))) (count : D → ℕ) (catalog : Catalog D) (page : List ℕ) (reading : Reading)
    (blocks : List (List ℕ))
    → IsMounted contents count catalog → IsReading contents catalog page reading → reading.length ≤ reading.position
    → contents (drive_of (disk_of catalog)) ≡ Some blocks → byte_in blocks reading.title reading.position ≡ None
byte_none contents count catalog page reading blocks mounted r ends told =
    let many : length (take r.file.record_.length (flat_map (block_at blocks) r.file.pages)) ≡ min r.file.record_.length
    (length (flat_map (block_at blocks) r.file.pages)) =
    length-take r.file.record_.length (flat_map (block_at blocks) r.file.pages) in
    byte_of blocks reading.title (files_of catalog) r.file reading.position (mounted.image blocks told) r.there
    ∙ slice_get_past (bytes_in blocks r.file) reading.position (omega (arith, many, r.length_, ends))

-- the byte at a position whose page is kept
pub byte_some : {D : Type 0} (contents : D → Option (List (List ℕ))) (count : D → ℕ)
    → ((drive : D) → IfSome (contents drive) (λ blocks. length blocks ≡ count drive))
    → ((drive : D) → IfSome (contents drive) (λ blocks. list_all is_block blocks ≡ true))
    → (catalog : Catalog D) (page : List ℕ) (reading : Reading) (blocks : List (List ℕ)) → IsMounted contents count catalog → IsReading contents catalog page
    reading
    → reading.position < reading.length → reading.kept ≡ Some (reading.position / 512) → contents (drive_of (disk_of catalog)) ≡ Some blocks
    → byte_in blocks reading.title reading.position ≡ Some (slice_index page (reading.position % 512))
byte_some {D} contents count counted sized catalog page reading blocks mounted r below loaded told =
    let i = reading.position / 512 in
    let drive : D = drive_of (disk_of catalog) in
    let stored = subst (λ o. is_stored (count drive) o ≡ true) r.there (titled_kept (count drive) reading.title (files_of catalog) mounted.stored) in
    let fits = kept_pages (count drive) r.file stored in
    let here = some_fact (λ i. ForSome (contents drive) (λ blocks. block_at blocks (slice_index r.file.pages i) ≡ page)) reading.kept i loaded r.kept in
    byte_of blocks reading.title (files_of catalog) r.file reading.position (mounted.image blocks told) r.there
    ∙ byte_at (block_at blocks) r.file.pages r.file.record_.length reading.position i page
    (λ j h. page_sized blocks (count drive) r.file.pages j
    (some_fact (λ b. list_all is_block b ≡ true) (contents drive) blocks told (sized drive))
    (some_fact (λ b. length b ≡ count drive) (contents drive) blocks told (counted drive)) fits.0 h)
    refl (few reading.position reading.length r.file.record_.length (length r.file.pages) below r.length_ fits.1)
    (subst (λ n. reading.position < n) (sym r.length_) below) (here blocks told)
  where
    few : (position n length pages : ℕ) → position < n → length ≡ n → pages ≡ pages_of length → position / 512 < pages
    few position n length pages h l p = omega (arith, h, l, p)

-- ---- a page that is read

-- the text with the page of its position kept
pub page_read : {D X : Type 0} (E : Type 0) (contents : D → Option (List (List ℕ))) (x : X) (before after : Catalog D) (page page' : List ℕ)
    (reading : Reading) (i : ℕ)
    → IsReading contents before page reading → files_of after ≡ files_of before
    → WhereTold (contents (drive_of (disk_of before))) (contents (drive_of (disk_of after)))
    (λ old new. (new ≡ old) × PageIs {X = X} {E = E} (Ok x) (file_titled reading.title (files_of before)) i page' old)
    → IsReading contents after page' (record reading { kept = Some i })
page_read {D} {X} E contents x before after page page' reading i r same reads = record {
  file = r.file;
  there = ap (file_titled reading.title) same ∙ r.there;
  text = r.text;
  length_ = r.length_;
  within = r.within;
  kept = λ blocks told.
      subst (λ o. PageIs {X = X} {E = E} (Ok x) o i page' blocks) r.there
      (told_now (contents (drive_of (disk_of before))) (contents (drive_of (disk_of after)))
      (λ old. PageIs {X = X} {E = E} (Ok x) (file_titled reading.title (files_of before)) i page' old) reads blocks told).1;
}

-- ---- a text at its start

pub text_ready : {D : Type 0} (contents : D → Option (List (List ℕ))) (catalog : Catalog D) (page title : List ℕ)
    → IfSome (text_of title (option_map entry_of (file_titled title (files_of catalog)))) (IsReading contents catalog page)
text_ready contents catalog page title = go (file_titled title (files_of catalog)) refl where
  by_kind : (file : StoredFile) → file_titled title (files_of catalog) ≡ Some file → (k : FileKind) → file.record_.kind ≡ k
      → IfSome (if is_text k then Some (begun title file.record_.length) else None) (IsReading contents catalog page)
  by_kind file there kind.Text text = record {
    file = file;
    there = there;
    text = text;
    length_ = refl;
    within = omega arith;
    kept = tt;
  }
  by_kind file there kind.Code text = tt

  go : (o : Option StoredFile) → file_titled title (files_of catalog) ≡ o → IfSome (text_of title (option_map entry_of o)) (IsReading contents catalog page)
  go None there = tt
  go (Some file) there = by_kind file there file.record_.kind refl

-- the text that is found is that of the image
pub text_found : (blocks : List (List ℕ)) (title : List ℕ) (files : List (Option StoredFile)) → IsKeptOf blocks files
    → option_and_then (found_as title) (find_file (slots_of blocks) title) ≡ option_map found_of (text_of title (option_map entry_of (file_titled title files)))
text_found blocks title files kept = ap (option_and_then (found_as title)) (file_in blocks title files kept) ∙ go (file_titled title files) where
  by_kind : (length : ℕ) (k : FileKind)
      → (if is_text k then Some (record { title = title; position = 0 }) else None) ≡ option_map found_of
      (if is_text k then Some (begun title length) else None)
  by_kind length kind.Text = refl
  by_kind length kind.Code = refl

  go : (o : Option StoredFile) → option_and_then (found_as title) (option_map (file_of blocks) o) ≡ option_map found_of (text_of title (option_map entry_of o))
  go None = refl
  go (Some file) = by_kind file.record_.length file.record_.kind
