-- The files of other titles, after one file is stored, removed or protected.
use Rattle.std.proofs.Common.{◌≡◌, ℕ, zero, suc, Bool, true, false, List, [], ◌∷◌, set, Option, Some, None, refl, sym, ap, subst, ◌∙◌}
use Rattle.std.specs.Prelude.{is_none, if◌then◌else◌, slice_index_or, IfSome}
use Rattle.std.specs.Option.{option_map, option_and_then}
use Rattle.std.specs.Str.{bytes_eq}
use Rattle.std.specs.Cmp.Lexicographic.{nat_list_eq_equiv}
use Rattle.edi_calls.specs.declared.kinds.FileKind.{FileKind}
use Rattle.edi_catalog.specs.declared.catalog.Catalog.{Catalog}
use Rattle.edi_catalog.specs.declared.entry.Entry.{Entry}
use Rattle.edi_image.specs.Stored.{StoredFile, is_titled}
use Rattle.edi_catalog.specs.Files.{file_titled, find_index}
use Rattle.edi_catalog.specs.Mounted.{files_of}
use Rattle.edi_catalog.specs.Changes.{kept_changed, kept_protected}
use Rattle.edi_catalog.specs.SlotsChanged.{changed_at, deleted}
use Rattle.edi_catalog.specs.Storing.{free_index, index_for, stored_entry, IsStoredAt}
use Rattle.edi_system.specs.State.{IsReading}
use Rattle.edi_system.specs.Reading.{forgotten, not_titled}
use Rattle.edi_system.specs.declared.reading.Reading.{Reading}

-- ---- the file of a title

-- it is in the first slot or behind it
titled_step : (title : List ℕ) (file : Option StoredFile) (files : List (Option StoredFile))
    → file_titled title (file ∷ files) ≡ (if is_titled title file then file else file_titled title files)
titled_step title file files = go (is_titled title file) (find_index title files) where
  go : (b : Bool) (index : Option ℕ)
      → option_and_then (λ k. slice_index_or (file ∷ files) k None) (if b then Some 0 else option_map suc index)
      ≡ (if b then file else option_and_then (λ k. slice_index_or files k None) index)
  go true index = refl
  go false None = refl
  go false (Some k) = refl

-- a slot without it gets something that is not it
other_titled : (title : List ℕ) (files : List (Option StoredFile)) (at : ℕ) (slot : Option StoredFile)
    → is_titled title (slice_index_or files at None) ≡ false → is_titled title slot ≡ false → file_titled title (set files at slot) ≡ file_titled title files
other_titled title [] at slot was now = refl
other_titled title (file ∷ files) zero slot was now =
    titled_step title slot files ∙ ap (λ b. if b then slot else file_titled title files) now
    ∙ sym (ap (λ b. if b then file else file_titled title files) was) ∙ sym (titled_step title file files)
other_titled title (file ∷ files) (suc at) slot was now =
    titled_step title file (set files at slot) ∙ ap (λ rest. if is_titled title file then file else rest) (other_titled title files at slot was now)
    ∙ sym (titled_step title file files)

-- a slot with a file of one title has none of another
not_other : (title other : List ℕ) (slot : Option StoredFile) → bytes_eq other title ≡ false → is_titled title slot ≡ true → is_titled other slot ≡ false
not_other title other None differ here = refl
not_other title other (Some file) differ here =
    nat_list_eq_equiv.symm other file.record_.title ∙ sym (nat_list_eq_equiv.congr title file.record_.title other here)
    ∙ nat_list_eq_equiv.symm title other ∙ differ

none_titled : (title : List ℕ) (slot : Option StoredFile) → is_none slot ≡ true → is_titled title slot ≡ false
none_titled title None here = refl
none_titled title (Some file) here = absurd (let no : false ≡ true = here in cc)

-- what is in the slot of a title, and in the first free one
pub find_titled : (title : List ℕ) (files : List (Option StoredFile)) (at : ℕ) → find_index title files ≡ Some at
    → is_titled title (slice_index_or files at None) ≡ true
find_titled title [] at h = absurd (let no : None ≡ Some at = h in cc)
find_titled title (file ∷ files) at h = go (is_titled title file) refl (find_index title files) refl h (find_titled title files) where
  go : (b : Bool) → is_titled title file ≡ b → (index : Option ℕ) → find_index title files ≡ index
      → (if b then Some 0 else option_map suc index) ≡ Some at
      → ((k : ℕ) → find_index title files ≡ Some k → is_titled title (slice_index_or files k None) ≡ true)
      → is_titled title (slice_index_or (file ∷ files) at None) ≡ true
  go true first index e h rest =
      (let is : Some 0 ≡ Some at = h in
      let same : 0 ≡ at = cc in ap (λ n. is_titled title (slice_index_or (file ∷ files) n None)) (sym same) ∙ first)
  go false first None e h rest = absurd (let no : None ≡ Some at = h in cc)
  go false first (Some k) e h rest =
      (let is : Some (suc k) ≡ Some at = h in
      let same : suc k ≡ at = cc in ap (λ n. is_titled title (slice_index_or (file ∷ files) n None)) (sym same) ∙ rest k e)

free_empty : (files : List (Option StoredFile)) (at : ℕ) → free_index files ≡ Some at → is_none (slice_index_or files at None) ≡ true
free_empty [] at h = absurd (let no : None ≡ Some at = h in cc)
free_empty (file ∷ files) at h = go (is_none file) refl (free_index files) refl h (free_empty files) where
  go : (b : Bool) → is_none file ≡ b → (index : Option ℕ) → free_index files ≡ index
      → (if b then Some 0 else option_map suc index) ≡ Some at
      → ((k : ℕ) → free_index files ≡ Some k → is_none (slice_index_or files k None) ≡ true)
      → is_none (slice_index_or (file ∷ files) at None) ≡ true
  go true first index e h rest =
      (let is : Some 0 ≡ Some at = h in
      let same : 0 ≡ at = cc in ap (λ n. is_none (slice_index_or (file ∷ files) n None)) (sym same) ∙ first)
  go false first None e h rest = absurd (let no : None ≡ Some at = h in cc)
  go false first (Some k) e h rest =
      (let is : Some (suc k) ≡ Some at = h in
      let same : suc k ≡ at = cc in ap (λ n. is_none (slice_index_or (file ∷ files) n None)) (sym same) ∙ rest k e)

-- ---- after a store, and after a removal

pub stored_others : (title : List ℕ) (kind : FileKind) (size : ℕ) (files new : List (Option StoredFile)) (other : List ℕ) → bytes_eq other title ≡ false
    → IsStoredAt (index_for title files) (stored_entry title kind size) files new → file_titled other new ≡ file_titled other files
stored_others title kind size files new other differ stored =
    ap (file_titled other) stored.others
    ∙ other_titled other files stored.at (Some stored.file) (was (find_index title files) refl stored.index_)
    (ap (bytes_eq other) (ap (λ (e : Entry). e.title) stored.entry_) ∙ differ)
  where
    was : (index : Option ℕ) → find_index title files ≡ index → (if is_none index then free_index files else index) ≡ Some stored.at
        → is_titled other (slice_index_or files stored.at None) ≡ false
    was None e h = none_titled other (slice_index_or files stored.at None) (free_empty files stored.at h)
    was (Some k) e h =
        not_other title other (slice_index_or files stored.at None) differ (find_titled title files stored.at (e ∙ h))

pub removed_others : (title : List ℕ) (files new : List (Option StoredFile)) (other : List ℕ) → bytes_eq other title ≡ false
    → new ≡ kept_changed deleted title files → file_titled other new ≡ file_titled other files
removed_others title files new other differ now = ap (file_titled other) now ∙ go (find_index title files) refl where
  nothing : (slot : Option StoredFile) → is_titled other (option_and_then deleted slot) ≡ false
  nothing None = refl
  nothing (Some file) = refl

  go : (index : Option ℕ) → find_index title files ≡ index
      → file_titled other (kept_changed deleted title files) ≡ file_titled other files
  go None e = ap (λ o. file_titled other (changed_at deleted o files)) e
  go (Some k) e =
      ap (λ o. file_titled other (changed_at deleted o files)) e
      ∙ other_titled other files k (option_and_then deleted (slice_index_or files k None))
      (not_other title other (slice_index_or files k None) differ (find_titled title files k e)) (nothing (slice_index_or files k None))

-- ---- after a change of protection

-- no file, or files that are read alike
abbrev pub AreAlike : Option StoredFile → Option StoredFile → Type 0
AreAlike None None = Unit {0}
AreAlike (Some old) (Some new) =
    (new.record_.title ≡ old.record_.title) × (new.record_.kind ≡ old.record_.kind) × (new.record_.length ≡ old.record_.length)
AreAlike _ _ = ⊥

pub alike_same : (file : Option StoredFile) → AreAlike file file
alike_same None = tt
alike_same (Some file) = (refl, refl, refl)

alike_title : (title : List ℕ) (old new : Option StoredFile) → AreAlike old new → is_titled title new ≡ is_titled title old
alike_title title None None alike = refl
alike_title title (Some old) (Some new) alike = ap (bytes_eq title) alike.0
alike_title title None (Some new) alike = absurd alike
alike_title title (Some old) None alike = absurd alike

alike_set : (title : List ℕ) (files : List (Option StoredFile)) (at : ℕ) (slot : Option StoredFile)
    → AreAlike (slice_index_or files at None) slot → AreAlike (file_titled title files) (file_titled title (set files at slot))
alike_set title [] at slot alike = tt
alike_set title (file ∷ files) zero slot alike =
    subst (λ o. AreAlike o (file_titled title (slot ∷ files))) (sym (titled_step title file files))
    (subst (λ o. AreAlike (if is_titled title file then file else file_titled title files) o)
    (sym (titled_step title slot files ∙ ap (λ b. if b then slot else file_titled title files) (alike_title title file slot alike)))
    (go (is_titled title file)))
  where
    go : (b : Bool) → AreAlike (if b then file else file_titled title files) (if b then slot else file_titled title files)
    go true = alike
    go false = alike_same (file_titled title files)
alike_set title (file ∷ files) (suc at) slot alike =
    subst (λ o. AreAlike o (file_titled title (file ∷ set files at slot))) (sym (titled_step title file files))
    (subst (λ o. AreAlike (if is_titled title file then file else file_titled title files) o) (sym (titled_step title file (set files at slot)))
    (go (is_titled title file) (alike_set title files at slot alike)))
  where
    go : (b : Bool) → AreAlike (file_titled title files) (file_titled title (set files at slot))
        → AreAlike (if b then file else file_titled title files) (if b then file else file_titled title (set files at slot))
    go true rest = alike_same file
    go false rest = rest

pub protected_alike : (protected : Bool) (title : List ℕ) (files new : List (Option StoredFile)) (other : List ℕ)
    → new ≡ kept_changed (kept_protected protected) title files → AreAlike (file_titled other files) (file_titled other new)
protected_alike protected title files new other now =
    subst (λ fs. AreAlike (file_titled other files) (file_titled other fs)) (sym now) (go (find_index title files)) where
      marked : (slot : Option StoredFile) → AreAlike slot (option_and_then (kept_protected protected) slot)
      marked None = tt
      marked (Some file) = (refl, refl, refl)

      go : (index : Option ℕ) → AreAlike (file_titled other files) (file_titled other (changed_at (kept_protected protected) index files))
      go None = alike_same (file_titled other files)
      go (Some k) = alike_set other files k (option_and_then (kept_protected protected) (slice_index_or files k None)) (marked (slice_index_or files k None))

-- ---- the text that is read

again : {D : Type 0} (contents : D → Option (List (List ℕ))) (before after : Catalog D) (page : List ℕ) (reading : Reading)
    → AreAlike (file_titled reading.title (files_of before)) (file_titled reading.title (files_of after))
    → IsReading contents before page reading → IsReading contents after page (forgotten reading)
again contents before after page reading alike r =
    go (file_titled reading.title (files_of after)) refl
    (subst (λ o. AreAlike o (file_titled reading.title (files_of after))) r.there alike)
  where
    go : (o : Option StoredFile) → file_titled reading.title (files_of after) ≡ o → AreAlike (Some r.file) o → IsReading contents after page (forgotten reading)
    go None e alike = absurd alike
    go (Some file) e alike = record {
      file = file;
      there = e;
      text = alike.1 ∙ r.text;
      length_ = alike.2 ∙ r.length_;
      within = r.within;
      kept = tt;
    }

pub forgotten_ready : {D : Type 0} (contents : D → Option (List (List ℕ))) (before after : Catalog D) (page : List ℕ) (found : Option Reading)
    → ((title : List ℕ) → AreAlike (file_titled title (files_of before)) (file_titled title (files_of after)))
    → IfSome found (IsReading contents before page) → IfSome (option_map forgotten found) (IsReading contents after page)
forgotten_ready contents before after page None alike r = tt
forgotten_ready contents before after page (Some reading) alike r = again contents before after page reading (alike reading.title) r

pub not_titled_ready : {D : Type 0} (contents : D → Option (List (List ℕ))) (before after : Catalog D) (page title : List ℕ) (found : Option Reading)
    → ((other : List ℕ) → bytes_eq other title ≡ false → file_titled other (files_of after) ≡ file_titled other (files_of before))
    → IfSome found (IsReading contents before page) → IfSome (not_titled title found) (IsReading contents after page)
not_titled_ready contents before after page title None same r = tt
not_titled_ready contents before after page title (Some reading) same r = go (bytes_eq reading.title title) refl where
  go : (b : Bool) → bytes_eq reading.title title ≡ b → IfSome (if b then None else Some (forgotten reading)) (IsReading contents after page)
  go true e = tt
  go false e =
      again contents before after page reading
      (subst (λ o. AreAlike (file_titled reading.title (files_of before)) o) (sym (same reading.title e))
      (alike_same (file_titled reading.title (files_of before)))) r
