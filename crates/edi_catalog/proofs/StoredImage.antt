-- An image in which a new file is laid in free blocks and its entry is written.
use Rattle.std.proofs.Common.{◌≡◌, ◌⊎◌, inl, inr, ℕ, suc, ◌+◌, ◌-◌, ◌*◌, ◌/◌, ◌<◌, ◌≤◌, Bool, true, false, List, [], ◌∷◌, ◌++◌, length, take, min, set}
use Rattle.std.proofs.Common.{get_or, refl, ap, sym, subst, ◌∙◌, arith}
use Rattle.std.specs.Prelude.{◌&&◌, ◌||◌, ◌==◌, nat_le, nat_lt, not, map, flat_map, if◌then◌else◌, Option, Some, None, is_none, slice_index_or}
use Rattle.std.specs.List.{list_all, list_any}
use Rattle.std.specs.Str.{bytes_eq}
use Rattle.std.specs.Option.{option_map}
use Rattle.std.proofs.Math.Seq.{set-append_seam, get_or-append_seam}
use Rattle.std.proofs.lemmas.Bool.{or_cases, and_parts, leb-true, false_from_ne_true, true≢false}
use Rattle.std.proofs.lemmas.List.{map-append, map-set, length-set}
use Rattle.std.proofs.lemmas.List.Folds.{list_all-append}
use Rattle.std.proofs.lemmas.Slice.Eq.{bytes_eq-Decides}
use Rattle.edi_calls.specs.State.{pages_of}
use Rattle.edi_image.specs.declared.faults.MountFault.TheVariants as fault
use Rattle.edi_image.specs.declared.entries.Said.{Said}
use Rattle.edi_image.specs.declared.entries.Said.TheVariants as said
use Rattle.edi_image.specs.Rules.{first_broken, used_by, is_in}
use Rattle.edi_image.specs.Entries.{block_at, is_data}
use Rattle.edi_image.specs.Image.{header_rules, titles_in, map_rules, maps_rules, numbers_in, numbers_of, slot_rules, said_at, entries_of, slots_of}
use Rattle.edi_image.specs.Stored.{StoredFile, stored_of, are_data, is_record, is_stored, is_titled, bytes_in, IsKeptOf}
use Rattle.edi_catalog.specs.Files.{find_index}
use Rattle.edi_image.specs.Bytes.{bytes_of_record}
use Rattle.edi_catalog.specs.Plan.{used_in, blocks_used, AreFree}
use Rattle.edi_catalog.specs.Putting.{IsNew}
use Rattle.edi_catalog.specs.Storing.{free_index, index_for}
use Rattle.edi_image.proofs.FileRules.{used_by-append}
use Rattle.edi_image.proofs.MapRules.{used_by-page_rules}
use Rattle.edi_image.proofs.ImageRules.{rules_of}
use Rattle.edi_image.proofs.KeptFiles.{file_of, slots_are}
use Rattle.edi_image.proofs.EntryBytes.{says_record}
use Rattle.edi_catalog.proofs.EntryFrames.{entries_around, entries_written}
use Rattle.edi_image.proofs.UsedBlocks.{uses_of, uses_all, titles_all, others_used, none_right}
use Rattle.edi_catalog.proofs.OneEntry.{Around, around, one_changed, IsApart, own_apart, new_apart, any_left, any_right}
use Rattle.edi_catalog.proofs.Changed.{KeepsData, keeps_written, all_kept, stored_same, untitled, titles_all-append, front_of, back_of, length-front}
use Rattle.edi_catalog.proofs.Changed.{image_holds, files_kept, record_room}
use Rattle.edi_catalog.proofs.Unchanged.{in_append, in_left, in_right, in_later, same_kept, same_slots, free_same, IsSameImage, not_both, all_in}
use Rattle.edi_catalog.proofs.Different.{in_woven}
use Rattle.edi_catalog.proofs.Laid.{AreMaps, ArePages, maps_tell, maps_use, maps_keep, pages_hold, put_maps, put_pages}
use Rattle.edi_catalog.proofs.NewlyLaid.{IsLaid}
use Rattle.edi_catalog.proofs.PutBlocks.{in_at}
use Rattle.edi_catalog.proofs.FileShape.{IsShaped, shape_of, maps_enough, pages_enough}

-- ---- the blocks that entries use are those of their files

in_spread : (b : ℕ) (maps own rest : List ℕ) → is_in b (maps ++ rest) ≡ true → is_in b (maps ++ (own ++ rest)) ≡ true
in_spread b maps own rest h =
    elim (or_cases (is_in b maps) (is_in b rest) (sym (in_append b maps rest) ∙ h)) [
      | inl a ↦ in_left b maps (own ++ rest) a
      | inr c ↦ in_right b maps (own ++ rest) (in_right b own rest c)
    ]

in_maps : (b : ℕ) (blocks : List (List ℕ)) (pages : ℕ) (maps : List ℕ) → is_in b (used_by (maps_rules 33 blocks 0 pages maps)) ≡ true
    → is_in b (maps ++ numbers_of blocks pages maps) ≡ true
in_maps b blocks pages [] h = absurd (true≢false (sym h))
in_maps b blocks pages (m ∷ maps) h =
    let own : List ℕ = numbers_in (block_at blocks m) (min pages 255) in
    let rest : List ℕ = used_by (maps_rules 33 blocks 0 (pages - 255) maps) in
    let cut : is_in b (m ∷ (own ++ rest)) ≡ true =
    ap (λ ns. is_in b (m ∷ (ns ++ rest))) (sym (used_by-page_rules 33 (length blocks) 0 own))
    ∙ ap (is_in b) (sym (used_by-append (map_rules 33 blocks 0 (min pages 255) m) (maps_rules 33 blocks 0 (pages - 255) maps))) ∙ h in
    elim (or_cases (m == b) (is_in b (own ++ rest)) cut) [
      | inl here ↦ ap (λ t. t || is_in b (maps ++ (own ++ numbers_of blocks (pages - 255) maps))) here
      | inr later ↦
          in_later b m (maps ++ (own ++ numbers_of blocks (pages - 255) maps))
          (elim (or_cases (is_in b own) (is_in b rest) (sym (in_append b own rest) ∙ later)) [
            | inl a ↦ in_right b maps (own ++ numbers_of blocks (pages - 255) maps) (in_left b own (numbers_of blocks (pages - 255) maps) a)
            | inr c ↦ in_spread b maps own (numbers_of blocks (pages - 255) maps) (in_maps b blocks (pages - 255) maps c)
          ])
    ]

in_uses : (b : ℕ) (blocks : List (List ℕ)) (s : Said) → is_in b (uses_of blocks s) ≡ true → is_in b (used_in (stored_of blocks s)) ≡ true
in_uses b blocks said.Free h = absurd (true≢false (sym h))
in_uses b blocks said.Wrong h = absurd (true≢false (sym h))
in_uses b blocks (said.File r) h = in_maps b blocks (pages_of r.length) r.maps h

in_uses_all : (b : ℕ) (blocks : List (List ℕ)) (es : List Said) → is_in b (uses_all blocks es) ≡ true
    → is_in b (blocks_used (map (stored_of blocks) es)) ≡ true
in_uses_all b blocks [] h = absurd (true≢false (sym h))
in_uses_all b blocks (s ∷ es) h =
    elim (or_cases (is_in b (uses_of blocks s)) (is_in b (uses_all blocks es)) (sym (in_append b (uses_of blocks s) (uses_all blocks es)) ∙ h)) [
      | inl a ↦ in_left b (used_in (stored_of blocks s)) (blocks_used (map (stored_of blocks) es)) (in_uses b blocks s a)
      | inr c ↦ in_right b (used_in (stored_of blocks s)) (blocks_used (map (stored_of blocks) es)) (in_uses_all b blocks es c)
    ]

used_append : (b : ℕ) (xs ys : List (Option StoredFile)) → (is_in b (blocks_used xs) ≡ true) ⊎ (is_in b (blocks_used ys) ≡ true)
    → is_in b (blocks_used (xs ++ ys)) ≡ true
used_append b [] ys (inl h) = absurd (true≢false (sym h))
used_append b [] ys (inr h) = h
used_append b (x ∷ xs) ys (inr h) = in_right b (used_in x) (blocks_used (xs ++ ys)) (used_append b xs ys (inr h))
used_append b (x ∷ xs) ys (inl h) =
    elim (or_cases (is_in b (used_in x)) (is_in b (blocks_used xs)) (sym (in_append b (used_in x) (blocks_used xs)) ∙ h)) [
      | inl a ↦ in_left b (used_in x) (blocks_used (xs ++ ys)) a
      | inr c ↦ in_right b (used_in x) (blocks_used (xs ++ ys)) (used_append b xs ys (inl c))
    ]

-- ---- what is known of the new file

pages_data : (count : ℕ) (maps pages : List ℕ) → are_data count (maps ++ pages) ≡ true → are_data count pages ≡ true
pages_data count maps pages h =
    (and_parts (are_data count maps) (are_data count pages) (sym (list_all-append (is_data 33 count) maps pages) ∙ h)).1

record_kept : (count : ℕ) (file : StoredFile) → is_stored count (Some file) ≡ true → is_record count file.record_ ≡ true
record_kept count file h =
    let pages = and_parts (is_record count file.record_ && are_data count file.pages) (length file.pages == pages_of file.record_.length) h in
    (and_parts (is_record count file.record_) (are_data count file.pages) pages.0).0

-- a block of a file lies behind the catalogue
high : (count : ℕ) (numbers : List ℕ) (j : ℕ) → are_data count numbers ≡ true → j < length numbers → 33 ≤ get_or numbers j 0
high count numbers j h less =
    let data_ : is_data 33 count (get_or numbers j 0) ≡ true = all_in (is_data 33 count) numbers (get_or numbers j 0) h (in_at numbers j less) in
    leb-true 33 (get_or numbers j 0) (and_parts (nat_le 33 (get_or numbers j 0)) (nat_lt (get_or numbers j 0) count) data_).0

-- its maps and pages stay where the catalogue alone changes
maps_later : (count : ℕ) (laid new : List (List ℕ)) (file : StoredFile) → IsShaped count file → KeepsData laid new
    → AreMaps file.record_.maps file.pages laid → AreMaps file.record_.maps file.pages new
maps_later count laid new file shape keeps are j h =
    keeps (get_or file.record_.maps j 0) (high count file.record_.maps j shape.maps_data h) ∙ are j h

pages_later : (count : ℕ) (laid new : List (List ℕ)) (file : StoredFile) (bytes : List ℕ) → IsShaped count file → KeepsData laid new
    → ArePages file.pages bytes laid → ArePages file.pages bytes new
pages_later count laid new file bytes shape keeps are j h =
    keeps (get_or file.pages j 0) (high count file.pages j shape.pages_data h) ∙ are j h

-- ---- the titles of the others

index_titled : (title : List ℕ) (files : List (Option StoredFile)) (index : ℕ) → find_index title files ≡ Some index
    → is_titled title (slice_index_or files index None) ≡ true
index_titled title [] index h = absurd (let no : None ≡ Some index = h in cc)
index_titled title (file ∷ files) index h = here (is_titled title file) refl index h (find_index title files) (λ later e. index_titled title files later e)
  where
    here : (b : Bool) → is_titled title file ≡ b → (index : ℕ) → (if b then Some 0 else option_map suc (find_index title files)) ≡ Some index
        → (rest : Option ℕ) → ((later : ℕ) → find_index title files ≡ Some later → is_titled title (slice_index_or files later None) ≡ true)
        → is_titled title (slice_index_or (file ∷ files) index None) ≡ true
    here true e index h rest later =
        (let same : Some 0 ≡ Some index = h in let zero_index : 0 ≡ index = cc in
        subst (λ p. is_titled title (slice_index_or (file ∷ files) p None) ≡ true) zero_index e)
    here false e index h rest later = behind (find_index title files) refl h where
      behind : (o : Option ℕ) → find_index title files ≡ o → option_map suc o ≡ Some index → is_titled title (slice_index_or (file ∷ files) index None) ≡ true
      behind None f g = absurd (let no : None ≡ Some index = g in cc)
      behind (Some k) f g =
          (let same : Some (suc k) ≡ Some index = g in let next : suc k ≡ index = cc in
          subst (λ p. is_titled title (slice_index_or (file ∷ files) p None) ≡ true) next (later k f))

-- the entry of a slot whose file has the title
replaced_apart : (blocks : List (List ℕ)) (front back : List Said) (s : Said) (title : List ℕ) → Around blocks front s back
    → is_titled title (stored_of blocks s) ≡ true → IsApart front back title
replaced_apart blocks front back said.Free title around h = absurd (true≢false (sym h))
replaced_apart blocks front back said.Wrong title around h = absurd (true≢false (sym h))
replaced_apart blocks front back (said.File r) title around h =
    subst (IsApart front back) (sym ((bytes_eq-Decides title r.title).0 h)) (own_apart blocks front back r around)

-- a title that no file has
fresh_apart : (blocks : List (List ℕ)) (front back : List Said) (s : Said) (title : List ℕ)
    → find_index title (map (stored_of blocks) (front ++ s ∷ back)) ≡ None → IsApart front back title
fresh_apart blocks front back s title none =
    let all : list_any (bytes_eq title) (titles_all front ++ titles_all (s ∷ back)) ≡ false =
    ap (list_any (bytes_eq title)) (sym (titles_all-append front (s ∷ back))) ∙ untitled blocks title (front ++ s ∷ back) none in
    new_apart front back title
    (any_left title (titles_all front) (titles_all (s ∷ back)) all)
    (any_right title (titles_in s) (titles_all back) (any_right title (titles_all front) (titles_all (s ∷ back)) all))

-- ---- the rules

-- what is known of an image whose free blocks have the maps and pages of a new file, with its entry written
record Laid (laid new : List (List ℕ)) (files : List (Option StoredFile)) (slot : ℕ) (file : StoredFile) : Type 0 where
  kept : IsKeptOf laid files
  size : length new ≡ length laid
  keeps : KeepsData laid new
  around_it : Around laid (front_of laid slot) (said_at laid slot) (back_of laid slot)
  listed : files ≡ map (stored_of laid) (front_of laid slot) ++ stored_of laid (said_at laid slot) ∷ map (stored_of laid) (back_of laid slot)
  free : AreFree (length laid) files (used_in (Some file))
  maps : AreMaps file.record_.maps file.pages new
  many : length file.pages ≡ pages_of file.record_.length

-- a block that the new file uses is used by no other
not_shared : (laid new : List (List ℕ)) (files : List (Option StoredFile)) (slot : ℕ) (file : StoredFile) (es : List Said) (b n : ℕ)
    → Laid laid new files slot file → ((c : ℕ) → is_in c (blocks_used (map (stored_of laid) es)) ≡ true → is_in c (blocks_used files) ≡ true)
    → is_in b (uses_all laid es) ≡ true → is_in b (used_by (maps_rules 33 new n (length file.pages) file.record_.maps)) ≡ true → ⊥
not_shared laid new files slot file es b n is inside there here =
    let mine : is_in b (used_in (Some file)) ≡ true =
    in_woven b file.record_.maps file.pages (ap (is_in b) (sym (maps_use n file.record_.maps file.pages new is.maps)) ∙ here) in
    true≢false (sym mine ∙ not_both (used_in (Some file)) (blocks_used files) b is.free.unused (inside b (in_uses_all b laid es there)))

front_used : (laid new : List (List ℕ)) (files : List (Option StoredFile)) (slot : ℕ) (file : StoredFile) → Laid laid new files slot file
    → (c : ℕ) → is_in c (blocks_used (map (stored_of laid) (front_of laid slot))) ≡ true → is_in c (blocks_used files) ≡ true
front_used laid new files slot file is c h =
    ap (λ fs. is_in c (blocks_used fs)) is.listed
    ∙ used_append c (map (stored_of laid) (front_of laid slot)) (stored_of laid (said_at laid slot) ∷ map (stored_of laid) (back_of laid slot)) (inl h)

back_used : (laid new : List (List ℕ)) (files : List (Option StoredFile)) (slot : ℕ) (file : StoredFile) → Laid laid new files slot file
    → (c : ℕ) → is_in c (blocks_used (map (stored_of laid) (back_of laid slot))) ≡ true → is_in c (blocks_used files) ≡ true
back_used laid new files slot file is c h =
    ap (λ fs. is_in c (blocks_used fs)) is.listed
    ∙ used_append c (map (stored_of laid) (front_of laid slot)) (stored_of laid (said_at laid slot) ∷ map (stored_of laid) (back_of laid slot))
    (inr (in_right c (used_in (stored_of laid (said_at laid slot))) (blocks_used (map (stored_of laid) (back_of laid slot))) h))

rules_hold : (laid new : List (List ℕ)) (files : List (Option StoredFile)) (slot : ℕ) (file : StoredFile) → Laid laid new files slot file
    → IsApart (front_of laid slot) (back_of laid slot) file.record_.title
    → first_broken [] (slot_rules 33 new 0 [] (front_of laid slot ++ said.File file.record_ ∷ back_of laid slot)) ≡ None
rules_hold laid new files slot file is apart =
    let front : List Said = front_of laid slot in
    let back : List Said = back_of laid slot in
    let maps : List ℕ = file.record_.maps in
    let data_ : are_data (length new) file.pages ≡ true =
    ap (λ n. are_data n file.pages) is.size ∙ pages_data (length laid) maps file.pages is.free.on_drive in
    let alone : first_broken [] (maps_rules 33 new (length front) (length file.pages) maps) ≡ None =
    maps_keep (length front) maps file.pages new is.maps data_ is.free.different in
    one_changed laid new front back (said_at laid slot) (said.File file.record_) is.around_it is.size
    (all_kept laid new 0 slot is.keeps) (all_kept laid new (slot + 1) (255 - slot) is.keeps)
    (ap (λ t. if not t then first_broken (uses_all laid front) (maps_rules 33 new (length front) (pages_of file.record_.length) maps)
    else Some (fault.Entry (length front))) apart.0
    ∙ ap (λ n. first_broken (uses_all laid front) (maps_rules 33 new (length front) n maps)) (sym is.many)
    ∙ others_used [] (uses_all laid front) (maps_rules 33 new (length front) (length file.pages) maps) alone
    (λ b mine. false_from_ne_true (is_in b (uses_all laid front))
    (λ there. not_shared laid new files slot file front b (length front) is (front_used laid new files slot file is) there mine)))
    (λ b there. false_from_ne_true (is_in b (uses_of new (said.File file.record_)))
    (λ mine. not_shared laid new files slot file back b 0 is (back_used laid new files slot file is) there
    (ap (λ n. is_in b (used_by (maps_rules 33 new 0 n maps))) is.many ∙ mine)))
    apart.1

-- the title stands in no other entry
index_apart : (laid new : List (List ℕ)) (files : List (Option StoredFile)) (slot : ℕ) (file : StoredFile) → Laid laid new files slot file
    → slot < 256 → index_for file.record_.title files ≡ Some slot → IsApart (front_of laid slot) (back_of laid slot) file.record_.title
index_apart laid new files slot file is h index = go (find_index file.record_.title files) refl index where
  there : slice_index_or files slot None ≡ stored_of laid (said_at laid slot)
  there =
      ap (λ fs. get_or fs slot None) is.listed
      ∙ ap (λ n. get_or (map (stored_of laid) (front_of laid slot) ++ stored_of laid (said_at laid slot) ∷ map (stored_of laid) (back_of laid slot)) n None)
      (sym (length-front laid slot))
      ∙ get_or-append_seam (map (stored_of laid) (front_of laid slot)) (stored_of laid (said_at laid slot)) (map (stored_of laid) (back_of laid slot)) None

  go : (o : Option ℕ) → find_index file.record_.title files ≡ o → (if is_none o then free_index files else o) ≡ Some slot
      → IsApart (front_of laid slot) (back_of laid slot) file.record_.title
  go None none at =
      fresh_apart laid (front_of laid slot) (back_of laid slot) (said_at laid slot) file.record_.title
      (ap (find_index file.record_.title) (map-append (stored_of laid) (front_of laid slot) (said_at laid slot ∷ back_of laid slot) ∙ sym is.listed) ∙ none)
  go (Some p) found at =
      replaced_apart laid (front_of laid slot) (back_of laid slot) (said_at laid slot) file.record_.title is.around_it
      (ap (is_titled file.record_.title) (sym there) ∙ index_titled file.record_.title files slot (found ∙ at))

-- ---- the files

-- a file is stored in a slot of the image
pub record IsStoredIn (files : List (Option StoredFile)) (slot : ℕ) (file : StoredFile) (bytes : List ℕ) (old new : List (List ℕ)) : Type 0 where
  pub kept : IsKeptOf new (set files slot (Some file))
  pub slots : slots_of new ≡ set (slots_of old) slot
      (Some (record { title = file.record_.title; kind = file.record_.kind; protected = file.record_.protected; bytes = bytes }))

kept_now : (laid new : List (List ℕ)) (files : List (Option StoredFile)) (slot : ℕ) (file : StoredFile) → Laid laid new files slot file
    → stored_of new (said.File file.record_) ≡ Some file
    → set files slot (Some file) ≡ map (stored_of new) (front_of laid slot ++ said.File file.record_ ∷ back_of laid slot)
kept_now laid new files slot file is stored =
    let front : List Said = front_of laid slot in
    let back : List Said = back_of laid slot in
    ap (λ fs. set fs slot (Some file)) is.listed
    ∙ ap (λ n. set (map (stored_of laid) front ++ stored_of laid (said_at laid slot) ∷ map (stored_of laid) back) n (Some file)) (sym (length-front laid slot))
    ∙ set-append_seam (map (stored_of laid) front) (stored_of laid (said_at laid slot)) (map (stored_of laid) back) (Some file)
    ∙ ap (λ fs. fs ++ Some file ∷ map (stored_of laid) back) (sym (stored_same laid new front (all_kept laid new 0 slot is.keeps)))
    ∙ ap (λ f. map (stored_of new) front ++ f ∷ map (stored_of laid) back) (sym stored)
    ∙ ap (λ fs. map (stored_of new) front ++ stored_of new (said.File file.record_) ∷ fs)
    (sym (stored_same laid new back (all_kept laid new (slot + 1) (255 - slot) is.keeps)))
    ∙ sym (map-append (stored_of new) front (said.File file.record_ ∷ back))

stored_now : (new : List (List ℕ)) (count : ℕ) (file : StoredFile) → IsShaped count file → AreMaps file.record_.maps file.pages new
    → stored_of new (said.File file.record_) ≡ Some file
stored_now new count file shape maps =
    ap (λ ns. Some (record { record_ = file.record_; pages = ns }))
    (ap (λ n. numbers_of new n file.record_.maps) (sym shape.pages_many)
    ∙ maps_tell file.record_.maps file.pages new maps (maps_enough count file shape).0)

bytes_now : (new : List (List ℕ)) (count : ℕ) (file : StoredFile) (bytes : List ℕ) → IsShaped count file → ArePages file.pages bytes new
    → length bytes ≡ file.record_.length → bytes_in new file ≡ bytes
bytes_now new count file bytes shape pages size =
    ap (λ n. take n (flat_map (block_at new) file.pages)) (sym size)
    ∙ pages_hold file.pages bytes new pages (subst (λ n. n ≤ 512 * length file.pages) (sym size) (pages_enough count file shape).0)

-- ---- all of it

pub stored_holds : (old new : List (List ℕ)) (files : List (Option StoredFile)) (slot count : ℕ) (file : StoredFile) (bytes : List ℕ)
    → slot < 256 → length old ≡ count → IsKeptOf old files → list_all (is_stored count) files ≡ true → IsLaid count files file
    → length bytes ≡ file.record_.length → length (bytes_of_record file.record_) ≡ 64 → index_for file.record_.title files ≡ Some slot
    → IsNew slot file bytes old new → IsStoredIn files slot file bytes old new
unfolding entries_of
stored_holds old new files slot count file bytes h size kept all laid_file long entry_long index made =
    let laid : List (List ℕ) = made.laid in
    let shape : IsShaped count file = shape_of count file laid_file.kept in
    let same : IsSameImage old laid files =
    free_same count files (used_in (Some file)) old laid laid_file.free made.put.as_many made.put.others in
    let kept_laid : IsKeptOf laid files = same_kept old laid files kept same in
    let size_laid : length laid ≡ count = made.put.as_many ∙ size in
    let room : 33 < count = record_room count file.record_ (record_kept count file laid_file.kept) in
    let few : slot / 8 < 32 = omega arith in
    let inside : 1 + slot / 8 < length laid = omega (arith, room, few, size_laid) in
    let some : 0 < length laid = omega (arith, room, size_laid) in
    let keeps : KeepsData laid new = keeps_written laid new slot (bytes_of_record file.record_) h made.written in
    let entries : entries_of new ≡ front_of laid slot ++ said.File file.record_ ∷ back_of laid slot =
    entries_written laid new slot (bytes_of_record file.record_) h entry_long inside made.written
    ∙ ap (λ e. front_of laid slot ++ e ∷ back_of laid slot)
    (says_record (length laid) file.record_ (ap (λ n. is_record n file.record_) size_laid ∙ record_kept count file laid_file.kept)) in
    let rules : first_broken [] (slot_rules 33 laid 0 [] (entries_of laid)) ≡ None =
    none_right [] (header_rules 2 laid) (slot_rules 33 laid 0 [] (entries_of laid)) (sym (rules_of laid some) ∙ kept_laid.valid) in
    let maps : AreMaps file.record_.maps file.pages new =
    maps_later count laid new file shape keeps (put_maps file bytes (length (used_in (Some file))) old laid made.put (omega arith)) in
    let pages : ArePages file.pages bytes new =
    pages_later count laid new file bytes shape keeps (put_pages file bytes (length (used_in (Some file))) old laid made.put (omega arith)) in
    let is : Laid laid new files slot file = record {
      kept = kept_laid;
      size = ap length made.written.now ∙ length-set laid (1 + slot / 8) _;
      keeps = keeps;
      around_it =
          around laid (front_of laid slot) (said_at laid slot) (back_of laid slot)
          (ap (λ es. first_broken [] (slot_rules 33 laid 0 [] es)) (sym (entries_around laid slot h)) ∙ rules);
      listed =
          kept_laid.slots ∙ ap (map (stored_of laid)) (entries_around laid slot h)
          ∙ map-append (stored_of laid) (front_of laid slot) (said_at laid slot ∷ back_of laid slot);
      free = subst (λ n. AreFree n files (used_in (Some file))) (sym size_laid) laid_file.free;
      maps = maps;
      many = shape.pages_many;
    } in
    let apart : IsApart (front_of laid slot) (back_of laid slot) file.record_.title = index_apart laid new files slot file is h index in
    let stored : stored_of new (said.File file.record_) ≡ Some file = stored_now new count file shape maps in
    let now : set files slot (Some file) ≡ map (stored_of new) (entries_of new) =
    kept_now laid new files slot file is stored ∙ ap (map (stored_of new)) (sym entries) in
    let before : map (option_map (file_of laid)) files ≡ slots_of old =
    ap (map (option_map (file_of laid))) kept_laid.slots ∙ sym (slots_are laid) ∙ same_slots old laid files kept same in
    record {
      kept = record {
        valid =
            image_holds laid new slot (bytes_of_record file.record_) some made.written kept_laid.valid
            (ap (λ es. first_broken [] (slot_rules 33 new 0 [] es)) entries ∙ rules_hold laid new files slot file is apart);
        slots = now;
      };
      slots =
          slots_are new ∙ ap (map (option_map (file_of new))) (sym now)
          ∙ map-set (option_map (file_of new)) files slot (Some file)
          ∙ ap (λ fs. set fs slot (Some (file_of new file))) (files_kept laid new count files keeps all ∙ before)
          ∙ ap (λ bs. set (slots_of old) slot
          (Some (record { title = file.record_.title; kind = file.record_.kind; protected = file.record_.protected; bytes = bs })))
          (bytes_now new count file bytes shape pages long);
    }
