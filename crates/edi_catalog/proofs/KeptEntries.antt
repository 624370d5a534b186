-- The entries in the blocks that a catalogue keeps, and the files that it keeps.
use Rattle.std.proofs.Common.{◌≡◌, ℕ, suc, ◌+◌, ◌*◌, ◌/◌, ◌%◌, ◌<◌, ◌≤◌, ◌⊎◌, inl, inr, true, false, List, [], ◌∷◌, ◌++◌, length, take, drop, set, get_or, refl, ap, sym, subst}
use Rattle.std.proofs.Common.{◌∙◌, arith, length-append, length-drop}
use Rattle.std.specs.Prelude.{◌&&◌, ◌==◌, map, replicate, Option, Some, None, IfSome, Result, Ok, Err, IfErr, IfOk, MatchResult}
use Rattle.std.specs.List.{list_all}
use Rattle.std.proofs.Math.ListN.{get_or-append}
use Rattle.std.proofs.Math.Seq.{get_or-append_seam}
use Rattle.std.proofs.lemmas.Bool.{cases_eq}
use Rattle.std.proofs.lemmas.Grind.{get_or-set_at}
use Rattle.std.proofs.lemmas.List.{append-nil, get_or-set_same, get_or-set_other, length-set, length-take-le}
use Rattle.edi_calls.specs.State.{pages_of}
use Rattle.edi_image.specs.Bytes.{bytes_of_record, bytes_of_slot}
use Rattle.edi_image.specs.Entries.{block_at, entry_says}
use Rattle.edi_image.specs.Finds.{Finds, IsFirst, TakesSlot, failed, is_drive_fault}
use Rattle.edi_image.specs.Image.{entries_of, entry_at, entry_rules, mount_fault_of, said_at}
use Rattle.edi_image.specs.Records.{FileRecord}
use Rattle.edi_image.specs.Rules.{first_broken}
use Rattle.edi_image.specs.Stored.{StoredFile, are_data, is_record, is_stored, stored_of, titles_of}
use Rattle.edi_image.specs.declared.entries.Said.{Said}
use Rattle.edi_image.specs.declared.entries.Said.TheVariants as said
use Rattle.edi_image.specs.declared.faults.MountFault.{MountFault}
use Rattle.edi_image.specs.declared.faults.MountFault.TheVariants as fault
use Rattle.edi_image.proofs.EntryBytes.{said_of, says_record, says_slot}
use Rattle.edi_image.proofs.ImageRules.{no_disk}
use Rattle.edi_image.proofs.SlotRules.{put_finds}
use Rattle.edi_image.proofs.Spelled.{both}
use Rattle.edi_catalog.specs.declared.mounting.Checked.{Checked}
use Rattle.edi_catalog.specs.Mounted.{AreEntries, AreWhole, HaveEntries, entry_kept, said_kept}
use Rattle.edi_catalog.specs.Writing.{IsRecordAt, IsRecordFor, kept_as, patched, with_entry}
use Rattle.edi_catalog.proofs.Changed.{record_like}
use Rattle.edi_catalog.proofs.EntryBlocks.{none_kept}
use Rattle.edi_catalog.proofs.EntryFrames.{entry_here, entry_other}
use Rattle.edi_catalog.proofs.Sizes.{kept_at}

-- ---- reading them

-- the entry of a slot says of the image what it says in the block that is kept
pub said_is : (kept blocks : List (List ℕ)) (count slot : ℕ) → slot < 256 → length blocks ≡ count → AreEntries kept blocks
    → said_at blocks slot ≡ entry_says count (entry_kept kept slot)
said_is kept blocks count slot h size are =
    let few : slot / 8 < 32 = omega arith in
    ap (λ n. entry_says n (entry_at blocks slot)) size
    ∙ ap (λ b. entry_says count (take 64 (drop (64 * (slot % 8)) b))) (sym (are (slot / 8) few))

-- one block more is whole
pub whole_more : (before after : List (List ℕ)) (bytes : List ℕ) (i : ℕ) → after ≡ before ++ bytes ∷ [] → length before ≡ i → length bytes ≡ 512
    → ((k : ℕ) → k < i → length (get_or before k []) ≡ 512) → (k : ℕ) → k < i + 1 → length (get_or after k []) ≡ 512
whole_more before after bytes i more many size so_far k h = ap (λ bs. length (get_or bs k [])) more ∙ go (cases_eq k i) where
  go : (k ≡ i) ⊎ (k ≡ i → ⊥) → length (get_or (before ++ bytes ∷ []) k []) ≡ 512
  go (inl e) =
      ap (λ n. length (get_or (before ++ bytes ∷ []) n [])) (e ∙ sym many) ∙ ap length (get_or-append_seam before bytes [] []) ∙ size
  go (inr other) =
      let early : k < i = omega (arith, h, other) in
      ap length (get_or-append before (bytes ∷ []) [] k (omega (arith, many, early))) ∙ so_far k early

-- so many entries say the files that are kept
abbrev pub SaySoFar : (count : ℕ) → (kept : List (List ℕ)) → List (Option StoredFile) → ℕ → Type 0
SaySoFar count kept files n = (slot : ℕ) → slot < n → entry_says count (entry_kept kept slot) ≡ said_kept (get_or files slot None)

pub says_more : (count : ℕ) (kept : List (List ℕ)) (before after : List (Option StoredFile)) (file : Option StoredFile) (at n : ℕ) (s : Said)
    → after ≡ before ++ file ∷ [] → length before ≡ n → at ≡ n → s ≡ entry_says count (entry_kept kept at) → s ≡ said_kept file
    → SaySoFar count kept before n → SaySoFar count kept after (n + 1)
says_more count kept before after file at n s more many same read says so_far slot h = go (cases_eq slot n) where
  go : (slot ≡ n) ⊎ (slot ≡ n → ⊥) → entry_says count (entry_kept kept slot) ≡ said_kept (get_or after slot None)
  go (inl e) =
      ap (λ k. entry_says count (entry_kept kept k)) (e ∙ sym same) ∙ sym read ∙ says
      ∙ ap said_kept (sym (get_or-append_seam before file [] None))
      ∙ ap (λ k. said_kept (get_or (before ++ file ∷ []) k None)) (many ∙ sym e)
      ∙ ap (λ fs. said_kept (get_or fs slot None)) (sym more)
  go (inr other) =
      let early : slot < n = omega (arith, h, other) in
      so_far slot early
      ∙ ap said_kept (sym (get_or-append before (file ∷ []) None slot (omega (arith, many, early))))
      ∙ ap (λ fs. said_kept (get_or fs slot None)) (sym more)

-- a free slot
pub free_found : {X : Type 0} (r : Result X MountFault) (used : List ℕ) (before after : List (Option StoredFile)) (blocks : List (List ℕ)) (slot : ℕ) (s : Said)
    → s ≡ said.Free → said_at blocks slot ≡ s → MatchResult r (λ _. after ≡ before ++ None ∷ []) (λ e. e ≡ fault.NoMemory)
    → Finds r (first_broken used (entry_rules 33 blocks slot (titles_of before) (said_at blocks slot)))
    (λ _. TakesSlot used used (entry_rules 33 blocks slot (titles_of before) (said_at blocks slot)) before after (stored_of blocks (said_at blocks slot)))
free_found r used before after blocks slot s free says made =
    subst (λ x. Finds r (first_broken used (entry_rules 33 blocks slot (titles_of before) x))
    (λ _. TakesSlot used used (entry_rules 33 blocks slot (titles_of before) x) before after (stored_of blocks x))) (sym (says ∙ free))
    (put_finds r (after ≡ before ++ None ∷ []) (TakesSlot used used [] before after None) None made refl
    (λ f. record { used = sym (append-nil used); files = f }))

-- ---- no disk

pub none_fails : {X : Type 0} (r : Result X MountFault) → IfErr r (λ why. why ≡ fault.NoMemory) → failed r ≡ false
none_fails (Ok x) h = refl
none_fails (Err e) h = ap is_drive_fault h

pub none_found : (r : Result Checked MountFault) (blocks : List (List ℕ)) → length blocks ≡ 0 → IfErr r (λ why. why ≡ fault.NoMemory)
    → IfOk r (λ checked. checked.files.items ≡ replicate 256 None) → IfOk r (λ checked. checked.entries.items ≡ [])
    → Finds r (mount_fault_of blocks) (λ checked. (checked.files.items ≡ map (stored_of blocks) (entries_of blocks)) × AreEntries checked.entries.items blocks)
none_found (Ok checked) blocks none why files entries =
    ((no_disk blocks none).0, (files ∙ (no_disk blocks none).1, none_kept checked.entries.items blocks entries none))
none_found (Err e) blocks none why files entries = subst (λ f. IsFirst f (mount_fault_of blocks)) (sym why) tt

-- ---- writing one of them

length_patched : (at : ℕ) (entry block : List ℕ) → at + 64 ≤ 512 → length entry ≡ 64 → length block ≡ 512 → length (patched at entry block) ≡ 512
length_patched at entry block h long whole =
    let front : length (take at block) ≡ at = length-take-le at block (omega arith) in
    omega (
      arith,
      front,
      length-append (take at block) (entry ++ drop (at + length entry) block),
      length-append entry (drop (at + length entry) block),
      length-drop (at + length entry) block,
    )

pub whole_over : (slot : ℕ) (entry : List ℕ) (kept : List (List ℕ)) → slot < 256 → length entry ≡ 64 → AreWhole kept
    → AreWhole (set kept (slot / 8) (patched (64 * (slot % 8)) entry (get_or kept (slot / 8) [])))
whole_over slot entry kept h long whole = record {
  many = length-set kept (slot / 8) _ ∙ whole.many;
  each = λ k less. go k less (cases_eq k (slot / 8));
} where
  few : slot / 8 < 32
  few = omega arith

  go : (k : ℕ) → k < 32 → (k ≡ slot / 8) ⊎ (k ≡ slot / 8 → ⊥)
      → length (get_or (set kept (slot / 8) (patched (64 * (slot % 8)) entry (get_or kept (slot / 8) []))) k []) ≡ 512
  go k less (inl e) =
      ap length (get_or-set_at kept (slot / 8) k _ [] e (omega (arith, few, whole.many)))
      ∙ length_patched (64 * (slot % 8)) entry (get_or kept (slot / 8) []) (omega arith) long (whole.each (slot / 8) few)
  go k less (inr other) = ap length (get_or-set_other kept (slot / 8) k _ [] other) ∙ whole.each k less

-- the blocks that are kept stand behind block 0
behind : (kept : List (List ℕ)) (n : ℕ) → block_at ([] ∷ kept) (1 + n) ≡ get_or kept n []
behind kept n = ap (block_at ([] ∷ kept)) (let one : 1 + n ≡ suc n = omega arith in one)

entry_behind : (kept : List (List ℕ)) (slot : ℕ) → entry_at ([] ∷ kept) slot ≡ entry_kept kept slot
entry_behind kept slot = ap (λ b. take 64 (drop (64 * (slot % 8)) b)) (behind kept (slot / 8))

with_behind : (kept : List (List ℕ)) (slot : ℕ) (entry : List ℕ)
    → with_entry ([] ∷ kept) slot entry ≡ [] ∷ set kept (slot / 8) (patched (64 * (slot % 8)) entry (get_or kept (slot / 8) []))
with_behind kept slot entry =
    ap (λ n. set ([] ∷ kept) n (patched (64 * (slot % 8)) entry (block_at ([] ∷ kept) n))) (let one : 1 + slot / 8 ≡ suc (slot / 8) = omega arith in one)

-- the entry that is written says the file that is kept of its slot from then on
pub said_over : (count slot : ℕ) (entry : List ℕ) (kept : List (List ℕ)) (files : List (Option StoredFile)) (file : Option StoredFile) → slot < 256
    → length entry ≡ 64 → AreWhole kept → length files ≡ 256 → entry_says count entry ≡ said_kept file → HaveEntries count kept files
    → HaveEntries count (set kept (slot / 8) (patched (64 * (slot % 8)) entry (get_or kept (slot / 8) []))) (set files slot file)
said_over count slot entry kept files file h long whole many says have other less = go (cases_eq other slot) where
  few : slot / 8 < 32
  few = omega arith

  there : length (block_at ([] ∷ kept) (1 + slot / 8)) ≡ 512
  there = ap length (behind kept (slot / 8)) ∙ whole.each (slot / 8) few

  inside : 1 + slot / 8 < length ([] ∷ kept)
  inside = omega (arith, few, whole.many)

  now : List (List ℕ)
  now = set kept (slot / 8) (patched (64 * (slot % 8)) entry (get_or kept (slot / 8) []))

  entry_now : (n : ℕ) → entry_kept now n ≡ entry_at (with_entry ([] ∷ kept) slot entry) n
  entry_now n = sym (entry_behind now n) ∙ ap (λ bs. entry_at bs n) (sym (with_behind kept slot entry))

  go : (other ≡ slot) ⊎ (other ≡ slot → ⊥) → entry_says count (entry_kept now other) ≡ said_kept (get_or (set files slot file) other None)
  go (inl e) =
      ap (λ n. entry_says count (entry_kept now n)) e
      ∙ ap (entry_says count) (entry_now slot ∙ entry_here ([] ∷ kept) slot entry there long inside)
      ∙ says
      ∙ ap said_kept (sym (get_or-set_same files slot file None (omega (arith, h, many))))
      ∙ ap (λ n. said_kept (get_or (set files slot file) n None)) (sym e)
  go (inr apart) =
      ap (entry_says count) (entry_now other ∙ entry_other ([] ∷ kept) slot other entry there long inside apart ∙ entry_behind kept other)
      ∙ have other less
      ∙ ap said_kept (sym (get_or-set_other files slot other file None apart))

stored_record : (count : ℕ) (file : StoredFile) → is_stored count (Some file) ≡ true → is_record count file.record_ ≡ true
stored_record count file h =
    (both (is_record count file.record_) (are_data count file.pages)
    (both (is_record count file.record_ && are_data count file.pages) (length file.pages == pages_of file.record_.length) h).0).0

-- a new file's entry
pub stored_said : (count : ℕ) (file : StoredFile) → is_stored count (Some file) ≡ true → entry_says count (bytes_of_record file.record_) ≡ said_kept (Some file)
stored_said count file h = says_record count file.record_ (stored_record count file h)

-- another entry of a file that is there
pub record_said : (count : ℕ) (files : List (Option StoredFile)) (slot : ℕ) (r : Option FileRecord) → list_all (is_stored count) files ≡ true
    → IsRecordAt files slot r → entry_says count (bytes_of_slot r) ≡ said_kept (kept_as r (get_or files slot None))
record_said count files slot r all at =
    says_slot count r (fit r at.fits) ∙ same r ∙ ap (λ f. said_kept (kept_as r f)) (sym at.there)
  where
    known : is_record count at.file.record_ ≡ true
    known = stored_record count at.file (ap (is_stored count) (sym at.there) ∙ kept_at count files slot all)

    fit : (r : Option FileRecord) → IfSome r (IsRecordFor files at.file) → IfSome r (λ q. is_record count q ≡ true)
    fit None fits = tt
    fit (Some q) fits = record_like count at.file.record_ q known fits.title fits.maps fits.length_

    same : (r : Option FileRecord) → said_of r ≡ said_kept (kept_as r (Some at.file))
    same None = refl
    same (Some q) = refl
