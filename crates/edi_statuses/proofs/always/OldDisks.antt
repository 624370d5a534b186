-- `newdisk --from`: there is an image with the files of the old one, where they have room.
use Rattle.std.proofs.Common.{◌≡◌, ℕ, zero, suc, ◌+◌, ◌-◌, ◌*◌, ◌/◌, ◌≤◌, ◌<◌, true, List, [], ◌∷◌, ◌++◌, length, drop, Some, None, refl}
use Rattle.std.proofs.Common.{ap, sym, subst, ◌∙◌, arith, inl, inr, length-append, length-drop}
use Rattle.std.specs.Prelude.{◌&&◌, ◌==◌, map, min, nat_le, nat_lt, replicate}
use Rattle.std.specs.List.{list_all}
use Rattle.std.specs.Simd.{first_chunks}
use Rattle.std.proofs.lemmas.Bool.{and_from, and_parts, cases_lt, eq-eqb, leb-true, ltb-true}
use Rattle.std.proofs.lemmas.List.{length-take-le}
use Rattle.std.proofs.lemmas.List.Folds.{list_all-append}
use Rattle.edi_host.specs.Blocks.{is_block, resized}
use Rattle.edi_host.specs.BytesAsBlocks.{blocks_of}
use Rattle.edi_host.specs.Contents.{Contents}
use Rattle.edi_host.proofs.DriveBlocks.{chunks_are_blocks}
use Rattle.edi_calls.specs.State as calls
use Rattle.edi_calls.specs.State.{pages_of}
use Rattle.edi_image.specs.declared.entries.Said.{Said}
use Rattle.edi_image.specs.declared.entries.Said.TheVariants as said
use Rattle.edi_image.specs.declared.faults.MountFault.TheVariants as fault
use Rattle.edi_image.specs.declared.migrate.migrating.MigrateEnd.TheVariants as end
use Rattle.edi_image.specs.Entries.{block_at, is_data}
use Rattle.edi_image.specs.Image.{entry_rules, header_rules, numbers_in, numbers_of, slot_rules, titles_in}
use Rattle.edi_image.specs.Rules.{first_broken, used_by}
use Rattle.edi_image.specs.Stored.{blocks_taken, stored_of}
use Rattle.edi_image.specs.migrate.Migrated.{migrated_bytes}
use Rattle.edi_image.specs.migrate.OldFiles.{is_old_fit, is_old_record, is_old_stored, old_files_of}
use Rattle.edi_image.specs.migrate.OldImage.{old_entries_from, old_entries_of, old_entry_at, old_fault_of, old_slots_of}
use Rattle.edi_image.proofs.MapRules.{length-numbers_in}
use Rattle.edi_image.proofs.UsedBlocks.{need_holds, none_left, none_right}
use Rattle.edi_image.proofs.migrate.Migrations.{migration_leaves, refusal_told}
use Rattle.edi_image.proofs.migrate.OldRules.{old_entry_fits, old_shape}
use Rattle.edi_words.specs.Words as words
use Rattle.edi_statuses.specs.Outside.{Outside, Devices, KernelLeft}
use Rattle.edi_statuses.specs.Steps.{goes, ◌>>=◌, ChecksOld, HasRoom, Ready}
use Rattle.edi_statuses.specs.Commands.{AreMigrated, IsDone, OldSteps, OnlyBlocks}
use Rattle.edi_statuses.specs.Always.{MayEnd, told_outside}
use Rattle.edi_statuses.proofs.always.Steps.{old_steps_some}
use Rattle.edi_statuses.proofs.always.Ends.{blocks_some, does_some, of_table}
use Rattle.edi_statuses.proofs.always.Plain.{all_drop, zeros_sized}
use Rattle.edi_statuses.proofs.always.Stored.{maps_data}
use Rattle.std.proofs.Common.{true≢false}

-- ---- whole blocks of bytes

chunk_long : (k : ℕ) (bytes : List ℕ) (n : ℕ) → 512 * k ≤ length bytes → n < length (first_chunks 512 k bytes)
    → length (block_at (first_chunks 512 k bytes) n) ≡ 512
chunk_long zero bytes n h within = absurd (omega (arith, within))
chunk_long (suc k) bytes zero h within = length-take-le 512 bytes (omega (arith, h))
chunk_long (suc k) bytes (suc n) h within = chunk_long k (drop 512 bytes) n (omega (arith, h, length-drop 512 bytes)) (omega (arith, within))

old_long : (bytes : List ℕ) (n : ℕ) → n < length (blocks_of bytes) → length (block_at (blocks_of bytes) n) ≡ 512
old_long bytes n within = chunk_long (length bytes / 512) bytes n (omega arith) within

-- ---- what is kept of a valid old image

module _ (old : List (List ℕ)) (long : (n : ℕ) → n < length old → length (block_at old n) ≡ 512) where
  numbers_many : (maps : List ℕ) (n : ℕ) → length maps ≡ 1 → list_all (is_data 5 (length old)) maps ≡ true → n ≤ 130560
      → length (numbers_of old (pages_of n) maps) ≡ pages_of n
  numbers_many [] n one data_ short = absurd (omega (arith, one))
  numbers_many (m ∷ []) n one data_ short =
      let parts = and_parts (is_data 5 (length old) m) true data_ in
      let inside = and_parts (nat_le 5 m) (nat_lt m (length old)) parts.0 in
      let block : length (block_at old m) ≡ 512 = long m (ltb-true m (length old) inside.1) in
      let pages : min ((n + 511) / 512) 255 ≡ (n + 511) / 512 = omega (arith, short) in
      let own : length (numbers_in (block_at old m) (min (pages_of n) 255)) ≡ min (pages_of n) 255 =
      length-numbers_in (block_at old m) (min (pages_of n) 255) (omega (arith, block, short)) in
      length-append (numbers_in (block_at old m) (min (pages_of n) 255)) [] ∙ omega (arith, own, pages)
  numbers_many (m ∷ l ∷ maps) n one data_ short = absurd (omega (arith, one))

  entry_stored : (used : List ℕ) (slot : ℕ) (titles : List (List ℕ)) (s : Said) → first_broken used (entry_rules 5 old slot titles s) ≡ None
      → is_old_fit (length old) s ≡ true → is_old_stored (length old) (stored_of old s) ≡ true
  entry_stored used slot titles said.Free h fits = refl
  entry_stored used slot titles said.Wrong h fits = refl
  entry_stored used slot titles (said.File r) h fits =
      let need = need_holds _ (fault.Entry slot) _ h in
      let shape = old_shape (length old) r fits in
      let numbers : List ℕ = numbers_of old (pages_of r.length) r.maps in
      and_from (is_old_record (length old) r && list_all (is_data 5 (length old)) numbers) (length numbers == pages_of r.length)
      (and_from (is_old_record (length old) r) (list_all (is_data 5 (length old)) numbers) fits (maps_data old 5 used slot (pages_of r.length) r.maps need.1))
      (eq-eqb (length numbers) (pages_of r.length) (numbers_many r.maps r.length shape.one shape.data_ shape.short))

  entries_stored : (used : List ℕ) (slot : ℕ) (titles : List (List ℕ)) (es : List Said) → first_broken used (slot_rules 5 old slot titles es) ≡ None
      → list_all (is_old_fit (length old)) es ≡ true → list_all (is_old_stored (length old)) (map (stored_of old) es) ≡ true
  entries_stored used slot titles [] h fits = refl
  entries_stored used slot titles (s ∷ es) h fits =
      let parts = and_parts (is_old_fit (length old) s) (list_all (is_old_fit (length old)) es) fits in
      let rest = slot_rules 5 old (slot + 1) (titles ++ titles_in s) es in
      and_from (is_old_stored (length old) (stored_of old s)) (list_all (is_old_stored (length old)) (map (stored_of old) es))
      (entry_stored used slot titles s (none_left used (entry_rules 5 old slot titles s) rest h) parts.0)
      (entries_stored (used ++ used_by (entry_rules 5 old slot titles s)) (slot + 1) (titles ++ titles_in s) es
      (none_right used (entry_rules 5 old slot titles s) rest h) parts.1)

  all_fit : (slot n : ℕ) → list_all (is_old_fit (length old)) (old_entries_from old slot n) ≡ true
  all_fit slot zero = refl
  all_fit slot (suc n) =
      and_from _ (list_all (is_old_fit (length old)) (old_entries_from old (slot + 1) n)) (old_entry_fits (length old) (old_entry_at old slot)) (all_fit (slot + 1) n)

entries_fit : (old : List (List ℕ)) (long : (n : ℕ) → n < length old → length (block_at old n) ≡ 512)
    → list_all (is_old_fit (length old)) (old_entries_of old) ≡ true
unfolding old_entries_of
entries_fit old long = all_fit old long 0 64

no_rules : first_broken [] (slot_rules 5 [] 0 [] (old_entries_of [])) ≡ None
unfolding old_entries_of
no_rules = refl

rules_hold : (old : List (List ℕ)) → old_fault_of old ≡ None → first_broken [] (slot_rules 5 old 0 [] (old_entries_of old)) ≡ None
rules_hold [] h = no_rules
rules_hold (block ∷ blocks) h =
    none_right [] (header_rules 1 (block ∷ blocks)) (slot_rules 5 (block ∷ blocks) 0 [] (old_entries_of (block ∷ blocks))) h

none_stored : (count n : ℕ) → list_all (is_old_stored count) (replicate n None) ≡ true
none_stored count zero = refl
none_stored count (suc n) = none_stored count n

files_stored : (old : List (List ℕ)) (long : (n : ℕ) → n < length old → length (block_at old n) ≡ 512) → old_fault_of old ≡ None
    → list_all (is_old_stored (length old)) (old_files_of old) ≡ true
files_stored old long valid =
    list_all-append (is_old_stored (length old)) (map (stored_of old) (old_entries_of old)) (replicate 192 None)
    ∙ and_from (list_all (is_old_stored (length old)) (map (stored_of old) (old_entries_of old))) (list_all (is_old_stored (length old)) (replicate 192 None))
    (entries_stored old long [] 0 [] (old_entries_of old) (rules_hold old valid) (entries_fit old long)) (none_stored (length old) 192)

-- ---- the image

-- the blocks that the files take are those that their slots take
same_room : (given : List ℕ) → old_fault_of (blocks_of given) ≡ None → (count : ℕ) → 64 ≤ count
    → calls.blocks_taken (old_slots_of (blocks_of given)) ≤ count - 33 → blocks_taken (old_files_of (blocks_of given)) + 33 ≤ count
same_room given valid count least room = elim (cases_lt 0 (blocks_taken (old_files_of (blocks_of given)))) [
  | inl some ↦
      let told = refusal_told (end.Full (blocks_taken (old_files_of (blocks_of given))) 0) given (blocks_of given) 33 refl refl (valid, refl, refl, some)
      (files_stored (blocks_of given) (old_long given) valid) in
      let same : blocks_taken (old_files_of (blocks_of given)) ≡ calls.blocks_taken (old_slots_of (blocks_of given)) = told.1 in
      omega (arith, same, room, least)
  | inr none ↦ omega (arith, none, least)
]

migrated : (given : List ℕ) → old_fault_of (blocks_of given) ≡ None → (count : ℕ) → 64 ≤ count → count ≤ 4096
    → calls.blocks_taken (old_slots_of (blocks_of given)) ≤ count - 33 → (before : List (List ℕ))
    → (new : List (List ℕ)) × AreMigrated count (blocks_of given) before new × (list_all is_block new ≡ true)
migrated given valid count least most room before =
    let old : List (List ℕ) = blocks_of given in
    let bytes : List ℕ = migrated_bytes old count (old_files_of old) in
    let between : List (List ℕ) = resized [] count in
    let new : List (List ℕ) = blocks_of bytes ++ drop (length (blocks_of bytes)) between in (
      new,
      migration_leaves given old (blocks_of bytes) count bytes bytes [] between new refl (valid, same_room given valid count least room) refl
          (files_stored old (old_long given) valid) refl refl least most refl (λ fits. refl),
      list_all-append is_block (blocks_of bytes) (drop (length (blocks_of bytes)) between)
          ∙ and_from (list_all is_block (blocks_of bytes)) (list_all is_block (drop (length (blocks_of bytes)) between))
          (chunks_are_blocks (length bytes / 512) bytes (omega arith)) (all_drop is_block (length (blocks_of bytes)) between (zeros_sized count)),
    )

-- ---- the command

-- what its steps have found: the whole blocks of a file, a valid old image whose files have room
record IsOld (blocks : ℕ) (old : List (List ℕ)) : Type 0 where
  given : List ℕ
  is : old ≡ blocks_of given
  valid : old_fault_of old ≡ None
  room : calls.blocks_taken (old_slots_of old) ≤ blocks - 33

room_then : (blocks : ℕ) (given : List ℕ) (old a : List (List ℕ)) → old ≡ blocks_of given → old_fault_of old ≡ None
    → (HasRoom (calls.blocks_taken (old_slots_of old)) (blocks - 33) >>= λ done. Ready old) (goes a) → IsOld blocks a
room_then blocks given old a is valid (inl never) = absurd never
room_then blocks given old a is valid (inr h) =
    subst (IsOld blocks) (sym h.2)
    (record { given = given; is = is; valid = valid; room = leb-true (calls.blocks_taken (old_slots_of old)) (blocks - 33) h.1 })

checks_then : (blocks : ℕ) (given : List ℕ) (a : List (List ℕ))
    → (ChecksOld given >>= λ old. HasRoom (calls.blocks_taken (old_slots_of old)) (blocks - 33) >>= λ done. Ready old) (goes a) → IsOld blocks a
checks_then blocks given a (inl never) = absurd never
checks_then blocks given a (inr h) = room_then blocks given h.0 a h.1.0 h.1.1 h.2

old_then : (o : Outside) (blocks : ℕ) (file : List ℕ) (a : List (List ℕ)) → OldSteps o blocks file (goes a) → IsOld blocks a
old_then o blocks file a (inl never) = absurd never
old_then o blocks file a (inr h) = checks_then blocks h.0 a h.2

pub old_disk_may : (files : Contents) (d : Devices) (kernel : KernelLeft) (blocks : ℕ) (file : List ℕ) → 64 ≤ blocks → blocks ≤ 4096
    → MayEnd (words.newdisk blocks (Some file)) files d kernel
old_disk_may files d kernel blocks file least most =
    of_table (words.newdisk blocks (Some file)) files d kernel _
    (does_some (words.newdisk blocks (Some file)) files d kernel (OldSteps (told_outside files d) blocks file)
    (λ old. IsDone (OnlyBlocks (AreMigrated blocks old))) (old_steps_some files d blocks file)
    (λ old went. let found = old_then (told_outside files d) blocks file old went in
    let made = migrated found.given (ap old_fault_of (sym found.is) ∙ found.valid) blocks least most
    (subst (λ o. calls.blocks_taken (old_slots_of o) ≤ blocks - 33) found.is found.room) d.blocks in
    blocks_some (words.newdisk blocks (Some file)) files d kernel (AreMigrated blocks old) made.0
    (subst (λ o. AreMigrated blocks o d.blocks made.0) (sym found.is) made.1) (λ h. made.2) (λ e. absurd (true≢false e)))) (λ s after shown k h. h)
