-- Words of contracts. What reading gives: a check of an image, a page, a whole file.
use Rattle.std.specs.Prelude.{◌≡◌, ℕ, ◌≤◌, ◌<◌, Bool, true, false, List, [], ◌∷◌, take, slice_index, Option, Some, IfSome, Result, Ok, Err, ⊤}
use Rattle.edi_told.specs.Faults.{CountRose}
use Rattle.edi_told.specs.Told.{WhereTold}
use Rattle.edi_disk.specs.declared.disk.Disk.{Disk}
use Rattle.edi_disk.specs.Shown.{cached, numbers_cached, shown, drive_of, reference_of, Caches, IsClean, IsWorking}
use Rattle.edi_disk.specs.Since.{Kept}
use Rattle.edi_disk.specs.Use.{after_use, is_listed}
use Rattle.edi_image.specs.Entries.{block_at}
use Rattle.edi_image.specs.declared.faults.MountFault.{MountFault}
use Rattle.edi_catalog.specs.Plan.{part}

-- From before to after the disk was only read. Where the drive has not failed, the disk shows what it showed, and P is known
-- of that; what is told in the end was told at the start in any case.
pub record Checks {D : Type 0} (contents : D → Option (List (List ℕ))) (count faults : D → ℕ) (broke : Bool) (before after : Disk D)
    (P : List (List ℕ) → Type 0) : Type 0 where
  pub same_reference : reference_of after ≡ reference_of before
  pub since : (base : List (List ℕ)) (was_put : ℕ → List ℕ → Bool) → Kept contents base was_put before → Kept contents base was_put after
  pub count_stays : count (drive_of after) ≡ count (drive_of before)
  pub later : faults (drive_of before) ≤ faults (drive_of after)
  pub told : WhereTold (shown contents before) (shown contents after) (λ old new. ⊤)
  pub cause : broke ≡ true → CountRose (faults (drive_of before)) (faults (drive_of after))
  pub works : broke ≡ false → IsWorking contents count after
  pub clean : broke ≡ false → IsClean before → IsClean after
  pub shows : broke ≡ false → WhereTold (shown contents before) (shown contents after) (λ old new. (new ≡ old) × P old)

-- on Ok these are the bytes of the block
abbrev pub BlockIs : Result (List ℕ) MountFault → ℕ → List (List ℕ) → Type 0
BlockIs (Ok bytes) n blocks = block_at blocks n ≡ bytes
BlockIs (Err e) n blocks = ⊤

-- ---- what is cached, whatever the drive tells

-- a block that is cached afterwards was cached so before
abbrev pub WasCached : {D : Type 0} → (m : ℕ) → (before after : Disk D) → Type 0
WasCached m before after = (bytes : List ℕ) → cached m after ≡ Some bytes → cached m before ≡ Some bytes

-- so was each but one
abbrev pub OthersStay : {D : Type 0} → (n : ℕ) → (before after : Disk D) → Type 0
OthersStay n before after = (m : ℕ) → (m ≡ n → ⊥) → WasCached m before after

-- so was each of the catalogue
abbrev pub EntriesStay : {D : Type 0} → (before after : Disk D) → Type 0
EntriesStay before after = (m : ℕ) → m < 33 → WasCached m before after

-- a block is cached with these bytes, and of the others each that is cached was cached so before
pub record UsesBlock {D : Type 0} (n : ℕ) (bytes : List ℕ) (before after : Disk D) : Type 0 where
  pub there : cached n after ≡ Some bytes
  pub others : OthersStay n before after

-- ---- what is read, whatever the drive tells

-- A block was given: as it was cached, where it was, and from then on it is cached so, as the one used last. Every other is cached
-- as before, but for the one that is driven out.
pub record GivesBlock {D : Type 0} (n : ℕ) (bytes : List ℕ) (before after : Disk D) : Type 0 where
  pub as_cached : IfSome (cached n before) (λ was. bytes ≡ was)
  pub caches : Caches n bytes before after
  pub order : numbers_cached after ≡ after_use n (numbers_cached before)

-- the numbers of the cached blocks after a use of each of these blocks, one after another
abbrev pub after_uses : List ℕ → List ℕ → List ℕ
after_uses [] numbers = numbers
after_uses (n ∷ ns) numbers = after_uses ns (after_use n numbers)

-- So many of the blocks with these numbers were given, one after another, each in its part of the bytes: one that was cached, and still
-- was when it came to it, as it was cached; one that is still cached afterwards, as it is. Which these are the order of use tells. Of
-- the other blocks each that is cached was cached so before.
pub record GivesBlocks {D : Type 0} (numbers : List ℕ) (many : ℕ) (bytes : List ℕ) (before after : Disk D) : Type 0 where
  pub as_cached : (i : ℕ) (was : List ℕ) → i < many → cached (slice_index numbers i) before ≡ Some was
      → is_listed (slice_index numbers i) (after_uses (take i numbers) (numbers_cached before)) ≡ true → part 512 bytes i ≡ was
  pub caches : (i : ℕ) (now : List ℕ) → i < many → cached (slice_index numbers i) after ≡ Some now → part 512 bytes i ≡ now
  pub order : numbers_cached after ≡ after_uses (take many numbers) (numbers_cached before)
  pub others : (m : ℕ) → ((i : ℕ) → i < many → m ≡ slice_index numbers i → ⊥) → WasCached m before after
