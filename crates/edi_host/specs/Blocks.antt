-- Words of contracts. The blocks of a drive, each a list of 512 bytes.
use Rattle.std.specs.Prelude.{◌≡◌, ◌⊎◌, ℕ, ◌-◌, Bool, true, false, ◌==◌, List, ◌++◌, length, take, replicate, slice_get, slice_set, flat_map, Some, ⊤}
use Rattle.edi_host.specs.declared.drive.DriveEnd.{DriveEnd}
use Rattle.edi_host.specs.declared.drive.DriveEnd.TheVariants as drive
use Rattle.edi_host.specs.declared.drive.ResizeEnd.{ResizeEnd}
use Rattle.edi_host.specs.declared.drive.ResizeEnd.TheVariants as resize

abbrev pub zero_block : List ℕ
zero_block = replicate 512 0

-- a block has 512 bytes
abbrev pub is_block : List ℕ → Bool
is_block block = length block == 512

-- the first 512 bytes, with zeros behind them where they are fewer: a block is that of its own bytes
unfoldable pub block_of : List ℕ → List ℕ
block_of bytes = take 512 (bytes ++ replicate 512 0)

-- the blocks cut to n, or with blocks of zeros added up to n
abbrev pub resized : List (List ℕ) → ℕ → List (List ℕ)
resized blocks n = take n blocks ++ replicate (n - length blocks) zero_block

-- the blocks one after another
abbrev pub bytes_of : List (List ℕ) → List ℕ
bytes_of blocks = flat_map (λ block. block) blocks

-- the answer is a fault
abbrev pub drive_fault : DriveEnd → Bool
drive_fault drive.Ok = false
drive_fault drive.Failed = true

abbrev pub resize_fault : ResizeEnd → Bool
resize_fault resize.Failed = true
resize_fault other = false

-- what a write leaves: a failed one takes effect where failed writes land, and else changes nothing
abbrev pub written : Bool → Bool → List (List ℕ) → ℕ → List ℕ → List (List ℕ)
written true false blocks n block = blocks
written true true blocks n block = slice_set blocks n block
written false lands blocks n block = slice_set blocks n block

-- what a read leaves: no block changes, and on Ok the buffer has the block
abbrev pub ReadLeaves : DriveEnd → ℕ → List ℕ → List (List ℕ) → List (List ℕ) → Type 0
ReadLeaves drive.Ok n into old new = (new ≡ old) × (slice_get old n ≡ Some into)
ReadLeaves drive.Failed n into old new = new ≡ old

-- what a write leaves: no other block changes, and a failed one leaves its block old or new
abbrev pub WriteLeaves : DriveEnd → ℕ → List ℕ → List (List ℕ) → List (List ℕ) → Type 0
WriteLeaves drive.Ok n block old new = new ≡ slice_set old n block
WriteLeaves drive.Failed n block old new = (new ≡ old) ⊎ (new ≡ slice_set old n block)

-- what a resize leaves: the new size on Ok, on NoMemory all as it was, and after a fault nothing is known
abbrev pub ResizeLeaves : ResizeEnd → ℕ → List (List ℕ) → List (List ℕ) → Type 0
ResizeLeaves resize.Ok n old new = new ≡ resized old n
ResizeLeaves resize.Failed n old new = ⊤
ResizeLeaves resize.NoMemory n old new = new ≡ old

-- what a resize of a form in memory leaves: it changes nothing where it does not succeed
abbrev pub ResizesOrNot : ResizeEnd → ℕ → List (List ℕ) → List (List ℕ) → Type 0
ResizesOrNot resize.Ok n old new = new ≡ resized old n
ResizesOrNot resize.Failed n old new = new ≡ old
ResizesOrNot resize.NoMemory n old new = new ≡ old

-- the number of blocks after a resize that succeeds or wants memory; after a fault it is not known
abbrev pub CountLeaves : ResizeEnd → ℕ → ℕ → ℕ → Type 0
CountLeaves resize.Ok n old new = new ≡ n
CountLeaves resize.Failed n old new = ⊤
CountLeaves resize.NoMemory n old new = new ≡ old
