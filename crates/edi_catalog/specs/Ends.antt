-- Words of contracts. What a call leaves, by its answer.
use Rattle.std.specs.Prelude.{◌≡◌, ℕ, ◌≤◌, List, ◌++◌, drop, length, ⊤}
use Rattle.edi_host.specs.Blocks.{resized}
use Rattle.edi_host.specs.declared.drive.DriveEnd.{DriveEnd}
use Rattle.edi_host.specs.declared.drive.DriveEnd.TheVariants as drive
use Rattle.edi_catalog.specs.declared.formatting.FormatEnd.{FormatEnd}
use Rattle.edi_catalog.specs.declared.formatting.FormatEnd.TheVariants as format
use Rattle.edi_image.specs.Image.{Holds}
use Rattle.edi_image.specs.Formatted.{formatted, new_catalogue}
use Rattle.edi_image.specs.NoFiles.{no_files}

-- the blocks of the catalogue are written, where there are so many; after a fault nothing is said
abbrev pub CatalogueLeaves : DriveEnd → ℕ → List (List ℕ) → List (List ℕ) → Type 0
CatalogueLeaves drive.Ok count old new = 33 ≤ length old → new ≡ new_catalogue count ++ drop 33 old
CatalogueLeaves drive.Failed count old new = ⊤

-- on Ok the drive is resized and formatted, on NoMemory it is as it was, and after a fault nothing is known
abbrev pub FormatLeaves : FormatEnd → ℕ → List (List ℕ) → List (List ℕ) → Type 0
FormatLeaves format.Ok count old new = (new ≡ formatted (resized old count)) × Holds new no_files
FormatLeaves format.Fault count old new = ⊤
FormatLeaves format.NoMemory count old new = new ≡ old

-- the number of blocks
abbrev pub FormatCounts : FormatEnd → ℕ → ℕ → ℕ → Type 0
FormatCounts format.Ok count old new = new ≡ count
FormatCounts format.Fault count old new = ⊤
FormatCounts format.NoMemory count old new = new ≡ old
