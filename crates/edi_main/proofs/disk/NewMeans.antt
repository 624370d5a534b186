-- From a format to what the status of `newdisk` means.
use Rattle.std.proofs.Common.{◌≡◌, ◌∙◌, inl, inr, ℕ, List, [], length, Option, Some, None, Err, refl}
use Rattle.std.specs.Prelude.{IfSome}
use Rattle.edi_told.specs.Told.{WhereTold}
use Rattle.edi_host.specs.Contents.{Contents}
use Rattle.edi_catalog.specs.Ends.{FormatCounts, FormatLeaves}
use Rattle.edi_catalog.specs.declared.formatting.FormatEnd.{FormatEnd}
use Rattle.edi_catalog.specs.declared.formatting.FormatEnd.TheVariants as format
use Rattle.edi_words.specs.Words.{newdisk}
use Rattle.edi_statuses.specs.declared.status.Status.{Status}
use Rattle.edi_statuses.specs.declared.status.Status.TheVariants as status
use Rattle.edi_statuses.specs.Outside.{Lent, Outside}
use Rattle.edi_statuses.specs.Commands.{AreNew}
use Rattle.edi_statuses.specs.EachObject.{CountsNew}
use Rattle.edi_statuses.specs.Broken.{IsOpen}
use Rattle.edi_statuses.specs.Means.{Means}
use Rattle.edi_main.specs.steps.OnFiles.{FetchStep}
use Rattle.edi_main.specs.disk.OnDisk.{MeansOnDrive, RestStays}
use Rattle.edi_statuses.proofs.Told.{itself, still, told_so}
use Rattle.edi_main.proofs.disk.Meant.{Same, changes_drive, meant, nothing, only_blocks}

-- the status by the answer of the format
abbrev pub status_formatted : FormatEnd → Status
status_formatted format.Ok = status.Ok
status_formatted format.Fault = status.DriveFault
status_formatted format.NoMemory = status.NoMemory

-- so many blocks are told as there are
counted_new : (count n : ℕ) (was now : Option (List (List ℕ))) → IfSome now (λ blocks. length blocks ≡ n) → n ≡ count
    → WhereTold was now (FormatLeaves format.Ok count) → WhereTold was now (AreNew count)
counted_new count n was None many is told = tt
counted_new count n None (Some y) many is told = absurd told
counted_new count n (Some x) (Some y) many is told = (many ∙ is, told.1)

pub record Formats (end : FormatEnd) (count : ℕ) (old new : Option Contents) (was now : Option (List (List ℕ))) : Type 0 where
  pub files : Same old new
  pub had : ℕ
  pub has : ℕ
  pub counted : IfSome now (λ blocks. length blocks ≡ has)
  pub counts : FormatCounts end count had has
  pub leaves : WhereTold was now (FormatLeaves end count)

formats_means : (end : FormatEnd) (count : ℕ) (before after : Outside) (kernel : Lent) → RestStays before after kernel
    → Formats end count before.files after.files before.blocks after.blocks → Means (status_formatted end) (Some (newdisk count None)) before after [] kernel
formats_means format.Ok count before after kernel rest f =
    inr (
      count,
      refl,
      (
        refl,
        only_blocks before after kernel rest (AreNew count) f.files
            (counted_new count f.has before.blocks after.blocks f.counted f.counts f.leaves),
      ),
    )
formats_means format.Fault count before after kernel rest f = record {
  uses = refl;
  far = (
    still (λ old new. new ≡ old) before.files after.files f.files,
    inr (changes_drive before after kernel rest IsOpen
        (told_so (FormatLeaves format.Fault count) IsOpen before.blocks after.blocks (λ x y h. tt) f.leaves)),
  );
}
formats_means format.NoMemory count before after kernel rest f = nothing before after kernel rest f.files f.leaves

pub formatted_means : (end : FormatEnd) (count had has : ℕ) (was now : Option (List (List ℕ))) → IfSome now (λ blocks. length blocks ≡ has)
    → FormatCounts end count had has → WhereTold was now (FormatLeaves end count) → MeansOnDrive (newdisk count None) (status_formatted end) was now
formatted_means end count had has was now counted counts leaves = λ files.
    meant (Formats end count) (newdisk count None) (status_formatted end) files files was now
    (record { files = itself files; had = had; has = has; counted = counted; counts = counts; leaves = leaves })
    (λ before after kernel rest f. formats_means end count before after kernel rest f)

-- ---- the number of blocks

-- where nothing was fetched it is as before
pub counts_kept : {V : Type 0} (items : V → List ℕ) (o : Outside) (name : List ℕ) (limit : ℕ) (s : Status) → FetchStep items o name limit (Err s)
    → (wanted n had has : ℕ) → CountsNew s wanted n n had has
counts_kept items o name limit status.Ok h wanted n had has = let never : status.Ok ≡ status.Absent = h.0 in absurd (cc)
counts_kept items o name limit status.DriveFault h wanted n had has = tt
counts_kept items o name limit status.OutputFault h wanted n had has = inl refl
counts_kept items o name limit s h wanted n had has = refl
