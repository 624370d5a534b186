-- From the steps of `get` to what its status means.
use Rattle.std.proofs.Common.{◌≡◌, ◌≤◌, ◌∙◌, inl, inr, sym, subst, ℕ, List, [], ◌∷◌, take, Option, Some, None, Ok, Err, refl, ap}
use Rattle.std.specs.Option.{option_map}
use Rattle.std.specs.FinMap as map
use Rattle.edi_told.specs.Faults.{CountRose}
use Rattle.edi_told.specs.Told.{WhereTold}
use Rattle.edi_host.specs.Files.{KeepLeaves}
use Rattle.edi_host.specs.Contents.{Contents}
use Rattle.edi_host.specs.declared.files.KeepEnd.{KeepEnd}
use Rattle.edi_host.specs.declared.files.KeepEnd.TheVariants as keep
use Rattle.edi_calls.specs.State.{File, find_file}
use Rattle.edi_image.specs.Image.{mount_fault_of, slots_of}
use Rattle.edi_words.specs.Words.{get}
use Rattle.edi_statuses.specs.declared.status.Status.{Status}
use Rattle.edi_statuses.specs.declared.status.Status.TheVariants as status
use Rattle.edi_statuses.specs.Outside.{Lent, Outside, seen}
use Rattle.edi_statuses.specs.Steps.{goes}
use Rattle.edi_statuses.specs.Commands.{GetSteps}
use Rattle.edi_statuses.specs.Means.{Means}
use Rattle.edi_main.specs.disk.OnDisk.{HasCauseOnDisk, IsOfDisk, MeansOnDisk, RestStays}
use Rattle.edi_main.specs.disk.OnDrive.{IsOfRead, ReadsOn, status_kept}
use Rattle.edi_statuses.proofs.Told.{first_told, still, told_so}
use Rattle.edi_main.proofs.disk.Meant.{Same, meant, not_begun, nothing, only_keeps}

-- ---- nothing is read

pub record NotRead (s : Status) (title into : List ℕ) (old new : Option Contents) (was now : Option (List (List ℕ))) : Type 0 where
  pub files : Same old new
  pub blocks : WhereTold was now (λ old new. (new ≡ old) × ReadsOn (Err s) title into old)

module _ (title file into : List ℕ) (before after : Outside) (kernel : Lent) (rest : RestStays before after kernel) where
  pub not_read_means : (s : Status) → IsOfRead s → NotRead s title into before.files after.files before.blocks after.blocks
      → Means s (Some (get title file)) before after [] kernel
  not_read_means s of_ n = go s of_ n.blocks where
    same : (s : Status) → WhereTold before.blocks after.blocks (λ old new. (new ≡ old) × ReadsOn (Err s) title into old) → Same before.blocks after.blocks
    same s told = told_so (λ old new. (new ≡ old) × ReadsOn (Err s) title into old) (λ old new. new ≡ old) before.blocks after.blocks (λ x y p. p.0) told

    go : (s : Status) → IsOfRead s → WhereTold before.blocks after.blocks (λ old new. (new ≡ old) × ReadsOn (Err s) title into old)
        → Means s (Some (get title file)) before after [] kernel
    go status.Absent of_ told =
        inl (
          inr (
            tt,
            first_told (λ old new. (new ≡ old) × ReadsOn (Err status.Absent) title into old) (λ blocks. mount_fault_of blocks ≡ None) before.blocks after.blocks
                (λ x y p. p.1.0) told,
            (
              refl,
              first_told (λ old new. (new ≡ old) × ReadsOn (Err status.Absent) title into old) (λ blocks. find_file (slots_of blocks) title ≡ None)
                  before.blocks after.blocks
                  (λ x y p. p.1.1) told,
            ),
          ),
          nothing before after kernel rest n.files (same status.Absent told),
        )
    go (status.BadImage broken) of_ told =
        inl (
          inl (
            broken,
            refl,
            first_told (λ old new. (new ≡ old) × ReadsOn (Err (status.BadImage broken)) title into old) (λ blocks. mount_fault_of blocks ≡ Some broken)
                before.blocks after.blocks (λ x y p. p.1) told,
            of_,
          ),
          nothing before after kernel rest n.files (same (status.BadImage broken) told),
        )
    go status.NoMemory of_ told = nothing before after kernel rest n.files (same status.NoMemory told)
    go status.DriveFault of_ told = record {
      uses = refl;
      far = (
        still (λ old new. new ≡ old) before.files after.files n.files,
        inl (tt, not_begun before after kernel rest (same status.DriveFault told)),
      );
    }
    go s of_ told = absurd of_

pub not_read : (s : Status) (title file into : List ℕ) (old new : Option Contents) (was now : Option (List (List ℕ))) → IsOfRead s
    → NotRead s title into old new was now → MeansOnDisk (get title file) s old new was now
not_read s title file into old new was now of_ h =
    meant (NotRead s title into) (get title file) s old new was now h
    (λ before after kernel rest n. not_read_means title file into before after kernel rest s of_ n)

-- ---- the bytes are kept, or not

pub record HasRead (end : KeepEnd) (n : ℕ) (title file into bytes : List ℕ) (old new : Option Contents) (was now : Option (List (List ℕ))) : Type 0 where
  pub files : WhereTold old new (KeepLeaves end file bytes)
  pub bytes_are : bytes ≡ take n into
  pub blocks : WhereTold was now (λ old new. (new ≡ old) × ReadsOn (Ok n) title into old)

module _ (n : ℕ) (title file into bytes : List ℕ) (before after : Outside) (kernel : Lent) (rest : RestStays before after kernel) where
  pub has_read_means : (end : KeepEnd) → HasRead end n title file into bytes before.files after.files before.blocks after.blocks
      → Means (status_kept end) (Some (get title file)) before after [] kernel
  has_read_means end h = go end h.files where
    Read : List (List ℕ) → List (List ℕ) → Type 0
    Read old new = (new ≡ old) × ReadsOn (Ok n) title into old

    same : Same before.blocks after.blocks
    same = told_so Read (λ old new. new ≡ old) before.blocks after.blocks (λ x y p. p.0) h.blocks

    steps : GetSteps (seen before after) title (goes bytes)
    steps =
        inr (
          tt,
          first_told Read (λ blocks. mount_fault_of blocks ≡ None) before.blocks after.blocks (λ x y p. p.1.0) h.blocks,
          first_told Read (λ blocks. option_map (λ (f : File). f.bytes) (find_file (slots_of blocks) title) ≡ Some bytes) before.blocks after.blocks
              (λ x y p. p.1.1 ∙ ap Some (sym h.bytes_are)) h.blocks,
        )

    go : (end : KeepEnd) → WhereTold before.files after.files (KeepLeaves end file bytes) → Means (status_kept end) (Some (get title file)) before after []
        kernel
    go keep.Ok told =
        inr (
          bytes,
          steps,
          (
            refl,
            only_keeps before after kernel rest ((file, bytes) ∷ [])
                (still (λ old new. new ≡ map.insert old file bytes) before.files after.files told) same,
          ),
        )
    go keep.Failed told = record {
      uses = refl;
      far =
          inr (
            still (λ old new. map.remove new file ≡ map.remove old file) before.files after.files told,
            (bytes, steps, not_begun before after kernel rest same),
          );
    }
    go keep.NoMemory told = nothing before after kernel rest told same

pub has_read : (end : KeepEnd) (n : ℕ) (title file into bytes : List ℕ) (old new : Option Contents) (was now : Option (List (List ℕ)))
    → HasRead end n title file into bytes old new was now → MeansOnDisk (get title file) (status_kept end) old new was now
has_read end n title file into bytes old new was now h =
    meant (HasRead end n title file into bytes) (get title file) (status_kept end) old new was now h
    (λ before after kernel rest r. has_read_means n title file into bytes before after kernel rest end r)

-- ---- faults

pub read_of_disk : (s : Status) → IsOfRead s → IsOfDisk s
read_of_disk status.Absent of_ = tt
read_of_disk (status.BadImage broken) of_ = tt
read_of_disk status.NoMemory of_ = tt
read_of_disk status.DriveFault of_ = tt
read_of_disk s of_ = absurd of_

pub read_cause : (s : Status) (files files' drive drive' : ℕ) → IsOfRead s → files ≤ files' → drive ≤ drive' → (s ≡ status.DriveFault → CountRose drive drive')
    → HasCauseOnDisk s files files' drive drive'
read_cause s files files' drive drive' h later_files later_drive cause = record {
  kind = read_of_disk s h;
  later_files = later_files;
  later_drive = later_drive;
  cause_files = λ e. absurd (subst IsOfRead e h);
  cause_drive = cause;
}

pub kept_of_disk : (end : KeepEnd) → IsOfDisk (status_kept end)
kept_of_disk keep.Ok = tt
kept_of_disk keep.Failed = tt
kept_of_disk keep.NoMemory = tt

pub kept_failed : (end : KeepEnd) → status_kept end ≡ status.FileFault → end ≡ keep.Failed
kept_failed keep.Ok h = absurd (cc)
kept_failed keep.Failed h = refl
kept_failed keep.NoMemory h = absurd (cc)

pub kept_drive : (end : KeepEnd) → status_kept end ≡ status.DriveFault → ⊥
kept_drive keep.Ok h = cc
kept_drive keep.Failed h = cc
kept_drive keep.NoMemory h = cc
