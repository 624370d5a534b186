-- From the steps of `put` to what its status means.
use Rattle.std.proofs.Common.{◌≡◌, ◌⊎◌, inl, inr, ◌∙◌, ℕ, ◌<◌, ◌≤◌, true, false, List, [], length, take, Option, Some, None, refl, sym, ap, subst, arith}
use Rattle.std.proofs.Common.{Err, Global, Vec}
use Rattle.std.specs.Prelude.{IfSome, min, nat_le}
use Rattle.std.proofs.lemmas.List.{take_all, length-take}
use Rattle.std.proofs.lemmas.Bool.{le-leb}
use Rattle.std.proofs.lemmas.Bool.Decides.{leb_tells}
use Rattle.std.specs.FinMap as map
use Rattle.edi_told.specs.Told.{WhereTold}
use Rattle.edi_host.specs.Contents.{Contents}
use Rattle.edi_calls.specs.State.{most_bytes}
use Rattle.edi_image.specs.Image.{mount_fault_of}
use Rattle.edi_words.specs.Words.{put}
use Rattle.edi_statuses.specs.declared.status.Status.{Status}
use Rattle.edi_statuses.specs.declared.status.Status.TheVariants as status
use Rattle.edi_statuses.specs.Outside.{IsNoFile, IsSomeFile, Lent, Outside, seen, still_told}
use Rattle.edi_statuses.specs.Steps.{AfterStep, Fetches, Mounts, Ready, goes, stops, ◌>>=◌}
use Rattle.edi_statuses.specs.Commands.{ArePut, HasPlace, PutSteps, is_full}
use Rattle.edi_statuses.specs.Broken.{ArePutInPart}
use Rattle.edi_statuses.specs.Means.{Means}
use Rattle.edi_main.specs.steps.OnFiles.{FetchStep, files_only}
use Rattle.edi_main.proofs.steps.OnFilesLemmas.{fetch_stopped}
use Rattle.edi_main.specs.disk.OnDisk.{MeansOnDisk, RestStays}
use Rattle.edi_main.specs.disk.OnDrive.{IsOfPut, PutsOn}
use Rattle.edi_statuses.proofs.Told.{first_told, itself, still, told_so}
use Rattle.edi_main.proofs.disk.Meant.{Same, changes_drive, meant, not_begun, nothing, one_told, only_blocks}

-- ---- no file

pub record NotFetched (s : Status) (file : List ℕ) (old new : Option Contents) (was now : Option (List (List ℕ))) : Type 0 where
  pub why : (s ≡ status.NoMemory)
      ⊎ (((s ≡ status.FileFault) × IsSomeFile (files_only (still_told old new)) file)
      ⊎ ((s ≡ status.Absent) × IsNoFile (files_only (still_told old new)) file))
  pub files : Same old new
  pub blocks : Same was now

-- nor was the drive asked
pub unfetched : (s : Status) (file : List ℕ) (limit : ℕ) (old new : Option Contents) (was : Option (List (List ℕ)))
    → FetchStep (λ (v : Vec ℕ Global). v.items) (files_only (still_told old new)) file limit (Err s) → Same old new → NotFetched s file old new was was
unfetched s file limit old new was h same = record {
  why = fetch_stopped (λ (v : Vec ℕ Global). v.items) (files_only (still_told old new)) file limit s h;
  files = same;
  blocks = itself was;
}

pub not_put : (s : Status) (file title : List ℕ) (old new : Option Contents) (was now : Option (List (List ℕ)))
    → NotFetched s file old new was now → MeansOnDisk (put file title) s old new was now
not_put s file title old new was now h = meant (NotFetched s file) (put file title) s old new was now h go where
  go : (before after : Outside) (kernel : Lent) → RestStays before after kernel → NotFetched s file before.files after.files before.blocks after.blocks
      → Means s (Some (put file title)) before after [] kernel
  go before after kernel rest n = elim n.why [
    | inl e ↦ subst (λ s. Means s (Some (put file title)) before after [] kernel) (sym e) (nothing before after kernel rest n.files n.blocks)
    | inr more ↦
        elim more [
          | inl e ↦
              subst (λ s. Means s (Some (put file title)) before after [] kernel) (sym e.0) (record {
                uses = refl;
                far = inl (still (λ old new. new ≡ old) before.files after.files n.files, e.1, not_begun before after kernel rest n.blocks);
              })
          | inr a ↦
              subst (λ s. Means s (Some (put file title)) before after [] kernel) (sym a.0)
              (inl (inl (refl, a.1), nothing before after kernel rest n.files n.blocks))
        ]
  ]

-- ---- a file that is fetched

-- what was fetched of it
pub record HasFetched (file bytes : List ℕ) (old new : Option Contents) : Type 0 where
  pub all : List ℕ
  pub fetched : IfSome (still_told old new) (λ files. map.get files file ≡ Some all)
  pub front : bytes ≡ take 261121 all
  pub files : Same old new

-- a file that is no longer than a disk's may be is fetched whole
whole : (bytes all : List ℕ) → bytes ≡ take 261121 all → length bytes ≤ 261120 → bytes ≡ all
whole bytes all front short =
    let cut : length (take 261121 all) ≡ min 261121 (length all) = length-take 261121 all in
    let same : length bytes ≡ length (take 261121 all) = ap length front in
    let fits : length all ≤ 261121 = omega (arith, cut, same, short) in
    front ∙ take_all 261121 all fits

fits_whole : (bytes : List ℕ) → length bytes ≤ 261120 → nat_le (length bytes) most_bytes ≡ true
fits_whole bytes short = le-leb (length bytes) 261120 short

too_long : (bytes all : List ℕ) → bytes ≡ take 261121 all → 261120 < length bytes → nat_le (length all) most_bytes ≡ false
too_long bytes all front long = elim (leb_tells (length all) 261120) [
  | inl short ↦
      let cut : length (take 261121 all) ≡ min 261121 (length all) = length-take 261121 all in
      let same : length bytes ≡ length (take 261121 all) = ap length front in
      absurd (omega (arith, cut, same, short.1, long))
  | inr t ↦ t.0
]

-- ---- a file that is too long

pub record IsTooLong (file bytes : List ℕ) (old new : Option Contents) (was now : Option (List (List ℕ))) : Type 0 where
  pub has : HasFetched file bytes old new
  pub long : 261120 < length bytes
  pub blocks : Same was now

pub not_fit : (file title bytes : List ℕ) (old new : Option Contents) (was now : Option (List (List ℕ))) → IsTooLong file bytes old new was now
    → MeansOnDisk (put file title) status.FileLarge old new was now
not_fit file title bytes old new was now h = meant (IsTooLong file bytes) (put file title) status.FileLarge old new was now h go where
  go : (before after : Outside) (kernel : Lent) → RestStays before after kernel → IsTooLong file bytes before.files after.files before.blocks after.blocks
      → Means status.FileLarge (Some (put file title)) before after [] kernel
  go before after kernel rest n =
      inl (inr (n.has.all, n.has.fetched, inl (too_long bytes n.has.all n.has.front n.long, refl)), nothing before after kernel rest n.has.files n.blocks)

-- ---- a file that fits

pub record HasPut (s : Status) (file title bytes : List ℕ) (old new : Option Contents) (was now : Option (List (List ℕ))) : Type 0 where
  pub has : HasFetched file bytes old new
  pub short : length bytes ≤ 261120
  pub blocks : WhereTold was now (PutsOn s title bytes)

module _ (file title bytes : List ℕ) (before after : Outside) (kernel : Lent) (rest : RestStays before after kernel)
    (has : HasFetched file bytes before.files after.files) (short : length bytes ≤ 261120) where
  all_is : bytes ≡ has.all
  all_is = whole bytes has.all has.front short

  fetched : Fetches (seen before after) file (goes bytes)
  fetched = subst (λ b. IfSome (still_told before.files after.files) (λ files. map.get files file ≡ Some b)) (sym all_is) has.fetched

  mounted : (P : List (List ℕ) → List (List ℕ) → Type 0) → ((x y : List (List ℕ)) → P x y → mount_fault_of x ≡ None) → WhereTold before.blocks after.blocks P
      → Mounts (seen before after) (goes tt)
  mounted P so told = first_told P (λ blocks. mount_fault_of blocks ≡ None) before.blocks after.blocks so told

  -- what comes behind the file and its length
  behind : (r : AfterStep (List ℕ)) → (Mounts (seen before after) >>= λ done. HasPlace (seen before after) title (length bytes) >>= λ room. Ready bytes) r
      → PutSteps (seen before after) file title r
  behind r h = inr (bytes, fetched, inr (tt, fits_whole bytes short, h))

  -- the file has its place
  steps : (P : List (List ℕ) → List (List ℕ) → Type 0) → ((x y : List (List ℕ)) → P x y → mount_fault_of x ≡ None)
      → ((x y : List (List ℕ)) → P x y → is_full x title (length bytes) ≡ false) → WhereTold before.blocks after.blocks P
      → PutSteps (seen before after) file title (goes bytes)
  steps P valid room told =
      let place = first_told P (λ blocks. is_full blocks title (length bytes) ≡ false) before.blocks after.blocks room told in
      behind (goes bytes) (inr (tt, mounted P valid told, inr (tt, place, refl)))

  no_change : (P : List (List ℕ) → List (List ℕ) → Type 0) → ((x y : List (List ℕ)) → P x y → y ≡ x) → WhereTold before.blocks after.blocks P
      → Same before.blocks after.blocks
  no_change P same told = told_so P (λ old new. new ≡ old) before.blocks after.blocks same told

  pub put_means : (s : Status) → IsOfPut s → WhereTold before.blocks after.blocks (PutsOn s title bytes)
      → Means s (Some (put file title)) before after [] kernel
  put_means status.Ok of_ told =
      inr (
        bytes,
        steps (PutsOn status.Ok title bytes) (λ x y p. p.0) (λ x y p. p.1) told,
        (
          refl,
          only_blocks before after kernel rest (ArePut title bytes) has.files
              (told_so (PutsOn status.Ok title bytes) (ArePut title bytes) before.blocks after.blocks (λ x y p. p.2) told),
        ),
      )
  put_means status.DiskFull of_ told =
      let full = first_told (PutsOn status.DiskFull title bytes) (λ blocks. is_full blocks title (length bytes) ≡ true) before.blocks after.blocks
      (λ x y p. p.1) told in
      inl (
        behind (stops status.DiskFull) (inr (tt, mounted (PutsOn status.DiskFull title bytes) (λ x y p. p.0) told, inl (refl, full))),
        nothing before after kernel rest has.files (no_change (PutsOn status.DiskFull title bytes) (λ x y p. p.2) told),
      )
  put_means (status.BadImage broken) of_ told =
      let bad = first_told (PutsOn (status.BadImage broken) title bytes) (λ blocks. mount_fault_of blocks ≡ Some broken) before.blocks after.blocks
      (λ x y p. p.0) told in
      inl (
        behind (stops (status.BadImage broken)) (inl (broken, refl, bad, of_)),
        nothing before after kernel rest has.files (no_change (PutsOn (status.BadImage broken) title bytes) (λ x y p. p.1) told),
      )
  put_means status.NoMemory of_ told = nothing before after kernel rest has.files told
  put_means status.DriveFault of_ told = record {
    uses = refl;
    far = (
      still (λ old new. new ≡ old) before.files after.files has.files,
      elim (one_told (λ old new. new ≡ old) Broke before.blocks after.blocks told) [
        | inl same ↦ inl ((tt, inr (bytes, fetched, fits_whole bytes short)), not_begun before after kernel rest same)
        | inr broke ↦
            inr (
              bytes,
              steps Broke (λ x y p. p.0) (λ x y p. p.1) broke,
              changes_drive before after kernel rest (ArePutInPart title bytes)
                  (told_so Broke (ArePutInPart title bytes) before.blocks after.blocks (λ x y p. p.2) broke),
            )
      ],
    );
  } where
    Broke : List (List ℕ) → List (List ℕ) → Type 0
    Broke old new = (mount_fault_of old ≡ None) × (is_full old title (length bytes) ≡ false) × ArePutInPart title bytes old new
  put_means s of_ told = absurd of_

pub has_put : (s : Status) (file title bytes : List ℕ) (old new : Option Contents) (was now : Option (List (List ℕ))) → IsOfPut s
    → HasPut s file title bytes old new was now → MeansOnDisk (put file title) s old new was now
has_put s file title bytes old new was now of_ h =
    meant (HasPut s file title bytes) (put file title) s old new was now h
    (λ before after kernel rest p. put_means file title bytes before after kernel rest p.has p.short s of_ p.blocks)
