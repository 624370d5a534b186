-- From the steps of `compile` to what its status means.
use Rattle.std.proofs.Common.{◌≡◌, inl, inr, ℕ, List, [], Option, Some, None, Ok, Err, refl, sym, subst, ◌∙◌}
use Rattle.std.specs.Prelude.{IfSome, IsSome}
use Rattle.std.specs.FinMap as map
use Rattle.edi_told.specs.Told.{WhereTold}
use Rattle.edi_host.specs.Files.{KeepLeaves}
use Rattle.edi_host.specs.Contents.{Contents}
use Rattle.edi_host.specs.declared.files.KeepEnd.TheVariants as keep
use Rattle.edi_scheme.specs.Laws.{parts_of}
use Rattle.edi_target.specs.File.{code_bytes}
use Rattle.edi_unit.specs.Tree.{ProgramUnit}
use Rattle.edi_words.specs.Words.{compile}
use Rattle.edi_statuses.specs.declared.status.Status.{Status}
use Rattle.edi_statuses.specs.declared.status.Status.TheVariants as status
use Rattle.edi_statuses.specs.Outside.{Outside, IsSomeFile, still_told, seen, Lent, SameBlocks, SameInput, SamePrinted}
use Rattle.edi_statuses.specs.Steps.{goes, stops, Fetches}
use Rattle.edi_statuses.specs.Commands.{IsNothing, TextSteps}
use Rattle.edi_statuses.specs.Broken.{HasNotBegun}
use Rattle.edi_statuses.specs.Means.{Means}
use Rattle.edi_main.specs.steps.OnFiles.{files_only}
use Rattle.edi_statuses.proofs.Told.{still, same_told, just_told, till_the_last}
use Rattle.edi_statuses.specs.OnFiles.{RestIsSame, MeansOnFiles}
use Rattle.edi_main.specs.text.TextCommands.{CodesFile}

-- ---- contents that are still told

-- what is so from one moment on was so before, where nothing has changed till then
pub since : (P : Contents → Contents → Type 0) (old mid new : Option Contents) → WhereTold old mid (λ old mid. mid ≡ old) → WhereTold mid new P
    → WhereTold (still_told old new) new P
since P old mid None same holds = tt
since P old None (Some n) same holds = absurd holds
since P None (Some m) (Some n) same holds = absurd same
since P (Some o) (Some m) (Some n) same holds = subst (λ x. P x n) same holds

-- ---- the meaning of a status

module _ (file out : List ℕ) (old new : Option Contents) (before after : Outside) (kernel : Lent) (e : before.files ≡ old) (d : after.files ≡ new)
    (rest : RestIsSame before after kernel) where
  files_are : still_told old new ≡ (seen before after).files
  files_are = λ i. still_told (sym e i) (sym d i)

  -- what holds of the files from before to behind
  on_files : (P : Contents → Contents → Type 0) → WhereTold (still_told old new) new P → WhereTold (seen before after).files after.files P
  on_files P holds = subst (λ x. WhereTold x after.files P) files_are (subst (λ y. WhereTold (still_told old new) y P) (sym d) holds)

  blocks_same : SameBlocks (seen before after) after
  blocks_same = same_told before.blocks after.blocks rest.blocks

  input_same : SameInput (seen before after) after
  input_same = same_told before.input after.input rest.input

  printed_same : SamePrinted (seen before after) after
  printed_same = same_told before.printed after.printed rest.printed

  nothing : WhereTold (still_told old new) new (λ old new. new ≡ old) → IsNothing (seen before after) after [] kernel
  nothing same = record {
    shown_ = refl;
    same = record {
      files = on_files (λ old new. new ≡ old) same;
      blocks = blocks_same;
      input = input_same;
      printed = printed_same;
    };
    kernel_same = rest.kernel_same;
  }

  not_begun : HasNotBegun (seen before after) after [] kernel
  not_begun = record { shown_ = refl; blocks = blocks_same; input = input_same; printed = printed_same; kernel_same = rest.kernel_same }

  -- the file was not fetched
  unfetched : IsSomeFile (files_only (still_told old new)) file → WhereTold (still_told old new) new (λ old new. new ≡ old)
      → Means status.FileFault (Some (compile file out)) before after [] kernel
  unfetched there same = record {
    uses = refl;
    far =
        inl (on_files (λ old new. new ≡ old) same, subst (λ x. IfSome x (λ files. IsSome (map.get files file))) files_are there, not_begun);
  }

  -- the code was not kept
  broken : (text : List ℕ) (unit : ProgramUnit) → TextSteps (seen before after) file (goes (text, unit))
      → WhereTold (still_told old new) new (λ old new. map.remove new out ≡ map.remove old out)
      → Means status.FileFault (Some (compile file out)) before after [] kernel
  broken text unit steps same =
      record { uses = refl; far = inr (on_files (λ old new. map.remove new out ≡ map.remove old out) same, ((text, unit), steps, not_begun)) }

  wanting : WhereTold (still_told old new) new (λ old new. new ≡ old) → Means status.NoMemory (Some (compile file out)) before after [] kernel
  wanting same = nothing same

  seen_file : (text : List ℕ) → IfSome (still_told old new) (λ files. map.get files file ≡ Some text) → Fetches (seen before after) file (goes text)
  seen_file text fetched = subst (λ x. IfSome x (λ files. map.get files file ≡ Some text)) files_are fetched

  -- the command stopped at one of its steps
  stopped : (s : Status) → TextSteps (files_only (still_told old new)) file (stops s) → WhereTold (still_told old new) new (λ old new. new ≡ old)
      → Means s (Some (compile file out)) before after [] kernel
  stopped s (inl absent) same =
      subst (λ s. Means s (Some (compile file out)) before after [] kernel) (sym absent.0)
      (inl (inl (refl, subst (λ x. IfSome x (λ files. map.get files file ≡ None)) files_are absent.1), nothing same))
  stopped s (inr fetched) same = elim fetched.2 [
    | inl r ↦
        subst (λ s. Means s (Some (compile file out)) before after [] kernel) (sym r.2)
        (inl (inr (fetched.0, seen_file fetched.0 fetched.1, inl (r.0, r.1, refl, r.3)), nothing same))
    | inr r ↦ absurd r.2
  ]

  stops_so : {V : Type 0} (items : V → List ℕ) (s : Status) → CodesFile items (files_only (still_told old new)) file (Err s)
      → WhereTold old new (λ old new. new ≡ old) → Means s (Some (compile file out)) before after [] kernel
  stops_so items s (inl none) same =
      subst (λ s. Means s (Some (compile file out)) before after [] kernel) (sym none) (wanting (still (λ old new. new ≡ old) old new same))
  stops_so items s (inr (inl failed)) same =
      subst (λ s. Means s (Some (compile file out)) before after [] kernel) (sym failed.0)
      (unfetched failed.1 (still (λ old new. new ≡ old) old new same))
  stops_so items s (inr (inr steps)) same = stopped s steps (still (λ old new. new ≡ old) old new same)

-- the command has stopped
pub stops_means : {V : Type 0} (items : V → List ℕ) (file out : List ℕ) (old new : Option Contents) (s : Status)
    → CodesFile items (files_only (still_told old new)) file (Err s) → WhereTold old new (λ old new. new ≡ old) → MeansOnFiles (compile file out) s old new
stops_means items file out old new s codes same = λ before after kernel e d rest. stops_so file out old new before after kernel e d rest items s codes same

-- the code was to be kept
module _ {V : Type 0} (items : V → List ℕ) (file out : List ℕ) (old mid new : Option Contents) (v : V) (bytes : List ℕ) (are : bytes ≡ items v)
    (codes : CodesFile items (files_only (still_told old mid)) file (Ok v)) (same : WhereTold old mid (λ old mid. mid ≡ old)) where
  -- the steps, whatever the files are told to be behind the keeping
  steps : (before after : Outside) (kernel : Lent) (e : before.files ≡ old) (d : after.files ≡ new) (rest : RestIsSame before after kernel)
      (P : Contents → Contents → Type 0) → WhereTold mid new P → TextSteps (seen before after) file (goes (codes.0, codes.2.0))
  steps before after kernel e d rest P kept =
      inr (
        codes.0,
        seen_file file out old new before after kernel e d rest codes.0
            (till_the_last (λ files. map.get files file ≡ Some codes.0) old mid new (just_told P mid new kept) codes.1),
        inr (codes.2.0, codes.2.1, refl),
      )

  pub kept_means : WhereTold mid new (KeepLeaves keep.Ok out bytes) → MeansOnFiles (compile file out) status.Ok old new
  kept_means kept = λ before after kernel e d rest.
      let text = codes.0 in
      let made = codes.2 in
      let leaves = since (λ old new. new ≡ map.insert old out (code_bytes (parts_of made.0))) old mid new same
      (subst (λ b. WhereTold mid new (λ old new. new ≡ map.insert old out b)) (are ∙ made.3) kept) in
      inr (
        (text, made.0),
        steps before after kernel e d rest (KeepLeaves keep.Ok out bytes) kept,
        (
          refl,
          record {
            code_is = made.2;
            keeps = record {
              shown_ = refl;
              keeps = on_files file out old new before after kernel e d rest (λ old new. new ≡ map.insert old out (code_bytes (parts_of made.0))) leaves;
              blocks = blocks_same file out old new before after kernel e d rest;
              input = input_same file out old new before after kernel e d rest;
              printed = printed_same file out old new before after kernel e d rest;
              kernel_same = rest.kernel_same;
            };
          },
        ),
      )

  pub unkept_means : WhereTold mid new (KeepLeaves keep.NoMemory out bytes) → MeansOnFiles (compile file out) status.NoMemory old new
  unkept_means kept = λ before after kernel e d rest.
      wanting file out old new before after kernel e d rest (since (λ old new. new ≡ old) old mid new same kept)

  pub failed_means : WhereTold mid new (KeepLeaves keep.Failed out bytes) → MeansOnFiles (compile file out) status.FileFault old new
  failed_means kept = λ before after kernel e d rest.
      broken file out old new before after kernel e d rest codes.0 codes.2.0
      (steps before after kernel e d rest (KeepLeaves keep.Failed out bytes) kept)
      (since (λ old new. map.remove new out ≡ map.remove old out) old mid new same kept)
