-- Contents that are told decide the status of a command and what it shows before the line of the status.
use Rattle.std.proofs.Common.{◌≡◌, ◌∙◌, ◌≤◌, ℕ, List, [], ◌∷◌, ◌++◌, length, Option, Some, None, IsSome, true≢false, false, true, refl, sym, ap, subst, inl, inr, arith, rules}
use Rattle.std.proofs.lemmas.List.{append_cancel_left}
use Rattle.edi_told.specs.Told.{WhereTold}
use Rattle.edi_calls.specs.Choice.{Choices}
use Rattle.edi_debug.specs.stops.Stops.{Watched}
use Rattle.edi_calls.specs.Outcome.{Ending, Outcome}
use Rattle.edi_calls.specs.State.{State, fresh}
use Rattle.edi_target.specs.Fetch.{fetch}
use Rattle.edi_target.proofs.Runs.{runs_are_determined}
use Rattle.edi_texts.proofs.Executions.{one_outcome}
use Rattle.edi_unit.specs.Fits.{Fits}
use Rattle.edi_unit.specs.Tree.{ProgramUnit}
use Rattle.edi_disjoint.proofs.One.{one_report}
use Rattle.edi_explain.specs.told.Explained.{IsExplained}
use Rattle.edi_explain.proofs.told.One.{one_explanation}
use Rattle.edi_utils.specs.Demo.{demo_text}
use Rattle.edi_utils.specs.Listing.{listing_of}
use Rattle.edi_session.specs.declared.end.SessionEnd.{SessionEnd}
use Rattle.edi_session.specs.declared.end.SessionEnd.TheVariants as end
use Rattle.edi_runs.specs.declared.explore.summary.Summary.{Summary}
use Rattle.edi_runs.specs.declared.explore.summary.Summary.TheVariants as summary
use Rattle.edi_runs.specs.explore.Input.{most_input, names_accept}
use Rattle.edi_runs.specs.explore.Lines.{summary_of}
use Rattle.edi_words.specs.Words as words
use Rattle.edi_words.specs.Words.{Account, ChoicesFrom, Command, ExploreOptions, Options}
use Rattle.edi_statuses.specs.declared.status.Status.{Status}
use Rattle.edi_statuses.specs.declared.status.Status.TheVariants as status
use Rattle.edi_statuses.specs.Outside.{Outside, Devices, devices_of, system_on, KernelLeft, Lent}
use Rattle.edi_statuses.specs.Executions.{Runnable, text, code, HasOutcome, HasRun, Ran, status_of}
use Rattle.edi_statuses.specs.Facts.{Comes}
use Rattle.edi_statuses.specs.Commands.{IsDone, OnlyBlocks, OnlyKeeps, OnlyShows, ShowsReport, KeepsCode, Runs, AreNew, AreMigrated, ArePut}
use Rattle.edi_statuses.specs.Commands.{RunSteps, ExecSteps, WatchSteps, Watches, TextSteps, OldSteps, PutSteps, GetSteps, ListSteps, DemoSteps}
use Rattle.edi_statuses.specs.Commands.{CommandEffect, Demonstrates, DemonstratesWith, Explains, IsShownOf, ShowsSize, size_shown, with_own}
use Rattle.edi_statuses.specs.Steps.{goes, ◌>>=◌, Accepts, Fetches, Ready}
use Rattle.edi_statuses.specs.Walked.{Walks}
use Rattle.edi_statuses.specs.Sessions.{BootSteps, HoldsSession, session_status}
use Rattle.edi_statuses.specs.Explored.{ExploresText, IsTooLong, TakesAll, status_of_summary}
use Rattle.edi_statuses.specs.Accounts.{RunsWith}
use Rattle.edi_statuses.specs.Decided.{IsTold, OneRefusal, OneStatus, is_decided, is_refusal}
use Rattle.edi_statuses.proofs.Walked.{walked_same}
use Rattle.edi_statuses.proofs.StepLemmas.{IsOne, TextsAreOne, ready_one, then_one, tests_one, fetches_one, choices_one, accepts_one, mounts_one}
use Rattle.edi_statuses.proofs.StepLemmas.{loads_one, old_one, finds_one, has_place_one, reads_one, IsOneEffect, does_one, does_refused}

-- ---- executions

-- a program has one outcome
pub outcome_same : (program : Runnable) (system : State) (bound : ℕ) (choices : Choices) (one other : Outcome)
    → HasOutcome program system bound choices one → HasOutcome program system bound choices other → one ≡ other
outcome_same (text bytes) system bound choices one other h k = one_outcome bytes system bound choices one other h k
outcome_same (code parts) system bound choices one other h k =
    runs_are_determined (fetch parts.words) parts.entry parts.calls (fresh system) bound choices one other h k

record Same (s t : Ending) (shown bytes : List ℕ) (kernel other : KernelLeft) : Type 0 where
  ending : s ≡ t
  shown_ : shown ≡ bytes
  used : kernel.used ≡ other.used

ran_same : (program : Runnable) (bound : ℕ) (choices : Choices) (s t : Ending) (m n : ℕ) (d e f : Devices)
    (shown bytes : List ℕ) (kernel other : KernelLeft) → HasRun program bound choices s m d e shown kernel
    → HasRun program bound choices t n d f bytes other → Same s t shown bytes kernel other
ran_same program bound choices s t m n d e f shown bytes kernel other h k =
    let same = outcome_same program (system_on d) bound choices h.outcome_ k.outcome_ h.outcome_is k.outcome_is in record {
      ending = sym h.ending_is ∙ ap (λ (o : Outcome). o.ending) same ∙ k.ending_is;
      shown_ = append_cancel_left d.shown shown bytes (h.leaves.shown_ ∙ ap (λ (o : Outcome). o.shown) same ∙ sym k.leaves.shown_);
      used = h.kernel_is.turns ∙ ap (λ (o : Outcome). o.turns) same ∙ sym k.kernel_is.turns;
    }

-- ---- what is told

record ToldDevices (o : Outside) : Type 0 where
  devices : Devices
  are : devices_of o ≡ Some devices

devices_told : (o : Outside) → IsTold o → ToldDevices o
devices_told o told = go o.blocks o.input o.shown o.printed told.blocks told.input told.shown told.printed
  where
    go : (blocks : Option (List (List ℕ))) (input shown printed : Option (List ℕ)) → IsSome blocks → IsSome input → IsSome shown → IsSome printed
        → ToldDevices (record o { blocks = blocks; input = input; shown = shown; printed = printed })
    go None input shown printed a b c d = absurd (cc)
    go (Some blocks) None shown printed a b c d = absurd (cc)
    go (Some blocks) (Some input) None printed a b c d = absurd (cc)
    go (Some blocks) (Some input) (Some shown) None a b c d = absurd (cc)
    go (Some blocks) (Some input) (Some shown) (Some printed) a b c d = record {
      devices = record { blocks = blocks; input = input; shown = shown; printed = printed };
      are = refl;
    }

there : {A : Type 0} (P : A → A → Type 0) (before after : Option A) (d e : A) → before ≡ Some d → after ≡ Some e → WhereTold before after P → P d e
there P before after d e b a h = subst (λ x. WhereTold (Some d) x P) a (subst (λ x. WhereTold x after P) b h)

-- runs that came to their endings are the same
ended_same : (before after behind : Outside) → IsTold before → IsTold after → IsTold behind → (program : Runnable) (bound : ℕ) (choices : Choices)
    (s t : Ending) (m n : ℕ) (shown bytes : List ℕ) (kernel other : Lent) → Ran program bound choices s m before after shown kernel
    → Ran program bound choices t n before behind bytes other → Same s t shown bytes kernel.after other.after
ended_same before after behind is_told after_told behind_told program bound choices s t m n shown bytes kernel other h k =
    let d = devices_told before is_told in
    let e = devices_told after after_told in
    let f = devices_told behind behind_told in
    ran_same program bound choices s t m n d.devices e.devices f.devices shown bytes kernel.after other.after
    (there _ _ _ d.devices e.devices d.are e.are h) (there _ _ _ d.devices f.devices d.are f.are k)

-- a run has one status, shows one thing and takes one number of turns
runs_same : (before after behind : Outside) → IsTold before → IsTold after → IsTold behind → (program : Runnable) (bound : ℕ) (choices : Choices)
    (record_file : Option (List ℕ)) (s t : Status) (shown bytes : List ℕ) (kernel other : Lent)
    → Runs program bound choices record_file s before after shown kernel → Runs program bound choices record_file t before behind bytes other
    → (s ≡ t) × (shown ≡ bytes) × (kernel.after.used ≡ other.after.used)
runs_same before after behind is_told after_told behind_told program bound choices record_file s t shown bytes kernel other h k =
    let same = ended_same before after behind is_told after_told behind_told program bound choices h.ending k.ending h.drawn k.drawn shown bytes kernel other
    h.ran k.ran in
    (h.status_is ∙ ap status_of same.ending ∙ sym k.status_is, same.shown_, same.used)

-- so does one with an account
runs_with_same : (before after behind : Outside) → IsTold before → IsTold after → IsTold behind → (program : Runnable) (bound : ℕ) (choices : Choices)
    (account : Account) (record_file : Option (List ℕ)) (s t : Status) (shown bytes : List ℕ) (kernel other : Lent)
    → RunsWith program bound choices account record_file s before after shown kernel → RunsWith program bound choices account record_file t before behind bytes other
    → (s ≡ t) × (shown ≡ bytes) × (kernel.after.used ≡ other.after.used)
runs_with_same before after behind is_told after_told behind_told program bound choices account record_file s t shown bytes kernel other h k =
    let same = ended_same before after behind is_told after_told behind_told program bound choices h.0 k.0 h.2.drawn k.2.drawn shown bytes kernel other
    h.2.ran k.2.ran in
    (h.1 ∙ ap status_of same.ending ∙ sym k.1, same.shown_, same.used)

own_told : (blocks : List (List ℕ)) (input : List ℕ) (o : Outside) → IsTold o → IsTold (with_own blocks input o)
own_told blocks input o told =
    record { files = told.files; blocks = search rules; input = search rules; shown = told.shown; printed = told.printed }

-- an input is not too long for one call, and taken by the other
clash : (b a c : Option (List ℕ)) (input : List ℕ) → IsSome a → IsSome c → length input ≤ most_input → WhereTold b a IsTooLong
    → WhereTold b c (λ old new. (old ≡ input) × (new ≡ [])) → ⊥
clash b None c input told also_told few long all = absurd (cc)
clash None (Some a) c input told also_told few long all = absurd long
clash (Some b) (Some a) None input told also_told few long all = absurd (cc)
clash (Some b) (Some a) (Some c) input told also_told few long all = omega (arith, few, long.0, ap length all.0)

module _ (each : TextsAreOne) (before after behind : Outside) (is_told : IsTold before) (after_told : IsTold after) (behind_told : IsTold behind) where
  runs_one : (program : Runnable) (bound : ℕ) (choices : Choices) (record_file : Option (List ℕ))
      → IsOneEffect before after behind (Runs program bound choices record_file)
  runs_one program bound choices record_file s t shown bytes kernel other h k =
      let same = runs_same before after behind is_told after_told behind_told program bound choices record_file s t shown bytes kernel other h k in
      (same.0, same.1)

  watches_one : (program : List ℕ) (points : List Watched) (bound : ℕ) (choices : Choices) (out : List ℕ) (record_file : Option (List ℕ))
      → IsOneEffect before after behind (Watches program points bound choices out record_file)
  watches_one program points bound choices out record_file s t shown bytes kernel other h k =
      let same = ended_same before after behind is_told after_told behind_told (text program) bound choices h.ending k.ending h.drawn k.drawn shown bytes
      kernel other h.ran k.ran in
      (h.status_is ∙ ap status_of same.ending ∙ sym k.status_is, same.shown_)

  runs_with_one : (program : Runnable) (bound : ℕ) (choices : Choices) (account : Account) (record_file : Option (List ℕ))
      → IsOneEffect before after behind (RunsWith program bound choices account record_file)
  runs_with_one program bound choices account record_file s t shown bytes kernel other h k =
      let same = runs_with_same before after behind is_told after_told behind_told program bound choices account record_file s t shown bytes kernel other h k in
      (same.0, same.1)

  -- a program on its own that has one end, and then the line of a demonstration
  size_one : (n : ℕ) (effect : CommandEffect)
      → ((b a c : Outside) → IsTold b → IsTold a → IsTold c → (s t : Status) (shown bytes : List ℕ) (kernel other : Lent) → effect s b a shown kernel
      → effect t b c bytes other → (s ≡ t) × (shown ≡ bytes) × (kernel.after.used ≡ other.after.used))
      → IsOneEffect before after behind (ShowsSize n effect)
  size_one n effect one s t shown bytes kernel other h k =
      let same = one (with_own [] [] before) (with_own h.ran.disk h.ran.left after) (with_own k.ran.disk k.ran.left behind)
      (own_told [] [] before is_told) (own_told h.ran.disk h.ran.left after after_told) (own_told k.ran.disk k.ran.left behind behind_told)
      s t h.by_program k.by_program kernel other h.ran.is k.ran.is in
      (same.0, h.shown_ ∙ (λ i. same.1 i ++ size_shown (same.0 i) n (same.2 i) (same.1 i)) ∙ sym k.shown_)

  demo_one : (n bound : ℕ) (choices : Choices) (record_file : Option (List ℕ))
      → IsOneEffect before after behind (Demonstrates n bound choices record_file)
  demo_one n bound choices record_file =
      size_one n (Runs (text (demo_text n)) bound choices record_file) (λ b a c is_b is_a is_c. runs_same b a c is_b is_a is_c
      (text (demo_text n)) bound choices record_file)

  demo_with_one : (n bound : ℕ) (choices : Choices) (account : Account) (record_file : Option (List ℕ))
      → IsOneEffect before after behind (DemonstratesWith n bound choices account record_file)
  demo_with_one n bound choices account record_file =
      size_one n (RunsWith (text (demo_text n)) bound choices account record_file) (λ b a c is_b is_a is_c. runs_with_same b a c is_b is_a is_c
      (text (demo_text n)) bound choices account record_file)

  blocks_one : (P : List (List ℕ) → List (List ℕ) → Type 0) → IsOneEffect before after behind (IsDone (OnlyBlocks P))
  blocks_one P s t shown bytes kernel other h k = (h.0 ∙ sym k.0, h.1.shown_ ∙ sym k.1.shown_)

  keeps_one : (kept : List (List ℕ × List ℕ)) → IsOneEffect before after behind (IsDone (OnlyKeeps kept))
  keeps_one kept s t shown bytes kernel other h k = (h.0 ∙ sym k.0, h.1.shown_ ∙ sym k.1.shown_)

  shows_one : (all : List ℕ) → IsOneEffect before after behind (IsDone (OnlyShows all))
  shows_one all s t shown bytes kernel other h k = (h.0 ∙ sym k.0, h.1.shown_ ∙ sym k.1.shown_)

  report_one : (unit : ProgramUnit) → Fits unit → IsOneEffect before after behind (IsDone (ShowsReport unit))
  report_one unit fits s t shown bytes kernel other h k =
      (h.0 ∙ sym k.0, h.1.2.shown_ ∙ one_report unit fits h.1.0 k.1.0 h.1.1 k.1.1 ∙ sym k.1.2.shown_)

  -- a text is accepted or refused, and refused so; it has one explanation
  shown_of_one : (program : List ℕ) (s t : Status) (one other : List ℕ) → IsShownOf program s one → IsShownOf program t other → (s ≡ t) × (one ≡ other)
  shown_of_one program status.Ok status.Ok one other h k = (refl, h.2 ∙ sym k.2)
  shown_of_one program status.Ok (status.Refused kind line) one other h k = absurd (each.not_both program k.0.0 kind line h.0 k.0.1 h.1)
  shown_of_one program (status.Refused kind line) status.Ok one other h k = absurd (each.not_both program h.0.0 kind line k.0 h.0.1 k.1)
  shown_of_one program (status.Refused kind line) (status.Refused why at) one other h k =
      let same = each.one_fault program h.0.0 k.0.0 kind why line at h.0.1 k.0.1 in
      let so : IsExplained program why at one = subst (λ w. IsExplained program w at one) same.1 (subst (λ n. IsExplained program kind n one) same.2 h.1) in
      ((λ i. status.Refused (same.1 i) (same.2 i)), one_explanation program why at one other so k.1)
  shown_of_one program status.Ok t one other h k = absurd k
  shown_of_one program (status.Refused kind line) t one other h k = absurd k
  shown_of_one program s t one other h k = absurd h

  explains_one : (program : List ℕ) → IsOneEffect before after behind (Explains program)
  explains_one program s t shown bytes kernel other h k =
      let same = shown_of_one program s t h.0 k.0 h.1 k.1 in (same.0, h.2.shown_ ∙ same.1 ∙ sym k.2.shown_)

  code_one : (out bytes_ : List ℕ) (unit : ProgramUnit) → IsOneEffect before after behind (IsDone (KeepsCode out bytes_ unit))
  code_one out bytes_ unit s t shown bytes kernel other h k = (h.0 ∙ sym k.0, h.1.keeps.shown_ ∙ sym k.1.keeps.shown_)

  walks_one : (program : List ℕ) (bound : ℕ) (choices : Choices) → IsOneEffect before after behind (Walks program bound choices)
  walks_one program bound choices s t shown bytes kernel other h k =
      let d = devices_told before is_told in
      let e = devices_told after after_told in
      let f = devices_told behind behind_told in
      let same = walked_same program bound choices h.ending k.ending d.devices e.devices f.devices shown bytes
      (there _ _ _ d.devices e.devices d.are e.are h.walked) (there _ _ _ d.devices f.devices d.are f.are k.walked) in
      (h.status_is ∙ ap status_of same.0 ∙ sym k.status_is, same.1)

  pub text_steps : (file : List ℕ) (from : ChoicesFrom) → IsOne (RunSteps before file from)
  text_steps file from =
      then_one _ _ (fetches_one before is_told.files file) (λ bytes. then_one _ _ (choices_one before is_told.files from)
      (λ choices. then_one _ _ (accepts_one each bytes) (λ unit. then_one _ _ (mounts_one before is_told.blocks) (λ done. ready_one _))))

  pub watch_steps : (file points_file : List ℕ) (from : ChoicesFrom) → IsOne (WatchSteps before file points_file from)
  watch_steps file points_file from =
      then_one _ _ (then_one _ _ (fetches_one before is_told.files file) (λ bytes. then_one _ _ (choices_one before is_told.files from)
      (λ choices. then_one _ _ (accepts_one each bytes) (λ unit. then_one _ _ (fetches_one before is_told.files points_file)
      (λ lines. then_one _ _ (finds_one bytes lines) (λ points. ready_one _))))))
      (λ a. then_one _ _ (mounts_one before is_told.blocks) (λ done. ready_one _))

  pub code_steps : (file : List ℕ) (from : ChoicesFrom) → IsOne (ExecSteps before file from)
  code_steps file from =
      then_one _ _ (fetches_one before is_told.files file) (λ bytes. then_one _ _ (choices_one before is_told.files from)
      (λ choices. then_one _ _ (loads_one bytes) (λ parts. then_one _ _ (mounts_one before is_told.blocks) (λ done. ready_one _))))

  pub compile_steps : (file : List ℕ) → IsOne (TextSteps before file)
  compile_steps file =
      then_one _ _ (fetches_one before is_told.files file) (λ bytes. then_one _ _ (accepts_one each bytes) (λ unit. ready_one _))

  accepted_fits : (bytes : List ℕ) (a : List ℕ × ProgramUnit) → (Accepts bytes >>= λ unit. Ready (bytes, unit)) (goes a) → Fits a.1
  accepted_fits bytes a (inl never) = absurd never
  accepted_fits bytes a (inr h) = subst (λ (x : List ℕ × ProgramUnit). Fits x.1) (sym h.2) (each.fits bytes h.0 h.1)

  -- the unit of a text that was fetched fits
  unit_fits : (file : List ℕ) (a : List ℕ × ProgramUnit) → TextSteps before file (goes a) → Fits a.1
  unit_fits file a (inl never) = absurd never
  unit_fits file a (inr h) = accepted_fits h.0 a h.2

  pub old_steps : (blocks : ℕ) (file : List ℕ) → IsOne (OldSteps before blocks file)
  old_steps blocks file =
      then_one _ _ (fetches_one before is_told.files file) (λ bytes. then_one _ _ (old_one bytes)
      (λ old. then_one _ _ (tests_one _ _) (λ done. ready_one _)))

  pub put_steps : (file title : List ℕ) → IsOne (PutSteps before file title)
  put_steps file title =
      then_one _ _ (fetches_one before is_told.files file) (λ bytes. then_one _ _ (tests_one _ _)
      (λ fits. then_one _ _ (mounts_one before is_told.blocks) (λ done. then_one _ _ (has_place_one before is_told.blocks title _)
      (λ room. ready_one _))))

  pub get_steps : (title : List ℕ) → IsOne (GetSteps before title)
  get_steps title = then_one _ _ (mounts_one before is_told.blocks) (λ done. reads_one before is_told.blocks title)

  pub list_steps : (file : List ℕ) → IsOne (ListSteps before file)
  list_steps file = then_one _ _ (fetches_one before is_told.files file) (λ bytes. loads_one bytes)

  pub demo_steps : (from : ChoicesFrom) → IsOne (DemoSteps before from)
  demo_steps from = choices_one before is_told.files from

  -- each command has one status and shows one thing
  comes_one : (c : Command) → is_decided c ≡ true → IsOneEffect before after behind (Comes c)
  comes_one (words.run file o) decided = does_one before after behind (RunSteps before file o.choices)
      (λ a. Runs (text a.0) o.turns a.1 o.record_file) (text_steps file o.choices) (λ a went. runs_one (text a.0) o.turns a.1 o.record_file)
  comes_one (words.replay file choices turns) decided = does_one before after behind (RunSteps before file (words.file choices))
      (λ a. Runs (text a.0) turns a.1 None) (text_steps file (words.file choices)) (λ a went. runs_one (text a.0) turns a.1 None)
  comes_one (words.exec file o) decided = does_one before after behind (ExecSteps before file o.choices)
      (λ a. Runs (code a.0) o.turns a.1 o.record_file) (code_steps file o.choices) (λ a went. runs_one (code a.0) o.turns a.1 o.record_file)
  comes_one (words.compile file out) decided = does_one before after behind (TextSteps before file)
      (λ a. IsDone (KeepsCode out a.0 a.1)) (compile_steps file) (λ a went. code_one out a.0 a.1)
  comes_one (words.newdisk blocks None) decided = does_one before after behind (Ready blocks)
      (λ n. IsDone (OnlyBlocks (AreNew n))) (ready_one blocks) (λ n went. blocks_one (AreNew n))
  comes_one (words.newdisk blocks (Some file)) decided = does_one before after behind (OldSteps before blocks file)
      (λ old. IsDone (OnlyBlocks (AreMigrated blocks old))) (old_steps blocks file) (λ old went. blocks_one (AreMigrated blocks old))
  comes_one (words.put file title) decided = does_one before after behind (PutSteps before file title)
      (λ bytes. IsDone (OnlyBlocks (ArePut title bytes))) (put_steps file title) (λ bytes went. blocks_one (ArePut title bytes))
  comes_one (words.get title file) decided = does_one before after behind (GetSteps before title)
      (λ bytes. IsDone (OnlyKeeps ((file, bytes) ∷ []))) (get_steps title) (λ bytes went. keeps_one ((file, bytes) ∷ []))
  comes_one (words.list file) decided = does_one before after behind (ListSteps before file)
      (λ parts. IsDone (OnlyShows (listing_of parts.words))) (list_steps file) (λ parts went. shows_one (listing_of parts.words))
  comes_one (words.demo n o) decided = does_one before after behind (DemoSteps before o.choices)
      (λ choices. Demonstrates n o.turns choices o.record_file) (demo_steps o.choices) (λ choices went. demo_one n o.turns choices o.record_file)
  comes_one (words.check file) decided = does_one before after behind (TextSteps before file)
      (λ a. IsDone (ShowsReport a.1)) (compile_steps file) (λ a went. report_one a.1 (unit_fits file a went))
  comes_one (words.explain file) decided = does_one before after behind (Fetches before file) Explains
      (fetches_one before is_told.files file) (λ bytes went. explains_one bytes)
  comes_one (words.boot o) decided = absurd (true≢false (sym decided))
  comes_one (words.explore file o) decided = absurd (true≢false (sym decided))
  comes_one (words.walk file choices turns) decided = does_one before after behind (RunSteps before file (words.file choices))
      (λ a. Walks a.0 turns a.1) (text_steps file (words.file choices)) (λ a went. walks_one a.0 turns a.1)
  comes_one (words.watch file points_file out o) decided = does_one before after behind (WatchSteps before file points_file o.choices)
      (λ a. Watches a.0 a.2 o.turns a.1 out o.record_file) (watch_steps file points_file o.choices)
      (λ a went. watches_one a.0 a.2 o.turns a.1 out o.record_file)
  comes_one (words.run_with file account o) decided = does_one before after behind (RunSteps before file o.choices)
      (λ a. RunsWith (text a.0) o.turns a.1 account o.record_file) (text_steps file o.choices) (λ a went. runs_with_one (text a.0) o.turns a.1 account o.record_file)
  comes_one (words.exec_with file account o) decided = does_one before after behind (ExecSteps before file o.choices)
      (λ a. RunsWith (code a.0) o.turns a.1 account o.record_file) (code_steps file o.choices) (λ a went. runs_with_one (code a.0) o.turns a.1 account o.record_file)
  comes_one (words.demo_with n account o) decided = does_one before after behind (DemoSteps before o.choices)
      (λ choices. DemonstratesWith n o.turns choices account o.record_file) (demo_steps o.choices)
      (λ choices went. demo_with_one n o.turns choices account o.record_file)

  -- ---- refusals

  boot_steps : (from : ChoicesFrom) → IsOne (BootSteps before from)
  boot_steps from =
      then_one _ _ (choices_one before is_told.files from) (λ choices. then_one _ _ (mounts_one before is_told.blocks) (λ done. ready_one _))

  ends_well : (how : SessionEnd) → is_refusal (session_status how) ≡ false
  ends_well end.Halted = refl
  ends_well end.InputEnd = refl
  ends_well end.Limit = refl
  ends_well end.DriveFault = refl
  ends_well end.InputFault = refl
  ends_well end.TerminalFault = refl
  ends_well end.PrinterFault = refl

  tells : (what : Summary) → is_refusal (status_of_summary what) ≡ false
  tells summary.Fine = refl
  tells summary.Endless = refl
  tells summary.NotAll = refl
  tells (summary.Found n) = refl

  no_session_refused : (o : Options) (choices : Choices) (s t : Status) (shown bytes : List ℕ) (kernel other : Lent) → is_refusal s ≡ true
      → HoldsSession o.turns choices o.record_file s before after shown → HoldsSession o.turns choices o.record_file t before behind bytes
      → (s ≡ t) × (shown ≡ bytes)
  no_session_refused o choices s t shown bytes kernel other refusal h k =
      absurd (true≢false (sym refusal ∙ ap is_refusal h.status_is ∙ ends_well h.how))

  -- an input that is too long is no input of an exploration
  takes_no_more : (unit : ProgramUnit) (input : List ℕ) → names_accept unit ≡ true → WhereTold before.input after.input IsTooLong
      → TakesAll (names_accept unit) input before behind → ⊥
  takes_no_more unit input asks long takes =
      let all : TakesAll true input before behind = subst (λ x. TakesAll x input before behind) asks takes in
      clash before.input after.input behind.input input after_told.input behind_told.input all.0 long all.1

  explores_refused : (o : ExploreOptions) (a : List ℕ × ProgramUnit) (s t : Status) (shown bytes : List ℕ) (kernel other : Lent) → is_refusal s ≡ true
      → ExploresText a.0 a.1 o s before after shown kernel → ExploresText a.0 a.1 o t before behind bytes other → (s ≡ t) × (shown ≡ bytes)
  explores_refused o a s t shown bytes kernel other refusal (inl h) k =
      absurd (true≢false (sym refusal ∙ ap is_refusal h.status_is ∙ tells (summary_of h.findings)))
  explores_refused o a s t shown bytes kernel other refusal (inr h) (inl k) =
      absurd (takes_no_more a.1 k.explored.input h.1.0 h.1.1.input k.explored.takes)
  explores_refused o a s t shown bytes kernel other refusal (inr h) (inr k) = (h.0 ∙ sym k.0, h.1.1.shown_ ∙ sym k.1.1.shown_)

  -- a command that is refused is refused again
  refuses_one : (c : Command) (s t : Status) (shown bytes : List ℕ) (kernel other : Lent) → is_refusal s ≡ true
      → Comes c s before after shown kernel → Comes c t before behind bytes other → (s ≡ t) × (shown ≡ bytes)
  refuses_one (words.boot o) = does_refused before after behind (BootSteps before o.choices)
      (λ choices s b a shown k. HoldsSession o.turns choices o.record_file s b a shown) (boot_steps o.choices)
      (no_session_refused o)
  refuses_one (words.explore file o) = does_refused before after behind (TextSteps before file) (λ a. ExploresText a.0 a.1 o) (compile_steps file)
      (explores_refused o)
  refuses_one c = λ s t shown bytes kernel other refusal h k. comes_one c refl s t shown bytes kernel other h k

-- THE LAWS
pub one_refusal : TextsAreOne → OneRefusal
one_refusal each s t c before after behind shown bytes kernel other refusal is_told after_told behind_told h k =
    refuses_one each before after behind is_told after_told behind_told c s t shown bytes kernel other refusal h k

pub one_status : TextsAreOne → OneStatus
one_status each s t c before after behind shown bytes kernel other decided is_told after_told behind_told decisive decisive' h k =
    comes_one each before after behind is_told after_told behind_told c decided s t shown bytes kernel other h k
