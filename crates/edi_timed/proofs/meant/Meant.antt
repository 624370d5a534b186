-- From the start: the stints of a run of the code are those of the execution.
use Rattle.std.proofs.Common.{◌≡◌, ℕ, zero, suc, false, List, [], ◌∷◌, ◌++◌, length, None, refl, sym, subst, ap, ◌∙◌, arith}
use Rattle.edi_calls.specs.Choice.{Choices}
use Rattle.edi_calls.specs.Names.{Name}
use Rattle.edi_calls.specs.Outcome as outcome
use Rattle.edi_calls.specs.Outcome.{Ending}
use Rattle.edi_calls.specs.Ready.{stays}
use Rattle.edi_calls.specs.State.{State, Traced}
use Rattle.edi_unit.specs.Tree.{ProgramUnit}
use Rattle.edi_meaning.specs.Step as source
use Rattle.edi_meaning.specs.Step.{Process, Processes}
use Rattle.edi_meaning.specs.Select as selection
use Rattle.edi_meaning.specs.Select.{finished, select}
use Rattle.edi_meaning.proofs.Selections.{stepped_before}
use Rattle.edi_target.specs.Check.{CodeParts}
use Rattle.edi_target.specs.Fetch.{fetch}
use Rattle.edi_target.specs.Reading.{AreWords}
use Rattle.edi_target.specs.Mach as target
use Rattle.edi_target.specs.Mach.{Machine}
use Rattle.edi_scheme.specs.Code.{code_of}
use Rattle.edi_scheme.specs.Laws.{parts_of}
use Rattle.edi_scheme.proofs.WordedBlocks.{code_is_words}
use Rattle.edi_follows.specs.Theorem.{CanBeCoded}
use Rattle.edi_follows.specs.places.Coded.{Coded}
use Rattle.edi_follows.specs.places.Lands.{StepClaim, StepsQueue, StartClaim, Begins, BeginsNot}
use Rattle.edi_follows.proofs.Coding.{coded}
use Rattle.edi_follows.proofs.Whole.{steps, starts}
use Rattle.edi_follows.proofs.kernel.Meaning.{steps_queue}
use Rattle.edi_timeline.specs.Stints as meant
use Rattle.edi_timeline.specs.Stints.{over, Stint, Begun, along, stints_of}
use Rattle.edi_timed.specs.Ran.{Open, closed, timed_after, timed, stints_of_code}
use Rattle.edi_timed.specs.meant.Laws.{StintsAreMeant, StintsBegin}
use Rattle.edi_timed.proofs.meant.Stays.{StepsOn, step_on}
use Rattle.edi_timed.proofs.meant.Remembered.{Remembers, remembers_on}
use Rattle.edi_timed.proofs.meant.Stints.{ready_attempts, Times, Agrees, main}
use Rattle.edi_timed.proofs.meant.Ends.{ends_same, begins_same}

module _ (g : Coded) (words : List ℕ) (is : g.fetched ≡ fetch words) (fine : AreWords words) (claim : StepClaim g) (queues : StepsQueue)
    (start : StartClaim g) (choices : Choices) (system : State) where
  abbrev code : CodeParts
  code = record { words = words; entry = 0; calls = g.unit.calls }

  -- the run ends so after some number of instructions, and has these stints
  abbrev pub TimesAll : (bound : ℕ) → Ending → (drawn : ℕ) → List Stint → Type 0
  TimesAll bound ending drawn ys =
      (n : ℕ) × (m : Machine) × (target.run_from_start (fetch words) 0 g.unit.calls system bound choices n ≡ target.finished ending m drawn)
      × (stints_of_code code system bound choices 0 n ≡ ys)

  abbrev first : ℕ → Open
  first bound = record { process = []; turns = bound; shown = length system.shown; stood = None }

  abbrev first_begun : ℕ → Begun
  first_begun bound = record { process = []; turns = bound; from = meant.begin; shown = length system.shown }

  abbrev first_process : Process
  first_process = record { size = 65536; forks = 0; work = source.program_entry ∷ source.program_end ∷ []; standing = source.ready }

  read_entry : (bound : ℕ) (x : target.Stepped) → target.entered (g.fetched 0) 0 g.unit.calls bound system ≡ x →
      target.entered (fetch words 0) 0 g.unit.calls bound system ≡ x
  read_entry bound x e = sym (ap (λ f. target.entered (f 0) 0 g.unit.calls bound system) is) ∙ e

  first_times : (n bound : ℕ) (ending : Ending) (end : Traced) (turns drawn : ℕ) (order : List Name) →
      selection.after_step choices (select g.unit choices n) [] [] [] 0 (source.step g.unit (source.start g.unit system bound) [])
      ≡ finished ending end turns drawn order → TimesAll bound ending drawn (stints_of g.unit system bound ([] ∷ order))
  first_times n zero ending end turns drawn order e =
      let b : BeginsNot g system = start.begins_not system in
      let same_ending : outcome.turns ≡ ending = (cc) in
      let same_drawn : 0 ≡ drawn = (cc) in (
        0,
        b.machine,
        ap (target.after_step choices (target.run (fetch words) choices 0) [] [] 0) (read_entry 0 (target.ended outcome.turns b.machine) b.entered)
            ∙ (λ i. target.finished (same_ending i) b.machine (same_drawn i)),
        ap (timed_after words choices 0 (timed words choices 0 0) false (first 0) [] [] [] 0) (read_entry 0 (target.ended outcome.turns b.machine) b.entered)
            ∙ (λ i. closed 0 (first 0) [] (over outcome.turns) (b.turns_are i) (b.system_is i).shown ∷ []),
      )
  first_times n (suc k) ending end turns drawn order e = (
    r.steps,
    r.machine,
    ap (target.after_step choices (target.run (fetch words) choices r.steps) [] [] 0) (read_entry (suc k) (target.went b.machine stays) b.entered) ∙ r.ends,
    ap (timed_after words choices (suc k) (timed words choices (suc k) r.steps) false (first (suc k)) [] [] [] 0)
        (read_entry (suc k) (target.went b.machine stays) b.entered) ∙ r.stints ∙ sym after_entry,
  )
    where
      b : Begins g system k
      b = start.begins system k

      on : StepsOn g.unit (source.start g.unit system (suc k)) []
          first_process refl
          (source.went b.state stays false)
      on = subst (StepsOn g.unit (source.start g.unit system (suc k)) []
          first_process refl) b.stepped
          (step_on g.unit (source.start g.unit system (suc k)) []
          first_process refl)

      alone : Remembers g.unit [] (source.start g.unit system (suc k)).live []
      alone [] x n f = absurd (cc)
      alone (y ∷ r) x n f = absurd (cc)

      agrees : Agrees g words is fine claim queues (suc k) choices
          (first_begun (suc k)) (first (suc k)) [] b.state b.machine []
      agrees = record {
        process = refl;
        mine = refl;
        turns = refl;
        shown = refl;
        from = refl;
        attempting = λ f. absurd (ready_attempts b.state.live [] on.1 f);
        stood = λ f. absurd (ready_attempts b.state.live [] on.1 f);
        remembers = remembers_on g.unit (source.start g.unit system (suc k)) []
            first_process refl b.state.live on.0 []
            (λ r x f i rest h l. refl) alone;
        unborn = λ r x f i rest h l. refl;
      }

      r : Times g words is fine claim queues (suc k) choices (first (suc k)) [] b.machine [] [] 0 ending drawn
          (along g.unit (suc k) order (first_begun (suc k)) b.state)
      r =
          main g words is fine claim queues (suc k) choices n b.state b.machine [] [] [] 0 b.taken
          (first_begun (suc k)) (first (suc k)) [] agrees ending end turns drawn order
          (sym (ap (selection.after_step choices (select g.unit choices n) [] [] [] 0) b.stepped) ∙ e)

      after_entry : stints_of g.unit system (suc k) ([] ∷ order)
          ≡ along g.unit (suc k) order (first_begun (suc k)) b.state
      after_entry =
          ap (λ x. meant.onward g.unit (suc k) x false [] order
          (first_begun (suc k)) (along g.unit (suc k) order)) b.stepped

  pub all_times : (bound : ℕ) (ending : Ending) (end : Traced) (turns drawn : ℕ) (order : List Name) →
      selection.Ends g.unit system bound choices ending end turns drawn order → TimesAll bound ending drawn (stints_of g.unit system bound order)
  all_times bound ending end turns drawn order e = go e.0 e.1
    where
      go : (n : ℕ) → selection.select_from_start g.unit system bound choices n ≡ finished ending end turns drawn order →
          TimesAll bound ending drawn (stints_of g.unit system bound order)
      go zero h = absurd (cc)
      go (suc n) h =
          let before : (rest : List Name) ×
          (selection.after_step choices (select g.unit choices n) [] [] [] 0 (source.step g.unit (source.start g.unit system bound) [])
          ≡ finished ending end turns drawn rest) × ([] ∷ rest ≡ order) =
          stepped_before [] (selection.after_step choices (select g.unit choices n) [] [] [] 0
          (source.step g.unit (source.start g.unit system bound) [])) ending end turns drawn order h in
          subst (λ o. TimesAll bound ending drawn (stints_of g.unit system bound o)) before.2 (first_times n bound ending end turns drawn before.0 before.1)

module _ (unit : ProgramUnit) (c : CanBeCoded unit) (system : State) (bound : ℕ) (choices : Choices) (ending : Ending) (end : Traced)
    (turns drawn : ℕ) (order : List Name) (e : selection.Ends unit system bound choices ending end turns drawn order) where
  words : AreWords (code_of unit)
  words = code_is_words unit c.fits c.parts c.lines (omega (arith, c.short))

  whole : TimesAll (coded unit c) (code_of unit) refl words (steps (coded unit c)) steps_queue (starts (coded unit c)) choices system bound ending drawn
      (stints_of unit system bound order)
  whole =
      all_times (coded unit c) (code_of unit) refl words (steps (coded unit c)) steps_queue (starts (coded unit c)) choices system bound ending end turns
      drawn order e

  same : (n : ℕ) (x : Ending) (m : Machine) (d : ℕ) →
      target.run_from_start (fetch (code_of unit)) 0 unit.calls system bound choices n ≡ target.finished x m d →
      stints_of_code (parts_of unit) system bound choices 0 n ≡ stints_of unit system bound order
  same n x m d f = ends_same (parts_of unit) choices system bound 0 n whole.0 (x, m, d, f) (ending, whole.1, drawn, whole.2) ∙ whole.3

  first_ones : (n : ℕ) → (more : List Stint) × (stints_of unit system bound order ≡ stints_of_code (parts_of unit) system bound choices 0 n ++ more)
  first_ones n =
      let r : (more : List Stint) × (stints_of_code (parts_of unit) system bound choices 0 whole.0
      ≡ stints_of_code (parts_of unit) system bound choices 0 n ++ more) =
      begins_same (parts_of unit) choices system bound 0 n whole.0 (ending, whole.1, drawn, whole.2) in
      (r.0, sym whole.3 ∙ r.1)

pub stints_are_meant : StintsAreMeant
stints_are_meant unit c system bound choices ending end turns drawn order e n x m d f =
    same unit c system bound choices ending end turns drawn order e n x m d f

pub stints_begin : StintsBegin
stints_begin unit c system bound choices ending end turns drawn order e n = first_ones unit c system bound choices ending end turns drawn order e n
