-- Each program that may be run has a run on the devices, and the devices after it.
use Rattle.std.proofs.Common.{◌≡◌, ◌≤◌, ℕ, ◌-◌, List, [], ◌++◌, length, drop, take, None, refl, sym, ap, ◌∙◌, arith, append_assoc, append-nil}
use Rattle.std.proofs.lemmas.List.{drop_at}
use Rattle.std.proofs.Math.Seq.{take-append_seam}
use Rattle.edi_calls.specs.Calls.{answered, call}
use Rattle.edi_calls.specs.Choice.{Choices}
use Rattle.edi_calls.specs.Laws.{GoesOn}
use Rattle.edi_calls.specs.Outcome as outcome
use Rattle.edi_calls.specs.Outcome.{Ending, Outcome, outcome_of}
use Rattle.edi_calls.specs.State.{State, fresh}
use Rattle.edi_calls.proofs.Lasting.{each_call_goes_on_all}
use Rattle.edi_image.specs.Image.{mount_fault_of}
use Rattle.edi_system.specs.Growing.{Grows, Shrinks}
use Rattle.edi_target.specs.Check.{CodeParts}
use Rattle.edi_target.specs.Fetch.{fetch}
use Rattle.edi_target.specs.Mach.{Ends, Machine}
use Rattle.edi_target.specs.Moments.{EndsThrough}
use Rattle.edi_target.proofs.Histories.{every_run_ends_through}
use Rattle.edi_texts.specs.Run.{IsRunOfCode}
use Rattle.edi_texts.specs.Texts.{IsUnit}
use Rattle.edi_texts.proofs.Executions.{runs_are_never_bad}
use Rattle.edi_compile.proofs.Meant.{texts_do_as_meant}
use Rattle.edi_unit.specs.Tree.{ProgramUnit}
use Rattle.edi_statuses.specs.Outside.{Devices, KernelLeft, system_on}
use Rattle.edi_statuses.specs.Executions.{Runnable, text, code, HasCode, HasOutcome, HasRun, NeverBad, StoreIs}
use Rattle.edi_statuses.specs.Always.{HasBlocks}
use Rattle.edi_statuses.proofs.always.Calls.{HasImage, images_stay}
use Rattle.edi_statuses.proofs.always.Runs.{run_from_start_keeps}

-- ---- what goes on

goes_itself : (s : State) → GoesOn s s
goes_itself s = record {
  input = ([], refl);
  shown = ([], sym (append-nil s.shown));
  printed = ([], sym (append-nil s.printed));
  slots = refl;
  blocks = refl;
}

pub goes_then : (r s t : State) → GoesOn r s → GoesOn s t → GoesOn r t
goes_then r s t h k = record {
  input = (h.input.0 ++ k.input.0, h.input.1 ∙ ap (λ xs. h.input.0 ++ xs) k.input.1 ∙ sym (append_assoc h.input.0 k.input.0 t.input));
  shown = (h.shown.0 ++ k.shown.0, k.shown.1 ∙ ap (λ xs. xs ++ k.shown.0) h.shown.1 ∙ append_assoc r.shown h.shown.0 k.shown.0);
  printed = (h.printed.0 ++ k.printed.0, k.printed.1 ∙ ap (λ xs. xs ++ k.printed.0) h.printed.1 ∙ append_assoc r.printed h.printed.0 k.printed.0);
  slots = k.slots ∙ h.slots;
  blocks = k.blocks ∙ h.blocks;
}

-- a state with an image, which has gone on from the first one
pub record HasGone (first s : State) : Type 0 where
  pub image : HasImage s
  pub goes : GoesOn first s

pub gone_keeps : (first : State) (number : ℕ) (words answer : List ℕ) (before after : State) → HasGone first before
    → call number words before ≡ answered answer after → HasGone first after
gone_keeps first number words answer before after h is = record {
  image = images_stay number words answer before after h.image is;
  goes = goes_then first before after h.goes (each_call_goes_on_all number words answer before after is);
}

-- on a drive that is a valid image
pub gone_first : (d : Devices) → HasBlocks d → mount_fault_of d.blocks ≡ None → HasGone (fresh (system_on d)) (fresh (system_on d))
gone_first d sized valid = record {
  image = record {
    image = record { blocks = d.blocks; many = refl; sized = sized; holds = record { valid = valid; files = refl } };
    short = tt;
  };
  goes = goes_itself (fresh (system_on d));
}

-- ---- the devices at a state

module _ (d : Devices) (s : State) (gone : HasGone (fresh (system_on d)) s) where
  -- they have what the state has, and the terminal what is told of it
  abbrev pub devices_at : (taken : List ℕ) → Devices
  devices_at taken = record { blocks = gone.image.image.blocks; input = s.input; shown = taken; printed = s.printed }

  abbrev pub shown_by_then : List ℕ
  shown_by_then = gone.goes.shown.0

  pub count_at : length gone.image.image.blocks ≡ length d.blocks
  count_at = gone.image.image.many ∙ gone.goes.blocks

  pub shrinks_at : Shrinks d.input s.input
  shrinks_at =
      (length gone.goes.input.0, sym (ap (drop (length gone.goes.input.0)) gone.goes.input.1 ∙ drop_at gone.goes.input.0 s.input (length gone.goes.input.0) refl))

  pub grows_at : Grows d.printed s.printed
  grows_at = ap (take (length d.printed)) gone.goes.printed.1 ∙ take-append_seam d.printed gone.goes.printed.0

-- ---- a run

store_is : (ending : Ending) (memory : List ℕ) → StoreIs ending memory memory
store_is outcome.done memory = refl
store_is (outcome.halted line) memory = refl
store_is (outcome.failed why line) memory = refl
store_is outcome.turns memory = tt
store_is outcome.standstill memory = tt
store_is (outcome.bad address) memory = tt

-- a run of the program on the devices `d`, and what it leaves
pub record IsRun (program : Runnable) (bound : ℕ) (choices : Choices) (d : Devices) : Type 0 where
  pub ending : Ending
  pub drawn : ℕ
  pub within : drawn ≤ bound
  pub last : State
  pub gone : HasGone (fresh (system_on d)) last
  pub left : KernelLeft
  pub used : left.used ≤ bound
  pub ran : (taken : List ℕ) → HasRun program bound choices ending drawn d (devices_at d last gone taken) (shown_by_then d last gone) left

module _ (program : Runnable) (bound : ℕ) (choices : Choices) (d : Devices) (sized : HasBlocks d) (valid : mount_fault_of d.blocks ≡ None)
    (parts : CodeParts) (parts_are : HasCode program parts)
    (outcomes : (o : Outcome) → IsRunOfCode parts (system_on d) bound choices o → HasOutcome program (system_on d) bound choices o)
    (never : (o : Outcome) → HasOutcome program (system_on d) bound choices o → NeverBad program o.ending) where
  run_of_code : IsRun program bound choices d
  run_of_code = from (every_run_ends_through parts.words parts.entry parts.calls (fresh (system_on d)) bound choices 0)
    where
      from : ((ending : Ending) × (m : Machine) × (drawn : ℕ) × (past : List State)
          × EndsThrough (fetch parts.words) parts.entry parts.calls (fresh (system_on d)) bound choices 0 ending m drawn past) → IsRun program bound choices d
      from (ending, m, drawn, past, ends) =
          let is : Ends (fetch parts.words) parts.entry parts.calls (fresh (system_on d)) bound choices ending m drawn = (ends.0, ends.1) in
          let o : Outcome = outcome_of m.system ending (bound - m.turns) drawn in
          let kept = run_from_start_keeps (HasGone (fresh (system_on d))) (gone_keeps (fresh (system_on d))) (fetch parts.words) choices bound parts.entry
          parts.calls (fresh (system_on d)) ends.0 ending m drawn (gone_first d sized valid) ends.1 in
          let meant : HasOutcome program (system_on d) bound choices o = outcomes o (ending, m, drawn, is, refl) in
          record {
            ending = ending;
            drawn = drawn;
            within = omega (arith, kept.1);
            last = m.system;
            gone = kept.0;
            left = record { words = m.memory; used = bound - m.turns };
            used = omega arith;
            ran = λ taken. record {
              outcome_ = o;
              outcome_is = meant;
              ending_is = refl;
              never_bad = never o meant;
              draws = refl;
              leaves = record {
                input = refl;
                shown_ = sym kept.0.goes.shown.1;
                printed = refl;
                disk = kept.0.image.image.holds;
                count = count_at d m.system kept.0;
              };
              kernel_is = record {
                parts = parts;
                parts_are = parts_are;
                machine = m;
                ends = is;
                turns = refl;
                store = store_is ending m.memory;
              };
            };
          }

-- of a text that is accepted, and of a code
pub text_runs : (bytes : List ℕ) (unit : ProgramUnit) → IsUnit bytes unit → (bound : ℕ) (choices : Choices) (d : Devices) → HasBlocks d
    → mount_fault_of d.blocks ≡ None → IsRun (text bytes) bound choices d
text_runs bytes unit is bound choices d sized valid =
    run_of_code (text bytes) bound choices d sized valid _ (texts_do_as_meant bytes unit is)
    (λ o run. ((texts_do_as_meant bytes unit is).same (system_on d) bound choices o).0 run)
    (λ o run. runs_are_never_bad bytes (system_on d) bound choices o run)

pub code_runs : (parts : CodeParts) (bound : ℕ) (choices : Choices) (d : Devices) → HasBlocks d → mount_fault_of d.blocks ≡ None
    → IsRun (code parts) bound choices d
code_runs parts bound choices d sized valid = run_of_code (code parts) bound choices d sized valid parts refl (λ o run. run) (λ o run. tt)
