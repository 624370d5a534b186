-- A run ends by its turns only where none is left.
use Rattle.std.proofs.Common.{◌≡◌, ℕ, zero, suc, Bool, true, false, if◌then◌else◌, List, [], ◌∷◌, ◌++◌, length, Option, Some, None, refl, sym, ap}
use Rattle.std.proofs.Common.{◌∙◌}
use Rattle.std.specs.Prelude.{⊤}
use Rattle.edi_calls.specs.declared.kinds.Cause.{Cause}
use Rattle.edi_calls.specs.declared.kinds.Cause.TheVariants as cause
use Rattle.edi_calls.specs.Calls.{CallResult, answered, no_file, file_limit, call}
use Rattle.edi_calls.specs.Choice.{Choices}
use Rattle.edi_calls.specs.Names.{Name, find, without}
use Rattle.edi_calls.specs.Outcome as outcome
use Rattle.edi_calls.specs.Outcome.{Ending}
use Rattle.edi_calls.specs.Ready.{parent_of, all_marked, stays, joins, Taking, nobody, taking, take_next}
use Rattle.edi_calls.specs.State.{State}
use Rattle.edi_target.specs.Op as op
use Rattle.edi_target.specs.Op.{Instruction}
use Rattle.edi_target.specs.Effect.{Local, Turn, entering, leaving, looping, arriving, again, forking, exiting, finishing, Effect, goes, released, asks, due}
use Rattle.edi_target.specs.Effect.{fails, bad}
use Rattle.edi_target.specs.Mach.{Running, Answer, on, behind, turned, over, ending_of, called, turn_from, settled, effect_at, local_step, Standing, ready}
use Rattle.edi_target.specs.Mach.{at_when, waiting, Activity, Machine, Stepped, went, ended, running_of, one_less, notified, at_turn, kernel, is_first}
use Rattle.edi_target.specs.Mach.{step_of, step, MachineRun, finished, go_on, after_step, run, entered}
use Rattle.edi_target.specs.Laws.{EndsByTurnsSpent}

abbrev AnswerSpent : Answer → Type 0
AnswerSpent (on r) = ⊤
AnswerSpent (behind r) = ⊤
AnswerSpent (turned kind r) = ⊤
AnswerSpent (over ending r) = ending ≡ outcome.turns → r.turns ≡ 0

abbrev StepSpent : Stepped → Type 0
StepSpent (went m next) = ⊤
StepSpent (ended ending m) = ending ≡ outcome.turns → m.turns ≡ 0

call_spent : (result : CallResult) (address : Option ℕ) (line : ℕ) (l : Local) (r : Running) → AnswerSpent (called result address line l r)
call_spent (answered words system) address line l r = tt
call_spent no_file address line l r = λ e. absurd (cc)
call_spent file_limit address line l r = λ e. absurd (cc)

turn_spent : (n : ℕ) (kind : Turn) (l : Local) (r : Running) → r.turns ≡ n → AnswerSpent (turn_from n kind l r)
turn_spent zero kind l r none = λ e. none
turn_spent (suc n) kind l r more = tt

-- a failure is no end of turns
failure : (c : Cause) (line : ℕ) → ending_of c line ≡ outcome.turns → ⊥
failure cause.Range line e = cc
failure cause.VariableLimit line e = cc
failure cause.ProcessLimit line e = cc
failure cause.Held line e = cc
failure cause.NoFile line e = cc
failure cause.FileLimit line e = cc
failure cause.Halt line e = cc

settled_spent : (e : Effect) (r : Running) → AnswerSpent (settled e r)
settled_spent (goes l) r = tt
settled_spent (released l) r = tt
settled_spent (asks number arguments address line l) r = call_spent (call number arguments r.system) address line l r
settled_spent (due kind l) r = turn_spent r.turns kind l r refl
settled_spent (fails c line) r = λ e. absurd (failure c line e)
settled_spent bad r = λ e. absurd (cc)

one_less_spent : (m : Machine) (q : Name) (a : Activity) (s : Standing) → StepSpent (one_less m q a s)
one_less_spent m q a ready = tt
one_less_spent m q a at_when = tt
one_less_spent m q a (waiting n) = tt

told_spent : (m : Machine) (q : Name) (a : Option Activity) → StepSpent (notified m q a)
told_spent m q None = tt
told_spent m q (Some a) = one_less_spent m q a a.standing

tested_spent : (b : Bool) (m : Machine) (p : Name) → StepSpent (if b then ended outcome.standstill m else went m (joins (p ∷ [])))
tested_spent true m p = λ e. absurd (cc)
tested_spent false m p = tt

turned_spent : (m : Machine) (p : Name) (others : List Name) (a : Activity) (kind : Turn) (r : Running) → StepSpent (at_turn m p others a kind r)
turned_spent m p others a entering r = tt
turned_spent m p others a leaving r = tt
turned_spent m p others a looping r = tt
turned_spent m p others a arriving r = tt
turned_spent m p others a (again false) r = tt
turned_spent m p others a (again true) r = tested_spent (all_marked (p ∷ m.marks) (p ∷ others)) _ p
turned_spent m p others a (forking branches) r = tt
turned_spent m p others a exiting r = told_spent _ (parent_of p) (find (without m.activities p) (parent_of p))
turned_spent m p others a finishing r = λ e. absurd (cc)

kernel_spent : (m : Machine) (p : Name) (others : List Name) (a : Activity) (answer : Answer) → AnswerSpent answer → StepSpent (kernel m p others a answer)
kernel_spent m p others a (on r) h = tt
kernel_spent m p others a (behind r) h = tt
kernel_spent m p others a (turned kind r) h = turned_spent m p others a kind r
kernel_spent m p others a (over ending r) h = h

module _ (fetch : ℕ → Option (Instruction × ℕ)) where
  step_of_spent : (m : Machine) (p : Name) (others : List Name) (a : Option Activity) → StepSpent (step_of fetch m p others a)
  step_of_spent m p others None = λ e. absurd (cc)
  step_of_spent m p others (Some a) =
      kernel_spent m p others a (local_step fetch (length m.activities) (is_first p) (running_of m a))
      (settled_spent (effect_at fetch (fetch a.pc) (length m.activities) (is_first p) (running_of m a).local) (running_of m a))

  module _ (choices : Choices) where
    taken_spent : (t : Taking) (more : Name → List Name → ℕ → MachineRun) (m : Machine) (drawn : ℕ) (end : Machine) (d : ℕ) →
        ((p : Name) (others : List Name) (c : ℕ) → more p others c ≡ finished outcome.turns end d → end.turns ≡ 0) → go_on t more m drawn ≡ finished
        outcome.turns end d → end.turns ≡ 0
    taken_spent nobody more m drawn end d each e = absurd (cc)
    taken_spent (taking p others c) more m drawn end d each e = each p others c e

    stepped_spent : (x : Stepped) (more : Machine → Name → List Name → ℕ → MachineRun) (p : Name) (others : List Name) (drawn : ℕ) (end : Machine) (d : ℕ)
        → StepSpent x →
        ((m : Machine) (p : Name) (others : List Name) (c : ℕ) → more m p others c ≡ finished outcome.turns end d → end.turns ≡ 0)
        → after_step choices more p others drawn x ≡ finished outcome.turns end d → end.turns ≡ 0
    stepped_spent (ended ending m) more p others drawn end d h each e =
        let by : ending ≡ outcome.turns = (cc) in
        let same : m ≡ end = (cc) in
        sym (ap (λ (x : Machine). x.turns) same) ∙ h by
    stepped_spent (went m stays) more p others drawn end d h each e = each m p others drawn e
    stepped_spent (went m (joins ps)) more p others drawn end d h each e =
        taken_spent (take_next choices drawn (others ++ ps)) (more m) m drawn end d (each m) e

    run_spent : (n : ℕ) (m : Machine) (p : Name) (others : List Name) (drawn : ℕ) (end : Machine) (d : ℕ) → run fetch choices n m p others drawn ≡ finished
        outcome.turns end d → end.turns ≡ 0
    run_spent zero m p others drawn end d e = absurd (cc)
    run_spent (suc n) m p others drawn end d e =
        stepped_spent (step fetch m p others) (run fetch choices n) p others drawn end d (step_of_spent m p others (find m.activities p))
        (λ m' q os c f. run_spent n m' q os c end d f) e

entered_spent : (found : Option (Instruction × ℕ)) (entry : ℕ) (calls : List ℕ) (bound : ℕ) (system : State)
    → StepSpent (entered found entry calls bound system)
entered_spent (Some (op.entry need r p v f, body)) entry calls zero system = λ e. refl
entered_spent (Some (op.entry need r p v f, body)) entry calls (suc n) system = tt
entered_spent None entry calls bound system = λ e. absurd (cc)
entered_spent (Some x) entry calls bound system = λ e. absurd (cc)

pub ends_by_turns_spent : EndsByTurnsSpent
ends_by_turns_spent fetch entry calls system bound choices before m drawn past ends =
    stepped_spent fetch choices (entered (fetch entry) entry calls bound system) (run fetch choices ends.0) [] [] before m drawn
    (entered_spent (fetch entry) entry calls bound system)
    (λ m' q os c f. run_spent fetch choices ends.0 m' q os c m drawn f) ends.1
