-- A step of the machine that ends the run as a standstill has marked every ready process.
use Rattle.std.proofs.Common.{◌≡◌, ℕ, zero, suc, Bool, true, false, if◌then◌else◌, List, [], ◌∷◌, length, Option, Some, None, refl, subst}
use Rattle.std.specs.Prelude.{⊤}
use Rattle.edi_calls.specs.declared.kinds.Cause.{Cause}
use Rattle.edi_calls.specs.declared.kinds.Cause.TheVariants as cause
use Rattle.edi_calls.specs.Calls.{CallResult, answered, no_file, file_limit, call}
use Rattle.edi_calls.specs.Names.{Name, find, without}
use Rattle.edi_calls.specs.Outcome as outcome
use Rattle.edi_calls.specs.Outcome.{Ending}
use Rattle.edi_calls.specs.Ready.{parent_of, all_marked, joins}
use Rattle.edi_target.specs.Op.{Instruction}
use Rattle.edi_target.specs.Effect.{Local, Turn, entering, leaving, looping, arriving, again, forking, exiting, finishing, Effect, goes, released, asks, due}
use Rattle.edi_target.specs.Effect.{fails, bad}
use Rattle.edi_target.specs.Mach.{Running, Answer, on, behind, turned, over, ending_of, called, turn_from, settled, effect_at, local_step, Standing, ready}
use Rattle.edi_target.specs.Mach.{at_when, Activity, Machine, Stepped, went, ended, running_of, activity_of, back, one_less, notified, at_turn}
use Rattle.edi_target.specs.Mach.{kernel, is_first, step_of, step}

-- an instruction alone never ends the run so
abbrev AnswerGoes : Answer → Type 0
AnswerGoes (on r) = ⊤
AnswerGoes (behind r) = ⊤
AnswerGoes (turned kind r) = ⊤
AnswerGoes (over ending r) = ending ≡ outcome.standstill → ⊥

call_goes : (result : CallResult) (address : Option ℕ) (line : ℕ) (l : Local) (r : Running) → AnswerGoes (called result address line l r)
call_goes (answered words system) address line l r = tt
call_goes no_file address line l r = λ e. cc
call_goes file_limit address line l r = λ e. cc

turn_goes : (n : ℕ) (kind : Turn) (l : Local) (r : Running) → AnswerGoes (turn_from n kind l r)
turn_goes zero kind l r = λ e. cc
turn_goes (suc n) kind l r = tt

failure_goes : (c : Cause) (line : ℕ) → ending_of c line ≡ outcome.standstill → ⊥
failure_goes cause.Range line e = cc
failure_goes c line e = cc

settled_goes : (e : Effect) (r : Running) → AnswerGoes (settled e r)
settled_goes (goes l) r = tt
settled_goes (released l) r = tt
settled_goes (asks number arguments address line l) r = call_goes (call number arguments r.system) address line l r
settled_goes (due kind l) r = turn_goes r.turns kind l r
settled_goes (fails c line) r = failure_goes c line
settled_goes bad r = λ e. cc

-- ---- a step of one process among others

module _ (p : Name) (others : List Name) where
  abbrev StepMarks : Stepped → Type 0
  StepMarks (went m next) = ⊤
  StepMarks (ended ending m) = ending ≡ outcome.standstill → all_marked m.marks (p ∷ others) ≡ true

  one_less_marks : (m : Machine) (q : Name) (a : Activity) (s : Standing) → StepMarks (one_less m q a s)
  one_less_marks m q a ready = tt
  one_less_marks m q a s = tt

  told_marks : (m : Machine) (q : Name) (a : Option Activity) → StepMarks (notified m q a)
  told_marks m q None = tt
  told_marks m q (Some a) = one_less_marks m q a a.standing

  tested_marks : (b : Bool) (m : Machine) → all_marked m.marks (p ∷ others) ≡ b → StepMarks (if b then ended outcome.standstill m else went m (joins (p ∷ [])))
  tested_marks true m h = λ e. h
  tested_marks false m h = tt

  turned_marks : (m : Machine) (a : Activity) (kind : Turn) (r : Running) → StepMarks (at_turn m p others a kind r)
  turned_marks m a entering r = tt
  turned_marks m a leaving r = tt
  turned_marks m a looping r = tt
  turned_marks m a arriving r = tt
  turned_marks m a (again false) r = tt
  turned_marks m a (again true) r =
      tested_marks (all_marked (p ∷ m.marks) (p ∷ others)) (back m p (activity_of r.local a.forks at_when) (p ∷ m.marks) r) refl
  turned_marks m a (forking branches) r = tt
  turned_marks m a exiting r = told_marks _ (parent_of p) (find (without m.activities p) (parent_of p))
  turned_marks m a finishing r = λ e. absurd (cc)

  kernel_marks : (m : Machine) (a : Activity) (answer : Answer) → AnswerGoes answer → StepMarks (kernel m p others a answer)
  kernel_marks m a (on r) h = tt
  kernel_marks m a (behind r) h = tt
  kernel_marks m a (turned kind r) h = turned_marks m a kind r
  kernel_marks m a (over ending r) h = λ e. absurd (h e)

  module _ (fetch : ℕ → Option (Instruction × ℕ)) where
    step_of_marks : (m : Machine) (a : Option Activity) → StepMarks (step_of fetch m p others a)
    step_of_marks m None = λ e. absurd (cc)
    step_of_marks m (Some a) =
        kernel_marks m a (local_step fetch (length m.activities) (is_first p) (running_of m a))
        (settled_goes (effect_at fetch (fetch a.pc) (length m.activities) (is_first p) (running_of m a).local) (running_of m a))

    pub standstill_marks : (m t : Machine) → step fetch m p others ≡ ended outcome.standstill t → all_marked t.marks (p ∷ others) ≡ true
    standstill_marks m t e = (subst StepMarks e (step_of_marks m (find m.activities p))) refl
