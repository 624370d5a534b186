-- A stint of a machine that has at least as many turns left as it takes instructions is not cut.
use Rattle.std.proofs.Common.{◌≡◌, ℕ, zero, suc, ◌<◌, ◌≤◌, Bool, true, false, if◌then◌else◌, List, [], ◌∷◌, length, ◌+◌, Option, Some, None, refl, sym, subst, arith}
use Rattle.edi_calls.specs.declared.kinds.Cause.{Cause}
use Rattle.edi_calls.specs.declared.kinds.Cause.TheVariants as cause
use Rattle.edi_calls.specs.Calls.{CallResult, answered, no_file, file_limit, call}
use Rattle.edi_calls.specs.Names.{Name, find, without}
use Rattle.edi_calls.specs.Outcome as outcome
use Rattle.edi_calls.specs.Outcome.{Ending}
use Rattle.edi_calls.specs.Ready.{all_marked, child, parent_of, stays, joins}
use Rattle.edi_target.specs.Op.{Instruction, Branch}
use Rattle.edi_target.specs.Effect.{Local, Turn, entering, leaving, looping, arriving, again, forking, exiting, finishing, Effect, goes, released, asks, due, fails, bad}
use Rattle.edi_target.specs.Mach.{Running, Answer, on, behind, turned, over, ending_of, called, turn_from, settled, effect_at, local_step, Standing, ready, at_when, waiting}
use Rattle.edi_target.specs.Mach.{Activity, Machine, Stepped, went, ended, running_of, activity_of, back, with_child, with_children, one_less, notified, at_turn}
use Rattle.edi_target.specs.Mach.{is_first, kernel, step_of, step}
use Rattle.edi_kernel.specs.Stints as stints
use Rattle.edi_kernel.specs.Stints.{stint, stint_after}

-- of so many turns at most one is taken; or none was left
abbrev AnswerTakes : ℕ → Answer → Type 0
AnswerTakes n (on r) = n ≤ suc r.turns
AnswerTakes n (behind r) = n ≤ suc r.turns
AnswerTakes n (turned kind r) = n ≤ suc r.turns
AnswerTakes n (over e r) = e ≡ outcome.turns → n ≡ 0

abbrev StepTakes : ℕ → Stepped → Type 0
StepTakes n (went u next) = n ≤ suc u.turns
StepTakes n (ended e u) = e ≡ outcome.turns → n ≡ 0

not_turns : (c : Cause) (line : ℕ) → ending_of c line ≡ outcome.turns → ⊥
not_turns cause.Halt line e = absurd (cc)
not_turns c line e = absurd (cc)

called_takes : (x : CallResult) (address : Option ℕ) (line : ℕ) (l : Local) (r : Running) → AnswerTakes r.turns (called x address line l r)
called_takes (answered words system) address line l r = omega arith
called_takes no_file address line l r = λ e. absurd (cc)
called_takes file_limit address line l r = λ e. absurd (cc)

turn_takes : (n : ℕ) (kind : Turn) (l : Local) (r : Running) → AnswerTakes n (turn_from n kind l r)
turn_takes zero kind l r = λ e. refl
turn_takes (suc n) kind l r = omega arith

settled_takes : (e : Effect) (r : Running) → AnswerTakes r.turns (settled e r)
settled_takes (goes l) r = omega arith
settled_takes (released l) r = omega arith
settled_takes (asks number arguments address line l) r = called_takes (call number arguments r.system) address line l r
settled_takes (due kind l) r = turn_takes r.turns kind l r
settled_takes (fails c line) r = λ e. absurd (not_turns c line e)
settled_takes bad r = λ e. absurd (cc)

-- ---- the kernel

children_turns : (p : Name) (f i base at share : ℕ) (branches : List Branch) (m : Machine) → (with_children p f i base at share branches m).turns ≡ m.turns
children_turns p f i base at share [] m = refl
children_turns p f i base at share (branch ∷ branches) m =
    children_turns p f (suc i) base (at + share) share branches (with_child (child p f i) base at share branch m)

less_takes : (n : ℕ) (m : Machine) (p : Name) (a : Activity) (standing : Standing) → n ≤ suc m.turns → StepTakes n (one_less m p a standing)
less_takes n m p a ready h = h
less_takes n m p a at_when h = h
less_takes n m p a (waiting k) h = h

told_takes : (n : ℕ) (m : Machine) (p : Name) (o : Option Activity) → n ≤ suc m.turns → StepTakes n (notified m p o)
told_takes n m p None h = h
told_takes n m p (Some a) h = less_takes n m p a a.standing h

marked_takes : (n : ℕ) (b : Bool) (after : Machine) (p : Name) → n ≤ suc after.turns → StepTakes n (if b then ended outcome.standstill after else went after (joins (p ∷ [])))
marked_takes n true after p h = λ e. absurd (cc)
marked_takes n false after p h = h

module _ (m : Machine) (p : Name) (others : List Name) (a : Activity) where
  turned_takes : (n : ℕ) (kind : Turn) (r : Running) → n ≤ suc r.turns → StepTakes n (at_turn m p others a kind r)
  turned_takes n entering r h = h
  turned_takes n leaving r h = h
  turned_takes n looping r h = h
  turned_takes n arriving r h = h
  turned_takes n (again false) r h = h
  turned_takes n (again true) r h =
      marked_takes n (all_marked (p ∷ m.marks) (p ∷ others)) (back m p (activity_of r.local a.forks at_when) (p ∷ m.marks) r) p h
  turned_takes n (forking branches) r h = subst (λ k. n ≤ suc k) (sym (children_turns p (suc a.forks) 0 r.local.base r.local.end _ branches _)) h
  turned_takes n exiting r h =
      told_takes n (record { memory = r.local.memory; activities = without m.activities p; marks = []; turns = r.turns; system = r.system }) (parent_of p)
      (find (without m.activities p) (parent_of p)) h
  turned_takes n finishing r h = λ e. absurd (cc)

  kernel_takes : (n : ℕ) (x : Answer) → AnswerTakes n x → StepTakes n (kernel m p others a x)
  kernel_takes n (on r) h = h
  kernel_takes n (behind r) h = h
  kernel_takes n (turned kind r) h = turned_takes n kind r h
  kernel_takes n (over e r) h = h

module _ (fetch : ℕ → Option (Instruction × ℕ)) where
  step_takes : (m : Machine) (p : Name) (others : List Name) → StepTakes m.turns (step fetch m p others)
  step_takes m p others = go (find m.activities p)
    where
      go : (o : Option Activity) → StepTakes m.turns (step_of fetch m p others o)
      go None = λ e. absurd (cc)
      go (Some a) =
          kernel_takes m p others a m.turns (local_step fetch (length m.activities) (is_first p) (running_of m a))
          (settled_takes (effect_at fetch (fetch a.pc) (length m.activities) (is_first p) (running_of m a).local) (running_of m a))

  -- who is cut within n instructions had fewer turns
  pub few_turns : (n : ℕ) (t : Machine) (p : Name) (others : List Name) (u : Machine) → stint fetch n t p others ≡ stints.over outcome.turns u → t.turns < n
  few_turns zero t p others u e = absurd (cc)
  few_turns (suc n) t p others u e = go (step fetch t p others) (step_takes t p others) (λ v f. few_turns n v p others u f) e
    where
      cut : (d : Ending) (v : Machine) → stints.over d v ≡ stints.over outcome.turns u → d ≡ outcome.turns
      cut d v f = cc

      go : (x : Stepped) → StepTakes t.turns x → ((v : Machine) → stint fetch n v p others ≡ stints.over outcome.turns u → v.turns < n) →
          stint_after (λ v. stint fetch n v p others) x ≡ stints.over outcome.turns u → t.turns < suc n
      go (went v stays) h ih f = omega (arith, h, ih v f)
      go (went v (joins ps)) h ih f = absurd (cc)
      go (ended d v) h ih f = omega (arith, h (cut d v f))
