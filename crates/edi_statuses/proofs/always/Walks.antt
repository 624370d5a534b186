-- What each call of the system keeps, a walk keeps; and it ends as a walk may.
use Rattle.std.proofs.Common.{◌≡◌, ℕ, zero, suc, List, [], ◌∷◌, ◌++◌, length, Option, Some, None, sym, subst}
use Rattle.std.specs.Prelude.{⊤}
use Rattle.edi_calls.specs.Calls.{answered, call}
use Rattle.edi_calls.specs.Choice.{Choices}
use Rattle.edi_calls.specs.Names.{Name, find}
use Rattle.edi_calls.specs.Outcome as outcome
use Rattle.edi_calls.specs.Outcome.{Ending}
use Rattle.edi_calls.specs.Ready.{Taking, nobody, taking, take_next}
use Rattle.edi_calls.specs.State.{State, Traced}
use Rattle.edi_unit.specs.Tree.{ProgramUnit}
use Rattle.edi_meaning.specs.Store.{now, shape}
use Rattle.edi_meaning.specs.Step.{waiting, Process, Processes, Stepped, went, ended, back, local_step, start, step, step_of}
use Rattle.edi_meaning.specs.Select.{Selected, finished, stepped_first, unfinished}
use Rattle.edi_meaning.proofs.Kernel.{Handles, kernel_handles}
use Rattle.edi_meaning.proofs.Lasting.{IsOver, Lasting}
use Rattle.edi_meaning.proofs.Local.{Moving, local_keeps}
use Rattle.edi_meaning.proofs.Work.{world_of_children}
use Rattle.edi_meaning.proofs.Worlds.{lasting}
use Rattle.edi_walk.specs.Walk.{behind_step, joining, taken_step, walked, WalkEnds}
use Rattle.edi_runs.specs.walk.Walks.{IsWalkEnding}

-- a program's own end is one of a walk
over_is_walks : (e : Ending) (n : ℕ) → IsOver e n → IsWalkEnding e
over_is_walks outcome.done n h = tt
over_is_walks (outcome.halted line) n h = tt
over_is_walks (outcome.failed why line) n h = tt
over_is_walks outcome.turns n h = tt
over_is_walks outcome.standstill n h = h
over_is_walks (outcome.bad address) n h = h

module _ (P : State → Type 0) (keeps : (number : ℕ) (words answer : List ℕ) (before after : State) → P before
    → call number words before ≡ answered answer after → P after) where
  -- at an end
  abbrev Ended : Ending → Traced → Type 0
  Ended ending system = IsWalkEnding ending × P system.now

  abbrev kept : (unit : ProgramUnit) (p : Name) (size : ℕ) → Lasting unit p size
  kept unit p size = lasting (record {
    Level = Unit {0};
    Holds = λ x w. P w.system.now;
    Ends = λ e system turns. Ended e system;
    over = λ x e w o h. (over_is_walks e w.turns o, h);
    turned = λ x n w e h. h;
    stored = λ x l v w h. h;
    replied = λ x number asked words system w e h. keeps number asked words w.system.now system h e;
    called = λ x number parent cells w h. (tt, h, λ v k. k);
  })

  abbrev moves : (unit : ProgramUnit) (p : Name) (size : ℕ) → Moving (kept unit p size) tt (λ w. P w.system.now)
  moves unit p size = record { stays = λ w h. h; grows = λ number parent cells w c f h. h; shrinks = λ w h. h; begins = λ w h. h }

  abbrev StepKeeps : Stepped → Type 0
  StepKeeps (went t next quiet) = P t.world.system.now
  StepKeeps (ended ending system turns) = Ended ending system

  handles : (unit : ProgramUnit) (s : Processes) (p : Name) (q : Process)
      → Handles unit s p q (λ a w. P w.system.now) (λ ending system turns. Ended ending system) StepKeeps
  handles unit s p q = record {
    of_end = λ ending system turns h. h;
    of_goes = λ work w h. h;
    of_arrives = λ cs position work w h. h;
    of_again = λ cs position quiet work w h. h;
    of_no_fork = λ bs line work w ending o h. (over_is_walks ending w.turns o, h);
    of_fork = λ bs line work w n share e h.
        let same = world_of_children unit p (suc q.forks) 0 share (now (shape w.store) p) bs
        (back s p (record q { forks = suc q.forks; work = work; standing = waiting (length bs) }) (record w { turns = n })) in
        subst (λ v. P v.system.now) (sym same) h;
    of_leaves = λ w k h. h;
    of_awaited = λ w y n e g h. h;
  }

  step_keeps : (unit : ProgramUnit) (s : Processes) (p : Name) → P s.world.system.now → StepKeeps (step unit s p)
  step_keeps unit s p h = go (find s.live p)
    where
      go : (x : Option Process) → StepKeeps (step_of unit s p x)
      go None = (tt, h)
      go (Some q) =
          kernel_handles unit s p q _ _ StepKeeps (handles unit s p q) (local_step unit p q.size q.standing q.work s.world)
          (local_keeps (kept unit p q.size) tt (λ w. P w.system.now) (moves unit p q.size) q.standing q.work s.world (λ idle v k. (tt, k)) h).is

  module _ (unit : ProgramUnit) (choices : Choices) where
    abbrev EndKeeps : Selected → Type 0
    EndKeeps unfinished = ⊤
    EndKeeps (finished ending end turns drawn order) = Ended ending end

    first_keeps : (p : Name) (r : Selected) → EndKeeps r → EndKeeps (stepped_first p r)
    first_keeps p unfinished h = tt
    first_keeps p (finished ending end turns drawn order) h = h

    abbrev More : ℕ → Type 0
    More n = (s : Processes) (listed : List Name) (drawn : ℕ) → P s.world.system.now → EndKeeps (walked unit choices n s listed drawn)

    behind_keeps : (n : ℕ) → More n → (p : Name) (others : List Name) (d : ℕ) (x : Stepped) → StepKeeps x
        → EndKeeps (behind_step (walked unit choices n) p others d x)
    behind_keeps n more p others d (ended ending system turns) h = h
    behind_keeps n more p others d (went t next quiet) h = more t (others ++ joining p next) d h

    taken_keeps : (n : ℕ) → More n → (s : Processes) (drawn : ℕ) (t : Taking) → P s.world.system.now
        → EndKeeps (taken_step unit (walked unit choices n) s drawn t)
    taken_keeps n more s drawn nobody h = (tt, h)
    taken_keeps n more s drawn (taking p others d) h =
        first_keeps p (behind_step (walked unit choices n) p others d (step unit s p)) (behind_keeps n more p others d (step unit s p) (step_keeps unit s p h))

    walk_keeps : (n : ℕ) → More n
    walk_keeps zero s listed drawn h = tt
    walk_keeps (suc n) s listed drawn h =
        taken_keeps n (λ t names d k. walk_keeps n t names d k) s drawn (take_next choices drawn listed) h

  pub walk_ends_so : (unit : ProgramUnit) (system : State) (bound : ℕ) (choices : Choices) (before : ℕ) (ending : Ending) (end : Traced) (turns drawn : ℕ)
      (order : List Name) → P system → WalkEnds unit system bound choices before ending end turns drawn order → IsWalkEnding ending × P end.now
  walk_ends_so unit system bound choices before ending end turns drawn order h is =
      subst (EndKeeps unit choices) is.1 (walk_keeps unit choices is.0 (start unit system bound) ([] ∷ []) before h)
