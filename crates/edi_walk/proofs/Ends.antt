-- Every walk ends, and in one way.
use Rattle.std.proofs.Common.{◌≡◌, ℕ, zero, suc, ◌+◌, ◌<◌, ◌≤◌, ◌⊎◌, inl, inr, Bool, true, false, if◌then◌else◌, List, [], ◌∷◌, ◌++◌, Option, Some}
use Rattle.std.proofs.Common.{None, refl, sym, subst, ap, arith}
use Rattle.std.specs.Prelude.{⊤}
use Rattle.edi_calls.specs.State.{Traced}
use Rattle.edi_calls.specs.Choice.{Choices}
use Rattle.edi_calls.specs.Names.{Name, Table, same, find, with_at}
use Rattle.edi_calls.specs.Outcome as outcome
use Rattle.edi_calls.specs.Outcome.{Ending}
use Rattle.edi_calls.specs.Ready.{stays, Taking, nobody, taking, take_next}
use Rattle.edi_unit.specs.Tree.{ProgramUnit}
use Rattle.edi_meaning.specs.Evaluation.{World, Evaluation, gives, ends}
use Rattle.edi_meaning.specs.Step.{Asks, Work, goes, ready, Process, Processes, Stepped, went, ended, back, step, step_of, start, local_step}
use Rattle.edi_meaning.specs.Select.{Selected, finished, stepped_first}
use Rattle.edi_meaning.proofs.Kernel.{Handles, kernel_handles, of_process}
use Rattle.edi_meaning.proofs.Lasting.{Gives, IsOwn}
use Rattle.edi_meaning.proofs.Work.{Falls, Less, falling, local_falling, standing_size, work_size}
use Rattle.edi_walk.specs.Walk.{joining, behind_step, taken_step, walked}
use Rattle.edi_walk.specs.Laws.{EveryWalkEnds}

-- ---- the work of all processes

abbrev size_of : Process → ℕ
size_of q = standing_size q.standing + work_size q.work

abbrev total : Table Process → ℕ
total [] = 0
total (entry ∷ table) = size_of entry.1 + total table

total_falls : (table : Table Process) (p : Name) (q r : Process) → find table p ≡ Some q → size_of r < size_of q → total (with_at table p r) < total table
total_falls [] p q r found less = absurd (cc)
total_falls (entry ∷ table) p q r found less = go (same p entry.0) found (λ e. total_falls table p q r e less)
  where
    some : (a b : Process) → Some a ≡ Some b → a ≡ b
    some a b e = cc

    go : (b : Bool) → (if b then Some entry.1 else find table p) ≡ Some q → (find table p ≡ Some q → total (with_at table p r) < total table) →
        total (if b then (entry.0, r) ∷ table else entry ∷ with_at table p r) < size_of entry.1 + total table
    go true e more = omega (arith, less, ap size_of (some _ _ e))
    go false e more = omega (arith, more e)

-- a turn was taken; or all processes together have less to do
abbrev AllFall : ℕ → ℕ → Stepped → Type 0
AllFall all t (ended ending system turns) = ⊤
AllFall all t (went s next quiet) = (s.world.turns < t) ⊎ ((s.world.turns ≤ t) × (total s.live < all))

-- a turn is taken by all that a step does, but where its process alone goes on, with less to do
falling_in_all : (unit : ProgramUnit) (s : Processes) (p : Name) (q : Process) → find s.live p ≡ Some q →
    Handles unit s p q (Less (size_of q) s.world.turns) (λ ending system turns. ⊤) (AllFall (total s.live) s.world.turns)
falling_in_all unit s p q found = record {
  of_end = λ ending system turns h. tt;
  of_goes = go;
  of_arrives = λ cs position work w h. inl h;
  of_again = λ cs position quiet work w h. inl h;
  of_no_fork = λ bs line work w ending o h. tt;
  of_fork = λ bs line work w n share e h. inl (falls.of_fork bs line work w n share e h);
  of_leaves = λ w k h. inl h;
  of_awaited = λ w y n e g h. inl h;
}
  where
    falls : Handles unit s p q (Less (size_of q) s.world.turns) (λ ending system turns. (turns ≤ s.world.turns) × IsOwn ending) (Falls (size_of q) s.world.turns p)
    falls = falling unit s p q (size_of q) s.world.turns

    go : (work : List Work) (w : World) → Less (size_of q) s.world.turns (goes work) w →
        AllFall (total s.live) s.world.turns (went (back s p (record q { work = work; standing = ready }) w) stays false)
    go work w (inl h) = inl h
    go work w (inr h) = inr (h.0, total_falls s.live p q (record q { work = work; standing = ready }) found (omega (arith, h.1)))

without_end : (m t : ℕ) (r : Evaluation Asks) → Gives (Less m t) (λ ending system turns. (turns ≤ t) × IsOwn ending) r
    → Gives (Less m t) (λ ending system turns. ⊤) r
without_end m t (gives a w) h = h
without_end m t (ends e system turns) h = tt

all_fall : (unit : ProgramUnit) (s : Processes) (p : Name) (q : Process) → find s.live p ≡ Some q → AllFall (total s.live) s.world.turns (step unit s p)
all_fall unit s p q found =
    of_process unit s p q (AllFall (total s.live) s.world.turns) found
    (kernel_handles unit s p q _ _ (AllFall (total s.live) s.world.turns) (falling_in_all unit s p q found)
    (local_step unit p q.size q.standing q.work s.world) (without_end (size_of q) s.world.turns _ (local_falling unit p q.size s.world.turns q.standing q.work s.world (omega arith)).is))

-- ---- walks

abbrev pub IsFinished : Selected → Type 0
IsFinished r = (ending : Ending) × (end : Traced) × (turns : ℕ) × (drawn : ℕ) × (order : List Name) × (r ≡ finished ending end turns drawn order)

first_finished : (p : Name) (r : Selected) → IsFinished r → IsFinished (stepped_first p r)
first_finished p r h = (h.0, h.1, h.2, h.3, p ∷ h.4, ap (stepped_first p) h.5)

module _ (unit : ProgramUnit) (choices : Choices) where
  abbrev pub Finishes : Processes → List Name → ℕ → Type 0
  Finishes s listed drawn = (n : ℕ) × IsFinished (walked unit choices n s listed drawn)

  abbrev Onward : Name → List Name → ℕ → Stepped → Type 0
  Onward p others drawn (ended ending system turns) = ⊤
  Onward p others drawn (went s next quiet) = Finishes s (others ++ joining p next) drawn

  stepped_ends : (p : Name) (others : List Name) (drawn : ℕ) (x : Stepped) → Onward p others drawn x →
      (n : ℕ) × IsFinished (behind_step (walked unit choices n) p others drawn x)
  stepped_ends p others drawn (ended ending system turns) c = (0, (ending, system, turns, drawn, [], refl))
  stepped_ends p others drawn (went s next quiet) c = c

  abbrev Taken : Processes → Taking → Type 0
  Taken s nobody = ⊤
  Taken s (taking p others drawn) = Onward p others drawn (step unit s p)

  taken_ends : (s : Processes) (drawn : ℕ) (t : Taking) → Taken s t → (n : ℕ) × IsFinished (taken_step unit (walked unit choices n) s drawn t)
  taken_ends s before nobody c = (0, (outcome.turns, s.world.system, s.world.turns, before, [], refl))
  taken_ends s before (taking p others drawn) c =
      let e = stepped_ends p others drawn (step unit s p) c in
      (e.0, first_finished p (behind_step (walked unit choices e.0) p others drawn (step unit s p)) e.1)

  one_more : (s : Processes) (listed : List Name) (drawn : ℕ) → Taken s (take_next choices drawn listed) → Finishes s listed drawn
  one_more s listed drawn c = let e = taken_ends s drawn (take_next choices drawn listed) c in (suc e.0, e.1)

  onward : (p : Name) (others : List Name) (drawn all turns : ℕ) (x : Stepped) → AllFall all turns x →
      ((s : Processes) (listed : List Name) (d : ℕ) → s.world.turns < turns → Finishes s listed d) →
      ((s : Processes) (listed : List Name) (d : ℕ) → s.world.turns ≤ turns → total s.live < all → Finishes s listed d) → Onward p others drawn x
  onward p others drawn all t (ended ending system turns) f less smaller = tt
  onward p others drawn all t (went s next quiet) (inl h) less smaller = less s (others ++ joining p next) drawn h
  onward p others drawn all t (went s next quiet) (inr h) less smaller = smaller s (others ++ joining p next) drawn h.0 h.1

  -- with at most t turns left, where the walks with fewer end
  by_work : (t : ℕ) → ((s : Processes) (listed : List Name) (d : ℕ) → s.world.turns < t → Finishes s listed d) →
      (left : ℕ) (s : Processes) (listed : List Name) (drawn : ℕ) → s.world.turns ≤ t → total s.live < left → Finishes s listed drawn
  by_work t less zero s listed drawn h k = absurd (omega arith)
  by_work t less (suc left) s listed drawn h k =
      one_more s listed drawn (found (λ s' l d le lt. by_work t less left s' l d (omega (arith, h, le)) (omega (arith, k, lt))) (take_next choices drawn listed))
    where
      stepped : ((s' : Processes) (l : List Name) (d : ℕ) → s'.world.turns ≤ s.world.turns → total s'.live < total s.live → Finishes s' l d) →
          (p : Name) (others : List Name) (d : ℕ) (x : Option Process) → find s.live p ≡ x → Onward p others d (step unit s p)
      stepped smaller p others d None e = subst (λ (x : Option Process). Onward p others d (step_of unit s p x)) (sym e) tt
      stepped smaller p others d (Some q) e =
          onward p others d (total s.live) s.world.turns (step unit s p) (all_fall unit s p q e)
          (λ s' l d' lt. less s' l d' (omega (arith, h, lt))) smaller

      found : ((s' : Processes) (l : List Name) (d : ℕ) → s'.world.turns ≤ s.world.turns → total s'.live < total s.live → Finishes s' l d) →
          (t : Taking) → Taken s t
      found smaller nobody = tt
      found smaller (taking p others d) = stepped smaller p others d (find s.live p) refl

  pub by_turns : (t : ℕ) (s : Processes) (listed : List Name) (drawn : ℕ) → s.world.turns < t → Finishes s listed drawn
  by_turns zero s listed drawn h = absurd (omega arith)
  by_turns (suc t) s listed drawn h = by_work t (by_turns t) (suc (total s.live)) s listed drawn (omega arith) (omega arith)

pub every_walk_ends : EveryWalkEnds
every_walk_ends unit system bound choices before =
    let e = by_turns unit choices (suc bound) (start unit system bound) ([] ∷ []) before (omega arith) in
    (e.1.0, e.1.1, e.1.2, e.1.3, e.1.4, (e.0, e.1.5))
