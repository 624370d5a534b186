-- Each stint ends, if only for want of turns. So one that no want of turns cuts is whole.
use Rattle.std.proofs.Common.{◌≡◌, ℕ, zero, suc, ◌+◌, ◌<◌, ◌≤◌, inl, inr, List, Option, Some, None, refl, sym, ap, subst, arith}
use Rattle.std.specs.Prelude.{⊤}
use Rattle.edi_calls.specs.Names.{Name, find}
use Rattle.edi_calls.specs.Outcome as outcome
use Rattle.edi_calls.specs.Outcome.{Ending}
use Rattle.edi_calls.specs.Ready.{stays, joins}
use Rattle.edi_unit.specs.Tree.{ProgramUnit}
use Rattle.edi_meaning.specs.Step.{Process, Processes, Stepped, went, ended, step_of, step}
use Rattle.edi_meaning.proofs.Work.{Falls, standing_size, work_size, step_falls}
use Rattle.edi_explored.specs.Stint.{Stinted, goes_on, behind, over, stint, stint_after}
use Rattle.edi_orders.specs.Orders.{IsWhole, AreUncut, Completes}

abbrev IsEnded : Stinted → Type 0
IsEnded goes_on = ⊥
IsEnded (behind t joined quiet) = ⊤
IsEnded (over e shown) = ⊤

module _ (unit : ProgramUnit) where
  abbrev Ends : Processes → Name → Type 0
  Ends s p = (steps : ℕ) × IsEnded (stint unit steps s p)

  abbrev Onward : Name → Stepped → Type 0
  Onward p (ended e system turns) = ⊤
  Onward p (went t stays quiet) = Ends t p
  Onward p (went t (joins ps) quiet) = ⊤

  one_more : (s : Processes) (p : Name) (x : Stepped) → step unit s p ≡ x → Onward p x → Ends s p
  one_more s p (ended e system turns) f h = (1, subst IsEnded (sym (ap (stint_after (λ t. stint unit 0 t p)) f)) tt)
  one_more s p (went t stays quiet) f h = (suc h.0, subst IsEnded (sym (ap (stint_after (λ t. stint unit h.0 t p)) f)) h.1)
  one_more s p (went t (joins ps) quiet) f h = (1, subst IsEnded (sym (ap (stint_after (λ t. stint unit 0 t p)) f)) tt)

  -- where those with fewer turns end, and those with as many and less work
  onward : (p : Name) (x : Stepped) (size turns : ℕ) → Falls size turns p x → ((t : Processes) → t.world.turns < turns → Ends t p) →
      ((t : Processes) (q : Process) → t.world.turns ≤ turns → find t.live p ≡ Some q → standing_size q.standing + work_size q.work < size → Ends t p) → Onward p x
  onward p (ended e system left) size turns f less smaller = tt
  onward p (went t stays quiet) size turns (inl h) less smaller = less t h
  onward p (went t stays quiet) size turns (inr h) less smaller = smaller t h.1.0 h.0 h.1.1 h.1.2
  onward p (went t (joins ps) quiet) size turns f less smaller = tt

  by_work : (p : Name) (turns : ℕ) → ((t : Processes) → t.world.turns < turns → Ends t p) → (left : ℕ) (s : Processes) (q : Process) → find s.live p ≡ Some q →
      s.world.turns ≤ turns → standing_size q.standing + work_size q.work < left → Ends s p
  by_work p turns less zero s q e h k = absurd (omega (arith, k))
  by_work p turns less (suc left) s q e h k =
      one_more s p (step unit s p) refl
      (onward p (step unit s p) (standing_size q.standing + work_size q.work) s.world.turns (step_falls unit s p q e)
      (λ t l. less t (omega (arith, l, h)))
      (λ t r l found smaller. by_work p turns less left t r found (omega (arith, l, h)) (omega (arith, smaller, k))))

  by_turns : (p : Name) (turns : ℕ) (s : Processes) → s.world.turns < turns → Ends s p
  by_turns p zero s h = absurd (omega (arith, h))
  by_turns p (suc turns) s h = go (by_work p turns (by_turns p turns)) (find s.live p) refl
    where
      go : ((left : ℕ) (s : Processes) (q : Process) → find s.live p ≡ Some q → s.world.turns ≤ turns → standing_size q.standing + work_size q.work < left → Ends s p) →
          (x : Option Process) → find s.live p ≡ x → Ends s p
      go counted None e = one_more s p (ended outcome.turns s.world.system s.world.turns) (ap (step_of unit s p) e) tt
      go counted (Some q) e = counted (suc (standing_size q.standing + work_size q.work)) s q e (omega (arith, h)) (omega arith)

  stint_ends : (s : Processes) (p : Name) → Ends s p
  stint_ends s p = by_turns p (suc s.world.turns) s (omega arith)

  whole_of : (x : Stinted) → IsEnded x → ((shown : List ℕ) → x ≡ over outcome.turns shown → ⊥) → IsWhole x
  whole_of goes_on h k = h
  whole_of (behind t joined quiet) h k = tt
  whole_of (over e shown) h k = λ is. k shown (ap (λ d. over d shown) is)

pub uncut_stints_are_whole : (unit : ProgramUnit) (V : Type 0) (Covers : V → Processes → List Name → Type 0) (Has : ℕ → V → Type 0) →
    AreUncut unit V Covers Has → Completes unit V Covers Has
uncut_stints_are_whole unit V Covers Has uncut n v s p others h c =
    let u = uncut n v s p others h c in
    let e : (steps : ℕ) × IsEnded (stint unit steps u.0 p) = stint_ends unit u.0 p in
    (u.0, u.1, e.0, whole_of unit (stint unit e.0 u.0 p) e.1 (λ shown is. u.2 e.0 shown is))
