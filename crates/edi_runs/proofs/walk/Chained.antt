-- Each state of the past of a walk is behind a system call on the state before it. So no walk changes the number of blocks; and where an object failed
-- a call of a walk, the system is, but for the open files, in a state through which the walk comes.
use Rattle.std.proofs.Common.{◌≡◌, ℕ, zero, suc, List, [], ◌∷◌, ◌++◌, length, Option, Some, None, refl, sym, subst, ap, ◌∙◌, inl, inr, arith}
use Rattle.std.specs.Prelude.{Contains, ⊤}
use Rattle.std.proofs.lemmas.List.Elements.{Contains-append_right}
use Rattle.edi_calls.specs.Asked.{IsFollowed}
use Rattle.edi_calls.specs.Calls.{answered, call}
use Rattle.edi_calls.specs.Choice.{Choices}
use Rattle.edi_calls.specs.Laws.{IsSameOutside}
use Rattle.edi_calls.specs.Names.{Name, find}
use Rattle.edi_calls.specs.Outcome.{Ending}
use Rattle.edi_calls.specs.Ready.{Taking, nobody, taking, take_next}
use Rattle.edi_calls.specs.State.{State, Traced, moments_of, newest}
use Rattle.edi_calls.proofs.Lasting.{each_call_goes_on_all}
use Rattle.edi_calls.proofs.Parts.{torn_is_before_or_behind_all}
use Rattle.edi_trace.specs.Drawn.{Drawn}
use Rattle.edi_unit.specs.Tree.{ProgramUnit}
use Rattle.edi_meaning.specs.Store.{now, shape}
use Rattle.edi_meaning.specs.Step.{waiting, Process, Processes, Stepped, went, ended, back, local_step, start, step, step_of}
use Rattle.edi_meaning.specs.Select.{Selected, finished, stepped_first, unfinished}
use Rattle.edi_meaning.proofs.Kernel.{Handles, kernel_handles}
use Rattle.edi_meaning.proofs.Lasting.{Lasting}
use Rattle.edi_meaning.proofs.Local.{Moving, local_keeps}
use Rattle.edi_meaning.proofs.Work.{world_of_children}
use Rattle.edi_meaning.proofs.Worlds.{lasting}
use Rattle.edi_walk.specs.Ends.{WalkFails}
use Rattle.edi_walk.specs.Walk.{behind_step, joining, taken_step, walked, WalkEnds}

-- ---- a past

-- the state that a call leaves which is answered
record IsCalled (before after : State) : Type 0 where
  number : ℕ
  words : List ℕ
  answer : List ℕ
  is : call number words before ≡ answered answer after

abbrev AreCalled : State → List State → Type 0
AreCalled first [] = ⊤
AreCalled first (s ∷ past) = IsCalled (newest first past) s × AreCalled first past

-- of a system that was first in this state
abbrev IsChained : State → Traced → Type 0
IsChained first t = AreCalled first t.past × (newest first t.past ≡ t.now)

older_called : (first : State) (later past : List State) → AreCalled first (later ++ past) → AreCalled first past
older_called first [] past h = h
older_called first (s ∷ later) past h = older_called first later past h.1

-- ---- one process

abbrev chaining : (unit : ProgramUnit) (p : Name) (size : ℕ) (first : State) → Lasting unit p size
chaining unit p size first = lasting (record {
  Level = Unit {0};
  Holds = λ x w. IsChained first w.system;
  Ends = λ e system turns. IsChained first system;
  over = λ x e w o h. h;
  turned = λ x n w e h. h;
  stored = λ x l v w h. h;
  replied = λ x number asked words system w e h. (
    (
      record {
        number = number;
        words = asked;
        answer = words;
        is = subst (λ s. call number asked s ≡ answered words system) (sym h.1) e;
      },
      h.0,
    ),
    refl,
  );
  called = λ x number parent cells w h. (tt, h, λ v k. k);
})

abbrev moves : (unit : ProgramUnit) (p : Name) (size : ℕ) (first : State) → Moving (chaining unit p size first) tt (λ w. IsChained first w.system)
moves unit p size first = record { stays = λ w h. h; grows = λ number parent cells w c f h. h; shrinks = λ w h. h; begins = λ w h. h }

-- ---- all processes

abbrev StepChained : State → Stepped → Type 0
StepChained first (went t next quiet) = IsChained first t.world.system
StepChained first (ended ending system turns) = IsChained first system

chained_by_kernel : (unit : ProgramUnit) (s : Processes) (p : Name) (q : Process) (first : State)
    → Handles unit s p q (λ a w. IsChained first w.system) (λ ending system turns. IsChained first system) (StepChained first)
chained_by_kernel unit s p q first = record {
  of_end = λ ending system turns h. h;
  of_goes = λ work w h. h;
  of_arrives = λ cs position work w h. h;
  of_again = λ cs position quiet work w h. h;
  of_no_fork = λ bs line work w ending o h. h;
  of_fork = λ bs line work w n share e h.
      let same = world_of_children unit p (suc q.forks) 0 share (now (shape w.store) p) bs
      (back s p (record q { forks = suc q.forks; work = work; standing = waiting (length bs) }) (record w { turns = n })) in
      subst (λ v. IsChained first v.system) (sym same) h;
  of_leaves = λ w k h. h;
  of_awaited = λ w y n e g h. h;
}

step_chained : (unit : ProgramUnit) (first : State) (s : Processes) (p : Name) → IsChained first s.world.system → StepChained first (step unit s p)
step_chained unit first s p h = go (find s.live p)
  where
    go : (x : Option Process) → StepChained first (step_of unit s p x)
    go None = h
    go (Some q) =
        kernel_handles unit s p q _ _ (StepChained first) (chained_by_kernel unit s p q first) (local_step unit p q.size q.standing q.work s.world)
        (local_keeps (chaining unit p q.size first) tt (λ w. IsChained first w.system) (moves unit p q.size first) q.standing q.work s.world
        (λ idle v k. k) h).is

-- ---- a walk

module _ (unit : ProgramUnit) (choices : Choices) (first : State) where
  abbrev EndChained : Selected → Type 0
  EndChained unfinished = ⊤
  EndChained (finished ending end turns drawn order) = IsChained first end

  first_chained : (p : Name) (r : Selected) → EndChained r → EndChained (stepped_first p r)
  first_chained p unfinished h = tt
  first_chained p (finished ending end turns drawn order) h = h

  abbrev MoreChained : ℕ → Type 0
  MoreChained n = (s : Processes) (listed : List Name) (drawn : ℕ) → IsChained first s.world.system → EndChained (walked unit choices n s listed drawn)

  behind_chained : (n : ℕ) → MoreChained n → (p : Name) (others : List Name) (d : ℕ) (x : Stepped) → StepChained first x
      → EndChained (behind_step (walked unit choices n) p others d x)
  behind_chained n more p others d (ended ending system turns) h = h
  behind_chained n more p others d (went t next quiet) h = more t (others ++ joining p next) d h

  taken_chained : (n : ℕ) → MoreChained n → (s : Processes) (drawn : ℕ) (t : Taking) → IsChained first s.world.system
      → EndChained (taken_step unit (walked unit choices n) s drawn t)
  taken_chained n more s drawn nobody h = h
  taken_chained n more s drawn (taking p others d) h =
      first_chained p (behind_step (walked unit choices n) p others d (step unit s p))
      (behind_chained n more p others d (step unit s p) (step_chained unit first s p h))

  walk_chained : (n : ℕ) → MoreChained n
  walk_chained zero s listed drawn h = tt
  walk_chained (suc n) s listed drawn h =
      taken_chained n (λ t names d k. walk_chained n t names d k) s drawn (take_next choices drawn listed) h

walk_is_chained : (unit : ProgramUnit) (system : State) (bound : ℕ) (choices : Choices) (before : ℕ) (ending : Ending) (end : Traced) (turns drawn : ℕ)
    (order : List Name) → WalkEnds unit system bound choices before ending end turns drawn order → IsChained system end
walk_is_chained unit system bound choices before ending end turns drawn order is =
    subst (EndChained unit choices system) is.1 (walk_chained unit choices system is.0 (start unit system bound) ([] ∷ []) before (tt, refl))

-- ---- the number of blocks, which no call changes

newest_blocks : (first : State) (past : List State) → AreCalled first past → (newest first past).blocks ≡ first.blocks
newest_blocks first [] h = refl
newest_blocks first (s ∷ past) h =
    let c = h.0 in (each_call_goes_on_all c.number c.words c.answer (newest first past) s c.is).blocks ∙ newest_blocks first past h.1

moment_blocks : (first : State) (past : List State) (m : State) → AreCalled first past → Contains (moments_of first past) m → m.blocks ≡ first.blocks
moment_blocks first [] m h (zero, l, e) = ap (λ (s : State). s.blocks) (sym e)
moment_blocks first [] m h (suc k, l, e) = absurd (omega (arith, l))
moment_blocks first (s ∷ past) m h (zero, l, e) = ap (λ (s : State). s.blocks) (sym e) ∙ newest_blocks first (s ∷ past) h
moment_blocks first (s ∷ past) m h (suc k, l, e) = moment_blocks first past m h.1 (k, omega (arith, l), e)

module _ (unit : ProgramUnit) (system : State) (bound : ℕ) (choices : Choices) (before : ℕ) (ending : Ending) (end : Traced) (turns drawn : ℕ)
    (order : List Name) (is : WalkEnds unit system bound choices before ending end turns drawn order) where
  pub walk_moment_blocks : (m : State) → Contains (moments_of system end.past) m → m.blocks ≡ system.blocks
  walk_moment_blocks m among =
      moment_blocks system end.past m (walk_is_chained unit system bound choices before ending end turns drawn order is).0 among

  pub walk_end_blocks : end.now.blocks ≡ system.blocks
  walk_end_blocks =
      let chained = walk_is_chained unit system bound choices before ending end turns drawn order is in
      ap (λ (s : State). s.blocks) (sym chained.1) ∙ newest_blocks system end.past chained.0

-- ---- a fault

newest_among : (first : State) (past : List State) → Contains (moments_of first past) (newest first past)
newest_among first [] = (0, omega arith, refl)
newest_among first (s ∷ past) = (0, omega arith, refl)

older_among : (first : State) (later past : List State) (s : State) → Contains (moments_of first past) s → Contains (moments_of first (later ++ past)) s
older_among first [] past s h = h
older_among first (x ∷ later) past s h = Contains-append_right (x ∷ []) (moments_of first (later ++ past)) s (older_among first later past s h)

-- the states before and after a call are among the moments
pub followed_among : (system : State) (past : List State) (one next : State) → IsFollowed system past one next
    → Contains (moments_of system past) one × Contains (moments_of system past) next
followed_among system past one next f = (
  at one (subst (λ s. Contains (moments_of system (f.later ++ next ∷ f.earlier)) s) f.last
      (older_among system f.later (next ∷ f.earlier) (newest system f.earlier)
      (Contains-append_right (next ∷ []) (moments_of system f.earlier) (newest system f.earlier) (newest_among system f.earlier)))),
  at next (older_among system f.later (next ∷ f.earlier) next (newest_among system (next ∷ f.earlier))),
)
  where
    at : (s : State) → Contains (moments_of system (f.later ++ next ∷ f.earlier)) s → Contains (moments_of system past) s
    at s h = subst (λ p. Contains (moments_of system p) s) (sym f.is) h

-- the system is, but for its open files, in a state of this past
pub record IsAmong (system : State) (past : List State) (now : State) : Type 0 where
  pub moment : State
  pub among : Contains (moments_of system past) moment
  pub same : IsSameOutside moment now

pub failed_among : (unit : ProgramUnit) (system : State) (bound : ℕ) (old : Drawn) (now_ : State) (new : Drawn)
    (f : WalkFails unit system bound old now_ new) → IsAmong system f.last.past now_
failed_among unit system bound old now_ new f = elim (torn_is_before_or_behind_all c.number c.words c.answer before f.next now_ c.is f.torn) [
  | inl same ↦ at before (older_among system f.later (f.next ∷ f.earlier) before
      (Contains-append_right (f.next ∷ []) (moments_of system f.earlier) before (newest_among system f.earlier))) same
  | inr same ↦ at f.next (older_among system f.later (f.next ∷ f.earlier) f.next (newest_among system (f.next ∷ f.earlier))) same.1
]
  where
    before : State
    before = newest system f.earlier

    chained : IsChained system f.last
    chained = walk_is_chained unit system bound old.source old.drawn f.ending f.last f.turns f.drawn f.order f.is

    called : AreCalled system (f.next ∷ f.earlier)
    called = older_called system f.later (f.next ∷ f.earlier) (subst (AreCalled system) f.past chained.0)

    c : IsCalled before f.next
    c = called.0

    at : (s : State) → Contains (moments_of system (f.later ++ f.next ∷ f.earlier)) s → IsSameOutside s now_ → IsAmong system f.last.past now_
    at s among same = record { moment = s; among = subst (λ past. Contains (moments_of system past) s) (sym f.past) among; same = same }
