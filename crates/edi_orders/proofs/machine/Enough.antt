-- A search that has followed one stint of each ready process with a kernel has found all endings of every order of steps, too: none of its stints was
-- cut, so with as many turns as it takes instructions none of the meaning is.
use Rattle.std.proofs.Common.{◌≡◌, inl, inr, ℕ, zero, suc, Bool, List, [], ◌∷◌, refl, sym, ap, subst, ◌∙◌, arith}
use Rattle.edi_calls.specs.Names.{Name}
use Rattle.edi_calls.specs.Outcome as outcome
use Rattle.edi_calls.specs.Outcome.{Ending}
use Rattle.edi_calls.specs.Ready.{stays}
use Rattle.edi_calls.specs.State.{State}
use Rattle.edi_meaning.specs.Step as source
use Rattle.edi_meaning.specs.Step.{Processes, start}
use Rattle.edi_target.proofs.segments.Families.{Sound}
use Rattle.edi_target.specs.Mach as target
use Rattle.edi_target.specs.Mach.{Machine}
use Rattle.edi_kernel.specs.Stints as stints
use Rattle.edi_follows.specs.places.Coded.{Coded}
use Rattle.edi_follows.specs.places.Lands.{Taken, StepClaim, StepsQueue, StartClaim, Begins}
use Rattle.edi_disjoint.specs.steps.Inner.{InnerStepsKeep}
use Rattle.edi_explored.specs.Covered.{SameButTurns, Reordered, Report, BeginsWith, endings, tells_shown}
use Rattle.edi_explored.specs.Stint.{over, stint, stint_after}
use Rattle.edi_explored.specs.machine.Machines.{ServesAs, CoversBy, IsStart, Covers}
use Rattle.edi_explored.specs.machine.PutBacks.{KeepsBy, IsFollowed, FollowedPutBacks}
use Rattle.edi_explored.specs.machine.Twins.{Twin, StintedTwins}
use Rattle.edi_orders.specs.Orders.{AreUncut, AreCalm, AreAllBySteps}
use Rattle.edi_orders.proofs.machine.Cuts.{few_turns}
use Rattle.edi_explored.proofs.machine.Landing.{LandsAs, stint_lands}
use Rattle.edi_explored.proofs.machine.PutBacks.{IsOver, determined, put_backs_followed, serves_twin}
use Rattle.edi_explored.proofs.machine.Tied.{with_turns, with_turns_left, related_turns, kept_turns, queue_turns, machines_followed}
use Rattle.edi_explored.proofs.machine.Twins.{twins_stint}
use Rattle.edi_orders.proofs.machine.Turned.{first_is, enters_twin}
use Rattle.edi_orders.proofs.Uncut.{uncut_stints_are_whole}
use Rattle.edi_orders.proofs.Walking.{stints_are_enough}

-- how many turns a step leaves
abbrev turns_of : source.Stepped → ℕ
turns_of (source.went t next quiet) = t.world.turns
turns_of (source.ended e system turns) = turns

module _ (g : Coded) (system : State) (report : Report) (V : Type 0) (begin : V) (PutBack : V → Machine → List Name → Type 0) (Has : ℕ → V → Type 0)
    (f : FollowedPutBacks g system report V begin PutBack Has) (claim : StepClaim g) (queues : StepsQueue) (starts : StartClaim g) where
  abbrev told : Bool
  told = tells_shown report

  abbrev Keeps : V → Machine → List Name → Type 0
  Keeps v t names = KeepsBy g system report V begin PutBack Has v t names

  abbrev pub Cover : V → Processes → List Name → Type 0
  Cover v s names = Covers g system report V begin Keeps Has v s names

  abbrev Known : ℕ → List Name → stints.Stint → Type 0
  Known n rest x = IsFollowed g system report V begin PutBack Has n rest x

  -- with some number of turns the stint of p from here is not cut
  abbrev Uncut : Processes → Name → Type 0
  Uncut s p =
      (t : Processes) × SameButTurns s t × ((steps : ℕ) (shown : List ℕ) → stint g.unit steps t p ≡ over outcome.turns shown → ⊥)

  -- beside a stint that is known another one has ended, too
  ended_too : (n : ℕ) (rest : List Name) (x y : stints.Stint) → Known n rest x → StintedTwins told x y → IsOver y
  ended_too n rest stints.unfinished y k a = absurd k
  ended_too n rest (stints.over d v) stints.unfinished k a = absurd (k.0 a)
  ended_too n rest (stints.over d v) (stints.switched u ps) k a = tt
  ended_too n rest (stints.over d v) (stints.over e u) k a = tt
  ended_too n rest (stints.switched v ps) stints.unfinished k a = absurd a
  ended_too n rest (stints.switched v ps) (stints.switched u qs) k a = tt
  ended_too n rest (stints.switched v ps) (stints.over e u) k a = tt

  -- and is not cut, where it has more turns than instructions
  not_cut : (n steps : ℕ) (u q : Machine) (p : Name) (rest others : List Name) → Known n rest (stints.stint g.fetched steps u p rest) → Twin told u q →
      Reordered rest others → q.turns ≡ suc steps → (k : ℕ) (y : Machine) → stints.stint g.fetched k q p others ≡ stints.over outcome.turns y → ⊥
  not_cut n steps u q p rest others known twin r turns k y e =
      let ended : IsOver (stints.stint g.fetched steps q p others) =
      ended_too n rest (stints.stint g.fetched steps u p rest) (stints.stint g.fetched steps q p others) known
      (twins_stint told g.fetched steps u q p rest others twin r.members) in
      let same : stints.stint g.fetched steps q p others ≡ stints.over outcome.turns y = determined g steps k q p others ended (subst IsOver (sym e) tt) ∙ e in
      absurd (omega (arith, few_turns g.fetched steps q p others y same, turns))

  -- ---- between stints

  module _ (n : ℕ) (v : V) (s : Processes) (p : Name) (others : List Name) (h : Has (suc n) v)
      (c : CoversBy g system report V begin Keeps Has v s (p ∷ others)) where
    abbrev followed : (m : List ℕ) × ServesAs g c.keeps.machine m × (rest : List Name) × Reordered rest others × (steps : ℕ)
        × Known n rest (stints.stint g.fetched steps (record c.keeps.machine { memory = m }) p rest)
    followed =
        f.follows n v c.keeps.machine c.keeps.order p others h c.keeps.put (subst Sound c.keeps.other.activities c.kept.sound) c.keeps.reordered

    abbrev many : ℕ
    many = suc followed.4

    abbrev rich : Machine
    rich = with_turns_left c.machine many

    twin : Twin told c.keeps.machine rich
    twin = record {
      memory = c.keeps.other.memory;
      activities = c.keeps.other.activities;
      system = c.keeps.other.system;
      marks = sym (f.unmarked v c.keeps.machine c.keeps.order c.keeps.put);
    }

    abbrev served : Machine
    served = record rich { memory = followed.0 }

    taken : Taken g (with_turns s many) served p others []
    taken =
        let k = kept_turns g s c.machine many c.kept in
        record {
          related = serves_twin g told c.keeps.machine rich followed.0 twin followed.1 (with_turns s many) (related_turns g s c.machine many c.related);
          kept = record { coherent = k.coherent; sound = k.sound };
          queue = queue_turns s many (p ∷ others) c.queue;
          marks_agree = inl refl;
        }

    between : Uncut s p
    between = (with_turns s many, record { live = refl; store = refl; system = refl }, λ steps shown e. cut steps shown e)
      where
        cut : (steps : ℕ) (shown : List ℕ) → stint g.unit steps (with_turns s many) p ≡ over outcome.turns shown → ⊥
        cut steps shown e =
            let l : LandsAs g served p others (over outcome.turns shown) =
            subst (LandsAs g served p others) e (stint_lands g claim queues steps (with_turns s many) served p others [] taken) in
            not_cut n followed.4 (record c.keeps.machine { memory = followed.0 }) served p followed.2 others followed.5
            (record { memory = refl; activities = twin.activities; system = twin.system; marks = twin.marks }) followed.3 refl l.1.steps l.0 l.1.is

  -- ---- the first stint

  module _ (n : ℕ) (v : V) (s : Processes) (p : Name) (others : List Name) (h : Has (suc n) v)
      (c : IsStart g system report V begin Keeps Has v s (p ∷ others)) where
    abbrev entry : (bound : ℕ) × (t : Machine) × (target.entered (g.fetched 0) 0 g.unit.calls bound system ≡ target.went t stays) × (steps : ℕ)
        × Known n [] (stints.stint g.fetched steps t [] [])
    entry = f.entry n (subst (Has (suc n)) c.is h)

    begun : Begins g system (suc entry.3)
    begun = starts.begins system (suc entry.3)

    -- one turn was that of the entry
    left : begun.machine.turns ≡ suc entry.3
    left = begun.taken.related.turns ∙ sym (ap turns_of begun.stepped)

    first : Uncut s p
    first = (
      start g.unit system (suc (suc entry.3)),
      record { live = sym c.state.live; store = sym c.state.store; system = sym c.state.system },
      λ steps shown e. cut steps shown (sym (ap (stint g.unit steps (start g.unit system (suc (suc entry.3)))) (first_is p others c.alone)) ∙ e),
    )
      where
        cut : (steps : ℕ) (shown : List ℕ) → stint g.unit steps (start g.unit system (suc (suc entry.3))) [] ≡ over outcome.turns shown → ⊥
        cut zero shown e = absurd (cc)
        cut (suc k) shown e =
            let l : LandsAs g begun.machine [] [] (over outcome.turns shown) =
            subst (LandsAs g begun.machine [] []) (sym (ap (stint_after (λ u. stint g.unit k u [])) begun.stepped) ∙ e)
            (stint_lands g claim queues k begun.state begun.machine [] [] [] begun.taken) in
            not_cut n entry.3 entry.1 begun.machine [] [] [] entry.4
            (enters_twin told (g.fetched 0) g.unit.calls entry.0 (suc (suc entry.3)) system entry.1 begun.machine entry.2 begun.entered)
            (record { members = λ x. refl; once = λ o. o }) left l.1.steps l.0 l.1.is

  pub put_backs_uncut : AreUncut g.unit V Cover Has
  put_backs_uncut n v s p others h (inl c) = between n v s p others h c
  put_backs_uncut n v s p others h (inr c) = first n v s p others h c

-- ---- all orders of steps

module _ (g : Coded) (system : State) (es : List Ending) (V : Type 0) (begin : V) (PutBack : V → Machine → List Name → Type 0) (Has : ℕ → V → Type 0)
    (f : FollowedPutBacks g system (endings es) V begin PutBack Has) (claim : StepClaim g) (queues : StepsQueue) (starts : StartClaim g) where
  abbrev Kept : V → Machine → List Name → Type 0
  Kept v t names = KeepsBy g system (endings es) V begin PutBack Has v t names

  begins : BeginsWith g.unit system V (Cover g system (endings es) V begin PutBack Has f claim queues starts) begin
  begins bound = inr (record {
    is = refl;
    state = record { live = refl; store = refl; system = refl };
    alone = record { members = λ p. refl; once = λ o. o };
  })

  pub put_backs_enough : ((n : ℕ) → Has n begin) → AreCalm es → InnerStepsKeep g.unit system → AreAllBySteps g.unit system es
  put_backs_enough all calm inner =
      stints_are_enough V (Cover g system (endings es) V begin PutBack Has f claim queues starts) Has g.unit system es begin
      (machines_followed g system (endings es) V begin Kept Has (put_backs_followed g system (endings es) V begin PutBack Has f) claim queues starts)
      begins all
      (uncut_stints_are_whole g.unit V (Cover g system (endings es) V begin PutBack Has f claim queues starts) Has
      (put_backs_uncut g system (endings es) V begin PutBack Has f claim queues starts)) calm inner
