-- A taken process changes no words but its own until the kernel takes the next, at no time between.
use Rattle.std.proofs.Common.{◌≡◌, ℕ, zero, suc, ◌+◌, ◌<◌, ◌≤◌, ◌⊎◌, inl, inr, Bool, true, false, ◌||◌, List, [], ◌∷◌, ◌++◌, Option, Some, None, refl, sym}
use Rattle.std.proofs.Common.{subst, ap, ◌∙◌, arith}
use Rattle.edi_calls.specs.Choice.{Choices}
use Rattle.edi_calls.specs.Names.{Name, find}
use Rattle.edi_calls.specs.Outcome as outcome
use Rattle.edi_calls.specs.Outcome.{Ending}
use Rattle.edi_calls.specs.Ready.{has, Next, stays, joins, taking, take_next}
use Rattle.edi_calls.specs.State.{State, Traced}
use Rattle.edi_calls.proofs.Tables.{same-refl}
use Rattle.edi_meaning.specs.Step as source
use Rattle.edi_meaning.specs.Step.{Process, Processes}
use Rattle.edi_meaning.specs.Permitted.{is_running_process}
use Rattle.edi_meaning.specs.Select.{marked, is_standstill}
use Rattle.edi_meaning.proofs.Sound.{EachTaken, each_next}
use Rattle.edi_meaning.proofs.Work.{Falls, standing_size, work_size, step_falls}
use Rattle.edi_target.specs.Memory.{word}
use Rattle.edi_target.specs.Mach as target
use Rattle.edi_target.specs.Mach.{Machine, OwnWords}
use Rattle.edi_target.specs.Moments.{news_at}
use Rattle.edi_target.specs.segments.Nested.{machine_after}
use Rattle.edi_follows.specs.places.Coded.{Coded}
use Rattle.edi_follows.specs.places.Related.{Related, Kept, MayStep, Queue}
use Rattle.edi_follows.specs.places.Lands.{step, Keeps, Passes, EndsSo, LandsNext, LandsTested, Lands, Taken, Outside, StepClaim, StepsCohere, QueueAfter, StepsQueue}
use Rattle.edi_follows.specs.places.Lands.{StartClaim, Begins, BeginsNot}
use Rattle.edi_follows.specs.Theorem.{Onward, IsTaken, at_start, after_switch}

went_machine : {m t : Machine} {a b : Next} → target.went m a ≡ target.went t b → m ≡ t
went_machine e = cc

goes_or_switches : {A : Type 0} {m t : Machine} {ps : List Name} → target.went m (joins ps) ≡ target.went t stays → A
goes_or_switches e = absurd (cc)

goes_or_ends : {A : Type 0} {m t : Machine} {e : Ending} → target.ended e m ≡ target.went t stays → A
goes_or_ends h = absurd (cc)

module _ (g : Coded) (outer : ℕ → Type 0) where
  keeps_all : (t u v : Machine) → Keeps g outer t u → Keeps g outer u v → Keeps g outer t v
  keeps_all t u v h k a o = k a o ∙ h a o

  -- from t the words are kept, and where others join there is a state of the meaning that agrees
  abbrev pub NextSeen : List Name → Machine → target.Stepped → Type 0
  NextSeen others t (target.ended e v) = Keeps g outer t v
  NextSeen others t (target.went v stays) = Keeps g outer t v
  NextSeen others t (target.went v (joins ps)) =
      Keeps g outer t v × ((s : Processes) × (marks : List Name) × Related g s v × Kept s v × Queue s (others ++ ps) × (v.marks ≡ marks))

  pub record Seen (p : Name) (others : List Name) (t u : Machine) : Type 0 where
    pub keeps : Keeps g outer t u
    pub next : NextSeen others t (step g u p others)

  next_before : (others : List Name) (t v : Machine) (x : target.Stepped) → Keeps g outer t v → NextSeen others v x → NextSeen others t x
  next_before others t v (target.ended e u) h k = keeps_all t v u h k
  next_before others t v (target.went u stays) h k = keeps_all t v u h k
  next_before others t v (target.went u (joins ps)) h k = (keeps_all t v u h k.0, k.1)

  seen_before : (p : Name) (others : List Name) (t v u : Machine) → Keeps g outer t v → Seen p others v u → Seen p others t u
  seen_before p others t v u h k = record { keeps = keeps_all t v u h k.keeps; next = next_before others t v (step g u p others) h k.next }

  -- a machine on the way lies on this stretch, or behind it
  split : (k : ℕ) (t : Machine) (past : List State) (p : Name) (others : List Name) (v : Machine) (now : List State) →
      Passes g outer k t past p others v now → (n : ℕ) (u : Machine) → Onward g.fetched n t p others u →
      Seen p others t u ⊎ ((j : ℕ) × Onward g.fetched j v p others u × Keeps g outer t v)
  split zero t past p others v now h n u o = inr
      (n, subst (λ x. Onward g.fetched n x p others u) h.0 o, (λ a c. ap (λ (x : Machine). word x.memory a) (sym h.0)))
  split (suc k) t past p others v now h zero u o =
      inl (subst (Seen p others t) o (record { keeps = λ a c. refl; next = subst (NextSeen others t) (sym h.1) h.2 }))
  split (suc k) t past p others v now h (suc n) u o =
      let same : o.0 ≡ h.0 = went_machine (sym o.1 ∙ h.1) in
      elim (split k h.0 (news_at g.fetched t p ++ past) p others v now h.3 n u (subst (λ x. Onward g.fetched n x p others u) same o.2)) [
        | inl r ↦ inl (seen_before p others t h.0 u h.2 r)
        | inr r ↦ inr (r.0, r.1, keeps_all t h.0 v h.2 r.2)
      ]

  -- where the stretch ends with a step that is not p's going on
  at_end : (t : Machine) (p : Name) (others : List Name) (v : Machine) (x : target.Stepped) → step g v p others ≡ x →
      ((w : Machine) → x ≡ target.went w stays → ⊥) → Keeps g outer t v → NextSeen others t x →
      (j : ℕ) (u : Machine) → Onward g.fetched j v p others u → Seen p others t u
  at_end t p others v x e never h k zero u o = subst (Seen p others t) o (record { keeps = h; next = subst (NextSeen others t) (sym e) k })
  at_end t p others v x e never h k (suc j) u o = absurd (never o.0 (sym e ∙ o.1))

  module _ (claim : StepClaim g) (cohere : StepsCohere) (queues : StepsQueue) (p : Name) (others : List Name) where
    abbrev pub Sees : Processes → List Name → Type 0
    Sees s marks = (t : Machine) → Taken g s t p others marks → Outside g t p outer → (n : ℕ) (u : Machine) → Onward g.fetched n t p others u →
        Seen p others t u

    of_end : (t : Machine) (past : List State) (ending : Ending) (system : Traced) (turns : ℕ) → EndsSo g outer t past p others ending system turns →
        (n : ℕ) (u : Machine) → Onward g.fetched n t p others u → Seen p others t u
    of_end t past ending system turns h n u o = elim (split h.steps t past p others h.before h.since h.passes n u o) [
      | inl r ↦ r
      | inr r ↦
          at_end t p others h.before (target.ended ending h.machine) h.is (λ w e. goes_or_ends e) r.2 (keeps_all t h.before h.machine r.2 h.keeps) r.0 u r.1
    ]

    of_next : (t : Machine) (past : List State) (marks : List Name) (s : Processes) (next : Next) (quiet : Bool) → Outside g t p outer →
        LandsNext g outer t past p others marks s next → QueueAfter p others (source.went s next quiet) → (next ≡ stays → Sees s marks) →
        (n : ℕ) (u : Machine) → Onward g.fetched n t p others u → Seen p others t u
    of_next t past marks s stays quiet out h q later n u o = elim (split h.steps t past p others h.machine s.world.system.past h.passes n u o) [
      | inl r ↦ r
      | inr r ↦
          seen_before p others t h.machine u r.2
          (later refl h.machine (record { related = h.related; kept = h.kept; queue = q; marks_agree = h.marks_agree })
          (λ a c own. out a c (h.own a own)) r.0 u r.1)
    ]
    of_next t past marks s (joins ps) quiet out h q later n u o = elim (split h.steps t past p others h.before h.since h.passes n u o) [
      | inl r ↦ r
      | inr r ↦
          at_end t p others h.before (target.went h.machine (joins ps)) h.is (λ w e. goes_or_switches e) r.2
          (keeps_all t h.before h.machine r.2 h.keeps, (s, marks, h.related, h.kept, q, h.same_marks)) r.0 u r.1
    ]

    of_tested : (b : Bool) (t : Machine) (past : List State) (marks : List Name) (s : Processes) (next : Next) (quiet : Bool) → Outside g t p outer →
        LandsTested g outer b t past p others marks s next → QueueAfter p others (source.went s next quiet) → (next ≡ stays → Sees s marks) →
        (n : ℕ) (u : Machine) → Onward g.fetched n t p others u → Seen p others t u
    of_tested true t past marks s next quiet out h q later n u o = of_end t past outcome.standstill s.world.system s.world.turns h.ends n u o
    of_tested false t past marks s next quiet out h q later n u o = of_next t past marks s next quiet out h q later n u o

    -- the step that follows takes a turn or leaves less work
    of_step : (t : Machine) (past : List State) (marks : List Name) (x : source.Stepped) (size turns : ℕ) → Falls size turns p x → Outside g t p outer →
        Lands g outer t past p others marks x → QueueAfter p others x →
        ((s : Processes) (marks : List Name) → s.world.turns < turns → Sees s marks) →
        ((s : Processes) (marks : List Name) (q : Process) → s.world.turns ≤ turns → find s.live p ≡ Some q →
        standing_size q.standing + work_size q.work < size → Sees s marks) →
        (n : ℕ) (u : Machine) → Onward g.fetched n t p others u → Seen p others t u
    of_step t past marks (source.ended ending system left) size turns f out h q less smaller n u o = of_end t past ending system left h n u o
    of_step t past marks (source.went s (joins ps) quiet) size turns f out h q less smaller n u o =
        of_tested (is_standstill quiet (marked quiet p marks) (p ∷ others)) t past (marked quiet p marks) s (joins ps) quiet out h q
        (λ e. absurd (never e)) n u o
      where
        never : joins ps ≡ stays → ⊥
        never e = cc
    of_step t past marks (source.went s stays quiet) size turns f out h q less smaller n u o =
        of_tested (is_standstill quiet (marked quiet p marks) (p ∷ others)) t past (marked quiet p marks) s stays quiet out h q
        (λ e. elim f [ inl l ↦ less s (marked quiet p marks) l | inr l ↦ smaller s (marked quiet p marks) l.1.0 l.0 l.1.1 l.1.2 ]) n u o

    one : (s : Processes) (marks : List Name) (q : Process) → find s.live p ≡ Some q →
        ((s' : Processes) (marks : List Name) → s'.world.turns < s.world.turns → Sees s' marks) →
        ((s' : Processes) (marks : List Name) (q' : Process) → s'.world.turns ≤ s.world.turns → find s'.live p ≡ Some q' →
        standing_size q'.standing + work_size q'.work < standing_size q.standing + work_size q.work → Sees s' marks) → Sees s marks
    one s marks q e less smaller t k out n u o =
        of_step t s.world.system.past marks (source.step g.unit s p) (standing_size q.standing + work_size q.work) s.world.turns (step_falls g.unit s p q e) out
        (claim outer s t p others marks k out) (queues g.unit s p others k.kept.coherent k.queue) less smaller n u o

    by_work : (turns : ℕ) → ((s : Processes) (marks : List Name) → s.world.turns < turns → Sees s marks) →
        (left : ℕ) (s : Processes) (marks : List Name) (q : Process) → find s.live p ≡ Some q → s.world.turns ≤ turns →
        standing_size q.standing + work_size q.work < left → Sees s marks
    by_work turns less zero s marks q e h k = absurd (omega arith)
    by_work turns less (suc left) s marks q e h k =
        one s marks q e (λ s' m l. less s' m (omega arith)) (λ s' m q' l found smaller. by_work turns less left s' m q' found (omega arith) (omega arith))

    by_turns : (turns : ℕ) (s : Processes) (marks : List Name) → s.world.turns < turns → Sees s marks
    by_turns zero s marks h t k out = absurd (omega arith)
    by_turns (suc turns) s marks h t k out = go (find s.live p) refl (k.queue.holds p (ap (λ b. b || has others p) (same-refl p)))
        (by_work turns (by_turns turns)) t k out
      where
        go : (o : Option Process) → find s.live p ≡ o → is_running_process o ≡ true →
            ((left : ℕ) (s : Processes) (marks : List Name) (q : Process) → find s.live p ≡ Some q → s.world.turns ≤ turns →
            standing_size q.standing + work_size q.work < left → Sees s marks) → Sees s marks
        go None e r counted = absurd (cc)
        go (Some q) e r counted = counted (suc (standing_size q.standing + work_size q.work)) s marks q e (omega arith) (omega arith)

    pub sees : (s : Processes) (marks : List Name) → Sees s marks
    sees s marks = by_turns (suc s.world.turns) s marks (omega arith)

-- ---- every process that is taken

module _ (g : Coded) (claim : StepClaim g) (start : StartClaim g) (cohere : StepsCohere) (queues : StepsQueue) (system : State) (choices : Choices) where
  abbrev pub Known : Machine → Name → List Name → Type 0
  Known m p others = (s : Processes) × (marks : List Name) × Taken g s m p others marks

  known_start : (bound : ℕ) (m : Machine) → target.entered (g.fetched 0) 0 g.unit.calls bound system ≡ target.went m stays → Known m [] []
  known_start zero m e = let b : BeginsNot g system = start.begins_not system in goes_or_ends (sym b.entered ∙ e)
  known_start (suc n) m e =
      let b : Begins g system n = start.begins system n in
      (b.state, [], subst (λ x. Taken g b.state x [] [] []) (went_machine (sym b.entered ∙ e)) b.taken)

  known_next : (m u t : Machine) (p q : Name) (others rest ps : List Name) (drawn drawn' : ℕ) (x : target.Stepped) → x ≡ target.went t (joins ps) →
      NextSeen g (λ a. OwnWords m p a → ⊥) others m x → take_next choices drawn (others ++ ps) ≡ taking q rest drawn' → Known t q rest
  known_next m u t p q others rest ps drawn drawn' x e h k =
      let n : NextSeen g (λ a. OwnWords m p a → ⊥) others m (target.went t (joins ps)) = subst (NextSeen g (λ a. OwnWords m p a → ⊥) others m) e h in
      let s : Processes = n.1.0 in (
        s,
        n.1.1,
        record {
          related = n.1.2;
          kept = n.1.3;
          queue = subst (EachTaken (MayStep s)) k (each_next (MayStep s) choices drawn (others ++ ps) n.1.4);
          marks_agree = inl n.1.5;
        },
      )

  pub known : (bound : ℕ) (m : Machine) (p : Name) (others : List Name) (drawn : ℕ) →
      IsTaken g.fetched 0 g.unit.calls system bound choices m p others drawn → Known m p others
  known bound m _ _ _ (at_start _ e) = known_start bound m e
  known bound t q rest drawn' (after_switch m u _ p _ others _ ps n drawn _ before o e k) =
      let was : Known m p others = known bound m p others drawn before in
      known_next m u t p q others rest ps drawn drawn' (step g u p others) e
      (sees g (λ a. OwnWords m p a → ⊥) claim cohere queues p others was.0 was.1 m was.2 (λ a n own. n own) n u o).next k

  keeps_after : (m : Machine) (p : Name) (others : List Name) (x : target.Stepped) → NextSeen g (λ a. OwnWords m p a → ⊥) others m x →
      Keeps g (λ a. OwnWords m p a → ⊥) m (machine_after x)
  keeps_after m p others (target.ended e v) h = h
  keeps_after m p others (target.went v stays) h = h
  keeps_after m p others (target.went v (joins ps)) h = h.0

  pub private_words : (bound : ℕ) (m : Machine) (p : Name) (others : List Name) (drawn : ℕ) →
      IsTaken g.fetched 0 g.unit.calls system bound choices m p others drawn →
      (n : ℕ) (u : Machine) → Onward g.fetched n m p others u → (a : ℕ) → (OwnWords m p a → ⊥) →
      (word u.memory a ≡ word m.memory a) × (word (machine_after (step g u p others)).memory a ≡ word m.memory a)
  private_words bound m p others drawn i n u o a foreign =
      let was : Known m p others = known bound m p others drawn i in
      let seen : Seen g (λ a. OwnWords m p a → ⊥) p others m u = sees g (λ a. OwnWords m p a → ⊥) claim cohere queues p others was.0 was.1 m was.2
      (λ a n own. n own) n u o in
      (seen.keeps a foreign, keeps_after m p others (step g u p others) seen.next a foreign)
