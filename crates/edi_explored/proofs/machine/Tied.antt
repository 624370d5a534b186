-- Who has followed machines has followed the states of the meaning that are related to them.
use Rattle.std.proofs.Common.{◌≡◌, inl, inr, ℕ, zero, suc, ◌<◌, Bool, true, false, ◌||◌, if◌then◌else◌, List, [], ◌∷◌, ◌++◌, Some, refl, sym, ap, subst, ◌∙◌, arith}
use Rattle.edi_calls.specs.State.{State}
use Rattle.edi_calls.specs.Names.{Name, same, find}
use Rattle.edi_calls.specs.Outcome as outcome
use Rattle.edi_calls.specs.Outcome.{Ending}
use Rattle.edi_calls.specs.Ready.{has, stays, joins}
use Rattle.edi_calls.proofs.Tables.{same-refl}
use Rattle.edi_calls.proofs.Names.{some_is}
use Rattle.edi_unit.specs.Tree.{ProgramUnit}
use Rattle.edi_meaning.specs.Evaluation.{gives, ◌>>=◌, turn, turn_from}
use Rattle.edi_meaning.specs.Whole.{levels_of}
use Rattle.edi_meaning.specs.Step as source
use Rattle.edi_meaning.specs.Step.{Process, Processes, goes, again, is_quiet, local_step, kernel, step_of, back, ready, at_when, start}
use Rattle.edi_meaning.specs.Select.{is_standstill}
use Rattle.edi_meaning.proofs.Lasting.{IsOwn}
use Rattle.edi_meaning.proofs.Work.{Falls, standing_size, work_size, step_falls}
use Rattle.std.specs.Prelude.{⊤, ◌+◌, Option, None}
use Rattle.edi_target.proofs.segments.Families.{Sound}
use Rattle.edi_target.specs.Mach as target
use Rattle.edi_target.specs.Mach.{Machine}
use Rattle.edi_kernel.specs.Stints as stints
use Rattle.edi_follows.specs.places.Coded.{Coded}
use Rattle.edi_follows.specs.places.Related.{Related, Kept, Queue}
use Rattle.edi_follows.specs.places.Lands.{LandsTested, Lands, StepClaim, StepsQueue, StartClaim}
use Rattle.edi_explored.specs.machine.Alike.{Other}
use Rattle.edi_explored.specs.Stint.{Stinted, goes_on, behind, over, stint, stint_after}
use Rattle.edi_explored.specs.Covered.{SameButTurns, Reordered, CannotGo, Report, Tells, tells_shown, IsCutOrTold, AllTold, AllToldBelow, Followed, BeginsWith}
use Rattle.edi_explored.specs.Within.{MakeFewer}
use Rattle.edi_explored.proofs.Induction.{followed_below, followed_all}
use Rattle.edi_explored.proofs.Fewer.{followed_fewer}
use Rattle.edi_explored.specs.machine.Machines.{Fails, ServesAs, FollowedFrom, FollowedMachines, CoversBy, IsStart, Covers}
use Rattle.edi_explored.proofs.machine.Calls.{nothing_shown}
use Rattle.edi_explored.proofs.machine.Landing.{none, Comes, SwitchesTo, LandsAs, passed, stepped, stint_lands}

-- ---- other turns

-- the state with so many turns left
abbrev pub with_turns : Processes → ℕ → Processes
with_turns s n = record { live = s.live; world = record { store = s.world.store; system = s.world.system; turns = n } }

is_with_turns : (s t : Processes) → SameButTurns s t → t ≡ with_turns s t.world.turns
is_with_turns s t e = λ i. record { live = e.live i; world = record { store = e.store i; system = e.system i; turns = t.world.turns } }

-- the machine with so many turns left, where nobody is marked
abbrev pub with_turns_left : Machine → ℕ → Machine
with_turns_left t n = record { memory = t.memory; activities = t.activities; marks = []; turns = n; system = t.system }

other_turns : (told : Bool) (t : Machine) (n : ℕ) → Other told t (with_turns_left t n)
other_turns told t n = record {
  memory = refl;
  activities = refl;
  system = record { input = refl; slots = refl; blocks = refl; found = refl; buffer = refl; shown = nothing_shown told t.system.shown };
}

module _ (g : Coded) (s : Processes) (t : Machine) (n : ℕ) where
  pub related_turns : Related g s t → Related g (with_turns s n) (with_turns_left t n)
  related_turns r = record { first = r.first; words = r.words; same_names = r.same_names; system = r.system; turns = refl }

  pub kept_turns : Kept s t → Kept (with_turns s n) (with_turns_left t n)
  kept_turns k = record {
    coherent = record {
      family = record {
        proper = record { owned = k.coherent.family.proper.owned; fresh = k.coherent.family.proper.fresh; bare = k.coherent.family.proper.bare };
        family = k.coherent.family.family;
      };
      due = k.coherent.due;
      refers = k.coherent.refers;
    };
    sound = k.sound;
  }

-- any other machine that programs cannot tell apart, and a state for it
abbrev pub as_state : Processes → Machine → Processes
as_state s q = record { live = s.live; world = record { store = s.world.store; system = record { now = q.system; past = s.world.system.past }; turns = q.turns } }

module _ (told : Bool) (g : Coded) (s : Processes) (t q : Machine) (o : Other told t q) where
  pub related_other : Related g s t → Related g (as_state s q) q
  related_other r =
      subst (λ m. Related g (as_state s q) (record { memory = m; activities = q.activities; marks = q.marks; turns = q.turns; system = q.system })) (sym o.memory)
      (subst (λ a. Related g (as_state s q) (record { memory = t.memory; activities = a; marks = q.marks; turns = q.turns; system = q.system })) (sym o.activities)
      (record { first = r.first; words = r.words; same_names = r.same_names; system = refl; turns = refl }))

  kept_other : Kept s t → Kept (as_state s q) q
  kept_other k = record {
    coherent = record {
      family = record {
        proper = record { owned = k.coherent.family.proper.owned; fresh = k.coherent.family.proper.fresh; bare = k.coherent.family.proper.bare };
        family = k.coherent.family.family;
      };
      due = k.coherent.due;
      refers = k.coherent.refers;
    };
    sound = subst Sound (sym o.activities) k.sound;
  }

pub queue_turns : (s : Processes) (n : ℕ) (names : List Name) → Queue s names → Queue (with_turns s n) names
queue_turns s n names q = record { once = q.once; holds = q.holds; all = q.all }

queue_other : (s : Processes) (names other : List Name) → Reordered names other → Queue s names → Queue s other
queue_other s names other r q = record {
  once = r.once q.once;
  holds = λ p h. q.holds p (sym (r.members p) ∙ h);
  all = λ p m. r.members p ∙ q.all p m;
}

-- ---- a step of who cannot go

cannot_step : (unit : ProgramUnit) (s : Processes) (p : Name) (n : ℕ) → s.world.turns ≡ suc n → CannotGo unit s p →
    (t : Processes) × (source.step unit s p ≡ source.went t (joins (p ∷ [])) true)
cannot_step unit s p n turns c =
    let q : Process = c.process in (
      back s p (record q { standing = at_when c.clauses c.position }) (record s.world { turns = n }),
      ap (step_of unit s p) c.found
          ∙ ap (λ x. kernel unit s p q (local_step unit p q.size x q.work s.world)) c.standing
          ∙ ap (λ r. kernel unit s p q (r >>= λ ran w. if ran then gives (goes q.work) w else turn w
          (gives (again c.clauses c.position (is_quiet c.clauses) q.work)))) (c.none (levels_of unit p q.size s.world.turns) s.world refl)
          ∙ ap (λ m. kernel unit s p q (turn_from m s.world (gives (again c.clauses c.position (is_quiet c.clauses) q.work)))) turns
          ∙ ap (λ b. source.went (back s p (record q { standing = at_when c.clauses c.position }) (record s.world { turns = n })) (joins (p ∷ [])) b) c.quiet,
    )

-- ---- a stint of the meaning never ends by a standstill, which is for the kernel to see

abbrev OwnEnds : source.Stepped → Type 0
OwnEnds (source.went t next quiet) = ⊤
OwnEnds (source.ended ending u n) = IsOwn ending

abbrev OwnOver : Stinted → Type 0
OwnOver (over ending shown) = IsOwn ending
OwnOver goes_on = ⊤
OwnOver (behind t joined quiet) = ⊤

own_step : (unit : ProgramUnit) (s : Processes) (p : Name) → OwnEnds (source.step unit s p)
own_step unit s p = go (find s.live p) refl
  where
    own : (size turns : ℕ) (x : source.Stepped) → Falls size turns p x → OwnEnds x
    own size turns (source.went t next quiet) h = tt
    own size turns (source.ended e u n) h = h

    go : (x : Option Process) → find s.live p ≡ x → OwnEnds (source.step unit s p)
    go None e = subst (λ x. OwnEnds (step_of unit s p x)) (sym e) tt
    go (Some q) e = own (standing_size q.standing + work_size q.work) s.world.turns (source.step unit s p) (step_falls unit s p q e)

own_over : (unit : ProgramUnit) (n : ℕ) (s : Processes) (p : Name) → OwnOver (stint unit n s p)
own_over unit zero s p = tt
own_over unit (suc n) s p = go n (λ t. own_over unit n t p) (source.step unit s p) (own_step unit s p)
  where
    go : (n : ℕ) → ((t : Processes) → OwnOver (stint unit n t p)) → (x : source.Stepped) → OwnEnds x → OwnOver (stint_after (λ t. stint unit n t p) x)
    go n ih (source.went t stays quiet) h = ih t
    go n ih (source.went t (joins ps) quiet) h = tt
    go n ih (source.ended e u m) h = h

-- ---- the tie

module _ (g : Coded) (system : State) (report : Report) (V : Type 0) (begin : V) (Keeps : V → Machine → List Name → Type 0) (Has : ℕ → V → Type 0)
    (f : FollowedMachines g system report V begin Keeps Has) (claim : StepClaim g) (queues : StepsQueue) (starts : StartClaim g) where
  abbrev Cover : V → Processes → List Name → Type 0
  Cover v s names = Covers g system report V begin Keeps Has v s names

  abbrev From : ℕ → Machine → Name → List Name → Type 0
  From n t p others = FollowedFrom g system report V begin Keeps Has n t p others

  -- what was followed of the machine is followed of the meaning
  reports_from : (n : ℕ) (t : Machine) (p : Name) (others : List Name) (steps : ℕ) (s : Processes) (ending : Ending) (shown : List ℕ) → From n t p others →
      LandsAs g t p others (stint g.unit steps s p) → stint g.unit steps s p ≡ over ending shown → IsCutOrTold report ending shown
  reports_from n t p others steps s ending shown k l e =
      let c : LandsAs g t p others (over ending shown) = subst (LandsAs g t p others) e l in
      subst (IsCutOrTold report ending) c.2 (k.reports c.1.steps ending c.0 c.1.is (λ a. subst IsOwn a (subst OwnOver e (own_over g.unit steps s p))))

  leads_from : (n : ℕ) (t : Machine) (p : Name) (others : List Name) (x : Stinted) (s : Processes) (joined : List Name) → From n t p others →
      LandsAs g t p others x → x ≡ behind s joined false → (w : V) × Has n w × Cover w s (others ++ joined)
  leads_from n t p others x s joined k l e =
      let c : SwitchesTo g t p others s joined = subst (LandsAs g t p others) e l in
      let r = k.leads c.comes.steps c.machine joined c.comes.is c.unmarked in (
        r.0,
        r.1,
        inl (record {
          machine = record c.machine { memory = r.2 };
          related = r.3 s c.related;
          kept = record { coherent = c.kept.coherent; sound = c.kept.sound };
          queue = c.queue;
          keeps = r.4;
          unmarked = c.unmarked;
        }),
      )

  -- ---- between stints

  lands : (v : V) (s : Processes) (p : Name) (others : List Name) (steps : ℕ) → (c : CoversBy g system report V begin Keeps Has v s (p ∷ others)) →
      (m : List ℕ) → ServesAs g c.machine m → LandsAs g (record c.machine { memory = m }) p others (stint g.unit steps s p)
  lands v s p others steps c m serves =
      stint_lands g claim queues steps s (record c.machine { memory = m }) p others []
      (record {
        related = serves s c.related;
        kept = record { coherent = c.kept.coherent; sound = c.kept.sound };
        queue = c.queue;
        marks_agree = inl c.unmarked;
      })

  forgets_by : (v : V) (s t : Processes) (names other : List Name) → CoversBy g system report V begin Keeps Has v s names → SameButTurns s t →
      Reordered names other → Cover v t other
  forgets_by v s t names other c e r =
      subst (λ x. Cover v x other) (sym (is_with_turns s t e)) (inl (record {
        machine = with_turns_left c.machine t.world.turns;
        related = related_turns g s c.machine t.world.turns c.related;
        kept = kept_turns g s c.machine t.world.turns c.kept;
        queue = queue_turns s t.world.turns other (queue_other s names other r c.queue);
        keeps = f.forgets v c.machine (with_turns_left c.machine t.world.turns) names other c.keeps (other_turns (tells_shown report) c.machine t.world.turns) r;
        unmarked = refl;
      }))

  -- who cannot go fails in the machine, too
  fails : (v : V) (s : Processes) (names : List Name) (c : CoversBy g system report V begin Keeps Has v s names) (q : Machine) →
      Other (tells_shown report) c.machine q → q.marks ≡ [] → (n : ℕ) → q.turns ≡ suc n → (m : List ℕ) → ServesAs g q m → (p : Name) (others : List Name) →
      Reordered names (p ∷ others) → CannotGo g.unit s p → Fails g (record q { memory = m }) p others
  fails v s names c q o unmarked n turns m serves p others r stuck = go (is_standstill true (p ∷ []) (p ∷ others)) here
    where
      t : Machine
      t = record q { memory = m }

      s' : Processes
      s' = as_state s q

      kept : Kept s' q
      kept = kept_other (tells_shown report) g s c.machine q o c.kept

      step : (u : Processes) × (source.step g.unit s' p ≡ source.went u (joins (p ∷ [])) true)
      step = cannot_step g.unit s' p n turns (record {
        process = stuck.process;
        found = stuck.found;
        clauses = stuck.clauses;
        position = stuck.position;
        standing = stuck.standing;
        quiet = stuck.quiet;
        none = stuck.none;
      })

      here : LandsTested g (none g) (is_standstill true (p ∷ []) (p ∷ others)) t s'.world.system.past p others (p ∷ []) step.0 (joins (p ∷ []))
      here = subst (Lands g (none g) t s'.world.system.past p others []) step.1 (claim (none g) s' t p others []
          (record {
            related = serves s' (related_other (tells_shown report) g s c.machine q o c.related);
            kept = record { coherent = kept.coherent; sound = kept.sound };
            queue = record {
              once = (queue_other s names (p ∷ others) r c.queue).once;
              holds = (queue_other s names (p ∷ others) r c.queue).holds;
              all = (queue_other s names (p ∷ others) r c.queue).all;
            };
            marks_agree = inl unmarked;
          }) (λ a o w. o))

      go : (b : Bool) → LandsTested g (none g) b t s'.world.system.past p others (p ∷ []) step.0 (joins (p ∷ [])) → Fails g t p others
      go true h =
          let k : Comes g t p others (stints.over outcome.standstill h.ends.machine) = passed g h.ends.steps t s'.world.system.past p others h.ends.before h.ends.since _ h.ends.passes
          (stepped g h.ends.before p others (target.ended outcome.standstill h.ends.machine) h.ends.is) in
          (k.steps, h.ends.machine, inl k.is)
      go false h =
          let k : Comes g t p others (stints.switched h.machine (p ∷ [])) = passed g h.steps t s'.world.system.past p others h.before h.since _ h.passes
          (stepped g h.before p others (target.went h.machine (joins (p ∷ []))) h.is) in
          (k.steps, h.machine, inr (k.is, h.same_marks))

  stands_by : (n : ℕ) (v : V) (s : Processes) (names : List Name) → Has (suc n) v → CoversBy g system report V begin Keeps Has v s names →
      ((p : Name) → has names p ≡ true → CannotGo g.unit s p) → Tells report outcome.standstill s.world.system.now.shown
  stands_by n v s names h c stuck =
      subst (Tells report outcome.standstill) (ap (λ (y : State). y.shown) c.related.system)
      (f.stands n v c.machine names h c.keeps c.kept.sound
      (λ q o unmarked some m serves p others r. with_some q o unmarked m serves p others r q.turns refl some))
    where
      with_some : (q : Machine) → Other (tells_shown report) c.machine q → q.marks ≡ [] → (m : List ℕ) → ServesAs g q m → (p : Name) (others : List Name) →
          Reordered names (p ∷ others) → (k : ℕ) → q.turns ≡ k → 0 < k → Fails g (record q { memory = m }) p others
      with_some q o unmarked m serves p others r zero e some = absurd (omega (arith, some))
      with_some q o unmarked m serves p others r (suc k) e some =
          fails v s names c q o unmarked k e m serves p others r (stuck p (sym (r.members p) ∙ ap (λ b. b || has others p) (same-refl p)))

  -- ---- the first stint

  -- who is alone in a list
  alone_is : (p : Name) (others : List Name) → Reordered ([] ∷ []) (p ∷ others) → (p ≡ []) × (others ≡ [])
  alone_is p others r = (first, rest others (r.once (refl, tt)).0 (λ x. r.members x))
    where
      only : (x : Name) → has ([] ∷ []) x ≡ true → x ≡ []
      only [] h = refl
      only (y ∷ ys) h = absurd (cc)

      first : p ≡ []
      first = only p (sym (r.members p) ∙ ap (λ b. b || has others p) (same-refl p))

      rest : (l : List Name) → has l p ≡ false → ((x : Name) → has (p ∷ l) x ≡ has ([] ∷ []) x) → l ≡ []
      rest [] o m = refl
      rest (x ∷ xs) o m =
          let there : has (x ∷ xs) x ≡ true = ap (λ b. b || has xs x) (same-refl x) in
          let one : x ≡ [] = only x (sym (m x) ∙ ap (λ b. same x p || b) there ∙ right (same x p)) in
          let again : has (x ∷ xs) p ≡ true = ap (has (x ∷ xs)) (first ∙ sym one) ∙ there in
          let c : false ≡ true = sym o ∙ again in
          absurd (cc)
        where
          right : (b : Bool) → (b || true) ≡ true
          right true = refl
          right false = refl

  -- the first stint, with so many turns
  reports_first : (n bound steps : ℕ) (ending : Ending) (shown : List ℕ) → Has (suc n) begin →
      stint g.unit steps (start g.unit system bound) [] ≡ over ending shown → IsCutOrTold report ending shown
  reports_first n bound zero ending shown h e = absurd (cc)
  reports_first n zero (suc k) ending shown h e = inl (cut system.shown e)
    where
      cut : (first : List ℕ) → over outcome.turns first ≡ over ending shown → ending ≡ outcome.turns
      cut first e = cc
  reports_first n (suc j) (suc k) ending shown h e =
      let b = starts.begins system j in
      reports_from n b.machine [] [] k b.state ending shown (f.entry n (suc j) b.machine h b.entered)
      (stint_lands g claim queues k b.state b.machine [] [] [] b.taken) (sym (ap (stint_after (λ u. stint g.unit k u [])) b.stepped) ∙ e)

  leads_first : (n bound steps : ℕ) (s : Processes) (joined : List Name) → Has (suc n) begin →
      stint g.unit steps (start g.unit system bound) [] ≡ behind s joined false → (w : V) × Has n w × Cover w s joined
  leads_first n bound zero s joined h e = absurd (cc)
  leads_first n zero (suc k) s joined h e = absurd (apart system.shown e)
    where
      apart : (first : List ℕ) → over outcome.turns first ≡ behind s joined false → ⊥
      apart first e = absurd (cc)
  leads_first n (suc j) (suc k) s joined h e =
      let b = starts.begins system j in
      leads_from n b.machine [] [] (stint g.unit k b.state []) s joined (f.entry n (suc j) b.machine h b.entered)
      (stint_lands g claim queues k b.state b.machine [] [] [] b.taken) (sym (ap (stint_after (λ u. stint g.unit k u [])) b.stepped) ∙ e)

  is_begun : (v : V) (s : Processes) (names : List Name) → IsStart g system report V begin Keeps Has v s names → s ≡ start g.unit system s.world.turns
  is_begun v s names c = is_with_turns (start g.unit system 0) s c.state

  -- the first process can go
  may_begin : (v : V) (s : Processes) (names : List Name) → IsStart g system report V begin Keeps Has v s names → CannotGo g.unit s [] → ⊥
  may_begin v s names c stuck =
      let p : ready ≡ at_when stuck.clauses stuck.position =
      ap (λ (q : Process). q.standing) (some_is (sym (ap (λ l. find l []) c.state.live) ∙ stuck.found)) ∙ stuck.standing in
      absurd (cc)

  -- ---- all of it

  pub machines_followed : Followed g.unit report V (Covers g system report V begin Keeps Has) Has
  machines_followed = record {
    forgets = λ v s t names other c e r. elim c [
      | inl c ↦ forgets_by v s t names other c e r
      | inr c ↦ inr (record {
        is = c.is;
        state = record { live = e.live ∙ c.state.live; store = e.store ∙ c.state.store; system = e.system ∙ c.state.system };
        alone = record { members = λ p. r.members p ∙ c.alone.members p; once = λ o. r.once (c.alone.once o) };
      })
    ];
    reports = λ n v s p others steps ending shown h c e. elim c [
      | inl c ↦
          let r = f.follows n v c.machine p others h c.keeps c.unmarked c.kept.sound in
          reports_from n (record c.machine { memory = r.0 }) p others steps s ending shown r.2 (lands v s p others steps c r.0 r.1) e
      | inr c ↦ reports_first n s.world.turns steps ending shown (subst (Has (suc n)) c.is h)
          (sym (ap (λ x. stint g.unit steps x []) (is_begun v s (p ∷ others) c)) ∙ ap (stint g.unit steps s) (sym (alone_is p others c.alone).0) ∙ e)
    ];
    leads = λ n v s t p others joined steps h c e. elim c [
      | inl c ↦
          let r = f.follows n v c.machine p others h c.keeps c.unmarked c.kept.sound in
          leads_from n (record c.machine { memory = r.0 }) p others (stint g.unit steps s p) t joined r.2 (lands v s p others steps c r.0 r.1) e
      | inr c ↦
          let r : (w : V) × Has n w × Cover w t joined = leads_first n s.world.turns steps t joined (subst (Has (suc n)) c.is h)
          (sym (ap (λ x. stint g.unit steps x []) (is_begun v s (p ∷ others) c)) ∙ ap (stint g.unit steps s) (sym (alone_is p others c.alone).0) ∙ e) in
          (r.0, r.1, subst (λ l. Cover r.0 t (l ++ joined)) (sym (alone_is p others c.alone).1) r.2)
    ];
    stands = λ n v s names h c stuck. elim c [
      | inl c ↦ stands_by n v s names h c stuck
      | inr c ↦ absurd (may_begin v s names c (stuck [] (c.alone.members [])))
    ];
  }

  begins : BeginsWith g.unit system V (Covers g system report V begin Keeps Has) begin
  begins bound = inr (record {
    is = refl;
    state = record { live = refl; store = refl; system = refl };
    alone = record { members = λ p. refl; once = λ o. o };
  })

  -- THE SEARCH OVER MACHINES HAS FOUND ALL
  pub machines_below : (most : ℕ) → Has most begin → AllToldBelow most g.unit system report
  machines_below most h = followed_below g.unit system report V (Covers g system report V begin Keeps Has) Has begin most machines_followed begins h

  pub machines_all : ((n : ℕ) → Has n begin) → AllTold g.unit system report
  machines_all h = followed_all g.unit system report V (Covers g system report V begin Keeps Has) Has begin machines_followed begins h

  -- and no execution makes more moves, where it has nothing for no move
  pub machines_fewer : ((v : V) → Has zero v → ⊥) → (most : ℕ) → Has most begin → MakeFewer most g.unit system
  machines_fewer nothing most h = followed_fewer g.unit system report V (Covers g system report V begin Keeps Has) Has begin most machines_followed nothing begins h
