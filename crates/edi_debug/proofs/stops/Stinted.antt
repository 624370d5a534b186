-- A watched run, stint by stint: what has been seen so far, and what is to be seen from here, are what is seen from the start.
use Rattle.std.proofs.Common.{◌≡◌, ℕ, zero, suc, ◌<◌, List, [], ◌++◌, Option, Some, None, refl, sym, subst, ap, ◌∙◌, append_assoc, append-nil}
use Rattle.edi_calls.specs.Choice.{Choices}
use Rattle.edi_calls.specs.Names.{Name, find}
use Rattle.edi_calls.specs.Outcome as outcome
use Rattle.edi_calls.specs.Outcome.{Ending}
use Rattle.edi_calls.specs.Ready.{stays, joins, nobody, taking, take_next, children}
use Rattle.edi_calls.specs.State.{State}
use Rattle.edi_target.specs.Op.{Instruction}
use Rattle.edi_target.specs.Mach.{Machine, Stepped, went, ended, step, MachineRun, unfinished, finished, go_on, after_step, run, entered}
use Rattle.edi_kernel.specs.Moments.{Moment, moment_at, moment, moment_on, moment_after}
use Rattle.edi_kernel.specs.Stints.{switched, over, stint_after, stint, goes_with, followed}
use Rattle.edi_target.specs.Arrivals.{Arrived, arrived_in, arrived_at_end, arrived_after, arrived_on, arrived_next, arrived}
use Rattle.edi_target.proofs.Arrivals.{stays_ready}
use Rattle.edi_debug.specs.stops.Underway.{From, MomentOf, Seen, Underway}
use Rattle.edi_debug.proofs.stops.Forks.{fork_waits}

module _ (fetch : ℕ → Option (Instruction × ℕ)) (choices : Choices) where
  -- some number of instructions from here comes to this, and arrives so
  pub record Comes (m : Machine) (p : Name) (others : List Name) (drawn : ℕ) (r : MachineRun) (at : Option Moment) (ys : List Arrived) : Type 0 where
    pub steps : ℕ
    pub ran : run fetch choices steps m p others drawn ≡ r
    pub reaches : moment fetch choices steps m p others drawn ≡ at
    pub seen : arrived fetch choices steps m p others drawn ≡ ys

  -- an instruction with which p goes on arrives nowhere
  stays_comes : (m v : Machine) (p : Name) (others : List Name) (drawn : ℕ) (r : MachineRun) (at : Option Moment) (ys : List Arrived) →
      step fetch m p others ≡ went v stays → Comes v p others drawn r at ys → Comes m p others drawn r at ys
  stays_comes m v p others drawn r at ys e h = record {
    steps = suc h.steps;
    ran = ap (after_step choices (run fetch choices h.steps) p others drawn) e ∙ h.ran;
    reaches = ap (moment_after choices (moment fetch choices h.steps) p others drawn) e ∙ h.reaches;
    seen =
        ap (λ x. arrived_after p x ++ arrived_next choices (arrived fetch choices h.steps) p others drawn x) e
        ∙ ap (λ l. l ++ arrived fetch choices h.steps v p others drawn) (stays_ready p others fetch m v e) ∙ h.seen;
  }

  -- a stint that switches: its process may have arrived, and then the next goes on
  pub stint_switches : (k : ℕ) (m : Machine) (p : Name) (others : List Name) (drawn : ℕ) (t : Machine) (ps : List Name) (j : ℕ) →
      stint fetch k m p others ≡ switched t ps →
      Comes m p others drawn (go_on (take_next choices drawn (others ++ ps)) (run fetch choices j t) t drawn)
      (moment_on (take_next choices drawn (others ++ ps)) (moment fetch choices j t))
      (arrived_in t p (find t.activities p) ++ arrived_on (take_next choices drawn (others ++ ps)) (arrived fetch choices j t))
  stint_switches zero m p others drawn t ps j e = absurd (cc)
  stint_switches (suc k) m p others drawn t ps j e = go (step fetch m p others) refl e (λ v. stint_switches k v p others drawn t ps j)
    where
      Goal : Machine → Type 0
      Goal v = Comes v p others drawn (go_on (take_next choices drawn (others ++ ps)) (run fetch choices j t) t drawn)
          (moment_on (take_next choices drawn (others ++ ps)) (moment fetch choices j t))
          (arrived_in t p (find t.activities p) ++ arrived_on (take_next choices drawn (others ++ ps)) (arrived fetch choices j t))

      go : (x : Stepped) → step fetch m p others ≡ x → stint_after (λ v. stint fetch k v p others) x ≡ switched t ps →
          ((v : Machine) → stint fetch k v p others ≡ switched t ps → Goal v) → Goal m
      go (went v stays) is f more = stays_comes m v p others drawn _ _ _ is (more v f)
      go (went v (joins qs)) is f more =
          let same : step fetch m p others ≡ went t (joins ps) = is ∙ (λ i. went (machine_of f i) (joins (joined_of f i))) in
          record {
            steps = suc j;
            ran = ap (after_step choices (run fetch choices j) p others drawn) same;
            reaches = ap (moment_after choices (moment fetch choices j) p others drawn) same;
            seen = ap (λ x. arrived_after p x ++ arrived_next choices (arrived fetch choices j) p others drawn x) same;
          }
        where
          machine_of : switched v qs ≡ switched t ps → v ≡ t
          machine_of f = cc

          joined_of : switched v qs ≡ switched t ps → qs ≡ ps
          joined_of f = cc
      go (ended ending v) is f more = absurd (cc)

  -- a stint that ends the run
  pub stint_ends : (k : ℕ) (m : Machine) (p : Name) (others : List Name) (drawn : ℕ) (ending : Ending) (t : Machine) →
      stint fetch k m p others ≡ over ending t → Comes m p others drawn (finished ending t drawn) None (arrived_at_end ending t p)
  stint_ends zero m p others drawn ending t e = absurd (cc)
  stint_ends (suc k) m p others drawn ending t e = go (step fetch m p others) refl e (λ v. stint_ends k v p others drawn ending t)
    where
      go : (x : Stepped) → step fetch m p others ≡ x → stint_after (λ v. stint fetch k v p others) x ≡ over ending t →
          ((v : Machine) → stint fetch k v p others ≡ over ending t → Comes v p others drawn (finished ending t drawn) None (arrived_at_end ending t p)) →
          Comes m p others drawn (finished ending t drawn) None (arrived_at_end ending t p)
      go (went v stays) is f more = stays_comes m v p others drawn _ _ _ is (more v f)
      go (went v (joins qs)) is f more = absurd (cc)
      go (ended other v) is f more =
          let same : step fetch m p others ≡ ended ending t = is ∙ (λ i. ended (ending_of f i) (machine_of f i)) in
          record {
            steps = 1;
            ran = ap (after_step choices (run fetch choices 0) p others drawn) same;
            reaches = ap (moment_after choices (moment fetch choices 0) p others drawn) same;
            seen =
                ap (λ x. arrived_after p x ++ arrived_next choices (arrived fetch choices 0) p others drawn x) same
                ∙ append-nil (arrived_at_end ending t p);
          }
        where
          ending_of : over other v ≡ over ending t → other ≡ ending
          ending_of f = cc

          machine_of : over other v ≡ over ending t → v ≡ t
          machine_of f = cc

  -- a stint that breaks off arrives nowhere
  pub stint_breaks : (k : ℕ) (m : Machine) (p : Name) (others : List Name) (drawn : ℕ) (t : Machine) →
      followed fetch k m p others ≡ Some t → Comes m p others drawn unfinished (Some (moment_at t p others drawn)) []
  stint_breaks zero m p others drawn t e =
      let same : m ≡ t = (cc) in record { steps = 0; ran = refl; reaches = ap (λ x. Some (moment_at x p others drawn)) same; seen = refl }
  stint_breaks (suc k) m p others drawn t e = go (step fetch m p others) refl e (λ v. stint_breaks k v p others drawn t)
    where
      go : (x : Stepped) → step fetch m p others ≡ x → goes_with (λ v. followed fetch k v p others) x ≡ Some t →
          ((v : Machine) → followed fetch k v p others ≡ Some t → Comes v p others drawn unfinished (Some (moment_at t p others drawn)) []) → Comes m p others drawn unfinished (Some (moment_at t p others drawn)) []
      go (went v stays) is f more = stays_comes m v p others drawn _ _ _ is (more v f)
      go (went v (joins qs)) is f more = absurd (cc)
      go (ended ending v) is f more = absurd (cc)

  -- a stint that switches by a fork leaves its process at no `when`
  pub stint_forks : (k : ℕ) (m : Machine) (p : Name) (others : List Name) (t : Machine) (ps : List Name) (f n : ℕ) → stint fetch k m p others ≡ switched t ps →
      0 < n → ps ≡ children p f 0 n → arrived_in t p (find t.activities p) ≡ []
  stint_forks zero m p others t ps f n e some are = absurd (cc)
  stint_forks (suc k) m p others t ps f n e some are = go (step fetch m p others) refl e (λ v g. stint_forks k v p others t ps f n g some are)
    where
      go : (x : Stepped) → step fetch m p others ≡ x → stint_after (λ v. stint fetch k v p others) x ≡ switched t ps →
          ((v : Machine) → stint fetch k v p others ≡ switched t ps → arrived_in t p (find t.activities p) ≡ []) → arrived_in t p (find t.activities p) ≡ []
      go (went v stays) is g more = more v g
      go (went v (joins qs)) is g more =
          let one : v ≡ t = (cc) in
          let two : qs ≡ ps = (cc) in
          subst (λ (x : Machine). arrived_in x p (find x.activities p) ≡ []) one (fork_waits p others fetch m v qs f n is some (two ∙ are))
      go (ended ending v) is g more = absurd (cc)

  -- ---- from the start

  module _ (entry : ℕ) (calls : List ℕ) (system : State) (bound before : ℕ) where
    abbrev Way : Machine → Name → List Name → ℕ → List Arrived → Type 0
    Way = Underway fetch choices entry calls system bound before

    abbrev FromHere : ℕ → MachineRun
    FromHere = From fetch choices entry calls system bound before

    abbrev MomentHere : ℕ → Option Moment
    MomentHere = MomentOf fetch choices entry calls system bound before

    abbrev SeenHere : ℕ → List Arrived
    SeenHere = Seen fetch choices entry calls system bound before

    -- behind the turn of the program's entry nothing has been seen
    pub begins : (m : Machine) → entered (fetch entry) entry calls bound system ≡ went m stays → Way m [] [] before []
    begins m e = record {
      goes = λ n. (
        n,
        ap (after_step choices (run fetch choices n) [] [] before) e,
        ap (moment_after choices (moment fetch choices n) [] [] before) e,
        ap (arrived_next choices (arrived fetch choices n) [] [] before) e,
      );
    }

    comes_on : (m : Machine) (p : Name) (others : List Name) (drawn : ℕ) (ys zs : List Arrived) (r : MachineRun) (at : Option Moment) →
        Way m p others drawn ys → Comes m p others drawn r at zs → (k : ℕ) × (FromHere k ≡ r) × (MomentHere k ≡ at) × (SeenHere k ≡ ys ++ zs)
    comes_on m p others drawn ys zs r at u h =
        let k : (k : ℕ) × (FromHere k ≡ run fetch choices h.steps m p others drawn) × (MomentHere k ≡ moment fetch choices h.steps m p others drawn)
        × (SeenHere k ≡ ys ++ arrived fetch choices h.steps m p others drawn) =
        u.goes h.steps in
        (k.0, k.1 ∙ h.ran, k.2 ∙ h.reaches, k.3 ∙ ap (λ l. ys ++ l) h.seen)

    -- behind a stint and a choice
    pub goes_on : (k : ℕ) (m : Machine) (p q : Name) (others rest ps : List Name) (drawn d : ℕ) (t : Machine) (ys : List Arrived) →
        Way m p others drawn ys → stint fetch k m p others ≡ switched t ps → take_next choices drawn (others ++ ps) ≡ taking q rest d →
        Way t q rest d (ys ++ arrived_in t p (find t.activities p))
    goes_on k m p q others rest ps drawn d t ys u e next = record {
      goes = λ j.
          let f = comes_on m p others drawn ys _ _ _ u (stint_switches k m p others drawn t ps j e) in (
            f.0,
            f.1 ∙ ap (λ x. go_on x (run fetch choices j t) t drawn) next,
            f.2 ∙ ap (λ x. moment_on x (moment fetch choices j t)) next,
            f.3 ∙ ap (λ x. ys ++ (arrived_in t p (find t.activities p) ++ arrived_on x (arrived fetch choices j t))) next
                ∙ sym (append_assoc ys (arrived_in t p (find t.activities p)) (arrived fetch choices j t q rest d)),
          );
    }

    -- behind a stint at which nobody is ready any more
    pub ends_unready : (k : ℕ) (m : Machine) (p : Name) (others ps : List Name) (drawn : ℕ) (t : Machine) (ys : List Arrived) →
        Way m p others drawn ys → stint fetch k m p others ≡ switched t ps → take_next choices drawn (others ++ ps) ≡ nobody →
        (i : ℕ) × (FromHere i ≡ finished outcome.standstill t drawn) × (SeenHere i ≡ ys ++ arrived_in t p (find t.activities p))
    ends_unready k m p others ps drawn t ys u e next =
        let f = comes_on m p others drawn ys _ _ _ u (stint_switches k m p others drawn t ps 0 e) in (
          f.0,
          f.1 ∙ ap (λ x. go_on x (run fetch choices 0 t) t drawn) next,
          f.3 ∙ ap (λ x. ys ++ (arrived_in t p (find t.activities p) ++ arrived_on x (arrived fetch choices 0 t))) next
              ∙ ap (λ l. ys ++ l) (append-nil (arrived_in t p (find t.activities p))),
        )

    -- behind the last stint
    pub ends_here : (k : ℕ) (m : Machine) (p : Name) (others : List Name) (drawn : ℕ) (ending : Ending) (t : Machine) (ys : List Arrived) →
        Way m p others drawn ys → stint fetch k m p others ≡ over ending t →
        (i : ℕ) × (FromHere i ≡ finished ending t drawn) × (SeenHere i ≡ ys ++ arrived_at_end ending t p)
    ends_here k m p others drawn ending t ys u e =
        let f = comes_on m p others drawn ys _ _ _ u (stint_ends k m p others drawn ending t e) in (f.0, f.1, f.3)

    -- behind one that breaks off
    pub breaks_here : (k : ℕ) (m : Machine) (p : Name) (others : List Name) (drawn : ℕ) (t : Machine) (ys : List Arrived) →
        Way m p others drawn ys → followed fetch k m p others ≡ Some t →
        (i : ℕ) × (MomentHere i ≡ Some (moment_at t p others drawn)) × (SeenHere i ≡ ys)
    breaks_here k m p others drawn t ys u e =
        let f = comes_on m p others drawn ys _ _ _ u (stint_breaks k m p others drawn t e) in (f.0, f.2, f.3 ∙ append-nil ys)
