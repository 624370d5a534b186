-- THE STINTS of a selection and those of the run of its code are the same, one after another.
use Rattle.std.proofs.Common.{◌≡◌, ℕ, zero, suc, ◌-◌, inl, Bool, true, false, ◌||◌, if◌then◌else◌, List, [], ◌∷◌, ◌++◌}
use Rattle.std.proofs.Common.{length, drop, Option, Some, None, refl, sym, subst, ap, ◌∙◌, append_assoc}
use Rattle.edi_calls.specs.Choice.{Choices}
use Rattle.edi_calls.specs.Names.{Name, find}
use Rattle.edi_calls.specs.Outcome as outcome
use Rattle.edi_calls.specs.Outcome.{Ending}
use Rattle.edi_calls.specs.Ready.{has, Next, stays, joins, Taking, nobody, taking, take_next}
use Rattle.edi_calls.specs.State.{State, Traced}
use Rattle.edi_calls.proofs.Tables.{same-refl}
use Rattle.edi_meaning.specs.Step as source
use Rattle.edi_meaning.specs.Step.{Process, Processes, Standing, ready, at_when, waiting}
use Rattle.edi_meaning.specs.Permitted.{is_running_process}
use Rattle.edi_meaning.specs.Places.{is_at_when, attempts}
use Rattle.edi_meaning.specs.Select as selection
use Rattle.edi_meaning.specs.Select.{finished, marked, is_standstill, select}
use Rattle.edi_meaning.proofs.Sound.{EachTaken, each_next}
use Rattle.edi_meaning.proofs.Selections.{same_ending, same_drawn, stepped_before}
use Rattle.edi_target.specs.Attempts.{attempt_fails}
use Rattle.edi_target.specs.Fetch.{fetch}
use Rattle.edi_target.specs.Reading.{AreWords}
use Rattle.edi_target.specs.Mach as target
use Rattle.edi_target.specs.Mach.{Machine}
use Rattle.edi_target.specs.Moments.{news_at}
use Rattle.edi_follows.specs.places.Coded.{Coded}
use Rattle.edi_follows.specs.places.Related.{MayStep}
use Rattle.edi_follows.specs.places.Lands.{step, Passes, EndsSo, LandsNext, LandsTested, Lands, Taken, StepClaim, QueueAfter, StepsQueue}
use Rattle.edi_timeline.specs.Stints as meant
use Rattle.edi_timeline.specs.Stints.{Start, End, over, Stint, Begun, started, start_of, end_of, along}
use Rattle.edi_timed.specs.Ran.{spot_of, Open, opened, end_in, start_in, closed, timed_on, timed_after, timed}
use Rattle.edi_timed.proofs.meant.Stays.{StepsOn, step_on}
use Rattle.edi_timed.proofs.meant.Remembered.{Remembered, Remembers, Unborn, unborn_on, remembers_on, unborn_more, remembers_more, own_start, again_start}
use Rattle.edi_timed.proofs.meant.Left.{begun_there, left_is}

abbrev pub none : ℕ → Type 0
none a = ⊥

-- who is ready attempts nothing
pub ready_attempts : (live : _) (p : Name) → ((y : Process) → find live p ≡ Some y → y.standing ≡ ready) → attempts (find live p) ≡ true → ⊥
ready_attempts live p rests = of_found (find live p) refl
  where
    of_found : (o : Option Process) → find live p ≡ o → attempts o ≡ true → ⊥
    of_found None e h = absurd (cc)
    of_found (Some y) e h = let c : false ≡ true = sym (ap is_at_when (rests y e)) ∙ h in absurd (cc)

module _ (g : Coded) (words : List ℕ) (is : g.fetched ≡ fetch words) (fine : AreWords words) (claim : StepClaim g) (queues : StepsQueue) (bound : ℕ)
    (choices : Choices) where
  abbrev Run : ℕ → Machine → Name → List Name → ℕ → target.MachineRun
  Run j t p others drawn = target.run (fetch words) choices j t p others drawn

  abbrev Timed : ℕ → Open → List Stint → Machine → Name → List Name → ℕ → List Stint
  Timed j c xs t p others drawn = timed words choices bound j c xs t p others drawn

  abbrev failed_at : Machine → Name → Bool
  failed_at t p = attempt_fails (fetch words) t p (find t.activities p)

  read_so : (t : Machine) (p : Name) (others : List Name) (x : target.Stepped) → step g t p others ≡ x → target.step (fetch words) t p others ≡ x
  read_so t p others x e = sym (ap (λ f. target.step f t p others) is) ∙ e

  -- the run from here ends so, and these are its stints after those
  pub record Times (c : Open) (xs : List Stint) (t : Machine) (p : Name) (others : List Name) (drawn : ℕ) (ending : Ending) (d : ℕ)
      (ys : List Stint) : Type 0 where
    pub steps : ℕ
    pub machine : Machine
    pub ends : Run steps t p others drawn ≡ target.finished ending machine d
    pub stints : Timed steps c xs t p others drawn ≡ xs ++ ys

  one_before : (c : Open) (xs : List Stint) (t v : Machine) (p : Name) (others : List Name) (drawn : ℕ) (ending : Ending) (d : ℕ) (ys : List Stint) →
      step g t p others ≡ target.went v stays → Times c xs v p others drawn ending d ys → Times c xs t p others drawn ending d ys
  one_before c xs t v p others drawn ending d ys e h = record {
    steps = suc h.steps;
    machine = h.machine;
    ends = ap (target.after_step choices (target.run (fetch words) choices h.steps) p others drawn) (read_so t p others (target.went v stays) e) ∙ h.ends;
    stints = ap (timed_after words choices bound (timed words choices bound h.steps) (failed_at t p) c xs p others drawn)
        (read_so t p others (target.went v stays) e) ∙ h.stints;
  }

  passes_time : (c : Open) (xs : List Stint) (k : ℕ) (t : Machine) (past : List State) (p : Name) (others : List Name) (u : Machine) (now : List State)
      (drawn : ℕ) (ending : Ending) (d : ℕ) (ys : List Stint) → Passes g none k t past p others u now →
      Times c xs u p others drawn ending d ys → Times c xs t p others drawn ending d ys
  passes_time c xs zero t past p others u now drawn ending d ys h a = subst (λ z. Times c xs z p others drawn ending d ys) (sym h.0) a
  passes_time c xs (suc k) t past p others u now drawn ending d ys h a =
      one_before c xs t h.0 p others drawn ending d ys h.1
      (passes_time c xs k h.0 (news_at g.fetched t p ++ past) p others u now drawn ending d ys h.3 a)

  -- the last instruction of a step ends the run
  ends_here : (c : Open) (xs : List Stint) (t : Machine) (past : List State) (p : Name) (others : List Name) (drawn d : ℕ) (ending x : Ending)
      (system : Traced) (turns : ℕ) (ys : List Stint) → EndsSo g none t past p others ending system turns → ending ≡ x → drawn ≡ d →
      closed bound c xs (over ending) turns system.now.shown ∷ [] ≡ ys → Times c xs t p others drawn x d ys
  ends_here c xs t past p others drawn d ending x system turns ys h e f l =
      passes_time c xs h.steps t past p others h.before h.since drawn x d ys h.passes (record {
        steps = 1;
        machine = h.machine;
        ends = ap (target.after_step choices (target.run (fetch words) choices 0) p others drawn)
            (read_so h.before p others (target.ended ending h.machine) h.is) ∙ (λ i. target.finished (e i) h.machine (f i));
        stints = ap (timed_after words choices bound (timed words choices bound 0) (failed_at h.before p) c xs p others drawn)
            (read_so h.before p others (target.ended ending h.machine) h.is)
            ∙ (λ i. xs ++ closed bound c xs (over ending) (h.turns_are i) (ap (λ (y : State). y.shown) h.system_is i) ∷ [])
            ∙ ap (λ l. xs ++ l) l;
      })

  -- the stint that has begun in the meaning is the one that has begun in the run, after these stints
  pub record Agrees (b : Begun) (c : Open) (xs : List Stint) (s : Processes) (t : Machine) (p : Name) : Type 0 where
    pub process : b.process ≡ p
    pub mine : c.process ≡ p
    pub turns : c.turns ≡ b.turns
    pub shown : c.shown ≡ b.shown
    pub from : start_in xs p ≡ b.from
    -- while p stands at its `when`, the stint has begun there
    pub attempting : attempts (find s.live p) ≡ true → start_of g.unit (find s.live p) ≡ b.from
    pub stood : attempts (find s.live p) ≡ true → c.stood ≡ spot_of (find t.activities p)
    pub remembers : Remembers g.unit xs s.live p
    pub unborn : Unborn xs s.live

  closed_is : (b : Begun) (c : Open) (xs : List Stint) (s : Processes) (t : Machine) (p : Name) → Agrees b c xs s t p →
      (end : End) (turns : ℕ) (shown : List ℕ) → closed bound c xs end turns shown ≡ meant.stint bound b end turns shown
  closed_is b c xs s t p a end turns shown = λ i. record {
    process = (a.mine ∙ sym a.process) i;
    first = suc (bound - a.turns i);
    last = bound - turns;
    from = (ap (start_in xs) a.mine ∙ a.from) i;
    end = end;
    shown = drop (a.shown i) shown;
  }

  -- at most n steps of the meaning
  abbrev pub Main : ℕ → Type 0
  Main n =
      (s : Processes) (t : Machine) (p : Name) (others marks : List Name) (drawn : ℕ) → Taken g s t p others marks →
      (b : Begun) (c : Open) (xs : List Stint) → Agrees b c xs s t p →
      (ending : Ending) (end : Traced) (turns d : ℕ) (order : List Name) →
      select g.unit choices n s marks p others drawn ≡ finished ending end turns d order →
      Times c xs t p others drawn ending d (along g.unit bound order b s)

  -- who is taken steps first
  order_first : (n : ℕ) (s : Processes) (marks : List Name) (z : Name) (os : List Name) (drawn : ℕ) (ending : Ending) (end : Traced) (turns d : ℕ)
      (order : List Name) → select g.unit choices n s marks z os drawn ≡ finished ending end turns d order → (rest : List Name) × (z ∷ rest ≡ order)
  order_first zero s marks z os drawn ending end turns d order e = absurd (cc)
  order_first (suc n) s marks z os drawn ending end turns d order e =
      let h : (rest : List Name) ×
      (selection.after_step choices (select g.unit choices n) z os marks drawn (source.step g.unit s z) ≡ finished ending end turns d rest)
      × (z ∷ rest ≡ order) =
      stepped_before z (selection.after_step choices (select g.unit choices n) z os marks drawn (source.step g.unit s z)) ending end turns d order e in
      (h.0, h.2)

  module _ (n : ℕ) (main : Main n) (s : Processes) (t : Machine) (p : Name) (others marks : List Name) (drawn : ℕ) (k : Taken g s t p others marks)
      (q : Process) (found : find s.live p ≡ Some q) (b : Begun) (c : Open) (xs : List Stint) (a : Agrees b c xs s t p)
      (ending : Ending) (end : Traced) (turns d : ℕ) (order : List Name) where
    abbrev past : List State
    past = s.world.system.past

    abbrev attempt : Bool
    attempt = attempts (find s.live p)

    abbrev Behind : source.Stepped → List Name → List Stint
    Behind x order = meant.onward g.unit bound x attempt p order b (along g.unit bound order)

    abbrev Ends : List Stint → Type 0
    Ends ys = Times c xs t p others drawn ending d ys

    -- the stint that a step ends
    abbrev Over : Processes → Bool → Stint
    Over u quiet = meant.stopping g.unit bound b (end_of g.unit attempt quiet (find u.live p)) u

    next_times : (u : Processes) (next : Next) (quiet : Bool) → source.step g.unit s p ≡ source.went u next quiet →
        LandsNext g none t past p others (marked quiet p marks) u next → QueueAfter p others (source.went u next quiet) →
        StepsOn g.unit s p q found (source.went u next quiet) →
        selection.after_next choices (select g.unit choices n u (marked quiet p marks)) u p others drawn next ≡ finished ending end turns d order →
        Ends (Behind (source.went u next quiet) order)
    next_times u stays quiet x h w on e =
        passes_time c xs h.steps t past p others h.machine u.world.system.past drawn ending d (along g.unit bound order b u) h.passes
        (main u h.machine p others (marked quiet p marks) drawn
        (record { related = h.related; kept = h.kept; queue = w; marks_agree = h.marks_agree }) b c xs (record {
          process = a.process;
          mine = a.mine;
          turns = a.turns;
          shown = a.shown;
          from = a.from;
          attempting = λ f. absurd (ready_attempts u.live p on.1 f);
          stood = λ f. absurd (ready_attempts u.live p on.1 f);
          remembers = remembers_on g.unit s p q found u.live on.0 xs a.unborn a.remembers;
          unborn = unborn_on g.unit s p q found u.live on.0 xs a.unborn;
        }) ending end turns d order e)
    next_times u (joins ps) quiet x h w on e =
        passes_time c xs h.steps t past p others h.before h.since drawn ending d (Behind (source.went u (joins ps) quiet) order) h.passes
        (by (take_next choices drawn (others ++ ps)) refl (each_next (MayStep u) choices drawn (others ++ ps) w) e)
      where
        ran : (j : ℕ) (y : Taking) → take_next choices drawn (others ++ ps) ≡ y →
            Run (suc j) h.before p others drawn ≡ target.go_on y (target.run (fetch words) choices j h.machine) h.machine drawn
        ran j y f =
            ap (target.after_step choices (target.run (fetch words) choices j) p others drawn)
            (read_so h.before p others (target.went h.machine (joins ps)) h.is)
            ∙ ap (λ z. target.go_on z (target.run (fetch words) choices j h.machine) h.machine drawn) f

        seen : (j : ℕ) (y : Taking) → take_next choices drawn (others ++ ps) ≡ y →
            Timed (suc j) c xs h.before p others drawn
            ≡ timed_on words choices bound y (failed_at h.before p) c xs h.machine p (λ o ys. timed words choices bound j o ys h.machine)
        seen j y f =
            ap (timed_after words choices bound (timed words choices bound j) (failed_at h.before p) c xs p others drawn)
            (read_so h.before p others (target.went h.machine (joins ps)) h.is)
            ∙ ap (λ z. timed_on words choices bound z (failed_at h.before p) c xs h.machine p (λ o ys. timed words choices bound j o ys h.machine)) f

        shown_there : h.machine.system.shown ≡ u.world.system.now.shown
        shown_there = ap (λ (y : State). y.shown) h.related.system

        -- the stint that has ended is the same
        same_stint : (e : End) → closed bound c xs e h.machine.turns h.machine.system.shown ≡ meant.stopping g.unit bound b e u
        same_stint e =
            (λ i. closed bound c xs e (h.related.turns i) (shown_there i))
            ∙ closed_is b c xs s t p a e u.world.turns u.world.system.now.shown

        left : end_in words (failed_at h.before p) (start_in xs p) c h.machine (find h.machine.activities p) ≡ end_of g.unit attempt quiet (find u.live p)
        left =
            left_is g words is fine s u t h.machine p k.related h.related (failed_at h.before p) quiet (start_in xs p) c marks
            (sym (ap (λ f. attempt_fails f h.before p (find h.before.activities p)) is) ∙ h.fails) h.spots h.same_marks
            (λ f. ap Rattle.edi_timeline.specs.Adding.is_at (a.from ∙ sym (a.attempting f)) ∙ begun_there g.unit (find s.live p) f) a.stood

        left_stint : closed bound c xs (end_in words (failed_at h.before p) (start_in xs p) c h.machine (find h.machine.activities p)) h.machine.turns
            h.machine.system.shown ≡ Over u quiet
        left_stint = ap (λ e. closed bound c xs e h.machine.turns h.machine.system.shown) left ∙ same_stint (end_of g.unit attempt quiet (find u.live p))

        -- everyone is taken where his last stint has left him
        all : (r : Name) (y : Process) → find u.live r ≡ Some y → Remembered g.unit (xs ++ Over u quiet ∷ []) r y
        all =
            remembers_more g.unit s p q found u.live on.0 xs (Over u quiet) a.process
            (remembers_on g.unit s p q found u.live on.0 xs a.unborn a.remembers)
            (own_start g.unit s p q found u.live on.0 attempt quiet b.from on.1
            (λ f y i. again_start g.unit s u p q ps quiet found x f y i ∙ a.attempting f))

        starts : (z : Name) → MayStep u z → start_in (xs ++ Over u quiet ∷ []) z ≡ start_of g.unit (find u.live z)
        starts z may = of_found (find u.live z) refl may
          where
            of_found : (o : Option Process) → find u.live z ≡ o → is_running_process o ≡ true →
                start_in (xs ++ Over u quiet ∷ []) z ≡ start_of g.unit (find u.live z)
            of_found None i v = absurd (cc)
            of_found (Some y) i v = sym (all z y i) ∙ sym (ap (start_of g.unit) i)

        by : (y : Taking) → take_next choices drawn (others ++ ps) ≡ y → EachTaken (MayStep u) y →
            selection.go_on y (select g.unit choices n u (marked quiet p marks)) u drawn ≡ finished ending end turns d order →
            Times c xs h.before p others drawn ending d (Behind (source.went u (joins ps) quiet) order)
        by nobody i each f = record {
          steps = 1;
          machine = h.machine;
          ends = ran 0 nobody i ∙ (λ j. target.finished (same_ending f j) h.machine (same_drawn f j));
          stints = seen 0 nobody i ∙ ap (λ z. xs ++ z ∷ []) (same_stint (over outcome.standstill))
              ∙ ap (λ o. xs ++ Behind (source.went u (joins ps) quiet) o) (no_order f);
        }
          where
            no_order : finished outcome.standstill u.world.system u.world.turns drawn [] ≡ finished ending end turns d order → [] ≡ order
            no_order f = cc
        by (taking z os v) i each f =
            let first : (rest : List Name) × (z ∷ rest ≡ order) = order_first n u (marked quiet p marks) z os v ending end turns d order f in
            let r : Times (opened h.machine z) (xs ++ Over u quiet ∷ []) h.machine z os v ending d
            (along g.unit bound order (meant.begun g.unit bound u z) u) =
            main u h.machine z os (marked quiet p marks) v (record { related = h.related; kept = h.kept; queue = each; marks_agree = inl h.same_marks })
            (meant.begun g.unit bound u z) (opened h.machine z) (xs ++ Over u quiet ∷ []) (record {
              process = refl;
              mine = refl;
              turns = h.related.turns;
              shown = ap length shown_there;
              from = starts z (each.holds z (ap (λ b. b || has os z) (same-refl z)));
              attempting = λ f. refl;
              stood = λ f. refl;
              remembers = λ r y n e. all r y e;
              unborn = unborn_more g.unit s p q found u.live on.0 xs (Over u quiet) a.process k.kept.coherent.family.proper.fresh
                  (unborn_on g.unit s p q found u.live on.0 xs a.unborn);
            }) ending end turns d order f in
            subst (λ o. Times c xs h.before p others drawn ending d (Behind (source.went u (joins ps) quiet) o)) first.1 (record {
              steps = suc r.steps;
              machine = r.machine;
              ends = ran r.steps (taking z os v) i ∙ r.ends;
              stints = seen r.steps (taking z os v) i
                  ∙ (λ j. timed words choices bound r.steps (opened h.machine z) (xs ++ left_stint j ∷ []) h.machine z os v)
                  ∙ r.stints ∙ append_assoc xs (Over u quiet ∷ []) (along g.unit bound order (meant.begun g.unit bound u z) u)
                  ∙ ap (λ o. xs ++ Over u quiet ∷ along g.unit bound o (meant.begun g.unit bound u z) u) (sym first.1);
            })

    tested_times : (v : Bool) (u : Processes) (next : Next) (quiet : Bool) → is_standstill quiet (marked quiet p marks) (p ∷ others) ≡ v →
        source.step g.unit s p ≡ source.went u next quiet →
        LandsTested g none v t past p others (marked quiet p marks) u next → QueueAfter p others (source.went u next quiet) →
        StepsOn g.unit s p q found (source.went u next quiet) →
        (if v then finished outcome.standstill u.world.system u.world.turns drawn [] else selection.after_next choices
        (select g.unit choices n u (marked quiet p marks)) u p others drawn next) ≡ finished ending end turns d order →
        Ends (Behind (source.went u next quiet) order)
    tested_times true u stays quiet still x h w on e =
        let marks_nobody : false ≡ true = sym (ap (λ v. is_standstill v (marked quiet p marks) (p ∷ others)) on.2) ∙ still in absurd (cc)
    tested_times true u (joins ps) quiet still x h w on e =
        subst (λ o. Ends (Behind (source.went u (joins ps) quiet) o)) (no_order e)
        (ends_here c xs t past p others drawn d outcome.standstill ending u.world.system u.world.turns
        (meant.stopping g.unit bound b (over outcome.standstill) u ∷ []) h.ends (same_ending e) (same_drawn e)
        (ap (λ z. z ∷ []) (closed_is b c xs s t p a (over outcome.standstill) u.world.turns u.world.system.now.shown)))
      where
        no_order : finished outcome.standstill u.world.system u.world.turns drawn [] ≡ finished ending end turns d order → [] ≡ order
        no_order f = cc
    tested_times false u next quiet still x h w on e = next_times u next quiet x h w on e

    step_times : (x : source.Stepped) → source.step g.unit s p ≡ x → Lands g none t past p others marks x → QueueAfter p others x →
        StepsOn g.unit s p q found x →
        selection.after_step choices (select g.unit choices n) p others marks drawn x ≡ finished ending end turns d order → Ends (Behind x order)
    step_times (source.ended e system left) x h w on f =
        ends_here c xs t past p others drawn d e ending system left (meant.stint bound b (over e) left system.now.shown ∷ []) h
        (same_ending f) (same_drawn f) (ap (λ z. z ∷ []) (closed_is b c xs s t p a (over e) left system.now.shown))
    step_times (source.went u next quiet) x h w on f =
        tested_times (is_standstill quiet (marked quiet p marks) (p ∷ others)) u next quiet refl x h w on f

  pub main : (n : ℕ) → Main n
  main zero s t p others marks drawn k b c xs a ending end turns d order e = absurd (cc)
  main (suc n) s t p others marks drawn k b c xs a ending end turns d order e =
      let before : (rest : List Name) ×
      (selection.after_step choices (select g.unit choices n) p others marks drawn (source.step g.unit s p) ≡ finished ending end turns d rest)
      × (p ∷ rest ≡ order) =
      stepped_before p (selection.after_step choices (select g.unit choices n) p others marks drawn (source.step g.unit s p)) ending end turns d order e in
      subst (λ o. Times c xs t p others drawn ending d (along g.unit bound o b s)) before.2
      (stepping n (main n) s t p others marks drawn k b c xs a ending end turns d before.0 before.1)
    where
      stepping : (n : ℕ) → Main n → (s : Processes) (t : Machine) (p : Name) (others marks : List Name) (drawn : ℕ) → Taken g s t p others marks →
          (b : Begun) (c : Open) (xs : List Stint) → Agrees b c xs s t p → (ending : Ending) (end : Traced) (turns d : ℕ) (order : List Name) →
          selection.after_step choices (select g.unit choices n) p others marks drawn (source.step g.unit s p) ≡ finished ending end turns d order →
          Times c xs t p others drawn ending d (along g.unit bound (p ∷ order) b s)
      stepping n go s t p others marks drawn k b c xs a ending end turns d order e = of_found (find s.live p) refl
        where
          of_found : (o : Option Process) → find s.live p ≡ o → Times c xs t p others drawn ending d (along g.unit bound (p ∷ order) b s)
          of_found (Some q) f =
              step_times n go s t p others marks drawn k q f b c xs a ending end turns d order (source.step g.unit s p) refl
              (claim none s t p others marks k (λ a x y. x)) (queues g.unit s p others k.kept.coherent k.queue) (step_on g.unit s p q f) e
          of_found None f =
              let runs : is_running_process None ≡ true = sym (ap is_running_process f) ∙ k.queue.holds p (ap (λ b. b || has others p) (same-refl p)) in
              absurd (cc)
