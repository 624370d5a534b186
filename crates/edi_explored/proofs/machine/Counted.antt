-- The moves of a run of the machine: what the number of instructions has to do with them, and what a stint adds.
use Rattle.std.proofs.Common.{◌≡◌, ◌⊎◌, inl, inr, ℕ, zero, suc, ◌+◌, ◌-◌, ◌/◌, Bool, true, false, if◌then◌else◌, List, [], ◌∷◌, ◌++◌, length}
use Rattle.std.proofs.Common.{Option, Some, None, refl, ap, subst, ◌∙◌}
use Rattle.std.specs.Prelude.{⊤}
use Rattle.edi_calls.specs.Choice.{Choices}
use Rattle.edi_calls.specs.Names.{Name, find, with_at, without}
use Rattle.edi_calls.specs.Outcome as outcome
use Rattle.edi_calls.specs.Outcome.{Ending}
use Rattle.edi_calls.specs.Ready.{child, parent_of, all_marked, stays, joins, Taking, nobody, taking, take_next, freed}
use Rattle.edi_target.specs.Op.{Instruction, Branch}
use Rattle.edi_target.specs.Effect.{Turn, entering, leaving, looping, arriving, again, forking, exiting, finishing}
use Rattle.edi_target.specs.Mach.{Running, Answer, on, behind, turned, over, local_step, Standing, ready, at_when, waiting, Activity, Machine, Stepped, went, ended}
use Rattle.edi_target.specs.Mach.{running_of, activity_of, back, with_child, with_children, awaits, one_less, notified, at_turn, kernel, is_first, step_of, step}
use Rattle.edi_target.specs.Mach.{MachineRun, unfinished, finished, go_on, after_step, run}
use Rattle.edi_kernel.specs.Stints as stints
use Rattle.edi_kernel.specs.Stints.{stint, stint_after}
use Rattle.edi_explored.specs.Moves.{counted, moves_on}
use Rattle.edi_explored.specs.machine.Counted.{is_marked, moved_after, moved}

-- ---- who switches is marked, or nobody is

module _ (p : Name) where
  -- a process that gives way leaves nobody marked, or is marked itself and goes to the back
  abbrev pub Marks : Machine → List Name → Type 0
  Marks m ps = (m.marks ≡ []) ⊎ ((marks : List Name) × (m.marks ≡ p ∷ marks) × (ps ≡ p ∷ []))

  abbrev StepMarks : Stepped → Type 0
  StepMarks (ended ending m) = ⊤
  StepMarks (went m stays) = ⊤
  StepMarks (went m (joins ps)) = Marks m ps

  freed_marks : (m : Machine) (n : ℕ) (q : Name) → m.marks ≡ [] → StepMarks (went m (freed n q))
  freed_marks m zero q e = inl e
  freed_marks m (suc n) q e = inl e

  one_less_marks : (m : Machine) (q : Name) (a : Activity) (s : Standing) → m.marks ≡ [] → StepMarks (one_less m q a s)
  one_less_marks m q a ready e = inl e
  one_less_marks m q a at_when e = inl e
  one_less_marks m q a (waiting n) e =
      freed_marks (record m { activities = with_at m.activities q (record a { standing = awaits (n - 1) }) }) (n - 1) q e

  told_marks : (m : Machine) (q : Name) (a : Option Activity) → m.marks ≡ [] → StepMarks (notified m q a)
  told_marks m q None e = inl e
  told_marks m q (Some a) e = one_less_marks m q a a.standing e

  children_marks : (f i base at share : ℕ) (branches : List Branch) (m : Machine) → (with_children p f i base at share branches m).marks ≡ m.marks
  children_marks f i base at share [] m = refl
  children_marks f i base at share (b ∷ bs) m = children_marks f (suc i) base (at + share) share bs (with_child (child p f i) base at share b m)

  tested_marks : (b : Bool) (m : Machine) (marks : List Name) → m.marks ≡ p ∷ marks →
      StepMarks (if b then ended outcome.standstill m else went m (joins (p ∷ [])))
  tested_marks true m marks e = tt
  tested_marks false m marks e = inr (marks, e, refl)

  turned_marks : (others : List Name) (m : Machine) (a : Activity) (kind : Turn) (r : Running) → StepMarks (at_turn m p others a kind r)
  turned_marks others m a entering r = tt
  turned_marks others m a leaving r = tt
  turned_marks others m a looping r = tt
  turned_marks others m a arriving r = inl refl
  turned_marks others m a (again false) r = inl refl
  turned_marks others m a (again true) r =
      tested_marks (all_marked (p ∷ m.marks) (p ∷ others)) (back m p (activity_of r.local a.forks at_when) (p ∷ m.marks) r) m.marks refl
  turned_marks others m a (forking branches) r =
      inl (children_marks (suc a.forks) 0 r.local.base r.local.end ((r.local.last - r.local.end) / length branches) branches
      (back m p (activity_of r.local (suc a.forks) (waiting (length branches))) [] r))
  turned_marks others m a exiting r = told_marks _ (parent_of p) (find (without m.activities p) (parent_of p)) refl
  turned_marks others m a finishing r = tt

  kernel_marks : (others : List Name) (m : Machine) (a : Activity) (answer : Answer) → StepMarks (kernel m p others a answer)
  kernel_marks others m a (on r) = tt
  kernel_marks others m a (behind r) = tt
  kernel_marks others m a (turned kind r) = turned_marks others m a kind r
  kernel_marks others m a (over ending r) = tt

  module _ (fetch : ℕ → Option (Instruction × ℕ)) (others : List Name) where
    step_of_marks : (m : Machine) (a : Option Activity) → StepMarks (step_of fetch m p others a)
    step_of_marks m None = tt
    step_of_marks m (Some a) = kernel_marks others m a (local_step fetch (length m.activities) (is_first p) (running_of m a))

    step_marks : (m : Machine) → StepMarks (step fetch m p others)
    step_marks m = step_of_marks m (find m.activities p)

    pub stint_marks : (n : ℕ) (m u : Machine) (ps : List Name) → stint fetch n m p others ≡ stints.switched u ps → Marks u ps
    stint_marks zero m u ps e = absurd (cc)
    stint_marks (suc n) m u ps e = go (step fetch m p others) (step_marks m) e (stint_marks n)
      where
        go : (s : Stepped) → StepMarks s → stint_after (λ x. stint fetch n x p others) s ≡ stints.switched u ps →
            ((x v : Machine) (qs : List Name) → stint fetch n x p others ≡ stints.switched v qs → Marks v qs) → Marks u ps
        go (went x stays) k h more = more x u ps h
        go (went x (joins qs)) k h more =
            let a : x ≡ u = cc in
            let b : qs ≡ ps = cc in
            subst (λ y. Marks y ps) a (subst (λ l. Marks x l) b k)
        go (ended ending x) k h more = absurd (cc)

-- ---- a run with more instructions has as many moves

module _ (fetch : ℕ → Option (Instruction × ℕ)) (choices : Choices) where
  abbrev Same : (one other : MachineRun) → (moves others : ℕ) → Type 0
  Same (finished ending m d) (finished e u c) moves others = moves ≡ others
  Same one other moves others = ⊤

  taken_same : (t : Taking) (one other : Name → List Name → ℕ → MachineRun) (a b : Name → List Name → ℕ → ℕ) (m : Machine) (drawn : ℕ) (quiet : Bool) →
      ((p : Name) (others : List Name) (d : ℕ) → Same (one p others d) (other p others d) (a p others d) (b p others d)) →
      Same (go_on t one m drawn) (go_on t other m drawn) (counted quiet (moves_on t a)) (counted quiet (moves_on t b))
  taken_same nobody one other a b m drawn quiet h = refl
  taken_same (taking p others d) one other a b m drawn quiet h = more (one p others d) (other p others d) (a p others d) (b p others d) quiet (h p others d)
    where
      more : (r q : MachineRun) (x y : ℕ) (quiet : Bool) → Same r q x y → Same r q (counted quiet x) (counted quiet y)
      more unfinished q x y quiet k = tt
      more (finished ending m d) unfinished x y quiet k = tt
      more (finished ending m d) (finished e u c) x y quiet k = ap (counted quiet) k

  stepped_same : (s : Stepped) (one other : Machine → Name → List Name → ℕ → MachineRun) (a b : Machine → Name → List Name → ℕ → ℕ) (p : Name)
      (others : List Name) (drawn : ℕ) →
      ((m : Machine) (p : Name) (others : List Name) (d : ℕ) → Same (one m p others d) (other m p others d) (a m p others d) (b m p others d)) →
      Same (after_step choices one p others drawn s) (after_step choices other p others drawn s) (moved_after choices a p others drawn s)
      (moved_after choices b p others drawn s)
  stepped_same (ended ending m) one other a b p others drawn h = refl
  stepped_same (went m stays) one other a b p others drawn h = h m p others drawn
  stepped_same (went m (joins ps)) one other a b p others drawn h =
      taken_same (take_next choices drawn (others ++ ps)) (one m) (other m) (a m) (b m) m drawn (is_marked m.marks) (h m)

  runs_same : (n k : ℕ) (m : Machine) (p : Name) (others : List Name) (drawn : ℕ) →
      Same (run fetch choices n m p others drawn) (run fetch choices k m p others drawn) (moved fetch choices n m p others drawn)
      (moved fetch choices k m p others drawn)
  runs_same zero k m p others drawn = tt
  runs_same (suc n) zero m p others drawn = right (run fetch choices (suc n) m p others drawn) _
    where
      right : (r : MachineRun) (x : ℕ) → Same r unfinished x 0
      right unfinished x = tt
      right (finished ending m d) x = tt
  runs_same (suc n) (suc k) m p others drawn =
      stepped_same (step fetch m p others) (run fetch choices n) (run fetch choices k) (moved fetch choices n) (moved fetch choices k) p others drawn
      (runs_same n k)

  of_finished : (r q : MachineRun) (x y : ℕ) (a b : Ending) (m u : Machine) (c d : ℕ) → r ≡ finished a m c → q ≡ finished b u d → Same r q x y → x ≡ y
  of_finished unfinished q x y a b m u c d e f k = absurd (cc)
  of_finished (finished ending z w) unfinished x y a b m u c d e f k = absurd (cc)
  of_finished (finished ending z w) (finished o v t) x y a b m u c d e f k = k

  -- from a first step
  pub moved_once : (s : Stepped) (p : Name) (others : List Name) (drawn n k : ℕ) (a b : Ending) (m u : Machine) (c d : ℕ) →
      after_step choices (run fetch choices n) p others drawn s ≡ finished a m c → after_step choices (run fetch choices k) p others drawn s ≡ finished b u d →
      moved_after choices (moved fetch choices n) p others drawn s ≡ moved_after choices (moved fetch choices k) p others drawn s
  moved_once s p others drawn n k a b m u c d e f =
      of_finished (after_step choices (run fetch choices n) p others drawn s) (after_step choices (run fetch choices k) p others drawn s) _ _ a b m u c d e f
      (stepped_same s (run fetch choices n) (run fetch choices k) (moved fetch choices n) (moved fetch choices k) p others drawn (runs_same n k))

  -- ---- what a stint adds

  pub record Behind (n : ℕ) (m : Machine) (p : Name) (others : List Name) (drawn k : ℕ) (u : Machine) (ps : List Name) : Type 0 where
    pub steps : ℕ
    pub runs : run fetch choices steps m p others drawn ≡ go_on (take_next choices drawn (others ++ ps)) (run fetch choices k u) u drawn
    pub counts : moved fetch choices steps m p others drawn
        ≡ counted (is_marked u.marks) (moves_on (take_next choices drawn (others ++ ps)) (moved fetch choices k u))

  -- one that switches
  pub stint_adds : (n : ℕ) (m : Machine) (p : Name) (others : List Name) (drawn k : ℕ) (u : Machine) (ps : List Name) →
      stint fetch n m p others ≡ stints.switched u ps → Behind n m p others drawn k u ps
  stint_adds zero m p others drawn k u ps e = absurd (cc)
  stint_adds (suc n) m p others drawn k u ps e = go (step fetch m p others) refl e (λ x h. stint_adds n x p others drawn k u ps h)
    where
      go : (s : Stepped) → step fetch m p others ≡ s → stint_after (λ x. stint fetch n x p others) s ≡ stints.switched u ps →
          ((x : Machine) → stint fetch n x p others ≡ stints.switched u ps → Behind n x p others drawn k u ps) → Behind (suc n) m p others drawn k u ps
      go (went x stays) f h more =
          let r = more x h in
          record {
            steps = suc r.steps;
            runs = ap (after_step choices (run fetch choices r.steps) p others drawn) f ∙ r.runs;
            counts = ap (moved_after choices (moved fetch choices r.steps) p others drawn) f ∙ r.counts;
          }
      go (went x (joins qs)) f h more =
          let a : x ≡ u = cc in
          let b : qs ≡ ps = cc in
          record {
            steps = suc k;
            runs = ap (after_step choices (run fetch choices k) p others drawn) f
                ∙ (λ i. go_on (take_next choices drawn (others ++ b i)) (run fetch choices k (a i)) (a i) drawn);
            counts = ap (moved_after choices (moved fetch choices k) p others drawn) f
                ∙ (λ i. counted (is_marked (a i).marks) (moves_on (take_next choices drawn (others ++ b i)) (moved fetch choices k (a i))));
          }
      go (ended ending x) f h more = absurd (cc)

  pub record Over (m : Machine) (p : Name) (others : List Name) (drawn : ℕ) (ending : Ending) (u : Machine) : Type 0 where
    pub steps : ℕ
    pub runs : run fetch choices steps m p others drawn ≡ finished ending u drawn
    pub counts : moved fetch choices steps m p others drawn ≡ 0

  -- one that ends the run
  pub stint_ends : (n : ℕ) (m : Machine) (p : Name) (others : List Name) (drawn : ℕ) (ending : Ending) (u : Machine) →
      stint fetch n m p others ≡ stints.over ending u → Over m p others drawn ending u
  stint_ends zero m p others drawn ending u e = absurd (cc)
  stint_ends (suc n) m p others drawn ending u e = go (step fetch m p others) refl e (λ x h. stint_ends n x p others drawn ending u h)
    where
      go : (s : Stepped) → step fetch m p others ≡ s → stint_after (λ x. stint fetch n x p others) s ≡ stints.over ending u →
          ((x : Machine) → stint fetch n x p others ≡ stints.over ending u → Over x p others drawn ending u) → Over m p others drawn ending u
      go (went x stays) f h more =
          let r = more x h in
          record {
            steps = suc r.steps;
            runs = ap (after_step choices (run fetch choices r.steps) p others drawn) f ∙ r.runs;
            counts = ap (moved_after choices (moved fetch choices r.steps) p others drawn) f ∙ r.counts;
          }
      go (went x (joins qs)) f h more = absurd (cc)
      go (ended x z) f h more =
          let a : x ≡ ending = cc in
          let b : z ≡ u = cc in
          record {
            steps = 1;
            runs = ap (after_step choices (run fetch choices 0) p others drawn) f ∙ (λ i. finished (a i) (b i) drawn);
            counts = ap (moved_after choices (moved fetch choices 0) p others drawn) f;
          }
