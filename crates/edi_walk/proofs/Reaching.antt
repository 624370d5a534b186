-- How far a walk has come, and where it ends.
use Rattle.std.proofs.Common.{◌≡◌, ℕ, zero, suc, ◌+◌, ◌-◌, ◌<◌, ◌≤◌, ◌^◌, List, [], ◌∷◌, ◌++◌, Option, Ok, Err}
use Rattle.std.proofs.Common.{refl, sym, subst, ap, ◌∙◌, arith, append_assoc}
use Rattle.std.specs.Prelude.{⊤, Contains}
use Rattle.std.proofs.lemmas.List.{append-nil}
use Rattle.edi_calls.specs.Calls.{answered, call}
use Rattle.edi_calls.specs.Choice.{Choices}
use Rattle.edi_calls.specs.Ends.{IsTorn}
use Rattle.edi_calls.specs.Names.{Name}
use Rattle.edi_calls.specs.Outcome as outcome
use Rattle.edi_calls.specs.Outcome.{Ending}
use Rattle.edi_calls.specs.Ready.{Taking, nobody, taking, take_next}
use Rattle.edi_calls.specs.State.{State, Traced, after_call, begun, moments_of, newest}
use Rattle.edi_trace.specs.Drawn.{Drawn}
use Rattle.edi_unit.specs.Tree.{ProgramUnit}
use Rattle.edi_meaning.specs.Evaluation.{World}
use Rattle.edi_meaning.specs.Laws.{GoesFrom, Grows}
use Rattle.edi_meaning.specs.Select.{Selected, unfinished, finished, stepped_first}
use Rattle.edi_meaning.specs.Step.{Processes, Stepped, went, ended, step, start}
use Rattle.edi_meaning.proofs.Going.{goes_all, goes_same, grows_all, step_goes}
use Rattle.edi_walk.specs.declared.stop.Stop.{Stop}
use Rattle.edi_walk.specs.declared.stop.Stop.TheVariants as stop
use Rattle.edi_walk.specs.declared.walker.Walker as code_walker
use Rattle.edi_walk.specs.Ends.{end_for, StopBlames, WalkBlames, WalkedTo, WalkFails, WalkFailsBy, WalkFaultsBy, WalkIsCut, WalksTo}
use Rattle.edi_walk.specs.declared.walking.WalkEnd.{WalkEnd}
use Rattle.edi_calls.specs.declared.ends.Outside.{Outside}
use Rattle.edi_told.specs.Faults.{CountRose}
use Rattle.edi_walk.specs.Processes.{Holds}
use Rattle.edi_walk.specs.Walk.{behind_step, joining, taken_step, walked, WalkEnds}
use Rattle.edi_walk.specs.Walkers.{StepEnds, StepFails, StepIsCut, StepOn, TakenMakes, Walks}
use Rattle.edi_walk.proofs.Ends.{by_turns}

-- ---- walks only go on

abbrev EndsOn : World → (drawn : ℕ) → Selected → Type 0
EndsOn w drawn unfinished = ⊤
EndsOn w drawn (finished ending last turns d order) = GoesFrom w last turns × (drawn ≤ d)

first_on : (p : Name) (w : World) (drawn : ℕ) (r : Selected) → EndsOn w drawn r → EndsOn w drawn (stepped_first p r)
first_on p w drawn unfinished h = tt
first_on p w drawn (finished ending last turns d order) h = h

from_on : (w v : World) (drawn d : ℕ) (r : Selected) → GoesFrom w v.system v.turns → drawn ≤ d → EndsOn v d r → EndsOn w drawn r
from_on w v drawn d unfinished g h k = tt
from_on w v drawn d (finished ending last turns e order) g h k = (goes_all w v last turns g k.0, omega (arith, h, k.1))

drawn_next : (choices : Choices) (drawn : ℕ) (listed : List Name) (p : Name) (others : List Name) (d : ℕ) → take_next choices drawn listed ≡ taking p others d → drawn ≤ d
drawn_next choices drawn [] p others d e = absurd (cc)
drawn_next choices drawn (n ∷ []) p others d e = let f : drawn ≡ d = last_of _ _ _ _ _ _ e in omega (arith, f)
  where
    last_of : (a b : Name) (l m : List Name) (x y : ℕ) → taking a l x ≡ taking b m y → x ≡ y
    last_of a b l m x y e = cc
drawn_next choices drawn (n ∷ m ∷ ns) p others d e = let f : drawn + 1 ≡ d = last_of _ _ _ _ _ _ e in omega (arith, f)
  where
    last_of : (a b : Name) (l m : List Name) (x y : ℕ) → taking a l x ≡ taking b m y → x ≡ y
    last_of a b l m x y e = cc

lower : (a b : ℕ) (w : World) (r : Selected) → a ≤ b → EndsOn w b r → EndsOn w a r
lower a b w unfinished h k = tt
lower a b w (finished ending last turns d order) h k = (k.0, omega (arith, h, k.1))

-- a step goes on from the world where it began
step_goes_on : (unit : ProgramUnit) (s : Processes) (p : Name) → StepOn s.world (step unit s p)
step_goes_on unit s p = step_goes unit s p

module _ (unit : ProgramUnit) (choices : Choices) where
  -- the rest of a walk goes on from the world where a step has led
  behind_on : (more : Processes → List Name → ℕ → Selected) → ((s : Processes) (listed : List Name) (d : ℕ) → EndsOn s.world d (more s listed d)) →
      (p : Name) (others : List Name) (d : ℕ) (w : World) (x : Stepped) → StepOn w x → EndsOn w d (behind_step more p others d x)
  behind_on more ends p others d w (ended e system turns) h = (h, omega arith)
  behind_on more ends p others d w (went s next quiet) h =
      from_on w s.world d d (more s (others ++ joining p next) d) h (omega arith) (ends s (others ++ joining p next) d)

  taking_on : (n : ℕ) (s : Processes) (listed : List Name) (drawn : ℕ) →
      ((t : Processes) (l : List Name) (d : ℕ) → EndsOn t.world d (walked unit choices n t l d)) → (k : Taking) → take_next choices drawn listed ≡ k →
      EndsOn s.world drawn (taken_step unit (walked unit choices n) s drawn k)
  taking_on n s listed drawn ends nobody e = (goes_same s.world, omega arith)
  taking_on n s listed drawn ends (taking p others d) e =
      first_on p s.world drawn (behind_step (walked unit choices n) p others d (step unit s p))
      (lower drawn d s.world (behind_step (walked unit choices n) p others d (step unit s p)) (drawn_next choices drawn listed p others d e)
      (behind_on (walked unit choices n) ends p others d s.world (step unit s p) (step_goes_on unit s p)))

  pub walked_on : (n : ℕ) (s : Processes) (listed : List Name) (drawn : ℕ) → EndsOn s.world drawn (walked unit choices n s listed drawn)
  walked_on zero s listed drawn = tt
  walked_on (suc n) s listed drawn = taking_on n s listed drawn (walked_on n) (take_next choices drawn listed) refl

-- ---- how far a walk has come

-- the rest of the walk from here leads to an end of the whole
abbrev Leads : ProgramUnit → State → (bound : ℕ) → (old : Drawn) → Processes → List Name → (drawn : ℕ) → Type 0
Leads unit system bound old s listed drawn =
    (n : ℕ) (ending : Ending) (last : Traced) (turns d : ℕ) (order : List Name) →
    walked unit old.source n s listed drawn ≡ finished ending last turns d order →
    (whole : List Name) × WalkEnds unit system bound old.source old.drawn ending last turns d whole

pub record Reached (unit : ProgramUnit) (bound : ℕ) (old : Drawn) (w : code_walker.Walker) (new : Drawn) (first now : State) : Type 0 where
  pub processes : Processes
  pub listed : List Name
  pub holds : Holds unit bound w processes listed
  pub system_is : processes.world.system.now ≡ now
  pub grew : Grows (begun first) processes.world.system
  pub leads : Leads unit first bound old processes listed new.drawn

pub reached_first : (unit : ProgramUnit) (bound : ℕ) (old : Drawn) (w : code_walker.Walker) (first : State) → Holds unit bound w (start unit first bound) ([] ∷ []) →
    Reached unit bound old w old first first
reached_first unit bound old w first h = record {
  processes = start unit first bound;
  listed = [] ∷ [];
  holds = h;
  system_is = refl;
  grew = ([], refl, refl);
  leads = λ n ending last turns d order e. (order, (n, e));
}

-- the walk from here, by who is taken
module _ (unit : ProgramUnit) (old : Drawn) (s : Processes) (listed : List Name) (drawn : ℕ) (p : Name) (others : List Name) (d : ℕ)
    (taken : take_next old.source drawn listed ≡ taking p others d) where
  walked_by : (n : ℕ) → walked unit old.source (suc n) s listed drawn ≡ stepped_first p (behind_step (walked unit old.source n) p others d (step unit s p))
  walked_by n = ap (taken_step unit (walked unit old.source n) s drawn) taken

-- one more step
pub reached_next : (unit : ProgramUnit) (bound : ℕ) (old mid_drawn new : Drawn) (mid w : code_walker.Walker) (first t u : State) → mid_drawn.source ≡ old.source →
    mid_drawn.drawn < 2 ^ 64 - 1 → Reached unit bound old mid mid_drawn first t → Walks (Ok tt) mid w mid_drawn new t u → Reached unit bound old w new first u
reached_next unit bound old mid_drawn new mid w first t u same few r walks =
    by_taking (take_next mid_drawn.source mid_drawn.drawn r.listed) refl (walks unit bound r.processes r.listed few r.holds r.system_is)
  where
    by_taking : (x : Taking) → take_next mid_drawn.source mid_drawn.drawn r.listed ≡ x → TakenMakes unit bound r.processes x mid_drawn.drawn new.drawn (Ok tt) w u →
        Reached unit bound old w new first u
    by_taking nobody e h = absurd h
    by_taking (taking p others d) e h =
        let k = h.1 in
        let taken : take_next old.source mid_drawn.drawn r.listed ≡ taking p others d = ap (λ c. take_next c mid_drawn.drawn r.listed) (sym same) ∙ e in
        record {
          processes = k.state;
          listed = others ++ joining p k.next;
          holds = k.holds;
          system_is = k.system_is;
          grew = grows_all (begun first) r.processes.world.system k.state.world.system r.grew (went_on (step unit r.processes p) k.is (step_goes_on unit r.processes p));
          leads = λ n ending last turns c order f.
              r.leads (suc n) ending last turns c (p ∷ order)
              (walked_by unit old r.processes r.listed mid_drawn.drawn p others d taken n
              ∙ ap (λ y. stepped_first p (behind_step (walked unit old.source n) p others d y)) k.is
              ∙ ap (stepped_first p) (ap (walked unit old.source n k.state (others ++ joining p k.next)) (sym h.0) ∙ f));
        }
      where
        went_on : (y : Stepped) → y ≡ went h.1.state h.1.next h.1.quiet → StepOn r.processes.world y → Grows r.processes.world.system h.1.state.world.system
        went_on y e g = (subst (StepOn r.processes.world) e g).2

-- ---- the end of a walk

-- a call of this number leads from the one state to the other
record IsMade (number : ℕ) (before next : State) : Type 0 where
  arguments : List ℕ
  answer : List ℕ
  is : call number arguments before ≡ answered answer next

-- every walk from here ends
ends_somehow : (unit : ProgramUnit) (choices : Choices) (s : Processes) (listed : List Name) (drawn : ℕ) →
    (n : ℕ) × (ending : Ending) × (last : Traced) × (turns : ℕ) × (d : ℕ) × (order : List Name)
    × (walked unit choices n s listed drawn ≡ finished ending last turns d order)
ends_somehow unit choices s listed drawn =
    let e = by_turns unit choices (suc s.world.turns) s listed drawn (omega arith) in (e.0, e.1.0, e.1.1, e.1.2, e.1.3, e.1.4, e.1.5)

contained : (xs ys : List State) (x : State) → Contains (xs ++ x ∷ ys) x
contained [] ys x = (0, omega arith, refl)
contained (z ∷ xs) ys x = let c = contained xs ys x in (suc c.0, omega (arith, c.1), c.2)

-- a system of the past is one of the moments
moment_there : (first : State) (system last : Traced) → Grows (begun first) system → Grows system last → Contains (moments_of first last.past) system.now
moment_there first system last g h = by_news g.0 (g.1 ∙ append-nil g.0) g.2
  where
    by_news : (news : List State) → system.past ≡ news → newest first news ≡ system.now → Contains (last.past ++ first ∷ []) system.now
    by_news [] e n =
        subst (λ x. Contains (last.past ++ first ∷ []) x) n (contained last.past [] first)
    by_news (x ∷ news) e n =
        subst (λ y. Contains (last.past ++ first ∷ []) y) n
        (subst (λ l. Contains l x) (sym (ap (λ l. l ++ first ∷ []) (h.1 ∙ ap (λ l. h.0 ++ l) e) ∙ append_assoc h.0 (x ∷ news) (first ∷ [])))
        (contained h.0 (news ++ first ∷ []) x))

-- it was given up before a step
pub cut_here : (unit : ProgramUnit) (bound : ℕ) (old mid_drawn : Drawn) (mid : code_walker.Walker) (first t : State) → mid_drawn.source ≡ old.source →
    Reached unit bound old mid mid_drawn first t → WalkIsCut unit first bound old t mid_drawn
cut_here unit bound old mid_drawn mid first t same r =
    let e = ends_somehow unit old.source r.processes r.listed mid_drawn.drawn in
    let on = subst (EndsOn r.processes.world mid_drawn.drawn) e.6 (walked_on unit old.source e.0 r.processes r.listed mid_drawn.drawn) in
    let w = r.leads e.0 e.1 e.2 e.3 e.4 e.5 e.6 in
    record {
      ending = e.1;
      last = e.2;
      turns = e.3;
      drawn = e.4;
      order = w.0;
      is = w.1;
      moment = subst (λ x. Contains (moments_of first e.2.past) x) r.system_is (moment_there first r.processes.world.system e.2 r.grew on.0.2);
      draws = on.1;
    }

module _ (unit : ProgramUnit) (bound : ℕ) (old mid_drawn : Drawn) (mid : code_walker.Walker) (first t : State) (same : mid_drawn.source ≡ old.source)
    (few : mid_drawn.drawn < 2 ^ 64 - 1) (r : Reached unit bound old mid mid_drawn first t) where
  -- the walk of the definition goes through this world, in the step that was taken
  through : (p : Name) (others : List Name) (d : ℕ) (w : World) → take_next mid_drawn.source mid_drawn.drawn r.listed ≡ taking p others d →
      StepOn w (step unit r.processes p) →
      (ending : Ending) × (last : Traced) × (turns : ℕ) × (drawn : ℕ) × (order : List Name)
      × WalkEnds unit first bound old.source old.drawn ending last turns drawn order × GoesFrom w last turns × (d ≤ drawn)
  through p others d w taken on =
      let e = ends_somehow unit old.source r.processes r.listed mid_drawn.drawn in
      let g = r.leads e.0 e.1 e.2 e.3 e.4 e.5 e.6 in
      let k = by_steps e.0 e.1 e.2 e.3 e.4 e.5 e.6 in
      (e.1, e.2, e.3, e.4, g.0, g.1, k.0, k.1)
    where
      by_steps : (n : ℕ) (ending : Ending) (last : Traced) (turns c : ℕ) (order : List Name) →
          walked unit old.source n r.processes r.listed mid_drawn.drawn ≡ finished ending last turns c order → GoesFrom w last turns × (d ≤ c)
      by_steps zero ending last turns c order e = absurd (cc)
      by_steps (suc n) ending last turns c order e =
          subst (EndsOn w d)
          (sym (walked_by unit old r.processes r.listed mid_drawn.drawn p others d (ap (λ x. take_next x mid_drawn.drawn r.listed) (sym same) ∙ taken) n) ∙ e)
          (first_on p w d (behind_step (walked unit old.source n) p others d (step unit r.processes p))
          (behind_on unit old.source (walked unit old.source n) (walked_on unit old.source n) p others d w (step unit r.processes p) on))

  -- it has ended so
  ended_so : (new : Drawn) (p : Name) (others : List Name) (d : ℕ) (ending : Ending) (u : State) → take_next mid_drawn.source mid_drawn.drawn r.listed ≡ taking p others d →
      new.drawn ≡ d → StepEnds unit r.processes p ending u → WalkedTo unit first bound old ending u new
  ended_so new p others d ending u taken drawn h =
      let g = r.leads 1 ending h.system h.turns new.drawn (p ∷ [])
      (walked_by unit old r.processes r.listed mid_drawn.drawn p others d (ap (λ x. take_next x mid_drawn.drawn r.listed) (sym same) ∙ taken) 0
      ∙ ap (λ y. stepped_first p (behind_step (walked unit old.source 0) p others d y)) h.is
      ∙ ap (λ c. finished ending h.system h.turns c (p ∷ [])) (sym drawn)) in
      record { last = h.system; turns = h.turns; order = g.0; is = g.1; system_is = h.system_is }

  fails_so : (number : ℕ) (new : Drawn) (p : Name) (others : List Name) (d : ℕ) (u : State) →
      take_next mid_drawn.source mid_drawn.drawn r.listed ≡ taking p others d → new.drawn ≡ d → StepFails number unit r.processes p u → (f : WalkFails unit first bound old u new)
      × IsMade number (newest first f.earlier) f.next
  fails_so number new p others d u taken drawn h =
      let e = through p others d h.world taken h.goes in
      let grew = grows_all (begun first) r.processes.world.system h.before r.grew h.grew in
      let after : Grows (after_call h.next h.before) e.1 = subst (λ y. Grows y e.1) h.world_is e.6.2 in
      let same : h.before.now ≡ newest first h.before.past = sym (ap (newest first) (grew.1 ∙ append-nil grew.0) ∙ grew.2) in (
        record {
          ending = e.0;
          last = e.1;
          turns = e.2;
          drawn = e.3;
          order = e.4;
          is = e.5;
          later = after.0;
          earlier = h.before.past;
          next = h.next;
          past = after.1;
          torn = subst (λ y. IsTorn y h.next u) same h.torn;
          draws = omega (arith, drawn, e.7);
        },
        record { arguments = h.arguments; answer = h.answer; is = subst (λ y. call number h.arguments y ≡ answered h.answer h.next) same h.answers },
      )

  cut_so : (new : Drawn) (p : Name) (others : List Name) (d : ℕ) (u : State) → take_next mid_drawn.source mid_drawn.drawn r.listed ≡ taking p others d →
      new.drawn ≡ d → StepIsCut unit r.processes p u → WalkIsCut unit first bound old u new
  cut_so new p others d u taken drawn h =
      let e = through p others d h.world taken h.goes in
      let grew = grows_all (begun first) r.processes.world.system h.world.system r.grew h.grew in
      record {
        ending = e.0;
        last = e.1;
        turns = e.2;
        drawn = e.3;
        order = e.4;
        is = e.5;
        moment = subst (λ x. Contains (moments_of first e.1.past) x) h.system_is (moment_there first h.world.system e.1 grew e.6.2);
        draws = omega (arith, drawn, e.7);
      }

  nobody_left : (new : Drawn) (u : State) → take_next mid_drawn.source mid_drawn.drawn r.listed ≡ nobody → new.drawn ≡ mid_drawn.drawn →
      r.processes.world.system.now ≡ u → WalkedTo unit first bound old outcome.turns u new
  nobody_left new u taken drawn i =
      let g = r.leads 1 outcome.turns r.processes.world.system r.processes.world.turns new.drawn []
      (ap (taken_step unit (walked unit old.source 0) r.processes mid_drawn.drawn) (ap (λ x. take_next x mid_drawn.drawn r.listed) (sym same) ∙ taken)
      ∙ ap (λ c. finished outcome.turns r.processes.world.system r.processes.world.turns c []) (sym drawn)) in
      record { last = r.processes.world.system; turns = r.processes.world.turns; order = g.0; is = g.1; system_is = i }

  pub walk_ends : (new : Drawn) (w : code_walker.Walker) (u : State) (x : Stop) → Walks (Err x) mid w mid_drawn new t u → WalksTo unit first bound old (end_for x) u new
  walk_ends new w u x walks = by_taking (take_next mid_drawn.source mid_drawn.drawn r.listed) refl x (walks unit bound r.processes r.listed few r.holds r.system_is)
    where
      by_taking : (k : Taking) → take_next mid_drawn.source mid_drawn.drawn r.listed ≡ k → (x : Stop) →
          TakenMakes unit bound r.processes k mid_drawn.drawn new.drawn (Err x) w u → WalksTo unit first bound old (end_for x) u new
      by_taking nobody e stop.Turns h = nobody_left new u e h.0 h.1
      by_taking nobody e stop.Done h = absurd h
      by_taking nobody e (stop.Halted line) h = absurd h
      by_taking nobody e (stop.Failed c line) h = absurd h
      by_taking nobody e (stop.Fault number) h = absurd h
      by_taking nobody e stop.NoMemory h = absurd h
      by_taking (taking p others d) e stop.Turns h = ended_so new p others d outcome.turns u e h.0 h.1
      by_taking (taking p others d) e stop.Done h = ended_so new p others d outcome.done u e h.0 h.1
      by_taking (taking p others d) e (stop.Halted line) h = ended_so new p others d (outcome.halted line) u e h.0 h.1
      by_taking (taking p others d) e (stop.Failed c line) h = ended_so new p others d (outcome.failed c line) u e h.0 h.1
      by_taking (taking p others d) e (stop.Fault number) h = (fails_so number new p others d u e h.0 h.1).0
      by_taking (taking p others d) e stop.NoMemory h = cut_so new p others d u e h.0 h.1

  -- the call in which it failed is of the number that is told
  pub walk_asks : (failed : Option Outside → Type 0) (faults now : Outside → ℕ) (new : Drawn) (w : code_walker.Walker) (u : State) (x : Stop) →
      StopBlames (Err x) failed faults now → Walks (Err x) mid w mid_drawn new t u → WalkFaultsBy failed unit first bound old (end_for x) u new
  walk_asks failed faults now new w u stop.Done b walks = tt
  walk_asks failed faults now new w u (stop.Halted line) b walks = tt
  walk_asks failed faults now new w u (stop.Failed c line) b walks = tt
  walk_asks failed faults now new w u stop.Turns b walks = tt
  walk_asks failed faults now new w u stop.NoMemory b walks = tt
  walk_asks failed faults now new w u (stop.Fault number) b walks =
      by_taking (take_next mid_drawn.source mid_drawn.drawn r.listed) refl (walks unit bound r.processes r.listed few r.holds r.system_is)
    where
      by_taking : (k : Taking) → take_next mid_drawn.source mid_drawn.drawn r.listed ≡ k →
          TakenMakes unit bound r.processes k mid_drawn.drawn new.drawn (Err (stop.Fault number)) w u → WalkFailsBy failed unit first bound old u new
      by_taking nobody e h = absurd h
      by_taking (taking p others d) e h =
          let f = fails_so number new p others d u e h.0 h.1 in
          record {
            fails = f.0;
            outside = b.0;
            failed_is = b.1;
            asks = record { number = number; arguments = f.1.arguments; answer = f.1.answer; is = f.1.is; uses_it = b.3 };
          }

-- it was given up before there was anything
pub cut_first : (unit : ProgramUnit) (bound : ℕ) (old : Drawn) (s : State) → WalkIsCut unit s bound old s old
cut_first unit bound old s =
    let e = ends_somehow unit old.source (start unit s bound) ([] ∷ []) old.drawn in
    let on = subst (EndsOn (start unit s bound).world old.drawn) e.6 (walked_on unit old.source e.0 (start unit s bound) ([] ∷ []) old.drawn) in
    record {
      ending = e.1;
      last = e.2;
      turns = e.3;
      drawn = e.4;
      order = e.5;
      is = (e.0, e.6);
      moment = moment_there s (begun s) e.2 ([], refl, refl) on.0.2;
      draws = on.1;
    }

rose_since : (a b c : ℕ) → a ≤ b → CountRose b c → CountRose a c
rose_since a b c h k = omega (arith, h, k)

-- what has failed in a step has failed in the walk, and its count has risen since the walk began
pub blames_since : (x : Stop) (e : WalkEnd) (failed : Option Outside → Type 0) (first before now : Outside → ℕ) → ((outside : Outside) → first outside ≤ before outside) →
    e ≡ end_for x → StopBlames (Err x) failed before now → WalkBlames e failed first now
blames_since x e failed first before now less is h = subst (λ k. WalkBlames k failed first now) (sym is) (by_stop x h)
  where
    by_stop : (x : Stop) → StopBlames (Err x) failed before now → WalkBlames (end_for x) failed first now
    by_stop stop.Done h = h
    by_stop (stop.Halted line) h = h
    by_stop (stop.Failed c line) h = h
    by_stop stop.Turns h = h
    by_stop (stop.Fault number) h = (h.0, h.1, rose_since (first h.0) (before h.0) (now h.0) (less h.0) h.2)
    by_stop stop.NoMemory h = h
