-- What each call of the system keeps, a run of code keeps; and it draws no more choices than it has turns.
use Rattle.std.proofs.Common.{◌≡◌, ℕ, zero, suc, ◌+◌, ◌-◌, ◌/◌, ◌<◌, ◌≤◌, Bool, true, false, if◌then◌else◌, List, [], ◌∷◌, ◌++◌, length, Option, Some, None}
use Rattle.std.proofs.Common.{refl, sym, subst, arith}
use Rattle.std.specs.Prelude.{⊤}
use Rattle.edi_calls.specs.Calls.{CallResult, answered, no_file, file_limit, call}
use Rattle.edi_calls.specs.Choice.{Choices}
use Rattle.edi_calls.specs.Names.{Name, find, with_at, without}
use Rattle.edi_calls.specs.Outcome.{Ending}
use Rattle.edi_calls.specs.Ready.{child, parent_of, all_marked, stays, joins, Taking, nobody, taking, take_next, freed}
use Rattle.edi_calls.specs.State.{State, newest}
use Rattle.edi_target.specs.Op as op
use Rattle.edi_target.specs.Op.{Instruction, Branch}
use Rattle.edi_target.specs.Effect.{Local, Turn, entering, leaving, looping, arriving, again, forking, exiting, finishing, Effect, goes, released, asks, due}
use Rattle.edi_target.specs.Effect.{fails, bad}
use Rattle.edi_target.specs.Mach.{Running, Answer, on, behind, turned, over, called, turn_from, settled, effect_at, local_step, Standing, ready, at_when}
use Rattle.edi_target.specs.Mach.{awaits, waiting, Activity, Machine, Stepped, went, ended, running_of, activity_of, back, with_child, with_children, one_less}
use Rattle.edi_target.specs.Mach.{notified, at_turn, kernel, is_first, step_of, step, MachineRun, unfinished, finished, go_on, after_step, run, entered}
use Rattle.edi_target.specs.Moments.{news_of_call, news_of_effect, news_from, news_at}
use Rattle.edi_target.proofs.Histories.{Has, entered_has, step_has}

-- ---- turns

abbrev AnswerTurns : (turns : ℕ) → Answer → Type 0
AnswerTurns turns (on r) = r.turns ≤ turns
AnswerTurns turns (behind r) = r.turns ≤ turns
AnswerTurns turns (turned kind r) = r.turns < turns
AnswerTurns turns (over ending r) = r.turns ≤ turns

-- where others are to be taken, a turn was taken
abbrev StepTurns : (turns : ℕ) → Stepped → Type 0
StepTurns turns (ended ending m) = m.turns ≤ turns
StepTurns turns (went m stays) = m.turns ≤ turns
StepTurns turns (went m (joins ps)) = m.turns < turns

call_turns : (result : CallResult) (address : Option ℕ) (line : ℕ) (l : Local) (r : Running) → AnswerTurns r.turns (called result address line l r)
call_turns (answered words system) address line l r = omega arith
call_turns no_file address line l r = omega arith
call_turns file_limit address line l r = omega arith

turn_turns : (n : ℕ) (kind : Turn) (l : Local) (r : Running) → n ≡ r.turns → AnswerTurns r.turns (turn_from n kind l r)
turn_turns zero kind l r e = omega arith
turn_turns (suc n) kind l r e = omega arith

settled_turns : (e : Effect) (r : Running) → AnswerTurns r.turns (settled e r)
settled_turns (goes l) r = omega arith
settled_turns (released l) r = omega arith
settled_turns (asks number arguments address line l) r = call_turns (call number arguments r.system) address line l r
settled_turns (due kind l) r = turn_turns r.turns kind l r refl
settled_turns (fails c line) r = omega arith
settled_turns bad r = omega arith

turns_of_children : (p : Name) (f i base at share : ℕ) (branches : List Branch) (m : Machine)
    → (with_children p f i base at share branches m).turns ≡ m.turns
turns_of_children p f i base at share [] m = refl
turns_of_children p f i base at share (b ∷ bs) m = turns_of_children p f (suc i) base (at + share) share bs (with_child (child p f i) base at share b m)

freed_turns : (n t : ℕ) (q : Name) (m : Machine) → m.turns < t → StepTurns t (went m (freed n q))
freed_turns zero t q m h = h
freed_turns (suc n) t q m h = h

one_less_turns : (m : Machine) (q : Name) (a : Activity) (s : Standing) (t : ℕ) → m.turns < t → StepTurns t (one_less m q a s)
one_less_turns m q a ready t h = h
one_less_turns m q a at_when t h = h
one_less_turns m q a (waiting n) t h =
    freed_turns (n - 1) t q (record m { activities = with_at m.activities q (record a { standing = awaits (n - 1) }) }) h

told_turns : (m : Machine) (q : Name) (a : Option Activity) (t : ℕ) → m.turns < t → StepTurns t (notified m q a)
told_turns m q None t h = h
told_turns m q (Some a) t h = one_less_turns m q a a.standing t h

tested_turns : (b : Bool) (ending : Ending) (m : Machine) (ps : List Name) (t : ℕ) → m.turns < t
    → StepTurns t (if b then ended ending m else went m (joins ps))
tested_turns true ending m ps t h = omega (arith, h)
tested_turns false ending m ps t h = h

turned_turns : (m : Machine) (p : Name) (others : List Name) (a : Activity) (kind : Turn) (r : Running) (t : ℕ) → r.turns < t
    → StepTurns t (at_turn m p others a kind r)
turned_turns m p others a entering r t h = omega (arith, h)
turned_turns m p others a leaving r t h = omega (arith, h)
turned_turns m p others a looping r t h = omega (arith, h)
turned_turns m p others a arriving r t h = h
turned_turns m p others a (again false) r t h = h
turned_turns m p others a (again true) r t h = tested_turns (all_marked (p ∷ m.marks) (p ∷ others)) _ _ _ t h
turned_turns m p others a (forking branches) r t h = omega (
  arith,
  h,
  turns_of_children p (suc a.forks) 0 r.local.base r.local.end ((r.local.last - r.local.end) / length branches) branches
      (back m p (activity_of r.local (suc a.forks) (waiting (length branches))) [] r),
)
turned_turns m p others a exiting r t h = told_turns _ (parent_of p) (find (without m.activities p) (parent_of p)) t h
turned_turns m p others a finishing r t h = omega (arith, h)

kernel_turns : (m : Machine) (p : Name) (others : List Name) (a : Activity) (answer : Answer) (t : ℕ) → AnswerTurns t answer
    → StepTurns t (kernel m p others a answer)
kernel_turns m p others a (on r) t h = h
kernel_turns m p others a (behind r) t h = h
kernel_turns m p others a (turned kind r) t h = turned_turns m p others a kind r t h
kernel_turns m p others a (over ending r) t h = h

entered_turns : (found : Option (Instruction × ℕ)) (entry : ℕ) (calls : List ℕ) (bound : ℕ) (system : State)
    → StepTurns bound (entered found entry calls bound system)
entered_turns (Some (op.entry need r p v f, body)) entry calls zero system = omega arith
entered_turns (Some (op.entry need r p v f, body)) entry calls (suc n) system = omega arith
entered_turns None entry calls bound system = omega arith
entered_turns (Some x) entry calls bound system = omega arith

drawn_next : (choices : Choices) (drawn : ℕ) (queue : List Name) (p : Name) (others : List Name) (d : ℕ) → take_next choices drawn queue ≡ taking p others d
    → d ≤ drawn + 1
drawn_next choices drawn [] p others d e = absurd (cc)
drawn_next choices drawn (q ∷ []) p others d e = (let same : drawn ≡ d = cc in omega (arith, same))
drawn_next choices drawn (q ∷ r ∷ queue) p others d e = (let same : drawn + 1 ≡ d = cc in omega (arith, same))

-- ---- what calls keep

module _ (P : State → Type 0) (keeps : (number : ℕ) (words answer : List ℕ) (before after : State) → P before
    → call number words before ≡ answered answer after → P after) where
  call_keeps : (number : ℕ) (words : List ℕ) (s : State) (result : CallResult) → call number words s ≡ result → P s → P (newest s (news_of_call result))
  call_keeps number words s (answered answer after) e h = keeps number words answer s after h e
  call_keeps number words s no_file e h = h
  call_keeps number words s file_limit e h = h

  effect_keeps : (e : Effect) (s : State) → P s → P (newest s (news_of_effect e s))
  effect_keeps (goes l) s h = h
  effect_keeps (released l) s h = h
  effect_keeps (asks number arguments address line l) s h = call_keeps number arguments s (call number arguments s) refl h
  effect_keeps (due kind l) s h = h
  effect_keeps (fails c line) s h = h
  effect_keeps bad s h = h

  module _ (fetch : ℕ → Option (Instruction × ℕ)) (choices : Choices) (bound : ℕ) where
    news_keep : (m : Machine) (p : Name) (a : Option Activity) → P m.system → P (newest m.system (news_from fetch m p a))
    news_keep m p None h = h
    news_keep m p (Some a) h =
        effect_keeps (effect_at fetch (fetch a.pc) (length m.activities) (is_first p) (running_of m a).local) m.system h

    step_turns : (m : Machine) (p : Name) (others : List Name) (a : Option Activity) → StepTurns m.turns (step_of fetch m p others a)
    step_turns m p others None = omega arith
    step_turns m p others (Some a) =
        kernel_turns m p others a (local_step fetch (length m.activities) (is_first p) (running_of m a)) m.turns
        (settled_turns (effect_at fetch (fetch a.pc) (length m.activities) (is_first p) (running_of m a).local) (running_of m a))

    -- at the end of a run
    abbrev EndKeeps : MachineRun → Type 0
    EndKeeps unfinished = ⊤
    EndKeeps (finished ending m drawn) = P m.system × (drawn + m.turns ≤ bound)

    abbrev FromHere : (Machine → Name → List Name → ℕ → MachineRun) → Type 0
    FromHere more = (m : Machine) (p : Name) (others : List Name) (drawn : ℕ) → P m.system → drawn + m.turns ≤ bound → EndKeeps (more m p others drawn)

    taken_keeps : (more : Machine → Name → List Name → ℕ → MachineRun) → FromHere more → (m : Machine) (drawn : ℕ) (queue : List Name) → P m.system
        → suc (drawn + m.turns) ≤ bound → (t : Taking) → take_next choices drawn queue ≡ t → EndKeeps (go_on t (more m) m drawn)
    taken_keeps more each m drawn queue h few nobody e = (h, omega (arith, few))
    taken_keeps more each m drawn queue h few (taking p others d) e =
        each m p others d h (omega (arith, few, drawn_next choices drawn queue p others d e))

    stepped_keeps : (more : Machine → Name → List Name → ℕ → MachineRun) → FromHere more → (p : Name) (others : List Name) (drawn turns : ℕ) (s : Stepped)
        (x : State) → Has x s → P x → StepTurns turns s → drawn + turns ≤ bound → EndKeeps (after_step choices more p others drawn s)
    stepped_keeps more each p others drawn turns (ended ending m) x has h fewer few = (subst P (sym has) h, omega (arith, few, fewer))
    stepped_keeps more each p others drawn turns (went m stays) x has h fewer few =
        each m p others drawn (subst P (sym has) h) (omega (arith, few, fewer))
    stepped_keeps more each p others drawn turns (went m (joins ps)) x has h fewer few =
        taken_keeps more each m drawn (others ++ ps) (subst P (sym has) h) (omega (arith, few, fewer)) (take_next choices drawn (others ++ ps)) refl

    run_keeps : (n : ℕ) → FromHere (run fetch choices n)
    run_keeps zero m p others drawn h few = tt
    run_keeps (suc n) m p others drawn h few =
        stepped_keeps (run fetch choices n) (run_keeps n) p others drawn m.turns (step fetch m p others) (newest m.system (news_at fetch m p))
        (step_has fetch m p others) (news_keep m p (find m.activities p) h) (step_turns m p others (find m.activities p)) few

    pub run_from_start_keeps : (entry : ℕ) (calls : List ℕ) (system : State) (n : ℕ) (ending : Ending) (m : Machine) (drawn : ℕ) → P system
        → after_step choices (run fetch choices n) [] [] 0 (entered (fetch entry) entry calls bound system) ≡ finished ending m drawn
        → P m.system × (drawn + m.turns ≤ bound)
    run_from_start_keeps entry calls system n ending m drawn h e =
        subst EndKeeps e
        (stepped_keeps (run fetch choices n) (run_keeps n) [] [] 0 bound (entered (fetch entry) entry calls bound system) system
        (entered_has (fetch entry) entry calls bound system) h (entered_turns (fetch entry) entry calls bound system) (omega arith))
