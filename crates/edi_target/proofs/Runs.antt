-- Every run ends, and in one way.
use Rattle.std.proofs.Common.{◌≡◌, ℕ, zero, suc, ◌+◌, ◌-◌, ◌/◌, ◌<◌, ◌≤◌, ◌⊎◌, inl, inr, Bool, true, false, if◌then◌else◌, List, [], ◌∷◌, ◌++◌, length}
use Rattle.std.proofs.Common.{Option, Some, None, refl, sym, subst, ap, ◌∙◌, arith}
use Rattle.std.proofs.lemmas.Bool.{cases_lt}
use Rattle.std.specs.Prelude.{⊤}
use Rattle.edi_calls.specs.State.{State}
use Rattle.edi_calls.specs.Calls.{CallResult, answered, no_file, file_limit, call}
use Rattle.edi_calls.specs.Choice.{Choices}
use Rattle.edi_calls.specs.Names.{Name, find, with_at, without}
use Rattle.edi_calls.proofs.Tables.{find-with_at-same}
use Rattle.edi_calls.specs.Outcome as outcome
use Rattle.edi_calls.specs.Outcome.{Ending, Outcome, outcome_of}
use Rattle.edi_target.specs.Op.{Instruction, Branch}
use Rattle.edi_calls.specs.Ready.{child, parent_of, all_marked, stays, joins, Taking, nobody, taking, take_next, freed}
use Rattle.edi_target.specs.Effect.{Local, Turn, entering, leaving, looping, arriving, again, forking, exiting, finishing, Effect, goes, released, asks, due}
use Rattle.edi_target.specs.Effect.{fails, bad}
use Rattle.edi_target.specs.Perform.{perform}
use Rattle.edi_target.specs.Mach.{Running, Answer, on, behind, turned, over, answer_at, called, turn_from, settled, effect_at, local_step, Standing, ready}
use Rattle.edi_target.specs.Mach.{at_when, waiting, Activity, Machine, Stepped, went, ended, running_of, activity_of, back, with_child, with_children}
use Rattle.edi_target.specs.Mach.{awaits, one_less, notified, at_turn, kernel, is_first, step_of, step, MachineRun, unfinished, finished, go_on}
use Rattle.edi_target.specs.Mach.{after_step, run, entered}
use Rattle.edi_target.specs.Laws.{MovesUp, StandsBelow, EveryRunEnds, RunsAreDetermined}
use Rattle.edi_target.specs.Fetch as code
use Rattle.edi_target.proofs.Progress.{each_moves_up}
use Rattle.edi_target.proofs.Stands.{code_stands_below}

-- ---- a run of more instructions has the same end

taken_more : (t : Taking) (one other : Name → List Name → ℕ → MachineRun) (m : Machine) (drawn : ℕ) (r : MachineRun) →
    ((p : Name) (others : List Name) (d : ℕ) → one p others d ≡ r → other p others d ≡ r) →
    go_on t one m drawn ≡ r → go_on t other m drawn ≡ r
taken_more nobody one other m drawn r h e = e
taken_more (taking p others d) one other m drawn r h e = h p others d e

stepped_more : (choices : Choices) (s : Stepped) (one other : Machine → Name → List Name → ℕ → MachineRun) (p : Name) (others : List Name) (drawn : ℕ)
    (r : MachineRun) →
    ((m : Machine) (p : Name) (others : List Name) (d : ℕ) → one m p others d ≡ r → other m p others d ≡ r) →
    after_step choices one p others drawn s ≡ r → after_step choices other p others drawn s ≡ r
stepped_more choices (ended ending m) one other p others drawn r h e = e
stepped_more choices (went m stays) one other p others drawn r h e = h m p others drawn e
stepped_more choices (went m (joins ps)) one other p others drawn r h e =
    taken_more (take_next choices drawn (others ++ ps)) (one m) (other m) m drawn r (h m) e

module _ (fetch : ℕ → Option (Instruction × ℕ)) (choices : Choices) where
  run_more : (n k : ℕ) (ending : Ending) (end : Machine) (d : ℕ) → n ≤ k → (m : Machine) (p : Name) (others : List Name) (drawn : ℕ) →
      run fetch choices n m p others drawn ≡ finished ending end d → run fetch choices k m p others drawn ≡ finished ending end d
  run_more zero k ending end d le m p others drawn e = absurd (cc)
  run_more (suc n) zero ending end d le m p others drawn e = absurd (omega arith)
  run_more (suc n) (suc k) ending end d le m p others drawn e =
      stepped_more choices (step fetch m p others) (run fetch choices n) (run fetch choices k) p others drawn (finished ending end d)
      (run_more n k ending end d (omega arith)) e

  -- ---- a step takes a turn, ends the run, or moves the program counter of its process up

  module _ (size : ℕ) (below : StandsBelow size fetch) where
    abbrev Climbs : (turns at : ℕ) → Running → Type 0
    Climbs turns at r = (r.turns ≡ turns) × (at < r.local.pc) × (at < size)

    abbrev AnswerFalls : (turns at : ℕ) → Answer → Type 0
    AnswerFalls turns at (on r) = Climbs turns at r
    AnswerFalls turns at (behind r) = Climbs turns at r
    AnswerFalls turns at (turned kind r) = r.turns < turns
    AnswerFalls turns at (over ending r) = ⊤

    abbrev Falls : (turns at : ℕ) → Name → Stepped → Type 0
    Falls turns at p (ended ending m) = ⊤
    Falls turns at p (went m stays) =
        (m.turns < turns) ⊎ ((m.turns ≡ turns) × ((a : Activity) × (find m.activities p ≡ Some a) × (at < a.pc)) × (at < size))
    Falls turns at p (went m (joins ps)) = m.turns < turns

    turn_falls : (n : ℕ) (kind : Turn) (l : Local) (r : Running) (at : ℕ) → n ≡ r.turns → AnswerFalls r.turns at (turn_from n kind l r)
    turn_falls zero kind l r at e = tt
    turn_falls (suc n) kind l r at e = omega arith

    pc_of_answer : (address : Option ℕ) (words : List ℕ) (l : Local) → (answer_at address words l).pc ≡ l.pc
    pc_of_answer None words l = refl
    pc_of_answer (Some a) words l = refl

    call_falls : (result : CallResult) (address : Option ℕ) (line : ℕ) (l : Local) (r : Running) (at : ℕ) → at < l.pc → at < size
        → AnswerFalls r.turns at (called result address line l r)
    call_falls (answered words system) address line l r at h k = (refl, omega (arith, pc_of_answer address words l), k)
    call_falls no_file address line l r at h k = tt
    call_falls file_limit address line l r at h k = tt

    settled_falls : (e : Effect) (r : Running) (at : ℕ) → MovesUp at e → at < size → AnswerFalls r.turns at (settled e r)
    settled_falls (goes l) r at h k = (refl, h, k)
    settled_falls (released l) r at h k = (refl, h, k)
    settled_falls (asks number arguments address line l) r at h k = call_falls (call number arguments r.system) address line l r at h k
    settled_falls (due kind l) r at h k = turn_falls r.turns kind l r at refl
    settled_falls (fails c line) r at h k = tt
    settled_falls bad r at h k = tt

    local_falls : (found : Option (Instruction × ℕ)) (live : ℕ) (first : Bool) (r : Running) → fetch r.local.pc ≡ found → AnswerFalls r.turns r.local.pc
        (settled (effect_at fetch found live first r.local) r)
    local_falls None live first r e = tt
    local_falls (Some (i, next)) live first r e =
        let b : (r.local.pc < size) × (r.local.pc < next) = below r.local.pc (i, next) e in
        settled_falls (perform fetch live first i next r.local) r r.local.pc (each_moves_up fetch live first i next r.local b.1) b.0

    turns_of_children : (p : Name) (f i base at share : ℕ) (branches : List Branch) (m : Machine) → (with_children p f i base at share branches m).turns
        ≡ m.turns
    turns_of_children p f i base at share [] m = refl
    turns_of_children p f i base at share (b ∷ bs) m = turns_of_children p f (suc i) base (at + share) share bs (with_child (child p f i) base at share b m)

    freed_falls : (n t at : ℕ) (p q : Name) (m : Machine) → m.turns < t → Falls t at p (went m (freed n q))
    freed_falls zero t at p q m h = h
    freed_falls (suc n) t at p q m h = h

    one_less_falls : (m : Machine) (q : Name) (a : Activity) (s : Standing) (t at : ℕ) (p : Name) → m.turns < t → Falls t at p (one_less m q a s)
    one_less_falls m q a ready t at p h = h
    one_less_falls m q a at_when t at p h = h
    one_less_falls m q a (waiting n) t at p h =
        freed_falls (n - 1) t at p q (record m { activities = with_at m.activities q (record a { standing = awaits (n - 1) }) }) h

    told_falls : (m : Machine) (q : Name) (a : Option Activity) (t at : ℕ) (p : Name) → m.turns < t → Falls t at p (notified m q a)
    told_falls m q None t at p h = h
    told_falls m q (Some a) t at p h = one_less_falls m q a a.standing t at p h

    tested_falls : (b : Bool) (ending : Ending) (m : Machine) (ps : List Name) (t at : ℕ) (p : Name) → m.turns < t
        → Falls t at p (if b then ended ending m else went m (joins ps))
    tested_falls true ending m ps t at p h = tt
    tested_falls false ending m ps t at p h = h

    turned_falls : (m : Machine) (p : Name) (others : List Name) (a : Activity) (kind : Turn) (r : Running) (t at : ℕ) → r.turns < t
        → Falls t at p (at_turn m p others a kind r)
    turned_falls m p others a entering r t at h = inl h
    turned_falls m p others a leaving r t at h = inl h
    turned_falls m p others a looping r t at h = inl h
    turned_falls m p others a arriving r t at h = h
    turned_falls m p others a (again false) r t at h = h
    turned_falls m p others a (again true) r t at h = tested_falls (all_marked (p ∷ m.marks) (p ∷ others)) _ _ _ t at p h
    turned_falls m p others a (forking branches) r t at h = omega (
      arith,
      turns_of_children p (suc a.forks) 0 r.local.base r.local.end ((r.local.last - r.local.end) / length branches) branches
          (back m p (activity_of r.local (suc a.forks) (waiting (length branches))) [] r),
    )
    turned_falls m p others a exiting r t at h = told_falls _ (parent_of p) (find (without m.activities p) (parent_of p)) t at p h
    turned_falls m p others a finishing r t at h = tt

    kernel_falls : (m : Machine) (p : Name) (others : List Name) (a : Activity) (answer : Answer) (t at : ℕ) → AnswerFalls t at answer
        → Falls t at p (kernel m p others a answer)
    kernel_falls m p others a (on r) t at h = inr (h.0, (activity_of r.local a.forks ready, find-with_at-same m.activities p _, h.1), h.2)
    kernel_falls m p others a (behind r) t at h = inr (h.0, (activity_of r.local a.forks ready, find-with_at-same m.activities p _, h.1), h.2)
    kernel_falls m p others a (turned kind r) t at h = turned_falls m p others a kind r t at h
    kernel_falls m p others a (over ending r) t at h = tt

    step_falls : (m : Machine) (p : Name) (others : List Name) (a : Activity) → find m.activities p ≡ Some a → Falls m.turns a.pc p (step fetch m p others)
    step_falls m p others a e =
        let f : Falls m.turns a.pc p (step_of fetch m p others (Some a)) =
        kernel_falls m p others a (local_step fetch (length m.activities) (is_first p) (running_of m a)) m.turns a.pc
        (local_falls (fetch a.pc) (length m.activities) (is_first p) (running_of m a) refl) in
        let P : Option Activity → Type 0 = λ x. Falls m.turns a.pc p (step_of fetch m p others x) in
        subst P (sym e) f

    -- ---- so it ends

    abbrev Finishes : Machine → Name → List Name → ℕ → Type 0
    Finishes m p others drawn = (n : ℕ) × (ending : Ending) × (end : Machine) × (d : ℕ) × (run fetch choices n m p others drawn ≡ finished ending end d)

    abbrev Continued : Taking → Machine → Type 0
    Continued nobody m = ⊤
    Continued (taking p others d) m = Finishes m p others d

    abbrev Continues : Name → List Name → ℕ → Stepped → Type 0
    Continues p others drawn (ended ending m) = ⊤
    Continues p others drawn (went m stays) = Finishes m p others drawn
    Continues p others drawn (went m (joins ps)) = Continued (take_next choices drawn (others ++ ps)) m

    taken_ends : (t : Taking) (m : Machine) (drawn : ℕ) → Continued t m → (n : ℕ) × (ending : Ending) × (end : Machine) × (d : ℕ)
        × (go_on t (run fetch choices n m) m drawn ≡ finished ending end d)
    taken_ends nobody m drawn c = (0, outcome.standstill, m, drawn, refl)
    taken_ends (taking p others d) m drawn c = c

    stepped_ends : (s : Stepped) (p : Name) (others : List Name) (drawn : ℕ) → Continues p others drawn s → (n : ℕ) × (ending : Ending) × (end : Machine)
        × (d : ℕ) × (after_step choices (run fetch choices n) p others drawn s ≡ finished ending end d)
    stepped_ends (ended ending m) p others drawn c = (0, ending, m, drawn, refl)
    stepped_ends (went m stays) p others drawn c = c
    stepped_ends (went m (joins ps)) p others drawn c = taken_ends (take_next choices drawn (others ++ ps)) m drawn c

    continued_ends : (m : Machine) (p : Name) (others : List Name) (drawn : ℕ) → Continues p others drawn (step fetch m p others) → Finishes m p others drawn
    continued_ends m p others drawn c =
        let e : (n : ℕ) × (ending : Ending) × (end : Machine) × (d : ℕ)
        × (after_step choices (run fetch choices n) p others drawn (step fetch m p others) ≡ finished ending end d) =
        stepped_ends (step fetch m p others) p others drawn c in
        (suc e.0, e.1, e.2, e.3, e.4)

    continues : (s : Stepped) (p : Name) (others : List Name) (drawn turns at : ℕ) → Falls turns at p s →
        ((m : Machine) (q : Name) (os : List Name) (d : ℕ) → m.turns < turns → Finishes m q os d) →
        ((m : Machine) (a : Activity) → m.turns ≡ turns → find m.activities p ≡ Some a → at < a.pc → at < size → Finishes m p others drawn) →
        Continues p others drawn s
    continues (ended ending m) p others drawn turns at f less up = tt
    continues (went m stays) p others drawn turns at f less up = elim f [
      | inl h ↦ less m p others drawn h
      | inr h ↦ up m h.1.0 h.0 h.1.1 h.1.2 h.2
    ]
    continues (went m (joins ps)) p others drawn turns at f less up = joined (take_next choices drawn (others ++ ps))
      where
        joined : (t : Taking) → Continued t m
        joined nobody = tt
        joined (taking q os d) = less m q os d f

    -- with at most t turns left, where the runs with fewer than t end
    by_counter : (t : ℕ) → ((m : Machine) (q : Name) (os : List Name) (d : ℕ) → m.turns < t → Finishes m q os d) →
        (g : ℕ) (m : Machine) (p : Name) (others : List Name) (drawn : ℕ) (a : Activity) → find m.activities p ≡ Some a → m.turns ≤ t → size ≤ a.pc + g
        → Finishes m p others drawn
    by_counter t less zero m p others drawn a e h k =
        continued_ends m p others drawn
        (continues (step fetch m p others) p others drawn m.turns a.pc (step_falls m p others a e) (λ m' q os d l. less m' q os d (omega arith))
        (λ m' a' _ _ _ l. absurd (omega arith)))
    by_counter t less (suc g) m p others drawn a e h k =
        continued_ends m p others drawn
        (continues (step fetch m p others) p others drawn m.turns a.pc (step_falls m p others a e) (λ m' q os d l. less m' q os d (omega arith))
        (λ m' a' same found up l. by_counter t less g m' p others drawn a' found (omega arith) (omega arith)))

    by_turns : (t : ℕ) (m : Machine) (p : Name) (others : List Name) (drawn : ℕ) → m.turns < t → Finishes m p others drawn
    by_turns zero m p others drawn h = absurd (omega arith)
    by_turns (suc t) m p others drawn h = of_found (by_counter t (by_turns t)) (find m.activities p) refl
      where
        of_found : ((g : ℕ) (m : Machine) (p : Name) (others : List Name) (drawn : ℕ) (a : Activity) → find m.activities p ≡ Some a → m.turns ≤ t
            → size ≤ a.pc + g → Finishes m p others drawn) →
            (x : Option Activity) → find m.activities p ≡ x → Finishes m p others drawn
        of_found counted None e = continued_ends m p others drawn
            (subst (λ (x : Option Activity). Continues p others drawn (step_of fetch m p others x)) (sym e) tt)
        of_found counted (Some a) e = counted size m p others drawn a e (omega arith) (omega arith)

    pub started_ends : (before : ℕ) (s : Stepped) → (n : ℕ) × (ending : Ending) × (end : Machine) × (d : ℕ)
        × (after_step choices (run fetch choices n) [] [] before s ≡ finished ending end d)
    started_ends before (ended ending m) = (0, ending, m, before, refl)
    started_ends before (went m stays) = by_turns (suc m.turns) m [] [] before (omega arith)
    started_ends before (went m (joins ps)) = taken_ends (take_next choices before ps) m before (joined (take_next choices before ps))
      where
        joined : (t : Taking) → Continued t m
        joined nobody = tt
        joined (taking q os d) = by_turns (suc m.turns) m q os d (omega arith)

pub every_run_ends : EveryRunEnds
every_run_ends words entry calls system bound choices =
    let e : (n : ℕ) × (ending : Ending) × (end : Machine) × (d : ℕ)
    × (after_step choices (run (code.fetch words) choices n) [] [] 0 (entered (code.fetch words entry) entry calls bound system) ≡ finished ending end d) =
    started_ends (code.fetch words) choices (length words) (code_stands_below words) 0 (entered (code.fetch words entry) entry calls bound system) in
    (outcome_of e.2.system e.1 (bound - e.2.turns) e.3, (e.1, e.2, e.3, (e.0, e.4), refl))

-- the end of a finished run
abbrev outcome_at : ℕ → MachineRun → Option Outcome
outcome_at bound unfinished = None
outcome_at bound (finished ending m drawn) = Some (outcome_of m.system ending (bound - m.turns) drawn)

some-same : {A : Type 0} {a b : A} → Some a ≡ Some b → a ≡ b
some-same e = cc

module _ (fetch : ℕ → Option (Instruction × ℕ)) (entry : ℕ) (calls : List ℕ) (system : State) (bound : ℕ) (choices : Choices) where
  pub same_end : (before n k : ℕ) (one other : Ending) (m m' : Machine) (d d' : ℕ) → n ≤ k →
      after_step choices (run fetch choices n) [] [] before (entered (fetch entry) entry calls bound system) ≡ finished one m d →
      after_step choices (run fetch choices k) [] [] before (entered (fetch entry) entry calls bound system) ≡ finished other m' d'
      → finished one m d ≡ finished other m' d'
  same_end before n k one other m m' d d' h e e' =
      let more : after_step choices (run fetch choices k) [] [] before (entered (fetch entry) entry calls bound system) ≡ finished one m d =
      stepped_more choices (entered (fetch entry) entry calls bound system) (run fetch choices n) (run fetch choices k) [] [] before (finished one m d)
      (λ m1 p os d1 x. run_more fetch choices n k one m d h m1 p os d1 x) e in
      sym more ∙ e'

  same_outcome : (one other : Ending) (m m' : Machine) (d d' : ℕ) → finished one m d ≡ finished other m' d' → outcome_of m.system one (bound - m.turns) d
      ≡ outcome_of m'.system other (bound - m'.turns) d'
  same_outcome one other m m' d d' e = some-same (ap (outcome_at bound) e)

pub runs_are_determined : RunsAreDetermined
runs_are_determined fetch entry calls system bound choices one other a b =
    a.4 ∙ elim (cases_lt a.3.0 b.3.0) [
      | inl h ↦ same_outcome fetch entry calls system bound choices a.0 b.0 a.1 b.1 a.2 b.2
          (same_end fetch entry calls system bound choices 0 a.3.0 b.3.0 a.0 b.0 a.1 b.1 a.2 b.2 (omega arith) a.3.1 b.3.1)
      | inr h ↦ sym (same_outcome fetch entry calls system bound choices b.0 a.0 b.1 a.1 b.2 a.2
          (same_end fetch entry calls system bound choices 0 b.3.0 a.3.0 b.0 a.0 b.1 a.1 b.2 a.2 h b.3.1 a.3.1))
    ] ∙ sym b.4
