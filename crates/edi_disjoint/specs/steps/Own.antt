-- Words of contracts. Steps that keep to themselves: what a process does with its own variables alone. No other process can tell whether such a step
-- is done or still to come, so it may be taken before the steps of all others, or after them.
use Rattle.std.specs.Prelude.{◌≡◌, ◌⊎◌, ℕ, ◌+◌, ◌≤◌, Bool, true, false, if◌then◌else◌, List, [], ◌∷◌, Option, Some, None, slice_index_or, ⊤}
use Rattle.edi_calls.specs.Names.{Name, same, find, with_at}
use Rattle.edi_calls.specs.Outcome as outcome
use Rattle.edi_calls.specs.Ready.{Next, has}
use Rattle.edi_calls.specs.State.{State, Traced}
use Rattle.edi_unit.specs.Tree.{Act, skip, assign, call, halt, if_act, while_act, when_act, cobegin, ProgramUnit}
use Rattle.edi_meaning.specs.Store.{Location, Cell, value, location, procedure, Instance, Owns, instances, shape, cells_in, no_cell}
use Rattle.edi_meaning.specs.Step.{Process, Processes, Stepped, went, ended, Work, doing, loop_end, procedure_end, branch_end, program_entry, program_end, ready, step, start}
use Rattle.edi_meaning.specs.Permitted.{is_running, may_step, Led, at, over, nowhere, permitted}

-- t is s but for process p, which is this one there and has these instances. How many turns are left is said apart.
pub record IsBut (p : Name) (q : Process) (own : List Instance) (s t : Processes) : Type 0 where
  pub live : t.live ≡ with_at s.live p q
  pub store : (r : Name) → instances t.world.store r ≡ (if same r p then own else instances s.world.store r)
  pub system : s.world.system ≡ t.world.system

-- the location in a cell: what a `var` parameter means. A cell that holds a value or a procedure has none.
abbrev pub reference : Cell → Option Location
reference (value v) = None
reference (location l) = Some l
reference (procedure c) = None

-- the location in a variable of one of these instances
abbrev pub reference_at : List Instance → (depth variable : ℕ) → Option Location
reference_at is depth variable = reference (slice_index_or (cells_in is depth) variable no_cell)

-- p finds in t what it finds in s: itself and its instances; and of its ancestors which instances they have, and what their `var` parameters mean,
-- whatever their variables hold
pub record FindsSame (p : Name) (s t : Processes) : Type 0 where
  pub process : find t.live p ≡ find s.live p
  pub own : instances t.world.store p ≡ instances s.world.store p
  pub frames : (r : Name) → Owns p r → shape t.world.store r ≡ shape s.world.store r
  pub references : (r : Name) (depth variable : ℕ) → Owns p r →
      reference_at (instances t.world.store r) depth variable ≡ reference_at (instances s.world.store r) depth variable

-- a step of p from t is this one: it makes this of p and of its instances, takes so many turns, and changes nothing else
abbrev pub GoesAlone : ProgramUnit → Name → Process → List Instance → Next → (quiet : Bool) → (taken : ℕ) → Processes → Type 0
GoesAlone unit p q own next quiet taken t =
    (u : Processes) × (step unit t p ≡ went u next quiet) × IsBut p q own t u × (u.world.turns + taken ≡ t.world.turns)

-- or it ends the program, since too few turns are left
abbrev pub IsSpent : ProgramUnit → Name → Processes → Type 0
IsSpent unit p t = (system : Traced) × (turns : ℕ) × (step unit t p ≡ ended outcome.turns system turns)

-- THE NEXT STEP OF p KEEPS TO ITSELF: wherever p finds the same, it does the same, whatever all others hold, and whatever the system is. With as many
-- turns left as are enough it goes on; with fewer it goes on so, or they run out.
pub record KeepsToItself (unit : ProgramUnit) (s : Processes) (p : Name) : Type 0 where
  pub process : Process
  pub found : find s.live p ≡ Some process
  pub runs : is_running process.standing ≡ true
  pub after : Process
  pub own : List Instance
  pub next : Next
  pub quiet : Bool
  pub taken : ℕ
  pub enough : ℕ
  pub goes : (t : Processes) → FindsSame p s t → enough ≤ t.world.turns → GoesAlone unit p after own next quiet taken t
  pub either : (t : Processes) → FindsSame p s t → GoesAlone unit p after own next quiet taken t ⊎ IsSpent unit p t

-- ---- steps of others

-- what a step of another process makes of a state, and of one that is this but for p and has so many turns more: the same. Where the first has ended
-- for want of turns nothing is said.
abbrev pub GoesAlike : Name → Process → List Instance → (more : ℕ) → Stepped → Stepped → Type 0
GoesAlike p q own more (went a n quiet) (went b m other) =
    IsBut p q own a b × (b.world.turns ≡ a.world.turns + more) × (n ≡ m) × (quiet ≡ other)
GoesAlike p q own more (went a n quiet) (ended e system turns) = ⊥
GoesAlike p q own more (ended e system turns) x = (e ≡ outcome.turns → ⊥) → x ≡ ended e system (turns + more)

-- a step of q and the next step of p pass by each other
pub record PassesBy (unit : ProgramUnit) (s : Processes) (p : Name) (k : KeepsToItself unit s p) (q : Name) : Type 0 where
  -- behind the step of q p finds the same, and so does the same
  pub stays : (a : Processes) (n : Next) (quiet : Bool) → step unit s q ≡ went a n quiet → FindsSame p s a
  -- and where p has done its step q does the same
  pub alike : (t : Processes) (more : ℕ) → IsBut p k.after k.own s t → t.world.turns ≡ s.world.turns + more →
      GoesAlike p k.after k.own more (step unit s q) (step unit t q)

-- SO IT IS OF EACH PROCESS THAT MAY STEP, ready or at its `when`, in every state that permitted steps reach
abbrev pub OwnStepsPass : Type 0
OwnStepsPass =
    (unit : ProgramUnit) (system : State) (bound : ℕ) (order : List Name) (s : Processes) (p q : Name) →
    permitted unit order (start unit system bound) ≡ at s → (k : KeepsToItself unit s p) → (p ≡ q → ⊥) → may_step s q ≡ true → PassesBy unit s p k q

-- ---- orders of steps of others

-- where steps of others lead from a state, and from one that is this but for p: to the same, or to the same end
abbrev pub LeadsAlike : Name → Process → List Instance → (more : ℕ) → Led → Led → Type 0
LeadsAlike p q own more (at a) led = (b : Processes) × (led ≡ at b) × IsBut p q own a b × (b.world.turns ≡ a.world.turns + more)
LeadsAlike p q own more (over e system turns) led = (e ≡ outcome.turns → ⊥) → led ≡ over e system (turns + more)
LeadsAlike p q own more nowhere led = ⊤

-- the next step of p may come before these steps, or after them
pub record ComesBefore (unit : ProgramUnit) (s : Processes) (p : Name) (k : KeepsToItself unit s p) (names : List Name) : Type 0 where
  pub stays : (a : Processes) → permitted unit names s ≡ at a → FindsSame p s a
  pub alike : (t : Processes) (more : ℕ) → IsBut p k.after k.own s t → t.world.turns ≡ s.world.turns + more →
      LeadsAlike p k.after k.own more (permitted unit names s) (permitted unit names t)

-- SO IT IS OF EACH PERMITTED ORDER in which p does not step
abbrev pub OwnStepsComeBefore : Type 0
OwnStepsComeBefore =
    (unit : ProgramUnit) (system : State) (bound : ℕ) (order : List Name) (s : Processes) (p : Name) (names : List Name) →
    permitted unit order (start unit system bound) ≡ at s → (k : KeepsToItself unit s p) → has names p ≡ false → ComesBefore unit s p k names

-- ---- steps that keep to themselves whatever the text is

-- a `skip`, or a `when`
abbrev pub IsTextlessAct : Act → Type 0
IsTextlessAct skip = ⊤
IsTextlessAct (assign v e) = ⊥
IsTextlessAct (call c es line) = ⊥
IsTextlessAct (halt line) = ⊥
IsTextlessAct (if_act cs) = ⊥
IsTextlessAct (while_act cs) = ⊥
IsTextlessAct (when_act cs line) = ⊤
IsTextlessAct (cobegin bs line) = ⊥

-- what comes next is a `skip`, the arrival at a `when`, the end of a loop's body, or the end of a procedure
abbrev pub IsTextless : List Work → Type 0
IsTextless [] = ⊥
IsTextless (doing a position ∷ work) = IsTextlessAct a
IsTextless (loop_end cs position ∷ work) = ⊤
IsTextless (procedure_end line ∷ work) = ⊤
IsTextless (branch_end ∷ work) = ⊥
IsTextless (program_entry ∷ work) = ⊥
IsTextless (program_end ∷ work) = ⊥

abbrev pub TextlessStepsKeep : Type 0
TextlessStepsKeep =
    (unit : ProgramUnit) (s : Processes) (p : Name) (q : Process) → find s.live p ≡ Some q → q.standing ≡ ready → IsTextless q.work → KeepsToItself unit s p
