-- Definition. A program step by step. Each step is one of one process: outside critical phases a simple statement, the choice of a
-- branch, an entry, a fork or an end; at a `when` the arrival, and each attempt with its conditions and its whole body.
use Rattle.std.specs.Prelude.{ℕ, zero, suc, ◌+◌, ◌-◌, Bool, true, false, not, ◌&&◌, ◌||◌, nat_lt, if◌then◌else◌, List, [], ◌∷◌, ◌++◌, length, map}
use Rattle.std.specs.Prelude.{Option, Some, None}
use Rattle.std.specs.List.{list_any}
use Rattle.edi_calls.specs.Forks.{most_processes, equal_share}
use Rattle.edi_calls.specs.declared.kinds.Cause.TheVariants as cause
use Rattle.edi_calls.specs.State.{State, Traced, begun}
use Rattle.edi_calls.specs.Names.{Name, Table, find, with_at, without}
use Rattle.edi_calls.specs.Outcome as outcome
use Rattle.edi_calls.specs.Outcome.{Ending}
use Rattle.edi_calls.specs.Ready.{child, parent_of, children, Next, stays, joins, freed}
use Rattle.edi_unit.specs.Tree as tree
use Rattle.edi_unit.specs.Tree.{Expression, Expressions, Link, Links, Place, Part, Parts, Act, Acts, Clauses, ProgramUnit}
use Rattle.edi_unit.specs.Need.{block_at}
use Rattle.edi_meaning.specs.Store.{Spot, Closure, system_procedure, block_procedure, Cell, procedure, shape, now, room}
use Rattle.edi_meaning.specs.Evaluation.{World, Evaluation, gives, ends, ◌>>=◌, stops, turn}
use Rattle.edi_meaning.specs.Whole.{meant, instance_of, entered, left, system_call, whole_arguments, whole_assignment, whole_condition, whole_first}

-- ---- work

-- where a statement stands: its block, and the numbers that lead to it in the body of that block
pub record Position : Type 0 where
  pub of : ℕ
  pub path : List ℕ

abbrev pub inside : Position → ℕ → Position
inside position n = record position { path = position.path ++ n ∷ [] }

-- what a process has to do
pub data Work : Type 0 where
  -- a statement
  doing : Act → Position → Work
  -- the end of a loop's body, after which the loop comes again
  loop_end : Clauses → Position → Work
  -- the end of a procedure that was called at this line
  procedure_end : (line : ℕ) → Work
  -- the end of a branch
  branch_end : Work
  -- the entry of the program, and its end
  program_entry : Work
  program_end : Work

-- the statements of a list, from number n on, and then this
abbrev pub doing_all : Acts → Position → ℕ → List Work → List Work
doing_all tree.no_act position n work = work
doing_all (tree.act_then a as') position n work = doing a (inside position n) ∷ doing_all as' position (suc n) work

-- the body of a block, and then this
abbrev pub body_of : ProgramUnit → ℕ → List Work → List Work
body_of unit number work = doing_all (block_at unit.blocks number).body (record { of = number; path = [] }) 0 work

-- ---- one process

-- how a process stands: ready, at its `when`, or until so many children have ended
pub data Standing : Type 0 where
  ready : Standing
  at_when : Clauses → Position → Standing
  waiting : ℕ → Standing

-- what a step of a process asks of the kernel, with the work that is left
pub data Asks : Type 0 where
  -- it goes on
  goes : List Work → Asks
  -- it has arrived at a `when`
  arrives : Clauses → Position → List Work → Asks
  -- its attempt failed; the test says whether no condition of it calls a function
  again : Clauses → Position → (quiet : Bool) → List Work → Asks
  -- it forks into these blocks
  forks : List ℕ → (line : ℕ) → List Work → Asks
  -- its branch has ended
  leaves : Asks

-- whether a function call stands in the text of an expression
abbrev mutual
  pub calls : Expression → Bool
  calls (tree.constant of n) = false
  calls (tree.load v) = place_calls v
  calls (tree.not_of e) = calls e
  calls (tree.sign_of e line) = calls e
  calls (tree.chain e ls) = calls e || links_call ls
  calls (tree.make of es line) = any_calls es
  calls (tree.convert of e line) = calls e
  calls (tree.apply_of c es line) = true

  pub any_calls : Expressions → Bool
  any_calls tree.no_expression = false
  any_calls (tree.expression_then e es) = calls e || any_calls es

  pub links_call : Links → Bool
  links_call tree.no_link = false
  links_call (tree.link_then l ls) = link_calls l || links_call ls

  pub link_calls : Link → Bool
  link_calls (tree.link o e line) = calls e

  pub place_calls : Place → Bool
  place_calls (tree.place levels variable ps) = parts_call ps

  pub parts_call : Parts → Bool
  parts_call tree.no_part = false
  parts_call (tree.part_then q qs) = part_calls q || parts_call qs

  pub part_calls : Part → Bool
  part_calls (tree.field n) = false
  part_calls (tree.index e line) = calls e

-- none of these conditions calls a function
abbrev pub is_quiet : Clauses → Bool
is_quiet tree.no_clause = true
is_quiet (tree.clause_then (tree.clause e s) cs) = not (calls e) && is_quiet cs

-- the chosen list comes first, and then this
abbrev pub with_chosen : Position → Option (Acts × ℕ) → (after : List Work) → List Work → List Work
with_chosen position None after work = work
with_chosen position (Some c) after work = doing_all c.0 (inside position c.1) 0 (after ++ work)

module _ (unit : ProgramUnit) (p : Name) (size : ℕ) where
  -- the first list whose condition is true, with its number, or none
  abbrev pub chosen : Clauses → ℕ → World → Evaluation (Option (Acts × ℕ))
  chosen tree.no_clause n w = gives None w
  chosen (tree.clause_then (tree.clause e s) cs) n w =
      whole_condition unit p size e w >>= λ holds w. if holds then gives (Some (s, n)) w else chosen cs (suc n) w

  -- a call: of the system at once; of a block its body and its end come first
  abbrev pub called : Closure → List Cell → (line : ℕ) → List Work → World → Evaluation Asks
  called (system_procedure number) cells line work w = system_call number cells line w >>= λ _ w. gives (goes work) w
  called (block_procedure number parent) cells line work w =
      entered unit p size number parent cells line w (gives (goes (body_of unit number (procedure_end line ∷ work))))

  abbrev pub statement_step : Act → Position → List Work → World → Evaluation Asks
  statement_step tree.skip position work w = gives (goes work) w
  statement_step (tree.assign v e) position work w = whole_assignment unit p size v e w >>= λ _ w. gives (goes work) w
  statement_step (tree.call c es line) position work w =
      whole_arguments unit p size es w >>= λ cells w. called (meant unit p size c w) cells line work w
  statement_step (tree.halt line) position work w = stops (outcome.halted line) w
  statement_step (tree.if_act cs) position work w =
      chosen cs 0 w >>= λ c w. gives (goes (with_chosen position c [] work)) w
  statement_step (tree.while_act cs) position work w =
      chosen cs 0 w >>= λ c w. gives (goes (with_chosen position c (loop_end cs position ∷ []) work)) w
  statement_step (tree.when_act cs line) position work w = turn w (gives (arrives cs position work))
  statement_step (tree.cobegin bs line) position work w = gives (forks bs line work) w

  -- the program's entry: its parameters are the calls of the system that it names
  abbrev pub program_entered : List Work → World → Evaluation Asks
  program_entered work w =
      turn w (λ w. gives (goes (body_of unit unit.program work))
      (record w { store = with_at w.store p (instance_of unit p size unit.program ([], 0) (map (λ n. procedure (system_procedure n)) unit.calls) ∷ []) }))

  -- the next piece of work
  abbrev pub work_step : List Work → World → Evaluation Asks
  work_step [] w = stops outcome.turns w
  work_step (doing a position ∷ work) w = statement_step a position work w
  work_step (loop_end cs position ∷ work) w = turn w (gives (goes (doing (tree.while_act cs) position ∷ work)))
  work_step (procedure_end line ∷ work) w = left unit p size w (gives (goes work))
  work_step (branch_end ∷ work) w = turn w (gives leaves)
  work_step (program_entry ∷ work) w = program_entered work w
  work_step (program_end ∷ work) w = turn w (stops outcome.done)

  -- an attempt at a `when`: where a condition is true its body is executed whole, and the process goes on behind it
  abbrev pub attempt : Clauses → Position → List Work → World → Evaluation Asks
  attempt cs position work w =
      whole_first unit p size cs w >>= λ ran w.
      if ran then gives (goes work) w else turn w (gives (again cs position (is_quiet cs) work))

  -- one step of a process that is ready or at its `when`
  abbrev pub local_step : Standing → List Work → World → Evaluation Asks
  local_step ready work w = work_step work w
  local_step (at_when cs position) work w = attempt cs position work w
  local_step (waiting n) work w = stops outcome.turns w

-- ---- all processes

pub record Process : Type 0 where
  -- the words of its segment
  pub size : ℕ
  -- how often it has forked
  pub forks : ℕ
  pub work : List Work
  pub standing : Standing

pub record Processes : Type 0 where
  pub live : Table Process
  pub world : World

-- what a step leaves: the processes, whether its process goes on, and whether it was an attempt that marks its process;
-- or the end of the program
pub data Stepped : Type 0 where
  went : Processes → Next → (quiet : Bool) → Stepped
  ended : Ending → Traced → (turns : ℕ) → Stepped

-- a process with what is left to do and how it stands now
abbrev pub back : Processes → Name → Process → World → Processes
back s p q w = record { live = with_at s.live p q; world = w }

abbrev pub exceeds : ProgramUnit → ℕ → ℕ → Bool
exceeds unit share number = nat_lt share (block_at unit.blocks number).need

-- a child with one instance, whose static parent is the instance that forks
abbrev pub child_process : ProgramUnit → (share : ℕ) → ℕ → Process
child_process unit share number = record { size = share; forks = 0; work = body_of unit number (branch_end ∷ []); standing = ready }

abbrev pub with_child : ProgramUnit → Name → (share : ℕ) → Spot → ℕ → Processes → Processes
with_child unit c share parent number s = record {
  live = with_at s.live c (child_process unit share number);
  world = record s.world { store = with_at s.world.store c (instance_of unit c share number parent [] ∷ []) };
}

-- the children of the f-th fork of p, from child i on
abbrev pub with_children : ProgramUnit → Name → (f i share : ℕ) → Spot → List ℕ → Processes → Processes
with_children unit p f i share parent [] s = s
with_children unit p f i share parent (b ∷ bs) s =
    with_children unit p f (suc i) share parent bs (with_child unit (child p f i) share parent b s)

-- the turn of a fork, and its children
abbrev pub fork_taken : ProgramUnit → Processes → Name → Process → List ℕ → List Work → World → (turns share : ℕ) → Stepped
fork_taken unit s p q bs work w zero share = ended outcome.turns w.system w.turns
fork_taken unit s p q bs work w (suc n) share =
    let f = suc q.forks in
    went
    (with_children unit p f 0 share (now (shape w.store) p) bs
    (back s p (record q { forks = f; work = work; standing = waiting (length bs) }) (record w { turns = n })))
    (joins (children p f 0 (length bs)))
    false

-- a fork: the limit of processes, that of the memory of each branch, and then a turn
abbrev pub forked : ProgramUnit → Processes → Name → Process → List ℕ → (line : ℕ) → List Work → World → Stepped
forked unit s p q bs line work w =
    let share = equal_share (room q.size (shape w.store p)) (length bs) in
    if nat_lt most_processes (length s.live + length bs) then ended (outcome.failed cause.ProcessLimit line) w.system w.turns
    else if list_any (exceeds unit share) bs then ended (outcome.failed cause.VariableLimit line) w.system w.turns
    else fork_taken unit s p q bs work w w.turns share

-- a parent waits for one child less, and is ready when none is left
abbrev pub awaits : ℕ → Standing
awaits zero = ready
awaits (suc n) = waiting (suc n)

abbrev pub one_less : Processes → Name → Process → Standing → Stepped
one_less s p q (waiting n) = went (back s p (record q { standing = awaits (n - 1) }) s.world) (freed (n - 1) p) false
one_less s p q standing = went s (joins []) false

abbrev pub notified : Processes → Name → Option Process → Stepped
notified s p None = went s (joins []) false
notified s p (Some q) = one_less s p q q.standing

-- the process and its instance go, and its parent is notified
abbrev pub exited : Processes → Name → World → Stepped
exited s p w =
    let rest : Processes = record { live = without s.live p; world = record w { store = without w.store p } } in
    notified rest (parent_of p) (find rest.live (parent_of p))

abbrev pub kernel : ProgramUnit → Processes → Name → Process → Evaluation Asks → Stepped
kernel unit s p q (ends ending system turns) = ended ending system turns
kernel unit s p q (gives (goes work) w) = went (back s p (record q { work = work; standing = ready }) w) stays false
kernel unit s p q (gives (arrives cs position work) w) =
    went (back s p (record q { work = work; standing = at_when cs position }) w) (joins (p ∷ [])) false
kernel unit s p q (gives (again cs position quiet work) w) =
    went (back s p (record q { work = work; standing = at_when cs position }) w) (joins (p ∷ [])) quiet
kernel unit s p q (gives (forks bs line work) w) = forked unit s p q bs line work w
kernel unit s p q (gives leaves w) = exited s p w

abbrev pub step_of : ProgramUnit → Processes → Name → Option Process → Stepped
step_of unit s p None = ended outcome.turns s.world.system s.world.turns
step_of unit s p (Some q) = kernel unit s p q (local_step unit p q.size q.standing q.work s.world)

-- STEP: one step of process p
abbrev pub step : ProgramUnit → Processes → Name → Stepped
step unit s p = step_of unit s p (find s.live p)

-- ---- the start, and any order of steps

-- the first process, with all of memory as its segment, and the entry and the end of the program as its work
abbrev pub start : ProgramUnit → State → ℕ → Processes
start unit system bound = record {
  live = ([], record { size = 65536; forks = 0; work = program_entry ∷ program_end ∷ []; standing = ready }) ∷ [];
  world = record { store = []; system = begun system; turns = bound };
}
