-- Words of contracts. What is true of every program.
use Rattle.std.specs.Prelude.{◌≡◌, ◌⊎◌, ◌≤◌, ℕ, suc, Bool, true, false, not, ◌&&◌, if◌then◌else◌, List, [], ◌∷◌, ◌++◌, None, Some, ⊤}
use Rattle.edi_calls.specs.State.{State, Traced, newest}
use Rattle.edi_calls.specs.Choice.{Choices, listed, first_choices}
use Rattle.edi_calls.specs.Laws.{GoesOn}
use Rattle.edi_calls.specs.Names.{Name, Table, same, find, with_at, names}
use Rattle.edi_calls.specs.Outcome as outcome
use Rattle.edi_calls.specs.Outcome.{Ending, Outcome}
use Rattle.edi_calls.specs.Ready.{child, parent_of, stays, joins}
use Rattle.edi_unit.specs.Tree.{Clauses, ProgramUnit}
use Rattle.edi_meaning.specs.Store.{Spot, Cell, value, location, procedure, system_procedure, block_procedure, Store, Shape, instances, shape, frame_at}
use Rattle.edi_meaning.specs.Store.{cell, Owns, IsLive, Older}
use Rattle.edi_meaning.specs.Evaluation.{World}
use Rattle.edi_meaning.specs.Step.{Position, ready, at_when, waiting, Process, Processes, Stepped, went, ended, is_quiet, step, start}
use Rattle.edi_meaning.specs.Permitted.{is_running, Led, at}
use Rattle.edi_meaning.specs.Permitted.{over, nowhere, permitted}
use Rattle.edi_meaning.specs.Select.{Ends, Select}

-- every selection ends, after some number of steps
abbrev pub EverySelectionEnds : Type 0
EverySelectionEnds =
    (unit : ProgramUnit) (system : State) (bound : ℕ) (choices : Choices) →
    (outcome : Outcome) × Select unit system bound choices outcome

-- and it ends in one way
abbrev pub SelectionsAreDetermined : Type 0
SelectionsAreDetermined =
    (unit : ProgramUnit) (system : State) (bound : ℕ) (choices : Choices) (one other : Outcome) →
    Select unit system bound choices one → Select unit system bound choices other → one ≡ other

-- what an attempt of p leaves, where p stands at this `when` with this work behind it: p is ready to go on behind the
-- `when`, so that all of the body is done; or it stands at the `when` again; or the program has ended. Nothing else
-- happens to any process.
abbrev pub IsWhole : Processes → Name → Process → Clauses → Position → Stepped → Type 0
IsWhole s p q cs position (ended ending system turns) = ⊤
IsWhole s p q cs position (went after stays quiet) =
    (after.live ≡ with_at s.live p (record q { standing = ready })) × (quiet ≡ false)
IsWhole s p q cs position (went after (joins ps) quiet) =
    (after.live ≡ with_at s.live p (record q { standing = at_when cs position })) × (ps ≡ p ∷ []) × (quiet ≡ is_quiet cs)

-- critical phases are whole: an attempt is one step
abbrev pub AttemptsAreWhole : Type 0
AttemptsAreWhole =
    (unit : ProgramUnit) (s : Processes) (p : Name) (q : Process) (cs : Clauses) (position : Position) →
    find s.live p ≡ Some q → q.standing ≡ at_when cs position → IsWhole s p q cs position (step unit s p)

-- the choices that a selection drew give the same selection again, and the same order of steps
abbrev pub RecordReplays : Type 0
RecordReplays =
    (unit : ProgramUnit) (system : State) (bound : ℕ) (choices : Choices) (ending : Ending) (end : Traced) (turns drawn : ℕ) (order : List Name) →
    Ends unit system bound choices ending end turns drawn order →
    Ends unit system bound (listed (first_choices choices drawn)) ending end turns drawn order

-- what further steps make of a state in which nothing can happen any more: they take turns, or end the program when no
-- turn is left, and change nothing else
abbrev pub Settled : Processes → Led → Type 0
Settled s (at after) = (after.live ≡ s.live) × (after.world.store ≡ s.world.store) × (after.world.system ≡ s.world.system)
Settled s (over ending system turns) = (ending ≡ outcome.turns) × (system ≡ s.world.system)
Settled s nowhere = ⊤

-- where the steps of an execution lead that ended so: to the end of the program; or, at a standstill, to a state that
-- goes on, with this system and so many turns, and in which nothing can happen any more
abbrev pub LeadsTo : ProgramUnit → Led → Ending → Traced → ℕ → Type 0
LeadsTo unit led outcome.standstill end turns =
    (after : Processes) × (led ≡ at after) × (after.world.system ≡ end) × (after.world.turns ≡ turns)
    × ((names : List Name) → Settled after (permitted unit names after))
LeadsTo unit led ending end turns = led ≡ over ending end turns

-- the execution that the choices select is one of the permitted ones, with its order of steps; at a standstill no
-- permitted continuation changes anything but the turns
abbrev pub SelectIsPermitted : Type 0
SelectIsPermitted =
    (unit : ProgramUnit) (system : State) (bound : ℕ) (choices : Choices) (ending : Ending) (end : Traced) (turns drawn : ℕ) (order : List Name) →
    Ends unit system bound choices ending end turns drawn order →
    LeadsTo unit (permitted unit order (start unit system bound)) ending end turns

-- r is a process that a step of p from s to t has made: a child of p, by a name that no process had, and which had no
-- instance
pub record IsMade (s t : Processes) (p r : Name) : Type 0 where
  pub fork : ℕ
  pub number : ℕ
  pub named : r ≡ child p fork number
  pub free : find s.live r ≡ None
  pub bare : instances s.world.store r ≡ []
  pub process : Process
  pub live : find t.live r ≡ Some process

-- a step of p from s to t is private
pub record IsPrivate (s t : Processes) (p : Name) : Type 0 where
  -- the instances of a process that is neither p nor an ancestor of p are as they were, with all their cells, if p has
  -- not made the process
  pub cells : (r : Name) → (Owns p r → ⊥) → (instances t.world.store r ≡ instances s.world.store r) ⊎ IsMade s t p r
  -- and of an ancestor's instances none comes or goes, and each keeps its block and its static parent
  pub frames : (r : Name) → (r ≡ p → ⊥) → (shape t.world.store r ≡ shape s.world.store r) ⊎ IsMade s t p r

abbrev pub StepIsPrivate : Processes → Name → Stepped → Type 0
StepIsPrivate s p (went t next quiet) = IsPrivate s t p
StepIsPrivate s p (ended ending system turns) = ⊤

-- in every state that permitted steps reach from the start, a step changes no cell but those of the process itself, of
-- its ancestors, and of the children that it makes
abbrev pub CellsArePrivate : Type 0
CellsArePrivate =
    (unit : ProgramUnit) (system : State) (bound : ℕ) (names : List Name) (s : Processes) (p : Name) →
    permitted unit names (start unit system bound) ≡ at s → StepIsPrivate s p (step unit s p)

-- the past of a system only grows, and its last state is the present one
abbrev pub Grows : Traced → Traced → Type 0
Grows before after = (news : List State) × (after.past ≡ news ++ before.past) × (newest before.now news ≡ after.now)

-- from a world on, turns are only taken, and the system goes on: input is only taken, and what is shown and printed only
-- follows what was before; and so does its past
abbrev pub GoesFrom : World → Traced → (turns : ℕ) → Type 0
GoesFrom w system turns = (turns ≤ w.turns) × GoesOn w.system.now system.now × Grows w.system system

abbrev pub LedOn : World → Led → Type 0
LedOn w (at s) = GoesFrom w s.world.system s.world.turns
LedOn w (over ending system turns) = GoesFrom w system turns
LedOn w nowhere = ⊤

-- so it is from every state on, along whatever permitted steps
abbrev pub StepsGoOn : Type 0
StepsGoOn = (unit : ProgramUnit) (names : List Name) (s : Processes) → LedOn s.world (permitted unit names s)

-- whether r is a child of p: p is the parent of r, and the first process is nobody's child
abbrev pub is_child : (r p : Name) → Bool
is_child r p = same (parent_of r) p && not (same r p)

-- how many of these are children of p
abbrev pub children_in : List Name → Name → ℕ
children_in [] p = 0
children_in (r ∷ rs) p = if is_child r p then suc (children_in rs p) else children_in rs p

-- p lives, and waits for children
pub record IsWaiting (live : Table Process) (p : Name) : Type 0 where
  pub process : Process
  pub found : find live p ≡ Some process
  pub number : ℕ
  pub standing : process.standing ≡ waiting number

pub record ParentsWaitIn (live : Table Process) : Type 0 where
  -- the parent of each process but the first lives, and waits
  pub parents : (r : Name) (q : Process) → find live r ≡ Some q → (r ≡ []) ⊎ IsWaiting live (parent_of r)
  -- a process that waits does so for as many children as live
  pub counts : (p : Name) (q : Process) (n : ℕ) → find live p ≡ Some q → q.standing ≡ waiting n → children_in (names live) p ≡ n
  -- a process that may go on has none
  pub none : (p : Name) (q : Process) → find live p ≡ Some q → is_running q.standing ≡ true → children_in (names live) p ≡ 0

-- a fork ends when all its branches have ended: so it is in every state that permitted steps reach from the start
abbrev pub ParentsWait : Type 0
ParentsWait =
    (unit : ProgramUnit) (system : State) (bound : ℕ) (order : List Name) (s : Processes) →
    permitted unit order (start unit system bound) ≡ at s → ParentsWaitIn s.live

-- t is an instance that one at s may mean
pub record Means (F : Shape) (s t : Spot) : Type 0 where
  pub live : IsLive F t
  pub older : Older t s

-- what a cell of the instance at s holds means such an instance
abbrev pub CellMeans : Shape → Spot → Cell → Type 0
CellMeans F s (value v) = ⊤
CellMeans F s (location l) = Means F s l.spot
CellMeans F s (procedure (system_procedure number)) = ⊤
CellMeans F s (procedure (block_procedure number parent)) = Means F s parent

-- of each instance that lives, the static parent and what its cells mean live too, and are no newer
pub record NothingDangles (store : Store) : Type 0 where
  pub parents : (s : Spot) → IsLive (shape store) s → Means (shape store) s (frame_at (shape store) s).parent
  pub cells : (s : Spot) (variable : ℕ) → IsLive (shape store) s → CellMeans (shape store) s (cell store s variable)

-- so it is in every state that permitted steps reach from the start
abbrev pub ReferencesLive : Type 0
ReferencesLive =
    (unit : ProgramUnit) (system : State) (bound : ℕ) (order : List Name) (s : Processes) →
    permitted unit order (start unit system bound) ≡ at s → NothingDangles s.world.store
