-- Words of contracts. The processes of the code, and those of the definitions for which they stand. The code keeps no positions of
-- statements: what it has to do is compared without them.
use Rattle.std.specs.Prelude.{◌≡◌, ◌≤◌, ◌<◌, ◌+◌, ◌^◌, ℕ, zero, suc, true, false, if◌then◌else◌, List, [], ◌∷◌, ◌++◌, map, ⊤}
use Rattle.edi_calls.specs.Names.{Name, Table, same}
use Rattle.edi_unit.specs.Tree as tree
use Rattle.edi_unit.specs.Tree.{Act, Acts, Clauses, ProgramUnit}
use Rattle.edi_unit.specs.View as view
use Rattle.edi_unit.specs.View.{act_of, clause_of, unit_of}
use Rattle.edi_meaning.specs.Step.{Work, doing, loop_end, procedure_end, branch_end, program_entry, program_end, Standing, ready, at_when}
use Rattle.edi_meaning.specs.Step.{waiting, Process, Processes}
use Rattle.edi_walk.specs.declared.process.Work as code_work
use Rattle.edi_walk.specs.declared.process.Work.TheVariants as piece
use Rattle.edi_walk.specs.declared.process.Standing as code_standing
use Rattle.edi_walk.specs.declared.process.Standing.TheVariants as stands
use Rattle.edi_walk.specs.declared.process.Process as code_process
use Rattle.edi_walk.specs.declared.walker.Walker as code_walker
use Rattle.edi_walk.specs.Memory.{store_of}

-- a piece of work without the position of its statement
pub data Bare : Type 0 where
  does : Act → Bare
  loops_back : Clauses → Bare
  ends_procedure : Bare
  ends_branch : Bare
  enters_program : Bare
  ends_program : Bare

abbrev pub bare : Work → Bare
bare (doing a position) = does a
bare (loop_end cs position) = loops_back cs
bare (procedure_end line) = ends_procedure
bare branch_end = ends_branch
bare program_entry = enters_program
bare program_end = ends_program

abbrev pub bare_all : List Work → List Bare
bare_all [] = []
bare_all (w ∷ work) = bare w ∷ bare_all work

-- the statements of a list
abbrev pub acts_bare : Acts → List Bare
acts_bare tree.no_act = []
acts_bare (tree.act_then a as') = does a ∷ acts_bare as'

-- what a piece of the code's list stands for
abbrev pub piece_of : code_work.Work → List Bare
piece_of (piece.Doing a s) = does (act_of a.now) ∷ acts_bare (view.acts (map act_of s.now))
piece_of (piece.Again cs) = does (tree.while_act (view.clauses (map clause_of cs.now))) ∷ []
piece_of (piece.LoopEnd cs) = loops_back (view.clauses (map clause_of cs.now)) ∷ []
piece_of piece.ProcedureEnd = ends_procedure ∷ []
piece_of piece.BranchEnd = ends_branch ∷ []
piece_of piece.ProgramEntry = enters_program ∷ []
piece_of piece.ProgramEnd = ends_program ∷ []

-- the code's list, whose last piece is done first, before this
abbrev pub work_of : List code_work.Work → List Bare → List Bare
work_of [] behind = behind
work_of (w ∷ ws) behind = work_of ws (piece_of w ++ behind)

abbrev pub StandsSo : code_standing.Standing → Standing → Type 0
StandsSo stands.Ready ready = ⊤
StandsSo (stands.AtWhen cs) (at_when ds position) = ds ≡ view.clauses (map clause_of cs.now)
StandsSo (stands.Waiting n) (waiting k) = k ≡ n
StandsSo _ _ = ⊥

-- a process of the code stands for one of the definitions, by its name
pub record IsProcess (c : code_process.Process) (p : Name) (q : Process) : Type 0 where
  pub named : c.name.items ≡ p
  pub size : c.size ≡ q.size
  pub forks : c.forks ≡ q.forks
  pub work : work_of c.work.items [] ≡ bare_all q.work
  pub standing : StandsSo c.standing q.standing

abbrev pub AreProcesses : List code_process.Process → Table Process → Type 0
AreProcesses [] [] = ⊤
AreProcesses (c ∷ cs) (entry ∷ table) = IsProcess c entry.0 entry.1 × AreProcesses cs table
AreProcesses _ _ = ⊥

-- the first process of this name stands at this place; or none has it
abbrev pub LivesAt : Name → ℕ → List code_process.Process → Type 0
LivesAt name i [] = ⊥
LivesAt name zero (c ∷ cs) = same name c.name.items ≡ true
LivesAt name (suc i) (c ∷ cs) = (same name c.name.items ≡ false) × LivesAt name i cs

abbrev pub NoneLives : Name → List code_process.Process → Type 0
NoneLives name [] = ⊤
NoneLives name (c ∷ cs) = (same name c.name.items ≡ false) × NoneLives name cs

-- the processes without those of this name
abbrev pub without_named : Name → List code_process.Process → List code_process.Process
without_named name [] = []
without_named name (c ∷ cs) = if same name c.name.items then without_named name cs else c ∷ without_named name cs

-- none has forked more often than turns were taken
abbrev pub ForksFit : ℕ → ℕ → Table Process → Type 0
ForksFit bound turns [] = ⊤
ForksFit bound turns (entry ∷ table) = (entry.1.forks + turns ≤ bound) × ForksFit bound turns table

-- the walk of the code is where the walk of the definition is: these processes, these in the list, and nothing half done
pub record Holds (unit : ProgramUnit) (bound : ℕ) (w : code_walker.Walker) (s : Processes) (listed : List Name) : Type 0 where
  pub unit_is : unit_of w.evaluation.unit.now ≡ unit
  pub live : AreProcesses w.live.items s.live
  pub listed_are : map (λ n. n.items) w.listed.items ≡ listed
  pub store : store_of w.evaluation.memory ≡ s.world.store
  pub turns : w.evaluation.turns ≡ s.world.turns
  pub forks : ForksFit bound s.world.turns s.live
  pub within : s.world.turns ≤ bound
  pub small : bound < 2 ^ 64
  pub free : w.evaluation.frames.items ≡ []
