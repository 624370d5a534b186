-- The steps of the demonstration, and how many turns are left behind each.
use Rattle.std.proofs.Common.{◌≡◌, ℕ, suc, ◌+◌, Bool, true, false, not, List, [], ◌∷◌, Option, Some, None, pos, refl, ltb, leb}
use Rattle.std.specs.Option.{option_map}
use Rattle.edi_calls.specs.Names.{Name, Table}
use Rattle.edi_calls.specs.Outcome as outcome
use Rattle.edi_calls.specs.Ready.{stays, joins}
use Rattle.edi_calls.specs.State.{Traced}
use Rattle.edi_unit.specs.declared.expressions.Operator.TheVariants as op
use Rattle.edi_unit.specs.Values.{ordinal}
use Rattle.edi_unit.specs.Tree as unit
use Rattle.edi_unit.specs.Tree.{Acts, Clauses, Block}
use Rattle.edi_unit.specs.Need.{block_at}
use Rattle.edi_meaning.specs.Store.{Instance, value}
use Rattle.edi_meaning.specs.Step.{Position, Work, doing, procedure_end, branch_end, program_end, Standing, ready, at_when, waiting, Process, Processes, went}
use Rattle.edi_meaning.specs.Step.{ended, step}
use Rattle.edi_utils.proofs.demonstrated.Blocks.{with_number, procedure_block, call_act, counter_place}
use Rattle.edi_utils.proofs.demonstrated.Resolving.{unit_of}

-- ---- states

-- the names of the two branches
abbrev pub name_of : Bool → Name
name_of true = 1 ∷ 0 ∷ []
name_of false = 1 ∷ 1 ∷ []

-- what stands for one branch, and for the other if it has not ended
abbrev pub entries : {A : Type 0} → Bool → A → Option A → Table A
entries true a None = (name_of true, a) ∷ []
entries true a (Some b) = (name_of true, a) ∷ (name_of false, b) ∷ []
entries false a None = (name_of false, a) ∷ []
entries false a (Some b) = (name_of true, b) ∷ (name_of false, a) ∷ []

-- where a branch stands, with the number of its block, the line at which the procedure was called in which it is, and with what it has to do behind it
pub data At : Type 0 where
  at_call : (k : ℕ) → List Work → At
  entered : (k call b line : ℕ) → List Work → At
  arrived : (k call b line : ℕ) → List Work → At
  behind : (k call b : ℕ) → List Work → At

-- the conditions of a procedure, and where its `when` stands
abbrev pub clauses : (line : ℕ) → Clauses
clauses line =
    unit.clause_then (unit.clause (with_number op.Less 32767 line)
    (unit.act_then (unit.assign counter_place (with_number op.Plus 1 line)) unit.no_act)) unit.no_clause

abbrev pub place_in : (b : ℕ) → Position
place_in b = record { of = b; path = 0 ∷ [] }

abbrev pub branch_instance : (k : ℕ) → Instance
branch_instance k = record { frame = record { block = k; need = 5; parent = ([], 0) }; cells = [] }

abbrev pub procedure_instance : (b : ℕ) → Instance
procedure_instance b = record { frame = record { block = b; need = 8; parent = ([], 0) }; cells = [] }

-- the variable stands in the instance of the program
abbrev pub program_instance : (x : ℕ) → Instance
program_instance x = record { frame = record { block = 0; need = 6; parent = ([], 0) }; cells = value (ordinal (pos x)) ∷ [] }

abbrev pub work_at : At → List Work
work_at (at_call k work) = work
work_at (entered k c b line work) = doing (unit.when_act (clauses line) line) (place_in b) ∷ procedure_end c ∷ work
work_at (arrived k c b line work) = procedure_end c ∷ work
work_at (behind k c b work) = procedure_end c ∷ work

abbrev pub standing_at : At → Standing
standing_at (at_call k work) = ready
standing_at (entered k c b line work) = ready
standing_at (arrived k c b line work) = at_when (clauses line) (place_in b)
standing_at (behind k c b work) = ready

abbrev pub instances_at : At → List Instance
instances_at (at_call k work) = branch_instance k ∷ []
instances_at (entered k c b line work) = branch_instance k ∷ procedure_instance b ∷ []
instances_at (arrived k c b line work) = branch_instance k ∷ procedure_instance b ∷ []
instances_at (behind k c b work) = branch_instance k ∷ procedure_instance b ∷ []

-- the share of each branch is half of what the program leaves
abbrev pub process_at : At → Process
process_at a = record { size = 32765; forks = 0; work = work_at a; standing = standing_at a }

abbrev pub live_branches : Option At → ℕ
live_branches None = 1
live_branches (Some b) = 2

abbrev pub program_process : Standing → Process
program_process standing = record { size = 65536; forks = 1; work = program_end ∷ []; standing = standing }

-- while branches live
abbrev pub state : Bool → At → Option At → (x turns : ℕ) → Traced → Processes
state which a other x turns system = record {
  live = ([], program_process (waiting (live_branches other))) ∷ entries which (process_at a) (option_map process_at other);
  world = record {
    store = ([], program_instance x ∷ []) ∷ entries which (instances_at a) (option_map instances_at other);
    system = system;
    turns = turns;
  };
}

-- behind both
abbrev pub last_state : (x turns : ℕ) → Traced → Processes
last_state x turns system = record {
  live = ([], program_process ready) ∷ [];
  world = record { store = ([], program_instance x ∷ []) ∷ []; system = system; turns = turns };
}

-- ---- steps

-- a procedure is entered
pub enters : (blocks : List Block) (which : Bool) (other : Option At) (k b line body_line : ℕ) (position : Position) (work : List Work) (x t : ℕ)
    (system : Traced) → block_at blocks b ≡ procedure_block body_line
    → step (unit_of blocks) (state which (at_call k (doing (call_act b line) position ∷ work)) other x (suc t) system) (name_of which)
    ≡ went (state which (entered k line b body_line work) other x t system) stays false
enters blocks true None k b line body_line position work x t system is = rw is refl
enters blocks true (Some o) k b line body_line position work x t system is = rw is refl
enters blocks false None k b line body_line position work x t system is = rw is refl
enters blocks false (Some o) k b line body_line position work x t system is = rw is refl

-- it arrives at its `when`
pub arrives : (blocks : List Block) (which : Bool) (other : Option At) (k c b line : ℕ) (work : List Work) (x t : ℕ) (system : Traced)
    → step (unit_of blocks) (state which (entered k c b line work) other x (suc t) system) (name_of which)
    ≡ went (state which (arrived k c b line work) other x t system) (joins (name_of which ∷ [])) false
arrives blocks true None k c b line work x t system = refl
arrives blocks true (Some o) k c b line work x t system = refl
arrives blocks false None k c b line work x t system = refl
arrives blocks false (Some o) k c b line work x t system = refl

-- its condition is true, and the variable is counted up, without a turn
pub counts : (blocks : List Block) (which : Bool) (other : Option At) (k c b line : ℕ) (work : List Work) (x t : ℕ) (system : Traced) → ltb x 32767 ≡ true
    → leb (x + 1) 32767 ≡ true
    → step (unit_of blocks) (state which (arrived k c b line work) other x t system) (name_of which)
    ≡ went (state which (behind k c b work) other (x + 1) t system) stays false
counts blocks true None k c b line work x t system less few = rw (less, few) refl
counts blocks true (Some o) k c b line work x t system less few = rw (less, few) refl
counts blocks false None k c b line work x t system less few = rw (less, few) refl
counts blocks false (Some o) k c b line work x t system less few = rw (less, few) refl

-- it is left
pub returns : (blocks : List Block) (which : Bool) (other : Option At) (k c b : ℕ) (work : List Work) (x t : ℕ) (system : Traced)
    → step (unit_of blocks) (state which (behind k c b work) other x (suc t) system) (name_of which)
    ≡ went (state which (at_call k work) other x t system) stays false
returns blocks true None k c b work x t system = refl
returns blocks true (Some o) k c b work x t system = refl
returns blocks false None k c b work x t system = refl
returns blocks false (Some o) k c b work x t system = refl

-- a branch ends while the other lives
pub leaves : (blocks : List Block) (which : Bool) (o : At) (k x t : ℕ) (system : Traced)
    → step (unit_of blocks) (state which (at_call k (branch_end ∷ [])) (Some o) x (suc t) system) (name_of which)
    ≡ went (state (not which) o None x t system) (joins []) false
leaves blocks true o k x t system = refl
leaves blocks false o k x t system = refl

-- and the last one
pub leaves_last : (blocks : List Block) (which : Bool) (k x t : ℕ) (system : Traced)
    → step (unit_of blocks) (state which (at_call k (branch_end ∷ [])) None x (suc t) system) (name_of which)
    ≡ went (last_state x t system) (joins ([] ∷ [])) false
leaves_last blocks true k x t system = refl
leaves_last blocks false k x t system = refl

pub finishes : (blocks : List Block) (x t : ℕ) (system : Traced) → step (unit_of blocks) (last_state x (suc t) system) [] ≡ ended outcome.done system t
finishes blocks x t system = refl

-- ---- without a turn

pub call_stops : (blocks : List Block) (which : Bool) (other : Option At) (k b line body_line : ℕ) (position : Position) (work : List Work) (x : ℕ)
    (system : Traced) → block_at blocks b ≡ procedure_block body_line
    → step (unit_of blocks) (state which (at_call k (doing (call_act b line) position ∷ work)) other x 0 system) (name_of which)
    ≡ ended outcome.turns system 0
call_stops blocks true None k b line body_line position work x system is = rw is refl
call_stops blocks true (Some o) k b line body_line position work x system is = rw is refl
call_stops blocks false None k b line body_line position work x system is = rw is refl
call_stops blocks false (Some o) k b line body_line position work x system is = rw is refl

pub when_stops : (blocks : List Block) (which : Bool) (other : Option At) (k c b line : ℕ) (work : List Work) (x : ℕ) (system : Traced)
    → step (unit_of blocks) (state which (entered k c b line work) other x 0 system) (name_of which) ≡ ended outcome.turns system 0
when_stops blocks true None k c b line work x system = refl
when_stops blocks true (Some o) k c b line work x system = refl
when_stops blocks false None k c b line work x system = refl
when_stops blocks false (Some o) k c b line work x system = refl

pub return_stops : (blocks : List Block) (which : Bool) (other : Option At) (k c b : ℕ) (work : List Work) (x : ℕ) (system : Traced)
    → step (unit_of blocks) (state which (behind k c b work) other x 0 system) (name_of which) ≡ ended outcome.turns system 0
return_stops blocks true None k c b work x system = refl
return_stops blocks true (Some o) k c b work x system = refl
return_stops blocks false None k c b work x system = refl
return_stops blocks false (Some o) k c b work x system = refl

pub end_stops : (blocks : List Block) (which : Bool) (other : Option At) (k x : ℕ) (system : Traced)
    → step (unit_of blocks) (state which (at_call k (branch_end ∷ [])) other x 0 system) (name_of which) ≡ ended outcome.turns system 0
end_stops blocks true None k x system = refl
end_stops blocks true (Some o) k x system = refl
end_stops blocks false None k x system = refl
end_stops blocks false (Some o) k x system = refl

pub last_stops : (blocks : List Block) (x : ℕ) (system : Traced) → step (unit_of blocks) (last_state x 0 system) [] ≡ ended outcome.turns system 0
last_stops blocks x system = refl
