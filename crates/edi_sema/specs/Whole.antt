-- Definition. The parts of a whole program.
use Rattle.std.specs.Prelude.{ℕ, false, List}
use Rattle.edi_scope.specs.declared.entity.Entity.TheVariants as entity
use Rattle.edi_tree.specs.Tree as text
use Rattle.edi_unit.specs.declared.units.BlockKind.TheVariants as block_kind
use Rattle.edi_unit.specs.Tree.{ProgramUnit}
use Rattle.edi_static.specs.Judged.{Judged, gives, ◌>>=◌}
use Rattle.edi_static.specs.Environment.{Environment, at_first, declare, enter}
use Rattle.edi_static.specs.Headings.{round, own_name, heading_parts}
use Rattle.edi_static.specs.Declarations.{with_heading}
use Rattle.edi_static.specs.Programs.{program_heading}

-- behind the heading of a program: what is known, and the calls of the system that its parameters are
pub record Heads : Type 0 where
  pub calls : List ℕ
  pub env : Environment

abbrev pub begun_program : text.Heading → Environment → Judged Heads
begun_program h env =
    heading_parts 0 h env >>= λ headed.
    round (declare false (own_name h) (entity.Procedure 0)) (with_heading block_kind.Program headed) >>= λ begun.
    program_heading begun.types h headed.asks >>= λ calls.
    gives (record { calls = calls; env = begun })

abbrev pub program_unit : List ℕ → Environment → ProgramUnit
program_unit calls env = record { types = env.types; blocks = env.blocks; program = 0; calls = calls }

-- where a program begins
abbrev pub first_environment : Environment
first_environment = enter false at_first
