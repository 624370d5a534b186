use Rattle.std.proofs.Common.{◌≡◌, length}
use Rattle.std.specs.Prelude.{map}
use Rattle.edi_unit.specs.View.{block_of}
use Rattle.edi_code.specs.Stored.{AreVariables}
use Rattle.edi_code.proofs.stored.all_variables.Given as goal

abbrev pub invariant-loop-block : goal.invariant-loop-block
invariant-loop-block l = record { all : length l.rows.items ≡ l.block; known : AreVariables l.types (map block_of l.blocks) l.rows.items }
