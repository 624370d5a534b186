use Rattle.std.proofs.Common.{◌≡◌, length}
use Rattle.edi_code.specs.Stored.{AreFields}
use Rattle.edi_code.proofs.stored.all_fields.Given as goal

abbrev pub invariant-loop-of : goal.invariant-loop-of
invariant-loop-of l = record { all : length l.rows.items ≡ l.of; known : AreFields l.types l.rows.items }
