use Rattle.std.proofs.Common.{◌≡◌, ◌<◌, length, get_or}
use Rattle.std.specs.Prelude.{map, ℕ}
use Rattle.edi_unit.specs.View.{block_of}
use Rattle.edi_scheme.specs.Code.{entry}
use Rattle.edi_code.proofs.program.block_entries.Given as goal

abbrev pub invariant-loop-block : goal.invariant-loop-block
invariant-loop-block l = record {
  here : l.here ≡ entry l.types (map block_of l.blocks) l.block;
  all : length l.entries.items ≡ l.block;
  known : (n : ℕ) → n < l.block → get_or l.entries.items n 0 ≡ entry l.types (map block_of l.blocks) n;
}
