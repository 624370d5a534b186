use Rattle.edi_unit.specs.View.{expression_of}
use Rattle.edi_walk.specs.Data.{designated_of}
use Rattle.edi_walk.proofs.ReadParts.{ChainLeft, PartsLeft}
use Rattle.edi_walk.proofs.reading.+reading.Given as goal

abbrev pub invariant-read_links-loop-link : goal.invariant-read_links-loop-link
invariant-read_links-loop-link l = ChainLeft l.here (expression_of l.e) l.link-items l.left l.link-index

abbrev pub invariant-read_parts-loop-part : goal.invariant-read_parts-loop-part
invariant-read_parts-loop-part l = PartsLeft l.here (designated_of l.initial.target) l.part-items (designated_of l.target) l.part-index
