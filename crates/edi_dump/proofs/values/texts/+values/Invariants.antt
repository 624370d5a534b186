use Rattle.std.proofs.Common.{◌≡◌, ◌++◌, ◌+◌, ◌*◌, true, drop}
use Rattle.edi_unit.specs.ShapeView.{shape_of}
use Rattle.edi_unit.specs.TypeTables.{part_types}
use Rattle.edi_dump.specs.values.Words.{piece_within, parts_by}
use Rattle.edi_dump.specs.Views.{constants_in, types_in}
use Rattle.edi_dump.proofs.values.texts.+values.Given as goal

abbrev pub decreases-put_within : goal.decreases-put_within
decreases-put_within l = 4 * l.deep

abbrev pub decreases-put_shape : goal.decreases-put_shape
decreases-put_shape l = 4 * l.deep + 3

abbrev pub decreases-put_compound : goal.decreases-put_compound
decreases-put_compound l = 4 * l.deep + 2

abbrev pub decreases-put_parts : goal.decreases-put_parts
decreases-put_parts l = 4 * l.deep + 1

abbrev pub invariant-put_parts-loop-index : goal.invariant-put_parts-loop-index
invariant-put_parts-loop-index l = record {
  text :
      l.out.items ++ (parts_by (types_in l.known) (constants_in l.known) (piece_within (types_in l.known) (constants_in l.known) l.deep) l.first l.more
      (drop l.index (part_types (shape_of l.shape))) l.rest).text
      ≡ l.fn.out.items ++ (parts_by (types_in l.known) (constants_in l.known) (piece_within (types_in l.known) (constants_in l.known) l.deep) true l.left
      (part_types (shape_of l.shape)) l.words).text;
  left :
      (parts_by (types_in l.known) (constants_in l.known) (piece_within (types_in l.known) (constants_in l.known) l.deep) l.first l.more
      (drop l.index (part_types (shape_of l.shape))) l.rest).left
      ≡ (parts_by (types_in l.known) (constants_in l.known) (piece_within (types_in l.known) (constants_in l.known) l.deep) true l.left
      (part_types (shape_of l.shape)) l.words).left;
}
