-- Words of contracts. What a type is, seen without the memory that the code keeps it in.
use Rattle.edi_unit.specs.declared.types.Shape as code_shape
use Rattle.edi_unit.specs.declared.types.Shape.TheVariants as code
use Rattle.edi_unit.specs.Lists.{list_items}
use Rattle.edi_unit.specs.Types.{Shape, int, char, bool, enumeration, record_of, array_of, set_of}

abbrev pub shape_of : code_shape.Shape → Shape
shape_of code.Int = int
shape_of code.Char = char
shape_of code.Bool = bool
shape_of (code.Enum n) = enumeration n
shape_of (code.Record fs) = record_of (list_items fs)
shape_of (code.Array i lo hi e) = array_of i lo hi e
shape_of (code.Set b) = set_of b
