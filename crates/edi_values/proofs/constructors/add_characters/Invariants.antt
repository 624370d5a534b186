use Rattle.std.proofs.Common.{◌≡◌, ◌++◌, take, map}
use Rattle.edi_static.specs.Fitting.{character}
use Rattle.edi_static.specs.Views.{typed_of}
use Rattle.edi_values.proofs.constructors.add_characters.Given as goal

abbrev pub invariant-loop-one : goal.invariant-loop-one
invariant-loop-one l = record {
  added : map typed_of l.parts.items ≡ map typed_of l.initial.parts.items ++ map character (take l.one-index l.characters);
}
