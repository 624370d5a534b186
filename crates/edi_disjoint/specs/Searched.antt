-- Helper. What the code looks through a text for, as parts of a unit.
use Rattle.std.specs.Prelude.{◌≡◌, map}
use Rattle.edi_unit.specs.View.{block_of}
use Rattle.edi_unit.specs.Tree.{ProgramUnit}
use Rattle.edi_disjoint.specs.declared.searching.Whole.{Whole}
use Rattle.edi_disjoint.specs.Found.{AreTargets}

pub record IsWhole (unit : ProgramUnit) (whole : Whole) : Type 0 where
  pub blocks : map block_of whole.blocks.now ≡ unit.blocks
  pub program : whole.program ≡ unit.program
  pub targets : AreTargets unit whole.targets.now
