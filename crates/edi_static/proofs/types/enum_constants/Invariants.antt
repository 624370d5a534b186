use Rattle.std.proofs.Common.{◌≡◌, ◌+◌, ◌<◌, drop, length, IsTrue}
use Rattle.edi_tree.specs.View.{names as listed}
use Rattle.edi_unit.specs.Types.{is_elementary}
use Rattle.edi_static.specs.Types.{enum_constants}
use Rattle.edi_static.specs.Declaring.{MayDeclare}
use Rattle.edi_static.specs.Views.{environment}
use Rattle.edi_static.proofs.types.enum_constants.Given as goal

abbrev pub invariant-loop-name : goal.invariant-loop-name
invariant-loop-name l = record {
  may : MayDeclare l.export (environment l.known);
  depth : length l.known.scopes ≡ length l.initial.known.scopes;
  fits : (l.of < length l.known.types) × IsTrue (is_elementary l.known.types l.of);
  at : l.ordinal ≡ 1 + l.name-index;
  left : enum_constants l.export l.of l.ordinal (listed (drop l.name-index l.name-items)) (environment l.known) ≡ enum_constants l.export l.of 1
      (listed l.name-items) (environment l.initial.known);
}
