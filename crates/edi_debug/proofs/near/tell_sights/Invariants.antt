use Rattle.std.proofs.Common.{ℕ, ◌<◌, get_or}
use Rattle.edi_unit.specs.Tree.{ProgramUnit}
use Rattle.edi_sights.specs.declared.answer.Sight.{Sight}
use Rattle.edi_code.specs.Mapped.{IsMapped}
use Rattle.edi_debug.specs.stops.Near.{TellsSight, TellsToo}
use Rattle.edi_debug.proofs.near.tell_sights.Given as goal

abbrev pub invariant-loop-sight : goal.invariant-loop-sight
invariant-loop-sight l = record {
  keeps : TellsToo l.fn.near l.near;
  tells : (unit : ProgramUnit) → IsMapped unit l.fn.mapped → (i : ℕ) (d : Sight) → i < l.sight-index → TellsSight unit l.near (get_or l.fn.sights i d);
}
