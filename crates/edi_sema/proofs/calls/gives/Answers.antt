use Rattle.std.proofs.Common.{◌∙◌, ap}
use Rattle.std.specs.Prelude.{None}
use Rattle.edi_unit.specs.Headings.{heading}
use Rattle.edi_static.specs.Environment.{same_heading}
use Rattle.edi_static.specs.Views.{asked_of}
use Rattle.edi_sema.proofs.calls.gives.Goals as goal

pub returns : goal.returns
returns c = record {
  exact = c.asks_only.ensures.exact ∙ ap (λ fs. same_heading (asked_of c.args.asked.now) (heading fs None)) c.plain_formal.ensures.exact;
}
