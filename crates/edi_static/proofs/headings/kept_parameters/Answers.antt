use Rattle.std.proofs.Common.{ap, ◌∙◌}
use Rattle.edi_unit.specs.Lists.{list_items}
use Rattle.edi_static.specs.Environment.{parameters_of}
use Rattle.edi_static.proofs.Askings.{kept}
use Rattle.edi_static.proofs.headings.kept_parameters.Goals as goal

pub returns-in-Ok : goal.returns-in-Ok
returns-in-Ok c =
    record { exact = c.in-Ok.ensures.exact ∙ kept (list_items c.asked_formals.result.now) ∙ ap parameters_of c.asked_formals.ensures.exact }
