use Rattle.std.proofs.Common.{map, ap, ◌∙◌}
use Rattle.edi_unit.specs.Headings.{Formals}
use Rattle.edi_unit.specs.Lists.{list_items}
use Rattle.edi_static.specs.Environment.{formals_append}
use Rattle.edi_static.specs.Headings.{formal_one}
use Rattle.edi_static.specs.Views.{environment, formals, formal_of}
use Rattle.edi_static.proofs.Behind.{param_given}
use Rattle.edi_static.proofs.params.parameter_named.Goals as goal

pub returns-clause-exact : goal.returns-clause-exact
returns-clause-exact c =
    let fs : Formals = formals (map formal_of (list_items c.args.formals.now)) in
    param_given c.args.owner.block c.args.owner.before c.args.of (formal_one c.args.by_variable c.args.of) c.args.name.now (environment c.args.known.now) _ fs
    _ _
    c.in_ok-next_parameter.ensures.exact c.in_ok-declare.ensures.exact
    (c.in_ok-push_formal.ensures.ok ∙ ap (formals_append fs) c.plain_formal.ensures.exact)
