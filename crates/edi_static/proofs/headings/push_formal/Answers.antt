use Rattle.std.proofs.Common.{map, ap, ◌∙◌}
use Rattle.edi_unit.specs.Lists.{list_items}
use Rattle.edi_static.specs.Views.{formals, formal_of}
use Rattle.edi_static.proofs.Askings.{more_formals}
use Rattle.edi_static.proofs.headings.push_formal.Goals as goal

pub returns-clause-ok : goal.returns-clause-ok
returns-clause-ok c =
    ap (λ fs. formals (map formal_of fs)) c.in_ok-push.ensures.exact ∙ more_formals (list_items c.args.formals.now) c.args.formal
