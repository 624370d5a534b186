use Rattle.edi_tree.specs.View.{var_list_of}
use Rattle.edi_static.specs.Types.{var_list}
use Rattle.edi_static.specs.Views.{environment}
use Rattle.edi_sema.proofs.Framed.{var_list_framed}
use Rattle.edi_sema.proofs.Staying.{framed_answer}
use Rattle.edi_sema.proofs.openings.variables.Goals as goal

pub returns-clause-comes : goal.returns-clause-comes
returns-clause-comes c =
    let declared = var_list_of c.args.list.now in
    framed_answer (var_list c.args.export declared) (environment c.args.known.now) (environment c.var_list.new.known) c.var_list.result
    (var_list_framed c.args.export declared) c.var_list.ensures.exact c.var_list.ensures.declares.proper c.requires.stands.stands
