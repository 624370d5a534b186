use Rattle.edi_tree.specs.View.{const_list_of}
use Rattle.edi_static.specs.Types.{const_list}
use Rattle.edi_static.specs.Views.{environment}
use Rattle.edi_sema.proofs.Framed.{const_list_framed}
use Rattle.edi_sema.proofs.Staying.{framed_answer}
use Rattle.edi_sema.proofs.openings.constants.Goals as goal

pub returns-clause-comes : goal.returns-clause-comes
returns-clause-comes c =
    let declared = const_list_of c.args.list.now in
    framed_answer (const_list c.args.export declared) (environment c.args.known.now) (environment c.const_list.new.known) c.const_list.result
    (const_list_framed c.args.export declared) c.const_list.ensures.exact c.const_list.ensures.declares.proper c.requires.stands.stands
