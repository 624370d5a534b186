use Rattle.edi_tree.specs.View.{type_decl_of}
use Rattle.edi_static.specs.Types.{type_decl}
use Rattle.edi_static.specs.Views.{environment}
use Rattle.edi_sema.proofs.Framed.{type_decl_framed}
use Rattle.edi_sema.proofs.Staying.{framed_answer}
use Rattle.edi_sema.proofs.openings.declared_type.Goals as goal

pub returns-clause-comes : goal.returns-clause-comes
returns-clause-comes c =
    let declared = type_decl_of c.args.declared.now in
    framed_answer (type_decl c.args.export declared) (environment c.args.known.now) (environment c.type_decl.new.known) c.type_decl.result
    (type_decl_framed c.args.export declared) c.type_decl.ensures.exact c.type_decl.ensures.declares.proper c.requires.stands.stands
