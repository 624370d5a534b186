use Rattle.edi_unit.specs.View.{acts_of}
use Rattle.edi_static.specs.Views.{environment}
use Rattle.edi_sema.proofs.Staying.{module_finish_comes}
use Rattle.edi_sema.proofs.openings.finish_module.Goals as goal

pub returns-clause-comes : goal.returns-clause-comes
returns-clause-comes c =
    module_finish_comes (environment c.args.known.now) (environment c.statement_list.new.known) (environment c.add_statements.new.known) c.here-block.result
    (acts_of c.in_ok-acts.acts) c.add_statements.result c.requires.stands c.in_ok-acts.ensures.stays c.add_statements.ensures.exact
