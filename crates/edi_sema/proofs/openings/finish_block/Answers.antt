use Rattle.edi_unit.specs.View.{acts_of}
use Rattle.edi_static.specs.Views.{environment}
use Rattle.edi_sema.proofs.Staying.{finish_comes}
use Rattle.edi_sema.proofs.openings.finish_block.Goals as goal

pub returns-clause-comes : goal.returns-clause-comes
returns-clause-comes c =
    finish_comes (environment c.args.known.now) (environment c.statement_list.new.known) (environment c.close_block.new.known) c.args.block c.args.end
    (acts_of c.in_ok-acts.acts) c.close_block.result c.requires.stands c.in_ok-acts.ensures.stays c.close_block.ensures.exact
