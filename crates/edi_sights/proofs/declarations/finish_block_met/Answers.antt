use Rattle.std.proofs.Common.{sym}
use Rattle.edi_tree.specs.View.{list_of}
use Rattle.edi_static.specs.Views.{environment}
use Rattle.edi_sema.proofs.Staying.{given}
use Rattle.edi_sights.proofs.Agreeing.{finished_answer}
use Rattle.edi_sights.proofs.declarations.finish_block_met.Goals as goal

pub returns-clause-awaits : goal.returns-clause-awaits
returns-clause-awaits c =
    let env = environment c.args.known.now in
    let now = environment c.body_met.new.known in
    finished_answer c.args.name.now c.args.block (list_of c.args.list.now) c.args.end env now (environment c.finish_block.new.known) c.args.awaits.now.items
    c.body_met.new.awaits.items
    c.finish_block.result c.finish_block.ensures.exact (sym (given env now c.in_ok-body_met.ensures.exact)) c.in_ok-body_met.ensures.awaits
