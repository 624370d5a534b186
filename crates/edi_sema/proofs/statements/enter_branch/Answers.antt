use Rattle.std.proofs.Common.{◌∷◌, subst}
use Rattle.edi_static.specs.Views.{environment}
use Rattle.edi_static.specs.Proper.{Proper}
use Rattle.edi_static.proofs.Proper.{around_proper}
use Rattle.edi_sema.specs.Blocks.{inside_block}
use Rattle.edi_sema.proofs.Staying.{given}
use Rattle.edi_sema.proofs.statements.enter_branch.Goals as goal

pub returns-clause-proper : goal.returns-clause-proper
returns-clause-proper c =
    let env = environment c.push_block.new.self in
    let n = c.in_ok-block.block in
    subst Proper (given (inside_block n env) (environment c.enter_around.new.known) c.in_ok-enter_around.ensures.exact)
    (around_proper (n ∷ env.around) env.begun env c.in_ok-push_block.ensures.proper)
