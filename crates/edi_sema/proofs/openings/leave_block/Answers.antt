use Rattle.std.proofs.Common.{◌<◌, length, drop, ap, sym, ◌∙◌, subst}
use Rattle.edi_static.specs.Headings.{leave}
use Rattle.edi_static.specs.Proper.{Proper}
use Rattle.edi_static.specs.Views.{environment}
use Rattle.edi_static.proofs.Proper.{around_proper}
use Rattle.edi_sema.specs.Splits.{with_begun}
use Rattle.edi_sema.proofs.openings.leave_block.Goals as goal

pub close_scope-requires-clause-depth : goal.close_scope-requires-clause-depth
close_scope-requires-clause-depth c = subst (λ e. 1 < length e.scopes) (sym c.leave_around.ensures.exact) c.requires.depth

pub close_scope-requires-clause-proper : goal.close_scope-requires-clause-proper
close_scope-requires-clause-proper c =
    let env = environment c.args.known.now in
    subst Proper (sym c.leave_around.ensures.exact) (around_proper (drop 1 env.around) env.begun env c.requires.proper)

pub returns-clause-exact : goal.returns-clause-exact
returns-clause-exact c =
    c.close_scope.ensures.exact ∙ ap (λ e. leave (with_begun c.args.begun e)) c.leave_around.ensures.exact
