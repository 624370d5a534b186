use Rattle.std.proofs.Common.{[], ap, sym, ◌∙◌, subst}
use Rattle.edi_static.specs.Views.{environment}
use Rattle.edi_sema.specs.Blocks.{inside_block}
use Rattle.edi_sema.specs.Frames.{EnvironmentStands}
use Rattle.edi_sema.specs.Splits.{with_begun}
use Rattle.edi_sema.proofs.Opening.{open_stands}
use Rattle.edi_sema.proofs.Staying.{given}
use Rattle.edi_sema.proofs.openings.open_block.Goals as goal

pub returns-clause-stands : goal.returns-clause-stands
returns-clause-stands c =
    let env = environment c.args.known.now in
    subst EnvironmentStands (sym (c.take_begun.ensures.exact
    ∙ ap (with_begun []) (sym (given (inside_block c.args.block env) (environment c.enter_around.new.known) c.in_ok-enter_around.ensures.exact))))
    (open_stands c.args.block env c.requires.stands)
