use Rattle.std.proofs.Common.{[], true, ap, sym, ◌∙◌, subst}
use Rattle.edi_static.specs.Environment.{enter}
use Rattle.edi_static.specs.Views.{environment}
use Rattle.edi_sema.specs.Frames.{EnvironmentStands}
use Rattle.edi_sema.specs.Splits.{with_begun}
use Rattle.edi_sema.proofs.Opening.{module_stands}
use Rattle.edi_sema.proofs.Staying.{given}
use Rattle.edi_sema.proofs.openings.open_module.Goals as goal

pub returns-clause-stands : goal.returns-clause-stands
returns-clause-stands c =
    let env = environment c.args.known.now in
    subst EnvironmentStands (sym (c.take_begun.ensures.exact
    ∙ ap (with_begun []) (sym (given (enter true env) (environment c.enter.new.self) c.in_ok-enter.ensures.exact))))
    (module_stands env c.requires.stands)
