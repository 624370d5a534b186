-- The input was not read.
use Rattle.std.proofs.Common.{Err, subst, sym}
use Rattle.edi_told.specs.Told.{WhereTold}
use Rattle.edi_runs.specs.explore.Told.{Reads}
use Rattle.edi_main.specs.text.ExploreCommand.{TakesInput}
use Rattle.edi_main.proofs.text.ExploreSteps.{input_stopped}
use Rattle.edi_main.proofs.text.explore.inputs.input_of.Goals as goal

pub returns-in-Err-clause-takes : goal.returns-in-Err-clause-takes
returns-in-Err-clause-takes g c =
    let left = g.S.Source.left c.args.input.now in
    let rest = g.S.Source.left c.read_input.new.source in
    subst (λ s. TakesInput c.args.asks (Err s) left rest) (sym c.input_status.ensures.exact)
    (input_stopped c.args.asks c.in-Err.fault left rest c.if-not-asks.false c.in-Err.ensures.reads)
