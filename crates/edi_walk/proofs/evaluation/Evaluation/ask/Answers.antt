use Rattle.std.proofs.Common.{sym, subst, ap, ◌∙◌, rules}
use Rattle.edi_told.specs.Told.{WhereTold}
use Rattle.edi_walk.specs.Runs.{Asks}
use Rattle.edi_walk.specs.declared.frames.Given.TheVariants as make
use Rattle.std.specs.Prelude.{map}
use Rattle.edi_walk.specs.Data.{cell_of}
use Rattle.edi_walk.specs.Frames.{some_cells}
use Rattle.edi_walk.specs.Machine.{given_of}
use Rattle.edi_walk.proofs.Calls.{told_up, told_taken, same_on}
use Rattle.edi_walk.proofs.evaluation.Evaluation.ask.Goals as goal

pub returns-in_err-cells-clause-exact : goal.returns-in_err-cells-clause-exact
returns-in_err-cells-clause-exact g c =
    told_up c.args.number c.args.line (given_of c.args.self.now.given) _ c.args.self.now c.take.new.self (g.C.Calls.state c.args.calls.now) (search rules)
    c.take.ensures.same

pub returns-clause-exact : goal.returns-clause-exact
returns-clause-exact g c =
    let old = g.C.Calls.state c.args.calls.now in
    let now = g.C.Calls.state c.ask_with.new.calls in
    told_taken c.args.number c.args.line (given_of c.args.self.now.given) (some_cells (map cell_of c.in_ok-cells.cells.items)) c.ask_with.result c.args.self.now
    c.take.new.self c.ask_with.new.self make.Nothing old now c.take.ensures.exact (ap given_of (sym c.take.ensures.given ∙ c.in_ok-cells.ensures.exact))
    (subst (λ xs. WhereTold old now (λ s t. Asks c.args.number c.args.line (some_cells (map cell_of xs)) c.ask_with.result c.take.new.self c.ask_with.new.self s t))
    c.deref.ensures.value c.ask_with.ensures.exact)

pub returns-clause-same : goal.returns-clause-same
returns-clause-same g c = same_on c.args.self.now c.take.new.self c.ask_with.new.self c.take.ensures.same c.ask_with.ensures.same
