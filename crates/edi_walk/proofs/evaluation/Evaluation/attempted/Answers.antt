use Rattle.std.proofs.Common.{Ok, refl, sym, subst}
use Rattle.edi_walk.specs.declared.process.Asked.TheVariants as asks
use Rattle.edi_walk.specs.Works.{Attempted}
use Rattle.edi_walk.proofs.evaluation.Evaluation.attempted.Goals as goal

pub returns-then-ran-clause-exact : goal.returns-then-ran-clause-exact
returns-then-ran-clause-exact c =
    subst (λ b. Attempted c.args.clauses b (Ok asks.Goes) c.args.self.now c.args.self.now) (sym c.if-ran.true) (refl, refl)

pub returns-clause-exact : goal.returns-clause-exact
returns-clause-exact c =
    subst (λ b. Attempted c.args.clauses b c.after_turn.result c.args.self.now c.after_turn.new.self) (sym c.if-ran.false) c.after_turn.ensures.exact
