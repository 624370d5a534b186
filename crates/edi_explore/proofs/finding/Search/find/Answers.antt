-- The ending has been found, or it is looked for.
use Rattle.std.proofs.Common.{refl, sym, subst}
use Rattle.edi_explore.specs.Shown.{HasEnding, asks_of}
use Rattle.edi_explore.proofs.Findings.{found_none}
use Rattle.edi_explore.proofs.finding.Search.find.Goals as goal

pub returns-then-has-clause-told : goal.returns-then-has-clause-told
returns-then-has-clause-told c = λ _.
    subst (λ fs. HasEnding (asks_of c.args.limits) fs c.args.met.ending c.args.met.shown.items) c.deref.ensures.value
    (subst (λ b. HasEnding b c.deref.result.now c.args.met.ending c.args.met.shown.items) c.asks.ensures (c.has.ensures.has c.if-has.true))

pub record-requires-clause-lacks : goal.record-requires-clause-lacks
record-requires-clause-lacks c = λ h.
    c.has.ensures.lacks c.if-has.false
    (subst (λ b. HasEnding b c.deref.result.now c.args.met.ending c.args.met.shown.items) (sym c.asks.ensures)
    (subst (λ fs. HasEnding (asks_of c.args.limits) fs c.args.met.ending c.args.met.shown.items) (sym c.deref.ensures.value) h))

pub returns-then-has-clause-finds : goal.returns-then-has-clause-finds
returns-then-has-clause-finds c = found_none c.args.code.now c.args.input.now c.args.limits c.args.self.now c.args.self.now refl refl

pub returns-in_err-choices-clause-finds : goal.returns-in_err-choices-clause-finds
returns-in_err-choices-clause-finds c = found_none c.args.code.now c.args.input.now c.args.limits c.args.self.now c.args.self.now refl refl
