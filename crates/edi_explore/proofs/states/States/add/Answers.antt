-- The state is kept, and then a link to it.
use Rattle.std.proofs.Common.{◌≡◌, ℕ, Option, subst}
use Rattle.std.specs.Prelude.{IfSome}
use Rattle.edi_explore.specs.Shown.{asks_of}
use Rattle.edi_explore.specs.States.{IsAdded}
use Rattle.edi_explore.proofs.Adding.{added_from}
use Rattle.edi_explore.proofs.states.States.add.Goals as goal

pub returns-clause-added : goal.returns-clause-added
returns-clause-added c = λ _.
    let old = c.args.self.now in
    let put = c.keep.new.self in
    let asks = asks_of c.args.limits in
    added_from c.args.origin.state c.in-Some.number asks old put c.note_link.new.self c.args.kernel.now c.args.calls.now
    (subst (λ (o : Option ℕ). IfSome o (λ n. (h : IsAdded asks old put c.args.kernel.now c.args.calls.now) × (h.number ≡ n))) c.in-Some.is
    c.in_ok-kept.ensures.added) c.in_ok-kept.ensures.links c.in_ok-note_link.ensures.rest c.in_ok-note_link.ensures.exact
