use Rattle.std.proofs.Common.{◌≤◌, length, refl, sym, arith}
use Rattle.edi_edit.proofs.Back.{length-earlier, popped, kept_again}
use Rattle.edi_edit.proofs.Text.undo.Goals as goal

pub take_step-requires : goal.take_step-requires
take_step-requires c = (popped _ _ _ _ c.self.invariant (sym c.in-Some.ensures.value)).can

pub invariant_of-self-in-Err : goal.invariant_of-self-in-Err
invariant_of-self-in-Err c =
    let last = popped _ _ _ _ c.self.invariant (sym c.in-Some.ensures.value) in
    let same = c.in-Err.ensures.err in
    let room : length c.self.inside.steps.items ≤ c.self.inside.steps.capacity = let kept = c.self.invariant in omega arith in
    rw (c.keep_step.ensures.kept, c.in-Some.ensures.items, same.0, same.1, kept_again _ _ _ _ last.again room) c.self.invariant

pub returns-in-Err-clause-refused : goal.returns-in-Err-clause-refused
returns-in-Err-clause-refused c =
    let last = popped _ _ _ _ c.self.invariant (sym c.in-Some.ensures.value) in
    let same = c.in-Err.ensures.err in
    let room : length c.self.inside.steps.items ≤ c.self.inside.steps.capacity = let kept = c.self.invariant in omega arith in
    rw (← c.self.view_is) (last.some, rw (c.keep_step.ensures.kept, c.in-Some.ensures.items, same.0, same.1, kept_again _ _ _ _ last.again room) refl)

pub returns-in-Err-clause-undos : goal.returns-in-Err-clause-undos
returns-in-Err-clause-undos c =
    let last = popped _ _ _ _ c.self.invariant (sym c.in-Some.ensures.value) in
    let same = c.in-Err.ensures.err in
    let room : length c.self.inside.steps.items ≤ c.self.inside.steps.capacity = let kept = c.self.invariant in omega arith in
    rw (length-earlier c.keep_step.new.steps.items _, c.keep_step.ensures.kept, c.in-Some.ensures.items, same.0, kept_again _ _ _ _ last.again room)
    c.self.invariant.few

pub invariant_of-self-in_default-take_step : goal.invariant_of-self-in_default-take_step
invariant_of-self-in_default-take_step c =
    rw (c.in-Some.ensures.items, c.in_default-take_step.ensures.ok) (popped _ _ _ _ c.self.invariant (sym c.in-Some.ensures.value)).kept

pub returns-clause-done : goal.returns-clause-done
returns-clause-done c =
    let last = popped _ _ _ _ c.self.invariant (sym c.in-Some.ensures.value) in
    rw (← c.self.view_is) (last.some, rw (c.in-Some.ensures.items, c.in_default-take_step.ensures.ok) last.undoes)

pub returns-clause-undos : goal.returns-clause-undos
returns-clause-undos c =
    rw (length-earlier c.pop_back.new.self.items _, c.in-Some.ensures.items) (popped _ _ _ _ c.self.invariant (sym c.in-Some.ensures.value)).kept.few
