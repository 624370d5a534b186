-- The run has ended as it is told.
use Rattle.std.proofs.Common.{◌≤◌, length, refl, subst, arith}
use Rattle.edi_explore.specs.declared.finding.Search.{Search}
use Rattle.edi_explore.specs.Found.{most_choices}
use Rattle.edi_explore.specs.Shown.{IsMet}
use Rattle.edi_explore.proofs.Findings.{found_none}
use Rattle.edi_explore.proofs.Recording.{found_one, one_has}
use Rattle.edi_explore.proofs.finding.Search.record.Goals as goal

pub returns-in-Ok-clause-told : goal.returns-in-Ok-clause-told
returns-in-Ok-clause-told c = λ _.
    let b : Search = record c.args.self.now { found = c.push.new.self } in
    let met = subst (λ x. IsMet x c.in_ok-came.came c.args.met.ending c.args.met.shown.items) c.asks.ensures
    (c.came_after.ensures.is c.if-not-came_after.false) in
    one_has c.args.code.now c.args.input.now c.args.limits c.args.self.now b c.in_ok-came.came c.in_ok-found.found c.args.met.ending c.args.met.shown.items
    c.args.choices.items c.in-Ok.ensures.items refl c.in_ok-found.ensures.same met (c.came_after.ensures.moves c.if-not-came_after.false)

pub returns-in-Ok-clause-finds : goal.returns-in-Ok-clause-finds
returns-in-Ok-clause-finds c =
    let b : Search = record c.args.self.now { found = c.push.new.self } in
    let met = subst (λ x. IsMet x c.in_ok-came.came c.args.met.ending c.args.met.shown.items) c.asks.ensures
    (c.came_after.ensures.is c.if-not-came_after.false) in
    let few : length c.args.choices.items ≤ most_choices = omega (arith, c.if-len-gt-MOST_CHOICES.false, c.len.ensures, c.args.choices.ok.0) in
    found_one c.args.code.now c.args.input.now c.args.limits c.args.self.now b c.in_ok-came.came c.in_ok-found.found c.args.met.ending c.args.met.shown.items
    c.args.choices.items c.in-Ok.ensures.items refl c.in_ok-found.ensures.same met (c.came_after.ensures.moves c.if-not-came_after.false) c.requires.told c.requires.lacks
    (λ most is. omega (arith, c.has_many.ensures.few c.if-has_many.false most is, c.len-2.ensures, c.args.self.now.found.ok.0)) few c.in_ok-came.ensures.exact c.in_ok-found.ensures.waits

pub returns-then-len-gt-MOST_CHOICES-clause-finds : goal.returns-then-len-gt-MOST_CHOICES-clause-finds
returns-then-len-gt-MOST_CHOICES-clause-finds c = found_none c.args.code.now c.args.input.now c.args.limits c.args.self.now c.args.self.now refl refl

pub returns-then-has_many-clause-finds : goal.returns-then-has_many-clause-finds
returns-then-has_many-clause-finds c = found_none c.args.code.now c.args.input.now c.args.limits c.args.self.now c.args.self.now refl refl

pub returns-in_err-came-clause-finds : goal.returns-in_err-came-clause-finds
returns-in_err-came-clause-finds c = found_none c.args.code.now c.args.input.now c.args.limits c.args.self.now c.args.self.now refl refl

pub returns-then-eq-clause-finds : goal.returns-then-eq-clause-finds
returns-then-eq-clause-finds c = found_none c.args.code.now c.args.input.now c.args.limits c.args.self.now c.args.self.now refl refl

pub returns-then-not-came_after-clause-finds : goal.returns-then-not-came_after-clause-finds
returns-then-not-came_after-clause-finds c = found_none c.args.code.now c.args.input.now c.args.limits c.args.self.now c.args.self.now refl refl

pub returns-in_err-found-clause-finds : goal.returns-in_err-found-clause-finds
returns-in_err-found-clause-finds c = found_none c.args.code.now c.args.input.now c.args.limits c.args.self.now c.args.self.now refl refl

pub returns-clause-finds : goal.returns-clause-finds
returns-clause-finds c =
    let b : Search = record c.args.self.now { found = c.push.new.self } in
    found_none c.args.code.now c.args.input.now c.args.limits c.args.self.now b c.in-Err.ensures.items refl
