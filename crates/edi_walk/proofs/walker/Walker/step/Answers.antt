use Rattle.std.proofs.Common.{refl, rules}
use Rattle.edi_told.proofs.Told.{WhereTold-map}
use Rattle.edi_walk.proofs.Calls.{WhereTold-same}
use Rattle.edi_walk.proofs.Onward.{none_of, walks_lost, walks_nobody, walks_taken}
use Rattle.edi_walk.proofs.walker.Walker.step.Goals as goal

pub returns-then-is_empty-clause-exact : goal.returns-then-is_empty-clause-exact
returns-then-is_empty-clause-exact g c =
    WhereTold-same _ (g.C.Calls.state c.args.calls.now) (λ t. walks_nobody c.args.self.now c.args.choices.now t (none_of c.args.self.now.listed.items (search rules)))

pub returns-in-Some-clause-exact : goal.returns-in-Some-clause-exact
returns-in-Some-clause-exact g c =
    let mid = record c.args.self.now { listed = c.remove-name.new.self } in
    WhereTold-map _ _ (g.C.Calls.state c.args.calls.now) (g.C.Calls.state c.taken.new.calls)
    (λ s t h. walks_taken c.args.self.now mid c.pick-at.result c.remove-name.result c.args.choices.now c.pick-at.new.choices (search rules) (search rules) (search rules)
    c.remove-name.ensures.value c.remove-name.ensures.items refl refl c.taken.new.self c.in-Some.index c.taken.result s t (search rules) h) c.taken.ensures.exact

pub returns-in-None-clause-exact : goal.returns-in-None-clause-exact
returns-in-None-clause-exact g c =
    let mid = record c.args.self.now { listed = c.remove-name.new.self } in
    WhereTold-same _ (g.C.Calls.state c.args.calls.now)
    (λ s. walks_lost c.args.self.now mid c.pick-at.result c.remove-name.result c.args.choices.now c.pick-at.new.choices (search rules) (search rules) (search rules)
    c.remove-name.ensures.value c.remove-name.ensures.items refl refl s (search rules))
