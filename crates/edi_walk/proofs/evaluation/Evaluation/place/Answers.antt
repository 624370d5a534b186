use Rattle.std.proofs.Common.{sym, ap, ◌∙◌}
use Rattle.std.specs.Prelude.{map}
use Rattle.edi_unit.specs.View as view
use Rattle.edi_unit.specs.View.{part_of, parts_of, unit_of}
use Rattle.edi_walk.specs.Data.{designated_of}
use Rattle.edi_walk.specs.Frames.{nothing, places, refines}
use Rattle.edi_walk.specs.Machine.{deeper_of, given_of, next_of, rest_of, world_of}
use Rattle.edi_walk.proofs.FrameSteps.{place_goes}
use Rattle.edi_walk.proofs.Layers.{place_seen}
use Rattle.edi_walk.proofs.evaluation.Evaluation.place.Goals as goal

pub returns-clause-exact : goal.returns-clause-exact
returns-clause-exact c levels system enough =
    let self = c.args.self.now in
    let p = c.args.place.now in
    let w = world_of self system in
    c.put.ensures.exact levels system _
    (ap (λ v. next_of levels self (places v) nothing w) (place_seen p)
    ∙ place_goes (unit_of self.unit.now) self.name.items self.size (deeper_of levels self) (rest_of levels self) p.levels p.variable (parts_of p.parts) nothing
    (given_of self.given) w
    ∙ ap (λ d. next_of levels self (refines d (parts_of p.parts)) (given_of self.given) w) (sym c.in_ok-target.ensures.exact)
    ∙ ap (λ ps. next_of levels self (refines (designated_of c.in_ok-target.target) (view.parts (map part_of ps))) (given_of self.given) w) (sym c.items.ensures.exact))
