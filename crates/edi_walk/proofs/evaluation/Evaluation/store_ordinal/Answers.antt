use Rattle.std.proofs.Common.{◌∙◌, ap, refl, rules, w16}
use Rattle.std.proofs.lemmas.Int.{to_z-of_z}
use Rattle.edi_unit.specs.Values.{ordinal}
use Rattle.edi_meaning.specs.Store.{put}
use Rattle.edi_walk.specs.Data.{location_of}
use Rattle.edi_walk.specs.Memory.{store_of}
use Rattle.edi_walk.proofs.Layers.{ordinal_seen}
use Rattle.edi_walk.proofs.evaluation.Evaluation.store_ordinal.Goals as goal

pub returns-then-put-clause-exact : goal.returns-then-put-clause-exact
returns-then-put-clause-exact c = (
  refl,
  c.put.ensures.exact c.if-put.true
      ∙ ap (put (store_of c.args.self.now.memory) (location_of c.args.target.now.at)) (ordinal_seen _ ∙ ap ordinal (to_z-of_z w16 c.args.n (search rules))),
)
