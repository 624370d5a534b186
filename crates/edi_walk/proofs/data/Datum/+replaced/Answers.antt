use Rattle.std.proofs.Common.{ap, ◌∙◌, get_or}
use Rattle.std.specs.Prelude.{map, slice_set}
use Rattle.edi_unit.specs.Values.{compound, values}
use Rattle.edi_walk.specs.Data.{value_of}
use Rattle.edi_walk.proofs.Layers.{compound_seen}
use Rattle.edi_walk.proofs.PartsOf.{part_replaced}
use Rattle.edi_walk.proofs.data.Datum.+replaced.Goals as goal

pub returns : goal.returns
returns t c = record {
  exact =
      compound_seen _
      ∙ ap (λ xs. compound (values (map value_of xs)))
      (c.exchange-filler.ensures.exact ∙ ap (λ xs. slice_set xs (get_or c.args.path.now 0 0) c.in_ok-part.part) c.exchange-part.ensures.exact)
      ∙ part_replaced c.args.self c.in-Compound.parts c.args.path.now c.in-Compound.is c.in-len1-up.len_at_least c.exchange-part.result c.in_ok-part.part _
      (value_of c.args.value) c.exchange-part.ensures.before c.in_ok-part.ensures.exact;
}
