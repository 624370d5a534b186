use Rattle.std.proofs.Common.{[], refl, ap, ◌∙◌}
use Rattle.edi_static.specs.Declarations.{without_begun}
use Rattle.edi_static.proofs.Rows.{placed-left, waiting-left}
use Rattle.edi_static.proofs.splits.Splits.complete.Goals as goal

pub invariant_of-self : goal.invariant_of-self
invariant_of-self c =
    placed-left c.self.inside.places c.take.new.self c.self.inside.rows.items c.self.inside.rows.items c.args.name.now [] c.self.invariant
    c.in_default.ensures.taken refl c.take.ensures.left

pub returns-in_default : goal.returns-in_default
returns-in_default c = record {
  exact = waiting-left c.self.inside.places c.self.inside.rows.items c.self.inside.rows.items c.args.name.now [] c.self.invariant
      c.in_default.ensures.taken refl
      ∙ ap (without_begun c.args.name.now) c.self.view_is;
}

pub invariant_of-self-2 : goal.invariant_of-self-2
invariant_of-self-2 c =
    placed-left c.self.inside.places c.take.new.self c.self.inside.rows.items c.end_all.new.rows.items c.args.name.now c.as_slice.result.now c.self.invariant
    (c.as_slice.ensures.value ∙ c.in-Some.ensures.taken) c.end_all.ensures.exact c.take.ensures.left

pub returns : goal.returns
returns c = record {
  exact = waiting-left c.self.inside.places c.self.inside.rows.items c.end_all.new.rows.items c.args.name.now c.as_slice.result.now c.self.invariant
      (c.as_slice.ensures.value ∙ c.in-Some.ensures.taken) c.end_all.ensures.exact
      ∙ ap (without_begun c.args.name.now) c.self.view_is;
}
