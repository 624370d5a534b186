use Rattle.std.proofs.Common.{[], refl, ap, ◌∙◌}
use Rattle.std.specs.Prelude.{option_map, slice_get}
use Rattle.edi_static.specs.Declarations.{begun_named}
use Rattle.edi_static.specs.Waiting as spec
use Rattle.edi_static.proofs.Rows.{found, none_found}
use Rattle.edi_static.proofs.splits.Splits.block_of.Goals as goal

pub returns-in-Some : goal.returns-in-Some
returns-in-Some c =
    let name = c.args.name.now in
    record {
      exact = c.block_at.ensures.exact ∙ ap (λ rows. spec.block_at rows c.in-Some.place.now) c.as_slice.ensures.value
          ∙ found name [] c.self.inside.rows.items 0 c.in-Some.place.now refl
          (c.in-Some.ensures.value ∙ ap (λ ps. slice_get ps 0) (c.of.ensures.exact ∙ c.self.invariant name))
          ∙ ap (λ bs. option_map (λ b. b.block) (begun_named bs name)) c.self.view_is;
    }

pub returns-in-None : goal.returns-in-None
returns-in-None c =
    let name = c.args.name.now in
    record {
      exact = none_found name c.self.inside.rows.items 0
          (c.in-None.ensures.value ∙ ap (λ ps. slice_get ps 0) (c.of.ensures.exact ∙ c.self.invariant name))
          ∙ ap (λ bs. option_map (λ b. b.block) (begun_named bs name)) c.self.view_is;
    }
