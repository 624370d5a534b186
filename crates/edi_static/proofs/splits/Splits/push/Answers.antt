use Rattle.std.proofs.Common.{◌≡◌, ◌∷◌, ◌++◌, [], true, length, refl, ap, sym, subst, ◌∙◌}
use Rattle.edi_static.specs.declared.splits.Row.{Row}
use Rattle.edi_static.specs.Waiting as spec
use Rattle.edi_static.proofs.Rows.{placed-put, waiting-put}
use Rattle.edi_static.proofs.splits.Splits.push.Goals as goal

pub invariant_of-self-2 : goal.invariant_of-self-2
invariant_of-self-2 c =
    let r : Row = record { name = c.args.name; block = c.args.block; waits = true } in
    let rows = c.self.inside.rows.items in
    let place : c.len.result ≡ length rows = c.len.ensures ∙ c.reserve.new.self.ok.0 ∙ ap length c.in_ok-reserve.ensures.items in
    subst (spec.ArePlaced c.add.new.self) (sym (c.in-Ok.ensures.items ∙ ap (λ rs. rs ++ r ∷ []) c.in_ok-reserve.ensures.items))
    (placed-put c.self.inside.places c.add.new.self rows r c.as_slice.result.now c.len.result c.self.invariant refl (sym c.as_slice.ensures.all) place
    c.in_ok-add.ensures.ok)

pub returns-clause-ok : goal.returns-clause-ok
returns-clause-ok c =
    let r : Row = record { name = c.args.name; block = c.args.block; waits = true } in
    ap spec.waiting (c.in-Ok.ensures.items ∙ ap (λ rs. rs ++ r ∷ []) c.in_ok-reserve.ensures.items) ∙ waiting-put c.self.inside.rows.items r refl
    ∙ ap (λ bs. bs ++ spec.procedure_of r ∷ []) c.self.view_is
