use Rattle.std.proofs.Common.{◌≡◌, length, map, ap, ◌∙◌, arith}
use Rattle.std.specs.Prelude.{[], ◌∷◌}
use Rattle.std.proofs.lemmas.List.{length-map}
use Rattle.edi_unit.specs.Headings.{Formals}
use Rattle.edi_unit.specs.Lists.{list_items}
use Rattle.edi_static.specs.Judged.{gives}
use Rattle.edi_static.specs.Environment.{formals_append}
use Rattle.edi_static.specs.Views.{environment, asked_of, formals, formal_of, headed_of}
use Rattle.edi_static.proofs.Behind.{procedure_behind}
use Rattle.edi_static.proofs.params.procedure_parameter.Goals as goal

pub returns-clause-exact : goal.returns-clause-exact
returns-clause-exact c =
    let fs : Formals = formals (map formal_of (list_items c.args.formals.now)) in
    let kept : length (map asked_of c.args.known.now.shapes.items) ≡ c.len.result =
    length-map c.args.known.now.shapes.items asked_of ∙ omega (arith, c.len.ensures, c.args.known.now.shapes.ok.0)
    in
    procedure_behind c.args.owner.block c.args.owner.before c.args.name.now fs _ (headed_of c.args.known.now c.args.asked) (environment c.leave.new.self) _ _
    _ _
    c.in_ok-next_parameter.ensures.exact
    (ap gives kept ∙ c.in_ok-number.ensures.exact)
    c.leave.ensures.exact c.in_ok-keep_shape.ensures.exact c.in_ok-declare.ensures.exact
    (c.in_ok-push_formal.ensures.ok ∙ ap (λ f. formals_append fs (formals (f ∷ []))) c.procedure_formal.ensures.exact)
