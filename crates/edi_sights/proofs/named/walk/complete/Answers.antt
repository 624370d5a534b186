use Rattle.std.proofs.Common.{ap, ◌∙◌}
use Rattle.edi_static.specs.Declarations.{without_begun}
use Rattle.edi_sights.specs.named.Naming as spec
use Rattle.edi_sights.specs.named.Views.{naming_of}
use Rattle.edi_sights.proofs.named.walk.complete.Goals as goal

pub returns : goal.returns
returns c =
    let now = naming_of c.args.walk.now in
    record { exact = ap (λ begun. spec.with_begun begun now) (c.complete.ensures.exact ∙ ap (λ name. without_begun name now.begun) c.name_of.ensures.exact) }
