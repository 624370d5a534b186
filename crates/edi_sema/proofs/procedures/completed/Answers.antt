use Rattle.std.proofs.Common.{ap, ◌∙◌}
use Rattle.edi_static.specs.Declarations.{without_begun}
use Rattle.edi_static.specs.Views.{environment}
use Rattle.edi_sema.specs.Splits.{with_begun}
use Rattle.edi_sema.proofs.procedures.completed.Goals as goal

pub returns : goal.returns
returns c =
    let env = environment c.args.known.now in
    record {
      exact = ap (λ begun. with_begun begun env) (c.complete.ensures.exact ∙ ap (λ name. without_begun name env.begun) c.as_slice.ensures.all);
    }
