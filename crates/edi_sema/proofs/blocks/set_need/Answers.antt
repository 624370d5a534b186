use Rattle.std.proofs.Common.{◌<◌, length, refl, ap, arith}
use Rattle.edi_static.specs.Views.{environment}
use Rattle.edi_sema.proofs.Ends.{block_changed}
use Rattle.edi_sema.proofs.blocks.set_need.Goals as goal

pub returns-in-Some : goal.returns-in-Some
returns-in-Some c =
    let lt : c.args.block < length c.args.known.now.blocks.items = omega (arith, c.in-Some.ensures.variant.0 refl, c.args.known.now.blocks.ok.0) in
    record {
      exact =
          ap (λ bs. record (environment c.args.known.now) { blocks = bs })
          (block_changed c.args.known.now.blocks.items c.args.block c.in-Some.found.now (record c.in-Some.found.now { need = c.args.words })
          (λ b. record b { need = c.args.words }) lt c.in-Some.ensures.value refl);
    }
