use Rattle.std.proofs.Common.{◌<◌, length, refl, ap, sym, ◌∙◌, arith}
use Rattle.edi_unit.specs.View.{acts_of, block_of}
use Rattle.edi_static.specs.Judged.{gives}
use Rattle.edi_static.specs.Statements.{with_statements, acts_append}
use Rattle.edi_static.specs.Views.{environment}
use Rattle.edi_sema.proofs.Ends.{block_changed}
use Rattle.edi_sema.proofs.blocks.add_statements.Goals as goal

pub returns-in_ok-found : goal.returns-in_ok-found
returns-in_ok-found c =
    let lt : c.args.block < length c.args.known.now.blocks.items = omega (arith, c.in-Some.ensures.variant.0 refl, c.args.known.now.blocks.ok.0) in
    record {
      exact =
          ap (λ bs. gives (record (environment c.args.known.now) { blocks = bs }))
          (sym (block_changed c.args.known.now.blocks.items c.args.block c.in-Some.found.now _ (with_statements (acts_of c.args.acts)) lt
          c.in-Some.ensures.value
          (ap (λ s. record (block_of c.in-Some.found.now) { body = s })
          (c.in_ok-found.ensures.ok ∙ ap (λ s. acts_append (acts_of s) (acts_of c.args.acts)) c.replace-body.ensures.value))));
    }
