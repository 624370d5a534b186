use Rattle.std.proofs.Common.{ap, sym, ◌∙◌}
use Rattle.std.specs.Prelude.{map}
use Rattle.edi_unit.specs.Need.{limited, need}
use Rattle.edi_unit.specs.View.{acts_of, block_of}
use Rattle.edi_static.specs.Judged.{gives}
use Rattle.edi_static.specs.Statements.{add_statements, with_need}
use Rattle.edi_static.specs.Views.{environment}
use Rattle.edi_sema.proofs.Ends.{need_stated}
use Rattle.edi_sema.proofs.Staying.{given}
use Rattle.edi_sema.proofs.blocks.close_block.Goals as goal

pub returns : goal.returns
returns c =
    let n = c.args.block in
    let line = c.args.line in
    let mid = environment c.add_statements.new.known in
    record {
      exact =
          ap (with_need n line) (given (add_statements n (acts_of c.args.acts) (environment c.args.known.now)) mid c.in_ok-add_statements.ensures.exact)
          ∙ (need_stated n line c.need-words.result mid
          (c.need-words.ensures.exact ∙ ap (λ bs. limited (need mid.types (map block_of bs) n)) c.as_slice.ensures.value) c.in_ok-must.ensures.exact
          ∙ ap gives (sym c.set_need.ensures.exact));
    }
