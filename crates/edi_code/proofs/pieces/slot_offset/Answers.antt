use Rattle.std.proofs.Common.{◌≡◌, ◌+◌, take, sym, ap, ◌∙◌, arith}
use Rattle.std.specs.Prelude.{sum_by}
use Rattle.edi_unit.specs.Need.{block_at, link_words, slots, slot_words}
use Rattle.edi_scheme.specs.Pieces.{offset}
use Rattle.edi_code.specs.Scope.{types_in, blocks_in}
use Rattle.edi_code.proofs.Frames.{offset_small}
use Rattle.edi_code.proofs.StoredLoops.{variable_stored}
use Rattle.edi_code.proofs.pieces.slot_offset.Goals as goal

pub overflow_cast-result : goal.overflow_cast-result
overflow_cast-result c =
    let s = c.args.scope.now in
    let home = c.outer-home.result in
    let there : c.in-Some.stored.offset ≡ link_words + sum_by (slot_words (types_in s)) (take c.args.variable (slots (block_at (blocks_in s) home))) =
    variable_stored (types_in s) (blocks_in s) s.variables.now home c.args.variable c.in-Some.stored c.requires.scope.variables
    (sym c.stored_at.ensures.exact ∙ c.in-Some.is) in
    omega (arith, there, offset_small (types_in s) (blocks_in s) home c.args.variable c.requires.scope.frames)

pub returns-in-Some : goal.returns-in-Some
returns-in-Some c =
    let s = c.args.scope.now in
    let home = c.outer-home.result in
    record {
      exact = variable_stored (types_in s) (blocks_in s) s.variables.now home c.args.variable c.in-Some.stored c.requires.scope.variables
          (sym c.stored_at.ensures.exact ∙ c.in-Some.is)
          ∙ ap (λ b. offset (types_in s) (block_at (blocks_in s) b) c.args.variable) c.outer-home.ensures.exact;
    }
