use Rattle.std.proofs.Common.{arith}
use Rattle.edi_unit.specs.Need.{block_at}
use Rattle.edi_code.specs.Scope.{types_in, blocks_in}
use Rattle.edi_code.proofs.Frames.{offset_next, offset_small}
use Rattle.edi_code.proofs.pieces.added_offset.Goals as goal

pub loop-before-preserved : goal.loop-before-preserved
loop-before-preserved c =
    offset_next (types_in c.args.scope.now) (block_at (blocks_in c.args.scope.now) c.args.block) c.loop-before.before c.loop-before.words
    c.words_at-words.result
    c.loop-before.invariant c.words_at-words.ensures.exact

pub overflow_add-words : goal.overflow_add-words
overflow_add-words c =
    let scope = c.args.scope.now in
    let small = offset_small (types_in scope) (blocks_in scope) c.args.block c.loop-before.before c.requires.scope.frames in
    omega (arith, c.loop-before.invariant, c.words_at-words.ensures.small, small)

pub overflow_cast-result : goal.overflow_cast-result
overflow_cast-result c =
    let scope = c.args.scope.now in
    let small = offset_small (types_in scope) (blocks_in scope) c.args.block c.loop-before.before c.requires.scope.frames in
    omega (arith, c.loop-before.invariant, small)
