use Rattle.std.proofs.Common.{arith}
use Rattle.edi_unit.specs.Types.{fields_of, shape_at}
use Rattle.edi_code.proofs.Frames.{field_small, fields_next}
use Rattle.edi_code.proofs.pieces.added_field_offset.Goals as goal

pub loop-before-preserved : goal.loop-before-preserved
loop-before-preserved c =
    fields_next c.args.types.now (fields_of (shape_at c.args.types.now c.args.of)) c.loop-before.before c.loop-before.words c.field_words-words.result
    c.loop-before.invariant c.field_words-words.ensures.exact

pub overflow_add-words : goal.overflow_add-words
overflow_add-words c =
    let small = field_small c.args.types.now c.args.of c.loop-before.before c.requires.table c.requires.known in
    omega (arith, c.loop-before.invariant, c.field_words-words.ensures.small, small)

pub overflow_cast-result : goal.overflow_cast-result
overflow_cast-result c =
    omega (arith, c.loop-before.invariant, field_small c.args.types.now c.args.of c.loop-before.before c.requires.table c.requires.known)
