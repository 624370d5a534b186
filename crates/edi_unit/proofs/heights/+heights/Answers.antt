use Rattle.std.proofs.Common.{◌+◌, ap, sym, ◌∙◌, drop, arith}
use Rattle.std.specs.Prelude.{map, max}
use Rattle.edi_unit.specs.Types.{size}
use Rattle.edi_unit.specs.View.{block_of, expressions, expression_of, arguments, argument_of}
use Rattle.edi_unit.specs.Need.{limited, compound_height, arguments_height}
use Rattle.edi_unit.proofs.Limits.{drop_item, compound_step, arguments_step}
use Rattle.edi_unit.proofs.heights.+heights.Goals as goal

pub make_words-loop-part-preserved : goal.make_words-loop-part-preserved
make_words-loop-part-preserved t c =
    let blocks = map block_of c.args.blocks.now in
    let items = c.items-part-items.result.now in
    let i = c.loop-part.part-index in
    let part = drop_item items i c.part-item.result c.loop-part-test.true c.part-item.is in
    record {
      small = omega arith;
      short = omega arith;
      height =
          compound_step c.args.types.now blocks c.args.block (expression_of c.part-item.result) (expressions (map expression_of (drop (i + 1) items)))
          c.loop-part.before c.sum-before.result c.loop-part.words c.max-words-in-loop-part.result c.value_words-in-loop-part.result c.sum-in-loop-part.result _
          c.value_words-in-loop-part.ensures.exact c.sum-in-loop-part.ensures.exact c.max-words-in-loop-part.ensures
          (c.sum-before.ensures.exact ∙ ap (λ n. limited (c.loop-part.before + n))
          (c.type_words.ensures.exact ∙ ap (size c.args.types.now) c.expression_type.ensures.exact))
          (ap (λ l. limited (max c.loop-part.words
          (compound_height c.args.types.now blocks c.args.block c.loop-part.before (expressions (map expression_of l))))) (sym part)
          ∙ c.loop-part.invariant.height);
    }

pub arguments_words-loop-argument-preserved : goal.arguments_words-loop-argument-preserved
arguments_words-loop-argument-preserved t c =
    let blocks = map block_of c.args.blocks.now in
    let items = c.items-argument-items.result.now in
    let i = c.loop-argument.argument-index in
    let argument = drop_item items i c.argument-item.result c.loop-argument-test.true c.argument-item.is in
    record {
      small = omega arith;
      short = omega arith;
      height =
          arguments_step c.args.types.now blocks c.args.block (argument_of c.argument-item.result) (arguments (map argument_of (drop (i + 1) items)))
          c.loop-argument.before c.sum-before.result c.loop-argument.words c.max-words.result c.argument_words_above.result c.sum.result _
          c.argument_words_above.ensures.exact c.sum.ensures.exact c.max-words.ensures
          (c.sum-before.ensures.exact ∙ ap (λ n. limited (c.loop-argument.before + n)) c.passed_words.ensures.exact)
          (ap (λ l. limited (max c.loop-argument.words
          (arguments_height c.args.types.now blocks c.args.block c.loop-argument.before (arguments (map argument_of l))))) (sym argument)
          ∙ c.loop-argument.invariant.height);
    }
