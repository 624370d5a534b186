use Rattle.std.proofs.Common.{ap, ◌∙◌, sym, take, ne_eqb}
use Rattle.edi_calls.proofs.Blanks.{without_blanks-more_blank, without_blanks-more_other}
use Rattle.edi_memory.proofs.titles.kept_length.Goals as goal
use Rattle.edi_memory.proofs.titles.kept_length.Goals.{then-c-ne-BLANK, else-c-ne-BLANK}

pub loop-index-preserved : goal.loop-index-preserved
loop-index-preserved c =
    elim c.if-c-ne-BLANK.branch [
      | then-c-ne-BLANK w ↦
          ap (λ n. take n c.args.title.now) w.kept-is
          ∙ sym (without_blanks-more_other _ _ c.loop-index-test.true (ne_eqb _ _ w.if-c-ne-BLANK.true))
      | else-c-ne-BLANK w ↦
          ap (λ n. take n c.args.title.now) w.kept-is
          ∙ c.loop-index.invariant ∙ sym (without_blanks-more_blank _ _ c.loop-index-test.true w.if-c-ne-BLANK.false)
    ]
