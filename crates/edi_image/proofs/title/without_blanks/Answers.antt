use Rattle.std.proofs.Common.{ap, ◌∙◌, sym, take, ne_eqb, arith}
use Rattle.edi_calls.proofs.Blanks.{without_blanks-more_blank, without_blanks-more_other}
use Rattle.edi_image.proofs.title.without_blanks.Goals as goal
use Rattle.edi_image.proofs.title.without_blanks.Goals.{then-character-ne-BLANK, else-character-ne-BLANK}

pub loop-index-preserved : goal.loop-index-preserved
loop-index-preserved c =
    elim c.if-character-ne-BLANK.branch [
      | then-character-ne-BLANK w ↦ record {
        inside = omega arith;
        so_far =
            ap (λ n. take n c.args.characters.now) w.kept-is
            ∙ sym (without_blanks-more_other _ _ c.loop-index-test.true (ne_eqb _ _ w.if-character-ne-BLANK.true));
      }
      | else-character-ne-BLANK w ↦ record {
        inside = omega arith;
        so_far =
            ap (λ n. take n c.args.characters.now) w.kept-is
            ∙ c.loop-index.invariant.so_far
            ∙ sym (without_blanks-more_blank _ _ c.loop-index-test.true w.if-character-ne-BLANK.false);
      }
    ]
