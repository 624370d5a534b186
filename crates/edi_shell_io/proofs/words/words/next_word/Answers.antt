use Rattle.std.proofs.Common.{◌∷◌, ◌∙◌, length, ap, sym}
use Rattle.std.specs.Prelude.{◌==◌}
use Rattle.std.specs.List.{list_any}
use Rattle.edi_session.specs.Words.{is_gap, words_in}
use Rattle.edi_shell_io.specs.words.Operands.{begun, behind_word}
use Rattle.edi_shell_io.proofs.words.Cuts.{has_no_word, has_word, is_whole}
use Rattle.edi_shell_io.proofs.words.words.next_word.Goals as goal

pub returns-then-is_empty-clause-cut : goal.returns-then-is_empty-clause-cut
returns-then-is_empty-clause-cut c =
    has_no_word c.args.line.now (ap (λ w. length w == 0) (sym c.first_cut.ensures.word) ∙ sym c.is_empty.ensures ∙ c.if-is_empty.true)

pub returns-else-is_empty-clause-cut : goal.returns-else-is_empty-clause-cut
returns-else-is_empty-clause-cut c =
    let line = c.args.line.now in
    let word = c.first_cut.result.0.now in
    has_word line (ap (λ w. length w == 0) (sym c.first_cut.ensures.word) ∙ sym c.is_empty.ensures ∙ c.if-is_empty.false)
    ∙ ap (λ w. w ∷ words_in (behind_word (begun line))) (sym c.first_cut.ensures.word) ∙ ap (λ r. word ∷ words_in r) (sym c.first_cut.ensures.rest)

pub returns-else-is_empty-clause-whole : goal.returns-else-is_empty-clause-whole
returns-else-is_empty-clause-whole c = ap (list_any is_gap) c.first_cut.ensures.word ∙ is_whole (begun c.args.line.now)
