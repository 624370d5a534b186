use Rattle.std.proofs.Common.{◌∙◌, take, drop, ap}
use Rattle.edi_shell_io.specs.words.Operands.{behind_word, first_word}
use Rattle.edi_shell_io.proofs.words.words.first_cut.Goals as goal

pub returns-clause-word : goal.returns-clause-word
returns-clause-word c =
    let next = c.split_at.ensures.back ∙ ap (λ k. drop k c.args.line.now) c.separators.ensures.before in
    c.split_at-2.ensures.front ∙ ap (λ k. take k c.split_at.result.1.now) c.word_length.ensures.before ∙ ap first_word next

pub returns-clause-rest : goal.returns-clause-rest
returns-clause-rest c =
    let next = c.split_at.ensures.back ∙ ap (λ k. drop k c.args.line.now) c.separators.ensures.before in
    c.split_at-2.ensures.back ∙ ap (λ k. drop k c.split_at.result.1.now) c.word_length.ensures.before ∙ ap behind_word next
