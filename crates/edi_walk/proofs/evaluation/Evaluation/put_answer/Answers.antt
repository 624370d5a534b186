use Rattle.std.proofs.Common.{◌∷◌, [], sym, ap, ◌∙◌}
use Rattle.std.specs.Prelude.{map, take}
use Rattle.edi_meaning.specs.Whole.{answer_in}
use Rattle.edi_walk.specs.Data.{cell_of}
use Rattle.edi_walk.specs.Memory.{store_of}
use Rattle.edi_walk.proofs.Calls.{no_answer}
use Rattle.edi_walk.proofs.evaluation.Evaluation.put_answer.Goals as goal

pub returns-then-answers-eq0-clause-exact : goal.returns-then-answers-eq0-clause-exact
returns-then-answers-eq0-clause-exact c =
    let store = store_of c.args.self.now.memory in
    let cells = map cell_of c.args.cells.now in
    sym (ap (λ n. answer_in cells (take n (c.args.word ∷ [])) store) (sym c.words_of-answers.ensures.answer ∙ c.if-answers-eq0.true) ∙ no_answer cells store)
