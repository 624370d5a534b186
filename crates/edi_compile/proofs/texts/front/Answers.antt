use Rattle.std.proofs.Common.{rules}
use Rattle.edi_unit.specs.View.{unit_of}
use Rattle.edi_texts.specs.Answers.{TextAnswers}
use Rattle.edi_compile.specs.Compiled.{IsFrontOf}
use Rattle.edi_compile.proofs.codable.Few.{few_of}
use Rattle.edi_compile.proofs.texts.front.Goals as goal

pub returns-clause-few : goal.returns-clause-few
returns-clause-few c =
    let is : TextAnswers (λ unit. IsFrontOf c.args.text.now (unit_of unit)) c.args.text.now c.unit_by.result = search rules in
    few_of c.args.text.now c.unit_by.result is
