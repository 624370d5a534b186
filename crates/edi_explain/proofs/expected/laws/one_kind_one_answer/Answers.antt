use Rattle.edi_explain.proofs.expected.OneKind.{kind_decides}
use Rattle.edi_explain.proofs.expected.laws.one_kind_one_answer.Goals as goal

pub returns : goal.returns
returns c = record { law = kind_decides }
