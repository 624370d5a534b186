-- The law as proved.
use Rattle.edi_follows.proofs.kernel.Meaning.{steps_cohere, steps_queue}
use Rattle.edi_follows.proofs.Coding as coding
use Rattle.edi_follows.proofs.Whole.{steps, starts}
use Rattle.edi_follows.proofs.code_stands_by_marks.Goals as goal

pub returns : goal.returns
returns c = record { law = coding.code_stands_by_marks steps starts steps_cohere steps_queue }
