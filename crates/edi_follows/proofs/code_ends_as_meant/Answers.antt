-- The law as proved.
use Rattle.edi_follows.proofs.kernel.Meaning.{steps_cohere, steps_queue}
use Rattle.edi_follows.proofs.Coding as coding
use Rattle.edi_follows.proofs.Whole.{steps, starts}
use Rattle.edi_follows.proofs.code_ends_as_meant.Goals as goal

pub returns : goal.returns
returns c = record { law = coding.code_ends_as_meant steps starts steps_cohere steps_queue }
