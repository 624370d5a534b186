use Rattle.edi_explored.proofs.machine.Served.{serves}
use Rattle.edi_explored.proofs.machine.kept_words_serve.Goals as goal

pub returns : goal.returns
returns c = record { law = λ g t m long same. serves g t m long same }
