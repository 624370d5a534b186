-- A COBEGIN has three words for each of its branches.
use Rattle.std.proofs.Common.{ap, ◌∙◌, length}
use Rattle.edi_machine.specs.Starts.{branches_at}
use Rattle.edi_kernel.proofs.Sharing.{branches_read, branches_few}
use Rattle.edi_kernel.proofs.fork.branch_count.Goals as goal

pub overflow_cast-result : goal.overflow_cast-result
overflow_cast-result c = let h = branches_few _ _ _ _ _ _ c.in-Some.ensures.found c.in-Cobegin.is in search h

pub returns-in-Cobegin : goal.returns-in-Cobegin
returns-in-Cobegin c =
    branches_read _ _ _ _ _ _ c.in-Some.ensures.found c.in-Cobegin.is ∙ ap (λ words. length (branches_at words c.args.at)) c.words.ensures.value
