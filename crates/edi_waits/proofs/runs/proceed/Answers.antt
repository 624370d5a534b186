-- Who is ready lives.
use Rattle.edi_ring.proofs.Calls.{among_at}
use Rattle.edi_kernel.specs.Table.{ready_slots}
use Rattle.edi_kernel.proofs.Lists.{ready_live}
use Rattle.edi_waits.proofs.Naming.{chosen_lives}
use Rattle.edi_waits.proofs.runs.proceed.Goals as goal

pub returns-clause-lives : goal.returns-clause-lives
returns-clause-lives c =
    chosen_lives c.args.kernel.now c.choose.new.self c.args.choices.now c.choose.new.choices
    (λ i slot e.
    ready_live c.args.kernel.now.table slot c.requires.kernel.table.sound (among_at (ready_slots c.args.kernel.now.table) i slot e)) c.choose.ensures.takes
