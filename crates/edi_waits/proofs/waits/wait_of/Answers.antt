-- The name and the place.
use Rattle.std.proofs.Common.{◌≡◌, ◌∙◌, ap}
use Rattle.edi_machine.specs.declared.activity.Activity.{Activity}
use Rattle.edi_kernel.specs.Table.{process_at}
use Rattle.edi_waits.specs.Places.{place}
use Rattle.edi_waits.proofs.waits.wait_of.Goals as goal

pub returns : goal.returns
returns c =
    let k = c.args.kernel.now in
    let a : Activity = (process_at k.table c.args.slot).activity in
    let lines : c.in_ok-lines.lines.items ≡ place c.args.code.now.words k.store a.segment.first a.base a.pc =
    c.in_ok-lines.ensures.exact
    ∙ ap (λ (x : Activity). place c.args.code.now.words k.store x.segment.first x.base x.pc) c.process-standing.ensures.activity in
    record { exact = (λ i. record { process = c.in_ok-process.ensures.exact i; lines = lines i }) }
