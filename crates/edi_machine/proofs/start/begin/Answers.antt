use Rattle.edi_machine.proofs.Starting.{something_read, entry_read}
use Rattle.edi_machine.proofs.start.begin.Goals as goal

pub unreachable-requires : goal.unreachable-requires
unreachable-requires c =
    something_read c.args.code.now c.words.result.now c.entry.result c.words.ensures.sound c.words.ensures.value c.entry.ensures.value
    c.in_default.ensures.exact

pub unreachable-requires-in_default-op : goal.unreachable-requires-in_default-op
unreachable-requires-in_default-op c =
    entry_read c.args.code.now c.words.result.now c.entry.result c.in-Some.op c.in-Some.body c.words.ensures.sound c.words.ensures.value c.entry.ensures.value
    c.in-Some.ensures.exact c.in_default-op.not-Entry
