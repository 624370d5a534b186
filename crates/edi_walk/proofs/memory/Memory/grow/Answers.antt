use Rattle.edi_walk.proofs.Entries.{grown_entry}
use Rattle.edi_walk.proofs.memory.Memory.grow.Goals as goal

pub returns : goal.returns
returns c = record {
  exact =
      grown_entry c.args.name.now c.in-Some.place c.args.self.now.entries.items c.index_mut.result.now c.push.new.self c.args.instance c.push.result
      c.in-Some.ensures.exact c.index_mut.ensures.value c.push.ensures.name c.push.ensures.exact;
}
