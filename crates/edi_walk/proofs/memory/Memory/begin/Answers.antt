use Rattle.std.proofs.Common.{refl}
use Rattle.edi_walk.specs.Memory.{store_of}
use Rattle.edi_walk.proofs.Entries.{begun_entry, begun_new}
use Rattle.edi_walk.proofs.memory.Memory.begin.Goals as goal

pub returns-in-Some : goal.returns-in-Some
returns-in-Some c = record {
  exact =
      begun_entry c.args.name.now c.in-Some.place c.args.self.now.entries.items c.index_mut.result.now c.begin.new.self c.args.instance c.begin.result
      c.in-Some.ensures.exact c.index_mut.ensures.value c.begin.ensures.name c.begin.ensures.exact;
}

pub returns-in-None : goal.returns-in-None
returns-in-None c = record {
  exact =
      begun_new c.begin_new.result (store_of c.args.self.now) (store_of c.begin_new.new.self) c.args.name.now c.args.instance (c.in-None.ensures.none refl)
      c.begin_new.ensures.exact;
}
