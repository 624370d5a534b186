-- What is kept of a live process is whole.
use Rattle.std.proofs.Common.{◌∙◌, sym}
use Rattle.edi_kernel.proofs.Changes.{live_below}
use Rattle.edi_kernel.proofs.PutBacks.{ready_going}
use Rattle.edi_kernel.proofs.state.KernelState.keep.Goals as goal

pub returns-clause-whole : goal.returns-clause-whole
returns-clause-whole c = record {
  inside = live_below c.args.self.now.table c.args.slot c.requires.lives;
  parent = c.requires.kernel.table.parents c.args.slot;
  ordered = c.requires.kernel.table.ordered c.args.slot (live_below c.args.self.now.table c.args.slot c.requires.lives);
  going = λ e. ready_going c.args.self.now.table c.args.slot c.requires.kernel.table (sym c.is_ready-ready.ensures ∙ e);
  memory = c.args.self.now.store;
  long = c.keep_words.ensures.whole.long;
  words = c.in_ok-words.ensures.exact;
}
