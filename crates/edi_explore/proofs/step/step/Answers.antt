-- The process is taken from the kernel to which the state was put back.
use Rattle.std.proofs.Common.{◌<◌, ◌∙◌, length, refl, sym, ap, subst}
use Rattle.edi_kernel.specs.declared.state.KernelState.{KernelState}
use Rattle.edi_explore.proofs.step.step.Goals as goal

pub take-requires-clause-free : goal.take-requires-clause-free
take-requires-clause-free c = c.in_ok-put_back.ensures.back.back.taken

pub take-requires-clause-index : goal.take-requires-clause-index
take-requires-clause-index c = subst (λ xs. c.args.index < length xs) (sym c.in_ok-put_back.ensures.back.back.ready) c.requires.index

pub returns-clause-goes : goal.returns-clause-goes
returns-clause-goes c = record {
  back = c.put_back.new.kernel;
  placed = c.put_back.new.calls;
  puts = c.in_ok-put_back.ensures.back;
  printed = c.in_ok-put_back.ensures.printed;
  taken = c.take.new.self;
  takes = c.take.ensures.exact;
  entering = ap (λ (k : KernelState). k.entering) c.take.ensures.takes.rest ∙ c.in_ok-put_back.ensures.back.back.entering;
  goes = c.stint-end.ensures.exact;
  kernel = c.stint-end.ensures.kernel;
  long = c.word-whole.ensures.whole.long;
  free = c.stint-end.ensures.free;
  input = sym (c.stint-end.ensures.leads c.put_back.new.calls refl);
}

pub returns-clause-input : goal.returns-clause-input
returns-clause-input c = sym (c.stint-end.ensures.leads c.put_back.new.calls refl) ∙ c.in_ok-put_back.ensures.input
