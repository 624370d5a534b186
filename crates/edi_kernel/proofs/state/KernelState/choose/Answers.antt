-- The next process is that of the rule.
use Rattle.std.proofs.Common.{refl, subst, Some}
use Rattle.edi_kernel.specs.Runs.{Picks}
use Rattle.edi_kernel.proofs.Choosing.{chosen_kernel, chooses, chooses_by}
use Rattle.edi_kernel.proofs.state.KernelState.choose.Goals as goal

pub returns-clause-exact : goal.returns-clause-exact
returns-clause-exact c =
    λ drawn m names h.
    chooses c.args.self.now (record c.args.self.now { table = c.next-slot.new.self; taken = Some c.next-slot.result }) c.pick-at.result c.next-slot.result
    c.args.choices.now c.pick-at.new.choices
    c.requires.kernel c.requires.free c.next-slot.ensures.slot c.next-slot.ensures.was c.next-slot.ensures.taken refl refl refl c.ready.result
    c.ready.ensures.exact c.pick-at.ensures.inside c.pick-at.ensures.exact drawn m names h

pub returns-clause-names : goal.returns-clause-names
returns-clause-names c =
    λ drawn n m names h.
    chooses_by c.args.self.now (record c.args.self.now { table = c.next-slot.new.self; taken = Some c.next-slot.result }) c.pick-at.result c.next-slot.result
    c.args.choices.now c.pick-at.new.choices
    c.requires.kernel c.requires.free c.next-slot.ensures.slot c.next-slot.ensures.was c.next-slot.ensures.taken refl refl refl c.ready.result
    c.ready.ensures.exact c.pick-at.ensures.inside c.pick-at.ensures.exact drawn n m names h

pub returns-clause-kernel : goal.returns-clause-kernel
returns-clause-kernel c =
    chosen_kernel c.args.self.now (record c.args.self.now { table = c.next-slot.new.self; taken = Some c.next-slot.result }) c.pick-at.result
    c.next-slot.result c.args.choices.now c.pick-at.new.choices
    c.requires.kernel c.requires.free c.next-slot.ensures.slot c.next-slot.ensures.was c.next-slot.ensures.taken refl refl refl

pub returns-clause-takes : goal.returns-clause-takes
returns-clause-takes c = record {
  index = c.pick-at.result;
  picks = subst (λ n. Picks n c.args.choices.now c.pick-at.result c.pick-at.new.choices) c.ready.ensures.exact c.pick-at.ensures.exact;
  slot = c.next-slot.result;
  at = c.next-slot.ensures.was;
  withdrawn = c.next-slot.ensures.taken;
  rest = refl;
}
