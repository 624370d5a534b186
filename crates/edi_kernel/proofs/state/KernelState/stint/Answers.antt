-- A stint of the kernel is one of the machine.
use Rattle.std.proofs.Common.{None, refl, sym, ap, subst, arith, false}
use Rattle.edi_kernel.specs.declared.state.KernelState.{KernelState}
use Rattle.edi_kernel.specs.Kernel.{MayFail, StandsAfter}
use Rattle.edi_kernel.specs.Table.{ready_slots}
use Rattle.edi_kernel.proofs.Named.{told_goes_to}
use Rattle.edi_kernel.proofs.Stinting.{told_breaks, told_broken, told_none, told_stint, told_names}
use Rattle.edi_kernel.proofs.state.KernelState.stint.Goals as goal

pub returns-clause-exact : goal.returns-clause-exact
returns-clause-exact g c =
    told_stint c.args.code.now c.args.self.now (record c.args.self.now { entering = false }) c.go.ensures.exact.noted
    (record c.go.new.self { used = c.saturating_add-self.result }) c.args.turns_left c.entry_turns-entry.result c.go.result
    refl refl refl (ap (λ (k : KernelState). k.store) (c.go.ensures.exact.is.noting refl)) (ap (λ (k : KernelState). k.table) (c.go.ensures.exact.is.noting refl))
    (ap (λ (k : KernelState). k.taken) (c.go.ensures.exact.is.noting refl)) (ap (λ (k : KernelState). k.arrived) (c.go.ensures.exact.is.noting refl))
    (ap (λ (k : KernelState). k.failed) (c.go.ensures.exact.is.noting refl)) _ _ c.later_by-end.result c.later_by-end.ensures.exact c.entry_turns-entry.ensures
    (omega (arith, c.if-turns_left-entry.false)) (told_goes_to _ _ _ _ _ _ _ c.go.ensures.exact.exact)

pub returns-clause-names : goal.returns-clause-names
returns-clause-names g c =
    told_names c.args.code.now c.args.self.now (record c.args.self.now { entering = false }) c.go.ensures.exact.noted
    (record c.go.new.self { used = c.saturating_add-self.result }) c.args.turns_left c.entry_turns-entry.result c.go.result
    refl refl refl (ap (λ (k : KernelState). k.store) (c.go.ensures.exact.is.noting refl)) (ap (λ (k : KernelState). k.table) (c.go.ensures.exact.is.noting refl))
    (ap (λ (k : KernelState). k.taken) (c.go.ensures.exact.is.noting refl)) (ap (λ (k : KernelState). k.arrived) (c.go.ensures.exact.is.noting refl))
    (ap (λ (k : KernelState). k.failed) (c.go.ensures.exact.is.noting refl)) _ _ c.later_by-end.result c.later_by-end.ensures.exact c.entry_turns-entry.ensures
    (omega (arith, c.if-turns_left-entry.false)) c.go.ensures.exact.exact

pub returns-clause-asked : goal.returns-clause-asked
returns-clause-asked g c =
    told_breaks c.args.code.now c.args.self.now (record c.args.self.now { entering = false }) c.go.ensures.exact.noted
    (record c.go.new.self { used = c.saturating_add-self.result }) c.args.turns_left c.entry_turns-entry.result c.go.result
    refl refl refl (ap (λ (k : KernelState). k.store) (c.go.ensures.exact.is.noting refl)) (ap (λ (k : KernelState). k.table) (c.go.ensures.exact.is.noting refl))
    (ap (λ (k : KernelState). k.taken) (c.go.ensures.exact.is.noting refl)) (ap (λ (k : KernelState). k.arrived) (c.go.ensures.exact.is.noting refl))
    (ap (λ (k : KernelState). k.failed) (c.go.ensures.exact.is.noting refl)) _ _ c.later_by-end.result c.later_by-end.ensures.exact (g.C.Calls.failed c.go.new.calls)
    c.entry_turns-entry.ensures (omega (arith, c.if-turns_left-entry.false)) c.go.ensures.asked

pub returns-clause-ends : goal.returns-clause-ends
returns-clause-ends g c =
    told_broken c.args.code.now c.args.self.now (record c.args.self.now { entering = false }) c.go.ensures.exact.noted
    (record c.go.new.self { used = c.saturating_add-self.result }) c.args.turns_left c.entry_turns-entry.result c.go.result
    refl refl refl (ap (λ (k : KernelState). k.store) (c.go.ensures.exact.is.noting refl)) (ap (λ (k : KernelState). k.table) (c.go.ensures.exact.is.noting refl))
    (ap (λ (k : KernelState). k.taken) (c.go.ensures.exact.is.noting refl)) (ap (λ (k : KernelState). k.arrived) (c.go.ensures.exact.is.noting refl))
    (ap (λ (k : KernelState). k.failed) (c.go.ensures.exact.is.noting refl)) _ _ c.later_by-end.result c.later_by-end.ensures.exact c.entry_turns-entry.ensures
    (omega (arith, c.if-turns_left-entry.false)) c.go.ensures.exact.ends

pub returns-then-turns_left-entry-clause-ends : goal.returns-then-turns_left-entry-clause-ends
returns-then-turns_left-entry-clause-ends g c =
    told_none c.args.code.now c.args.self.now (record c.args.self.now { arrived = None; failed = false }) c.args.turns_left c.entry_turns-entry.result
    (g.C.Calls.state c.args.calls.now) c.entry_turns-entry.ensures (omega (arith, c.if-turns_left-entry.true))

pub returns-clause-standing : goal.returns-clause-standing
returns-clause-standing g c =
    c.later_by-end.ensures.standing c.args.self.now.taken (ready_slots c.args.self.now.table) c.go.new.self.table c.go.new.self.arrived
    (subst (λ (k : KernelState). StandsAfter c.go.result c.args.self.now.taken (ready_slots c.args.self.now.table) k.table k.arrived)
    (sym (c.go.ensures.exact.is.noting refl)) c.go.ensures.exact.standing)

pub returns-clause-failed : goal.returns-clause-failed
returns-clause-failed g c =
    c.later_by-end.ensures.failed c.go.new.self.failed
    (subst (λ (k : KernelState). MayFail c.go.result k.failed) (sym (c.go.ensures.exact.is.noting refl)) c.go.ensures.exact.failed)
