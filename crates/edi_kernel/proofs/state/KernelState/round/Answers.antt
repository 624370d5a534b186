-- A round of the kernel is one of the machine.
use Rattle.std.proofs.Common.{◌+◌, ◌-◌, ◌∙◌, ap, false, sym, refl, arith}
use Rattle.edi_kernel.specs.declared.state.KernelState.{KernelState}
use Rattle.edi_kernel.proofs.Named.{told_goes_to}
use Rattle.edi_kernel.proofs.Rounds.{told_round_breaks, told_round_broken, told_round_ends, told_round_goes, told_unbroken, told_unready, holds_same}
use Rattle.edi_kernel.proofs.Rounds.{going_free, keeps_unready}
use Rattle.edi_kernel.proofs.Placing.{stands_at_end, stands_other, stands_unready}
use Rattle.edi_kernel.proofs.state.KernelState.round.Goals as goal

pub returns-in-Some-clause-exact : goal.returns-in-Some-clause-exact
returns-in-Some-clause-exact g c =
    λ drawn.
    told_round_ends c.args.code.now.words c.args.bound c.args.self.now c.go-end.ensures.exact.noted
    (record c.go-end.new.self { used = c.go-end.new.self.used + c.used_in.result }) c.args.choices.now
    (c.args.bound - c.args.self.now.used) c.go-end.result _ _
    (omega (arith, c.go-end.ensures.turns, c.used_in.ensures, c.go-end.ensures.used, c.requires.used)) (ap (λ (k : KernelState). k.store) c.go-end.ensures.exact.is.rest) c.in-Some.ending (sym c.in-Some.ensures)
    (ap (λ (k : KernelState). k.table) c.go-end.ensures.exact.is.rest) (ap (λ (k : KernelState). k.taken) c.go-end.ensures.exact.is.rest)
    (told_goes_to _ _ _ _ _ _ _ c.go-end.ensures.exact.exact)

pub returns-clause-exact : goal.returns-clause-exact
returns-clause-exact g c =
    λ drawn.
    told_round_goes c.args.code.now.words c.args.bound c.args.self.now c.go-end.ensures.exact.noted c.proceed.new.self c.args.choices.now
    (c.args.bound - c.args.self.now.used) c.go-end.result _ _
    (omega (arith, c.go-end.ensures.turns, c.used_in.ensures, c.go-end.ensures.used, c.requires.used, c.proceed.ensures.turns))
    (c.proceed.ensures.store ∙ (ap (λ (k : KernelState). k.store) c.go-end.ensures.exact.is.rest))
    c.proceed.result c.proceed.new.choices (sym c.ended_by.ensures ∙ c.in_default.is)
    (keeps_unready c.proceed.result c.go-end.ensures.exact.noted (record c.go-end.new.self { used = c.go-end.new.self.used + c.used_in.result }) c.proceed.new.self
    c.proceed.ensures.nobody (ap (λ (k : KernelState). k.store) c.go-end.ensures.exact.is.rest) (ap (λ (k : KernelState). k.table) c.go-end.ensures.exact.is.rest) (ap (λ (k : KernelState). k.taken) c.go-end.ensures.exact.is.rest))
    (λ n names k.
    c.proceed.ensures.exact drawn n names
    (holds_same c.go-end.ensures.exact.noted (record c.go-end.new.self { used = c.go-end.new.self.used + c.used_in.result }) n _ names (ap (λ (k : KernelState). k.store) c.go-end.ensures.exact.is.rest) (ap (λ (k : KernelState). k.table) c.go-end.ensures.exact.is.rest) (ap (λ (k : KernelState). k.taken) c.go-end.ensures.exact.is.rest) k))
    (told_goes_to _ _ _ _ _ _ _ c.go-end.ensures.exact.exact)

pub returns-in-Some-clause-standing : goal.returns-in-Some-clause-standing
returns-in-Some-clause-standing g c =
    stands_at_end c.go-end.result c.in-Some.ending _ _ _ _ (sym c.in-Some.ensures)
    (stands_other false c.args.self.now c.go-end.ensures.exact.noted c.go-end.new.self c.go-end.result c.in-Some.ending _ _ (sym c.in-Some.ensures)
    c.go-end.ensures.exact.is c.go-end.ensures.exact.standing)

pub returns-clause-standing : goal.returns-clause-standing
returns-clause-standing g c =
    stands_unready c.go-end.result _ _ c.proceed.result c.go-end.ensures.exact.noted (record c.go-end.new.self { used = c.go-end.new.self.used + c.used_in.result }) c.proceed.new.self
    (sym c.ended_by.ensures ∙ c.in_default.is) c.proceed.ensures.nobody (ap (λ (k : KernelState). k.table) c.go-end.ensures.exact.is.rest)
    (λ not. ap (λ (k : KernelState). k.arrived) (c.go-end.ensures.exact.is.other not)) c.go-end.ensures.exact.standing

pub returns-in-Some-clause-asked : goal.returns-in-Some-clause-asked
returns-in-Some-clause-asked g c =
    told_round_breaks c.args.code.now.words c.args.bound c.args.self.now c.go-end.new.self
    (record c.go-end.new.self { used = c.go-end.new.self.used + c.used_in.result }) c.args.choices.now
    (c.args.bound - c.args.self.now.used) c.go-end.result _ _
    (omega (arith, c.go-end.ensures.turns, c.used_in.ensures, c.go-end.ensures.used, c.requires.used)) refl (g.C.Calls.failed c.go-end.new.calls)
    c.in-Some.ending (sym c.in-Some.ensures) c.go-end.ensures.asked

pub returns-clause-asked : goal.returns-clause-asked
returns-clause-asked g c =
    told_unready c.args.code.now.words c.args.bound c.args.self.now c.go-end.new.self c.proceed.new.self c.args.choices.now
    (c.args.bound - c.args.self.now.used) c.go-end.result _ _
    (omega (arith, c.go-end.ensures.turns, c.used_in.ensures, c.go-end.ensures.used, c.requires.used, c.proceed.ensures.turns)) c.proceed.ensures.store
    (g.C.Calls.failed c.go-end.new.calls) c.proceed.result c.proceed.new.choices
    (record c.go-end.new.self { used = c.go-end.new.self.used + c.used_in.result }) c.proceed.new.self c.proceed.ensures.nobody c.go-end.ensures.asked

pub returns-in-Some-clause-ends : goal.returns-in-Some-clause-ends
returns-in-Some-clause-ends g c =
    told_round_broken c.args.code.now.words c.args.bound c.args.self.now c.go-end.ensures.exact.noted
    (record c.go-end.new.self { used = c.go-end.new.self.used + c.used_in.result }) c.args.choices.now
    (c.args.bound - c.args.self.now.used) c.go-end.result _ _
    (omega (arith, c.go-end.ensures.turns, c.used_in.ensures, c.go-end.ensures.used, c.requires.used)) (ap (λ (k : KernelState). k.store) c.go-end.ensures.exact.is.rest) c.in-Some.ending (sym c.in-Some.ensures)
    (ap (λ (k : KernelState). k.table) c.go-end.ensures.exact.is.rest) (ap (λ (k : KernelState). k.taken) c.go-end.ensures.exact.is.rest)
    c.go-end.ensures.exact.ends

pub returns-clause-ends : goal.returns-clause-ends
returns-clause-ends g c =
    told_unbroken c.args.code.now.words c.args.bound c.args.self.now c.go-end.ensures.exact.noted c.proceed.new.self c.args.choices.now
    (c.args.bound - c.args.self.now.used) c.go-end.result _ _
    (omega (arith, c.go-end.ensures.turns, c.used_in.ensures, c.go-end.ensures.used, c.requires.used, c.proceed.ensures.turns))
    (c.proceed.ensures.store ∙ (ap (λ (k : KernelState). k.store) c.go-end.ensures.exact.is.rest))
    c.proceed.result c.proceed.new.choices (record c.go-end.new.self { used = c.go-end.new.self.used + c.used_in.result }) c.proceed.new.self
    c.proceed.ensures.nobody c.go-end.ensures.exact.ends

pub proceed-requires-clause-free : goal.proceed-requires-clause-free
proceed-requires-clause-free g c = c.go-end.ensures.free (going_free c.go-end.result (sym c.ended_by.ensures ∙ c.in_default.is))
