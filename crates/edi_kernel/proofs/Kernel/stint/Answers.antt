-- The names that stay, of the kernel's state.
use Rattle.std.proofs.Common.{List, Some, subst}
use Rattle.edi_told.specs.Told.{WhereTold}
use Rattle.edi_calls.specs.Names.{Name}
use Rattle.edi_target.specs.Mach.{Machine}
use Rattle.edi_kernel.specs.declared.state.KernelState.{KernelState}
use Rattle.edi_kernel.specs.TableIsMachine.{Naming}
use Rattle.edi_kernel.specs.Named.{BreaksRunBy, GoesBy, HoldsBy}
use Rattle.edi_kernel.specs.Runs.{IsAt}
use Rattle.edi_kernel.proofs.Kernel.stint.Goals as goal

pub returns-clause-names : goal.returns-clause-names
returns-clause-names g c =
    subst
    (λ (k : KernelState). WhereTold (g.C.Calls.state c.args.calls.now) (g.C.Calls.state c.stint.new.calls) (λ s t. (m : Machine) (p : Name) (others : List Name)
    (n : Naming) → IsAt c.args.code.now k s c.args.turns_left m p others → HoldsBy n k m (Some p) others →
    GoesBy c.args.code.now.words c.stint.result c.args.turns_left k n c.stint.new.self t m p others))
    c.self.view_is c.stint.ensures.names

pub returns-clause-ends : goal.returns-clause-ends
returns-clause-ends g c =
    subst
    (λ (k : KernelState). WhereTold (g.C.Calls.state c.args.calls.now) (g.C.Calls.state c.stint.new.calls) (λ s t. (m : Machine) (p : Name) (others : List Name)
    (n : Naming) → IsAt c.args.code.now k s c.args.turns_left m p others → HoldsBy n k m (Some p) others →
    BreaksRunBy c.args.code.now.words c.stint.result c.args.turns_left k n c.stint.new.self t m p others))
    c.self.view_is c.stint.ensures.ends
