-- Names that stay are kept where the state is told, and may be forgotten.
use Rattle.std.proofs.Common.{◌≡◌, ℕ, List, Option, Some, refl}
use Rattle.edi_told.specs.Told.{WhereTold}
use Rattle.edi_told.proofs.Told.{WhereTold-map}
use Rattle.edi_calls.specs.Names.{Name}
use Rattle.edi_calls.specs.State.{State}
use Rattle.edi_target.specs.Mach.{Machine}
use Rattle.edi_kernel.specs.declared.ends.Ending.TheVariants as ending
use Rattle.edi_kernel.specs.declared.ends.StintEnd.{StintEnd}
use Rattle.edi_kernel.specs.declared.ends.StintEnd.TheVariants as stint_end
use Rattle.edi_kernel.specs.declared.state.KernelState.{KernelState}
use Rattle.edi_kernel.specs.TableIsMachine.{Naming}
use Rattle.edi_kernel.specs.Kernel.{GoesTo}
use Rattle.edi_kernel.specs.Named.{HoldsBy, GoesBy}
use Rattle.edi_kernel.proofs.Rounds.{AnyStint}

pub goes_to : (words : List ℕ) (end : StintEnd) (left : ℕ) (old : KernelState) (n : Naming) (k : KernelState) (now : State) (m : Machine) (p : Name)
    (others : List Name) → GoesBy words end left old n k now m p others → GoesTo words end left k now m p others
goes_to words (stint_end.Arrived used) left old n k now m p others h = h.0
goes_to words (stint_end.Forked used) left old n k now m p others h = h.0
goes_to words (stint_end.Exited used) left old n k now m p others h = h.0
goes_to words (stint_end.Over used ending.Standstill) left old n k now m p others h = h.0
goes_to words (stint_end.Over used ending.Done) left old n k now m p others h = h
goes_to words (stint_end.Over used (ending.Halted line)) left old n k now m p others h = h
goes_to words (stint_end.Over used (ending.Failed cause line)) left old n k now m p others h = h
goes_to words (stint_end.Over used ending.Turns) left old n k now m p others h = h
goes_to words (stint_end.Over used (ending.Bad at)) left old n k now m p others h = h
goes_to words (stint_end.Over used ending.Fault) left old n k now m p others h = h

-- the process goes on from any machine that the kernel is, by whatever names
abbrev pub AnyNamed : List ℕ → StintEnd → (left : ℕ) → (prior k : KernelState) → State → State → Type 0
AnyNamed words end left prior k s t =
    (m : Machine) (p : Name) (others : List Name) (n : Naming) → HoldsBy n prior m (Some p) others → m.system ≡ s → m.turns ≡ left →
    GoesBy words end left prior n k t m p others

pub told_goes_to : (words : List ℕ) (end : StintEnd) (left : ℕ) (prior k : KernelState) (before after : Option State)
    → WhereTold before after (AnyNamed words end left prior k) → WhereTold before after (AnyStint words end left prior k)
told_goes_to words end left prior k before after h =
    WhereTold-map (AnyNamed words end left prior k) (AnyStint words end left prior k) before after
    (λ s t f m p others holds a b. goes_to words end left prior holds.naming k t m p others
    (f m p others holds.naming (record { holds = holds; by = refl }) a b)) h
