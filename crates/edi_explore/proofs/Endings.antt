-- Equal endings are one.
use Rattle.std.proofs.Common.{◌≡◌, true, false, ◌&&◌, refl, ap, ap₂, subst}
use Rattle.std.specs.Prelude.{nat_eq}
use Rattle.std.proofs.lemmas.Bool.{eqb-true, eq-eqb}
use Rattle.edi_calls.specs.declared.kinds.Cause.{Cause}
use Rattle.edi_calls.specs.declared.kinds.Cause.TheVariants as cause
use Rattle.edi_calls.specs.contracts.kinds.CausePartialEq.TheImpl as causes
use Rattle.edi_kernel.specs.declared.ends.Ending.{Ending}
use Rattle.edi_kernel.specs.declared.ends.Ending.TheVariants as ending
use Rattle.edi_kernel.specs.contracts.ends.EndingPartialEq.TheImpl as endings
use Rattle.edi_explore.proofs.Equal.{both_one, both_two}

never : false ≡ true → ⊥
never e = cc

cause_same : (a b : Cause) → (causes.ghosts).eq a b ≡ true → a ≡ b
cause_same cause.Range cause.Range e = refl
cause_same cause.Range b e = absurd (never e)
cause_same cause.VariableLimit cause.VariableLimit e = refl
cause_same cause.VariableLimit b e = absurd (never e)
cause_same cause.ProcessLimit cause.ProcessLimit e = refl
cause_same cause.ProcessLimit b e = absurd (never e)
cause_same cause.Held cause.Held e = refl
cause_same cause.Held b e = absurd (never e)
cause_same cause.NoFile cause.NoFile e = refl
cause_same cause.NoFile b e = absurd (never e)
cause_same cause.FileLimit cause.FileLimit e = refl
cause_same cause.FileLimit b e = absurd (never e)
cause_same cause.Halt cause.Halt e = refl
cause_same cause.Halt b e = absurd (never e)

cause_equal : (a : Cause) → (causes.ghosts).eq a a ≡ true
cause_equal cause.Range = refl
cause_equal cause.VariableLimit = refl
cause_equal cause.ProcessLimit = refl
cause_equal cause.Held = refl
cause_equal cause.NoFile = refl
cause_equal cause.FileLimit = refl
cause_equal cause.Halt = refl

pub ending_same : (a b : Ending) → (endings.ghosts).eq a b ≡ true → a ≡ b
ending_same ending.Done ending.Done e = refl
ending_same ending.Done b e = absurd (never e)
ending_same (ending.Halted l) (ending.Halted m) e = ap ending.Halted (eqb-true l m e)
ending_same (ending.Halted l) b e = absurd (never e)
ending_same (ending.Failed c l) (ending.Failed d m) e =
    ap₂ ending.Failed (cause_same c d (both_one ((causes.ghosts).eq c d) (nat_eq l m) e)) (eqb-true l m (both_two ((causes.ghosts).eq c d) (nat_eq l m) e))
ending_same (ending.Failed c l) b e = absurd (never e)
ending_same ending.Turns ending.Turns e = refl
ending_same ending.Turns b e = absurd (never e)
ending_same ending.Standstill ending.Standstill e = refl
ending_same ending.Standstill b e = absurd (never e)
ending_same (ending.Bad l) (ending.Bad m) e = ap ending.Bad (eqb-true l m e)
ending_same (ending.Bad l) b e = absurd (never e)
ending_same ending.Fault ending.Fault e = refl
ending_same ending.Fault b e = absurd (never e)

equal : (a : Ending) → (endings.ghosts).eq a a ≡ true
equal ending.Done = refl
equal (ending.Halted l) = eq-eqb l l refl
equal (ending.Failed c l) = ap₂ (λ x y. x && y) (cause_equal c) (eq-eqb l l refl)
equal ending.Turns = refl
equal ending.Standstill = refl
equal (ending.Bad l) = eq-eqb l l refl
equal ending.Fault = refl

pub ending_equal : (a b : Ending) → a ≡ b → (endings.ghosts).eq a b ≡ true
ending_equal a b e = subst (λ x. (endings.ghosts).eq a x ≡ true) e (equal a)
