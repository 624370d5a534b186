-- The machines after the entry of the program with two bounds are twins. `enters_twin` is private to edi_explored/proofs/machine/PutBacks: show it there
-- when that file changes.
use Rattle.std.proofs.Common.{◌≡◌, ℕ, zero, suc, Option, Some, None, Bool, true, ◌||◌, List, [], ◌∷◌, refl, sym, ap, subst, ◌∙◌}
use Rattle.std.specs.Prelude.{⊤}
use Rattle.edi_calls.specs.Names.{Name}
use Rattle.edi_calls.specs.Ready.{has, stays}
use Rattle.edi_calls.specs.State.{State}
use Rattle.edi_calls.proofs.Tables.{same-refl}
use Rattle.edi_target.specs.Mach.{Machine, Stepped, went, ended, entered}
use Rattle.edi_target.specs.Op as op
use Rattle.edi_target.specs.Op.{Instruction}
use Rattle.edi_explored.specs.Covered.{Reordered}
use Rattle.edi_explored.specs.machine.Twins.{Twin}
use Rattle.edi_explored.proofs.machine.Calls.{nothing_shown}

-- who is first in a list that has the first process alone
pub first_is : (p : Name) (others : List Name) → Reordered ([] ∷ []) (p ∷ others) → p ≡ []
first_is p others r = only p (sym (r.members p) ∙ ap (λ b. b || has others p) (same-refl p))
  where
    only : (x : Name) → has ([] ∷ []) x ≡ true → x ≡ []
    only [] h = refl
    only (y ∷ ys) h = absurd (cc)

-- the machines after the entry of the program, with two bounds
abbrev BothEnter : Bool → Stepped → Stepped → Type 0
BothEnter told (ended e m) y = ⊤
BothEnter told (went m next) (ended e q) = ⊤
BothEnter told (went m next) (went q other) = Twin told m q

both_enter : (told : Bool) (found : Option (Instruction × ℕ)) (calls : List ℕ) (b c : ℕ) (system : State) →
    BothEnter told (entered found 0 calls b system) (entered found 0 calls c system)
both_enter told (Some (op.entry need r p v f, body)) calls zero c system = tt
both_enter told (Some (op.entry need r p v f, body)) calls (suc b) zero system = tt
both_enter told (Some (op.entry need r p v f, body)) calls (suc b) (suc c) system = record {
  memory = refl;
  activities = refl;
  system = record { input = refl; slots = refl; blocks = refl; found = refl; buffer = refl; shown = nothing_shown told system.shown };
  marks = refl;
}
both_enter told None calls b c system = tt
both_enter told (Some x) calls b c system = tt

pub enters_twin : (told : Bool) (found : Option (Instruction × ℕ)) (calls : List ℕ) (b c : ℕ) (system : State) (t q : Machine) →
    entered found 0 calls b system ≡ went t stays → entered found 0 calls c system ≡ went q stays → Twin told t q
enters_twin told found calls b c system t q x y =
    subst (λ z. BothEnter told (went t stays) z) y (subst (λ z. BothEnter told z (entered found 0 calls c system)) x (both_enter told found calls b c system))
