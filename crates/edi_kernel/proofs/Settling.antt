-- What is handled of a pause apart, and with the marks that are noted.
use Rattle.std.proofs.Common.{◌≡◌, ◌⊎◌, inl, inr, ℕ, Bool, true, false, List, [], Some, refl, sym, ◌∙◌, ap, subst, if◌then◌else◌}
use Rattle.edi_machine.specs.declared.activity.Activity.{Activity}
use Rattle.edi_machine.specs.declared.ends.TurnKind.TheVariants as kind
use Rattle.edi_kernel.specs.declared.ends.StintEnd.{StintEnd}
use Rattle.edi_kernel.specs.declared.stretch.Pause.{Pause}
use Rattle.edi_kernel.specs.declared.stretch.Pause.TheVariants as pause
use Rattle.edi_kernel.specs.declared.table.Table.{Table}
use Rattle.edi_kernel.specs.declared.state.KernelState.{KernelState}
use Rattle.edi_kernel.specs.Table.{free_slots, ready_slots, unmarked}
use Rattle.edi_kernel.specs.TableIsMachine.{IsTable}
use Rattle.edi_kernel.specs.Kernel.{Handles, HandlesTurn, IsNotedAs, MayFail, Settles, StandsAfter, is_arrival, is_arrived, noting, paused}
use Rattle.edi_kernel.proofs.Switches.{unmarked_table}

pub free_if : (b : Bool) (t : Table) → free_slots (if b then unmarked t else t) ≡ free_slots t
free_if true t = refl
free_if false t = refl

pub sound_if : (b : Bool) (t : Table) → IsTable t → IsTable (if b then unmarked t else t)
sound_if true t h = unmarked_table t h
sound_if false t h = h

-- an arrival takes all marks away, whether that is noted or not
pub arrival_handled : (p : Pause) (words : List ℕ) (slot used : ℕ) (a : Activity) (cleared : Bool) (old new : KernelState) (result : StintEnd)
    → is_arrival p ≡ true → HandlesTurn kind.Arrive [] slot used a old new result → Handles p words slot used a (paused cleared old) new result
arrival_handled (pause.At kind.Arrive) words slot used a true old new result e h = h
arrival_handled (pause.At kind.Arrive) words slot used a false old new result e h = h
arrival_handled (pause.At kind.Enter) words slot used a cleared old new result e h = absurd (cc)
arrival_handled (pause.At kind.End) words slot used a cleared old new result e h = absurd (cc)
arrival_handled (pause.At kind.Loop) words slot used a cleared old new result e h = absurd (cc)
arrival_handled (pause.At (kind.Again marks)) words slot used a cleared old new result e h = absurd (cc)
arrival_handled (pause.At (kind.Fork at)) words slot used a cleared old new result e h = absurd (cc)
arrival_handled (pause.At kind.Exit) words slot used a cleared old new result e h = absurd (cc)
arrival_handled (pause.At kind.ProgramEnd) words slot used a cleared old new result e h = absurd (cc)
arrival_handled (pause.Over ending) words slot used a cleared old new result e h = absurd (cc)

-- where nothing was left out the kernel is as it is noted
pub noted_itself : (notes : Bool) (old new : KernelState) (result : StintEnd) → IsNotedAs notes old new new result
noted_itself notes old new result = record { rest = refl; noting = λ asked. refl; other = λ not. refl; arrived = inl refl }

-- what is left of a kernel where an arrival is noted or not
pub record Noted (notes : Bool) (a : Activity) (mid new : KernelState) : Type 0 where
  pub same : noting a new ≡ noting a mid
  pub table : new.table ≡ mid.table
  pub asked : notes ≡ true → new ≡ noting a new
  pub arrived : (new.arrived ≡ Some a) ⊎ (new.arrived ≡ mid.arrived)

pub noted_if : (notes : Bool) (a : Activity) (mid new : KernelState) → new ≡ (if notes then noting a mid else mid) → Noted notes a mid new
noted_if true a mid new e = record {
  same = ap (noting a) e;
  table = ap (λ (k : KernelState). k.table) e;
  asked = λ asked. e ∙ sym (ap (noting a) e);
  arrived = inl (ap (λ (k : KernelState). k.arrived) e);
}
noted_if false a mid new e = record {
  same = ap (noting a) e;
  table = ap (λ (k : KernelState). k.table) e;
  asked = λ asked. absurd (cc);
  arrived = inr (ap (λ (k : KernelState). k.arrived) e);
}

pub settles_arrival : (notes : Bool) (p : Pause) (words : List ℕ) (slot used : ℕ) (a : Activity) (cleared : Bool) (old new : KernelState) (result : StintEnd)
    → is_arrival p ≡ true → HandlesTurn kind.Arrive [] slot used a old (noting a new) result
    → StandsAfter result (Some slot) (ready_slots old.table) new.table (Some a) → (notes ≡ true → new ≡ noting a new)
    → (new.arrived ≡ Some a) ⊎ (new.arrived ≡ old.arrived) → Settles notes p words slot used a cleared old new result
settles_arrival notes p words slot used a cleared old new result e h standing noted arrived = record {
  noted = noting a new;
  is = record {
    rest = refl;
    noting = noted;
    other = λ not. let no : true ≡ false = sym (ap is_arrived h.2) ∙ not in absurd (cc);
    arrived = arrived;
  };
  handles = arrival_handled p words slot used a cleared old (noting a new) result e h;
  standing = standing;
  failed = subst (λ x. MayFail x false) (sym h.2) tt;
}
