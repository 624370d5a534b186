-- The check of the code of a sound program finds no fault.
use Rattle.std.proofs.Common.{◌≡◌, ℕ, ◌≤◌, List, length, None, refl, ap, subst, ◌∙◌}
use Rattle.edi_unit.specs.Tree.{ProgramUnit}
use Rattle.edi_unit.specs.Fits.{Fits}
use Rattle.edi_target.specs.declared.code_fault.CodeFault.{CodeFault}
use Rattle.edi_target.specs.declared.code_fault.CodeFault.TheVariants as fault
use Rattle.edi_target.specs.Check.{IsFault, parts_fault}
use Rattle.edi_target.proofs.Sound.{sound_fields}
use Rattle.edi_scheme.specs.Code.{code_of}
use Rattle.edi_scheme.specs.Laws.{HaveParts, parts_of}
use Rattle.edi_scheme.proofs.Checked.{code_is_sound}

only_memory : (f : CodeFault) → IsFault f None → f ≡ fault.NoMemory
only_memory fault.NoMemory h = refl
only_memory (fault.Short at) h = cc
only_memory (fault.Over at) h = cc
only_memory (fault.Header at found) h = cc
only_memory (fault.Operation at found) h = cc
only_memory (fault.Jump at target) h = cc

module _ (unit : ProgramUnit) (fits : Fits unit) (parts : HaveParts unit.types) (short : length (code_of unit) ≤ 4194304) where
  -- a program has at most ten parameters
  pub few_calls : length unit.calls ≤ 10
  few_calls = (sound_fields (parts_of unit) (code_is_sound unit fits parts short)).number

  -- where the check of these words gives no code there is not enough memory
  pub no_fault : (f : CodeFault) (words calls : List ℕ) → words ≡ code_of unit → calls ≡ unit.calls → IsFault f (parts_fault words 0 calls) → f ≡ fault.NoMemory
  no_fault f words calls w k h =
      only_memory f (subst (IsFault f) (ap (λ (ws : List ℕ). parts_fault ws 0 calls) w ∙ ap (parts_fault (code_of unit) 0) k ∙ code_is_sound unit fits parts
      short) h)
