-- A tree has a unit or one first fault.
use Rattle.std.proofs.Common.{◌≡◌, ℕ, Bool, true, false, ap, sym, ◌∙◌}
use Rattle.edi_tree.specs.Tree.{Program}
use Rattle.edi_unit.specs.Tree.{ProgramUnit}
use Rattle.edi_static.specs.declared.faults.StaticKind.{StaticKind}
use Rattle.edi_static.specs.Judged.{Judged, gives, faults}
use Rattle.edi_static.specs.Programs.{FirstStatic, Resolved, IsUnsound}

abbrev kind_of : StaticKind → Judged ProgramUnit → StaticKind
kind_of default (gives unit) = default
kind_of default (faults why line) = why

abbrev line_of : Judged ProgramUnit → ℕ
line_of (gives unit) = 0
line_of (faults why line) = line

abbrev is_refusal : Judged ProgramUnit → Bool
is_refusal (gives unit) = false
is_refusal (faults why line) = true

pub one_fault : (tree : Program) (why other : StaticKind) (line at : ℕ) → FirstStatic tree why line → FirstStatic tree other at → (why ≡ other) × (line ≡ at)
one_fault tree why other line at p q = (ap (kind_of why) (sym p ∙ q), ap line_of (sym p ∙ q))

not_both : (tree : Program) (why : StaticKind) (line : ℕ) (unit : ProgramUnit) → FirstStatic tree why line → Resolved tree unit → ⊥
not_both tree why line unit p q = let no : true ≡ false = ap is_refusal (sym p ∙ q) in absurd (cc)

pub unsound : (tree : Program) (why : StaticKind) (line : ℕ) → FirstStatic tree why line → IsUnsound tree why line
unsound tree why line p = record {
  first = p;
  not_sound = λ sound. not_both tree why line sound.resolved.0 p sound.resolved.1;
}
