-- Where a tree has a unit it is sound, and where it has a fault it is not.
use Rattle.std.proofs.Common.{◌≤◌, Result, Ok, Err, IfOk, IfErr}
use Rattle.edi_tree.specs.Tree.{Program}
use Rattle.edi_tree.specs.Depth.{depth}
use Rattle.edi_tree.specs.Spells.{IsBounded}
use Rattle.edi_unit.specs.declared.units.Unit as code_unit
use Rattle.edi_unit.specs.View.{unit_of}
use Rattle.edi_static.specs.declared.faults.StaticFault.{StaticFault}
use Rattle.edi_static.specs.declared.faults.StaticFault.TheVariants as fault
use Rattle.edi_static.specs.Answers.{JudgedAnswers}
use Rattle.edi_static.specs.Programs.{resolve_tree, Sound, Refuses}
use Rattle.edi_static.proofs.Refusing.{unsound}

pub sound_if_given : (tree : Program) (r : Result code_unit.Unit StaticFault) → ∥ IsBounded tree ∥₁ → depth tree ≤ 64
    → JudgedAnswers unit_of r (resolve_tree tree) → IfOk r (λ _. Sound tree)
sound_if_given tree (Ok unit) is_bounded shallow e = record { is_bounded = is_bounded; shallow = shallow; resolved = (unit_of unit, e) }
sound_if_given tree (Err f) is_bounded shallow e = tt

pub unsound_if_refused : (tree : Program) (r : Result code_unit.Unit StaticFault) → JudgedAnswers unit_of r (resolve_tree tree) → IfErr r (λ f. Refuses tree f)
unsound_if_refused tree (Ok unit) e = tt
unsound_if_refused tree (Err (fault.At why line)) e = unsound tree why line e
unsound_if_refused tree (Err fault.NoMemory) e = tt
