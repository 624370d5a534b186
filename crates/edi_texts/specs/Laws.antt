-- Words of contracts. Laws on texts: each is one thing, and the unit of an accepted one is sound.
use Rattle.std.specs.Prelude.{◌≡◌, ◌⊎◌, ℕ, List}
use Rattle.edi_tree.specs.Tree.{Program}
use Rattle.edi_static.specs.Programs.{Resolved, Sound}
use Rattle.edi_unit.specs.Tree.{ProgramUnit}
use Rattle.edi_texts.specs.declared.kind.RefusalKind.{RefusalKind}
use Rattle.edi_texts.specs.declared.refusal.Pass.{Pass}
use Rattle.edi_texts.specs.Texts.{IsFault, IsUnit}

-- each text has a first fault or a unit, and only one of these
pub record EachTextIsOneThing : Type 0 where
  pub some_thing : (text : List ℕ) → ((p : Pass) × (k : RefusalKind) × (m : ℕ) × IsFault text p k m) ⊎ ((unit : ProgramUnit) × IsUnit text unit)
  pub one_fault : (text : List ℕ) (p q : Pass) (k l : RefusalKind) (m n : ℕ) → IsFault text p k m → IsFault text q l n → (p ≡ q) × (k ≡ l) × (m ≡ n)
  pub not_both : (text : List ℕ) (p : Pass) (k : RefusalKind) (m : ℕ) (unit : ProgramUnit) → IsFault text p k m → IsUnit text unit → ⊥
  pub one_unit : (text : List ℕ) (one other : ProgramUnit) → IsUnit text one → IsUnit text other → one ≡ other

-- the unit is that of a sound tree: its symbols are ones that `Symbols` can hold, at most 64 levels are open in it, and no
-- construct of it breaks a static rule
pub record IsSoundUnit (unit : ProgramUnit) : Type 0 where
  pub tree : Program
  pub sound : Sound tree
  pub resolved : Resolved tree unit

-- the unit of every accepted text is such, so all that is known of the units of sound trees and of their code is known of it
abbrev pub AcceptedTextsAreSound : Type 0
AcceptedTextsAreSound = (text : List ℕ) (unit : ProgramUnit) → IsUnit text unit → IsSoundUnit unit
