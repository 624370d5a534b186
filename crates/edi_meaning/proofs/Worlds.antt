-- Facts that speak of the worlds of an evaluation alone: of the locations and the cells to which it comes nothing is said.
use Rattle.std.proofs.Common.{◌≡◌, ℕ, suc, List}
use Rattle.edi_calls.specs.Calls.{answered, call}
use Rattle.edi_calls.specs.Names.{Name}
use Rattle.edi_calls.specs.Outcome.{Ending}
use Rattle.edi_calls.specs.State.{State, Traced, after_call}
use Rattle.edi_unit.specs.Tree.{ProgramUnit}
use Rattle.edi_unit.specs.Values.{Value}
use Rattle.edi_meaning.specs.Store.{Cell, Location, Spot, grown, put, shrunk}
use Rattle.edi_meaning.specs.Evaluation.{World}
use Rattle.edi_meaning.specs.Whole.{instance_of}
use Rattle.edi_meaning.proofs.Lasting.{Any, IsOver, Lasting}

-- Such a fact, what then holds of an end of the program, and that each change of the world keeps it.
pub record OfWorlds (unit : ProgramUnit) (p : Name) (size : ℕ) : Type 1 where
  pub Level : Type 0
  pub Holds : Level → World → Type 0
  pub Ends : Ending → Traced → ℕ → Type 0
  pub over : (x : Level) (e : Ending) (w : World) → IsOver e w.turns → Holds x w → Ends e w.system w.turns
  pub turned : (x : Level) (n : ℕ) (w : World) → w.turns ≡ suc n → Holds x w → Holds x (record w { turns = n })
  pub stored : (x : Level) (l : Location) (v : Value) (w : World) → Holds x w → Holds x (record w { store = put w.store l v })
  pub replied : (x : Level) (number : ℕ) (asked words : List ℕ) (system : State) (w : World) → call number asked w.system.now ≡ answered words system
      → Holds x w → Holds x (record w { system = after_call system w.system })
  pub called : (x : Level) (number : ℕ) (parent : Spot) (cells : List Cell) (w : World) → Holds x w →
      (y : Level) × Holds y (record w { store = grown p (instance_of unit p size number parent cells) w.store })
      × ((v : World) → Holds y v → Holds x (record v { store = shrunk p v.store }))

-- it lasts
abbrev pub lasting : {unit : ProgramUnit} {p : Name} {size : ℕ} → OfWorlds unit p size → Lasting unit p size
lasting f = record {
  Level = f.Level;
  Holds = f.Holds;
  Ends = f.Ends;
  Comes = λ x. Any;
  Fits = λ x. Any;
  over = f.over;
  turned = f.turned;
  stored = λ x l v w c h. f.stored x l v w h;
  replied = f.replied;
  called = λ x number parent cells w c g h. f.called x number parent cells w h;
  of_slot = λ x levels variable w h. tt;
  of_part = λ x l n c. tt;
  by_value = λ x v. tt;
  by_location = λ x l c. tt;
  to_location = λ x l g. tt;
  by_procedure = λ x c w h. tt;
}
