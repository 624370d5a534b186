-- Words of contracts. What the code keeps of a program's texts, and what it stands for.
use Rattle.std.specs.Prelude.{◌≡◌, ◌<◌, ℕ, List, Contains, length, map, Option, Some, None, slice_get}
use Rattle.std.specs.Bool.{Decides}
use Rattle.std.specs.Global.{Vec}
use Rattle.edi_unit.specs.Tree.{ProgramUnit}
use Rattle.edi_unit.specs.declared.expressions.Callee.TheVariants as callee
use Rattle.edi_disjoint.specs.declared.mentions.Mention.{Mention}
use Rattle.edi_disjoint.specs.declared.mentions.Mention.TheVariants as mention
use Rattle.edi_disjoint.specs.declared.touching.Variable as code_variable
use Rattle.edi_disjoint.specs.declared.touching.Footprint.{Footprint}
use Rattle.edi_disjoint.specs.declared.touching.Footprints.{Footprints}
use Rattle.edi_disjoint.specs.Mentions.{in_acts}
use Rattle.edi_disjoint.specs.Footprints.{IsBranch, Variable, Mentions, Reach, Sees, Writes, IsTarget, CallsSystem, CallsParameter, NamesProgram}

-- these are the mentions in the blocks of a unit, by number
abbrev pub AreTexts : ProgramUnit → List (Vec Mention) → Type 0
AreTexts unit texts = map (λ t. t.items) texts ≡ map (λ b. in_acts b.body) unit.blocks

-- each block that a text calls by its name is there
abbrev pub CallsAreThere : ProgramUnit → Type 0
CallsAreThere unit = (n levels d : ℕ) → Mentions unit n (mention.Calls (callee.Block levels d)) → d < length unit.blocks

-- a list has all of these, and nothing else
abbrev pub Lists : {A : Type 0} → List A → (A → Type 0) → Type 0
Lists {A} list P = ((x : A) → Contains list x → P x) × ((x : A) → P x → Contains list x)

-- these are the blocks that a block gets to
abbrev pub IsReach : ProgramUnit → ℕ → List ℕ → Type 0
IsReach unit b list = Lists list (Reach unit b)

-- a variable of the code as one of the definitions
abbrev pub variable_of : code_variable.Variable → Variable
variable_of v = record { home = v.home; number = v.number }

abbrev pub AreTargets : ProgramUnit → List code_variable.Variable → Type 0
AreTargets unit list = Lists (map variable_of list) (IsTarget unit)

-- this is what a branch touches
pub record IsFootprint (unit : ProgramUnit) (b : ℕ) (found : Footprint) : Type 0 where
  pub seen : Lists (map variable_of found.seen.items) (Sees unit b)
  pub written : Lists (map variable_of found.written.items) (Writes unit b)
  pub system : Decides found.calls_system (CallsSystem unit b)
  pub parameter : Decides found.calls_parameter (CallsParameter unit b)

abbrev pub IsFootprintAt : ProgramUnit → ℕ → Option Footprint → Type 0
IsFootprintAt unit b (Some found) = IsFootprint unit b found
IsFootprintAt unit b None = ⊥

-- these are the footprints of a program
pub record AreFootprints (unit : ProgramUnit) (found : Footprints) : Type 0 where
  pub named : Decides found.named (NamesProgram unit)
  pub branches : (b : ℕ) → IsBranch unit b → IsFootprintAt unit b (slice_get found.branches.items b)
