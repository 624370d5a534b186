-- Words of contracts. What constructs leave as it was, and what stands at each place of a sound text.
use Rattle.std.specs.Prelude.{◌≡◌, ℕ, ◌<◌, ◌≤◌, Bool, false, IsTrue, List, [], ◌∷◌, length, map, All}
use Rattle.edi_scope.specs.Scope.{Scope, in_module, outside}
use Rattle.edi_unit.specs.Headings.{Heading}
use Rattle.edi_static.specs.Environment.{Begun, Environment}
use Rattle.edi_static.specs.Proper.{Proper}

-- of each open scope whether it is that of a module
abbrev pub kinds : List Scope → List Bool
kinds scopes = map (λ s. s.is_module) scopes

-- what declarations of constants, types and variables leave as it was, and the parts of a heading but for its own scope
pub record DeclarationFrame : Type 0 where
  pub kinds_of : List Bool
  pub blocks_round : List ℕ
  pub begun_here : List Begun
  pub headings_known : List Heading

abbrev pub frame : Environment → DeclarationFrame
frame env = record { kinds_of = kinds env.scopes; blocks_round = env.around; begun_here = env.begun; headings_known = env.headings }

-- what all declarations leave as it was
pub record Setting : Type 0 where
  pub kinds_of : List Bool
  pub blocks_round : List ℕ

abbrev pub setting : Environment → Setting
setting env = record { kinds_of = kinds env.scopes; blocks_round = env.around }

-- all but the blocks, which is what statements leave as it was
abbrev pub without_blocks : Environment → Environment
without_blocks env = record env { blocks = []; headings = [] }

-- each procedure that is begun has a heading
abbrev pub BegunFit : List Heading → List Begun → Type 0
BegunFit headings begun = All (λ b. b.block < length headings) begun

-- at each place a scope is open, and what names mean is known
pub record EnvironmentStands (env : Environment) : Type 0 where
  pub proper : Proper env
  pub open_scopes : 0 < length env.scopes
  pub begun_fit : BegunFit env.headings env.begun

-- names may be declared here, for export only in a module
pub record StandsToDeclare (export : Bool) (env : Environment) : Type 0 where
  pub exporting : IsTrue export → IsTrue (in_module env.scopes)
  pub stands : EnvironmentStands env

-- from one place to a later one of the same scope
pub record Comes (before after : Environment) : Type 0 where
  pub same_setting : setting after ≡ setting before
  pub grows : length before.headings ≤ length after.headings
  pub stands : EnvironmentStands after

-- from the place before statements to that behind them
pub record Stays (before after : Environment) : Type 0 where
  pub same : without_blocks after ≡ without_blocks before
  pub grows : length before.headings ≤ length after.headings
  pub proper : Proper after

-- inside the heading of a procedure, whose scope is the innermost
pub record HeadingBegins (before after : Environment) : Type 0 where
  pub kinds_inside : kinds after.scopes ≡ false ∷ kinds before.scopes
  pub around_same : after.around ≡ before.around
  pub begun_same : after.begun ≡ before.begun
  pub grows : length before.headings ≤ length after.headings
  pub proper : Proper after

-- outside a procedure, whose heading's scope was the innermost
pub record Leaves (before after : Environment) : Type 0 where
  pub kinds_outside : kinds after.scopes ≡ kinds (outside before.scopes)
  pub around_same : after.around ≡ before.around
  pub begun_same : after.begun ≡ before.begun
  pub grows : length before.headings ≤ length after.headings
  pub proper : Proper after
