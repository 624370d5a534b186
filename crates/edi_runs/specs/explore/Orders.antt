-- Definition. WHAT IS SAID OF EVERY ORDER OF STEPS of a text that is explored, and of how many moves its executions make. A stint is many steps; by
-- steps any process may take the next one, also between two steps of a stint.
use Rattle.std.specs.Prelude.{◌≡◌, ℕ, suc, ◌==◌, ◌&&◌, Bool, true, false, not, if◌then◌else◌, List, [], ◌∷◌, ◌++◌, map, slice_index_or, Option, Some, None, is_some, Result, Ok, Err, ⊤}
use Rattle.std.specs.List.{list_any}
use Rattle.edi_calls.specs.Outcome as outcome
use Rattle.edi_calls.specs.Outcome.{Ending}
use Rattle.edi_lex.specs.declared.symbol.Mark.{Mark}
use Rattle.edi_lex.specs.declared.fault.LexFault.{LexFault}
use Rattle.edi_lex.specs.Symbols.{symbols_of}
use Rattle.edi_tree.specs.Tree.{Program}
use Rattle.edi_grammar.specs.derivation.Faults.{IsTheTree}
use Rattle.edi_unit.specs.Tree.{ProgramUnit}
use Rattle.edi_static.specs.Programs.{Resolved}
use Rattle.edi_sights.specs.named.Naming.{Named, Names, named_at, names_of}
use Rattle.edi_disjoint.specs.Footprints.{Variable}
use Rattle.edi_disjoint.specs.Open.{AreOpenUses, NoOpenUses, OpenUse}
use Rattle.edi_texts.specs.Texts.{IsUnit}
use Rattle.edi_explored.specs.Within.{MakeFewer}
use Rattle.edi_orders.specs.Orders.{AreAllBySteps}
use Rattle.edi_explore.specs.declared.ends.Verdict.{Verdict}
use Rattle.edi_explore.specs.declared.ends.Verdict.TheVariants as verdict
use Rattle.edi_explore.specs.Offline.{offline}

-- ---- variables by their names

-- a variable or a procedure parameter, and the program, procedure or function whose block declares it
pub record OpenName : Type 0 where
  pub name : List ℕ
  pub block : List ℕ

abbrev pub same_variable : Variable → Variable → Bool
same_variable a b = (a.home == b.home) && (a.number == b.number)

-- with this variable after the others, unless it is one of them
abbrev pub with_variable : List Variable → Variable → List Variable
with_variable vs v = if list_any (same_variable v) vs then vs else vs ++ v ∷ []

-- with the variables of these uses, each once
abbrev pub with_used : List Variable → List OpenUse → List Variable
with_used vs [] = vs
with_used vs (one ∷ uses) = with_used (with_variable vs one.variable) uses

abbrev pub name_in : Names → Variable → OpenName
name_in names v =
    let block : Named = named_at names.blocks v.home in record { name = slice_index_or block.variables v.number []; block = block.name }

-- the names of the variables of these uses
abbrev pub names_used : Names → List OpenUse → List OpenName
names_used names uses = map (name_in names) (with_used [] uses)

-- ---- the text

-- by what is known of the symbols: they are those of this tree, which has this unit
abbrev pub HaveTree : Result (List Mark × ℕ) LexFault → Program → ProgramUnit → Type 0
HaveTree (Err fault) tree unit = ⊥
HaveTree (Ok known) tree unit = IsTheTree known.0 tree × Resolved tree unit

-- THE OPEN USES OF THE TEXT (`UsesOpenly`) are of these variables, and of no others. It is a text with such uses, or one in which the program itself
-- is called or passed on.
pub record AreUsedOpenly (text : List ℕ) (names : List OpenName) : Type 0 where
  pub tree : Program
  pub unit : ProgramUnit
  pub known : HaveTree (symbols_of text) tree unit
  pub uses : List OpenUse
  pub uses_are : AreOpenUses unit uses
  pub names_are : names ≡ names_used (names_of tree) uses
  pub some : NoOpenUses unit → ⊥

-- THESE ARE ALL ENDINGS of every order of steps of the text, but for orders that turns cut, and for `process limit`
pub record AreAllOfBySteps (text input : List ℕ) (endings : List Ending) : Type 0 where
  pub unit : ProgramUnit
  pub unit_is : IsUnit text unit
  pub all : AreAllBySteps unit (offline input) endings

-- ---- what is said of every order

-- no order of steps ends otherwise; these variables may be used outside critical phases, and of other orders nothing is known; or nothing is said
pub data OrdersOfSteps : Type 0 where
  settled : OrdersOfSteps
  used : List OpenName → OrdersOfSteps
  unsaid : OrdersOfSteps

abbrev pub is_all : Verdict → Bool
is_all verdict.All = true
is_all _ = false

-- the end of the program, or a standstill
abbrev pub is_calm : Ending → Bool
is_calm outcome.done = true
is_calm outcome.standstill = true
is_calm _ = false

abbrev pub are_calm : List Ending → Bool
are_calm [] = true
are_calm (ending ∷ endings) = is_calm ending && are_calm endings

-- Something is said where all executions were followed, output is not looked at, and each ending is calm.
abbrev pub speaks : Verdict → (shown : Option ℕ) → List Ending → Bool
speaks v shown endings = is_all v && (not (is_some shown) && are_calm endings)

abbrev pub SaysOrders : OrdersOfSteps → (text input : List ℕ) → List Ending → Type 0
SaysOrders settled text input endings = AreAllOfBySteps text input endings
SaysOrders (used names) text input endings = AreUsedOpenly text names
SaysOrders unsaid text input endings = ⊥

abbrev pub TellsOrders : (speaks : Bool) → OrdersOfSteps → (text input : List ℕ) → List Ending → Type 0
TellsOrders true orders text input endings = SaysOrders orders text input endings
TellsOrders false orders text input endings = orders ≡ unsaid

-- ---- how far executions go

-- no execution of the text makes more moves than so many
pub record MakeAtMost (most : ℕ) (text input : List ℕ) : Type 0 where
  pub unit : ProgramUnit
  pub unit_is : IsUnit text unit
  pub fewer : MakeFewer (suc most) unit (offline input)

abbrev pub SaysLongest : (longest : Option ℕ) → (text input : List ℕ) → Type 0
SaysLongest None text input = ⊤
SaysLongest (Some most) text input = MakeAtMost most text input
