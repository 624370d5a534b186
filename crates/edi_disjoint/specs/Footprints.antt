-- Definition. What the branches of a `cobegin` may see and write of the variables of the blocks round them, and which of them are
-- disjoint. It is read off the text alone.
use Rattle.std.specs.Prelude.{◌≡◌, ◌≢◌, ◌<◌, ℕ, suc, List, Contains, length, Option, Some, None, slice_get}
use Rattle.edi_unit.specs.declared.expressions.Callee.TheVariants as callee
use Rattle.edi_unit.specs.declared.units.BlockKind.TheVariants as kind
use Rattle.edi_unit.specs.declared.units.Parameter.{Parameter}
use Rattle.edi_unit.specs.declared.units.Parameter.TheVariants as parameter
use Rattle.edi_unit.specs.Tree.{Block, ProgramUnit}
use Rattle.edi_unit.specs.Need.{block_at, outer, slots}
use Rattle.edi_disjoint.specs.declared.mentions.Mention.{Mention}
use Rattle.edi_disjoint.specs.declared.mentions.Mention.TheVariants as mention
use Rattle.edi_disjoint.specs.Mentions.{in_acts}

-- a variable as it is declared: the block that declares it, and its number there
pub record Variable : Type 0 where
  pub home : ℕ
  pub number : ℕ

-- what stands in the statements of a block; those of its branches stand in blocks of their own
abbrev pub Mentions : ProgramUnit → ℕ → Mention → Type 0
Mentions unit b m = Contains (in_acts (block_at unit.blocks b).body) m

-- the block of a branch of a `cobegin`
abbrev pub IsBranch : ProgramUnit → ℕ → Type 0
IsBranch unit b = (b < length unit.blocks) × ((block_at unit.blocks b).kind ≡ kind.Branch)

-- ---- where a branch gets to

-- REACH: block b, and each block that a block of it calls by its name; nothing else
pub data Reach (unit : ProgramUnit) (b : ℕ) : ℕ → Type 0 where
  itself : Reach unit b b
  called : (c levels d : ℕ) → Reach unit b c → Mentions unit c (mention.Calls (callee.Block levels d)) → Reach unit b d

-- block h stands round block b; each block but the program has one round it, and the program stands round all of them
pub record Encloses (blocks : List Block) (h b : ℕ) : Type 0 where
  pub levels : ℕ
  pub is : outer blocks b (suc levels) ≡ h

-- ---- variables

abbrev pub variable_at : List Block → (block levels number : ℕ) → Variable
variable_at blocks block levels number = record { home = outer blocks block levels; number = number }

-- the variable of a mention in a block, if it is one of a variable; and if the variable may be written there, since it is
-- assigned to, or lent as a `var` argument
abbrev pub seen : List Block → ℕ → Mention → Option Variable
seen blocks block (mention.Reads levels number) = Some (variable_at blocks block levels number)
seen blocks block (mention.Assigns levels number) = Some (variable_at blocks block levels number)
seen blocks block (mention.Lends levels number) = Some (variable_at blocks block levels number)
seen blocks block (mention.Calls c) = None
seen blocks block (mention.Passes c) = None

abbrev pub written : List Block → ℕ → Mention → Option Variable
written blocks block (mention.Reads levels number) = None
written blocks block (mention.Assigns levels number) = Some (variable_at blocks block levels number)
written blocks block (mention.Lends levels number) = Some (variable_at blocks block levels number)
written blocks block (mention.Calls c) = None
written blocks block (mention.Passes c) = None

-- a text that branch b gets to mentions the variable so
pub record Named (of : List Block → ℕ → Mention → Option Variable) (unit : ProgramUnit) (b : ℕ) (v : Variable) : Type 0 where
  pub block : ℕ
  pub reach : Reach unit b block
  pub mention : Mention
  pub stands : Mentions unit block mention
  pub is : of unit.blocks block mention ≡ Some v

-- TARGETS: the variables that are lent somewhere in the program. What a `var` parameter means is one of them.
pub record IsTarget (unit : ProgramUnit) (v : Variable) : Type 0 where
  pub block : ℕ
  pub levels : ℕ
  pub stands : Mentions unit block (mention.Lends levels v.number)
  pub is : outer unit.blocks block levels ≡ v.home

abbrev pub IsVar : Option Parameter → Type 0
IsVar None = ⊥
IsVar (Some (parameter.Value t)) = ⊥
IsVar (Some (parameter.Var t)) = Unit {0}
IsVar (Some (parameter.Formal r)) = ⊥

-- a `var` parameter
abbrev pub IsVarParameter : ProgramUnit → Variable → Type 0
IsVarParameter unit v = IsVar (slice_get (slots (block_at unit.blocks v.home)) v.number)

-- what branch b touches so: the variables of blocks round it that are mentioned so; and each target, where a `var`
-- parameter is mentioned so
pub data Touches (of : List Block → ℕ → Mention → Option Variable) (unit : ProgramUnit) (b : ℕ) (v : Variable) : Type 0 where
  outside : Named of unit b v → Encloses unit.blocks v.home b → Touches of unit b v
  through : (x : Variable) → Named of unit b x → IsVarParameter unit x → IsTarget unit v → Touches of unit b v

-- SEES and WRITES
abbrev pub Sees : ProgramUnit → ℕ → Variable → Type 0
Sees unit b v = Touches seen unit b v

abbrev pub Writes : ProgramUnit → ℕ → Variable → Type 0
Writes unit b v = Touches written unit b v

-- ---- procedures

-- branch b gets to a call of a procedure parameter of the program, which is a call of the system; and to one of another
pub record CallsSystem (unit : ProgramUnit) (b : ℕ) : Type 0 where
  pub block : ℕ
  pub reach : Reach unit b block
  pub levels : ℕ
  pub number : ℕ
  pub stands : Mentions unit block (mention.Calls (callee.Formal levels number))
  pub is : outer unit.blocks block levels ≡ unit.program

pub record CallsParameter (unit : ProgramUnit) (b : ℕ) : Type 0 where
  pub block : ℕ
  pub reach : Reach unit b block
  pub levels : ℕ
  pub number : ℕ
  pub stands : Mentions unit block (mention.Calls (callee.Formal levels number))
  pub other : outer unit.blocks block levels ≢ unit.program

-- somewhere the program itself is called or passed on, so that its parameters may mean other procedures
pub data NamesProgram (unit : ProgramUnit) : Type 0 where
  calls : (block levels : ℕ) → Mentions unit block (mention.Calls (callee.Block levels unit.program)) → NamesProgram unit
  passes : (block levels : ℕ) → Mentions unit block (mention.Passes (callee.Block levels unit.program)) → NamesProgram unit

-- DISJOINT: two branch blocks of which neither may write what the other sees, and of which at most one calls the system;
-- and neither calls a procedure that the text does not name
pub record Disjoint (unit : ProgramUnit) (a b : ℕ) : Type 0 where
  pub unnamed : NamesProgram unit → ⊥
  pub first_writes : (v : Variable) → Writes unit a v → Sees unit b v → ⊥
  pub second_writes : (v : Variable) → Sees unit a v → Writes unit b v → ⊥
  pub one_calls : CallsSystem unit a → CallsSystem unit b → ⊥
  pub first_others : CallsParameter unit a → ⊥
  pub second_others : CallsParameter unit b → ⊥
