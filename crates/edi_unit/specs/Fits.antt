-- Words of contracts. What the checks of a program have made sure of: a unit that fits can be run and translated, and nothing in it
-- names what is not there.
use Rattle.std.specs.Prelude.{◌≡◌, ◌≢◌, ℕ, suc, ◌<◌, ◌≤◌, ◌^◌, pos, Bool, true, false, ◌||◌, ◌==◌, IsTrue, IsSome, List, [], ◌∷◌, length, slice_index, All}
use Rattle.std.specs.Prelude.{AllPairs, Option, Some, None}
use Rattle.edi_unit.specs.declared.expressions.Operator.{Operator}
use Rattle.edi_unit.specs.declared.expressions.Operator.TheVariants as op
use Rattle.edi_unit.specs.declared.expressions.Callee.{Callee}
use Rattle.edi_unit.specs.declared.expressions.Callee.TheVariants as callee
use Rattle.edi_unit.specs.declared.units.Parameter.{Parameter}
use Rattle.edi_unit.specs.declared.units.Parameter.TheVariants as slot
use Rattle.edi_unit.specs.declared.units.BlockKind.{BlockKind}
use Rattle.edi_unit.specs.declared.units.BlockKind.TheVariants as kind
use Rattle.edi_unit.specs.Types.{Shape, array_of, record_of, set_of, int, char, bool, enumeration, shape_at, int_type, char_type, bool_type, field_type}
use Rattle.edi_unit.specs.Types.{is_elementary, is_ordinal_of, is_set_shape, greatest_size}
use Rattle.edi_unit.specs.TypeTables.{part_types, IsTypeTable}
use Rattle.edi_unit.specs.Tree.{Expression, constant, load, not_of, sign_of, chain, make, convert, apply_of, Expressions, no_expression, expression_then}
use Rattle.edi_unit.specs.Tree.{link, Links, no_link, link_then, Place, place, Part, field, index, Parts, no_part, part_then, by_value, by_variable}
use Rattle.edi_unit.specs.Tree.{by_procedure, Arguments, no_argument, argument_then, Act, skip, assign, call, halt, if_act, while_act, when_act, cobegin}
use Rattle.edi_unit.specs.Tree.{Acts, no_act, act_then, Clause, clause, Clauses, no_clause, clause_then, Block, ProgramUnit}
use Rattle.edi_unit.specs.Need.{block_at, outer, slot_at, slot_type, slots, part_type, operator_type, callee_result, place_type, expression_type, need}
use Rattle.edi_unit.specs.Headings.{Formals, Heading, heading, heading_formals, heading_result, no_formal, procedure_then, value_then, variable_then}

-- ---- types

-- an enumeration has at least one constant, and at most as many as `int` has ordinals from 0; an array's bounds are
-- ordinals of its index type
abbrev pub ShapeFits : List Shape → Shape → Type 0
ShapeFits types (enumeration n) = (0 < n) × (n ≤ 32768)
ShapeFits types (array_of i lo hi e) = IsTrue (is_ordinal_of (shape_at types i) lo) × IsTrue (is_ordinal_of (shape_at types i) hi)
ShapeFits types _ = Unit {0}

-- each type of a table is one that a text can declare
abbrev pub ShapesFit : List Shape → Type 0
ShapesFit types = (t : ℕ) → t < length types → ShapeFits types (shape_at types t)

-- ---- headings

-- the parameters as a heading, where a procedure parameter has the heading of its variable; they are numbered from n
abbrev pub formals_from : (ℕ → Heading) → ℕ → List Parameter → Formals
formals_from headings n [] = no_formal
formals_from headings n (slot.Value t ∷ ps) = value_then t (formals_from headings (suc n) ps)
formals_from headings n (slot.Var t ∷ ps) = variable_then t (formals_from headings (suc n) ps)
formals_from headings n (slot.Formal r ∷ ps) = procedure_then (headings n) (formals_from headings (suc n) ps)

-- the number of a block's first parameter: a function variable stands before it
abbrev pub first_parameter : Option ℕ → ℕ
first_parameter None = 0
first_parameter (Some t) = 1

-- the heading of a block; a procedure parameter has the heading that is given for its block and variable
abbrev pub block_heading : (ℕ → ℕ → Heading) → List Block → ℕ → Heading
block_heading headings blocks n =
    heading (formals_from (headings n) (first_parameter (block_at blocks n).result) (block_at blocks n).parameters) (block_at blocks n).result

-- the heading of what is called or passed on in a block
abbrev pub callee_heading : (ℕ → ℕ → Heading) → List Block → ℕ → Callee → Heading
callee_heading headings blocks b (callee.Block levels n) = block_heading headings blocks n
callee_heading headings blocks b (callee.Formal levels v) = headings (outer blocks b levels) v

-- ---- variables and callees

-- a value or a `var` parameter: a variable that an expression can read and an assignment can write
abbrev pub is_variable : Option Parameter → Bool
is_variable None = false
is_variable (Some (slot.Value t)) = true
is_variable (Some (slot.Var t)) = true
is_variable (Some (slot.Formal r)) = false

abbrev pub is_procedure : Option Parameter → Bool
is_procedure None = false
is_procedure (Some (slot.Value t)) = false
is_procedure (Some (slot.Var t)) = false
is_procedure (Some (slot.Formal r)) = true

-- blocks are nested no deeper than 64 levels, so no name is further out
abbrev pub greatest_levels : ℕ
greatest_levels = 64

-- the block is called by its name: it is no branch
abbrev pub is_called : BlockKind → Bool
is_called kind.Program = true
is_called kind.Procedure = true
is_called kind.Function = true
is_called kind.Branch = false

-- a called block is there, is no branch, and stands in the block that is so many steps out; a called parameter is a
-- procedure parameter of the block that is so many steps out
abbrev pub CalleeFits : List Block → ℕ → Callee → Type 0
CalleeFits blocks b (callee.Block levels n) =
    (levels ≤ greatest_levels)
    × (n < length blocks)
    × IsTrue (is_called (block_at blocks n).kind)
    × (outer blocks b levels ≡ (block_at blocks n).up)
CalleeFits blocks b (callee.Formal levels v) = (levels ≤ greatest_levels) × IsTrue (is_procedure (slot_at blocks b levels v))

-- ---- operators

-- the operands of an operator have these types: `=` and `<>` compare two values of one type, the orders elementary ones;
-- `in` asks for a set of the left type; `+`, `-` and `*` take two of `int` or of one set type
abbrev pub OperatorFits : List Shape → Operator → ℕ → ℕ → Type 0
OperatorFits types op.Equal s t = s ≡ t
OperatorFits types op.NotEqual s t = s ≡ t
OperatorFits types op.Less s t = (s ≡ t) × IsTrue (is_elementary types s)
OperatorFits types op.LessOrEqual s t = (s ≡ t) × IsTrue (is_elementary types s)
OperatorFits types op.Greater s t = (s ≡ t) × IsTrue (is_elementary types s)
OperatorFits types op.GreaterOrEqual s t = (s ≡ t) × IsTrue (is_elementary types s)
OperatorFits types op.In s t = shape_at types t ≡ set_of s
OperatorFits types op.Plus s t = (s ≡ t) × IsTrue ((s == int_type) || is_set_shape (shape_at types s))
OperatorFits types op.Minus s t = (s ≡ t) × IsTrue ((s == int_type) || is_set_shape (shape_at types s))
OperatorFits types op.Times s t = (s ≡ t) × IsTrue ((s == int_type) || is_set_shape (shape_at types s))
OperatorFits types op.Div s t = (s ≡ int_type) × (t ≡ int_type)
OperatorFits types op.Mod s t = (s ≡ int_type) × (t ≡ int_type)
OperatorFits types op.And s t = (s ≡ bool_type) × (t ≡ bool_type)
OperatorFits types op.Or s t = (s ≡ bool_type) × (t ≡ bool_type)

abbrev pub HasLink : Links → Type 0
HasLink no_link = ⊥
HasLink (link_then l ls) = Unit {0}

-- an array with this index type
abbrev pub IsIndexedBy : Shape → ℕ → Type 0
IsIndexedBy (array_of i lo hi e) t = t ≡ i
IsIndexedBy _ t = ⊥

-- ---- statements and expressions of one block, with these types, blocks and headings of procedure parameters
module _ (types : List Shape) (blocks : List Block) (headings : ℕ → ℕ → Heading) (b : ℕ) where
  -- the types of the expressions are these, in this order
  abbrev pub HaveTypes : Expressions → List ℕ → Type 0
  HaveTypes no_expression [] = Unit {0}
  HaveTypes no_expression (t ∷ ts) = ⊥
  HaveTypes (expression_then e es) [] = ⊥
  HaveTypes (expression_then e es) (t ∷ ts) = (expression_type types blocks b e ≡ t) × HaveTypes es ts

  -- each of the expressions has this type
  abbrev pub AllHaveType : ℕ → Expressions → Type 0
  AllHaveType t no_expression = Unit {0}
  AllHaveType t (expression_then e es) = (expression_type types blocks b e ≡ t) × AllHaveType t es

  -- a record takes one expression for each field, an array one for each element, and a set any number of its base type
  abbrev pub MakesValue : Shape → Expressions → Type 0
  MakesValue (record_of fs) es = HaveTypes es fs
  MakesValue (array_of i lo hi e) es = HaveTypes es (part_types (array_of i lo hi e))
  MakesValue (set_of t) es = AllHaveType t es
  MakesValue int es = ⊥
  MakesValue char es = ⊥
  MakesValue bool es = ⊥
  MakesValue (enumeration n) es = ⊥

  abbrev mutual
    pub ExpressionFits : Expression → Type 0
    ExpressionFits (constant t n) = (t < length types) × IsTrue (is_ordinal_of (shape_at types t) n)
    ExpressionFits (load p) = PlaceFits p
    ExpressionFits (not_of e) = (expression_type types blocks b e ≡ bool_type) × ExpressionFits e
    ExpressionFits (sign_of e line) = (expression_type types blocks b e ≡ int_type) × ExpressionFits e
    ExpressionFits (chain e ls) = HasLink ls × ExpressionFits e × LinksFit (expression_type types blocks b e) ls
    ExpressionFits (make t es line) = (t < length types) × MakesValue (shape_at types t) es × ExpressionsFit es
    ExpressionFits (convert t e line) =
        (t < length types)
        × IsTrue (is_elementary types t)
        × IsTrue (is_elementary types (expression_type types blocks b e))
        × ExpressionFits e
    ExpressionFits (apply_of c xs line) =
        CalleeFits blocks b c × IsSome (callee_result blocks b c) × ArgumentsFit xs (heading_formals (callee_heading headings blocks b c))

    pub ExpressionsFit : Expressions → Type 0
    ExpressionsFit no_expression = Unit {0}
    ExpressionsFit (expression_then e es) = ExpressionFits e × ExpressionsFit es

    -- behind a left operand of this type
    pub LinksFit : ℕ → Links → Type 0
    LinksFit t no_link = Unit {0}
    LinksFit t (link_then (link o e line) ls) =
        OperatorFits types o t (expression_type types blocks b e) × ExpressionFits e × LinksFit (operator_type o t) ls

    -- the variable is there, and each step leads to a part
    pub PlaceFits : Place → Type 0
    PlaceFits (place levels v ps) =
        (levels ≤ greatest_levels)
        × IsTrue (is_variable (slot_at blocks b levels v))
        × PartsFit (slot_type (slot_at blocks b levels v)) ps

    -- a record has the field; an array has an index of this type
    pub PartFits : ℕ → Part → Type 0
    PartFits t (field n) = IsSome (field_type types t n)
    PartFits t (index e line) = IsIndexedBy (shape_at types t) (expression_type types blocks b e) × ExpressionFits e

    pub PartsFit : ℕ → Parts → Type 0
    PartsFit t no_part = Unit {0}
    PartsFit t (part_then p ps) = PartFits t p × PartsFit (part_type types t p) ps

    -- the arguments are as many as a heading has parameters, each of its parameter's kind and type, and a procedure that
    -- is passed on has the heading that its parameter has
    pub ArgumentsFit : Arguments → Formals → Type 0
    ArgumentsFit no_argument no_formal = Unit {0}
    ArgumentsFit (argument_then (by_value e) xs) (value_then t fs) =
        (expression_type types blocks b e ≡ t) × ExpressionFits e × ArgumentsFit xs fs
    ArgumentsFit (argument_then (by_variable p) xs) (variable_then t fs) =
        (place_type types blocks b p ≡ t) × PlaceFits p × ArgumentsFit xs fs
    ArgumentsFit (argument_then (by_procedure c) xs) (procedure_then h fs) =
        (callee_heading headings blocks b c ≡ h) × CalleeFits blocks b c × ArgumentsFit xs fs
    ArgumentsFit _ _ = ⊥

  -- the block of a branch stands in this block
  abbrev pub BranchFits : ℕ → Type 0
  BranchFits n = (n < length blocks) × ((block_at blocks n).kind ≡ kind.Branch) × ((block_at blocks n).up ≡ b)

  abbrev mutual
    pub ActFits : Act → Type 0
    ActFits skip = Unit {0}
    ActFits (assign p e) =
        (place_type types blocks b p ≡ expression_type types blocks b e) × PlaceFits p × ExpressionFits e
    ActFits (call c xs line) =
        CalleeFits blocks b c × (callee_result blocks b c ≡ None) × ArgumentsFit xs (heading_formals (callee_heading headings blocks b c))
    ActFits (halt line) = Unit {0}
    ActFits (if_act cs) = ClausesFit cs
    ActFits (while_act cs) = ClausesFit cs
    ActFits (when_act cs line) = ClausesFit cs
    ActFits (cobegin bs line) = (0 < length bs) × (length bs < 2 ^ 16) × All BranchFits bs

    pub ActsFit : Acts → Type 0
    ActsFit no_act = Unit {0}
    ActsFit (act_then a s) = ActFits a × ActsFit s

    -- a condition is of type `bool`
    pub ClauseFits : Clause → Type 0
    ClauseFits (clause e s) = (expression_type types blocks b e ≡ bool_type) × ExpressionFits e × ActsFit s

    pub ClausesFit : Clauses → Type 0
    ClausesFit no_clause = Unit {0}
    ClausesFit (clause_then c cs) = ClauseFits c × ClausesFit cs

-- ---- blocks

-- the type of a variable is in the table
abbrev pub SlotIsKnown : List Shape → Parameter → Type 0
SlotIsKnown types (slot.Value t) = t < length types
SlotIsKnown types (slot.Var t) = t < length types
SlotIsKnown types (slot.Formal None) = Unit {0}
SlotIsKnown types (slot.Formal (Some t)) = t < length types

-- the result of a procedure parameter is that of its heading
abbrev pub ResultAgrees : Heading → Parameter → Type 0
ResultAgrees h (slot.Value t) = Unit {0}
ResultAgrees h (slot.Var t) = Unit {0}
ResultAgrees h (slot.Formal r) = heading_result h ≡ r

abbrev pub ResultsAgree : (ℕ → Heading) → ℕ → List Parameter → Type 0
ResultsAgree headings n [] = Unit {0}
ResultsAgree headings n (p ∷ ps) = ResultAgrees (headings n) p × ResultsAgree headings (suc n) ps

-- block 0 alone is the program; a function alone has a result; a branch has no variables of its own
abbrev pub KindFits : BlockKind → ℕ → Block → Type 0
KindFits kind.Program n block = (n ≡ 0) × (block.result ≡ None)
KindFits kind.Procedure n block = (0 < n) × (block.result ≡ None)
KindFits kind.Function n block = (0 < n) × IsSome block.result
KindFits kind.Branch n block = (0 < n) × (slots block ≡ [])

-- the block of this number in a unit
pub record BlockFits (types : List Shape) (blocks : List Block) (headings : ℕ → ℕ → Heading) (n : ℕ) : Type 0 where
  pub fits_kind : KindFits (block_at blocks n).kind n (block_at blocks n)
  -- the block round the program is the program, and that round another block has a lower number
  pub outermost : n ≡ 0 → (block_at blocks n).up ≡ 0
  pub inner : 0 < n → (block_at blocks n).up < n
  -- the types of its variables are known, and its procedure parameters have the results of their headings
  pub known : All (SlotIsKnown types) (slots (block_at blocks n))
  pub results : ResultsAgree (headings n) (first_parameter (block_at blocks n).result) (block_at blocks n).parameters
  pub statements : ActsFit types blocks headings n (block_at blocks n).body
  -- what it says that it needs is its need, at most 65,535 words
  pub needs : (block_at blocks n).need ≡ need types blocks n
  pub small : (block_at blocks n).need ≤ greatest_size

-- ---- system calls

-- a title is passed as an array of 12 characters
abbrev pub IsTitle : List Shape → ℕ → Type 0
IsTitle types t = shape_at types t ≡ array_of int_type (pos 1) (pos 12) char_type

-- the parameters of the system call of a number
pub data IsCall (types : List Shape) (n : ℕ) (formals : Formals) : Type 0 where
  accept : n ≡ 1 → formals ≡ variable_then char_type no_formal → IsCall types n formals
  display : n ≡ 2 → formals ≡ value_then char_type no_formal → IsCall types n formals
  print : n ≡ 3 → formals ≡ value_then char_type no_formal → IsCall types n formals
  find : (t : ℕ) → n ≡ 4 → IsTitle types t → formals ≡ value_then t (variable_then bool_type no_formal) → IsCall types n formals
  more : n ≡ 5 → formals ≡ variable_then bool_type no_formal → IsCall types n formals
  read : n ≡ 6 → formals ≡ variable_then char_type no_formal → IsCall types n formals
  fresh : n ≡ 7 → formals ≡ no_formal → IsCall types n formals
  write : n ≡ 8 → formals ≡ value_then char_type no_formal → IsCall types n formals
  close : (t : ℕ) → n ≡ 9 → IsTitle types t → formals ≡ value_then t (variable_then bool_type no_formal) → IsCall types n formals
  remove : (t : ℕ) → n ≡ 10 → IsTitle types t → formals ≡ value_then t (variable_then bool_type no_formal) → IsCall types n formals

-- the program's parameters are procedures without result, each with the parameters of its system call, and no two are
-- the same call
pub record CallsFit (unit : ProgramUnit) (headings : ℕ → ℕ → Heading) : Type 0 where
  pub procedures : All (λ p. p ≡ slot.Formal None) (block_at unit.blocks 0).parameters
  pub as_many : length (block_at unit.blocks 0).parameters ≡ length unit.calls
  pub each : (i : ℕ) → i < length unit.calls → IsCall unit.types (slice_index unit.calls i) (heading_formals (headings 0 i))
  pub distinct : AllPairs (λ m n. m ≢ n) unit.calls

-- a unit fits, where each procedure parameter has a heading by its block and variable
pub record Fits (unit : ProgramUnit) : Type 0 where
  pub headings : ℕ → ℕ → Heading
  pub table : IsTypeTable unit.types
  pub shapes : ShapesFit unit.types
  pub first : unit.program ≡ 0
  pub some : 0 < length unit.blocks
  pub fits_blocks : (n : ℕ) → n < length unit.blocks → BlockFits unit.types unit.blocks headings n
  pub fits_calls : CallsFit unit headings
