-- Words of contracts. What makes the instructions of a program ones that can be written: each operand is a word, and what has to be there is
-- there. Each part of it holds of a program whose static rules were checked.
use Rattle.std.specs.Prelude.{◌≡◌, ℕ, ◌+◌, ◌<◌, ◌≤◌, ◌^◌, false, List, length, sum_by, slice_index_or, All, Option, Some, None}
use Rattle.edi_unit.specs.declared.expressions.Operator.{Operator}
use Rattle.edi_unit.specs.declared.expressions.Operator.TheVariants as op
use Rattle.edi_unit.specs.declared.expressions.Callee.{Callee}
use Rattle.edi_unit.specs.declared.expressions.Callee.TheVariants as callee
use Rattle.edi_unit.specs.Types.{Shape, shape_at, is_set_shape, size, greatest_size}
use Rattle.edi_unit.specs.Tree.{Expression, constant, load, not_of, sign_of, chain, make, convert, apply_of, Expressions, no_expression, expression_then}
use Rattle.edi_unit.specs.Tree.{link, Links, no_link, link_then, Place, place, Part, field, index, Parts, no_part, part_then, Argument, by_value}
use Rattle.edi_unit.specs.Tree.{by_variable, by_procedure, Arguments, no_argument, argument_then, Act, skip, assign, call, halt, if_act, while_act, when_act}
use Rattle.edi_unit.specs.Tree.{cobegin, Acts, no_act, act_then, Clause, clause, Clauses, no_clause, clause_then, Block, ProgramUnit}
use Rattle.edi_unit.specs.Need.{block_at, operator_type, place_type, expression_type, link_words, slot_words, variable_words}
use Rattle.edi_unit.specs.Fits.{greatest_levels, ShapesFit}
use Rattle.edi_scheme.specs.Pieces.{constant_words, result_words}
use Rattle.edi_scheme.specs.Code.{entry}

-- a number of things of which there is at least one, and that a word can hold
abbrev pub IsCount : ℕ → Type 0
IsCount n = (1 ≤ n) × (n < 2 ^ 16)

-- constants that are written as one text: a record has a field, an array an element, and neither has more words than a
-- type may have
abbrev pub RowIsWritable : Option (List ℕ) → Type 0
RowIsWritable None = Unit {0}
RowIsWritable (Some words) = IsCount (length words)

-- `=` and `<>` compare at least one word: each type has a word
abbrev pub OperatorIsWritable : List Shape → Operator → ℕ → Type 0
OperatorIsWritable types op.Equal t = 1 ≤ size types t
OperatorIsWritable types op.NotEqual t = 1 ≤ size types t
OperatorIsWritable types _ t = Unit {0}

-- blocks are nested no deeper than 64 levels, and a block that is called is there
abbrev pub CalleeIsWritable : List Block → Callee → Type 0
CalleeIsWritable blocks (callee.Block levels n) = (levels ≤ greatest_levels) × (n < length blocks)
CalleeIsWritable blocks (callee.Formal levels v) = levels ≤ greatest_levels

module _ (types : List Shape) (blocks : List Block) (b : ℕ) where
  abbrev mutual
    pub ExpressionIsWritable : Expression → Type 0
    ExpressionIsWritable (constant t n) = Unit {0}
    ExpressionIsWritable (load p) = PlaceIsWritable p × (1 ≤ size types (place_type types blocks b p))
    ExpressionIsWritable (not_of e) = ExpressionIsWritable e
    ExpressionIsWritable (sign_of e line) = ExpressionIsWritable e
    ExpressionIsWritable (chain e ls) =
        ExpressionIsWritable e × LinksAreWritable (expression_type types blocks b e) ls
    ExpressionIsWritable (make t es line) =
        (is_set_shape (shape_at types t) ≡ false → RowIsWritable (constant_words es)) × ExpressionsAreWritable es
    ExpressionIsWritable (convert t e line) = ExpressionIsWritable e
    ExpressionIsWritable (apply_of c xs line) = CalleeIsWritable blocks c × ArgumentsAreWritable xs

    pub ExpressionsAreWritable : Expressions → Type 0
    ExpressionsAreWritable no_expression = Unit {0}
    ExpressionsAreWritable (expression_then e es) = ExpressionIsWritable e × ExpressionsAreWritable es

    pub LinksAreWritable : ℕ → Links → Type 0
    LinksAreWritable t no_link = Unit {0}
    LinksAreWritable t (link_then (link o e line) ls) =
        OperatorIsWritable types o t × ExpressionIsWritable e × LinksAreWritable (operator_type o t) ls

    pub PlaceIsWritable : Place → Type 0
    PlaceIsWritable (place levels v ps) = (levels ≤ greatest_levels) × PartsAreWritable ps

    pub PartIsWritable : Part → Type 0
    PartIsWritable (field n) = Unit {0}
    PartIsWritable (index e line) = ExpressionIsWritable e

    pub PartsAreWritable : Parts → Type 0
    PartsAreWritable no_part = Unit {0}
    PartsAreWritable (part_then p ps) = PartIsWritable p × PartsAreWritable ps

    pub ArgumentIsWritable : Argument → Type 0
    ArgumentIsWritable (by_value e) = ExpressionIsWritable e
    ArgumentIsWritable (by_variable p) = PlaceIsWritable p
    ArgumentIsWritable (by_procedure c) = CalleeIsWritable blocks c

    pub ArgumentsAreWritable : Arguments → Type 0
    ArgumentsAreWritable no_argument = Unit {0}
    ArgumentsAreWritable (argument_then x xs) = ArgumentIsWritable x × ArgumentsAreWritable xs

  abbrev mutual
    pub ActIsWritable : Act → Type 0
    ActIsWritable skip = Unit {0}
    ActIsWritable (assign p e) =
        PlaceIsWritable p × ExpressionIsWritable e × (1 ≤ size types (place_type types blocks b p))
    ActIsWritable (call c xs line) = CalleeIsWritable blocks c × ArgumentsAreWritable xs
    ActIsWritable (halt line) = Unit {0}
    ActIsWritable (if_act cs) = ClausesAreWritable cs
    ActIsWritable (while_act cs) = ClausesAreWritable cs
    ActIsWritable (when_act cs line) = ClausesAreWritable cs
    ActIsWritable (cobegin bs line) = IsCount (length bs) × All (λ n. n < length blocks) bs

    pub ActsAreWritable : Acts → Type 0
    ActsAreWritable no_act = Unit {0}
    ActsAreWritable (act_then a s) = ActIsWritable a × ActsAreWritable s

    pub ClauseIsWritable : Clause → Type 0
    ClauseIsWritable (clause e s) = ExpressionIsWritable e × ActsAreWritable s

    pub ClausesAreWritable : Clauses → Type 0
    ClausesAreWritable no_clause = Unit {0}
    ClausesAreWritable (clause_then c cs) = ClauseIsWritable c × ClausesAreWritable cs

-- the frame of the block of this number has room for its variables, and its need is that of a process
pub record FrameFits (types : List Shape) (blocks : List Block) (n : ℕ) : Type 0 where
  pub roomy : link_words + variable_words types (block_at blocks n) ≤ (block_at blocks n).need
  pub small : (block_at blocks n).need ≤ greatest_size

-- the same of one block, by its parts
pub record IsRoomy (types : List Shape) (block : Block) : Type 0 where
  pub sum : link_words + result_words types block.result + sum_by (slot_words types) block.parameters + sum_by (size types) block.variables ≤ block.need
  pub small : block.need ≤ greatest_size

-- the addresses where the blocks begin
pub record AreEntries (types : List Shape) (blocks : List Block) (entries : List ℕ) : Type 0 where
  pub all : length entries ≡ length blocks
  pub known : (n : ℕ) → n < length blocks → slice_index_or entries n 0 ≡ entry types blocks n

-- Blocks whose code can be written. Bounds of an enumeration are ordinals; needs are computed, and at most 65,535; and a text
-- is too short for a code of 2 ^ 32 words.
pub record AreWritable (types : List Shape) (blocks : List Block) : Type 0 where
  pub shapes : ShapesFit types
  pub frames : (n : ℕ) → n < length blocks → FrameFits types blocks n
  pub statements : (n : ℕ) → n < length blocks → ActsAreWritable types blocks n (block_at blocks n).body
  pub room : entry types blocks (length blocks) < 2 ^ 32

abbrev pub IsWritable : ProgramUnit → Type 0
IsWritable unit = AreWritable unit.types unit.blocks
