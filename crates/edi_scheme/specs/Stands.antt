-- Words of contracts. Where the code of each construct stands: from an address to the one behind it. What stands at an address is told by any
-- function, as in the definition of the machine; `entry` tells where each block begins.
use Rattle.std.specs.Prelude.{◌≡◌, ℕ, ◌<◌, Bool, true, false, List, [], ◌∷◌, length, map, Option, Some, None}
use Rattle.edi_unit.specs.Types.{Shape, shape_at, is_set_shape, size}
use Rattle.edi_unit.specs.Tree.{Expression, constant, load, not_of, sign_of, chain, make, convert, apply_of, Expressions, no_expression, expression_then}
use Rattle.edi_unit.specs.Tree.{link, Links, no_link, link_then, Place, place, Part, field, index, Parts, no_part, part_then, Argument, by_value}
use Rattle.edi_unit.specs.Tree.{by_variable, by_procedure, Arguments, no_argument, argument_then, Act, skip, assign, call, halt, if_act, while_act, when_act}
use Rattle.edi_unit.specs.Tree.{cobegin, Acts, no_act, act_then, Clause, clause, Clauses, no_clause, clause_then, Block}
use Rattle.edi_unit.specs.Need.{block_at, slot_at, slot_type, part_type, operator_type, place_type, expression_type}
use Rattle.edi_meaning.specs.Step.{is_quiet}
use Rattle.edi_target.specs.Op as instruction
use Rattle.edi_target.specs.Op.{Instruction, word_of_integer}
use Rattle.edi_scheme.specs.Pieces.{Code, field_offset, is_branch, entry_of, return_of, variable_code, element_code, operation, decision, check_code}
use Rattle.edi_scheme.specs.Pieces.{constant_words, ClauseKind, once, repeated, released, close_code, again_code}
use Rattle.edi_scheme.specs.Code.{slot_offset, call_code, procedure_code}

-- one of two, as a test says
abbrev pub Either : Bool → Type 0 → Type 0 → Type 0
Either true A B = A
Either false A B = B

module _ (fetched : ℕ → Option (Instruction × ℕ)) where
  -- an instruction stands at an address, and `next` is the address behind it
  abbrev pub InstructionStands : (at : ℕ) → Instruction → (next : ℕ) → Type 0
  InstructionStands at i next = fetched at ≡ Some (i, next)

  -- instructions stand one behind another
  abbrev pub AreInstructions : Code → ℕ → ℕ → Type 0
  AreInstructions [] at to = at ≡ to
  AreInstructions (i ∷ []) at to = InstructionStands at i to
  AreInstructions (i ∷ j ∷ code) at to = (next : ℕ) × InstructionStands at i next × AreInstructions (j ∷ code) next to

  -- constants in a row, or parts one behind another
  abbrev pub IsRow : Option (List ℕ) → (at to : ℕ) → Type 0 → Type 0
  IsRow (Some ws) at to parts = InstructionStands at (instruction.text ws) to
  IsRow None at to parts = parts

  module _ (types : List Shape) (blocks : List Block) (entry : ℕ → ℕ) where
    module _ (b : ℕ) where
      abbrev mutual
        pub IsExpression : Expression → ℕ → ℕ → Type 0
        IsExpression (constant t n) at to = InstructionStands at (instruction.const (word_of_integer n)) to
        IsExpression (load p) at to =
            (a : ℕ) × IsPlace p at a × InstructionStands a (instruction.load (size types (place_type types blocks b p))) to
        IsExpression (not_of e) at to = (a : ℕ) × IsExpression e at a × InstructionStands a instruction.not_ to
        IsExpression (sign_of e line) at to = (a : ℕ) × IsExpression e at a × InstructionStands a (instruction.neg line) to
        IsExpression (chain e ls) at to =
            (a : ℕ) × IsExpression e at a × AreLinks (expression_type types blocks b e) ls a to
        IsExpression (make t es line) at to =
            Either (is_set_shape (shape_at types t))
            ((a : ℕ) × InstructionStands at (instruction.zeros 8) a × AreMembers line es a to)
            (IsRow (constant_words es) at to (AreExpressions es at to))
        IsExpression (convert t e line) at to =
            (a : ℕ) × IsExpression e at a × AreInstructions (check_code (shape_at types t) line) a to
        IsExpression (apply_of c xs line) at to =
            (a : ℕ) × AreArguments xs at a × AreInstructions (call_code types blocks entry b c line) a to

        pub AreExpressions : Expressions → ℕ → ℕ → Type 0
        AreExpressions no_expression at to = at ≡ to
        AreExpressions (expression_then e es) at to = (a : ℕ) × IsExpression e at a × AreExpressions es a to

        -- each joined to a set
        pub AreMembers : (line : ℕ) → Expressions → ℕ → ℕ → Type 0
        AreMembers line no_expression at to = at ≡ to
        AreMembers line (expression_then e es) at to =
            (a c : ℕ) × IsExpression e at a × InstructionStands a (instruction.member line) c × AreMembers line es c to

        -- behind a left operand of this type
        pub AreLinks : ℕ → Links → ℕ → ℕ → Type 0
        AreLinks t no_link at to = at ≡ to
        AreLinks t (link_then (link o e line) ls) at to =
            (right end behind : ℕ)
            × AreInstructions (decision o behind) at right
            × IsExpression e right end
            × AreInstructions (operation types t o line) end behind
            × AreLinks (operator_type o t) ls behind to

        pub IsPlace : Place → ℕ → ℕ → Type 0
        IsPlace (place levels v ps) at to =
            (a : ℕ)
            × AreInstructions (variable_code levels (slot_offset types blocks entry b levels v) (slot_at blocks b levels v)) at a
            × AreParts (slot_type (slot_at blocks b levels v)) ps a to

        -- of a variable of this type
        pub AreParts : ℕ → Parts → ℕ → ℕ → Type 0
        AreParts t no_part at to = at ≡ to
        AreParts t (part_then p ps) at to = (a : ℕ) × IsPart t p at a × AreParts (part_type types t p) ps a to

        pub IsPart : ℕ → Part → ℕ → ℕ → Type 0
        IsPart t (field n) at to = InstructionStands at (instruction.field (field_offset types t n)) to
        IsPart t (index e line) at to =
            (a : ℕ) × IsExpression e at a × AreInstructions (element_code types (shape_at types t) line) a to

        pub IsArgument : Argument → ℕ → ℕ → Type 0
        IsArgument (by_value e) at to = IsExpression e at to
        IsArgument (by_variable p) at to = IsPlace p at to
        IsArgument (by_procedure c) at to = AreInstructions (procedure_code types blocks entry b c) at to

        pub AreArguments : Arguments → ℕ → ℕ → Type 0
        AreArguments no_argument at to = at ≡ to
        AreArguments (argument_then x xs) at to = (a : ℕ) × IsArgument x at a × AreArguments xs a to

      abbrev mutual
        pub IsAct : Act → ℕ → ℕ → Type 0
        IsAct skip at to = at ≡ to
        IsAct (assign p e) at to =
            (a c : ℕ)
            × IsPlace p at a
            × IsExpression e a c
            × InstructionStands c (instruction.store (size types (place_type types blocks b p))) to
        IsAct (call c xs line) at to =
            (a : ℕ) × AreArguments xs at a × AreInstructions (call_code types blocks entry b c line) a to
        IsAct (halt line) at to = InstructionStands at (instruction.halt line) to
        IsAct (if_act cs) at to = AreClauses once to cs at to
        IsAct (while_act cs) at to = AreClauses repeated at cs at to
        IsAct (when_act cs line) at to =
            (top again : ℕ)
            × InstructionStands at (instruction.when line) top
            × AreClauses released to cs top again
            × AreInstructions (again_code (is_quiet cs) top) again to
        IsAct (cobegin bs line) at to =
            InstructionStands at (instruction.cobegin line (map (λ n. record { need = (block_at blocks n).need; address = entry n }) bs)) to

        pub AreActs : Acts → ℕ → ℕ → Type 0
        AreActs no_act at to = at ≡ to
        AreActs (act_then a s) at to = (c : ℕ) × IsAct a at c × AreActs s c to

        -- a condition, where it is false the clause at `next`, and the list up to its end
        pub IsClause : Clause → (next at end : ℕ) → Type 0
        IsClause (clause e s) next at end =
            (test list : ℕ)
            × IsExpression e at test
            × InstructionStands test (instruction.false_ next) list
            × AreActs s list end

        pub AreClauses : ClauseKind → (target : ℕ) → Clauses → ℕ → ℕ → Type 0
        AreClauses kind target no_clause at to = at ≡ to
        AreClauses kind target (clause_then c cs) at to =
            (end next : ℕ)
            × IsClause c next at end
            × AreInstructions (close_code kind target cs) end next
            × AreClauses kind target cs next to

    -- a procedure, a function or the program
    pub record IsProcedure (n : ℕ) : Type 0 where
      pub body : ℕ
      pub end : ℕ
      pub after : ℕ
      pub begins : InstructionStands (entry n) (entry_of types (block_at blocks n)) body
      pub list : AreActs n (block_at blocks n).body body end
      pub returns : InstructionStands end (return_of types (block_at blocks n)) after

    -- a branch
    pub record IsBranch (n : ℕ) : Type 0 where
      pub end : ℕ
      pub after : ℕ
      pub list : AreActs n (block_at blocks n).body (entry n) end
      pub exits : InstructionStands end instruction.exit after

    abbrev pub IsBlock : ℕ → Type 0
    IsBlock n = Either (is_branch (block_at blocks n).kind) (IsBranch n) (IsProcedure n)

    abbrev pub AreBlocks : Type 0
    AreBlocks = (n : ℕ) → n < length blocks → IsBlock n
