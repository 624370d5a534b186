-- Definition. The resolved tree as plain data: what a program is once each of its names has been replaced by the number of a type,
-- a block or a variable. A line is that of the symbol at which a failure of the construct is told.
-- `Expression` is the tree that the code calls `Value`; a value of the definitions is one at run time.
use Rattle.std.specs.Prelude.{ℕ, ℤ, List, Option}
use Rattle.edi_unit.specs.declared.expressions.Operator.{Operator}
use Rattle.edi_unit.specs.declared.expressions.Callee.{Callee}
use Rattle.edi_unit.specs.declared.units.BlockKind.{BlockKind}
use Rattle.edi_unit.specs.declared.units.Parameter.{Parameter}
use Rattle.edi_unit.specs.Types.{Shape}

mutual
  pub data Expression : Type 0 where
    -- the value of this type with this ordinal
    constant : (of : ℕ) → (ordinal : ℤ) → Expression
    -- the value of a variable
    load : Place → Expression
    -- `not e`
    not_of : Expression → Expression
    -- a leading `-`
    sign_of : Expression → (line : ℕ) → Expression
    -- a first operand, and operators with their right operands, which apply from the left
    chain : Expression → Links → Expression
    -- a record, an array or a set of this type, from its fields, elements or members
    make : (of : ℕ) → Expressions → (line : ℕ) → Expression
    -- the value of this elementary type that has the ordinal of the expression
    convert : (of : ℕ) → Expression → (line : ℕ) → Expression
    -- the result of a function
    apply_of : Callee → Arguments → (line : ℕ) → Expression

  pub data Expressions : Type 0 where
    no_expression : Expressions
    expression_then : Expression → Expressions → Expressions

  pub data Link : Type 0 where
    -- an operator with its right operand
    link : Operator → (right : Expression) → (line : ℕ) → Link

  pub data Links : Type 0 where
    no_link : Links
    link_then : Link → Links → Links

  pub data Place : Type 0 where
    -- a variable of the block that is so many levels out, and the steps from it to a part
    place : (levels : ℕ) → (variable : ℕ) → Parts → Place

  pub data Part : Type 0 where
    -- the field of this number, counted from 0
    field : (number : ℕ) → Part
    -- the element at this index
    index : Expression → (line : ℕ) → Part

  pub data Parts : Type 0 where
    no_part : Parts
    part_then : Part → Parts → Parts

  pub data Argument : Type 0 where
    -- for a value parameter, a `var` parameter, and a procedure parameter
    by_value : Expression → Argument
    by_variable : Place → Argument
    by_procedure : Callee → Argument

  pub data Arguments : Type 0 where
    no_argument : Arguments
    argument_then : Argument → Arguments → Arguments

mutual
  pub data Act : Type 0 where
    skip : Act
    -- `v := e`
    assign : Place → Expression → Act
    -- a call of a procedure
    call : Callee → Arguments → (line : ℕ) → Act
    halt : (line : ℕ) → Act
    -- `if`
    if_act : Clauses → Act
    -- `while`
    while_act : Clauses → Act
    -- `when`
    when_act : Clauses → (line : ℕ) → Act
    -- `cobegin`, with the blocks of its branches
    cobegin : (branches : List ℕ) → (line : ℕ) → Act

  pub data Acts : Type 0 where
    no_act : Acts
    act_then : Act → Acts → Acts

  pub data Clause : Type 0 where
    -- a condition and the statements behind its `do`
    clause : Expression → Acts → Clause

  pub data Clauses : Type 0 where
    no_clause : Clauses
    clause_then : Clause → Clauses → Clauses

-- a procedure, a function, the program, or a branch of a `cobegin`
pub record Block : Type 0 where
  pub kind : BlockKind
  -- the block round this one
  pub up : ℕ
  -- the type of a function's result
  pub result : Option ℕ
  pub parameters : List Parameter
  -- the types of the declared variables
  pub variables : List ℕ
  -- the words of memory that an instance needs
  pub need : ℕ
  -- the statements of the block's modules and then its own
  pub body : Acts

-- a program: its types and blocks by number, the number of its own block, and the system calls that its parameters are
pub record ProgramUnit : Type 0 where
  pub types : List Shape
  pub blocks : List Block
  pub program : ℕ
  pub calls : List ℕ
