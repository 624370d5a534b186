-- Helper. Small programs for each construct. The text of each stands in its comment; HEAD is the line
-- `proc main(proc display(value: char))`, and `show e` is `display(char(e))`.
use Rattle.std.specs.Prelude.{ℕ, ℤ, pos, negsuc, List, [], ◌∷◌, Some, None}
use Rattle.edi_unit.specs.declared.expressions.Operator.{Operator}
use Rattle.edi_unit.specs.declared.expressions.Operator.TheVariants as op
use Rattle.edi_unit.specs.declared.expressions.Callee.TheVariants as callee
use Rattle.edi_unit.specs.declared.units.BlockKind.TheVariants as kind
use Rattle.edi_unit.specs.declared.units.Parameter.{Parameter}
use Rattle.edi_unit.specs.declared.units.Parameter.TheVariants as parameter
use Rattle.edi_unit.specs.Types.{Shape, record_of, array_of, set_of}
use Rattle.edi_unit.specs.Tree.{Expression, constant, load, not_of, sign_of, chain, make, convert, apply_of, Expressions, no_expression, expression_then}
use Rattle.edi_unit.specs.Tree.{Links, link, no_link, link_then, Place, place, Part, field, index, Parts, no_part, part_then, Argument, by_value}
use Rattle.edi_unit.specs.Tree.{by_variable, by_procedure, Arguments, no_argument, argument_then, Act, assign, call, halt, if_act, while_act, clause}
use Rattle.edi_unit.specs.Tree.{Clauses, no_clause, clause_then, Block, ProgramUnit}
use Rattle.edi_meaning.specs.Rows.{list_of, variable, value_of, number, true_value, two, one_clause, two_clauses, block_of, program_of, head}

-- ---- writing programs down

abbrev pub parts : List Part → Parts
parts [] = no_part
parts (p ∷ ps) = part_then p (parts ps)

abbrev pub part_of : ℕ → ℕ → List Part → Place
part_of levels v ps = place levels v (parts ps)

abbrev pub at : ℕ → Part
at n = index (number (pos n)) 1

abbrev pub expressions : List Expression → Expressions
expressions [] = no_expression
expressions (e ∷ es) = expression_then e (expressions es)

abbrev pub arguments : List Argument → Arguments
arguments [] = no_argument
arguments (x ∷ xs) = argument_then x (arguments xs)

-- operators with their right operands, on line 1
abbrev pub links : List (Operator × Expression) → Links
links [] = no_link
links (l ∷ ls) = link_then (link l.0 l.1 1) (links ls)

abbrev pub clauses : List (Expression × List Act) → Clauses
clauses [] = no_clause
clauses (c ∷ cs) = clause_then (clause c.0 (list_of c.1)) (clauses cs)

abbrev pub natural : ℕ → Expression
natural n = number (pos n)

-- a call of the procedure parameter that is this variable, and of a block
abbrev pub call_formal : ℕ → ℕ → List Argument → Act
call_formal levels v xs = call (callee.Formal levels v) (arguments xs) 1

abbrev pub call_block : ℕ → ℕ → List Argument → Act
call_block levels n xs = call (callee.Block levels n) (arguments xs) 1

abbrev pub function : ℕ → ℕ → List Argument → Expression
function levels n xs = apply_of (callee.Block levels n) (arguments xs) 1

-- display is variable 0 of the program
abbrev pub show : ℕ → Expression → Act
show levels e = call_formal levels 0 (by_value (convert 1 e 1) ∷ [])

abbrev pub show_if : ℕ → Expression → ℕ → Act
show_if levels e n = if_act (one_clause e (show levels (natural n) ∷ []))

-- HEAD, with types, variables, a body and further blocks
abbrev pub program_with : List Shape → List ℕ → List Act → List Block → ProgramUnit
program_with types variables body blocks = program_of types (2 ∷ []) (head variables 0 body ∷ blocks)

abbrev pub procedure : ℕ → List Parameter → List ℕ → List Act → Block
procedure up parameters variables body = block_of kind.Procedure up None parameters variables 0 body

abbrev pub function_of : ℕ → ℕ → List Parameter → List ℕ → List Act → Block
function_of up result parameters variables body = block_of kind.Function up (Some result) parameters variables 0 body

abbrev pub branch : ℕ → List Act → Block
branch up body = block_of kind.Branch up None [] [] 0 body

-- ---- operators

-- HEAD begin show ((7 - 2) * 3) div 2 mod 4; show -(-5);
--   if (1 <= 1) and (2 > 1) and (2 >= 2) and not (1 = 2) do show 4 end;
--   if (1 < 1) or (1 > 1) or (1 <> 2) do show 6 end; if (1 >= 2) or (2 <= 1) do show 7 else (3 < 4) do show 8 end end
abbrev pub program_of_operators : ProgramUnit
program_of_operators =
    program_with [] []
    (show 0 (chain (natural 7) (links ((op.Minus, natural 2) ∷ (op.Times, natural 3) ∷ (op.Div, natural 2) ∷ (op.Mod, natural 4) ∷ [])))
    ∷ show 0 (sign_of (number (negsuc 4)) 1)
    ∷ show_if 0 (chain (two (natural 1) op.LessOrEqual (natural 1) 1)
    (links ((op.And, two (natural 2) op.Greater (natural 1) 1) ∷ (op.And, two (natural 2) op.GreaterOrEqual (natural 2) 1)
    ∷ (op.And, not_of (two (natural 1) op.Equal (natural 2) 1)) ∷ []))) 4
    ∷ show_if 0 (chain (two (natural 1) op.Less (natural 1) 1)
    (links ((op.Or, two (natural 1) op.Greater (natural 1) 1) ∷ (op.Or, two (natural 1) op.NotEqual (natural 2) 1) ∷ []))) 6
    ∷ if_act (two_clauses (chain (two (natural 1) op.GreaterOrEqual (natural 2) 1) (links ((op.Or, two (natural 2) op.LessOrEqual (natural 1) 1) ∷ [])))
    (show 0 (natural 7) ∷ []) (two (natural 3) op.Less (natural 4) 1) (show 0 (natural 8) ∷ []))
    ∷ [])
    []

-- HEAD begin show e end
abbrev pub program_that_shows_value : List Shape → Expression → ProgramUnit
program_that_shows_value types e = program_with types [] (show 0 e ∷ []) []

-- HEAD var x: int begin x := 3; while x > 1 do show x; x := x - 1 else x = 1 do show 9; x := 0 end;
--   if x = 1 do show 1 else x = 2 do show 2 else x = 3 do show 3 end; show x end
abbrev pub program_with_clauses : ProgramUnit
program_with_clauses =
    program_with [] (0 ∷ [])
    (assign (variable 0 1) (natural 3)
    ∷ while_act (clauses ((
      two (value_of 0 1) op.Greater (natural 1) 1,
      show 0 (value_of 0 1)
          ∷ assign (variable 0 1) (two (value_of 0 1) op.Minus (natural 1) 1) ∷ [],
    )
    ∷ (two (value_of 0 1) op.Equal (natural 1) 1, show 0 (natural 9) ∷ assign (variable 0 1) (natural 0) ∷ []) ∷ []))
    ∷ if_act (clauses ((two (value_of 0 1) op.Equal (natural 1) 1, show 0 (natural 1) ∷ [])
    ∷ (two (value_of 0 1) op.Equal (natural 2) 1, show 0 (natural 2) ∷ []) ∷ (two (value_of 0 1) op.Equal (natural 3) 1, show 0 (natural 3) ∷ []) ∷ []))
    ∷ show 0 (value_of 0 1)
    ∷ [])
    []

-- HEAD begin if true do show 1; halt else true do show 2 end end, with `halt` on line 6
abbrev pub program_that_halts : ProgramUnit
program_that_halts =
    program_with [] [] (if_act (two_clauses true_value (show 0 (natural 1) ∷ halt 6 ∷ []) true_value (show 0 (natural 2) ∷ [])) ∷ []) []

-- ---- sets

-- set s (int)
-- HEAD var a, b: s; x: int begin x := 5; a := s(1, x); b := s(x, 9);
--   if 9 in a + b do show 1 end; if 1 in a - b do show 2 end; if 5 in a - b do show 3 end; if 5 in a * b do show 4 end;
--   if 1 in a * b do show 5 end; if a - a = s do show 6 end; if a <> b do show 7 end; if 200 in a do show 8 end;
--   b := a; if a = b do show 9 end; if a = b = true do show 10 end end
-- The last condition, which no text can have, is one chain: its left operand is a set at first, and then a truth value.
abbrev pub program_of_sets : ProgramUnit
program_of_sets =
    program_with (set_of 0 ∷ []) (3 ∷ 3 ∷ 0 ∷ [])
    (assign (variable 0 3) (natural 5)
    ∷ assign (variable 0 1) (make 3 (expressions (natural 1 ∷ value_of 0 3 ∷ [])) 1)
    ∷ assign (variable 0 2) (make 3 (expressions (value_of 0 3 ∷ natural 9 ∷ [])) 1)
    ∷ show_if 0 (two (natural 9) op.In (two (value_of 0 1) op.Plus (value_of 0 2) 1) 1) 1
    ∷ show_if 0 (two (natural 1) op.In (two (value_of 0 1) op.Minus (value_of 0 2) 1) 1) 2
    ∷ show_if 0 (two (natural 5) op.In (two (value_of 0 1) op.Minus (value_of 0 2) 1) 1) 3
    ∷ show_if 0 (two (natural 5) op.In (two (value_of 0 1) op.Times (value_of 0 2) 1) 1) 4
    ∷ show_if 0 (two (natural 1) op.In (two (value_of 0 1) op.Times (value_of 0 2) 1) 1) 5
    ∷ show_if 0 (two (two (value_of 0 1) op.Minus (value_of 0 1) 1) op.Equal (make 3 no_expression 1) 1) 6
    ∷ show_if 0 (two (value_of 0 1) op.NotEqual (value_of 0 2) 1) 7
    ∷ show_if 0 (two (natural 200) op.In (value_of 0 1) 1) 8
    ∷ assign (variable 0 2) (value_of 0 1)
    ∷ show_if 0 (two (value_of 0 1) op.Equal (value_of 0 2) 1) 9
    ∷ show_if 0 (chain (value_of 0 1) (links ((op.Equal, value_of 0 2) ∷ (op.Equal, true_value) ∷ []))) 10
    ∷ [])
    []

-- set s (int) HEAD var a: s begin show 1; a := s(3, n); show 2 end, with the constructor on line 8
abbrev pub program_with_member : ℤ → ProgramUnit
program_with_member n =
    program_with (set_of 0 ∷ []) (3 ∷ [])
    (show 0 (natural 1) ∷ assign (variable 0 1) (make 3 (expressions (natural 3 ∷ number n ∷ [])) 8) ∷ show 0 (natural 2) ∷ [])
    []

-- ---- records and arrays

-- record pair (a, b: int); array row [1:2] (pair); record wide (p: pair; c: int)
-- HEAD var x: int; r: row; p, q: pair; w: wide
-- begin x := 4; p := pair(x, 6); p := pair(p.b, p.a); r[x - 3] := pair(-1, 2); r[2] := p; q := r[2];
--   show q.a; show r[1].b; if r[1].a = -1 do show 3 end; if q = p do show 7 end; q.a := 0; if q <> p do show 8 end;
--   r := row(q, p); show r[2].a; w := wide(p, 9); show w.c; show w.p.b end
abbrev pub program_of_records : ProgramUnit
program_of_records =
    program_with (record_of (0 ∷ 0 ∷ []) ∷ array_of 0 (pos 1) (pos 2) 3 ∷ record_of (3 ∷ 0 ∷ []) ∷ []) (0 ∷ 4 ∷ 3 ∷ 3 ∷ 5 ∷ [])
    (assign (variable 0 1) (natural 4)
    ∷ assign (variable 0 3) (make 3 (expressions (value_of 0 1 ∷ natural 6 ∷ [])) 1)
    ∷ assign (variable 0 3) (make 3 (expressions (load (part_of 0 3 (field 1 ∷ [])) ∷ load (part_of 0 3 (field 0 ∷ [])) ∷ [])) 1)
    ∷ assign (part_of 0 2 (index (two (value_of 0 1) op.Minus (natural 3) 1) 1 ∷ [])) (make 3 (expressions (number (negsuc 0) ∷ natural 2 ∷ [])) 1)
    ∷ assign (part_of 0 2 (at 2 ∷ [])) (value_of 0 3)
    ∷ assign (variable 0 4) (load (part_of 0 2 (at 2 ∷ [])))
    ∷ show 0 (load (part_of 0 4 (field 0 ∷ [])))
    ∷ show 0 (load (part_of 0 2 (at 1 ∷ field 1 ∷ [])))
    ∷ show_if 0 (two (load (part_of 0 2 (at 1 ∷ field 0 ∷ []))) op.Equal (number (negsuc 0)) 1) 3
    ∷ show_if 0 (two (value_of 0 4) op.Equal (value_of 0 3) 1) 7
    ∷ assign (part_of 0 4 (field 0 ∷ [])) (natural 0)
    ∷ show_if 0 (two (value_of 0 4) op.NotEqual (value_of 0 3) 1) 8
    ∷ assign (variable 0 2) (make 4 (expressions (value_of 0 4 ∷ value_of 0 3 ∷ [])) 1)
    ∷ show 0 (load (part_of 0 2 (at 2 ∷ field 0 ∷ [])))
    ∷ assign (variable 0 5) (make 5 (expressions (value_of 0 3 ∷ natural 9 ∷ [])) 1)
    ∷ show 0 (load (part_of 0 5 (field 1 ∷ [])))
    ∷ show 0 (load (part_of 0 5 (field 0 ∷ field 1 ∷ [])))
    ∷ [])
    []

-- array t [-1:1] (int) HEAD var a: t begin a[-1] := 3; show a[-1]; show a[n] end, with the last index on line 4
abbrev pub program_with_bound : ℤ → ProgramUnit
program_with_bound n =
    program_with (array_of 0 (negsuc 0) (pos 1) 0 ∷ []) (3 ∷ [])
    (assign (part_of 0 1 (index (number (negsuc 0)) 1 ∷ [])) (natural 3)
    ∷ show 0 (load (part_of 0 1 (index (number (negsuc 0)) 1 ∷ [])))
    ∷ show 0 (load (part_of 0 1 (index (number n) 4 ∷ [])))
    ∷ [])
    []

-- array t [1:3] (char) HEAD var c: char; a, b: t
-- begin c := 'b'; a := t('abc'); display(a[3]); b := t('a', c, 'c'); if a = b do display('=') end end
abbrev pub program_with_string : ProgramUnit
program_with_string =
    program_with (array_of 0 (pos 1) (pos 3) 1 ∷ []) (1 ∷ 3 ∷ 3 ∷ [])
    (assign (variable 0 1) (constant 1 (pos 98))
    ∷ assign (variable 0 2) (make 3 (expressions (constant 1 (pos 97) ∷ constant 1 (pos 98) ∷ constant 1 (pos 99) ∷ [])) 1)
    ∷ call_formal 0 0 (by_value (load (part_of 0 2 (at 3 ∷ []))) ∷ [])
    ∷ assign (variable 0 3) (make 3 (expressions (constant 1 (pos 97) ∷ value_of 0 1 ∷ constant 1 (pos 99) ∷ [])) 1)
    ∷ show_if 0 (two (value_of 0 2) op.Equal (value_of 0 3) 1) 61
    ∷ [])
    []

-- ---- procedures

-- HEAD var x: int proc p(var a: int) begin q(a); a := a * 2 end proc q(n: int; var b: int) begin b := b + n end
-- begin x := 5; p(x); show x end, where p calls q(1, a)
abbrev pub program_that_hands_on : ProgramUnit
program_that_hands_on =
    program_with [] (0 ∷ [])
    (assign (variable 0 1) (natural 5) ∷ call_block 0 1 (by_variable (variable 0 1) ∷ []) ∷ show 0 (value_of 0 1) ∷ [])
    (procedure 0 (parameter.Var 0 ∷ []) [] (call_block 1 2 (by_value (natural 1) ∷ by_variable (variable 0 0) ∷ [])
    ∷ assign (variable 0 0) (two (value_of 0 0) op.Times (natural 2) 1) ∷ [])
    ∷ procedure 0 (parameter.Value 0 ∷ parameter.Var 0 ∷ []) [] (assign (variable 0 1) (two (value_of 0 1) op.Plus (value_of 0 0) 1) ∷ [])
    ∷ [])

-- record pair (a, b: int) array row [1:2] (pair)
-- HEAD var r: row proc p(var x: row) begin x[2].b := 3; q(x[2]) end proc q(var y: pair) begin y.a := y.b + 1 end
-- begin p(r); show r[2].a; show r[2].b end
abbrev pub program_with_parts : ProgramUnit
program_with_parts =
    program_with (record_of (0 ∷ 0 ∷ []) ∷ array_of 0 (pos 1) (pos 2) 3 ∷ []) (4 ∷ [])
    (call_block 0 1 (by_variable (variable 0 1) ∷ [])
    ∷ show 0 (load (part_of 0 1 (at 2 ∷ field 0 ∷ [])))
    ∷ show 0 (load (part_of 0 1 (at 2 ∷ field 1 ∷ [])))
    ∷ [])
    (procedure 0 (parameter.Var 4 ∷ []) [] (assign (part_of 0 0 (at 2 ∷ field 1 ∷ [])) (natural 3)
    ∷ call_block 1 2 (by_variable (part_of 0 0 (at 2 ∷ [])) ∷ []) ∷ [])
    ∷ procedure 0 (parameter.Var 3 ∷ []) [] (assign (part_of 0 0 (field 0 ∷ [])) (two (load (part_of 0 0 (field 1 ∷ []))) op.Plus (natural 1) 1) ∷ [])
    ∷ [])

-- HEAD var x: int
--   proc p(n: int; proc f; proc g(value: char)) begin q(f, g); show n end
--   proc q(proc h; proc k(value: char)) begin h; k('k') end
--   proc r begin x := 6 end
-- begin p(4, r, display); show x end: procedures and system calls are handed on
abbrev pub program_of_procedures : ProgramUnit
program_of_procedures =
    program_with [] (0 ∷ [])
    (call_block 0 1 (by_value (natural 4) ∷ by_procedure (callee.Block 0 3) ∷ by_procedure (callee.Formal 0 0) ∷ []) ∷ show 0 (value_of 0 1) ∷ [])
    (procedure 0 (parameter.Value 0 ∷ parameter.Formal None ∷ parameter.Formal None ∷ []) []
    (call_block 1 2 (by_procedure (callee.Formal 0 1) ∷ by_procedure (callee.Formal 0 2) ∷ []) ∷ show 1 (value_of 0 0) ∷ [])
    ∷ procedure 0 (parameter.Formal None ∷ parameter.Formal None ∷ []) []
    (call_formal 0 0 [] ∷ call_formal 0 1 (by_value (constant 1 (pos 107)) ∷ []) ∷ [])
    ∷ procedure 0 [] [] (assign (variable 1 1) (natural 6) ∷ [])
    ∷ [])

-- ---- functions

-- record pair (a, b: int)
-- HEAD var x: pair
--   proc f(a: int; p: pair; b: int): pair var c: pair begin c := p; c.a := c.a - a; c.b := c.b - b; val f := c end
--   proc g(n: int): int begin if n = 0 do val g := 1 else true do val g := n * g(n - 1) end end
--   proc apply(n: int; proc h(n: int): int): int begin val apply := 1 + h(n) end
-- begin x := f(1, pair(8, 12), 2); show x.a; show x.b; show apply(4, g) + g(3) end
abbrev pub program_of_functions : ProgramUnit
program_of_functions =
    program_with (record_of (0 ∷ 0 ∷ []) ∷ []) (3 ∷ [])
    (assign (variable 0 1) (function 0 1 (by_value (natural 1) ∷ by_value (make 3 (expressions (natural 8 ∷ natural 12 ∷ [])) 1) ∷ by_value (natural 2) ∷ []))
    ∷ show 0 (load (part_of 0 1 (field 0 ∷ [])))
    ∷ show 0 (load (part_of 0 1 (field 1 ∷ [])))
    ∷ show 0 (two (function 0 3 (by_value (natural 4) ∷ by_procedure (callee.Block 0 2) ∷ [])) op.Plus (function 0 2 (by_value (natural 3) ∷ [])) 1)
    ∷ [])
    (function_of 0 3 (parameter.Value 0 ∷ parameter.Value 3 ∷ parameter.Value 0 ∷ []) (3 ∷ [])
    (assign (variable 0 4) (value_of 0 2)
    ∷ assign (part_of 0 4 (field 0 ∷ [])) (two (load (part_of 0 4 (field 0 ∷ []))) op.Minus (value_of 0 1) 1)
    ∷ assign (part_of 0 4 (field 1 ∷ [])) (two (load (part_of 0 4 (field 1 ∷ []))) op.Minus (value_of 0 3) 1)
    ∷ assign (variable 0 0) (value_of 0 4)
    ∷ [])
    ∷ function_of 0 0 (parameter.Value 0 ∷ []) []
    (if_act (two_clauses (two (value_of 0 1) op.Equal (natural 0) 1) (assign (variable 0 0) (natural 1) ∷ []) true_value
    (assign (variable 0 0) (two (value_of 0 1) op.Times (function 1 2 (by_value (two (value_of 0 1) op.Minus (natural 1) 1) ∷ [])) 1) ∷ [])) ∷ [])
    ∷ function_of 0 0 (parameter.Value 0 ∷ parameter.Formal (Some 0) ∷ []) []
    (assign (variable 0 0) (two (natural 1) op.Plus (apply_of (callee.Formal 0 2) (arguments (by_value (value_of 0 1) ∷ [])) 1) 1) ∷ [])
    ∷ [])

-- HEAD proc p(n: int) proc inner begin if n > 0 do p(n - 1) end; show n end begin inner end begin p(2) end:
-- each inner instance means the n of its own p
abbrev pub program_through_outer : ProgramUnit
program_through_outer =
    program_with [] []
    (call_block 0 1 (by_value (natural 2) ∷ []) ∷ [])
    (procedure 0 (parameter.Value 0 ∷ []) [] (call_block 0 2 [] ∷ [])
    ∷ procedure 1 [] []
    (if_act (one_clause (two (value_of 1 0) op.Greater (natural 0) 1) (call_block 2 1 (by_value (two (value_of 1 0) op.Minus (natural 1) 1) ∷ []) ∷ []))
    ∷ show 2 (value_of 1 0) ∷ [])
    ∷ [])

-- array t [1:2] (int)
-- HEAD var a: t proc p(var x: t; n: int) proc q(m: t) begin x[2] := n; a[1] := m[2] end begin q(x) end
-- begin a[2] := 5; p(a, 7); show a[1]; show a[2] end: q means variables of both blocks round it, and has a copy of x
abbrev pub program_through_levels : ProgramUnit
program_through_levels =
    program_with (array_of 0 (pos 1) (pos 2) 0 ∷ []) (3 ∷ [])
    (assign (part_of 0 1 (at 2 ∷ [])) (natural 5)
    ∷ call_block 0 1 (by_variable (variable 0 1) ∷ by_value (natural 7) ∷ [])
    ∷ show 0 (load (part_of 0 1 (at 1 ∷ [])))
    ∷ show 0 (load (part_of 0 1 (at 2 ∷ [])))
    ∷ [])
    (procedure 0 (parameter.Var 3 ∷ parameter.Value 0 ∷ []) [] (call_block 0 2 (by_value (value_of 0 0) ∷ []) ∷ [])
    ∷ procedure 1 (parameter.Value 3 ∷ []) []
    (assign (part_of 1 0 (at 2 ∷ [])) (value_of 1 1) ∷ assign (part_of 2 1 (at 1 ∷ [])) (load (part_of 0 0 (at 2 ∷ []))) ∷ [])
    ∷ [])

-- proc main(proc accept(var c: char); proc display(value: char)) var c: char
-- begin accept(c); if c = 'a' do main(accept, display) end; display(c) end: the program calls itself
abbrev pub program_that_calls_itself : ProgramUnit
program_that_calls_itself =
    program_of [] (1 ∷ 2 ∷ [])
    (block_of kind.Program 0 None (parameter.Formal None ∷ parameter.Formal None ∷ []) (1 ∷ []) 0
    (call_formal 0 0 (by_variable (variable 0 2) ∷ [])
    ∷ if_act (one_clause (two (value_of 0 2) op.Equal (constant 1 (pos 97)) 1)
    (call_block 0 0 (by_procedure (callee.Formal 0 0) ∷ by_procedure (callee.Formal 0 1) ∷ []) ∷ []))
    ∷ call_formal 0 1 (by_value (value_of 0 2) ∷ [])
    ∷ [])
    ∷ [])
