-- Helper. Small programs with processes and calls of the system. The text of each stands in its comment; HEAD and `show` are as
-- in Programs.
use Rattle.std.specs.Prelude.{ℕ, pos, List, [], ◌∷◌, replicate, map, None}
use Rattle.edi_unit.specs.declared.expressions.Operator.TheVariants as op
use Rattle.edi_unit.specs.declared.expressions.Callee.TheVariants as callee
use Rattle.edi_unit.specs.declared.units.BlockKind.TheVariants as kind
use Rattle.edi_unit.specs.declared.units.Parameter.TheVariants as parameter
use Rattle.edi_unit.specs.Types.{Shape, array_of}
use Rattle.edi_unit.specs.Tree.{constant, load, not_of, make, index, by_value, by_variable, by_procedure, Act, skip, assign, call, halt, when_act, cobegin}
use Rattle.edi_unit.specs.Tree.{Block, ProgramUnit}
use Rattle.edi_meaning.specs.Rows.{variable, value_of, true_value, false_value, two, one_clause, block_of, program_of}
use Rattle.edi_scheme.specs.Programs.{part_of, expressions, arguments, clauses, natural, call_formal, call_block, function, show, show_if, program_with}
use Rattle.edi_scheme.specs.Programs.{procedure, function_of, branch}

-- ---- processes

-- HEAD var x: int proc bump begin x := x + 1 end
-- begin cobegin 1 do when x = 5 do show 5 else x = 1 do bump; show x end; show 7
-- also 2 do bump; when true do show 9 end end; show 3 end
abbrev pub program_with_phases : ProgramUnit
program_with_phases =
    program_with [] (0 ∷ []) (cobegin (2 ∷ 3 ∷ []) 1 ∷ show 0 (natural 3) ∷ [])
    (procedure 0 [] [] (assign (variable 1 1) (two (value_of 1 1) op.Plus (natural 1) 1) ∷ [])
    ∷ branch 0
    (when_act (clauses ((two (value_of 1 1) op.Equal (natural 5) 1, show 1 (natural 5) ∷ [])
    ∷ (two (value_of 1 1) op.Equal (natural 1) 1, call_block 1 1 [] ∷ show 1 (value_of 1 1) ∷ []) ∷ [])) 1
    ∷ show 1 (natural 7)
    ∷ [])
    ∷ branch 0 (call_block 1 1 [] ∷ when_act (one_clause true_value (show 1 (natural 9) ∷ [])) 1 ∷ [])
    ∷ [])

-- array t [0:1] (int) HEAD var a: t proc f: int begin val f := 1 end
-- begin when false do skip else a[f] = 1 do skip end end: a function is called in an index of the second condition
abbrev pub program_with_called_index : ProgramUnit
program_with_called_index =
    program_with (array_of 0 (pos 0) (pos 1) 0 ∷ []) (3 ∷ [])
    (when_act (clauses ((false_value, skip ∷ []) ∷ (two (load (part_of 0 1 (index (function 0 1 []) 1 ∷ []))) op.Equal (natural 1) 1, skip ∷ []) ∷ [])) 1 ∷ [])
    (function_of 0 0 [] [] (assign (variable 0 0) (natural 1) ∷ []) ∷ [])

-- HEAD proc p(n: int) begin cobegin 1 do show n also 2 do show n + 1 end end
-- begin cobegin 1 do p(1) also 2 do p(5) end; show 9 end
abbrev pub program_with_forks_inside : ProgramUnit
program_with_forks_inside =
    program_with [] [] (cobegin (4 ∷ 5 ∷ []) 1 ∷ show 0 (natural 9) ∷ [])
    (procedure 0 (parameter.Value 0 ∷ []) [] (cobegin (2 ∷ 3 ∷ []) 1 ∷ [])
    ∷ branch 1 (show 2 (value_of 1 0) ∷ [])
    ∷ branch 1 (show 2 (two (value_of 1 0) op.Plus (natural 1) 1) ∷ [])
    ∷ branch 0 (call_block 1 1 (by_value (natural 1) ∷ []) ∷ [])
    ∷ branch 0 (call_block 1 1 (by_value (natural 5) ∷ []) ∷ [])
    ∷ [])

-- proc main begin cobegin 1 do skip also 2 do skip end end, with `cobegin` on line 2, where the second branch needs n words
-- and main needs 5
abbrev pub program_that_shares : ℕ → ProgramUnit
program_that_shares n =
    program_of [] []
    (block_of kind.Program 0 None [] [] 5 (cobegin (1 ∷ 2 ∷ []) 2 ∷ [])
    ∷ block_of kind.Branch 0 None [] [] 5 (skip ∷ [])
    ∷ block_of kind.Branch 0 None [] [] n (skip ∷ [])
    ∷ [])

-- HEAD begin when true do show 1; .. end end, where this statement stands in the critical phase
abbrev pub program_in_phase : Act → ProgramUnit
program_in_phase a =
    program_with [] [] (when_act (one_clause true_value (show 0 (natural 1) ∷ a ∷ [])) 1 ∷ []) (branch 0 (skip ∷ []) ∷ [])

-- HEAD begin cobegin 1 do show 1; halt also 2 do show 2 end end, with `halt` on line 3
abbrev pub program_that_halts_in_branch : ProgramUnit
program_that_halts_in_branch =
    program_with [] [] (cobegin (1 ∷ 2 ∷ []) 1 ∷ [])
    (branch 0 (show 1 (natural 1) ∷ halt 3 ∷ []) ∷ branch 0 (show 1 (natural 2) ∷ []) ∷ [])

-- ---- calls of the system

-- a program whose parameters are these calls, without result
abbrev program_calling : List ℕ → List Shape → List ℕ → List Act → List Block → ProgramUnit
program_calling calls types variables body blocks =
    program_of types calls (block_of kind.Program 0 None (map (λ n. parameter.Formal None) calls) variables 0 body ∷ blocks)

-- proc main(proc accept(var c: char); proc print(value: char)) var x: char
--   proc p(var c: char; proc a(var c: char)) begin a(c) end
-- begin p(x, accept); print(x); accept(x); print(x) end
abbrev pub program_that_accepts : ProgramUnit
program_that_accepts =
    program_calling (1 ∷ 3 ∷ []) [] (1 ∷ [])
    (call_block 0 1 (by_variable (variable 0 2) ∷ by_procedure (callee.Formal 0 0) ∷ [])
    ∷ call_formal 0 1 (by_value (value_of 0 2) ∷ [])
    ∷ call_formal 0 0 (by_variable (variable 0 2) ∷ [])
    ∷ call_formal 0 1 (by_value (value_of 0 2) ∷ [])
    ∷ [])
    (procedure 0 (parameter.Var 1 ∷ parameter.Formal None ∷ []) [] (call_formal 0 1 (by_variable (variable 0 0) ∷ []) ∷ []) ∷ [])

-- proc main(proc more(var b: bool)) var b: bool begin more(b) end, the call on line 5
abbrev pub program_without_file : ProgramUnit
program_without_file =
    program_calling (5 ∷ []) [] (2 ∷ []) (call (callee.Formal 0 0) (arguments (by_variable (variable 0 1) ∷ [])) 5 ∷ []) []

-- array name [1:12] (char)
-- proc main(proc display(value: char); proc find(title: name; var ok: bool); proc fresh; proc write(value: char)) var ok: bool
-- begin ok := true; find(name('abc         '), ok); if not ok do show 1 end; fresh; write('x') end
abbrev pub program_of_files : ProgramUnit
program_of_files =
    program_calling (2 ∷ 4 ∷ 7 ∷ 8 ∷ []) (array_of 0 (pos 1) (pos 12) 1 ∷ []) (2 ∷ [])
    (assign (variable 0 4) true_value
    ∷ call_formal 0 1 (by_value (make 3 (expressions (map (λ c. constant 1 (pos c)) (97 ∷ 98 ∷ 99 ∷ replicate 9 32))) 1) ∷ by_variable (variable 0 4) ∷ [])
    ∷ show_if 0 (not_of (value_of 0 4)) 1
    ∷ call_formal 0 2 []
    ∷ call_formal 0 3 (by_value (constant 1 (pos 120)) ∷ [])
    ∷ [])
    []
