-- Words of contracts. The plain tree for which a tree of the code stands: the same parts, without memory.
use Rattle.std.specs.Prelude.{List, [], ◌∷◌, map}
use Rattle.edi_unit.specs.declared.expressions.Argument as code_argument
use Rattle.edi_unit.specs.declared.expressions.Argument.TheOpen.{Argument-F, Part-F, Value-F, Link-F, Place-F}
use Rattle.edi_unit.specs.declared.expressions.Argument.TheFolds.{fold-Argument, fold-Part, fold-Value, fold-Link, fold-Place}
use Rattle.edi_unit.specs.declared.expressions.Part as code_part
use Rattle.edi_unit.specs.declared.expressions.Value as code_value
use Rattle.edi_unit.specs.declared.expressions.Link as code_link
use Rattle.edi_unit.specs.declared.expressions.Place as code_place
use Rattle.edi_unit.specs.declared.statements.Act as code_act
use Rattle.edi_unit.specs.declared.statements.Act.TheOpen.{Act-F, Clause-F}
use Rattle.edi_unit.specs.declared.statements.Act.TheFolds.{fold-Act, fold-Clause}
use Rattle.edi_unit.specs.declared.statements.Clause as code_clause
use Rattle.edi_unit.specs.declared.lists.List as code_list
use Rattle.edi_unit.specs.declared.units.Block as code_block
use Rattle.edi_unit.specs.declared.units.Unit as code_unit
use Rattle.edi_unit.specs.Lists.{list_items}
use Rattle.edi_unit.specs.Tree.{Expression, constant, load, not_of, sign_of, chain, make, convert, apply_of, Expressions, no_expression, expression_then}
use Rattle.edi_unit.specs.Tree.{Link, link, Links, no_link, link_then, Place, place, Part, field, index, Parts, no_part, part_then, Argument, by_value}
use Rattle.edi_unit.specs.Tree.{by_variable, by_procedure, Arguments, no_argument, argument_then, Act, skip, assign, call, halt, if_act, while_act, when_act}
use Rattle.edi_unit.specs.Tree.{cobegin, Acts, no_act, act_then, Clause, clause, Clauses, no_clause, clause_then, Block, ProgramUnit}

-- ---- lists

abbrev pub expressions : List Expression → Expressions
expressions [] = no_expression
expressions (x ∷ xs) = expression_then x (expressions xs)

abbrev pub links : List Link → Links
links [] = no_link
links (x ∷ xs) = link_then x (links xs)

abbrev pub parts : List Part → Parts
parts [] = no_part
parts (x ∷ xs) = part_then x (parts xs)

abbrev pub arguments : List Argument → Arguments
arguments [] = no_argument
arguments (x ∷ xs) = argument_then x (arguments xs)

abbrev pub acts : List Act → Acts
acts [] = no_act
acts (x ∷ xs) = act_then x (acts xs)

abbrev pub clauses : List Clause → Clauses
clauses [] = no_clause
clauses (x ∷ xs) = clause_then x (clauses xs)

-- ---- one layer of an expression, whose parts have been seen already

abbrev pub argument_step : Argument-F Argument Part Expression Link Place → Argument
argument_step (Argument-F.Value e) = by_value e
argument_step (Argument-F.Var p) = by_variable p
argument_step (Argument-F.Formal c) = by_procedure c

abbrev pub part_step : Part-F Argument Part Expression Link Place → Part
part_step (Part-F.Field n) = field n
part_step (Part-F.Index e line) = index e.value line

abbrev pub expression_step : Value-F Argument Part Expression Link Place → Expression
expression_step (Value-F.Constant t n) = constant t n
expression_step (Value-F.Load p) = load p
expression_step (Value-F.Not e) = not_of e.value
expression_step (Value-F.Sign e line) = sign_of e.value line
expression_step (Value-F.Chain e ls) = chain e.value (links (list_items ls))
expression_step (Value-F.Make t es line) = make t (expressions (list_items es)) line
expression_step (Value-F.Convert t e line) = convert t e.value line
expression_step (Value-F.Apply c xs line) = apply_of c (arguments (list_items xs)) line

abbrev pub link_step : Link-F Argument Part Expression Link Place → Link
link_step l = link l.operator l.right l.line

abbrev pub place_step : Place-F Argument Part Expression Link Place → Place
place_step p = place p.levels p.variable (parts (list_items p.parts))

-- ---- expressions and their parts

abbrev pub argument_of : code_argument.Argument → Argument
argument_of = fold-Argument Argument Part Expression Link Place argument_step part_step expression_step link_step place_step

abbrev pub part_of : code_part.Part → Part
part_of = fold-Part Argument Part Expression Link Place argument_step part_step expression_step link_step place_step

abbrev pub expression_of : code_value.Value → Expression
expression_of = fold-Value Argument Part Expression Link Place argument_step part_step expression_step link_step place_step

abbrev pub link_of : code_link.Link → Link
link_of = fold-Link Argument Part Expression Link Place argument_step part_step expression_step link_step place_step

abbrev pub place_of : code_place.Place → Place
place_of = fold-Place Argument Part Expression Link Place argument_step part_step expression_step link_step place_step

abbrev pub arguments_of : code_list.List code_argument.Argument → Arguments
arguments_of xs = arguments (map argument_of (list_items xs))

abbrev pub parts_of : code_list.List code_part.Part → Parts
parts_of ps = parts (map part_of (list_items ps))

abbrev pub expressions_of : code_list.List code_value.Value → Expressions
expressions_of es = expressions (map expression_of (list_items es))

abbrev pub links_of : code_list.List code_link.Link → Links
links_of ls = links (map link_of (list_items ls))

-- ---- statements

abbrev pub act_step : Act-F Act Clause → Act
act_step Act-F.Skip = skip
act_step (Act-F.Assign p e) = assign (place_of p) (expression_of e)
act_step (Act-F.Call c xs line) = call c (arguments_of xs) line
act_step (Act-F.Halt line) = halt line
act_step (Act-F.If cs) = if_act (clauses (list_items cs))
act_step (Act-F.While cs) = while_act (clauses (list_items cs))
act_step (Act-F.When cs line) = when_act (clauses (list_items cs)) line
act_step (Act-F.Cobegin bs line) = cobegin (list_items bs) line

abbrev pub clause_step : Clause-F Act Clause → Clause
clause_step c = clause (expression_of c.condition) (acts (list_items c.body))

abbrev pub act_of : code_act.Act → Act
act_of = fold-Act Act Clause act_step clause_step

abbrev pub clause_of : code_clause.Clause → Clause
clause_of = fold-Clause Act Clause act_step clause_step

abbrev pub acts_of : code_list.List code_act.Act → Acts
acts_of s = acts (map act_of (list_items s))

abbrev pub clauses_of : code_list.List code_clause.Clause → Clauses
clauses_of cs = clauses (map clause_of (list_items cs))

-- ---- blocks

abbrev pub block_of : code_block.Block → Block
block_of b = record {
  kind = b.kind;
  up = b.up;
  result = b.result;
  parameters = list_items b.parameters;
  variables = list_items b.variables;
  need = b.need;
  body = acts_of b.body;
}

abbrev pub blocks_of : code_list.List code_block.Block → List Block
blocks_of bs = map block_of (list_items bs)

abbrev pub unit_of : code_unit.Unit → ProgramUnit
unit_of u = record { types = u.types; blocks = blocks_of u.blocks; program = u.program; calls = list_items u.calls }
