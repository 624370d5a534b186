-- A value of the definitions, from the layer of the code's value.
use Rattle.std.proofs.Common.{◌≡◌, ℕ, ℤ, List, sym, ap, ◌∙◌}
use Rattle.std.specs.Prelude.{map}
use Rattle.std.specs.Global.{Vec}
use Rattle.edi_unit.specs.Values.{Value, ordinal, compound, members, values}
use Rattle.edi_walk.specs.declared.data.Datum as code
use Rattle.edi_walk.specs.declared.data.Datum.TheOpen.{Datum-F}
use Rattle.edi_walk.specs.declared.data.Datum.TheFolds.{fold-roll-Datum}
use Rattle.edi_walk.specs.declared.data.Datum.TheVariants.{rolls-Ordinal, rolls-Compound, rolls-Members}
use Rattle.edi_unit.specs.declared.expressions.Link as code_link
use Rattle.edi_unit.specs.declared.expressions.Argument.TheFolds.{fold_out-Link, fold_out-Place}
use Rattle.edi_unit.specs.declared.expressions.Place as code_place
use Rattle.edi_unit.specs.Tree.{Argument, Part, Expression, Link, link, Place, place}
use Rattle.edi_unit.specs.View.{argument_step, part_step, expression_step, link_step, place_step, expression_of, link_of, parts_of, place_of}
use Rattle.edi_unit.specs.declared.statements.Clause as code_clause
use Rattle.edi_unit.specs.declared.statements.Act.TheFolds.{fold_out-Clause}
use Rattle.edi_unit.specs.Lists.{list_items}
use Rattle.edi_unit.specs.Tree.{Act, Clause, clause}
use Rattle.edi_unit.specs.View.{act_of, act_step, acts, clause_of, clause_step}
use Rattle.edi_unit.specs.declared.statements.Act as code_act
use Rattle.edi_unit.specs.declared.statements.Act.TheOpen.{Act-F}
use Rattle.edi_unit.specs.declared.statements.Act.TheFolds.{fold-roll-Act}
use Rattle.edi_unit.specs.declared.statements.Act.TheVariants.{rolls-Assign, rolls-Call, rolls-If, rolls-While}
use Rattle.edi_unit.specs.declared.lists.List as code_list
use Rattle.edi_unit.specs.declared.expressions.Argument as code_argument
use Rattle.edi_unit.specs.declared.expressions.Value as code_value
use Rattle.edi_unit.specs.declared.expressions.Callee.{Callee}
use Rattle.edi_unit.specs.Tree as tree
use Rattle.edi_unit.specs.View.{arguments_of, clauses_of}
use Rattle.edi_walk.specs.Data.{datum_step, value_of}

pub ordinal_seen : (n : ℤ) → value_of (code.Ordinal n) ≡ ordinal n
ordinal_seen n = sym (ap value_of (rolls-Ordinal n)) ∙ fold-roll-Datum Value datum_step (Datum-F.Ordinal n)

pub members_seen : (set : List ℕ) → value_of (code.Members set) ≡ members set
members_seen set = sym (ap value_of (rolls-Members set)) ∙ fold-roll-Datum Value datum_step (Datum-F.Members set)

pub compound_seen : (vs : Vec code.Datum) → value_of (code.Compound vs) ≡ compound (values (map value_of vs.items))
compound_seen vs = sym (ap value_of (rolls-Compound vs)) ∙ fold-roll-Datum Value datum_step (Datum-F.Compound vs)

pub link_seen : (l : code_link.Link) → link_of l ≡ link l.operator (expression_of l.right) l.line
link_seen l = fold_out-Link Argument Part Expression Link Place argument_step part_step expression_step link_step place_step l

pub place_seen : (p : code_place.Place) → place_of p ≡ place p.levels p.variable (parts_of p.parts)
place_seen p = fold_out-Place Argument Part Expression Link Place argument_step part_step expression_step link_step place_step p

pub clause_seen : (c : code_clause.Clause) → clause_of c ≡ clause (expression_of c.condition) (acts (map act_of (list_items c.body)))
clause_seen c = fold_out-Clause Act Clause act_step clause_step c

pub assign_seen : (p : code_place.Place) (e : code_value.Value) → act_of (code_act.Assign p e) ≡ tree.assign (place_of p) (expression_of e)
assign_seen p e = sym (ap act_of (rolls-Assign p e)) ∙ fold-roll-Act Act Clause act_step clause_step (Act-F.Assign p e)

pub call_seen : (c : Callee) (xs : code_list.List code_argument.Argument) (line : ℕ) → act_of (code_act.Call c xs line) ≡ tree.call c (arguments_of xs) line
call_seen c xs line = sym (ap act_of (rolls-Call c xs line)) ∙ fold-roll-Act Act Clause act_step clause_step (Act-F.Call c xs line)

pub if_seen : (cs : code_list.List code_clause.Clause) → act_of (code_act.If cs) ≡ tree.if_act (clauses_of cs)
if_seen cs = sym (ap act_of (rolls-If cs)) ∙ fold-roll-Act Act Clause act_step clause_step (Act-F.If cs)

pub while_seen : (cs : code_list.List code_clause.Clause) → act_of (code_act.While cs) ≡ tree.while_act (clauses_of cs)
while_seen cs = sym (ap act_of (rolls-While cs)) ∙ fold-roll-Act Act Clause act_step clause_step (Act-F.While cs)
