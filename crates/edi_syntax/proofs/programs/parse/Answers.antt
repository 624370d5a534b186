use Rattle.std.proofs.Common.{rules, subst}
use Rattle.edi_tree.specs.View.{program_with}
use Rattle.edi_tree.specs.Spells.{Spells}
use Rattle.edi_tree.proofs.Greatest.{levels_small}
use Rattle.edi_syntax.proofs.Once.{no_tree, refuses_no_program, refuses_by_it}
use Rattle.edi_syntax.proofs.Stopping.{tree_is_bounded}
use Rattle.edi_syntax.proofs.programs.parse.Goals as goal

pub invariant_of-result : goal.invariant_of-result
invariant_of-result c = record {
  is_bounded = ∣ tree_is_bounded c.args.symbols.now.marks c.as_slice.result.now c.args.symbols.now.last (program_with c.in-Ok.globals c.in-Ok.procedure)
      c.as_slice.ensures.all c.in-Ok.ensures.tree c.args.symbols.now.spelled c.args.symbols.now.orderly c.args.symbols.now.few (search rules) ∣₁;
  shallow = levels_small (program_with c.in-Ok.globals c.in-Ok.procedure) 64 c.in-Ok.ensures.tree.shallow;
}

pub returns-in-Ok-clause-refused : goal.returns-in-Ok-clause-refused
returns-in-Ok-clause-refused c = λ f h. absurd
    (no_tree c.args.symbols.now.marks c.args.symbols.now.last f (program_with c.in-Ok.globals c.in-Ok.procedure) h
    (subst (λ l. Spells (program_with c.in-Ok.globals c.in-Ok.procedure) l) c.as_slice.ensures.all c.in-Ok.ensures.tree.spells) c.in-Ok.ensures.tree.shallow)

pub returns-in-Err-clause-accepted : goal.returns-in-Err-clause-accepted
returns-in-Err-clause-accepted c = λ tree h small. refuses_no_program c.args.symbols.now.marks c.args.symbols.now.last c.fault_of.result tree
    c.fault_of.ensures.exact h small

pub returns-in-Err-clause-refused : goal.returns-in-Err-clause-refused
returns-in-Err-clause-refused c = λ f h. refuses_by_it c.args.symbols.now.marks c.args.symbols.now.last c.fault_of.result f c.fault_of.ensures.exact h
