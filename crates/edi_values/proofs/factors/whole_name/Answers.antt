use Rattle.std.proofs.Common.{Some, ap, sym, ◌∙◌}
use Rattle.edi_tree.specs.declared.expressions.Factor.TheViews.{out-Variable}
use Rattle.edi_tree.specs.Sequences.{items_of}
use Rattle.edi_tree.specs.Tree.{variable, variable_factor}
use Rattle.edi_tree.specs.View.{selectors_of}
use Rattle.edi_static.specs.Fitting.{name_of_factor}
use Rattle.edi_values.proofs.Alone.{selected}
use Rattle.edi_values.proofs.Seen.{variable_seen}
use Rattle.edi_values.proofs.factors.whole_name.Goals as goal

pub returns-else-is_empty : goal.returns-else-is_empty
returns-else-is_empty c =
    let v = out-Variable c.args.variable.now in
    record {
      exact = selected c.in-Name.name (items_of v.selectors) (sym c.is_empty.ensures.exact ∙ c.if-is_empty.false)
          ∙ ap (λ r. name_of_factor (Some (variable_factor (variable r (selectors_of v.selectors))))) (sym c.in-Name.is)
          ∙ ap (λ x. name_of_factor (Some (variable_factor x))) (sym (variable_seen c.args.variable.now));
    }
