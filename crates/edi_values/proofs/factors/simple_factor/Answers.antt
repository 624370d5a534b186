use Rattle.std.proofs.Common.{ap, sym, ◌∙◌}
use Rattle.edi_tree.specs.declared.expressions.Factor.TheViews.{out-Simple}
use Rattle.edi_tree.specs.Sequences.{items_of}
use Rattle.edi_tree.specs.Tree.{simple}
use Rattle.edi_tree.specs.View.{addends_of, term_of}
use Rattle.edi_values.specs.Parts.{simple_factor}
use Rattle.edi_values.proofs.Alone.{added}
use Rattle.edi_values.proofs.Seen.{simple_seen}
use Rattle.edi_values.proofs.factors.simple_factor.Goals as goal

pub returns-else-is_empty : goal.returns-else-is_empty
returns-else-is_empty c =
    let s = out-Simple c.args.simple.now in
    record {
      exact = added (term_of s.first) (items_of s.more) (sym c.is_empty.ensures.exact ∙ c.if-is_empty.false)
          ∙ ap (λ sign. simple_factor (simple sign (term_of s.first) (addends_of s.more))) (sym c.in-None.is)
          ∙ ap simple_factor (sym (simple_seen c.args.simple.now));
    }
