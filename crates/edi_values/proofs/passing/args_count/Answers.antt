use Rattle.std.proofs.Common.{ap, sym, ◌∙◌, ◌+◌}
use Rattle.edi_tree.specs.declared.expressions.Factor.TheViews.{out-Args}
use Rattle.edi_tree.specs.Sequences.{items_of}
use Rattle.edi_static.specs.Expressions.{args_count}
use Rattle.edi_values.proofs.Counts.{args_are}
use Rattle.edi_values.proofs.Seen.{args_seen}
use Rattle.edi_values.proofs.passing.args_count.Goals as goal

pub returns : goal.returns
returns c = record {
  exact = ap (λ n. n + 1) c.len.ensures.exact ∙ args_are (items_of (out-Args c.args.args.now).more) ∙ ap args_count (sym (args_seen c.args.args.now));
}
