use Rattle.std.proofs.Common.{ap, sym, ◌∙◌}
use Rattle.edi_tree.specs.declared.expressions.Factor.TheViews.{out-Term}
use Rattle.edi_tree.specs.View.{factor_of}
use Rattle.edi_tree.specs.Sequences.{items_of}
use Rattle.edi_values.specs.Parts.{term_factor}
use Rattle.edi_values.proofs.Alone.{multiplied, unmultiplied}
use Rattle.edi_values.proofs.Seen.{term_seen}
use Rattle.edi_values.proofs.factors.term_factor.Goals as goal

pub returns-then-is_empty : goal.returns-then-is_empty
returns-then-is_empty c =
    let t = out-Term c.args.term.now in
    let seen = ap term_factor (sym (term_seen c.args.term.now)) in
    record { exact = unmultiplied (factor_of t.first) (items_of t.more) (sym c.is_empty.ensures.exact ∙ c.if-is_empty.true) ∙ seen }

pub returns-else-is_empty : goal.returns-else-is_empty
returns-else-is_empty c =
    let t = out-Term c.args.term.now in
    let seen = ap term_factor (sym (term_seen c.args.term.now)) in
    record { exact = multiplied (factor_of t.first) (items_of t.more) (sym c.is_empty.ensures.exact ∙ c.if-is_empty.false) ∙ seen }
