-- The tree of a chain of operators, from its layer.
use Rattle.std.proofs.Common.{◌≡◌, sym, ap, ◌∙◌}
use Rattle.std.specs.Global.{Box}
use Rattle.edi_unit.specs.declared.lists.List as code_list
use Rattle.edi_unit.specs.declared.expressions.Value as code_value
use Rattle.edi_unit.specs.declared.expressions.Link as code_link
use Rattle.edi_unit.specs.declared.expressions.Argument.TheOpen.{Value-F}
use Rattle.edi_unit.specs.declared.expressions.Argument.TheFolds.{fold-roll-Value}
use Rattle.edi_unit.specs.declared.expressions.Value.TheVariants.{rolls-Chain}
use Rattle.edi_unit.specs.Tree.{Argument, Part, Expression, Link, Place, chain}
use Rattle.edi_unit.specs.View.{argument_step, part_step, expression_step, link_step, place_step, expression_of, links_of}

pub chain_seen : (first : Box code_value.Value) (ls : code_list.List code_link.Link) → expression_of (code_value.Chain first ls) ≡ chain
    (expression_of first.value) (links_of ls)
chain_seen first ls =
    sym (ap expression_of (rolls-Chain first ls))
    ∙ fold-roll-Value Argument Part Expression Link Place argument_step part_step expression_step link_step place_step (Value-F.Chain first ls)
