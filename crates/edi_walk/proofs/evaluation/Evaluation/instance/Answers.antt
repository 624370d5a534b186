use Rattle.std.proofs.Common.{◌++◌, ap, ◌∙◌}
use Rattle.std.specs.Prelude.{map}
use Rattle.std.proofs.lemmas.List.{map-append}
use Rattle.edi_unit.specs.Values.{zero_value}
use Rattle.edi_unit.specs.View.{block_of}
use Rattle.edi_meaning.specs.Store.{value}
use Rattle.edi_walk.specs.Data.{cell_of, spot_of}
use Rattle.edi_walk.proofs.Instances.{made}
use Rattle.edi_walk.proofs.evaluation.Evaluation.instance.Goals as goal

pub returns-clause-exact : goal.returns-clause-exact
returns-clause-exact c =
    let types = c.args.self.now.unit.now.types in
    let before = map cell_of c.in_ok-cells.cells.items in
    let both = map cell_of c.append.new.self.items in
    made types c.args.number (spot_of c.args.parent) (map cell_of c.args.arguments.items) before both (map cell_of c.in_ok-cells-2.cells.items)
    (block_of c.in_ok-block.block.now) _ c.in_ok-cells.ensures.exact
    (ap (map cell_of) c.in_ok-append.ensures.items ∙ map-append cell_of c.in_ok-cells.cells.items c.args.arguments.items)
    (c.in_ok-cells-2.ensures.exact ∙ ap (λ ts. both ++ map (λ t. value (zero_value types t)) ts) c.items.ensures.exact) c.in_ok-block.ensures.exact
