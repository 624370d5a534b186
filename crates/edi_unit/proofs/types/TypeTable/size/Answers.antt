use Rattle.std.proofs.Common.{◌≡◌, ap, ◌∙◌, arith, length}
use Rattle.std.specs.Prelude.{map}
use Rattle.edi_unit.specs.ShapeView.{shape_of}
use Rattle.edi_unit.specs.Types.{size}
use Rattle.edi_unit.proofs.Tables.{length-type_sizes, size_kept, size-small}
use Rattle.edi_unit.proofs.types.TypeTable.size.Goals as goal

pub index-requires : goal.index-requires
index-requires c =
    let long = ap length c.self.invariant.0 ∙ length-type_sizes (map shape_of c.self.inside.shapes.items) in
    let same = ap length c.self.view_is in
    omega (arith, long, same)

pub returns-clause-exact : goal.returns-clause-exact
returns-clause-exact c =
    let types = map shape_of c.self.inside.shapes.items in
    let same : length types ≡ length c.args.self.now = ap length c.self.view_is in
    size_kept types c.self.inside.sizes.items c.args.t c.index.result.now c.self.invariant.0 (omega (arith, same)) c.index.ensures
    ∙ ap (λ l. size l c.args.t) c.self.view_is

pub returns-clause-small : goal.returns-clause-small
returns-clause-small c =
    let types = map shape_of c.self.inside.shapes.items in
    let same : length types ≡ length c.args.self.now = ap length c.self.view_is in
    let read = size_kept types c.self.inside.sizes.items c.args.t c.index.result.now c.self.invariant.0 (omega (arith, same)) c.index.ensures in
    let small = size-small types c.args.t c.self.invariant.1 (omega (arith, same)) in
    omega (arith, read, small)
