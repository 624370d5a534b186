use Rattle.std.proofs.Common.{◌≡◌, ◌∷◌, ◌++◌, [], ap, sym, ◌∙◌, subst, arith, length}
use Rattle.std.specs.Prelude.{map}
use Rattle.std.proofs.lemmas.List.{map-append}
use Rattle.edi_unit.specs.ShapeView.{shape_of}
use Rattle.edi_unit.specs.TypeTables.{IsDeclarable}
use Rattle.edi_unit.proofs.Tables.{named_known, small_kept, table_kept}
use Rattle.edi_unit.proofs.types.TypeTable.declare.Goals as goal

pub size_of_shape-size-requires-clause-known : goal.size_of_shape-size-requires-clause-known
size_of_shape-size-requires-clause-known c =
    let types = map shape_of c.self.inside.shapes.items in
    named_known types (shape_of c.args.shape) c.as_slice.result.now (c.as_slice.ensures.value ∙ c.self.invariant.0)
    (subst (λ l. IsDeclarable l (shape_of c.args.shape)) (sym c.self.view_is) c.requires.declarable)

pub size_of_shape-size-requires-clause-small : goal.size_of_shape-size-requires-clause-small
size_of_shape-size-requires-clause-small c =
    let types = map shape_of c.self.inside.shapes.items in
    small_kept types (shape_of c.args.shape) c.as_slice.result.now (c.as_slice.ensures.value ∙ c.self.invariant.0)
    (subst (λ l. IsDeclarable l (shape_of c.args.shape)) (sym c.self.view_is) c.requires.declarable)

pub invariant_of-self-2 : goal.invariant_of-self-2
invariant_of-self-2 c =
    let types = map shape_of c.self.inside.shapes.items in
    let same : length types ≡ length c.args.self.now = ap length c.self.view_is in
    table_kept types (map shape_of c.push_reserved.new.self.items) (shape_of c.args.shape) c.as_slice.result.now c.push.new.self.items
    c.size_of_shape-size.result
    (c.as_slice.ensures.value ∙ c.self.invariant.0) c.self.invariant.1
    (subst (λ l. IsDeclarable l (shape_of c.args.shape)) (sym c.self.view_is) c.requires.declarable)
    (omega (arith, same, c.requires.room))
    c.size_of_shape-size.ensures.exact
    (c.in_ok-push.ensures.items ∙ ap (λ l. l ++ c.size_of_shape-size.result ∷ []) (sym c.as_slice.ensures.value))
    (ap (map shape_of) (c.push_reserved.ensures.items ∙ ap (λ l. l ++ c.args.shape ∷ []) c.in_ok-reserve.ensures.items)
    ∙ map-append shape_of c.self.inside.shapes.items (c.args.shape ∷ []))

pub returns-clause-table : goal.returns-clause-table
returns-clause-table c = (invariant_of-self-2 c).1
