use Rattle.std.proofs.Common.{◌≡◌, take, sym, ◌∙◌, arith}
use Rattle.std.specs.Prelude.{sum_by}
use Rattle.edi_unit.specs.Types.{fields_of, shape_at, size}
use Rattle.edi_code.specs.Scope.{types_in}
use Rattle.edi_code.proofs.Frames.{field_small}
use Rattle.edi_code.proofs.StoredLoops.{field_stored}
use Rattle.edi_code.proofs.pieces.record_offset.Goals as goal

pub overflow_cast-result : goal.overflow_cast-result
overflow_cast-result c =
    let s = c.args.scope.now in
    let there : c.in-Some.stored.offset ≡ sum_by (size (types_in s)) (take c.args.field (fields_of (shape_at (types_in s) c.args.of))) =
    field_stored (types_in s) s.fields.now c.args.of c.args.field c.in-Some.stored c.requires.scope.fields (sym c.stored_at.ensures.exact ∙ c.in-Some.is) in
    omega (arith, there, field_small (types_in s) c.args.of c.args.field c.requires.table c.requires.known)

pub returns-in-Some : goal.returns-in-Some
returns-in-Some c =
    let s = c.args.scope.now in
    record {
      exact = field_stored (types_in s) s.fields.now c.args.of c.args.field c.in-Some.stored c.requires.scope.fields
          (sym c.stored_at.ensures.exact ∙ c.in-Some.is);
    }
