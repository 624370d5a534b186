use Rattle.std.proofs.Common.{◌≡◌, sym, subst, ap, ◌∙◌, IfOk, pos, arith}
use Rattle.std.specs.Prelude.{replicate}
use Rattle.edi_unit.specs.ShapeView.{shape_of}
use Rattle.edi_unit.specs.Values.{compound, values, zero_value}
use Rattle.edi_walk.specs.Data.{value_of}
use Rattle.edi_walk.specs.declared.data.Datum as code
use Rattle.edi_walk.proofs.Layers.{ordinal_seen, members_seen}
use Rattle.edi_walk.proofs.Zeros.{zero_of, zero_of_elementary, zero_of_none, bounds_ordered}
use Rattle.edi_walk.proofs.zero.+zeros.Goals as goal

pub zero-returns-then-t-len : goal.zero-returns-then-t-len
zero-returns-then-t-len t c = record {
  exact = ordinal_seen (pos 0) ∙ sym (zero_of_none c.args.types.now c.args.t (omega (arith, c.if-t-len.true, c.len.ensures.exact)));
}

pub zero-returns-in-Int : goal.zero-returns-in-Int
zero-returns-in-Int t c = record {
  exact =
      ordinal_seen (pos 0)
      ∙ sym (zero_of c.args.types.now c.args.t (shape_of c.shape.result.now) c.len.ensures.table (omega (arith, c.if-t-len.false, c.len.ensures.exact))
      c.shape.ensures.exact
      ∙ zero_of_elementary (zero_value c.args.types.now) c.shape.result.now c.in-Int.is);
}

pub zero-returns-in-Set : goal.zero-returns-in-Set
zero-returns-in-Set t c = record {
  exact =
      ap (λ set. value_of (code.Members set)) c.empty.ensures.exact
      ∙ members_seen _
      ∙ sym (zero_of c.args.types.now c.args.t _ c.len.ensures.table (omega (arith, c.if-t-len.false, c.len.ensures.exact))
      (sym (ap shape_of c.in-Set.is) ∙ c.shape.ensures.exact));
}

pub zero-returns-in-Record : goal.zero-returns-in-Record
zero-returns-in-Record t c = record {
  exact =
      subst (λ v. IfOk c.zero_record.result (λ x. value_of x ≡ v))
      (sym (zero_of c.args.types.now c.args.t _ c.len.ensures.table (omega (arith, c.if-t-len.false, c.len.ensures.exact))
      (sym (ap shape_of c.in-Record.is) ∙ c.shape.ensures.exact)))
      c.zero_record.ensures.exact;
}

pub zero-element_total-requires : goal.zero-element_total-requires
zero-element_total-requires t c = record {
  ordered = bounds_ordered c.args.types.now c.args.t c.in-Array.index c.in-Array.lo c.in-Array.hi c.in-Array.element c.len.ensures.table
      (omega (arith, c.if-t-len.false, c.len.ensures.exact)) (sym (ap shape_of c.in-Array.is) ∙ c.shape.ensures.exact);
}

pub zero-returns-in-Array : goal.zero-returns-in-Array
zero-returns-in-Array t c = record {
  exact =
      subst (λ v. IfOk c.zero_array.result (λ x. value_of x ≡ v))
      (ap (λ n. compound (values (replicate n (zero_value c.args.types.now c.in-Array.element)))) c.element_total.ensures.exact
      ∙ sym (zero_of c.args.types.now c.args.t _ c.len.ensures.table (omega (arith, c.if-t-len.false, c.len.ensures.exact))
      (sym (ap shape_of c.in-Array.is) ∙ c.shape.ensures.exact)))
      c.zero_array.ensures.exact;
}
