use Rattle.std.proofs.Common.{rules, ◌≡◌, ◌+◌, [], ◌∷◌, ◌++◌, length, sym, subst, ap, ◌∙◌, arith, length-append}
use Rattle.edi_code.specs.Stored.{AreFields}
use Rattle.edi_code.proofs.Frames.{fields_small}
use Rattle.edi_code.proofs.StoredLoops.{fields_more}
use Rattle.edi_code.proofs.stored.all_fields.Goals as goal

pub fields_stored-requires-clause-small : goal.fields_stored-requires-clause-small
fields_stored-requires-clause-small c = fields_small c.args.types.now c.loop-of.of c.len-of-end.ensures.table (omega (arith, c.loop-of-test.true, c.len-of-end.ensures.exact))

pub loop-of-preserved : goal.loop-of-preserved
loop-of-preserved c =
    let grown : c.push.new.self.items ≡ c.loop-of.rows.items ++ c.in_ok-row.row ∷ [] = search rules in
    record {
      all = ap length grown ∙ omega (arith, length-append c.loop-of.rows.items (c.in_ok-row.row ∷ []), c.loop-of.invariant.all);
      known = subst (AreFields c.args.types.now) (sym grown)
          (fields_more c.args.types.now c.loop-of.rows.items c.in_ok-row.row c.loop-of.of c.loop-of.invariant.known c.loop-of.invariant.all
          c.in_ok-row.ensures.exact);
    }
