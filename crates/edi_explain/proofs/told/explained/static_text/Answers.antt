use Rattle.std.proofs.Common.{length, ap, arith}
use Rattle.edi_syntax.proofs.Stopping.{few_marks}
use Rattle.edi_explain.proofs.told.explained.static_text.Goals as goal

-- The symbols of a text are at most as many as its bytes.
pub put_static-requires-clause-few : goal.put_static-requires-clause-few
put_static-requires-clause-few c =
    omega (
      arith,
      ap (λ l. length l) c.as_slice.ensures.all,
      few_marks c.args.symbols.now.marks c.args.symbols.now.spelled,
      c.args.symbols.now.few,
    )
