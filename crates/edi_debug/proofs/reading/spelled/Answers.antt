use Rattle.std.proofs.Common.{Some, sym, ap, ◌∙◌}
use Rattle.edi_trace.specs.Lines.{number_of}
use Rattle.edi_debug.specs.Points.{is_number}
use Rattle.edi_debug.proofs.Names.{no_name, is_spelled, if_some}
use Rattle.edi_debug.proofs.reading.spelled.Goals as goal

pub returns-then-is_name : goal.returns-then-is_name
returns-then-is_name c =
    let digits = c.in-Some.digits.now in
    let name = c.in-Some.name.now in
    let spells = if_some (is_number digits) (number_of digits) c.in-Some-line_number.number (sym c.line_number.ensures.exact ∙ c.in-Some-line_number.is) in
    record {
      exact =
          is_spelled c.args.line.now digits name c.in-Some.ensures.cut spells.0 (sym c.is_name.ensures.exact ∙ c.if-is_name.true)
          ∙ ap (λ n. Some (n, name)) spells.1;
    }

pub returns-else-is_name : goal.returns-else-is_name
returns-else-is_name c = record {
  exact =
      no_name c.args.line.now c.in-Some.digits.now c.in-Some.name.now c.in-Some.ensures.cut (sym c.is_name.ensures.exact ∙ c.if-is_name.false);
}
