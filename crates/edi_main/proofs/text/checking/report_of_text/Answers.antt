-- What is reported on is the text's unit, which fits and has few blocks.
use Rattle.std.proofs.Common.{ℕ, Vec, Global}
use Rattle.edi_main.proofs.text.Checked.{reported}
use Rattle.edi_main.proofs.text.checking.report_of_text.Goals as goal

pub returns : goal.returns
returns c = record {
  reports = reported (λ (v : Vec ℕ Global). v.items) c.args.text.now c.in-Ok.unit c.in_ok-bytes.bytes c.in-Ok.ensures.exact
      c.in-Ok.ensures.few c.in_ok-bytes.ensures.exact;
}
