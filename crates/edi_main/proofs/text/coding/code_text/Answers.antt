-- What is compiled is the code of the text's unit.
use Rattle.std.proofs.Common.{ℕ, Vec, Global}
use Rattle.edi_main.proofs.text.Coded.{coded}
use Rattle.edi_main.proofs.text.coding.code_text.Goals as goal

pub returns : goal.returns
returns c = record {
  codes = coded (λ (v : Vec ℕ Global). v.items) c.args.text.now c.in-Ok.code c.in_ok-bytes.bytes c.in-Ok.ensures.exact c.in_ok-bytes.ensures.exact;
}
