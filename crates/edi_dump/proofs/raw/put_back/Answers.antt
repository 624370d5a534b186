use Rattle.std.proofs.Common.{◌≡◌, ◌++◌, ◌∙◌, OnOk, ap, subst}
use Rattle.std.specs.Prelude.{codes, decimal}
use Rattle.edi_dump.specs.Frames.{raw_text}
use Rattle.edi_dump.proofs.Puts.{three_put}
use Rattle.edi_dump.proofs.raw.put_back.Goals as goal

pub returns : goal.returns
returns c =
    let out = c.args.out.now.items in
    let one = c.extend_from_slice.new.self.items in
    let two = c.put_number.new.out.items in
    let three = c.extend_from_slice-2.new.self.items in
    record {
      exact =
          subst (λ xs. OnOk c.put_raw.result (c.put_raw.new.out.items ≡ xs))
          (three_put out one two three (codes " goes on at ") (decimal c.args.back) (codes ":") (raw_text c.args.words.now)
          c.in_ok-extend_from_slice.ensures.items
          (c.in_ok-put_number.ensures.exact ∙ ap (λ n. one ++ decimal n) c.from.ensures)
          c.in_ok-extend_from_slice-2.ensures.items)
          c.put_raw.ensures.exact;
    }
