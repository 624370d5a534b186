use Rattle.std.proofs.Common.{◌≡◌, ℕ, suc, ◌+◌, ◌-◌, ◌++◌, ◌∙◌, List, ap, sym, arith}
use Rattle.std.specs.Prelude.{codes}
use Rattle.std.specs.Fmt.{decimal}
use Rattle.edi_timeline.specs.Picture.{column_x}
use Rattle.edi_timeline.proofs.Chains.{five}
use Rattle.edi_timeline.proofs.boxes.put_number_over.Goals as goal

abbrev put : (out : List ℕ) (index number : ℕ) → List ℕ
put out index number =
    out ++ (codes "<text x=\"" ++ (decimal (column_x index + 16) ++ (codes "\" y=\"42\" font-size=\"10\">" ++ (decimal number ++ codes "</text>"))))

as_number : (out now : List ℕ) (index : ℕ) → now ≡ put out index (index + 1) → now ≡ put out (suc index - 1) (suc index)
as_number out now index e =
    let n : index ≡ suc index - 1 = omega arith in
    let m : index + 1 ≡ suc index = omega arith in
    e ∙ (λ i. put out (n i) (m i))

pub returns : goal.returns
returns c = record {
  exact =
      as_number c.args.out.now.items c.extend_from_slice-3.new.self.items c.args.index
      (five c.args.out.now.items c.extend_from_slice.new.self.items c.put_number.new.out.items c.extend_from_slice-2.new.self.items
      c.put_number-2.new.out.items c.extend_from_slice-3.new.self.items (codes "<text x=\"") (decimal (column_x c.args.index + 16))
      (codes "\" y=\"42\" font-size=\"10\">") (decimal (c.args.index + 1)) (codes "</text>") c.in_ok-extend_from_slice.ensures.items
      (c.in_ok-put_number.ensures.exact ∙ ap (λ n. c.extend_from_slice.new.self.items ++ decimal (n + 16)) c.column_x.ensures.exact)
      c.in_ok-extend_from_slice-2.ensures.items c.in_ok-put_number-2.ensures.exact c.in_ok-extend_from_slice-3.ensures.items);
}
