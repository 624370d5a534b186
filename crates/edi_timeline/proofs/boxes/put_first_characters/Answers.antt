use Rattle.std.proofs.Common.{◌≡◌, ◌++◌, List, sym, ap, subst, arith}
use Rattle.std.specs.Prelude.{OnOk, ℕ}
use Rattle.edi_timeline.specs.Text.{characters_text}
use Rattle.edi_timeline.proofs.Counting.{taken_whole}
use Rattle.edi_timeline.proofs.boxes.put_first_characters.Goals as goal

pub returns : goal.returns
returns c = record {
  exact =
      subst (λ (s : List ℕ). OnOk c.put_characters-2.result (c.put_characters-2.new.out.items ≡ c.args.out.now.items ++ characters_text s))
      (sym (taken_whole 3 c.args.shown.now (omega (arith, c.if-shown-gt3.false)))) c.put_characters-2.ensures.exact;
}
