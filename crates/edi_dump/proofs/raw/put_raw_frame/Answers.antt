use Rattle.std.proofs.Common.{◌≡◌, ℕ, ◌-◌, List, ◌++◌, ◌∙◌, OnOk, ap, subst}
use Rattle.std.specs.Prelude.{codes, decimal}
use Rattle.edi_store.specs.Memory.{words_at}
use Rattle.edi_dump.specs.Frames.{raw_text}
use Rattle.edi_dump.proofs.Puts.{two_put}
use Rattle.edi_dump.proofs.raw.put_raw_frame.Goals as goal

pub returns : goal.returns
returns c =
    let frame = c.args.frame in
    let out = c.args.out.now.items in
    let one = c.extend_from_slice.new.self.items in
    let two = c.put_number.new.out.items in
    let text : List ℕ → List ℕ = λ words. codes " goes on at " ++ (decimal frame.back ++ (codes ":" ++ raw_text words)) in
    record {
      exact =
          subst (λ xs. OnOk c.put_back.result (c.put_back.new.out.items ≡ xs))
          (ap (λ words. two ++ text words) c.words_of.ensures.exact
          ∙ two_put out one two (codes "  frame at ") (decimal frame.base) (text (words_at c.args.memory.now frame.base (frame.top - frame.base)))
          c.in_ok-extend_from_slice.ensures.items
          (c.in_ok-put_number.ensures.exact ∙ ap (λ n. one ++ decimal n) c.from.ensures))
          c.put_back.ensures.exact;
    }
