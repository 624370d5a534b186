use Rattle.std.proofs.Common.{◌+◌, ◌-◌, ◌∷◌, [], refl, ap, ◌∙◌, arith}
use Rattle.edi_store.specs.Copied.{cleared, copied}
use Rattle.edi_target.specs.Op.{high_word, low_word}
use Rattle.edi_machine.proofs.NewFrames.{frame_written}
use Rattle.edi_machine.proofs.procedures.put_frame.Goals as goal

pub returns : goal.returns
returns c =
    let a = c.args in
    let b = a.block in
    let rest = b.need - (5 + b.results + b.parameters) in
    record {
      exact =
          c.clear-2.ensures.exact
          ∙ ap (λ m. cleared m (a.at + 5 + b.results + b.parameters) rest)
          (c.copy.ensures.exact ∙ ap (λ m. copied m a.top (a.at + 5 + b.results) b.parameters)
          (c.clear.ensures.exact ∙ ap (λ m. cleared m (a.at + 5) b.results) c.put_words.ensures.exact))
          ∙ frame_written a.store.now a.at (a.link ∷ a.base ∷ high_word a.back ∷ low_word a.back ∷ a.top ∷ []) b.results a.top b.parameters rest
          c.put_words.ensures.was_whole refl c.requires.arguments (omega arith);
    }
