use Rattle.std.proofs.Common.{min, ap, sym, ◌∙◌, arith}
use Rattle.edi_calls.specs.Choice.{first_choices}
use Rattle.edi_trace.specs.Drawn.{most_kept}
use Rattle.edi_trace.specs.Kept.{source_of}
use Rattle.edi_trace.proofs.Draws.{used_more, at_more}
use Rattle.edi_trace.proofs.choices.Choices.draw.Goals as goal

pub invariant_of-self : goal.invariant_of-self
invariant_of-self c = record {
  at = at_more _ _ _ _ c.saturating_add-self-inside.ensures c.next-choice.ensures.moved c.self.invariant.at;
  used =
      used_more (source_of c.self.inside.source) most_kept 18446744073709551615 c.self.inside.drawn _ _ _ _ (omega arith)
      c.self.invariant.used c.saturating_add-self-inside.ensures
      (λ below. c.next-choice.ensures.exact below c.self.invariant.at) c.keep.ensures.more c.keep.ensures.full
      ∙ ap (λ s. first_choices s (min c.saturating_add-self-inside.result most_kept)) (sym c.next-choice.ensures.same);
  room = omega (arith, c.keep.ensures.room, c.self.invariant.room);
}
