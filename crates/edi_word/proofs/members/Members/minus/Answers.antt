use Rattle.std.proofs.Common.{bit_and, w16, rules}
use Rattle.std.specs.Int.{bit_not}
use Rattle.edi_word.specs.Sets.{set_minus}
use Rattle.edi_word.proofs.SetLaws.{made, minus_agrees}
use Rattle.edi_word.proofs.members.Members.minus.Goals as goal

pub invariant_of-result : goal.invariant_of-result
invariant_of-result c =
    (made (λ x y. bit_and x (bit_not w16 y)) set_minus minus_agrees _ _ c.from_fn.result c.self.invariant c.other.invariant (search rules)
    (λ i below. search rules)).0

pub returns : goal.returns
returns c = rw (← c.self.view_is, ← c.other.view_is) (record {
  exact =
      (made (λ x y. bit_and x (bit_not w16 y)) set_minus minus_agrees _ _ c.from_fn.result c.self.invariant c.other.invariant (search rules)
      (λ i below. search rules)).1;
})
