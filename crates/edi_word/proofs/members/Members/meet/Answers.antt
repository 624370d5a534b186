use Rattle.std.proofs.Common.{bit_and, rules}
use Rattle.edi_word.specs.Sets.{set_meet}
use Rattle.edi_word.proofs.SetLaws.{made, meet_agrees}
use Rattle.edi_word.proofs.members.Members.meet.Goals as goal

pub invariant_of-result : goal.invariant_of-result
invariant_of-result c = (made bit_and set_meet meet_agrees _ _ c.from_fn.result c.self.invariant c.other.invariant (search rules) (λ i below. search rules)).0

pub returns : goal.returns
returns c = rw (← c.self.view_is, ← c.other.view_is) (record {
  exact = (made bit_and set_meet meet_agrees _ _ c.from_fn.result c.self.invariant c.other.invariant (search rules) (λ i below. search rules)).1;
})
