use Rattle.std.proofs.Common.{◌≡◌, ◌+◌, ap, ◌∙◌, arith}
use Rattle.edi_walk.specs.Counted.{words_needed}
use Rattle.edi_walk.proofs.Entries.{words_append}
use Rattle.edi_walk.proofs.entry.Entry.push.Goals as goal

pub invariant_of-self-2 : goal.invariant_of-self-2
invariant_of-self-2 c =
    let more : words_needed c.push.new.self.items ≡ words_needed c.args.self.now.instances.items + c.args.instance.need =
    ap words_needed c.in_ok-push.ensures.items ∙ words_append c.args.self.now.instances.items c.args.instance in
    record { counted = omega (arith, more, c.args.self.now.counted) }
