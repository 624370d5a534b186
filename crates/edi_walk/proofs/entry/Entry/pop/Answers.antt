use Rattle.std.proofs.Common.{◌≡◌, ◌+◌, ◌++◌, ◌∷◌, [], ap, ◌∙◌, arith, rules}
use Rattle.edi_walk.specs.Counted.{words_needed}
use Rattle.edi_walk.proofs.Entries.{words_append}
use Rattle.edi_walk.proofs.entry.Entry.pop.Goals as goal

pub invariant_of-self : goal.invariant_of-self
invariant_of-self c =
    let e : c.args.self.now.instances.items ≡ c.pop.new.self.items ++ c.in-Some.instance ∷ [] = (search rules) in
    let less : words_needed c.args.self.now.instances.items ≡ words_needed c.pop.new.self.items + c.in-Some.instance.need =
    ap words_needed e ∙ words_append c.pop.new.self.items c.in-Some.instance in
    record { counted = omega (arith, less, c.args.self.now.counted) }
