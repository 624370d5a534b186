use Rattle.edi_disk.proofs.View as view
use Rattle.edi_disk.proofs.cache.Cache.settle.Goals as goal

pub invariant_of-self : goal.invariant_of-self
invariant_of-self c = rw c.settle.ensures (view.kept_settle c.self.inside.slots c.self.inside.order c.self.invariant)

pub returns : goal.returns
returns c = rw (c.settle.ensures, ← c.self.view_is) (view.view_settle c.self.inside.slots c.self.inside.order c.self.invariant)
