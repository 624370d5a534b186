use Rattle.edi_ring.proofs.Calls as calls
use Rattle.edi_ring.proofs.Lists.len.Goals as goal

pub returns-clause-sound : goal.returns-clause-sound
returns-clause-sound g c = calls.sound _ _ _ _ _ c.self.invariant c.self.view_is c.self.told c.self.told2
