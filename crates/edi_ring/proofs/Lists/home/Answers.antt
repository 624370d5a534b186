use Rattle.std.proofs.Common.{sym, ◌∙◌}
use Rattle.edi_ring.proofs.Calls as calls
use Rattle.edi_ring.proofs.Lists.home.Goals as goal

pub returns-clause-exact : goal.returns-clause-exact
returns-clause-exact g c =
    c.number.ensures ∙ c.link_at.ensures
    ∙ sym (calls.home_is _ _ _ _ _ c.self.invariant c.self.view_is c.self.told c.self.told2 c.args.node)

pub returns-clause-sound : goal.returns-clause-sound
returns-clause-sound g c = calls.sound _ _ _ _ _ c.self.invariant c.self.view_is c.self.told c.self.told2
