use Rattle.std.proofs.Common.{sym, ◌∙◌, ap}
use Rattle.std.specs.Prelude.{slice_get}
use Rattle.edi_ring.proofs.Calls as calls
use Rattle.edi_ring.proofs.Lists.at.Goals as goal

pub returns-clause-within : goal.returns-clause-within
returns-clause-within g c =
    calls.index_within _ _ _ _ _ c.self.invariant c.self.view_is c.self.told c.self.told2 c.args.list c.args.i _
    (ap (λ xs. slice_get xs c.args.i) (sym (calls.is _ _ _ _ _ c.self.invariant c.self.view_is c.self.told c.self.told2 c.args.list c.requires.list_in_range)) ∙ c.node_at.ensures)

pub returns-clause-sound : goal.returns-clause-sound
returns-clause-sound g c = calls.sound _ _ _ _ _ c.self.invariant c.self.view_is c.self.told c.self.told2
