use Rattle.std.proofs.Common.{refl}
use Rattle.edi_ring.proofs.Calls as calls
use Rattle.edi_ring.proofs.Lists.take_front.Goals as goal

pub invariant_of-self : goal.invariant_of-self
invariant_of-self g c =
    rw (c.shorten_front_in.ensures, c.none-none.ensures)
    (calls.front_leaves _ _ _ _ _ c.self.invariant c.self.view_is c.self.told c.self.told2 c.args.list 0 _
    c.requires.list_in_range c.at-node.ensures.exact refl).still_listed

pub returns : goal.returns
returns g c =
    let l = calls.front_leaves _ _ _ _ _ c.self.invariant c.self.view_is c.self.told c.self.told2 c.args.list 0 _
    c.requires.list_in_range c.at-node.ensures.exact refl in
    record {
      was = c.at-node.ensures.exact;
      exact = rw c.shorten_front_in.ensures l.exact;
      homes = rw c.shorten_front_in.ensures l.homes_are;
      sound = rw c.shorten_front_in.ensures l.sound;
    }
