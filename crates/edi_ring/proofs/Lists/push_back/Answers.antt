use Rattle.std.proofs.Common.{arith, rules}
use Rattle.edi_ring.proofs.Calls as calls
use Rattle.edi_ring.proofs.Lists.push_back.Goals as goal

pub lengthen_in-requires : goal.lengthen_in-requires
lengthen_in-requires g c =
    let room = calls.room _ _ _ _ _ c.self.invariant c.self.view_is c.self.told c.self.told2 c.args.list c.args.node
    c.requires.list_in_range c.requires.node_in_range c.requires.free in
    let bytes = calls.bytes _ _ _ _ _ c.self.invariant c.self.view_is c.self.told c.self.told2 in (
      search rules,
      (
        c.requires.list_in_range,
        (
          calls.short _ _ _ _ _ c.self.invariant c.self.view_is c.self.told c.self.told2 c.args.list c.requires.list_in_range,
          (omega (arith, room, bytes), omega (arith, c.requires.node_in_range, bytes)),
        ),
      ),
    )

pub invariant_of-self : goal.invariant_of-self
invariant_of-self g c =
    rw (c.lengthen_in.ensures, c.to-home.ensures)
    (calls.push_leaves _ _ _ _ _ c.self.invariant c.self.view_is c.self.told c.self.told2 _ _ c.requires.list_in_range
    c.requires.node_in_range c.requires.free).still_listed

pub returns : goal.returns
returns g c =
    let l = calls.push_leaves _ _ _ _ _ c.self.invariant c.self.view_is c.self.told c.self.told2 _ _ c.requires.list_in_range
    c.requires.node_in_range c.requires.free in
    record {
      exact = rw c.lengthen_in.ensures l.exact;
      homes = rw c.lengthen_in.ensures l.homes_are;
      sound = rw c.lengthen_in.ensures l.sound;
    }
