use Rattle.std.proofs.Common.{sym, ◌∙◌, rules}
use Rattle.edi_ring.proofs.Calls as calls
use Rattle.edi_ring.proofs.Lists.to_back.Goals as goal

pub there-list-requires : goal.there-list-requires
there-list-requires g c = rw c.link_at.ensures (calls.has_home _ _ _ _ _ c.self.invariant c.self.view_is c.self.told c.self.told2 _ c.requires.listed)

pub push_back-requires : goal.push_back-requires
push_back-requires g c = (
  search rules,
  (
    calls.is_list _ _ _ _ _ c.self.invariant c.self.view_is c.self.told c.self.told2 _
        c.requires.listed _ (sym c.link_at.ensures ∙ c.there-list.ensures),
    (c.requires.node_in_range, calls.gone _ _ _ c.take.ensures.homes),
  ),
)

pub returns-clause-exact : goal.returns-clause-exact
returns-clause-exact g c =
    let was = calls.home_is _ _ _ _ _ c.self.invariant c.self.view_is c.self.told c.self.told2 c.args.node
    ∙ sym c.link_at.ensures ∙ c.there-list.ensures in
    rw (was, ← c.take.ensures.exact) c.push_back.ensures.exact

pub returns-clause-homes : goal.returns-clause-homes
returns-clause-homes g c =
    let was = calls.home_is _ _ _ _ _ c.self.invariant c.self.view_is c.self.told c.self.told2 c.args.node
    ∙ sym c.link_at.ensures ∙ c.there-list.ensures in
    calls.homes_again _ _ _ _ _ was c.take.ensures.homes c.push_back.ensures.homes
