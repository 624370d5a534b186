use Rattle.std.proofs.Common.{◌≡◌, sym, ◌∙◌, ap, rules, if◌then◌else◌, ◌==◌}
use Rattle.std.specs.Prelude.{None}
use Rattle.std.proofs.lemmas.Option.{slice_get_within}
use Rattle.edi_ring.specs.Lists.{home_of, without}
use Rattle.edi_ring.proofs.Calls as calls
use Rattle.edi_ring.proofs.Lists.take.Goals as goal

pub there-list-requires : goal.there-list-requires
there-list-requires g c = rw c.link_at.ensures (calls.has_home _ _ _ _ _ c.self.invariant c.self.view_is c.self.told c.self.told2 _ c.requires.listed)

pub place-at-requires : goal.place-at-requires
place-at-requires g c = (
  search rules,
  (
    calls.is_list _ _ _ _ _ c.self.invariant c.self.view_is c.self.told c.self.told2 _
        c.requires.listed _ (sym c.link_at.ensures ∙ c.there-list.ensures),
    calls.in_list _ _ _ _ _ c.self.invariant c.self.view_is c.self.told c.self.told2 _
        c.requires.listed _ (sym c.link_at.ensures ∙ c.there-list.ensures),
  ),
)

pub take_at-node-requires : goal.take_at-node-requires
take_at-node-requires g c = (
  search rules,
  (
    calls.is_list _ _ _ _ _ c.self.invariant c.self.view_is c.self.told c.self.told2 _
        c.requires.listed _ (sym c.link_at.ensures ∙ c.there-list.ensures),
    slice_get_within _ _ _ c.place-at.ensures,
  ),
)

pub returns : goal.returns
returns g c =
    let same : c.take_at-node.result ≡ c.args.node = calls.some_is (sym c.take_at-node.ensures.was ∙ c.place-at.ensures) in
    record {
      exact = c.take_at-node.ensures.exact ∙ ap (without c.args.self.now) same;
      homes = λ q. c.take_at-node.ensures.homes q ∙ ap (λ n. if q == n then None else home_of c.args.self.now q) same;
      sound = c.take_at-node.ensures.sound;
    }
