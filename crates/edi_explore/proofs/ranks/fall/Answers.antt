-- Link after link.
use Rattle.std.proofs.Common.{◌≡◌, ◌⊎◌, inl, inr, ℕ, ◌+◌, ◌<◌, ◌≤◌, get_or, Some, ap, ◌∙◌, arith, subst}
use Rattle.std.specs.Prelude.{slice_get}
use Rattle.std.proofs.lemmas.Bool.{cases_lt}
use Rattle.std.proofs.lemmas.Option.{get_or_from_slice_get, slice_get_within}
use Rattle.edi_explore.specs.declared.states.Link.{Link}
use Rattle.edi_explore.specs.Links.{FallsAlong}
use Rattle.edi_explore.proofs.Findings.{at_contained}
use Rattle.edi_explore.proofs.ranks.fall.Goals as goal

pub loop-link-preserved : goal.loop-link-preserved
loop-link-preserved c = λ i one l at. go i one l at (cases_lt i c.loop-link.link-index)
  where
    go : (i : ℕ) (one : Link) → i < c.loop-link.link-index + 1 → slice_get c.args.links.now i ≡ Some one →
        (i < c.loop-link.link-index) ⊎ (c.loop-link.link-index ≤ i) → FallsAlong c.args.ranks.now one
    go i one l at (inl less) = c.loop-link.invariant i one less at
    go i one l at (inr past) =
        let none : Link = record { from = 0; to = 0 } in
        let here : c.loop-link.link-index ≡ i = omega (arith, l, past) in
        let it : get_or c.args.links.now c.loop-link.link-index none ≡ one =
        get_or_from_slice_get c.args.links.now c.loop-link.link-index one none (ap (slice_get c.args.links.now) here ∙ at) in
        subst (FallsAlong c.args.ranks.now) it (c.falls.ensures c.if-not-falls.false)

pub returns : goal.returns
returns c = λ _ one among.
    let at = at_contained c.args.links.now one among in
    c.loop-link.invariant at.0 one (omega (arith, slice_get_within c.args.links.now at.0 one at.1, c.loop-link-test.false)) at.1
