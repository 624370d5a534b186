-- The walks of accepted texts.
use Rattle.std.proofs.Common.{◌≡◌, ◌∙◌, refl, sym, ap, subst}
use Rattle.edi_calls.specs.State.{Traced, fresh}
use Rattle.edi_meaning.proofs.Branching.{fitting_forks_have_branches}
use Rattle.edi_walk.specs.Walk.{WalkEnds}
use Rattle.edi_walk.proofs.Determined.{walks_are_determined}
use Rattle.edi_walk.proofs.Ends.{every_walk_ends}
use Rattle.edi_walk.proofs.Permits.{walk_is_permitted}
use Rattle.edi_texts.proofs.Thing.{one_thing}
use Rattle.edi_compile.proofs.Meant.{texts_can_be_coded}
use Rattle.edi_runs.specs.walk.Laws.{AcceptedTextsWalk, TextsHaveOneWalk, WalksOfTextsArePermitted}

pub accepted_texts_walk : AcceptedTextsWalk
accepted_texts_walk text unit is system bound choices =
    let w = every_walk_ends unit (fresh system) bound choices 0 in (
      w.0,
      w.1.now,
      record { unit = unit; unit_is = is; end = w.1; turns = w.2; drawn = w.3; order = w.4; walk = w.5; last_is = refl },
    )

pub texts_have_one_walk : TextsHaveOneWalk
texts_have_one_walk text system bound choices one other last behind h k =
    let units : h.unit ≡ k.unit = one_thing.one_unit text h.unit k.unit h.unit_is k.unit_is in
    let again : WalkEnds k.unit (fresh system) bound choices 0 one h.end h.turns h.drawn h.order =
    subst (λ u. WalkEnds u (fresh system) bound choices 0 one h.end h.turns h.drawn h.order) units h.walk in
    let same = walks_are_determined k.unit (fresh system) bound choices 0 one other h.end k.end h.turns k.turns h.drawn k.drawn h.order k.order again k.walk in
    (same.ending, sym h.last_is ∙ ap (λ (t : Traced). t.now) same.end ∙ k.last_is)

pub walks_of_texts_are_permitted : WalksOfTextsArePermitted
walks_of_texts_are_permitted text unit is system bound choices before ending end turns drawn order walk =
    walk_is_permitted unit system bound choices before ending end turns drawn order
    (fitting_forks_have_branches unit (texts_can_be_coded text unit is).fits) walk
