-- How the stint was followed, and what came of it.
use Rattle.std.proofs.Common.{false, refl, sym, ap, subst, ◌∙◌}
use Rattle.edi_explore.specs.declared.expand.Expanded.TheVariants as expanded
use Rattle.edi_explore.specs.declared.finding.Search.{Search}
use Rattle.edi_explore.specs.declared.step.Followed.{Followed}
use Rattle.edi_explore.specs.declared.states.States.{States}
use Rattle.edi_explore.specs.Expand.{Apart, ComesTo, HasStintThat}
use Rattle.edi_explored.specs.machine.Alike.{SameShown}
use Rattle.edi_explore.specs.Shown.{asks_of}
use Rattle.edi_explore.specs.Steps.{FollowsStint}
use Rattle.edi_explore.proofs.Expanding.{came_cut, came_ended, came_failed, came_led}
use Rattle.edi_explore.proofs.Findings.{found_none}
use Rattle.edi_explore.proofs.Recording.{has_as}
use Rattle.edi_explore.proofs.finding.Search.stint.Goals as goal

pub returns-in-Led-clause-follows : goal.returns-in-Led-clause-follows
returns-in-Led-clause-follows c =
    let a : Search = c.args.self.now in
    let b : Search = record { states = c.follow.new.states; calls = c.follow.new.calls; found = c.args.self.now.found; cut = c.args.self.now.cut; moves = c.args.self.now.moves } in
    let same = ap (λ x. x.items) c.in_ok-followed.ensures.input ∙ c.requires.search.input_is in
    came_led c.args.code.now c.args.input.now c.args.limits a b c.args.origin.state c.args.origin.index c.follow.new.kernel c.follow.new.calls
    c.requires.search c.requires.state same same
    (subst (λ (r : Followed). FollowsStint c.args.code.now c.args.limits c.args.origin.state c.args.origin.index r a.states c.follow.new.states
    c.follow.new.kernel c.follow.new.calls) c.in-Led.is c.in_ok-followed.ensures.follows)

pub returns-in-Failed-clause-follows : goal.returns-in-Failed-clause-follows
returns-in-Failed-clause-follows c =
    let a : Search = c.args.self.now in
    let b : Search = record { states = c.follow.new.states; calls = c.follow.new.calls; found = c.args.self.now.found; cut = c.args.self.now.cut; moves = c.args.self.now.moves } in
    let same = ap (λ x. x.items) c.in_ok-followed.ensures.input ∙ c.requires.search.input_is in
    came_failed c.args.code.now c.args.input.now c.args.limits a b c.args.origin.state c.args.origin.index c.follow.new.kernel c.follow.new.calls
    c.requires.search c.requires.state same same
    (subst (λ (r : Followed). FollowsStint c.args.code.now c.args.limits c.args.origin.state c.args.origin.index r a.states c.follow.new.states
    c.follow.new.kernel c.follow.new.calls) c.in-Failed.is c.in_ok-followed.ensures.follows)

pub returns-in_ok-note_cut-in-Cut-clause-follows : goal.returns-in_ok-note_cut-in-Cut-clause-follows
returns-in_ok-note_cut-in-Cut-clause-follows c =
    let a : Search = c.args.self.now in
    let b : Search = record { states = c.follow.new.states; calls = c.follow.new.calls; found = c.args.self.now.found; cut = c.note_cut.new.self.cut; moves = c.args.self.now.moves } in
    let same = ap (λ x. x.items) c.in_ok-followed.ensures.input ∙ c.requires.search.input_is in
    subst (λ (s : Search). ComesTo c.args.code.now c.args.input.now c.args.limits a s expanded.Cut
    (Apart c.args.code.now c.args.input.now c.args.limits s c.args.origin.state →
    HasStintThat c.args.code.now c.args.input.now c.args.limits s false c.args.origin.state c.args.origin.index)) (sym c.note_cut.ensures.rest)
    (came_cut c.args.code.now c.args.input.now c.args.limits a b c.args.origin.state c.args.origin.index c.follow.new.kernel c.follow.new.calls
    c.requires.search c.requires.state same same
    (subst (λ (r : Followed). FollowsStint c.args.code.now c.args.limits c.args.origin.state c.args.origin.index r a.states c.follow.new.states
    c.follow.new.kernel c.follow.new.calls) c.in-Cut.is c.in_ok-followed.ensures.follows)
    (Apart c.args.code.now c.args.input.now c.args.limits b c.args.origin.state →
    HasStintThat c.args.code.now c.args.input.now c.args.limits b false c.args.origin.state c.args.origin.index))

pub returns-in_ok-told-in-Ended-clause-follows : goal.returns-in_ok-told-in-Ended-clause-follows
returns-in_ok-told-in-Ended-clause-follows c =
    let a : Search = c.args.self.now in
    let b : Search = c.find.new.self in
    let same = ap (λ x. x.items) c.in_ok-followed.ensures.input ∙ c.requires.search.input_is in
    let rest = c.find.ensures.rest in
    subst (λ e. ComesTo c.args.code.now c.args.input.now c.args.limits a b e
    (Apart c.args.code.now c.args.input.now c.args.limits b c.args.origin.state →
    HasStintThat c.args.code.now c.args.input.now c.args.limits b false c.args.origin.state c.args.origin.index)) (sym c.by_record.ensures)
    (came_ended c.args.code.now c.args.input.now c.args.limits a b c.args.origin.state c.args.origin.index c.follow.new.kernel c.follow.new.calls
    c.requires.search c.requires.state same (ap (λ (s : Search). s.calls.input.items) rest ∙ same) c.in-Ended.ending c.in_ok-told-in-Ended.told
    (subst (λ (s : States). FollowsStint c.args.code.now c.args.limits c.args.origin.state c.args.origin.index (Rattle.edi_explore.specs.declared.step.Followed.TheVariants.Ended c.in-Ended.ending) a.states s
    c.follow.new.kernel c.follow.new.calls) (sym (ap (λ (s : Search). s.states) rest))
    (subst (λ (r : Followed). FollowsStint c.args.code.now c.args.limits c.args.origin.state c.args.origin.index r a.states c.follow.new.states
    c.follow.new.kernel c.follow.new.calls) c.in-Ended.is c.in_ok-followed.ensures.follows))
    (λ told.
    has_as (asks_of c.args.limits) b.found.items c.in-Ended.ending c.in_ok-shown_if-in-Ended.field-0.items c.follow.new.calls.shown.items
    (subst (λ x. SameShown x c.in_ok-shown_if-in-Ended.field-0.items c.follow.new.calls.shown.items) c.asks.ensures
    c.in_ok-shown_if-in-Ended.ensures) (c.in_ok-told-in-Ended.ensures.told told)))

pub returns-in_err-followed-clause-finds : goal.returns-in_err-followed-clause-finds
returns-in_err-followed-clause-finds c =
    let b : Search = record c.args.self.now { states = c.follow.new.states; calls = c.follow.new.calls } in
    found_none c.args.code.now c.args.input.now c.args.limits c.args.self.now b refl refl

pub returns-in_err-shown_if-in-Ended-clause-finds : goal.returns-in_err-shown_if-in-Ended-clause-finds
returns-in_err-shown_if-in-Ended-clause-finds c =
    let b : Search = record c.args.self.now { states = c.follow.new.states; calls = c.follow.new.calls } in
    found_none c.args.code.now c.args.input.now c.args.limits c.args.self.now b refl refl

pub returns-in-Led-clause-finds : goal.returns-in-Led-clause-finds
returns-in-Led-clause-finds c =
    let b : Search = record c.args.self.now { states = c.follow.new.states; calls = c.follow.new.calls } in
    found_none c.args.code.now c.args.input.now c.args.limits c.args.self.now b refl refl

pub returns-in-Failed-clause-finds : goal.returns-in-Failed-clause-finds
returns-in-Failed-clause-finds c =
    let b : Search = record c.args.self.now { states = c.follow.new.states; calls = c.follow.new.calls } in
    found_none c.args.code.now c.args.input.now c.args.limits c.args.self.now b refl refl

pub returns-in_err-note_cut-in-Cut-clause-finds : goal.returns-in_err-note_cut-in-Cut-clause-finds
returns-in_err-note_cut-in-Cut-clause-finds c =
    found_none c.args.code.now c.args.input.now c.args.limits c.args.self.now c.note_cut.new.self
    (ap (λ (s : Search). s.found.items) c.note_cut.ensures.rest) (ap (λ (s : Search). s.moves) c.note_cut.ensures.rest)

pub returns-in_ok-note_cut-in-Cut-clause-finds : goal.returns-in_ok-note_cut-in-Cut-clause-finds
returns-in_ok-note_cut-in-Cut-clause-finds c =
    found_none c.args.code.now c.args.input.now c.args.limits c.args.self.now c.note_cut.new.self
    (ap (λ (s : Search). s.found.items) c.note_cut.ensures.rest) (ap (λ (s : Search). s.moves) c.note_cut.ensures.rest)
