-- How the first stint was followed, and what came of it.
use Rattle.std.proofs.Common.{ℕ, sym, ap, subst, ◌∙◌, refl}
use Rattle.edi_explore.specs.declared.expand.Expanded.{Expanded}
use Rattle.edi_explore.specs.declared.finding.Search.{Search}
use Rattle.edi_explore.specs.declared.states.States.{States}
use Rattle.edi_explore.specs.declared.step.Followed.{Followed}
use Rattle.edi_explore.specs.declared.step.Followed.TheVariants as followed
use Rattle.edi_explore.specs.Expand.{ComesTo}
use Rattle.edi_explore.specs.Shown.{asks_of}
use Rattle.edi_explored.specs.machine.Alike.{SameShown}
use Rattle.edi_explore.specs.Steps.{FollowedAs}
use Rattle.edi_explore.specs.Verdicts.{HasFirst}
use Rattle.edi_explore.proofs.Beginning.{began_cut, began_ended, began_failed, began_led}
use Rattle.edi_explore.proofs.Recording.{has_as}
use Rattle.edi_explore.proofs.finding.Search.begin.Goals as goal

-- where the start of the program comes from
abbrev start_number : ℕ
start_number = 4294967295

pub returns-in-Led-clause-begins : goal.returns-in-Led-clause-begins
returns-in-Led-clause-begins c =
    let b : Search = record { states = c.settle.new.states; calls = c.stint-end.new.calls; found = c.args.self.now.found; cut = c.args.self.now.cut; moves = c.args.self.now.moves } in
    let same = ap (λ x. x.items) (sym (c.stint-end.ensures.leads c.args.self.now.calls refl)) ∙ c.requires.new.input_is in
    began_led c.args.code.now c.args.input.now c.args.limits start_number c.args.self.now b c.start.new.self c.stint-end.new.self c.stint-end.result c.stint-end.new.calls
    c.start.ensures.exact c.stint-end.ensures.exact c.stint-end.ensures.entry c.stint-end.ensures.kernel c.word-whole.ensures.whole.long
    c.stint-end.ensures.free c.requires.new same same
    (subst (λ (r : Followed). FollowedAs (asks_of c.args.limits) start_number r c.stint-end.result c.args.self.now.states c.settle.new.states c.stint-end.new.self c.stint-end.new.calls) c.in-Led.is
    c.in_ok-followed.ensures.follows)

pub returns-in-Failed-clause-begins : goal.returns-in-Failed-clause-begins
returns-in-Failed-clause-begins c =
    let b : Search = record { states = c.settle.new.states; calls = c.stint-end.new.calls; found = c.args.self.now.found; cut = c.args.self.now.cut; moves = c.args.self.now.moves } in
    let same = ap (λ x. x.items) (sym (c.stint-end.ensures.leads c.args.self.now.calls refl)) ∙ c.requires.new.input_is in
    began_failed c.args.code.now c.args.input.now c.args.limits start_number c.args.self.now b c.start.new.self c.stint-end.new.self c.stint-end.result c.stint-end.new.calls
    c.start.ensures.exact c.stint-end.ensures.exact c.stint-end.ensures.entry c.stint-end.ensures.kernel c.word-whole.ensures.whole.long
    c.stint-end.ensures.free c.requires.new same same
    (subst (λ (r : Followed). FollowedAs (asks_of c.args.limits) start_number r c.stint-end.result c.args.self.now.states c.settle.new.states c.stint-end.new.self c.stint-end.new.calls) c.in-Failed.is
    c.in_ok-followed.ensures.follows)

pub returns-in-Cut-clause-begins : goal.returns-in-Cut-clause-begins
returns-in-Cut-clause-begins c =
    let b : Search = record { states = c.settle.new.states; calls = c.stint-end.new.calls; found = c.args.self.now.found; cut = c.args.self.now.cut; moves = c.args.self.now.moves } in
    let same = ap (λ x. x.items) (sym (c.stint-end.ensures.leads c.args.self.now.calls refl)) ∙ c.requires.new.input_is in
    began_cut c.args.code.now c.args.input.now c.args.limits start_number c.args.self.now b c.start.new.self c.stint-end.new.self c.stint-end.result c.stint-end.new.calls
    c.start.ensures.exact c.stint-end.ensures.exact c.stint-end.ensures.entry c.stint-end.ensures.kernel c.word-whole.ensures.whole.long
    c.stint-end.ensures.free c.requires.new same same
    (subst (λ (r : Followed). FollowedAs (asks_of c.args.limits) start_number r c.stint-end.result c.args.self.now.states c.settle.new.states c.stint-end.new.self c.stint-end.new.calls) c.in-Cut.is
    c.in_ok-followed.ensures.follows)

pub returns-in_ok-told-in-Ended-clause-begins : goal.returns-in_ok-told-in-Ended-clause-begins
returns-in_ok-told-in-Ended-clause-begins c =
    let b : Search = c.record.new.self in
    let rest = c.record.ensures.rest in
    let same = ap (λ x. x.items) (sym (c.stint-end.ensures.leads c.args.self.now.calls refl)) ∙ c.requires.new.input_is in
    subst (λ (e : Expanded). ComesTo c.args.code.now c.args.input.now c.args.limits c.args.self.now b e
    (HasFirst c.args.code.now c.args.input.now c.args.limits b)) (sym c.by_record.ensures)
    (began_ended c.args.code.now c.args.input.now c.args.limits start_number c.args.self.now b c.start.new.self c.stint-end.new.self c.stint-end.result c.stint-end.new.calls
    c.start.ensures.exact c.stint-end.ensures.exact c.stint-end.ensures.entry c.stint-end.ensures.kernel c.word-whole.ensures.whole.long
    c.stint-end.ensures.free c.requires.new same (ap (λ (s : Search). s.calls.input.items) rest ∙ same) c.in-Ended.ending c.in_ok-told-in-Ended.told
    (subst (λ (s : States). FollowedAs (asks_of c.args.limits) start_number (followed.Ended c.in-Ended.ending) c.stint-end.result c.args.self.now.states s c.stint-end.new.self c.stint-end.new.calls)
    (sym (ap (λ (s : Search). s.states) rest))
    (subst (λ (r : Followed). FollowedAs (asks_of c.args.limits) start_number r c.stint-end.result c.args.self.now.states c.settle.new.states c.stint-end.new.self c.stint-end.new.calls) c.in-Ended.is
    c.in_ok-followed.ensures.follows))
    (λ told.
    has_as (asks_of c.args.limits) b.found.items c.in-Ended.ending c.in_ok-shown_if-in-Ended.field-0.items c.stint-end.new.calls.shown.items
    (subst (λ x. SameShown x c.in_ok-shown_if-in-Ended.field-0.items c.stint-end.new.calls.shown.items) c.asks.ensures
    c.in_ok-shown_if-in-Ended.ensures) (c.in_ok-told-in-Ended.ensures.told told)))
