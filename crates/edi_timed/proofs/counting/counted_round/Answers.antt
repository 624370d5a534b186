-- A round of a run whose stints are counted.
use Rattle.std.proofs.Common.{◌≡◌, ◌-◌, None, false, length, option_map, arith, sym, ap, ◌∙◌}
use Rattle.edi_kernel.specs.Kernel.{ended_by, is_over}
use Rattle.edi_kernel.specs.Table.{ready_slots}
use Rattle.edi_timeline.specs.Adding.{counted}
use Rattle.edi_timeline.specs.Told.{meant}
use Rattle.edi_timed.specs.Leaving.{ended_as}
use Rattle.edi_timed.proofs.Hearing.{unheard_lasts, same_first}
use Rattle.edi_timed.proofs.Asked.{asks_on, asks_over}
use Rattle.edi_timed.proofs.Counted.{counted_on, counted_over}
use Rattle.edi_timed.proofs.Rounds.{chosen_lives}
use Rattle.edi_timed.proofs.Whole.{not_over_before}
use Rattle.edi_timed.proofs.counting.counted_round.Goals as goal

pub returns-in-Some-clause-exact : goal.returns-in-Some-clause-exact
returns-in-Some-clause-exact g c = λ seats told full drawn.
    counted_over c.args.code.now c.args.bound c.args.kernel.now c.stint-end.new.self c.args.choices.now seats told _
    c.requires.kernel c.requires.taken c.stint-end.ensures.kernel c.requires.used
    (omega (
      arith,
      c.stint-end.ensures.turns,
      c.stint-end.ensures.used,
      c.requires.used,
      c.from.ensures,
      c.turns_used.ensures,
      c.ranges.bound.fits,
    ))
    full c.stint-end.result (c.from.result - c.turns_used.result) (λ i. c.from.ensures i - c.turns_used.ensures i)
    (omega (
      arith,
      c.stint-end.ensures.turns,
      c.stint-end.ensures.used,
      c.requires.used,
      c.from.ensures,
      c.turns_used.ensures,
      c.ranges.bound.fits,
    ))
    c.ending_after-ended.result (c.ending_after-ended.ensures ∙ ap (λ n. ended_by (ended_as n c.stint-end.result)) c.ready.ensures.exact)
    (ap (λ o. counted told (option_map meant o)) (sym c.in-Some.is)) c.in-Some.ending (g.C.Calls.state c.args.calls.now.calls.now) (g.C.Calls.state c.stint-end.new.calls.calls.now) c.in-Some.is
    c.stint-end.ensures.names

pub returns-clause-exact : goal.returns-clause-exact
returns-clause-exact g c = λ seats told full drawn.
    let is : ended_by (ended_as (length (ready_slots c.stint-end.new.self.table)) c.stint-end.result) ≡ None =
    sym (c.ending_after-ended.ensures ∙ ap (λ n. ended_by (ended_as n c.stint-end.result)) c.ready.ensures.exact) ∙ c.in_default.is in
    let going : is_over c.stint-end.result ≡ false =
    not_over_before (length (ready_slots c.stint-end.new.self.table)) c.stint-end.result is in
    counted_on c.args.code.now c.args.bound c.args.kernel.now c.stint-end.new.self c.args.choices.now seats told _
    c.requires.kernel c.requires.taken c.stint-end.ensures.kernel c.requires.used
    (omega (
      arith,
      c.stint-end.ensures.turns,
      c.stint-end.ensures.used,
      c.requires.used,
      c.from.ensures,
      c.turns_used.ensures,
      c.ranges.bound.fits,
    ))
    full c.stint-end.result (c.from.result - c.turns_used.result) (λ i. c.from.ensures i - c.turns_used.ensures i)
    (omega (
      arith,
      c.stint-end.ensures.turns,
      c.stint-end.ensures.used,
      c.requires.used,
      c.from.ensures,
      c.turns_used.ensures,
      c.ranges.bound.fits,
    ))
    c.ending_after-ended.result (c.ending_after-ended.ensures ∙ ap (λ n. ended_by (ended_as n c.stint-end.result)) c.ready.ensures.exact)
    (ap (λ o. counted told (option_map meant o)) (sym c.in_default.is)) c.choose.new.self c.choose.new.choices (g.C.Calls.state c.args.calls.now.calls.now) (g.C.Calls.state c.stint-end.new.calls.calls.now) c.in_default.is
    c.stint-end.ensures.names (c.stint-end.ensures.free going)
    (c.choose.ensures.names
    (omega (
      arith,
      drawn,
      c.stint-end.ensures.spent going,
      c.stint-end.ensures.used,
      c.requires.used,
      c.from.ensures,
      c.turns_used.ensures,
    )))
    (chosen_lives c.stint-end.new.self c.choose.new.self c.args.choices.now c.choose.new.choices c.stint-end.ensures.kernel c.choose.ensures.takes)
    c.choose.ensures.turns (c.choose.ensures.entering ∙ c.stint-end.ensures.entering going)

pub returns-in-Some-clause-asked : goal.returns-in-Some-clause-asked
returns-in-Some-clause-asked g c = λ seats told.
    asks_over c.args.code.now c.args.bound c.args.kernel.now c.args.choices.now seats told (g.C.Calls.failed c.stint-end.new.calls.calls.now)
    (g.C.Calls.state c.args.calls.now.calls.now) (g.C.Calls.state c.stint-end.new.calls.calls.now) c.stint-end.new.self
    (length (ready_slots c.stint-end.new.self.table)) c.stint-end.result c.in-Some.ending (c.from.result - c.turns_used.result)
    (λ i. c.from.ensures i - c.turns_used.ensures i)
    (omega (
      arith,
      c.stint-end.ensures.turns,
      c.stint-end.ensures.used,
      c.requires.used,
      c.from.ensures,
      c.turns_used.ensures,
      c.ranges.bound.fits,
    ))
    (omega (
      arith,
      c.stint-end.ensures.turns,
      c.stint-end.ensures.used,
      c.requires.used,
      c.from.ensures,
      c.turns_used.ensures,
      c.ranges.bound.fits,
    ))
    (sym (c.ending_after-ended.ensures ∙ ap (λ n. ended_by (ended_as n c.stint-end.result)) c.ready.ensures.exact) ∙ c.in-Some.is)
    c.stint-end.ensures.asked

pub returns-clause-asked : goal.returns-clause-asked
returns-clause-asked g c = λ seats told.
    asks_on c.args.code.now c.args.bound c.args.kernel.now c.args.choices.now seats told (g.C.Calls.failed c.stint-end.new.calls.calls.now)
    (g.C.Calls.state c.args.calls.now.calls.now) (g.C.Calls.state c.stint-end.new.calls.calls.now) c.choose.new.self c.choose.new.choices _ c.stint-end.ensures.asked

pub returns-in-Some-clause-lasts : goal.returns-in-Some-clause-lasts
returns-in-Some-clause-lasts g c =
    unheard_lasts g.C.Calls.faults g.C.Calls.references g.C.Calls.leads c.args.calls.now c.stint-end.new.calls c.stint-end.ensures.later
    c.stint-end.ensures.references c.stint-end.ensures.leads

pub returns-clause-lasts : goal.returns-clause-lasts
returns-clause-lasts g c =
    unheard_lasts g.C.Calls.faults g.C.Calls.references g.C.Calls.leads c.args.calls.now c.stint-end.new.calls c.stint-end.ensures.later
    c.stint-end.ensures.references c.stint-end.ensures.leads

pub returns-in-Some-clause-same_reference : goal.returns-in-Some-clause-same_reference
returns-in-Some-clause-same_reference g c = same_first c.stint-end.ensures.references

pub returns-clause-same_reference : goal.returns-clause-same_reference
returns-clause-same_reference g c = same_first c.stint-end.ensures.references
