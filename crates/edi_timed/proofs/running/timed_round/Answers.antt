-- A round of a timed run.
use Rattle.std.proofs.Common.{◌≡◌, ◌-◌, Some, None, length, arith, sym, ap, ◌∙◌, subst, nat_le, false}
use Rattle.edi_kernel.specs.declared.ends.Ending.TheVariants as ending
use Rattle.edi_kernel.specs.declared.ends.StintEnd.{StintEnd}
use Rattle.edi_kernel.specs.Kernel.{ended_by, is_over}
use Rattle.edi_kernel.specs.Table.{ready_slots}
use Rattle.edi_timeline.specs.declared.entry.Said.{Said}
use Rattle.edi_timed.specs.Leaving.{AddsBy, ended_as}
use Rattle.edi_timed.proofs.Hearing.{few_said, heard_since, lasts_since, same_first, same_others, told_since}
use Rattle.edi_timed.proofs.Asked.{asks_on, asks_over}
use Rattle.edi_timed.proofs.Rounds.{chosen_lives}
use Rattle.edi_timed.proofs.Whole.{told_over, told_on, none_failed, not_over_before, same_ending}
use Rattle.edi_timed.proofs.running.timed_round.Goals as goal

pub note-requires-clause-said : goal.note-requires-clause-said
note-requires-clause-said g c =
    omega (
      arith,
      few_said g.C.Calls.state g.C.Calls.failed g.C.Calls.leads g.met.C.Calls.one_failed c.args.heard.now c.listen.new.self c.stint-stint.new.calls
          c.listen.ensures.calls c.listen.ensures.few c.stint-stint.ensures.leads,
      ap (λ (s : Said). s.many) c.said.ensures,
    )

pub returns-in-Some-clause-lasts : goal.returns-in-Some-clause-lasts
returns-in-Some-clause-lasts g c =
    lasts_since g.C.Calls.state g.C.Calls.failed g.C.Calls.leads g.met.C.Calls.one_failed c.args.heard.now c.listen.new.self c.stint-stint.new.calls
    c.listen.ensures.calls c.listen.ensures.few c.stint-stint.ensures.leads g.C.Calls.faults g.C.Calls.references c.stint-stint.ensures.later
    (same_others c.stint-stint.ensures.references)

pub returns-clause-lasts : goal.returns-clause-lasts
returns-clause-lasts g c =
    lasts_since g.C.Calls.state g.C.Calls.failed g.C.Calls.leads g.met.C.Calls.one_failed c.args.heard.now c.listen.new.self c.stint-stint.new.calls
    c.listen.ensures.calls c.listen.ensures.few c.stint-stint.ensures.leads g.C.Calls.faults g.C.Calls.references c.stint-stint.ensures.later
    (same_others c.stint-stint.ensures.references)

pub returns-in-Some-clause-exact : goal.returns-in-Some-clause-exact
returns-in-Some-clause-exact g c = λ drawn.
    let end_is : c.ended_as-end.result ≡ ended_as (length (ready_slots c.stint-stint.new.self.table)) c.stint-stint.result =
    c.ended_as-end.ensures ∙ ap (λ n. ended_as n c.stint-stint.result) c.ready.ensures.exact in
    let is : ended_by (ended_as (length (ready_slots c.stint-stint.new.self.table)) c.stint-stint.result) ≡ Some c.in-Some.ending =
    sym (ap ended_by end_is) ∙ sym c.note.ensures.exact ∙ c.in-Some.is in
    told_over c.args.code.now c.args.bound c.args.kernel.now c.stint-stint.new.self c.args.choices.now c.at_start-begun.result c.listen.new.self.said c.said.result
    c.args.seats.now.items c.note.new.seats.items c.args.timeline.now c.note.new.timeline c.at_start-begun.ensures c.requires.kernel c.stint-stint.ensures.kernel
    c.requires.used
    (omega (
      arith,
      c.stint-stint.ensures.turns,
      c.stint-stint.ensures.used,
      c.requires.used,
      c.from.ensures,
      c.turns_used.ensures,
      c.ranges.bound.fits,
    ))
    c.listen.ensures.nothing
    (omega (
      arith,
      few_said g.C.Calls.state g.C.Calls.failed g.C.Calls.leads g.met.C.Calls.one_failed c.args.heard.now c.listen.new.self c.stint-stint.new.calls
          c.listen.ensures.calls c.listen.ensures.few c.stint-stint.ensures.leads,
      ap (λ (s : Said). s.many) c.said.ensures,
    ))
    c.requires.fits c.stint-stint.result (c.from.result - c.turns_used.result) (λ i. c.from.ensures i - c.turns_used.ensures i)
    (omega (
      arith,
      c.stint-stint.ensures.turns,
      c.stint-stint.ensures.used,
      c.requires.used,
      c.from.ensures,
      c.turns_used.ensures,
      c.ranges.bound.fits,
    ))
    c.in-Some.ending (g.C.Calls.state c.args.heard.now.calls.now) (g.C.Calls.state c.stint-stint.new.calls.calls.now) is
    (told_since g.C.Calls.state g.C.Calls.failed g.C.Calls.leads g.met.C.Calls.one_failed c.args.heard.now c.listen.new.self c.stint-stint.new.calls
    c.listen.ensures.calls c.listen.ensures.few c.stint-stint.ensures.leads _ c.stint-stint.ensures.names)
    (λ other.
    heard_since g.C.Calls.state g.C.Calls.failed g.C.Calls.leads g.met.C.Calls.one_failed c.args.heard.now c.listen.new.self c.stint-stint.new.calls
    c.listen.ensures.calls c.listen.ensures.few c.stint-stint.ensures.leads
    (none_failed (g.C.Calls.failed c.stint-stint.new.calls.calls.now) (g.C.Calls.faults c.listen.new.self.calls.now) (g.C.Calls.faults c.stint-stint.new.calls.calls.now)
    (length (ready_slots c.stint-stint.new.self.table)) c.stint-stint.result (λ h. other (same_ending (sym is ∙ h))) c.stint-stint.ensures.blame) c.said.result
    c.said.ensures)
    (λ other.
    subst
    (λ (z : StintEnd). AddsBy (nat_le 100000 c.args.timeline.now.count) c.args.code.now.words c.stint-stint.new.self c.at_start-begun.result z c.said.result
    c.args.seats.now.items c.note.new.seats.items c.args.timeline.now c.note.new.timeline) end_is
    (c.note.ensures.adds (λ h. other (same_ending (sym is ∙ sym (ap ended_by end_is) ∙ h)))))

pub returns-clause-exact : goal.returns-clause-exact
returns-clause-exact g c = λ drawn.
    let end_is : c.ended_as-end.result ≡ ended_as (length (ready_slots c.stint-stint.new.self.table)) c.stint-stint.result =
    c.ended_as-end.ensures ∙ ap (λ n. ended_as n c.stint-stint.result) c.ready.ensures.exact in
    let is : ended_by (ended_as (length (ready_slots c.stint-stint.new.self.table)) c.stint-stint.result) ≡ None =
    sym (ap ended_by end_is) ∙ sym c.note.ensures.exact ∙ c.in_default.is in
    let going : is_over c.stint-stint.result ≡ false =
    not_over_before (length (ready_slots c.stint-stint.new.self.table)) c.stint-stint.result is in
    told_on c.args.code.now c.args.bound c.args.kernel.now c.stint-stint.new.self c.args.choices.now c.at_start-begun.result c.listen.new.self.said c.said.result
    c.args.seats.now.items c.note.new.seats.items c.args.timeline.now c.note.new.timeline c.at_start-begun.ensures c.requires.kernel c.stint-stint.ensures.kernel
    c.requires.used
    (omega (
      arith,
      c.stint-stint.ensures.turns,
      c.stint-stint.ensures.used,
      c.requires.used,
      c.from.ensures,
      c.turns_used.ensures,
      c.ranges.bound.fits,
    ))
    c.listen.ensures.nothing
    (omega (
      arith,
      few_said g.C.Calls.state g.C.Calls.failed g.C.Calls.leads g.met.C.Calls.one_failed c.args.heard.now c.listen.new.self c.stint-stint.new.calls
          c.listen.ensures.calls c.listen.ensures.few c.stint-stint.ensures.leads,
      ap (λ (s : Said). s.many) c.said.ensures,
    ))
    c.requires.fits c.stint-stint.result (c.from.result - c.turns_used.result) (λ i. c.from.ensures i - c.turns_used.ensures i)
    (omega (
      arith,
      c.stint-stint.ensures.turns,
      c.stint-stint.ensures.used,
      c.requires.used,
      c.from.ensures,
      c.turns_used.ensures,
      c.ranges.bound.fits,
    ))
    c.choose.new.self c.choose.new.choices (g.C.Calls.state c.args.heard.now.calls.now) (g.C.Calls.state c.stint-stint.new.calls.calls.now) is
    (told_since g.C.Calls.state g.C.Calls.failed g.C.Calls.leads g.met.C.Calls.one_failed c.args.heard.now c.listen.new.self c.stint-stint.new.calls
    c.listen.ensures.calls c.listen.ensures.few c.stint-stint.ensures.leads _ c.stint-stint.ensures.names)
    (heard_since g.C.Calls.state g.C.Calls.failed g.C.Calls.leads g.met.C.Calls.one_failed c.args.heard.now c.listen.new.self c.stint-stint.new.calls
    c.listen.ensures.calls c.listen.ensures.few c.stint-stint.ensures.leads
    (none_failed (g.C.Calls.failed c.stint-stint.new.calls.calls.now) (g.C.Calls.faults c.listen.new.self.calls.now) (g.C.Calls.faults c.stint-stint.new.calls.calls.now)
    (length (ready_slots c.stint-stint.new.self.table)) c.stint-stint.result (λ h. let w : None ≡ Some ending.Fault = sym is ∙ h in absurd (cc))
    c.stint-stint.ensures.blame) c.said.result c.said.ensures)
    (subst
    (λ (z : StintEnd). AddsBy (nat_le 100000 c.args.timeline.now.count) c.args.code.now.words c.stint-stint.new.self c.at_start-begun.result z c.said.result
    c.args.seats.now.items c.note.new.seats.items c.args.timeline.now c.note.new.timeline) end_is
    (c.note.ensures.adds (λ h. let w : None ≡ Some ending.Fault = sym is ∙ sym (ap ended_by end_is) ∙ h in absurd (cc))))
    (c.stint-stint.ensures.free going)
    (c.choose.ensures.names
    (omega (
      arith,
      drawn,
      c.stint-stint.ensures.spent going,
      c.stint-stint.ensures.used,
      c.requires.used,
      c.from.ensures,
      c.turns_used.ensures,
    )))
    (chosen_lives c.stint-stint.new.self c.choose.new.self c.args.choices.now c.choose.new.choices c.stint-stint.ensures.kernel c.choose.ensures.takes)
    c.choose.ensures.turns (c.choose.ensures.entering ∙ c.stint-stint.ensures.entering going)

pub returns-in-Some-clause-asked : goal.returns-in-Some-clause-asked
returns-in-Some-clause-asked g c =
    asks_over c.args.code.now c.args.bound c.args.kernel.now c.args.choices.now c.args.seats.now.items c.args.timeline.now
    (g.C.Calls.failed c.stint-stint.new.calls.calls.now) (g.C.Calls.state c.args.heard.now.calls.now) (g.C.Calls.state c.stint-stint.new.calls.calls.now)
    c.stint-stint.new.self (length (ready_slots c.stint-stint.new.self.table)) c.stint-stint.result c.in-Some.ending (c.from.result - c.turns_used.result)
    (λ i. c.from.ensures i - c.turns_used.ensures i)
    (omega (
      arith,
      c.stint-stint.ensures.turns,
      c.stint-stint.ensures.used,
      c.requires.used,
      c.from.ensures,
      c.turns_used.ensures,
      c.ranges.bound.fits,
    ))
    (omega (
      arith,
      c.stint-stint.ensures.turns,
      c.stint-stint.ensures.used,
      c.requires.used,
      c.from.ensures,
      c.turns_used.ensures,
      c.ranges.bound.fits,
    ))
    (sym
    (ap ended_by (c.ended_as-end.ensures ∙ ap (λ n. ended_as n c.stint-stint.result) c.ready.ensures.exact))
    ∙ sym c.note.ensures.exact ∙ c.in-Some.is)
    (told_since g.C.Calls.state g.C.Calls.failed g.C.Calls.leads g.met.C.Calls.one_failed c.args.heard.now c.listen.new.self c.stint-stint.new.calls
    c.listen.ensures.calls c.listen.ensures.few c.stint-stint.ensures.leads _ c.stint-stint.ensures.asked)

pub returns-clause-asked : goal.returns-clause-asked
returns-clause-asked g c =
    asks_on c.args.code.now c.args.bound c.args.kernel.now c.args.choices.now c.args.seats.now.items c.args.timeline.now
    (g.C.Calls.failed c.stint-stint.new.calls.calls.now) (g.C.Calls.state c.args.heard.now.calls.now) (g.C.Calls.state c.stint-stint.new.calls.calls.now)
    c.choose.new.self c.choose.new.choices _
    (told_since g.C.Calls.state g.C.Calls.failed g.C.Calls.leads g.met.C.Calls.one_failed c.args.heard.now c.listen.new.self c.stint-stint.new.calls
    c.listen.ensures.calls c.listen.ensures.few c.stint-stint.ensures.leads _ c.stint-stint.ensures.asked)

pub returns-in-Some-clause-same_reference : goal.returns-in-Some-clause-same_reference
returns-in-Some-clause-same_reference g c = same_first c.stint-stint.ensures.references ∙ c.listen.ensures.same_reference

pub returns-clause-same_reference : goal.returns-clause-same_reference
returns-clause-same_reference g c = same_first c.stint-stint.ensures.references ∙ c.listen.ensures.same_reference
