-- A stint of which the timeline is told, unless an object has failed in it.
use Rattle.std.proofs.Common.{◌≡◌, Some, None, sym, ◌∙◌}
use Rattle.edi_kernel.specs.declared.ends.Ending.TheVariants as ending
use Rattle.edi_timed.proofs.Adding.{fault_is, not_over}
use Rattle.edi_timed.proofs.running.note.Goals as goal

pub returns-then-is_fault-clause-adds : goal.returns-then-is_fault-clause-adds
returns-then-is_fault-clause-adds c = λ other.
    absurd (other (sym c.ended_by-ended.ensures.exact ∙ fault_is c.ended_by-ended.result (sym c.is_fault.ensures ∙ c.if-is_fault.true)))

pub returns-then-is_fault-clause-fits : goal.returns-then-is_fault-clause-fits
returns-then-is_fault-clause-fits c = λ none few.
    let w : None ≡ Some ending.Fault = sym none ∙ fault_is c.ended_by-ended.result (sym c.is_fault.ensures ∙ c.if-is_fault.true) in absurd (cc)

pub returns-then-is_fault-clause-count : goal.returns-then-is_fault-clause-count
returns-then-is_fault-clause-count c = λ none.
    let w : None ≡ Some ending.Fault = sym none ∙ fault_is c.ended_by-ended.result (sym c.is_fault.ensures ∙ c.if-is_fault.true) in absurd (cc)

pub returns-clause-fits : goal.returns-clause-fits
returns-clause-fits c = λ none. c.add_stint.ensures.fits (not_over c.args.end (sym c.ended_by-ended.ensures.exact ∙ none))
