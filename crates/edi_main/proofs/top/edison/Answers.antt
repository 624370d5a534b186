use Rattle.std.proofs.Common.{◌≡◌, ◌∙◌, ap, inl, inr, map, sym}
use Rattle.std.specs.String.{string_bytes}
use Rattle.edi_words.specs.Words.{command_of}
use Rattle.edi_statuses.specs.Lines.{text_of}
use Rattle.edi_statuses.specs.Outside.{blaming, lent}
use Rattle.edi_statuses.specs.declared.status.Status.TheVariants as status
use Rattle.edi_statuses.proofs.Causes.{cause_later, output_later, rose_before}
use Rattle.edi_statuses.proofs.Closing.{lines_end}
use Rattle.edi_main.proofs.Obeyed.{counts_closed, drive_rose, unmounted_closed, untouched_closed}
use Rattle.edi_main.proofs.top.edison.Goals as goal

pub returns-clause-ends : goal.returns-clause-ends
returns-clause-ends g c =
    let came = c.obey-ended.ensures.came in
    let ends =
    lines_end c.obey-ended.result.status c.show_status.result c.obey-ended.result.due (command_of (map string_bytes c.args.words.now)) _ _ _ _
    (g.T.Sink.taken c.show_status.new.terminal)
    (blaming came.0 (lent c.args.kernel.now.store c.args.kernel.now.used c.obey-ended.new.kernel.store c.obey-ended.new.kernel.used))
    (cause_later c.obey-ended.result.status _ _ _ _ _ (g.T.Sink.faults c.show_status.new.terminal) _ c.show_status.ensures.later c.obey-ended.ensures.cause)
    (λ is. output_later _ came.0 _ _ _ _ _ (g.T.Sink.faults c.show_status.new.terminal) _ c.show_status.ensures.later (came.1 is))
    came.2 c.show_status.ensures.exact
    (λ none. let same = c.show_status.ensures.silent none in (same.0, ap g.T.Sink.taken same.1))
    (λ other. rose_before _ _ _ c.obey-ended.ensures.later.terminal (c.show_status.ensures.cause other)) in
    (ends.0, came.0, ends.1, ends.2, ends.3)

pub returns-clause-size : goal.returns-clause-size
returns-clause-size g c =
    counts_closed (command_of (map string_bytes c.args.words.now)) c.obey-ended.result.status c.show_status.result _ _ _ _
    (elim c.show_status.ensures.exact [
      | inl same ↦ inl same.0
      | inr fault ↦ inr fault.0
    ])
    (λ none. (c.show_status.ensures.silent none).0)
    (drive_rose c.obey-ended.result.status _ _ c.obey-ended.ensures.later c.obey-ended.ensures.cause)
    c.obey-ended.ensures.size

pub returns-clause-no_terminal : goal.returns-clause-no_terminal
returns-clause-no_terminal g c = λ ok silent.
    let came : c.obey-ended.result.status ≡ status.Ok = elim c.show_status.ensures.exact [
      | inl same ↦ sym same.0 ∙ ok
      | inr fault ↦ let never : status.Ok ≡ status.OutputFault = sym ok ∙ fault.0 in absurd (cc)
    ] in
    (c.show_status.ensures.silent (ap text_of came)).1 ∙ c.obey-ended.ensures.no_terminal silent

pub returns-clause-untouched : goal.returns-clause-untouched
returns-clause-untouched g c =
    untouched_closed (command_of (map string_bytes c.args.words.now)) c.obey-ended.result.status c.show_status.result _ _ _ _ _ _ _ _
    (elim c.show_status.ensures.exact [
      | inl same ↦ inl same.0
      | inr fault ↦ inr fault.0
    ])
    c.obey-ended.ensures.untouched

pub returns-clause-unmounted : goal.returns-clause-unmounted
returns-clause-unmounted g c =
    unmounted_closed (command_of (map string_bytes c.args.words.now)) c.obey-ended.result.status c.show_status.result _ _ _ _ _ _ _ _
    (elim c.show_status.ensures.exact [
      | inl same ↦ inl same.0
      | inr fault ↦ inr fault.0
    ])
    c.obey-ended.ensures.unmounted
