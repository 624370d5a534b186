-- The line of a slot is that of its file.
use Rattle.std.proofs.Common.{sym, subst}
use Rattle.edi_calls.specs.State.{slot_at}
use Rattle.edi_session.specs.Shell.{shown_by, state_in}
use Rattle.edi_shell_io.specs.calls.Standing.{Leads}
use Rattle.edi_shell.proofs.commands.SlotLines.{entry_is, none_is}
use Rattle.edi_shell.proofs.commands.catalogue.list_slot.Goals as goal

pub returns-in-Some-clause-exact : goal.returns-in-Some-clause-exact
returns-in-Some-clause-exact g c = λ s a t.
    subst (λ b. Leads g.C.ShellCalls.at g.C.ShellCalls.stands c.say.result (shown_by b s) c.say.new.calls)
    (entry_is (slot_at (state_in s).slots c.args.i) c.in-Some.entry c.entry_line.result.items
    (c.in-Some.ensures.exact s a (g.met.C.ShellCalls.lasts_told _ _ c.say.ensures.lasts t)) c.entry_line.ensures.exact)
    (c.say.ensures.exact s a t)

pub returns-in-None-clause-exact : goal.returns-in-None-clause-exact
returns-in-None-clause-exact g c = λ s a t.
    subst (λ b. g.C.ShellCalls.at c.args.calls.now (state_in (shown_by b s)) s.shown_before)
    (sym (none_is (slot_at (state_in s).slots c.args.i) (c.in-None.ensures.exact s a t))) a
