-- The refusals that are shown.
use Rattle.std.proofs.Common.{sym}
use Rattle.edi_session.specs.Files.{file_in}
use Rattle.edi_shell.proofs.commands.Opening.{no_file_at, wrong_file_at}
use Rattle.edi_shell.proofs.commands.reading.open.Goals as goal

pub returns-in_default-clause-exact : goal.returns-in_default-clause-exact
returns-in_default-clause-exact g c = λ s a t.
    no_file_at g.C.ShellCalls.at g.C.ShellCalls.stands c.args.wanted (file_in s c.args.f.now) c.args.f.now c.about.result.items s c.say.new.calls
    (c.in_default.ensures.exact s a (g.met.C.ShellCalls.lasts_told _ _ c.say.ensures.lasts t)) c.about.ensures.exact (c.in_ok-say.ensures.exact s a t)

pub returns-in-Some-wrong-clause-exact : goal.returns-in-Some-wrong-clause-exact
returns-in-Some-wrong-clause-exact g c = λ s a t.
    wrong_file_at g.C.ShellCalls.at g.C.ShellCalls.stands c.args.wanted (file_in s c.args.f.now) c.in-Some.entry c.args.f.now c.in-Some-wrong.text.now
    c.about-in-Some-wrong.result.items s c.say-in-Some-wrong.new.calls
    (c.in-Some.ensures.exact s a (g.met.C.ShellCalls.lasts_told _ _ c.say-in-Some-wrong.ensures.lasts t)) (sym c.in-Some-wrong.ensures.exact)
    c.about-in-Some-wrong.ensures.exact (c.in_ok-say-2.ensures.exact s a t)
