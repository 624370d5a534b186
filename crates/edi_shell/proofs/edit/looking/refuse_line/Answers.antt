use Rattle.std.proofs.Common.{refl}
use Rattle.std.specs.Prelude.{codes}
use Rattle.edi_session.specs.Session.{EditsBy}
use Rattle.edi_session.specs.declared.line.EditLine.TheVariants as edit
use Rattle.edi_shell.proofs.edit.Rows.{said}
use Rattle.edi_shell.proofs.edit.looking.refuse_line.Goals as goal

pub returns-clause-exact : goal.returns-clause-exact
returns-clause-exact g c = λ s title e a t.
    said g.C.ShellCalls.ready g.C.ShellCalls.failed g.C.ShellCalls.at g.C.ShellCalls.stands (EditsBy edit.Bad title e s) title e (codes "bad edit")
    (codes "bad edit\n") s c.say_on.result c.say_on.new.calls refl refl c.say_on.ensures.left (c.say_on.ensures.exact s a t)
