use Rattle.edi_shell.proofs.commands.taking.echo.Goals as goal

pub returns-then-shown-clause-exact : goal.returns-then-shown-clause-exact
returns-then-shown-clause-exact g c = λ s a t. rw c.if-shown.true (c.show.ensures.exact s a t)

pub returns-clause-exact : goal.returns-clause-exact
returns-clause-exact g c = λ s a t. rw c.if-shown.false a
