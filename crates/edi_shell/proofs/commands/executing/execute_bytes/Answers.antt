-- The bytes of a code file are executed, or refused.
use Rattle.edi_shell.proofs.commands.Running.{bytes_refused, bytes_run}
use Rattle.edi_shell.proofs.commands.executing.execute_bytes.Goals as goal

pub returns-in-Err-clause-exact : goal.returns-in-Err-clause-exact
returns-in-Err-clause-exact g c = λ few s e a t.
    bytes_refused g.C.ShellCalls.at g.C.ShellCalls.stands c.args.f.now c.args.bound c.args.choices.now.source c.args.bytes.now c.args.choices.now.drawn s
    c.refuse_code.new.calls c.in-Err.fault c.refuse_code.result c.in-Err.ensures.first e (c.refuse_code.ensures.exact s a t)

pub returns-in-Ok-clause-exact : goal.returns-in-Ok-clause-exact
returns-in-Ok-clause-exact g c = λ few s e a t.
    bytes_run g.C.ShellCalls.at g.C.ShellCalls.stands c.args.f.now c.args.bound c.args.choices.now.source c.args.bytes.now c.run_code.new.choices.drawn s
    c.run_code.new.calls c.in-Ok.code c.run_code.result c.in-Ok.ensures.sound c.in-Ok.ensures.code (c.run_code.ensures.exact few s e a t)
