-- The fault is told with its line.
use Rattle.std.proofs.Common.{Err, subst}
use Rattle.edi_compile.specs.Compiled.{IsCodeOf}
use Rattle.edi_texts.specs.Answers.{Gives}
use Rattle.edi_shell.proofs.compile.Compiles.{compiled_no_memory, compiled_refused}
use Rattle.edi_shell.proofs.compile.compiling.refuse_text.Goals as goal

pub returns-in-At-clause-exact : goal.returns-in-At-clause-exact
returns-in-At-clause-exact g c = λ s text to why a t.
    let fault = subst (λ r. Gives (IsCodeOf text) text (Err r)) c.in-At.is why in
    compiled_refused g.C.ShellCalls.at g.C.ShellCalls.stands to text s c.in-At.kind c.in-At.line c.say.result c.fault_line.result.items c.say.new.calls
    (c.in-At.pass, fault) c.fault_line.ensures.exact (c.say.ensures.exact s a t)

pub returns-in-NoMemory-clause-exact : goal.returns-in-NoMemory-clause-exact
returns-in-NoMemory-clause-exact g c = λ s text to why a t.
    compiled_no_memory g.C.ShellCalls.at g.C.ShellCalls.stands to text s c.say-in-NoMemory.result c.plain.result.items c.say-in-NoMemory.new.calls
    c.plain.ensures.exact (c.say-in-NoMemory.ensures.exact s a t)
