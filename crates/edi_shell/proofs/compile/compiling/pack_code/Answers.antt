-- The file of a code is stored, or it is shown why not.
use Rattle.std.proofs.Common.{◌<◌, length, subst, sym, ◌∙◌}
use Rattle.edi_shell.proofs.compile.Compiles.{compiled_no_memory, compiled_stored, few_bytes}
use Rattle.edi_shell.proofs.compile.compiling.pack_code.Goals as goal

pub store_code-requires-clause-size : goal.store_code-requires-clause-size
store_code-requires-clause-size g c =
    subst (λ b. length b < 4294967296) (sym c.deref.ensures.value) (few_bytes c.in-Ok.bytes.items c.in-Ok.ensures.sound)

pub returns-in-Ok-clause-exact : goal.returns-in-Ok-clause-exact
returns-in-Ok-clause-exact g c = λ s text own a t.
    compiled_stored g.C.ShellCalls.at g.C.ShellCalls.stands c.args.g.now text s c.args.code.now c.deref.result.now c.store_code.result
    c.store_code.new.calls own
    (c.deref.ensures.value ∙ c.in-Ok.ensures.exact) (c.store_code.ensures.exact s a t)

pub returns-in-Err-clause-exact : goal.returns-in-Err-clause-exact
returns-in-Err-clause-exact g c = λ s text own a t.
    compiled_no_memory g.C.ShellCalls.at g.C.ShellCalls.stands c.args.g.now text s c.say.result c.plain.result.items c.say.new.calls c.plain.ensures.exact
    (c.say.ensures.exact s a t)
