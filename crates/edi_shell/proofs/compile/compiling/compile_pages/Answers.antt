-- The pages of a text are fed, and the text is compiled.
use Rattle.std.proofs.Common.{◌≡◌, false, true, subst, rules}
use Rattle.std.specs.Prelude.{Ok}
use Rattle.std.proofs.lemmas.Result.{err_from_is_err_and}
use Rattle.edi_shell.specs.compile.Feeding.{Feeds}
use Rattle.edi_shell.proofs.compile.Compiles.{compiled_no_memory, compiling_broke}
use Rattle.edi_shell.proofs.compile.compiling.compile_pages.Goals as goal

pub returns-in_err-feed_file-clause-exact : goal.returns-in_err-feed_file-clause-exact
returns-in_err-feed_file-clause-exact g c = λ s file a t is few.
    let p = err_from_is_err_and c.from_residual.result c.from_residual.ensures.1 in
    rw p.1
    (compiling_broke g.C.ShellCalls.at g.C.ShellCalls.stands c.args.g.now file.bytes s c.feed_file.new.calls
    (c.in_err-feed_file.ensures.exact s file a t is few))

pub returns-then-not-branch-clause-exact : goal.returns-then-not-branch-clause-exact
returns-then-not-branch-clause-exact g c = λ s file a t is few.
    let before = g.met.C.ShellCalls.lasts_told _ _ c.say.ensures.lasts t in
    let short : c.in_ok-feed_file.field-0 ≡ false = search rules in
    let fed = subst (λ b. Feeds g.C.ShellCalls.at g.C.ShellCalls.stands (Ok b) file c.feed_file.new.intake s c.feed_file.new.calls) short
    (c.in_ok-feed_file.ensures.exact s file a before is few) in
    compiled_no_memory g.C.ShellCalls.at g.C.ShellCalls.stands c.args.g.now file.bytes s c.say.result c.plain.result.items c.say.new.calls
    c.plain.ensures.exact (c.say.ensures.exact s fed t)

pub returns-clause-exact : goal.returns-clause-exact
returns-clause-exact g c = λ s file a t is few.
    let before = g.met.C.ShellCalls.lasts_told _ _ c.finish_file.ensures.lasts t in
    let all : c.in_ok-feed_file.field-0 ≡ true = search rules in
    let fed = subst (λ b. Feeds g.C.ShellCalls.at g.C.ShellCalls.stands (Ok b) file c.feed_file.new.intake s c.feed_file.new.calls) all
    (c.in_ok-feed_file.ensures.exact s file a before is few) in
    c.finish_file.ensures.exact s file.bytes fed.0 fed.1 t
