-- Where no byte comes, the input has failed at the next one.
use Rattle.std.proofs.Common.{◌≡◌, false, sym, subst, rules}
use Rattle.std.specs.Prelude.{nat_le}
use Rattle.std.proofs.lemmas.Result.{err_from_is_err_and}
use Rattle.edi_session.specs.Shell.{limit}
use Rattle.edi_shell.proofs.commands.Standing.{no_byte}
use Rattle.edi_shell.proofs.commands.taking.next_byte.Goals as goal

pub returns-in_err-byte-clause-exact : goal.returns-in_err-byte-clause-exact
returns-in_err-byte-clause-exact g c = λ s e a t.
    let p = err_from_is_err_and c.from_residual.result c.from_residual.ensures.1 in
    let open_ : nat_le limit c.args.taken.now ≡ false = search rules in
    rw (p.1, p.2)
    (no_byte g.C.ShellCalls.at g.C.ShellCalls.stands _ s c.take.new.self c.in_err-byte.ensures.left.0
    (subst (λ k. nat_le limit k ≡ false) (sym e) open_) (c.in_err-byte.ensures.exact s a t))
