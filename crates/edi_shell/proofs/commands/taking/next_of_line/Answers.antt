-- A byte of a line is taken exactly by the definition.
use Rattle.std.proofs.Common.{◌≡◌, ◌==◌, ◌∷◌, ◌++◌, ◌+◌, [], true, false, sym, ap, subst, ◌∙◌, rules}
use Rattle.std.specs.Prelude.{Ok, IfSome, IfNone}
use Rattle.std.proofs.lemmas.Result.{err_from_is_err_and}
use Rattle.edi_session.specs.Shell.{echoed, took_byte}
use Rattle.edi_shell_io.specs.calls.Standing.{At}
use Rattle.edi_shell.specs.commands.Taking.{GivesByte}
use Rattle.edi_shell.proofs.commands.Lines.{byte_breaks, echoed_taken, ends_empty, fed_is, gives_line, keeps_still, last_is, line_breaks, more_is, no_bytes, none_stops}
use Rattle.edi_shell.proofs.commands.Lines.{same_empty, some_bytes}
use Rattle.edi_shell.proofs.commands.taking.next_of_line.Goals as goal

pub returns-in_err-byte-clause-exact : goal.returns-in_err-byte-clause-exact
returns-in_err-byte-clause-exact g c = λ most whole kept some none u t.
    let p = err_from_is_err_and c.from_residual.result c.from_residual.ensures.1 in
    rw (p.1, p.2)
    (none_stops g.C.ShellCalls.at g.C.ShellCalls.stands c.args.shown u.line u.now whole _ c.next_byte.new.calls u.comes (c.in_err-byte.ensures.exact u.now u.taken_is u.at_ t))

pub returns-then-empty-clause-exact : goal.returns-then-empty-clause-exact
returns-then-empty-clause-exact g c = λ most whole kept some none u t.
    let n = subst (λ b. GivesByte g.C.ShellCalls.at g.C.ShellCalls.stands (Ok b) u.now c.next_byte.new.calls) c.in_default.is (c.in_ok-byte.ensures.exact u.now u.taken_is u.at_ t) in
    ends_empty g.C.ShellCalls.at g.C.ShellCalls.stands c.args.shown u.line u.now whole c.next_byte.new.calls u.comes n.0 n.1
    (no_bytes u.line (sym (none ∙ same_empty most kept u.line some u.kept_is) ∙ c.if-empty.true)) n.2

pub returns-in_err-echo-clause-exact : goal.returns-in_err-echo-clause-exact
returns-in_err-echo-clause-exact g c = λ most whole kept some none u t.
    let before = g.met.C.ShellCalls.lasts_told _ _ c.echo.ensures.lasts t in
    let n = subst (λ b. GivesByte g.C.ShellCalls.at g.C.ShellCalls.stands (Ok b) u.now c.next_byte.new.calls) c.in_default.is (c.in_ok-byte.ensures.exact u.now u.taken_is u.at_ before) in
    let p = err_from_is_err_and c.from_residual-in_err-echo.result c.from_residual-in_err-echo.ensures.1 in
    rw (p.1, p.2)
    (line_breaks g.C.ShellCalls.at g.C.ShellCalls.stands _ whole u.line (echoed c.args.shown (10 ∷ []) u.now) c.echo.new.calls c.in_err-echo.ensures.left.0
    (last_is c.args.shown u.line u.now whole u.comes n.0 n.1
    (some_bytes u.line (sym (none ∙ same_empty most kept u.line some u.kept_is) ∙ c.if-empty.false)))
    (c.in_err-echo.ensures.exact u.now n.2 t))

pub returns-in_default-clause-exact : goal.returns-in_default-clause-exact
returns-in_default-clause-exact g c = λ most whole kept some none u t.
    let before = g.met.C.ShellCalls.lasts_told _ _ c.echo.ensures.lasts t in
    let n = subst (λ b. GivesByte g.C.ShellCalls.at g.C.ShellCalls.stands (Ok b) u.now c.next_byte.new.calls) c.in_default.is (c.in_ok-byte.ensures.exact u.now u.taken_is u.at_ before) in
    let same : c.next_byte.new.taken ≡ c.args.taken.now = subst (λ b. IfNone b (c.next_byte.new.taken ≡ c.args.taken.now)) c.in_default.is
    c.in_ok-byte.ensures.same in
    gives_line g.C.ShellCalls.at g.C.ShellCalls.stands most whole u.line kept c.next_byte.new.taken (echoed c.args.shown (10 ∷ []) u.now) c.echo.new.calls
    (last_is c.args.shown u.line u.now whole u.comes n.0 n.1
    (some_bytes u.line (sym (none ∙ same_empty most kept u.line some u.kept_is) ∙ c.if-empty.false)))
    u.kept_is (echoed_taken c.args.shown (10 ∷ []) u.now ∙ u.taken_is ∙ sym same) (c.in_ok-echo.ensures.exact u.now n.2 t)

pub returns-in_default-clause-ends : goal.returns-in_default-clause-ends
returns-in_default-clause-ends g c = λ h. absurd (let no : true ≡ false = sym h ∙ c.if-empty.false in cc)

pub returns-in_err-echo-2-clause-exact : goal.returns-in_err-echo-2-clause-exact
returns-in_err-echo-2-clause-exact g c = λ most whole kept some none u t.
    let before = g.met.C.ShellCalls.lasts_told _ _ c.echo-2.ensures.lasts t in
    let n = subst (λ b. GivesByte g.C.ShellCalls.at g.C.ShellCalls.stands (Ok b) u.now c.next_byte.new.calls) c.in-Some.is (c.in_ok-byte.ensures.exact u.now u.taken_is u.at_ before) in
    let p = err_from_is_err_and c.from_residual-in_err-echo-2.result c.from_residual-in_err-echo-2.ensures.1 in
    rw (p.1, p.2)
    (byte_breaks g.C.ShellCalls.at g.C.ShellCalls.stands c.args.shown c.in-Some.byte n.1 u.line u.now whole _ c.echo-2.new.calls u.comes n.0 n.2 c.in_err-echo-2.ensures.left.0
    (c.in_err-echo-2.ensures.exact (took_byte n.1 u.now) n.3 t))

pub returns-then-byte-eq-LINE_FEED-clause-exact : goal.returns-then-byte-eq-LINE_FEED-clause-exact
returns-then-byte-eq-LINE_FEED-clause-exact g c = λ most whole kept some none u t.
    let before = g.met.C.ShellCalls.lasts_told _ _ c.echo-2.ensures.lasts t in
    let n = subst (λ b. GivesByte g.C.ShellCalls.at g.C.ShellCalls.stands (Ok b) u.now c.next_byte.new.calls) c.in-Some.is (c.in_ok-byte.ensures.exact u.now u.taken_is u.at_ before) in
    let feed : c.in-Some.byte ≡ 10 = search rules in
    let one : c.next_byte.new.taken ≡ c.args.taken.now + 1 = subst (λ b. IfSome b (λ x. c.next_byte.new.taken ≡ c.args.taken.now + 1)) c.in-Some.is
    c.in_ok-byte.ensures.more in
    gives_line g.C.ShellCalls.at g.C.ShellCalls.stands most whole u.line kept c.next_byte.new.taken (echoed c.args.shown (10 ∷ []) (took_byte n.1 u.now)) c.echo-2.new.calls
    (fed_is c.args.shown n.1 u.line c.in-Some.byte u.now whole u.comes n.0 n.2 (ap (λ b. b == 10) feed)) u.kept_is
    (echoed_taken c.args.shown (10 ∷ []) (took_byte n.1 u.now) ∙ ap (λ k. k + 1) u.taken_is ∙ sym one)
    (subst (λ b. At g.C.ShellCalls.at c.echo-2.new.calls (echoed c.args.shown (b ∷ []) (took_byte n.1 u.now))) feed
    (c.in_ok-echo-2.ensures.exact (took_byte n.1 u.now) n.3 t))

pub returns-clause-exact : goal.returns-clause-exact
returns-clause-exact g c = λ most whole kept some none u t. λ more is.
    let before = g.met.C.ShellCalls.lasts_told _ _ c.echo-2.ensures.lasts t in
    let n = subst (λ b. GivesByte g.C.ShellCalls.at g.C.ShellCalls.stands (Ok b) u.now c.next_byte.new.calls) c.in-Some.is (c.in_ok-byte.ensures.exact u.now u.taken_is u.at_ before) in
    let other : (c.in-Some.byte == 10) ≡ false = search rules in
    let one : c.next_byte.new.taken ≡ c.args.taken.now + 1 = subst (λ b. IfSome b (λ x. c.next_byte.new.taken ≡ c.args.taken.now + 1)) c.in-Some.is
    c.in_ok-byte.ensures.more in
    record {
      now = echoed c.args.shown (c.in-Some.byte ∷ []) (took_byte n.1 u.now);
      line = u.line ++ c.in-Some.byte ∷ [];
      comes = more_is c.args.shown n.1 u.line c.in-Some.byte u.now whole u.comes n.0 n.2 other;
      kept_is = is ∙ keeps_still most kept u.line c.in-Some.byte u.kept_is;
      taken_is = echoed_taken c.args.shown (c.in-Some.byte ∷ []) (took_byte n.1 u.now) ∙ ap (λ k. k + 1) u.taken_is ∙ sym one;
      at_ = c.in_ok-echo-2.ensures.exact (took_byte n.1 u.now) n.3 t;
    }
