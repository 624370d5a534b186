-- A text is taken exactly by the definition.
use Rattle.std.proofs.Common.{◌≡◌, ◌+◌, ◌++◌, ◌∷◌, ◌==◌, ◌&&◌, [], true, false, length, take, sym, ap, subst, ◌∙◌, arith, rules, length-append}
use Rattle.std.specs.Prelude.{Ok, IfSome, IfNone}
use Rattle.std.proofs.lemmas.Result.{err_from_is_err_and}
use Rattle.std.proofs.lemmas.Bool.{ne_eqb}
use Rattle.std.proofs.Math.Bool.{and-false}
use Rattle.edi_session.specs.Shell.{ends_text, line_with, next_text, text_with, took_byte}
use Rattle.edi_shell.specs.commands.Taking.{GivesByte}
use Rattle.edi_shell.proofs.commands.Entered.{dot_is, joined, more_is, no_text, text_given, text_kept, whole_is}
use Rattle.edi_shell.proofs.commands.entering.take_text.Goals as goal
use Rattle.edi_shell.proofs.commands.entering.take_text.Goals.{else-progress-2-via-then-progress-2+else-byte-eq-LINE_FEED, else-progress-2-via-else-progress-2}

pub returns-in_err-byte-clause-exact : goal.returns-in_err-byte-clause-exact
returns-in_err-byte-clause-exact g c = λ s e a t.
    let u = c.bytes.invariant.exact s e a (g.met.C.ShellCalls.lasts_told _ _ c.next_byte.ensures.lasts t) in
    let p = err_from_is_err_and c.from_residual.result c.from_residual.ensures.1 in
    rw (p.1, p.2)
    (no_text g.C.ShellCalls.at g.C.ShellCalls.stands u.text u.line u.now (next_text s) _ c.next_byte.new.calls u.comes
    (c.in_err-byte.ensures.exact u.now u.taken_is u.at_ t))

pub returns-then-progress-clause-exact : goal.returns-then-progress-clause-exact
returns-then-progress-clause-exact g c = λ s e a t.
    let u = c.bytes.invariant.exact s e a (g.met.C.ShellCalls.lasts_told _ _ c.next_byte.ensures.lasts t) in
    let n = subst (λ b. GivesByte g.C.ShellCalls.at g.C.ShellCalls.stands (Ok b) u.now c.next_byte.new.calls) c.in_default.is
    (c.in_ok-byte.ensures.exact u.now u.taken_is u.at_ t) in
    let same : c.next_byte.new.taken ≡ c.bytes.taken = subst (λ b. IfNone b (c.next_byte.new.taken ≡ c.bytes.taken)) c.in_default.is
    c.in_ok-byte.ensures.same in
    text_given g.C.ShellCalls.at g.C.ShellCalls.stands c.bytes.progress.whole c.next_byte.new.taken (next_text s) u.text c.bytes.room u.now
    c.next_byte.new.calls
    (dot_is u.text u.line u.now (next_text s) u.comes n.0 n.1 (sym u.so_far.ends ∙ c.if-progress.true)) u.so_far.lines_
    (text_kept c.bytes.progress.length c.bytes.progress.whole c.bytes.progress.dot u.text u.line c.bytes.room u.so_far u.kept) (u.taken_is ∙ sym same) n.2

pub returns-then-byte-eq-LINE_FEED-clause-exact : goal.returns-then-byte-eq-LINE_FEED-clause-exact
returns-then-byte-eq-LINE_FEED-clause-exact g c = λ s e a t.
    let u = c.bytes.invariant.exact s e a (g.met.C.ShellCalls.lasts_told _ _ c.next_byte.ensures.lasts t) in
    let n = subst (λ b. GivesByte g.C.ShellCalls.at g.C.ShellCalls.stands (Ok b) u.now c.next_byte.new.calls) c.in-Some.is
    (c.in_ok-byte.ensures.exact u.now u.taken_is u.at_ t) in
    let one : c.next_byte.new.taken ≡ c.bytes.taken + 1 = subst (λ b. IfSome b (λ x. c.next_byte.new.taken ≡ c.bytes.taken + 1)) c.in-Some.is
    c.in_ok-byte.ensures.more in
    let feed : (c.in-Some.byte == 10) ≡ true = search rules in
    text_given g.C.ShellCalls.at g.C.ShellCalls.stands c.bytes.progress.whole c.next_byte.new.taken (next_text s) u.text c.bytes.room (took_byte n.1 u.now)
    c.next_byte.new.calls
    (whole_is u.text u.line n.1 c.in-Some.byte u.now (next_text s) u.comes n.0 n.2
    (ap (λ b. b && ends_text u.line) feed ∙ sym u.so_far.ends ∙ c.if-progress-2.true)) u.so_far.lines_
    (text_kept c.bytes.progress.length c.bytes.progress.whole c.bytes.progress.dot u.text u.line c.bytes.room u.so_far u.kept)
    (ap (λ k. k + 1) u.taken_is ∙ sym one) n.3

pub bytes-preserved : goal.bytes-preserved
bytes-preserved g c =
    let law = g.met.C.ShellCalls in
    let one : c.next_byte.new.taken ≡ c.bytes.taken + 1 = subst (λ b. IfSome b (λ x. c.next_byte.new.taken ≡ c.bytes.taken + 1)) c.in-Some.is
    c.in_ok-byte.ensures.more in
    let more : (c.in-Some.byte == 10 && c.bytes.progress.dot) ≡ false = elim c.else-progress-2.branch [
      | else-progress-2-via-then-progress-2+else-byte-eq-LINE_FEED w ↦ ap (λ b. b && c.bytes.progress.dot) (ne_eqb c.in-Some.byte 10 w.if-byte-eq-LINE_FEED.false)
      | else-progress-2-via-else-progress-2 w ↦ ap (λ d. c.in-Some.byte == 10 && d) w.if-progress-2.false ∙ and-false (c.in-Some.byte == 10)
    ] in
    record {
      ready = c.in_ok-byte.ensures.left;
      limit = c.next_byte.ensures.limit;
      later = omega (arith, one, c.bytes.invariant.later);
      few = let longer = c.with_byte-progress.ensures.one in omega (arith, one, longer, c.bytes.invariant.few);
      same = c.keep_byte.ensures.same ∙ c.bytes.invariant.same;
      lasts = law.lasts_on _ _ _ c.bytes.invariant.lasts c.next_byte.ensures.lasts;
      exact = λ s e a t.
          let u = c.bytes.invariant.exact s e a (law.lasts_told _ _ c.next_byte.ensures.lasts t) in
          let n = subst (λ b. GivesByte g.C.ShellCalls.at g.C.ShellCalls.stands (Ok b) u.now c.next_byte.new.calls) c.in-Some.is
          (c.in_ok-byte.ensures.exact u.now u.taken_is u.at_ t) in
          let b = c.in-Some.byte in
          record {
            now = took_byte n.1 u.now;
            text = text_with b u.text u.line;
            line = line_with b u.line;
            comes = more_is u.text u.line n.1 b u.now (next_text s) u.comes n.0 n.2 (ap (λ d. b == 10 && d) (sym u.so_far.ends) ∙ more);
            so_far = c.with_byte-progress.ensures.exact u.text u.line u.so_far;
            kept = ap (λ k. take k c.keep_byte.new.room) c.with_byte-progress.ensures.one
                ∙ c.keep_byte.ensures.kept (u.text ++ u.line) (length-append u.text u.line ∙ sym u.so_far.all) u.kept
                ∙ ap (λ k. take k ((u.text ++ u.line) ++ b ∷ [])) (sym c.keep_byte.ensures.same)
                ∙ ap (take (length c.keep_byte.new.room)) (sym (joined b u.text u.line));
            taken_is = ap (λ k. k + 1) u.taken_is ∙ sym one;
            at_ = n.3;
          };
    }
