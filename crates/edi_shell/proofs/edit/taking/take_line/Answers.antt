-- A line is taken exactly by the definition.
use Rattle.std.proofs.Common.{◌≡◌, ◌==◌, false, sym, ap, subst, ◌∙◌, arith}
use Rattle.std.specs.Prelude.{Ok, IfSome}
use Rattle.std.proofs.lemmas.Result.{err_from_is_err_and}
use Rattle.edi_edit.specs.Lines.{has_feed}
use Rattle.edi_session.specs.Shell.{next_line}
use Rattle.edi_shell.specs.commands.Taking.{GivesMore}
use Rattle.edi_shell.proofs.commands.Lines.{ended_longer, takes_on}
use Rattle.edi_shell.proofs.edit.Silent.{no_feed_kept}
use Rattle.edi_shell.proofs.edit.taking.take_line.Goals as goal

pub returns-in_err-byte-clause-exact : goal.returns-in_err-byte-clause-exact
returns-in_err-byte-clause-exact g c = λ s e a t.
    let u = c.bytes.invariant.exact s e a (g.met.C.ShellCalls.lasts_told _ _ c.next_of_line.ensures.lasts t) in
    let p = err_from_is_err_and c.from_residual.result c.from_residual.ensures.1 in
    rw (p.1, p.2) (c.in_err-byte.ensures.exact 261121 (next_line false s) c.bytes.line.items (omega arith) (c.is_empty.ensures ∙ ap (λ k. k == 0) c.bytes.line.ok.0) u t)

pub returns-in_default-clause-exact : goal.returns-in_default-clause-exact
returns-in_default-clause-exact g c = λ s e a t.
    let u = c.bytes.invariant.exact s e a (g.met.C.ShellCalls.lasts_told _ _ c.next_of_line.ensures.lasts t) in
    subst (λ b. GivesMore g.C.ShellCalls.at g.C.ShellCalls.stands false 261121 (Ok b) (next_line false s) c.bytes.line.items c.next_of_line.new.taken c.next_of_line.new.calls) c.in_default.is
    (c.in_ok-byte.ensures.exact 261121 (next_line false s) c.bytes.line.items (omega arith) (c.is_empty.ensures ∙ ap (λ k. k == 0) c.bytes.line.ok.0) u t)

pub returns-in_default-clause-more : goal.returns-in_default-clause-more
returns-in_default-clause-more g c =
    ended_longer _ _ c.args.taken.now c.bytes.taken c.next_of_line.new.taken _ c.bytes.line.items _ c.args.calls.now c.bytes.calls c.bytes.invariant.taking
    (c.is_empty.ensures ∙ ap (λ k. k == 0) c.bytes.line.ok.0) c.next_of_line.ensures.later c.in_default.is c.in_ok-byte.ensures.ends

pub bytes-preserved : goal.bytes-preserved
bytes-preserved g c = record {
  taking = takes_on _ _ _ _ _ _ _ _ _ _ _ _ c.bytes.invariant.taking c.in-Some.is c.in_ok-byte.ensures.more c.next_of_line.ensures.limit
      c.in_ok-byte.ensures.left (g.met.C.ShellCalls.lasts_on _ _ _ c.bytes.invariant.taking.lasts_ c.next_of_line.ensures.lasts);
  room = c.keep_byte.ensures.room;
  short = c.keep_byte.ensures.short;
  one_line = subst (λ l. has_feed l ≡ false) (sym c.keep_byte.ensures.keeps)
      (no_feed_kept 261121 c.bytes.line.items c.in-Some.byte c.bytes.invariant.one_line
      (subst (λ b. IfSome b (λ x. (x == 10) ≡ false)) c.in-Some.is c.in_ok-byte.ensures.within));
  exact = λ s e a t.
      let u = c.bytes.invariant.exact s e a (g.met.C.ShellCalls.lasts_told _ _ c.next_of_line.ensures.lasts t) in
      subst (λ b. GivesMore g.C.ShellCalls.at g.C.ShellCalls.stands false 261121 (Ok b) (next_line false s) c.bytes.line.items c.next_of_line.new.taken c.next_of_line.new.calls) c.in-Some.is
      (c.in_ok-byte.ensures.exact 261121 (next_line false s) c.bytes.line.items (omega arith) (c.is_empty.ensures ∙ ap (λ k. k == 0) c.bytes.line.ok.0) u t) c.keep_byte.new.line.items
      c.keep_byte.ensures.keeps;
}
