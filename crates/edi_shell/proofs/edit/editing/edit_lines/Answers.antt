use Rattle.std.proofs.Common.{subst, arith}
use Rattle.std.specs.Prelude.{Ok}
use Rattle.std.proofs.lemmas.Result.{err_from_is_err_and}
use Rattle.edi_session.specs.Session.{Goes}
use Rattle.edi_shell.proofs.edit.Coming.{goes_on, is_left, is_stopped}
use Rattle.edi_shell.specs.edit.Rows.{Edits}
use Rattle.edi_shell.proofs.edit.editing.edit_lines.Goals as goal

pub returns-in_err-edit_next-clause-exact : goal.returns-in_err-edit_next-clause-exact
returns-in_err-edit_next-clause-exact g c = λ bound choices s count mode a t.
    let u = c.lines.invariant.exact bound choices s count mode a (g.met.C.ShellCalls.lasts_told _ _ c.edit_next.ensures.lasts t) in
    let p = err_from_is_err_and c.from_residual.result c.from_residual.ensures.1 in
    rw (p.1, p.2)
    (is_stopped bound choices g.C.ShellCalls.at g.C.ShellCalls.stands s c.lines.taken c.edit_next.new.taken c.args.f.now c.lines.text _ c.lines.calls
    c.edit_next.new.calls u (c.in_err-edit_next.ensures.exact bound choices u.now u.behind.taken_is u.mode_is u.at_ t))

pub returns-then-branch-clause-exact : goal.returns-then-branch-clause-exact
returns-then-branch-clause-exact g c = λ bound choices s count mode a t.
    let u = c.lines.invariant.exact bound choices s count mode a (g.met.C.ShellCalls.lasts_told _ _ c.edit_next.ensures.lasts t) in
    is_left bound choices g.C.ShellCalls.at g.C.ShellCalls.stands s c.lines.taken c.edit_next.new.taken c.args.f.now c.lines.text c.edit_next.new.text
    c.lines.calls c.edit_next.new.calls u
    (subst (λ left. Edits g.C.ShellCalls.at g.C.ShellCalls.stands (Ok left) (Goes bound choices u.now) u.now c.edit_next.new.taken c.args.f.now
    c.edit_next.new.text c.edit_next.new.calls) c.if-branch.true
    (c.in_ok-edit_next.ensures.exact bound choices u.now u.behind.taken_is u.mode_is u.at_ t))

pub lines-preserved : goal.lines-preserved
lines-preserved g c = record {
  ready = c.in_ok-edit_next.ensures.left;
  limit = c.edit_next.ensures.limit;
  later = omega (arith, c.lines.invariant.later, c.edit_next.ensures.later);
  room = c.edit_next.ensures.room;
  lasts = g.met.C.ShellCalls.lasts_on _ _ _ c.lines.invariant.lasts c.edit_next.ensures.lasts;
  exact = λ bound choices s count mode a t.
      let u = c.lines.invariant.exact bound choices s count mode a (g.met.C.ShellCalls.lasts_told _ _ c.edit_next.ensures.lasts t) in
      goes_on bound choices g.C.ShellCalls.at g.C.ShellCalls.stands s c.lines.taken c.edit_next.new.taken c.args.f.now c.lines.text c.edit_next.new.text
      c.lines.calls c.edit_next.new.calls u
      (subst (λ left. Edits g.C.ShellCalls.at g.C.ShellCalls.stands (Ok left) (Goes bound choices u.now) u.now c.edit_next.new.taken c.args.f.now
      c.edit_next.new.text c.edit_next.new.calls) c.if-branch.false
      (c.in_ok-edit_next.ensures.exact bound choices u.now u.behind.taken_is u.mode_is u.at_ t));
}
