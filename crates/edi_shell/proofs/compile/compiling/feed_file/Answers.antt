-- The pages of a file are its bytes.
use Rattle.std.proofs.Common.{◌≡◌, ◌*◌, rules, subst, take}
use Rattle.std.specs.Prelude.{Ok}
use Rattle.std.proofs.lemmas.Result.{err_from_is_err_and}
use Rattle.edi_session.specs.Files.{file_in}
use Rattle.edi_shell_io.specs.calls.Standing.{ReadsPage}
use Rattle.edi_shell.proofs.compile.Compiles.{next_page, whole_file}
use Rattle.edi_shell.proofs.compile.compiling.feed_file.Goals as goal

pub returns-in_err-n-clause-exact : goal.returns-in_err-n-clause-exact
returns-in_err-n-clause-exact g c = λ s file a t is few.
    let h = c.loop-i.invariant.exact s file a (g.met.C.ShellCalls.lasts_told _ _ c.read_page.ensures.lasts t) is in
    let p = err_from_is_err_and c.from_residual.result c.from_residual.ensures.1 in
    rw p.1 (c.in_err-n.ensures.exact s h.1 t)

pub returns-in_default-clause-exact : goal.returns-in_default-clause-exact
returns-in_default-clause-exact g c = λ s file a t is few.
    let h = c.loop-i.invariant.exact s file a (g.met.C.ShellCalls.lasts_told _ _ c.read_page.ensures.lasts t) is in
    (c.in_ok-n.ensures.exact s h.1 t).1

pub returns-in_default-feed-clause-exact : goal.returns-in_default-feed-clause-exact
returns-in_default-feed-clause-exact g c = λ s file a t is few.
    let h = c.loop-i.invariant.exact s file a (g.met.C.ShellCalls.lasts_told _ _ c.read_page.ensures.lasts t) is in
    (c.in_ok-n.ensures.exact s h.1 t).1

pub loop-i-preserved : goal.loop-i-preserved
loop-i-preserved g c = record {
  ready = c.in_ok-n.ensures.left;
  lasts = g.met.C.ShellCalls.lasts_on _ _ _ c.loop-i.invariant.lasts c.read_page.ensures.lasts;
  exact = λ s file a t is.
      let h = c.loop-i.invariant.exact s file a (g.met.C.ShellCalls.lasts_told _ _ c.read_page.ensures.lasts t) is in
      let r = subst (λ x. ReadsPage g.C.ShellCalls.at g.C.ShellCalls.stands (Ok x) (file_in s c.args.f.now) c.loop-i.i c.read_page.new.into s
      c.read_page.new.self)
      c.in-Some.is (c.in_ok-n.ensures.exact s h.1 t) in (
        next_page c.feed.new.self (file_in s c.args.f.now) file c.in-Some.n c.loop-i.i c.read_page.new.into c.split_at.result.0.now is
            c.split_at.ensures.front r.0 (c.in-Ok.ensures.taken (take (512 * c.loop-i.i) file.bytes) h.0),
        r.1,
      );
}

pub returns-clause-exact : goal.returns-clause-exact
returns-clause-exact g c = λ s file a t is few.
    let h = c.loop-i.invariant.exact s file a t is in
    let end : c.loop-i.i ≡ c.args.pages = search rules in
    (whole_file c.loop-i.intake file.bytes c.args.pages c.loop-i.i end few h.0, h.1)
