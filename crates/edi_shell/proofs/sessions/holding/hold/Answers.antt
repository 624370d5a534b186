-- The loop of a session.
use Rattle.std.proofs.Common.{◌<◌, ◌∙◌, subst, rules}
use Rattle.std.specs.Prelude.{Ok, Err}
use Rattle.edi_session.specs.Session.{Goes}
use Rattle.edi_shell.specs.edit.Chain.{LinesCome}
use Rattle.edi_shell.proofs.sessions.Sessions.{below, comes_on, fewer, stops_since, within_all}
use Rattle.edi_shell.proofs.sessions.holding.hold.Goals as goal

pub lines-preserved : goal.lines-preserved
lines-preserved g c =
    let more : c.lines.taken < c.command.new.taken = c.in-Ok.ensures.more in
    record {
      ready = c.in-Ok.ensures.left;
      limit = c.command.ensures.limit;
      room = search (rules, c.lines.invariant.room);
      source = c.command.ensures.source ∙ c.lines.invariant.source;
      lasts = g.met.C.ShellCalls.lasts_on _ _ _ c.lines.invariant.lasts c.command.ensures.lasts;
      few = fewer 4194304 _ c.lines.taken c.command.new.taken c.lines.choices.drawn c.command.new.choices.drawn c.args.bound more c.command.ensures.limit
          c.command.ensures.drawn c.lines.invariant.few;
      exact = λ few start w t.
          let u = c.lines.invariant.exact few start w (g.met.C.ShellCalls.lasts_told _ _ c.command.ensures.lasts t) in
          comes_on c.args.bound c.args.choices.now.source g.C.ShellCalls.at g.C.ShellCalls.stands start c.lines.taken c.lines.choices.drawn
          c.command.new.taken c.command.new.choices.drawn c.lines.calls c.command.new.calls u
          (subst (λ from. LinesCome c.args.bound from g.C.ShellCalls.at g.C.ShellCalls.stands (Goes c.args.bound from u.now) (Ok tt) u.now
          c.command.new.taken c.command.new.choices.drawn c.command.new.calls) c.lines.invariant.source
          (c.in-Ok.ensures.exact (below _ _ _ c.lines.invariant.few few) u.now u.awaits t));
    }

pub returns-in-Err-clause-exact : goal.returns-in-Err-clause-exact
returns-in-Err-clause-exact g c = λ few start w t.
    let before = g.met.C.ShellCalls.lasts_told _ _ c.close.ensures.lasts t in
    let u = c.lines.invariant.exact few start w (g.met.C.ShellCalls.lasts_told _ _ c.command.ensures.lasts before) in
    c.close.ensures.exact c.args.bound c.args.choices.now.source start c.command.new.choices.drawn
    (stops_since c.args.bound c.args.choices.now.source g.C.ShellCalls.at g.C.ShellCalls.stands start c.in-Err.end c.lines.taken c.lines.choices.drawn
    c.command.new.taken c.command.new.choices.drawn c.lines.calls c.command.new.calls u
    (subst (λ from. LinesCome c.args.bound from g.C.ShellCalls.at g.C.ShellCalls.stands (Goes c.args.bound from u.now) (Err c.in-Err.end) u.now
    c.command.new.taken c.command.new.choices.drawn c.command.new.calls) c.lines.invariant.source
    (c.in-Err.ensures.exact (below _ _ _ c.lines.invariant.few few) u.now u.awaits before)))
    t

pub returns-in-Err-clause-drawn : goal.returns-in-Err-clause-drawn
returns-in-Err-clause-drawn g c = within_all _ _ _ c.command.ensures.most c.lines.invariant.few
