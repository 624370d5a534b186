-- Where no point may stand nothing is logged.
use Rattle.std.proofs.Common.{sym, ap, ◌∙◌}
use Rattle.edi_debug.specs.Points.{watched_in}
use Rattle.edi_debug.specs.stops.Kept.{after_lines}
use Rattle.edi_debug.proofs.Elsewhere.{nothing_stands}
use Rattle.edi_debug.proofs.Logged.{grows_none}
use Rattle.edi_debug.proofs.running.log_stop.Goals as goal

pub returns-else-may_stop : goal.returns-else-may_stop
returns-else-may_stop c = record {
  grows = grows_none c.args.log.now;
  exact = λ unit bound mapped fits small.
      sym (ap (λ l. after_lines l c.args.log.now)
      (nothing_stands unit bound c.args.stops.now.near.now c.args.kernel.now.store c.args.kernel.now.used c.args.kernel.now.arrived
      (watched_in c.args.stops.now.points.now) (sym c.may_stop.ensures.exact ∙ c.if-may_stop.false) (c.requires.near unit mapped)));
}
