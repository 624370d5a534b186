-- By the address alone.
use Rattle.std.proofs.Common.{sym, ◌∙◌}
use Rattle.edi_debug.proofs.Elsewhere.{stops_at, stops_nowhere}
use Rattle.edi_debug.proofs.running.may_stop.Goals as goal

pub returns-in-Some : goal.returns-in-Some
returns-in-Some c = record {
  exact = c.is_near.ensures.exact ∙ stops_at c.args.near.now c.args.kernel.now.arrived c.in-Some.at (sym c.standing_at.ensures ∙ c.in-Some.is);
}

pub returns-in-None : goal.returns-in-None
returns-in-None c = record { exact = stops_nowhere c.args.near.now c.args.kernel.now.arrived (sym c.standing_at.ensures ∙ c.in-None.is) }
