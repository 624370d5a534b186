use Rattle.std.proofs.Common.{rules, ℤ, ◌-◌, sym, ap, subst, ◌∙◌, arith}
use Rattle.std.specs.Int.{w16, cast_signed, cast_unsigned}
use Rattle.std.proofs.lemmas.Int.{to_z-of_z}
use Rattle.edi_target.specs.Arrivals.{Arrived}
use Rattle.edi_debug.specs.Looking.{arrived_now}
use Rattle.edi_debug.specs.Points.{watched}
use Rattle.edi_debug.specs.stops.Seen.{SlotFits}
use Rattle.edi_debug.specs.stops.Stops.{line_of}
use Rattle.edi_debug.specs.Kept.{Grows}
use Rattle.edi_debug.proofs.Logged.{grows_line}
use Rattle.edi_debug.proofs.Looks.{sight_logged}
use Rattle.edi_debug.proofs.running.log_sight.Goals as goal

pub returns-in-Some : goal.returns-in-Some
returns-in-Some c = record {
  exact = λ unit bound mapped fits small.
      let y : Arrived = arrived_now c.args.kernel.now.store c.args.activity.now (bound - c.args.turns) in
      let value : ℤ = cast_signed w16 (cast_unsigned w16 c.ordinal-value.result) in
      sight_logged unit bound y (watched c.args.point.now) c.args.sight c.in-Some.slot c.args.turns c.deref-in-Some.result.now value c.args.log.now
      c.add.new.self c.in-Some.is (sym c.if-is_there.true ∙ c.is_there.ensures.exact unit mapped) (omega (arith, small))
      (c.deref-in-Some.ensures.0 ∙ c.line_of.ensures.exact ∙ ap (λ name. line_of c.args.turns c.args.point.now.line name value) c.deref.ensures.value)
      (to_z-of_z w16 c.ordinal-value.result (search rules)
      ∙ c.ordinal-value.ensures.exact unit bound mapped (subst (SlotFits unit c.args.sight.block) c.in-Some.is fits.slot_fits))
      c.add.ensures.exact;
  grows = subst (Grows c.args.log.now) (sym c.add.ensures.exact) (grows_line _ c.args.log.now);
}
