-- The run is that of the machine, and so of the meaning.
use Rattle.std.proofs.Common.{◌≡◌, ap, sym, ◌∙◌, subst}
use Rattle.edi_calls.specs.Choice.{listed}
use Rattle.edi_calls.specs.State.{State}
use Rattle.edi_trace.specs.Drawn.{Drawn}
use Rattle.edi_kernel.specs.declared.ends.Ending.TheVariants as ending
use Rattle.edi_kernel.specs.Kernel.{ending_of}
use Rattle.edi_explore.specs.Choices.{turn_limit}
use Rattle.edi_explore.specs.Systems.{system_of}
use Rattle.edi_explore.proofs.Endings.{ending_same}
use Rattle.edi_explore.proofs.Findings.{SelectedBy, ran}
use Rattle.edi_explore.proofs.cut.run_bounded.Goals as goal

pub returns : goal.returns
returns c = record {
  exact = λ unit coded is cut.
      let same : c.run_counted-ran.result.ending ≡ ending.Turns =
      ending_same c.run_counted-ran.result.ending ending.Turns (sym c.eq-2.ensures ∙ cut) in
      let list : c.in_ok-source.source.source ≡ listed c.args.choices.now = ap (λ (d : Drawn). d.source) c.in_ok-source.ensures in
      let s = subst (λ (s : State). SelectedBy unit s c.args.turns c.args.choices.now turn_limit c.run_counted-ran.new.kernel.used
      c.run_counted-ran.result.moves c.run_counted-ran.new.choices.drawn c.run_counted-ran.new.calls.shown.items) c.in_ok-calls.ensures.system
      (ran unit coded c.args.code.now is (system_of c.in_ok-calls.calls) c.args.turns c.args.choices.now c.in_ok-source.source.source list
      c.run_counted-ran.result.ending c.run_counted-ran.new.kernel (system_of c.run_counted-ran.new.calls) c.run_counted-ran.new.choices
      c.run_counted-ran.result.moves c.run_counted-ran.ensures.used c.run_counted-ran.ensures.exact turn_limit (ap ending_of same)) in
      record { outcome = s.0; selects = s.1; cut = s.2; moved = s.5; draws = s.6 ∙ sym c.drawn.ensures };
}
