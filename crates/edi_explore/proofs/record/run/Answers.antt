-- The run is that of the machine, and so of the meaning.
use Rattle.std.proofs.Common.{◌≡◌, ap, refl, sym, ◌∙◌, subst}
use Rattle.edi_calls.specs.Choice.{listed}
use Rattle.edi_calls.specs.State.{State}
use Rattle.edi_trace.specs.Drawn.{Drawn}
use Rattle.edi_explore.specs.Found.{AreChoices}
use Rattle.edi_explore.specs.Systems.{system_of}
use Rattle.edi_explore.proofs.Findings.{SelectedBy, ran}
use Rattle.edi_explore.proofs.record.run.Goals as goal

pub returns-clause-exact : goal.returns-clause-exact
returns-clause-exact c = λ unit coded is. record {
  choices_are = refl;
  small = subst AreChoices c.deref.ensures.value c.are_choices.ensures;
  came = λ end same.
      let list : c.in_ok-source.source.source ≡ listed c.args.choices.items = ap (λ (d : Drawn). d.source) c.in_ok-source.ensures ∙ ap listed c.deref-2.ensures.value in
      let s = subst (λ (s : State). SelectedBy unit s c.args.turns c.args.choices.items end c.run_counted-ran.new.kernel.used c.run_counted-ran.result.moves c.run_counted-ran.new.choices.drawn c.run_counted-ran.new.calls.shown.items) c.in_ok-calls.ensures.system
      (ran unit coded c.args.code.now is (system_of c.in_ok-calls.calls) c.args.turns c.args.choices.items c.in_ok-source.source.source list
      c.run_counted-ran.result.ending c.run_counted-ran.new.kernel (system_of c.run_counted-ran.new.calls) c.run_counted-ran.new.choices
      c.run_counted-ran.result.moves c.run_counted-ran.ensures.used c.run_counted-ran.ensures.exact end same) in
      record {
        outcome = s.0;
        selects = s.1;
        ends = s.2;
        turns = s.3 ∙ sym c.turns_used.ensures;
        shown = s.4 ∙ sym (ap (λ x. x.items) c.into_shown.ensures);
        moves = s.5;
      };
}
