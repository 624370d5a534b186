-- The log of a run that has ended is that of the text's execution.
use Rattle.std.proofs.Common.{◌≡◌, ◌-◌, ℕ, List, Result, Ok, Err, refl, subst}
use Rattle.edi_calls.specs.Outcome.{Outcome, outcome_of}
use Rattle.edi_calls.specs.State.{State, fresh}
use Rattle.edi_lex.specs.declared.symbol.Mark.{Mark}
use Rattle.edi_lex.specs.declared.fault.LexFault.{LexFault}
use Rattle.edi_lex.specs.Symbols.{symbols_of}
use Rattle.edi_tree.specs.Tree.{Program}
use Rattle.edi_tree.specs.Whole.{program_of}
use Rattle.edi_unit.specs.Tree.{ProgramUnit}
use Rattle.edi_static.specs.Programs.{Resolved}
use Rattle.edi_target.specs.Fetch.{fetch}
use Rattle.edi_target.specs.Mach.{Mach}
use Rattle.edi_scheme.specs.Code.{code_of}
use Rattle.edi_follows.proofs.Whole.{same_outcomes}
use Rattle.edi_trace.specs.Drawn.{Drawn}
use Rattle.edi_texts.specs.Texts.{AreAccepted, IsUnit}
use Rattle.edi_debug.specs.Laws.{none_drawn}
use Rattle.edi_debug.specs.Points.{ArePoints, watched_in}
use Rattle.edi_debug.specs.declared.answer.Points.{Points}
use Rattle.edi_debug.specs.stops.Kept.{Kept, nothing_kept}
use Rattle.edi_debug.specs.stops.Watching.{LogsAll}
use Rattle.edi_debug.proofs.Executions.{logs_are_meant}
use Rattle.edi_runs.specs.declared.watch.source.Watchable.{Watchable}
use Rattle.edi_runs.specs.watch.Logs.{AreOfTree, IsLogOf, IsTreeOf}
use Rattle.edi_runs.specs.watch.Watchable.{IsWatchable}

accepted : (known : Result (List Mark × ℕ) LexFault) (tree : Program) (unit : ProgramUnit) → Resolved tree unit → AreOfTree known tree
    → AreAccepted known unit
accepted (Err fault) tree unit resolved h = h
accepted (Ok known) tree unit resolved h = record { tree = tree; tree_is = h; resolved = resolved }

-- the text has the unit to which its program is resolved
pub unit_is : (text : List ℕ) (tree : Program) (unit : ProgramUnit) → Resolved tree unit → IsTreeOf text tree → IsUnit text unit
unit_is text tree unit resolved h = accepted (symbols_of text) tree unit resolved h

-- choices of which none was drawn
fresh_choices : (choices : Drawn) → choices.drawn ≡ 0 → choices ≡ none_drawn choices.source
fresh_choices choices none = λ i. record { source = choices.source; drawn = none i }

module _ (text : List ℕ) (w : Watchable) (is : IsWatchable text w) (points : Points) (are : ArePoints (program_of w.tree) points) where
  abbrev unit : ProgramUnit
  unit = is.whole.unit

  pub log_is : (system : State) (bound : ℕ) (choices : Drawn) (start new : Kept) → choices.drawn ≡ 0 → start ≡ nothing_kept
      → LogsAll unit (fresh system) bound choices (watched_in points) start new
      → IsLogOf text system bound choices.source (watched_in points) new.bytes
  log_is system bound choices start new none empty h =
      let first = subst (λ (k : Kept). LogsAll unit (fresh system) bound choices (watched_in points) k new) empty h in
      let known = subst (λ (c : Drawn). LogsAll unit (fresh system) bound c (watched_in points) nothing_kept new) (fresh_choices choices none) first in
      let outcome : Outcome = outcome_of known.machine.system known.ending (bound - known.machine.turns) known.drawn in
      let ran : Mach (fetch (code_of unit)) 0 unit.calls (fresh system) bound choices.source outcome =
      (known.ending, known.machine, known.drawn, known.ends, refl) in
      let selected = (same_outcomes unit is.whole.can (fresh system) bound choices.source outcome).1 ran in
      record {
        unit = unit;
        unit_is = unit_is text (program_of w.tree) unit is.whole.resolved is.tree_is;
        ending = selected.0;
        end = selected.1;
        turns = selected.2;
        drawn = selected.3;
        order = selected.4;
        selected = selected.5;
        log_is = logs_are_meant (program_of w.tree) unit (watched_in points) (fresh system) bound choices.source selected.4
            (record {
              sound = is.whole.sound;
              resolved = is.whole.resolved;
              coded = is.whole.can;
              bytes = are.0;
              reads = are.1;
              ending = selected.0;
              end = selected.1;
              turns = selected.2;
              drawn = selected.3;
              selected = selected.5;
            }) new known;
      }
