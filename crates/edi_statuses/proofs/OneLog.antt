-- The execution of a text has one log.
use Rattle.std.proofs.Common.{◌≡◌, ◌∙◌, ℕ, List, Result, Ok, Err, refl, sym, ap, subst}
use Rattle.edi_calls.specs.Choice.{Choices}
use Rattle.edi_calls.specs.Names.{Name}
use Rattle.edi_calls.specs.Outcome.{Ending}
use Rattle.edi_calls.specs.State.{State, Traced, fresh}
use Rattle.edi_lex.specs.declared.symbol.Mark.{Mark}
use Rattle.edi_tree.proofs.Greatest.{levels_small}
use Rattle.edi_lex.specs.declared.fault.LexFault.{LexFault}
use Rattle.edi_lex.specs.Symbols.{symbols_of}
use Rattle.edi_static.specs.Programs.{Sound}
use Rattle.edi_unit.specs.Tree.{ProgramUnit}
use Rattle.edi_meaning.specs.Select as selection
use Rattle.edi_target.proofs.Histories.{every_run_ends_through}
use Rattle.edi_scheme.specs.Laws.{parts_of}
use Rattle.edi_texts.specs.Texts.{AreAccepted, IsUnit}
use Rattle.edi_texts.proofs.Bounded.{symbols_bounded}
use Rattle.edi_texts.proofs.Thing.{one_thing}
use Rattle.edi_compile.proofs.Meant.{texts_can_be_coded}
use Rattle.edi_debug.specs.Laws.{none_drawn}
use Rattle.edi_debug.specs.Points as points
use Rattle.edi_debug.specs.stops.Kept.{Kept, nothing_kept}
use Rattle.edi_debug.specs.stops.Stops.{Watched, log_of}
use Rattle.edi_debug.specs.stops.Watching.{LogsAll}
use Rattle.edi_debug.proofs.Executions.{logs_are_meant}
use Rattle.edi_runs.specs.watch.Logs.{AreOfTree, IsLogOf}
use Rattle.edi_statuses.specs.Steps.{FindsPoints, GivesPoints, goes}

-- what the code of a unit logs
logged : (unit : ProgramUnit) (watched : List Watched) (system : State) (bound : ℕ) (choices : Choices)
    → (new : Kept) × LogsAll unit system bound (none_drawn choices) watched nothing_kept new
logged unit watched system bound choices =
    let e = every_run_ends_through (parts_of unit).words (parts_of unit).entry (parts_of unit).calls system bound choices 0 in
    (_, record { ending = e.0; machine = e.1; drawn = e.2; ends = (e.4.0, e.4.1); logs = refl })

given_points : (reading : points.Reading) (list : List Watched) → GivesPoints reading (goes list) → reading ≡ points.read list
given_points (points.read found) list h = ap (λ x. points.read x) (sym h)
given_points (points.bad_line n) list h = absurd h

module _ (text lines : List ℕ) (watched : List Watched) (finds : FindsPoints text lines (goes watched)) (system : State) (bound : ℕ) (choices : Choices) where
  -- every execution of the unit has the log of its code
  meant : (unit : ProgramUnit) → IsUnit text unit → (ending : Ending) (end : Traced) (turns drawn : ℕ) (order : List Name)
      → selection.Ends unit (fresh system) bound choices ending end turns drawn order
      → (logged unit watched (fresh system) bound choices).0.bytes ≡ log_of unit (fresh system) bound order watched
  meant unit is ending end turns drawn order selected = go (symbols_of text) refl finds.1 is
    where
      go : (known : Result (List Mark × ℕ) LexFault) → symbols_of text ≡ known → AreOfTree known finds.0 → AreAccepted known unit
          → (logged unit watched (fresh system) bound choices).0.bytes ≡ log_of unit (fresh system) bound order watched
      go (Err fault) e t u = absurd u
      go (Ok known) e t u =
          let same : finds.0 ≡ u.tree = u.tree_is.one finds.0 t.spells in
          let sound : Sound u.tree = record {
            is_bounded = ∣ record { marks = known.0; last = known.1; spells = u.tree_is.spells; is_bounded = symbols_bounded text known e } ∣₁;
            shallow = levels_small u.tree 64 u.tree_is.shallow;
            resolved = (unit, u.resolved);
          } in
          logs_are_meant u.tree unit watched (fresh system) bound choices order
          (record {
            sound = sound;
            resolved = u.resolved;
            coded = texts_can_be_coded text unit is;
            bytes = lines;
            reads = subst (λ tree. points.read_of tree lines ≡ points.read watched) same (given_points (points.read_of finds.0 lines) watched finds.2);
            ending = ending;
            end = end;
            turns = turns;
            drawn = drawn;
            selected = selected;
          })
          (logged unit watched (fresh system) bound choices).0 (logged unit watched (fresh system) bound choices).1

  pub one_log : (log other : List ℕ) → IsLogOf text system bound choices watched log → IsLogOf text system bound choices watched other → log ≡ other
  one_log log other h k =
      h.log_is ∙ sym (meant h.unit h.unit_is h.ending h.end h.turns h.drawn h.order h.selected)
      ∙ ap (λ unit. (logged unit watched (fresh system) bound choices).0.bytes) (one_thing.one_unit text h.unit k.unit h.unit_is k.unit_is)
      ∙ meant k.unit k.unit_is k.ending k.end k.turns k.drawn k.order k.selected ∙ sym k.log_is
