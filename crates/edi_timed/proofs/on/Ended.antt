-- The timeline of a run that has ended without a fault is that of the code, and of each text whose code this is.
use Rattle.std.proofs.Common.{◌≡◌, ℕ, List, ◌∙◌, ap, refl, subst}
use Rattle.edi_calls.specs.State.{State, fresh}
use Rattle.edi_unit.specs.Tree.{ProgramUnit}
use Rattle.edi_target.specs.Check.{CodeParts}
use Rattle.edi_scheme.specs.Laws.{parts_of}
use Rattle.edi_follows.specs.Theorem.{CanBeCoded}
use Rattle.edi_texts.specs.Texts.{IsUnit}
use Rattle.edi_trace.specs.Drawn.{Drawn}
use Rattle.edi_kernel.specs.Runs.{EndsAfter}
use Rattle.edi_timeline.specs.Stints.{stints_of}
use Rattle.edi_timeline.specs.Timelines.{Told, told_of}
use Rattle.edi_timed.specs.Ran.{stints_of_code}
use Rattle.edi_timed.specs.Timed.{HasStints}
use Rattle.edi_timed.proofs.meant.Selected.{runs_have_stints}
use Rattle.edi_timed.specs.on.Timelines.{IsOf, IsTimelineOf, Timable, text, code}

module _ (system : State) (bound : ℕ) (choices : Drawn) (none : choices.drawn ≡ 0) (told : Told) where
  -- the stints of a run with these choices, where so many were drawn before it
  abbrev Ran : (parts : CodeParts) → HasStints parts (fresh system) bound choices told → (before : ℕ) → Type 0
  Ran parts has before =
      (ends : EndsAfter parts (fresh system) bound choices.source before has.end has.machine has.drawn)
      × (told ≡ told_of (stints_of_code parts (fresh system) bound choices.source before ends.0))

  first : (parts : CodeParts) (has : HasStints parts (fresh system) bound choices told) → Ran parts has 0
  first parts has = subst (Ran parts has) none (has.ends, has.stints)

  of_code : (parts : CodeParts) → HasStints parts (fresh system) bound choices told → IsTimelineOf (code parts) system bound choices.source told
  of_code parts has =
      let ran : Ran parts has 0 = first parts has in (
        stints_of_code parts (fresh system) bound choices.source 0 ran.0.0,
        record {
          steps = ran.0.0;
          ending = has.end;
          machine = has.machine;
          drawn = has.drawn;
          ends = ran.0.1;
          are = refl;
        },
        ran.1,
      )

  of_text : (bytes : List ℕ) (unit : ProgramUnit) → IsUnit bytes unit → CanBeCoded unit → HasStints (parts_of unit) (fresh system) bound choices told
      → IsTimelineOf (text bytes) system bound choices.source told
  of_text bytes unit is can has =
      let ran : Ran (parts_of unit) has 0 = first (parts_of unit) has in
      let meant = runs_have_stints unit can (fresh system) bound choices.source ran.0.0 has.end has.machine has.drawn ran.0.1 in (
        stints_of unit (fresh system) bound meant.2,
        record {
          unit = unit;
          unit_is = is;
          ending = has.end;
          end = meant.0;
          turns = meant.1;
          drawn = has.drawn;
          order = meant.2;
          selected = meant.3;
          are = refl;
        },
        ran.1 ∙ ap told_of meant.6,
      )

  pub is_timeline : (program : Timable) (parts : CodeParts) → IsOf program parts → HasStints parts (fresh system) bound choices told
      → IsTimelineOf program system bound choices.source told
  is_timeline (text bytes) parts is has =
      of_text bytes is.0 is.1 is.2 (subst (λ p. HasStints p (fresh system) bound choices told) is.3 has)
  is_timeline (code own) parts is has =
      of_code own (subst (λ p. HasStints p (fresh system) bound choices told) is has)
