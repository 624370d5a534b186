-- A text, or a code, has one timeline. The last stint of an execution tells how it ended.
use Rattle.std.proofs.Common.{◌≡◌, ℕ, ◌-◌, List, sym, ap, ◌∙◌, subst}
use Rattle.edi_calls.specs.Choice.{Choices}
use Rattle.edi_calls.specs.Names.{Name}
use Rattle.edi_calls.specs.Outcome.{Ending}
use Rattle.edi_calls.specs.State.{State, Traced, fresh}
use Rattle.edi_meaning.specs.Select as selection
use Rattle.edi_target.specs.Check.{CodeParts}
use Rattle.edi_target.proofs.Histories.{every_run_ends_through}
use Rattle.edi_scheme.specs.Laws.{parts_of}
use Rattle.edi_texts.proofs.Thing.{one_thing}
use Rattle.edi_timeline.specs.Stints.{Stint, stints_of}
use Rattle.edi_timeline.specs.Timelines.{told_of}
use Rattle.edi_timed.specs.Ran.{stints_of_code}
use Rattle.edi_timed.specs.on.Laws.{EndWith, StintsEnd, StintsStay, TimelinesAreOne}
use Rattle.edi_timed.specs.on.Timelines.{AreStints, AreStintsOf, AreStintsOfCode, Timable, text, code}
use Rattle.edi_timed.proofs.meant.Ends.{ends_same, longer}
use Rattle.edi_timed.proofs.meant.Selected.{runs_have_stints}
use Rattle.edi_timed.proofs.on.Last.{stints_of_code_end}
use Rattle.edi_timed.proofs.on.Once.{ends_once}

-- ---- one end of a selection

same_order : {a b : Ending} {x y : Traced} {t u c d : ℕ} {o q : List Name} → selection.finished a x t c o ≡ selection.finished b y u d q → o ≡ q
same_order h = cc

same_ending : {a b : Ending} {x y : Traced} {t u c d : ℕ} {o q : List Name} → selection.finished a x t c o ≡ selection.finished b y u d q → a ≡ b
same_ending h = cc

same_turns : {a b : Ending} {x y : Traced} {t u c d : ℕ} {o q : List Name} → selection.finished a x t c o ≡ selection.finished b y u d q → t ≡ u
same_turns h = cc

-- ---- one timeline

module _ (system : State) (bound : ℕ) (choices : Choices) where
  of_code : (parts : CodeParts) (xs ys : List Stint) → AreStintsOfCode parts system bound choices xs → AreStintsOfCode parts system bound choices ys → xs ≡ ys
  of_code parts xs ys h k =
      h.are
      ∙ ends_same parts choices (fresh system) bound 0 h.steps k.steps (h.ending, h.machine, h.drawn, h.ends) (k.ending, k.machine, k.drawn, k.ends)
      ∙ sym k.are

  of_text : (bytes : List ℕ) (xs ys : List Stint) → AreStintsOf bytes system bound choices xs → AreStintsOf bytes system bound choices ys → xs ≡ ys
  of_text bytes xs ys h k =
      let same : h.unit ≡ k.unit = one_thing.one_unit bytes h.unit k.unit h.unit_is k.unit_is in
      let selected : selection.Ends k.unit (fresh system) bound choices h.ending h.end h.turns h.drawn h.order =
      subst (λ u. selection.Ends u (fresh system) bound choices h.ending h.end h.turns h.drawn h.order) same h.selected in
      let order : h.order ≡ k.order =
      same_order (ends_once k.unit (fresh system) bound choices h.ending k.ending h.end k.end h.turns k.turns h.drawn k.drawn h.order k.order selected
      k.selected) in
      h.are ∙ ap (λ u. stints_of u (fresh system) bound h.order) same ∙ ap (stints_of k.unit (fresh system) bound) order ∙ sym k.are

  stints_are_one : (program : Timable) (xs ys : List Stint) → AreStints program system bound choices xs → AreStints program system bound choices ys → xs ≡ ys
  stints_are_one (text bytes) xs ys h k = of_text bytes xs ys h k
  stints_are_one (code parts) xs ys h k = of_code parts xs ys h k

pub timelines_are_one : TimelinesAreOne
timelines_are_one program system bound choices told other h k =
    h.2 ∙ ap told_of (stints_are_one system bound choices program h.0 k.0 h.1 k.1) ∙ sym k.2

pub stints_stay : StintsStay
stints_stay parts system bound choices n more ending m drawn e le = longer parts choices system bound 0 n more le (ending, m, drawn, e)

-- ---- how an execution ended

pub stints_end : StintsEnd
stints_end unit can system bound choices ending end turns drawn order e =
    let ran = every_run_ends_through (parts_of unit).words (parts_of unit).entry (parts_of unit).calls system bound choices 0 in
    let meant = runs_have_stints unit can system bound choices ran.4.0 ran.0 ran.1 ran.2 ran.4.1 in
    let one : selection.finished ran.0 meant.0 meant.1 ran.2 meant.2 ≡ selection.finished ending end turns drawn order =
    ends_once unit system bound choices ran.0 ending meant.0 end meant.1 turns ran.2 drawn meant.2 order meant.3 e in
    let last : EndWith ran.0 (bound - (ran.1).turns) (stints_of_code (parts_of unit) system bound choices 0 ran.4.0) =
    stints_of_code_end (parts_of unit) system bound choices ran.4.0 ran.0 ran.1 ran.2 ran.4.1 in
    let stints : stints_of_code (parts_of unit) system bound choices 0 ran.4.0 ≡ stints_of unit system bound order =
    meant.6 ∙ ap (stints_of unit system bound) (same_order one) in
    let left : (ran.1).turns ≡ turns = meant.5 ∙ same_turns one in
    subst (λ t. t) (λ i. EndWith (same_ending one i) (bound - left i) (stints i)) last
