-- Where all endings are found, each run of the text ends so.
use Rattle.std.proofs.Common.{◌≡◌, inl, inr, ℕ, List, Contains, sym, ap, subst, ◌∙◌}
use Rattle.edi_calls.specs.Choice.{Choices, listed}
use Rattle.edi_calls.specs.Outcome as outcome
use Rattle.edi_calls.specs.Outcome.{Ending, Outcome}
use Rattle.edi_texts.specs.Run.{IsRunOf}
use Rattle.edi_texts.proofs.Thing.{one_thing}
use Rattle.edi_explored.specs.Reached.{AreAll, AreAllShown, IsCutOr, IsCutOrShown}
use Rattle.edi_explored.proofs.machine.Coding as coding
use Rattle.edi_explore.specs.declared.ends.Verdict.{Verdict}
use Rattle.edi_explore.specs.declared.ends.Verdict.TheVariants as verdict
use Rattle.edi_explore.specs.Offline.{offline}
use Rattle.edi_runs.specs.explore.Explorations.{AreAllOf, AreAllShownOf, IsFound, Says, SaysShown, endings_in, most_turns, shown_endings_in}
use Rattle.edi_runs.specs.explore.Laws.{FoundAreAmongAll, FoundIsReached, RunsEndAsTold, RunsShowAsTold}

not_cut : (e : Ending) → IsFound e → e ≡ outcome.turns → ⊥
not_cut e f same = subst IsFound same f

pub found_is_reached : FoundIsReached
found_is_reached text input one r =
    let run = r.run in
    let cut : r.outcome.ending ≡ outcome.turns → ⊥ = λ e. not_cut one.ending r.found (sym r.ending_is ∙ e) in (
      run.unit,
      run.unit_is,
      subst (Rattle.edi_explored.specs.Reached.IsReached run.unit (offline input) one.choices) r.ending_is
          (coding.reached run.unit (offline input) most_turns one.choices r.outcome run.run cut),
    )

told : (text input : List ℕ) (es : List Ending) → AreAllOf text input es → (bound : ℕ) (choices : Choices) (o : Outcome) →
    IsRunOf text (offline input) bound choices o → IsCutOr es o.ending
told text input es a bound choices o r =
    let same : a.unit ≡ r.unit = one_thing.one_unit text a.unit r.unit a.unit_is r.unit_is in
    let all = subst (λ u. AreAll u (offline input) es) same a.all in
    let s = r.run in
    subst (IsCutOr es) (sym (ap (λ (x : Outcome). x.ending) s.6)) (all bound choices s.0 s.1 s.2 s.3 s.4 s.5)

says_all : (v : Verdict) (text input : List ℕ) (es : List Ending) → v ≡ verdict.All → Says v text input es → AreAllOf text input es
says_all v text input es e s = subst (λ x. Says x text input es) e s

pub runs_end_as_told : RunsEndAsTold
runs_end_as_told text input most turns shown f x all bound choices o r =
    told text input (endings_in f.endings) (says_all f.verdict text input (endings_in f.endings) all x.says) bound choices o r

told_shown : (text input : List ℕ) (es : List (Ending × List ℕ)) → AreAllShownOf text input es → (bound : ℕ) (choices : Choices) (o : Outcome) →
    IsRunOf text (offline input) bound choices o → IsCutOrShown es o.ending o.shown
told_shown text input es a bound choices o r =
    let same : a.unit ≡ r.unit = one_thing.one_unit text a.unit r.unit a.unit_is r.unit_is in
    let all = subst (λ u. AreAllShown u (offline input) es) same a.all in
    let s = r.run in
    subst (λ (x : Outcome). IsCutOrShown es x.ending x.shown) (sym s.6) (all bound choices s.0 s.1 s.2 s.3 s.4 s.5)

says_all_shown : (v : Verdict) (text input : List ℕ) (es : List (Ending × List ℕ)) → v ≡ verdict.All → SaysShown v text input es →
    AreAllShownOf text input es
says_all_shown v text input es e s = subst (λ x. SaysShown x text input es) e s

pub runs_show_as_told : RunsShowAsTold
runs_show_as_told text input most turns shown f x asks all bound choices o r =
    told_shown text input (shown_endings_in f.endings) (says_all_shown f.verdict text input (shown_endings_in f.endings) all (x.says_shown asks))
    bound choices o r

pub found_are_among_all : FoundAreAmongAll
found_are_among_all text input most turns more later shown other one all x y is found c =
    let r = x.reached found c in
    among (subst (IsCutOr (endings_in all.endings)) r.ending_is (runs_end_as_told text input more later other all y is most_turns (listed found.choices) r.outcome r.run))
    r.found
  where
    among : IsCutOr (endings_in all.endings) found.ending → IsFound found.ending → Contains (endings_in all.endings) found.ending
    among (inl cut) f = absurd (not_cut found.ending f cut)
    among (inr c) f = c
