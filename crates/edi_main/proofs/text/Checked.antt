-- The report on the branches of a text is shown: from the text to the report, and what the statuses of `check` mean.
use Rattle.std.proofs.Common.{◌≡◌, ◌≤◌, ◌<◌, ◌^◌, inl, inr, arith, ℕ, List, [], length, take, Result, Ok, Err, refl, sym, subst}
use Rattle.edi_lex.specs.Limit.{most_fetched}
use Rattle.edi_unit.specs.declared.units.Unit.{Unit}
use Rattle.edi_unit.specs.Fits.{Fits}
use Rattle.edi_unit.specs.View.{blocks_of, unit_of}
use Rattle.edi_disjoint.specs.Report.{IsReport}
use Rattle.edi_compile.specs.Compiled.{IsFrontOf}
use Rattle.edi_texts.specs.Answers.{TextAnswers}
use Rattle.edi_texts.specs.Fetched.{Tells}
use Rattle.edi_texts.specs.Texts.{IsRefused}
use Rattle.edi_texts.proofs.Same.{fetched_bytes_decide}
use Rattle.edi_words.specs.Words.{check}
use Rattle.edi_statuses.specs.declared.status.Status.{Status}
use Rattle.edi_statuses.specs.declared.status.Status.TheVariants as status
use Rattle.edi_statuses.specs.Counts.{Counts, HasCause}
use Rattle.edi_statuses.specs.Outside.{Lent, Outside}
use Rattle.edi_statuses.specs.Commands.{IsNothing, TextSteps}
use Rattle.edi_statuses.specs.Means.{MeansOf}
use Rattle.edi_statuses.specs.Steps.{Fetches, goes, stops}
use Rattle.edi_main.specs.steps.OnFiles.{files_only}
use Rattle.edi_main.proofs.steps.Shown.{ShowsOf}
use Rattle.edi_main.specs.text.TextCommands.{IsReportOf, ReportsFile, ReportsText}

-- the report on the unit that a text is read as
pub reported : {V : Type 0} (items : V → List ℕ) (text : List ℕ) (unit : Unit) (v : V)
    → TextAnswers (λ (unit : Unit). IsFrontOf text (unit_of unit)) text (Ok unit)
    → length (blocks_of unit.blocks) ≤ 4194304
    → (Fits (unit_of unit) → length (blocks_of unit.blocks) < 2 ^ 32 → IsReport (unit_of unit) (items v)) → ReportsText items text (Ok v)
reported items text unit v answers few report =
    let front : IsFrontOf text (unit_of unit) = answers.gives in
    (unit_of unit, front.unit_is, report front.can.fits (omega (arith, few)))

-- the first bytes of a file decide
pub file_reported : {V : Type 0} (items : V → List ℕ) (o : Outside) (name bytes text : List ℕ) (r : Result V Status) → Fetches o name (goes text)
    → bytes ≡ take most_fetched text → ReportsText items bytes r → ReportsFile items o name r
file_reported items o name bytes text (Ok v) fetched front reports =
    let so = subst (λ t. ReportsText items t (Ok v)) front reports in
    let tells : Tells (take most_fetched text) text = fetched_bytes_decide.there text in
    ((text, so.0), inr (text, fetched, inr (so.0, tells.unit so.0 so.1, refl)), so.2)
file_reported items o name bytes text (Err s) fetched front (inl none) = inl none
file_reported items o name bytes text (Err s) fetched front (inr refused) =
    let tells : Tells (take most_fetched text) text = fetched_bytes_decide.there text in
    let first = subst (λ t. IsRefused t refused.0 refused.1) front refused.3 in
    inr (inr (inr (text, fetched, inl (refused.0, refused.1, refused.2, (first.0, tells.fault first.0 refused.0 refused.1 first.1)))))

module _ (file : List ℕ) where
  step_means : (s : Status) (before after : Outside) (kernel : Lent) → TextSteps (files_only before.files) file (stops s)
      → IsNothing before after [] kernel → MeansOf s (check file) before after [] kernel
  step_means s before after kernel (inl absent) nothing =
      subst (λ t. MeansOf t (check file) before after [] kernel) (sym absent.0) (inl (inl (refl, absent.1), nothing))
  step_means s before after kernel (inr fetched) nothing = elim fetched.2 [
    | inl r ↦
        subst (λ t. MeansOf t (check file) before after [] kernel) (sym r.2)
        (inl (inr (fetched.0, fetched.1, inl (r.0, r.1, refl, r.3)), nothing))
    | inr r ↦ absurd r.2
  ]

  no_fault : (s : Status) (o : Outside) (had has : Counts) → TextSteps o file (stops s) → HasCause s had has
  no_fault s o had has (inl absent) = subst (λ t. HasCause t had has) (sym absent.0) tt
  no_fault s o had has (inr fetched) = elim fetched.2 [
    | inl r ↦ subst (λ t. HasCause t had has) (sym r.2) tt
    | inr r ↦ absurd r.2
  ]

  pub check_shows : ShowsOf (check file) file (λ o. TextSteps o file) IsReportOf status.Ok
  check_shows = record {
    stopped = step_means;
    no_memory = λ before after kernel nothing. nothing;
    not_fetched = λ before after kernel there same begun. record { uses = refl; far = inl (same, there, begun) };
    has_shown = λ before after kernel a bytes went is shows. inr (a, went, (refl, (bytes, is, shows)));
    cut_short = λ before after kernel a bytes front went is cut same. record { uses = tt; far = (same, (a, went, (bytes, is, cut))) };
    no_fault = no_fault;
  }
