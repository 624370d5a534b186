-- The listing of a code is shown: what the statuses of `list` mean.
use Rattle.std.proofs.Common.{◌∙◌, inl, inr, ℕ, List, [], refl, sym, subst}
use Rattle.edi_words.specs.Words as words
use Rattle.edi_statuses.specs.declared.status.Status.{Status}
use Rattle.edi_statuses.specs.declared.status.Status.TheVariants as status
use Rattle.edi_statuses.specs.Counts.{Counts, HasCause}
use Rattle.edi_statuses.specs.Outside.{Lent, Outside}
use Rattle.edi_statuses.specs.Commands.{IsNothing, ListSteps}
use Rattle.edi_statuses.specs.Means.{MeansOf}
use Rattle.edi_statuses.specs.Steps.{stops}
use Rattle.edi_main.specs.steps.OnFiles.{files_only}
use Rattle.edi_main.specs.code.CodeCommands.{IsListing}
use Rattle.edi_main.proofs.steps.Shown.{ShowsOf}

module _ (file : List ℕ) where
  step_means : (s : Status) (before after : Outside) (kernel : Lent) → ListSteps (files_only before.files) file (stops s)
      → IsNothing before after [] kernel → MeansOf s (words.list file) before after [] kernel
  step_means s before after kernel (inl a) nothing =
      subst (λ t. MeansOf t (words.list file) before after [] kernel) (sym a.0) (inl (inl (refl, a.1), nothing))
  step_means s before after kernel (inr l) nothing =
      subst (λ t. MeansOf t (words.list file) before after [] kernel) (sym l.2.1) (inl (inr (l.0, l.1, (l.2.0, refl, l.2.2)), nothing))

  no_fault : (s : Status) (o : Outside) (had has : Counts) → ListSteps o file (stops s) → HasCause s had has
  no_fault s o had has (inl a) = subst (λ t. HasCause t had has) (sym a.0) tt
  no_fault s o had has (inr l) = subst (λ t. HasCause t had has) (sym l.2.1) tt

  pub list_shows : ShowsOf (words.list file) file (λ o. ListSteps o file) IsListing status.Ok
  list_shows = record {
    stopped = step_means;
    no_memory = λ before after kernel nothing. nothing;
    not_fetched = λ before after kernel there same begun. record { uses = refl; far = inl (same, there, begun) };
    has_shown = λ before after kernel parts bytes went is shows.
        inr (parts, went, (refl, record { shown_ = is; same = shows.same; kernel_same = shows.kernel_same }));
    cut_short = λ before after kernel parts bytes front went is cut same. record {
      uses = tt;
      far = (
        same,
        (parts, went, record { front = (cut.front.0, sym is ∙ cut.front.1); same = cut.same; kernel_same = cut.kernel_same }),
      );
    };
    no_fault = no_fault;
  }
