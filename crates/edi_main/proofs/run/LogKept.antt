-- The log and the record that are kept one after another, or are not.
use Rattle.std.proofs.Common.{◌≡◌, ◌∙◌, ◌⊎◌, ℕ, Bool, true, false, List, ◌∷◌, Option, Some, None, Err, cond, refl, sym, ap, subst, inl, inr}
use Rattle.std.specs.Ordering.{nat_cmp, eq_by_cmp}
use Rattle.std.specs.Cmp.Lexicographic.{slice_cmp}
use Rattle.std.specs.FinMap as map
use Rattle.std.specs.FinMap.{slice_cmp-IsAntisymmetric, nat_cmp-IsAntisymmetric}
use Rattle.std.proofs.lemmas.Cmp.{nat_list_cmp_total}
use Rattle.edi_told.specs.Told.{WhereTold}
use Rattle.edi_told.specs.Faults.{CountRose}
use Rattle.edi_host.specs.Contents.{Contents}
use Rattle.edi_system.proofs.Chained.{told_then}
use Rattle.edi_trace.specs.Drawn.{Drawn}
use Rattle.edi_statuses.specs.declared.status.Status.{Status}
use Rattle.edi_statuses.specs.declared.status.Status.TheVariants as status
use Rattle.edi_statuses.specs.Counts.{Counts, HasCause}
use Rattle.edi_statuses.specs.Outside.{with_kept, without_names}
use Rattle.edi_statuses.specs.Executions.{record_of}
use Rattle.edi_statuses.specs.Broken.{names_in}
use Rattle.edi_statuses.proofs.Told.{told_so}
use Rattle.edi_main.specs.steps.OnFiles.{RecordEnd, RecordStep}
use Rattle.edi_main.specs.run.OnMounted.{DriveAsked}
use Rattle.edi_main.specs.run.OnWatched.{LogEnd, LogUnkept}
use Rattle.edi_main.proofs.run.Asked.{asked_so}
use Rattle.edi_main.proofs.run.Demonstrated.{kept_and_gone}

-- ---- two files are taken away

swapped : (s t : Bool) (o : Option (List ℕ)) → cond t None (cond s None o) ≡ cond s None (cond t None o)
swapped true true o = refl
swapped true false o = refl
swapped false true o = refl
swapped false false o = refl

pub in_either_order : (files : Contents) (a b : List ℕ) → map.remove (map.remove files a) b ≡ map.remove (map.remove files b) a
in_either_order files a b =
    map.same_map nat_list_cmp_total (slice_cmp-IsAntisymmetric nat_cmp-IsAntisymmetric) _ _ (λ q.
    map.get-remove nat_list_cmp_total (map.remove files a) b q
    ∙ ap (λ o. cond (eq_by_cmp (slice_cmp nat_cmp) q b) None o) (map.get-remove nat_list_cmp_total files a q)
    ∙ swapped (eq_by_cmp (slice_cmp nat_cmp) q a) (eq_by_cmp (slice_cmp nat_cmp) q b) (map.get files q)
    ∙ ap (λ o. cond (eq_by_cmp (slice_cmp nat_cmp) q a) None o) (sym (map.get-remove nat_list_cmp_total files b q))
    ∙ sym (map.get-remove nat_list_cmp_total (map.remove files b) a q))

-- the log was kept, and then the file of the record was lost
both_gone : (out log : List ℕ) (name : Option (List ℕ)) (old new : Contents)
    → without_names (names_in name) new ≡ without_names (names_in name) (map.insert old out log)
    → without_names (out ∷ names_in name) new ≡ without_names (out ∷ names_in name) old
both_gone out log None old new f = ap (λ x. map.remove x out) f ∙ kept_and_gone old out log
both_gone out log (Some n) old new f =
    in_either_order new out n ∙ ap (λ x. map.remove x out) f ∙ in_either_order (map.insert old out log) n out
    ∙ ap (λ x. map.remove x n) (kept_and_gone old out log)

-- either way all other files are as before
pub lost_but : (out log : List ℕ) (name : Option (List ℕ)) (old new : Option Contents) → LogUnkept out log name status.FileFault old new
    → WhereTold old new (λ a b. without_names (out ∷ names_in name) b ≡ without_names (out ∷ names_in name) a)
lost_but out log name old new (inl h) = told_so _ _ old new (λ a b e. ap (without_names (names_in name)) e) h
lost_but out log name old new (inr h) = told_so _ _ old new (λ a b e. both_gone out log name a b e) h.1

-- ---- the ends

module _ (out log : List ℕ) (name : Option (List ℕ)) (choices : Drawn) (came : Status) where
  -- the log was kept, and the record was kept or not
  pub then_record : (ends : Status) (old mid new : Option Contents) → WhereTold old mid (λ a b. b ≡ map.insert a out log)
      → RecordEnd name choices came ends mid new → LogEnd out log name choices came ends old new
  then_record ends old mid new kept (inl h) =
      inl (
        h.0,
        told_then _ _ _ old mid new
            (λ a b c e f. f ∙ ap (with_kept (record_of name choices.source choices.drawn)) e) kept h.1,
      )
  then_record ends old mid new kept (inr why) = inr (unkept ends why)
    where
      unkept : (s : Status) → RecordStep {A = Unit {0}} name choices (Err s) mid new → LogUnkept out log name s old new
      unkept status.NoMemory h = inr (h.0, told_then _ _ _ old mid new (λ a b c e f. f ∙ e) kept h.1)
      unkept status.FileFault h =
          inr (h.0, told_then _ _ _ old mid new (λ a b c e f. f ∙ ap (without_names (names_in name)) e) kept h.1)
      unkept s h = absurd h

  -- the log was not kept
  pub log_lost : (ends : Status) (old new : Option Contents) → ends ≡ status.FileFault → WhereTold old new (λ a b. map.remove b out ≡ map.remove a out)
      → LogEnd out log name choices came ends old new
  log_lost ends old new is h = inr (subst (λ s. LogUnkept out log name s old new) (sym is) (inl h))

  pub log_wants : (ends : Status) (old new : Option Contents) → ends ≡ status.NoMemory → WhereTold old new (λ a b. b ≡ a)
      → LogEnd out log name choices came ends old new
  log_wants ends old new is h = inr (subst (λ s. LogUnkept out log name s old new) (sym is) (inl h))

  -- ---- what is known of the status

  lost_asked : (count : ℕ) (s : Status) (old new : Option Contents) → LogUnkept out log name s old new → DriveAsked s count
  lost_asked count status.NoMemory old new h = record { behind_steps = refl; fits = tt }
  lost_asked count status.FileFault old new h = record { behind_steps = refl; fits = tt }
  lost_asked count s old new h = absurd h

  pub log_asked : (count : ℕ) (ends : Status) (old new : Option Contents) → DriveAsked came count → LogEnd out log name choices came ends old new
      → DriveAsked ends count
  log_asked count ends old new h (inl kept) = asked_so came ends count kept.0 h
  log_asked count ends old new h (inr why) = lost_asked count ends old new why

  pub log_cause : (ends : Status) (old new : Option Contents) (had has : Counts) → HasCause came had has
      → (ends ≡ status.FileFault → (came ≡ status.FileFault) ⊎ CountRose had.files has.files) → LogEnd out log name choices came ends old new
      → HasCause ends had has
  log_cause ends old new had has h cause (inl kept) = subst (λ x. HasCause x had has) (sym kept.0) h
  log_cause status.NoMemory old new had has h cause (inr why) = tt
  log_cause status.FileFault old new had has h cause (inr why) =
      let how = cause refl in
      elim how [
        | inl is ↦ subst (λ x. HasCause x had has) is h
        | inr rose ↦ rose
      ]
  log_cause s old new had has h cause (inr why) = absurd why
