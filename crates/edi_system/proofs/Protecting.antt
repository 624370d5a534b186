-- The calls that protect and release a file.
use Rattle.std.proofs.Common.{◌≡◌, ◌⊎◌, inl, inr, ℕ, Bool, true, false, List, Option, Some, None, refl, sym, ap, subst, ◌∙◌}
use Rattle.std.specs.Prelude.{Result, Ok, Err, IfSome}
use Rattle.std.specs.Option.{option_map}
use Rattle.edi_calls.specs.State.{File}
use Rattle.edi_catalog.specs.declared.ends.CatEnd.{CatEnd}
use Rattle.edi_catalog.specs.declared.ends.CatEnd.TheVariants as cat
use Rattle.edi_catalog.specs.Files.{file_titled}
use Rattle.edi_catalog.specs.Mounted.{files_of}
use Rattle.edi_catalog.specs.Changes.{CatalogAnswers, Changes, kept_changed, kept_protected}
use Rattle.edi_system.specs.State.{catalog_in, failed_in, found_of, IsReading, IsReady}
use Rattle.edi_system.specs.Reading.{forgotten}
use Rattle.edi_system.specs.Catalogue.{failed_at, is_drive_fault, is_refused}
use Rattle.edi_system.specs.declared.reading.Reading.{Reading}
use Rattle.edi_system.specs.declared.system.System.{System}
use Rattle.edi_system.proofs.Catalogue.{no_fault, none_failed, refused_untouched}
use Rattle.edi_system.proofs.Closing.{open_answer}
use Rattle.edi_system.proofs.OtherFiles.{AreAlike, alike_same, forgotten_ready, protected_alike}

-- a text without its kept page is at the same place
pub index_stays : (found : Option Reading) → option_map found_of (option_map forgotten found) ≡ option_map found_of found
index_stays None = refl
index_stays (Some reading) = refl

pub protects_ready : {D S T P X : Type 0} (contents : D → Option (List (List ℕ))) (count faults : D → ℕ) (before after : System D S T P)
    (answer : Result X CatEnd) (protected : Bool) (title : List ℕ)
    (refusal : Option CatEnd) (wanted : List (Option File) → List (Option File)) → IsReady contents count before
    → Changes contents count faults answer refusal (kept_changed (kept_protected protected) title (files_of (catalog_in before))) wanted (catalog_in before)
    (catalog_in after)
    → failed_in after ≡ failed_at answer → after.found ≡ option_map forgotten before.found → after.page ≡ before.page
    → is_drive_fault answer ≡ false → IsReady contents count after
protects_ready {D} {S} {T} {P} {X} contents count faults before after answer protected title refusal wanted ready changes failed found page fine = record {
  nothing_failed = failed ∙ none_failed answer fine;
  mounted = no_fault answer changes.mounted fine;
  reading =
      subst (λ o. IfSome o (IsReading contents (catalog_in after) after.page)) (sym found)
      (subst (λ x. IfSome (option_map forgotten before.found) (IsReading contents (catalog_in after) x)) (sym page)
      (forgotten_ready contents (catalog_in before) (catalog_in after) before.page before.found (alike (is_refused answer) refl) ready.reading));
} where
  alike : (b : Bool) → is_refused answer ≡ b → (other : List ℕ) → AreAlike (file_titled other (files_of (catalog_in before)))
      (file_titled other (files_of (catalog_in after)))
  alike true closed other =
      subst (λ fs. AreAlike (file_titled other (files_of (catalog_in before))) (file_titled other fs))
      (sym (ap files_of (refused_untouched answer (catalog_in before) (catalog_in after) closed changes.untouched)))
      (alike_same (file_titled other (files_of (catalog_in before))))
  alike false open_ other = go (open_answer answer open_) where
    go : ((x : X) × (answer ≡ Ok x)) ⊎ (answer ≡ Err cat.Fault) → AreAlike (file_titled other (files_of (catalog_in before)))
        (file_titled other (files_of (catalog_in after)))
    go (inl ok) =
        protected_alike protected title (files_of (catalog_in before)) (files_of (catalog_in after)) other
        (subst (λ r. CatalogAnswers r refusal (files_of (catalog_in before)) (kept_changed (kept_protected protected) title (files_of (catalog_in before)))
        (files_of (catalog_in after))) ok.1 changes.answers).1
    go (inr fault) = absurd (let fails : true ≡ false = sym (ap is_drive_fault fault) ∙ fine in cc)
