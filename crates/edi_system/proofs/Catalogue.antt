-- Calls of the catalogue, on a system.
use Rattle.std.proofs.Common.{◌≡◌, ◌⊎◌, inl, inr, ℕ, Bool, true, false, List, Option, None, refl, sym, ap, subst, ◌∙◌}
use Rattle.std.specs.Prelude.{Result, Ok, Err}
use Rattle.edi_calls.specs.declared.ends.Outside.{Outside}
use Rattle.edi_catalog.specs.declared.catalog.Catalog.{Catalog}
use Rattle.edi_catalog.specs.declared.ends.CatEnd.{CatEnd}
use Rattle.edi_catalog.specs.declared.ends.CatEnd.TheVariants as cat
use Rattle.edi_catalog.specs.Changes.{Untouched}
use Rattle.edi_system.specs.State.{catalog_in, failed_in, IsReady}
use Rattle.edi_system.specs.Catalogue.{failed_at, is_drive_fault, is_refused}
use Rattle.edi_system.specs.declared.system.System.{System}

-- ---- what the answer says

-- the drive has failed, or no object has
by_fault : {X : Type 0} (r : Result X CatEnd) → (r ≡ Err cat.Fault) ⊎ ((is_drive_fault r ≡ false) × (failed_at r ≡ None))
by_fault (Ok x) = inr (refl, refl)
by_fault (Err cat.NoSuch) = inr (refl, refl)
by_fault (Err cat.Taken) = inr (refl, refl)
by_fault (Err cat.Protected) = inr (refl, refl)
by_fault (Err (cat.TooLarge n)) = inr (refl, refl)
by_fault (Err cat.CatalogFull) = inr (refl, refl)
by_fault (Err (cat.Full n m)) = inr (refl, refl)
by_fault (Err cat.Fault) = inl refl

pub no_fault : {X M : Type 0} (r : Result X CatEnd) → (r ≡ Err cat.Fault) ⊎ M → is_drive_fault r ≡ false → M
no_fault r (inr m) e = m
no_fault r (inl f) e = absurd (let no : true ≡ false = sym (ap is_drive_fault f) ∙ e in cc)

pub none_failed : {X : Type 0} (r : Result X CatEnd) → is_drive_fault r ≡ false → failed_at r ≡ None
none_failed r e = (no_fault r (by_fault r) e).1

-- ---- a refusal

-- it leaves what was there
pub refused_untouched : {X C : Type 0} (r : Result X CatEnd) (before after : C) → is_refused r ≡ true → Untouched r before after → after ≡ before
refused_untouched (Ok x) before after e u = absurd (let no : false ≡ true = e in cc)
refused_untouched (Err cat.NoSuch) before after e u = u
refused_untouched (Err cat.Taken) before after e u = u
refused_untouched (Err cat.Protected) before after e u = u
refused_untouched (Err (cat.TooLarge n)) before after e u = u
refused_untouched (Err cat.CatalogFull) before after e u = u
refused_untouched (Err (cat.Full n m)) before after e u = u
refused_untouched (Err cat.Fault) before after e u = absurd (let no : false ≡ true = e in cc)

pub untouched_if : {X C : Type 0} (r : Result X CatEnd) (before after : C) → (is_refused r ≡ true → after ≡ before) → Untouched r before after
untouched_if (Ok x) before after same = tt
untouched_if (Err cat.NoSuch) before after same = same refl
untouched_if (Err cat.Taken) before after same = same refl
untouched_if (Err cat.Protected) before after same = same refl
untouched_if (Err (cat.TooLarge n)) before after same = same refl
untouched_if (Err cat.CatalogFull) before after same = same refl
untouched_if (Err (cat.Full n m)) before after same = same refl
untouched_if (Err cat.Fault) before after same = tt

not_fault : {X : Type 0} (r : Result X CatEnd) → is_refused r ≡ true → is_drive_fault r ≡ false
not_fault {X} r e = go (by_fault r) where
  go : (r ≡ Err cat.Fault) ⊎ ((is_drive_fault r ≡ false) × (failed_at r ≡ None)) → is_drive_fault r ≡ false
  go (inl fault) = absurd (let no : false ≡ true = sym (ap is_refused fault) ∙ e in cc)
  go (inr none) = none.0

-- a system after a call of the catalogue that was refused
pub refused_system : {D S T P X : Type 0} (before : System D S T P) (catalog : Catalog D) (failed : Option Outside) (r : Result X CatEnd) → is_refused r ≡ true
    → Untouched r (catalog_in before) catalog → failed ≡ failed_at r → failed_in before ≡ None → record before { catalog = catalog; failed = failed } ≡ before
refused_system before catalog failed r e u is none =
    ap (λ x. record before { catalog = x; failed = failed }) (refused_untouched r (catalog_in before) catalog e u)
    ∙ ap (λ x. record before { failed = x }) (is ∙ none_failed r (not_fault r e) ∙ sym none)

-- the same, where the answer was tested: the system is as it was, and the next call may be made
pub refused_leaves : {D S T P X : Type 0} (contents : D → Option (List (List ℕ))) (count : D → ℕ) (before : System D S T P) (catalog : Catalog D)
    (failed : Option Outside) (r : Result X CatEnd) (refused : Bool) → refused ≡ is_refused r → refused ≡ true → Untouched r (catalog_in before) catalog
    → failed ≡ failed_at r → IsReady contents count before → Untouched r before (record before { catalog = catalog; failed = failed })
refused_leaves contents count before catalog failed r refused asked answered u is ready =
    untouched_if r before (record before { catalog = catalog; failed = failed })
    (λ e. refused_system before catalog failed r (sym asked ∙ answered) u is ready.nothing_failed)

pub refused_ready : {D S T P X : Type 0} (contents : D → Option (List (List ℕ))) (count : D → ℕ) (before : System D S T P) (catalog : Catalog D)
    (failed : Option Outside) (r : Result X CatEnd) (refused : Bool) → refused ≡ is_refused r → refused ≡ true → Untouched r (catalog_in before) catalog
    → failed ≡ failed_at r → IsReady contents count before → IsReady contents count (record before { catalog = catalog; failed = failed })
refused_ready contents count before catalog failed r refused asked answered u is ready =
    subst (IsReady contents count) (sym (refused_system before catalog failed r (sym asked ∙ answered) u is ready.nothing_failed)) ready

-- and where it was not refused
pub untouched_else : {X C : Type 0} (r : Result X CatEnd) (refused : Bool) (before after : C) → refused ≡ is_refused r → refused ≡ false
    → Untouched r before after
untouched_else r refused before after asked answered =
    untouched_if r before after (λ e. absurd (let no : true ≡ false = sym e ∙ (sym asked ∙ answered) in cc))
