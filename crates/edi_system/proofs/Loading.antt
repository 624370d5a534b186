-- The page of a text that is kept.
use Rattle.std.proofs.Common.{◌≡◌, ℕ, ◌≤◌, ◌<◌, true, false, List, Option, Some, None, refl, sym, ap, subst}
use Rattle.std.specs.Prelude.{nat_lt}
use Rattle.std.proofs.lemmas.Bool.{eqb-true, le-ltb, lt-ltb}
use Rattle.edi_catalog.specs.declared.catalog.Catalog.{Catalog}
use Rattle.edi_system.specs.Loading.{Loads, LoadsAt}
use Rattle.edi_system.specs.Reading.{is_kept}
use Rattle.edi_system.specs.declared.reading.Reading.{Reading}

pub kept_is : (page : ℕ) (kept : Option ℕ) → is_kept page kept ≡ true → kept ≡ Some page
kept_is page None h = absurd (let no : false ≡ true = h in cc)
kept_is page (Some other) h = ap Some (eqb-true other page h)

-- there is no next byte, or there is one
pub loads_none : {D : Type 0} (reading : Reading) (page : List ℕ) (catalog : Catalog D) → reading.length ≤ reading.position
    → LoadsAt (nat_lt reading.position reading.length) reading reading.kept page page catalog catalog
loads_none reading page catalog past =
    subst (λ b. LoadsAt b reading reading.kept page page catalog catalog) (sym (le-ltb reading.position reading.length past)) (refl, refl, refl)

pub loads_some : {D : Type 0} (reading : Reading) (kept : Option ℕ) (was page : List ℕ) (before after : Catalog D) → reading.position < reading.length
    → Loads reading kept was page before after → LoadsAt (nat_lt reading.position reading.length) reading kept was page before after
loads_some reading kept was page before after below loads =
    subst (λ b. LoadsAt b reading kept was page before after) (sym (lt-ltb reading.position reading.length below)) loads
