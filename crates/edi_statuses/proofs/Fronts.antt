-- A first part of bytes that were put.
use Rattle.std.proofs.Common.{◌≡◌, ℕ, List, ◌++◌, take, drop, Option, Some, None, sym}
use Rattle.std.proofs.lemmas.List.{take-append-drop}
use Rattle.edi_told.specs.Told.{WhereTold}
use Rattle.edi_statuses.specs.Fronts.{IsFront}

pub front_put : (n : ℕ) (line : List ℕ) (before after : Option (List ℕ)) → WhereTold before after (λ old new. new ≡ old ++ take n line)
    → WhereTold before after (λ old new. (front : List ℕ) × IsFront front line × (new ≡ old ++ front))
front_put n line before None told = tt
front_put n line None (Some now) told = told
front_put n line (Some old) (Some now) told = (take n line, (drop n line, sym (take-append-drop n line)), told)
