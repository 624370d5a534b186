-- A text out of a table.
use Rattle.std.proofs.Common.{◌≡◌, ℕ, zero, suc, ◌<◌, ◌≤◌, List, [], ◌∷◌, length, Bor, refl, arith}
use Rattle.std.specs.Prelude.{slice_index_or}
use Rattle.edi_utils.specs.Tables.{texts_of}

pub text_at : (table : List (Bor (List ℕ))) (n : ℕ) (d : Bor (List ℕ)) → n < length table
    → (slice_index_or table n d).now ≡ slice_index_or (texts_of table) n []
text_at [] n d within = absurd (omega (arith, within))
text_at (b ∷ table) zero d within = refl
text_at (b ∷ table) (suc n) d within = text_at table n d (omega (arith, within))

pub none_at : (table : List (Bor (List ℕ))) (n : ℕ) → length table ≤ n → [] ≡ slice_index_or (texts_of table) n []
none_at [] n beyond = refl
none_at (b ∷ table) zero beyond = absurd (omega (arith, beyond))
none_at (b ∷ table) (suc n) beyond = none_at table n (omega (arith, beyond))
