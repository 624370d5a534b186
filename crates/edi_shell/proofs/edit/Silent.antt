-- A line that is taken has no line feed.
use Rattle.std.proofs.Common.{◌≡◌, ℕ, zero, suc, Bool, true, false, List, [], ◌∷◌, ◌++◌, take, refl}
use Rattle.std.specs.Prelude.{◌==◌}
use Rattle.edi_edit.specs.Lines.{has_feed}

-- a byte more that is no line feed
no_feed_more : (line : List ℕ) (b : ℕ) → has_feed line ≡ false → (b == 10) ≡ false → has_feed (line ++ b ∷ []) ≡ false
no_feed_more [] b none other = rw other refl
no_feed_more (x ∷ line) b none other = go (x == 10) refl (no_feed_more line b) where
  go : (q : Bool) → (x == 10) ≡ q → (has_feed line ≡ false → (b == 10) ≡ false → has_feed (line ++ b ∷ []) ≡ false)
      → has_feed (x ∷ (line ++ b ∷ [])) ≡ false
  go true feed rest = let end : true ≡ false = rw feed at none in absurd (cc)
  go false no_feed rest = rw no_feed (rest (rw no_feed at none) other)

no_feed_first : (n : ℕ) (line : List ℕ) → has_feed line ≡ false → has_feed (take n line) ≡ false
no_feed_first zero line none = refl
no_feed_first (suc n) [] none = refl
no_feed_first (suc n) (x ∷ line) none = go (x == 10) refl (no_feed_first n line) where
  go : (q : Bool) → (x == 10) ≡ q → (has_feed line ≡ false → has_feed (take n line) ≡ false) → has_feed (x ∷ take n line) ≡ false
  go true feed rest = let end : true ≡ false = rw feed at none in absurd (cc)
  go false no_feed rest = rw no_feed (rest (rw no_feed at none))

-- and of which the first are kept
pub no_feed_kept : (most : ℕ) (line : List ℕ) (b : ℕ) → has_feed line ≡ false → (b == 10) ≡ false → has_feed (take most (line ++ b ∷ [])) ≡ false
no_feed_kept most line b none other = no_feed_first most (line ++ b ∷ []) (no_feed_more line b none other)
