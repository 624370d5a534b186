-- The definitions on small memories, computed.
use Rattle.std.proofs.Common.{◌≡◌, [], ◌∷◌, refl}
use Rattle.edi_store.specs.Memory.{words_at, written}
use Rattle.edi_store.specs.Copied.{copied, cleared}
use Rattle.edi_store.specs.Segments.{share_of}

words_from_one : words_at (5 ∷ 6 ∷ 7 ∷ 8 ∷ []) 1 2 ≡ 6 ∷ 7 ∷ []
words_from_one = refl

written_over : written (5 ∷ 6 ∷ 7 ∷ 8 ∷ []) 2 (1 ∷ 2 ∷ []) ≡ 5 ∷ 6 ∷ 1 ∷ 2 ∷ []
written_over = refl

copied_up : copied (5 ∷ 6 ∷ 7 ∷ 8 ∷ []) 0 1 3 ≡ 5 ∷ 5 ∷ 6 ∷ 7 ∷ []
copied_up = refl

copied_down : copied (5 ∷ 6 ∷ 7 ∷ 8 ∷ []) 1 0 3 ≡ 6 ∷ 7 ∷ 8 ∷ 8 ∷ []
copied_down = refl

cleared_within : cleared (5 ∷ 6 ∷ 7 ∷ 8 ∷ []) 1 2 ≡ 5 ∷ 0 ∷ 0 ∷ 8 ∷ []
cleared_within = refl

last_of_three : share_of (record { first = 100; last = 110 }) 3 2 ≡ record { first = 106; last = 109 }
last_of_three = refl
