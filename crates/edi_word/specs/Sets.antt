-- Definition. Sets of ordinals 0 to 127: as increasing lists of their members, and as eight words of 16 bits.
use Rattle.std.specs.Prelude.{ℕ, ◌/◌, ◌%◌, ◌^◌, Bool, false, not, ◌&&◌, ◌||◌, ◌==◌, nat_lt, ℤ, pos}
use Rattle.std.specs.Prelude.{negsuc, List, [], ◌∷◌, slice_index, slice_set, bit_and, bit_or}
use Rattle.std.specs.List.{filter, list_any, range_with_len}
use Rattle.std.specs.Int.{w16, bit_at, bit_not}

-- ---- lists of members

-- the set of the ordinals 0 to 127 of which the test holds
unfoldable pub members_where : (ℕ → Bool) → List ℕ
members_where test = filter test (range_with_len 0 128)

-- whether n is a member
abbrev pub set_has : List ℕ → ℕ → Bool
set_has set n = list_any (λ x. x == n) set

-- whether an `int` is a member: none is outside 0 to 127
abbrev pub set_has_int : List ℕ → ℤ → Bool
set_has_int set (pos n) = nat_lt n 128 && set_has set n
set_has_int set (negsuc n) = false

-- the set with n as a member
abbrev pub with_member : List ℕ → ℕ → List ℕ
with_member set n = members_where (λ x. x == n || set_has set x)

-- the ordinals that are in one set or the other
abbrev pub set_union : List ℕ → List ℕ → List ℕ
set_union one other = members_where (λ x. set_has one x || set_has other x)

-- the ordinals that are in the first set and not in the second
abbrev pub set_minus : List ℕ → List ℕ → List ℕ
set_minus one other = members_where (λ x. set_has one x && not (set_has other x))

-- the ordinals that are in both sets
abbrev pub set_meet : List ℕ → List ℕ → List ℕ
set_meet one other = members_where (λ x. set_has one x && set_has other x)

-- ---- eight words

-- whether the ordinal n, which is at most 127, is a member: bit n mod 16 of word n div 16 is set, bit 0 the least
abbrev pub word_has : List ℕ → ℕ → Bool
word_has words n = bit_at (slice_index words (n / 16)) (n % 16) == 1

-- an operation on words, applied to the words of two sets place by place
abbrev pub each_word : (ℕ → ℕ → ℕ) → List ℕ → List ℕ → List ℕ
each_word f (x ∷ xs) (y ∷ ys) = f x y ∷ each_word f xs ys
each_word f xs ys = []

-- the words with bit n mod 16 of word n div 16 set
abbrev pub words_with : List ℕ → ℕ → List ℕ
words_with words n = slice_set words (n / 16) (bit_or (slice_index words (n / 16)) (2 ^ (n % 16)))

abbrev pub words_union : List ℕ → List ℕ → List ℕ
words_union one other = each_word bit_or one other

abbrev pub words_minus : List ℕ → List ℕ → List ℕ
words_minus one other = each_word (λ x y. bit_and x (bit_not w16 y)) one other

abbrev pub words_meet : List ℕ → List ℕ → List ℕ
words_meet one other = each_word bit_and one other
