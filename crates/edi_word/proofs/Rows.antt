-- The definitions on numbers, computed: words are 65536 less what they stand for below 0.
use Rattle.std.proofs.Common.{◌≡◌, [], ◌∷◌, refl}
use Rattle.std.specs.Prelude.{Some, None, false}
use Rattle.edi_word.specs.Words.{word_add, word_sub, word_mul, word_div, word_modulo}
use Rattle.edi_word.specs.Sets.{members_where, set_union}
use Rattle.edi_word.specs.SetWords.{words_where, members_of, words_of_members, words_have}

-- 32767 + 1, and 32767 + -1
top_sum : word_add 32767 1 ≡ None
top_sum = refl

sum_below_top : word_add 32767 65535 ≡ Some 32766
sum_below_top = refl

-- 0 - -32768, and -182 * 180
sign_of_least : word_sub 0 32768 ≡ None
sign_of_least = refl

product_near_least : word_mul 65354 180 ≡ Some 32776
product_near_least = refl

-- -7 div 2 is -3, and -7 mod 2 is -1
cut_toward_zero : word_div 65529 2 ≡ Some 65533
cut_toward_zero = refl

sign_of_dividend : word_modulo 65529 2 ≡ Some 65535
sign_of_dividend = refl

-- -32768 mod -1
least_by_minus_one : word_modulo 32768 65535 ≡ None
least_by_minus_one = refl

ends_of_a_set : words_of_members (0 ∷ 17 ∷ 127 ∷ []) ≡ 1 ∷ 2 ∷ 0 ∷ 0 ∷ 0 ∷ 0 ∷ 0 ∷ 32768 ∷ []
unfolding words_where
ends_of_a_set = refl

members_of_words : members_of (1 ∷ 2 ∷ 0 ∷ 0 ∷ 0 ∷ 0 ∷ 0 ∷ 32768 ∷ []) ≡ 0 ∷ 17 ∷ 127 ∷ []
unfolding members_where
members_of_words = refl

union_in_order : set_union (3 ∷ 9 ∷ []) (1 ∷ 9 ∷ 127 ∷ []) ≡ 1 ∷ 3 ∷ 9 ∷ 127 ∷ []
unfolding members_where
union_in_order = refl

-- neither 128 nor -1
outside : words_have (65535 ∷ 65535 ∷ 65535 ∷ 65535 ∷ 65535 ∷ 65535 ∷ 65535 ∷ 65535 ∷ []) 65535 ≡ false
outside = refl
