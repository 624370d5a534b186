-- Words of contracts. Sets as increasing lists and as eight words, and that both views are one.
use Rattle.std.specs.Prelude.{◌≡◌, ℕ, zero, suc, ◌+◌, ◌*◌, ◌^◌, ◌<◌, ◌≤◌, Bool, ◌&&◌, nat_lt, if◌then◌else◌}
use Rattle.std.specs.Prelude.{List, [], ◌∷◌, map, length, ⊤}
use Rattle.std.specs.List.{All, range_with_len}
use Rattle.edi_word.specs.Words.{signed}
use Rattle.edi_word.specs.Sets.{members_where, set_has, set_has_int, with_member, word_has, words_with}

-- each number is at least `low`, above the one before it, and at most 127
abbrev pub IsIncreasingFrom : ℕ → List ℕ → Type 0
IsIncreasingFrom low [] = ⊤
IsIncreasingFrom low (x ∷ xs) = (low ≤ x) × (x < 128) × IsIncreasingFrom (x + 1) xs

-- the list of a set's members: ordinals 0 to 127, in increasing order
abbrev pub IsOrdinalSet : List ℕ → Type 0
IsOrdinalSet xs = IsIncreasingFrom 0 xs

-- the words of a set: eight, of 16 bits each
pub record AreSetWords (words : List ℕ) : Type 0 where
  pub eight : length words ≡ 8
  pub small : All (λ word. word < 2 ^ 16) words

-- whether the value of `int` that a word stands for is a member: a word from 128 on stands for a number above 127 or
-- below 0
abbrev pub words_have : List ℕ → ℕ → Bool
words_have words word = nat_lt word 128 && word_has words word

-- the members of the set that the words are
abbrev pub members_of : List ℕ → List ℕ
members_of words = members_where (word_has words)

-- the number whose bit k is set, for each k below the given number of bits, exactly where the test holds of k
abbrev pub bits_where : (ℕ → Bool) → ℕ → ℕ
bits_where test zero = 0
bits_where test (suc k) = (if test k then 1 else 0) * 2 ^ k + bits_where test k

-- the words of the set of those ordinals of which the test holds
unfoldable pub words_where : (ℕ → Bool) → List ℕ
words_where test = map (λ i. bits_where (λ k. test (i * 16 + k)) 16) (range_with_len 0 8)

-- the words of the set with these members
abbrev pub words_of_members : List ℕ → List ℕ
words_of_members set = words_where (set_has set)

-- the words and the members are found from each other
abbrev pub ViewsAreOne : Type 0
ViewsAreOne = ((words : List ℕ) → AreSetWords words → IsOrdinalSet (members_of words) × (words_of_members (members_of words) ≡ words))
    × ((set : List ℕ) → IsOrdinalSet set → AreSetWords (words_of_members set) × (members_of (words_of_members set) ≡ set))

-- f makes of the words of two sets the words of the set that g makes of their members
abbrev pub ViewsAgree : (List ℕ → List ℕ → List ℕ) → (List ℕ → List ℕ → List ℕ) → Type 0
ViewsAgree f g = (one other : List ℕ) → AreSetWords one → AreSetWords other → AreSetWords (f one other)
    × (members_of (f one other) ≡ g (members_of one) (members_of other))

-- to set its bit makes an ordinal a member
abbrev pub ViewsAgreeOnWith : Type 0
ViewsAgreeOnWith = (words : List ℕ) (n : ℕ) → AreSetWords words → n < 128 → AreSetWords (words_with words n)
    × (members_of (words_with words n) ≡ with_member (members_of words) n)

-- to read the bit of a word tells whether the value of `int` that it stands for is a member
abbrev pub ViewsAgreeOnHas : Type 0
ViewsAgreeOnHas = (words : List ℕ) (word : ℕ) → AreSetWords words → word < 2 ^ 16 → words_have words word ≡ set_has_int (members_of words) (signed word)
