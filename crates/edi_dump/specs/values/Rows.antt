-- Computed rows. Values with their texts.
use Rattle.std.specs.Prelude.{◌≡◌, ℕ, List, [], ◌∷◌, ◌++◌, pos, negsuc, codes, flat_map, map, replicate, refl}
use Rattle.std.specs.List.{range_with_len}
use Rattle.std.specs.Fmt.{signed_decimal}
use Rattle.edi_word.specs.Sets.{members_where}
use Rattle.edi_unit.specs.Types.{Shape, int, char, bool, enumeration, record_of, array_of, set_of, size}
use Rattle.edi_dump.specs.values.Words.{words_text}

-- enum e (red, green) / record r (b: bool; c: char) / array a [1:2] (r) / set s (e) / array many [1:65] (bool) / array row [1:40] (bool)
-- / array square [1:3] (row) / array sets [1:23] (s)
abbrev types : List Shape
types =
    int ∷ char ∷ bool ∷ enumeration 2 ∷ record_of (2 ∷ 1 ∷ []) ∷ array_of 0 (pos 1) (pos 2) 4 ∷ set_of 3 ∷ array_of 0 (pos 1) (pos 65) 2
    ∷ array_of 0 (pos 1) (pos 40) 2 ∷ array_of 0 (pos 1) (pos 3) 8 ∷ array_of 0 (pos 1) (pos 23) 6 ∷ []

abbrev constants : List (List (List ℕ))
constants = [] ∷ [] ∷ (codes "false" ∷ codes "true" ∷ []) ∷ (codes "red" ∷ codes "green" ∷ []) ∷ []

abbrev text : ℕ → List ℕ → List ℕ
text t words = words_text types constants t words

pub row_int : text 0 (65533 ∷ []) ≡ signed_decimal (negsuc 2)
row_int = refl

pub row_char : text 1 (97 ∷ []) ≡ codes "'a'"
row_char = refl

pub row_apostrophe : text 1 (39 ∷ []) ≡ codes "'''"
row_apostrophe = refl

pub row_line_feed : text 1 (10 ∷ []) ≡ codes "char(" ++ (signed_decimal (pos 10) ++ codes ")")
row_line_feed = refl

pub row_bool : text 2 (1 ∷ []) ≡ codes "true"
row_bool = refl

-- a constant of 65 letters, of which 64 are told
pub row_long_name : words_text (enumeration 1 ∷ []) ((replicate 65 97 ∷ []) ∷ []) 0 (0 ∷ []) ≡ replicate 64 97
row_long_name = refl

pub row_enumeration : text 3 (1 ∷ []) ≡ codes "green"
row_enumeration = refl

pub row_record : text 4 (1 ∷ 98 ∷ []) ≡ codes "(true, 'b')"
unfolding size
row_record = refl

-- records in an array, and what stands behind them
pub row_array : text 5 (0 ∷ 98 ∷ 1 ∷ 99 ∷ 1 ∷ []) ≡ codes "((false, 'b'), (true, 'c'))"
unfolding size
row_array = refl

pub row_set : text 6 (2 ∷ 0 ∷ 0 ∷ 0 ∷ 0 ∷ 0 ∷ 0 ∷ 0 ∷ []) ≡ codes "[green]"
unfolding members_where
row_set = refl

pub row_empty_set : text 6 (replicate 8 0) ≡ codes "[]"
unfolding members_where
row_empty_set = refl

-- ---- more than 64 parts

abbrev times : ℕ → List ℕ → List ℕ
times n xs = flat_map {X = ℕ} (λ k. xs) (replicate n 0)

-- 64 elements are told, and of 65 also
pub row_many : text 7 (replicate 65 0) ≡ codes "(false" ++ (times 63 (codes ", false") ++ codes ", ..)")
unfolding size
row_many = refl

-- of the second row 24 elements
pub row_square : text 9 (replicate 120 0)
    ≡ codes "((false" ++ (times 39 (codes ", false") ++ (codes "), (false" ++ (times 23 (codes ", false") ++ codes ", ..), ..)")))
unfolding size
row_square = refl

abbrev both : List ℕ
both = 3 ∷ replicate 7 0

-- Each of these sets counts as three parts. Of the 22nd there is one part left: a member.
pub row_sets : text 10 (times 23 both) ≡ codes "([red, green]" ++ (times 20 (codes ", [red, green]") ++ codes ", [red, ..], ..)")
unfolding members_where size
row_sets = refl

-- ---- records in records

-- type n has n records in one another, and a truth value in them
abbrev nested : List Shape
nested = bool ∷ map (λ n. record_of (n ∷ [])) (range_with_len 0 64)

abbrev nested_text : ℕ → List ℕ
nested_text t = words_text nested ((codes "false" ∷ codes "true" ∷ []) ∷ []) t (1 ∷ [])

pub row_deep : nested_text 63 ≡ times 63 (codes "(") ++ (codes "true" ++ times 63 (codes ")"))
unfolding size
row_deep = refl

pub row_too_deep : nested_text 64 ≡ times 64 (codes "(") ++ (codes ".." ++ times 64 (codes ")"))
unfolding size
row_too_deep = refl
