-- Helper. The rules of the grammar in numbers, part by part: the kinds before which a rule is taken, of which none stand for all, and the numbers of what
-- it waits for, with its first part last. The last rule of a part is taken where none of the others is. Nobody has to believe this table: it is tied to
-- the rules of the grammar (`taken_is` of proofs). No public contract cites it.
use Rattle.std.specs.Prelude.{ℕ, List, [], ◌∷◌, Bool, true, drop, if◌then◌else◌, slice_index_or}
use Rattle.edi_explain.specs.told.Groups.{is_among}

abbrev pub Row : Type 0
Row = List ℕ × List ℕ

abbrev pub rule_rows : List Row
rule_rows =
    ([], 69 ∷ 52 ∷ []) ∷
    (7 ∷ 10 ∷ 15 ∷ 26 ∷ 27 ∷ [], 52 ∷ 53 ∷ []) ∷ ([], []) ∷
    (10 ∷ [], 54 ∷ []) ∷ ([], 59 ∷ []) ∷
    ([], 55 ∷ 56 ∷ 10 ∷ []) ∷
    (45 ∷ [], 55 ∷ 56 ∷ 45 ∷ []) ∷ ([], []) ∷
    ([], 57 ∷ 33 ∷ 1 ∷ []) ∷
    (2 ∷ [], 2 ∷ []) ∷ (3 ∷ [], 3 ∷ []) ∷ ([], 58 ∷ 1 ∷ []) ∷
    (47 ∷ [], 0 ∷ 48 ∷ 2 ∷ 47 ∷ []) ∷ ([], []) ∷
    (15 ∷ [], 0 ∷ 48 ∷ 60 ∷ 1 ∷ 47 ∷ 1 ∷ 15 ∷ []) ∷ (26 ∷ [], 0 ∷ 48 ∷ 62 ∷ 61 ∷ 47 ∷ 1 ∷ 26 ∷ []) ∷ (7 ∷ [], 0 ∷ 48 ∷ 1 ∷ 47 ∷ 0 ∷ 50 ∷ 57 ∷ 42 ∷ 57 ∷ 49 ∷ 1 ∷ 7 ∷ []) ∷ ([], 0 ∷ 48 ∷ 1 ∷ 47 ∷ 1 ∷ 27 ∷ []) ∷
    (44 ∷ [], 60 ∷ 1 ∷ 44 ∷ []) ∷ ([], []) ∷
    ([], 1 ∷ 42 ∷ 60 ∷ 1 ∷ []) ∷
    (45 ∷ [], 62 ∷ 61 ∷ 45 ∷ []) ∷ ([], []) ∷
    ([], 62 ∷ 61 ∷ 30 ∷ []) ∷
    ([], 67 ∷ 65 ∷ 1 ∷ []) ∷
    (47 ∷ [], 0 ∷ 48 ∷ 66 ∷ 68 ∷ 47 ∷ []) ∷ ([], []) ∷
    (45 ∷ [], 66 ∷ 68 ∷ 45 ∷ []) ∷ ([], []) ∷
    (42 ∷ [], 1 ∷ 42 ∷ []) ∷ ([], []) ∷
    (30 ∷ [], 61 ∷ 30 ∷ []) ∷ (25 ∷ [], 0 ∷ 64 ∷ 25 ∷ []) ∷ ([], 61 ∷ []) ∷
    ([], 0 ∷ 14 ∷ 76 ∷ 8 ∷ 75 ∷ 64 ∷ 25 ∷ []) ∷
    (10 ∷ [], 54 ∷ []) ∷ (7 ∷ 15 ∷ 26 ∷ 27 ∷ [], 59 ∷ []) ∷ (30 ∷ [], 63 ∷ []) ∷ (24 ∷ [], 0 ∷ 64 ∷ 25 ∷ 24 ∷ []) ∷ (23 ∷ [], 69 ∷ 23 ∷ []) ∷ ([], 69 ∷ []) ∷
    ([], 0 ∷ 14 ∷ 76 ∷ 8 ∷ 73 ∷ 20 ∷ []) ∷
    (41 ∷ [], 70 ∷ 41 ∷ []) ∷ (20 ∷ [], 71 ∷ []) ∷ ([], 70 ∷ []) ∷
    (7 ∷ 10 ∷ 15 ∷ 20 ∷ 23 ∷ 24 ∷ 25 ∷ 26 ∷ 27 ∷ 30 ∷ 41 ∷ [], 73 ∷ 72 ∷ []) ∷ ([], []) ∷
    (20 ∷ [], 71 ∷ []) ∷ ([], 70 ∷ []) ∷
    (7 ∷ 10 ∷ 15 ∷ 20 ∷ 23 ∷ 24 ∷ 25 ∷ 26 ∷ 27 ∷ 30 ∷ [], 75 ∷ 74 ∷ []) ∷ ([], []) ∷
    ([], 77 ∷ 78 ∷ []) ∷
    (45 ∷ [], 77 ∷ 78 ∷ 45 ∷ []) ∷ ([], []) ∷
    (28 ∷ [], 28 ∷ []) ∷ (1 ∷ [], 79 ∷ 1 ∷ []) ∷ (29 ∷ [], 89 ∷ 43 ∷ 82 ∷ 1 ∷ 29 ∷ []) ∷ (16 ∷ [], 0 ∷ 14 ∷ 84 ∷ 16 ∷ []) ∷ (32 ∷ [], 0 ∷ 14 ∷ 84 ∷ 32 ∷ []) ∷ (31 ∷ [], 0 ∷ 14 ∷ 84 ∷ 31 ∷ []) ∷ ([], 0 ∷ 88 ∷ 87 ∷ 9 ∷ []) ∷
    (47 ∷ [], 80 ∷ []) ∷ (46 ∷ 49 ∷ 43 ∷ [], 89 ∷ 43 ∷ 82 ∷ []) ∷ ([], []) ∷
    ([], 0 ∷ 48 ∷ 81 ∷ 89 ∷ 47 ∷ []) ∷
    (44 ∷ [], 81 ∷ 89 ∷ 44 ∷ []) ∷ ([], []) ∷
    (46 ∷ 49 ∷ [], 82 ∷ 83 ∷ []) ∷ ([], []) ∷
    (46 ∷ [], 1 ∷ 46 ∷ []) ∷ ([], 0 ∷ 50 ∷ 89 ∷ 49 ∷ []) ∷
    ([], 86 ∷ 85 ∷ []) ∷
    ([], 76 ∷ 12 ∷ 89 ∷ []) ∷
    (13 ∷ [], 86 ∷ 85 ∷ 13 ∷ []) ∷ ([], []) ∷
    ([], 76 ∷ 12 ∷ 57 ∷ []) ∷
    (5 ∷ [], 88 ∷ 87 ∷ 5 ∷ []) ∷ ([], 14 ∷ []) ∷
    ([], 90 ∷ 92 ∷ []) ∷
    (17 ∷ 33 ∷ 34 ∷ 35 ∷ 36 ∷ 37 ∷ 38 ∷ [], 92 ∷ 91 ∷ []) ∷ ([], []) ∷
    (33 ∷ [], 33 ∷ []) ∷ (34 ∷ [], 34 ∷ []) ∷ (35 ∷ [], 35 ∷ []) ∷ (36 ∷ [], 36 ∷ []) ∷ (37 ∷ [], 37 ∷ []) ∷ (38 ∷ [], 38 ∷ []) ∷ ([], 17 ∷ []) ∷
    ([], 94 ∷ 97 ∷ 93 ∷ []) ∷
    (39 ∷ [], 39 ∷ []) ∷ (40 ∷ [], 40 ∷ []) ∷ ([], []) ∷
    (22 ∷ 39 ∷ 40 ∷ [], 94 ∷ 95 ∷ []) ∷ ([], []) ∷
    ([], 97 ∷ 96 ∷ []) ∷
    (39 ∷ [], 39 ∷ []) ∷ (40 ∷ [], 40 ∷ []) ∷ ([], 22 ∷ []) ∷
    ([], 98 ∷ 101 ∷ []) ∷
    (6 ∷ 11 ∷ 19 ∷ 41 ∷ [], 98 ∷ 99 ∷ []) ∷ ([], []) ∷
    ([], 101 ∷ 100 ∷ []) ∷
    (41 ∷ [], 41 ∷ []) ∷ (11 ∷ [], 11 ∷ []) ∷ (19 ∷ [], 19 ∷ []) ∷ ([], 6 ∷ []) ∷
    (2 ∷ [], 2 ∷ []) ∷ (3 ∷ [], 3 ∷ []) ∷ (4 ∷ [], 4 ∷ []) ∷ (21 ∷ [], 0 ∷ 101 ∷ 21 ∷ []) ∷ (47 ∷ [], 0 ∷ 48 ∷ 89 ∷ 47 ∷ []) ∷ (1 ∷ [], 102 ∷ 1 ∷ []) ∷ ([], 82 ∷ 1 ∷ 29 ∷ []) ∷
    (47 ∷ [], 80 ∷ []) ∷ ([], 82 ∷ []) ∷
    []

-- the index of the first rule of each part
abbrev pub starts : List ℕ
starts =
    0 ∷ 1 ∷ 3 ∷ 5 ∷ 6 ∷ 8 ∷ 9 ∷ 12 ∷ 14 ∷ 18 ∷ 20 ∷ 21 ∷ 23 ∷ 24 ∷ 25 ∷ 27 ∷ 29 ∷ 31 ∷ 34 ∷ 35 ∷ 41 ∷ 42 ∷ 45 ∷ 47 ∷ 49 ∷ 51 ∷ 52 ∷ 54 ∷ 61 ∷ 64 ∷ 65 ∷ 67 ∷ 69 ∷ 71 ∷ 72 ∷ 73 ∷ 75 ∷ 76 ∷ 78 ∷ 79 ∷ 81 ∷ 88 ∷ 89 ∷ 92 ∷ 94 ∷ 95 ∷ 98 ∷ 99 ∷ 101 ∷ 102 ∷ 106 ∷ 113 ∷ []

-- that of the part of this number; where there is none, that of a program
abbrev pub start_at : ℕ → ℕ
start_at n = slice_index_or starts n 0

-- before all kinds where they are none
abbrev pub is_taken_before : List ℕ → ℕ → Bool
is_taken_before [] a = true
is_taken_before (b ∷ kinds) a = is_among a (b ∷ kinds)

-- the first of these rules that is taken before a symbol of this kind
abbrev pub first_taken : List Row → ℕ → List ℕ
first_taken [] a = []
first_taken (row ∷ rows) a = if is_taken_before row.0 a then row.1 else first_taken rows a

-- the rule of the part of this number
abbrev pub taken_at : (n a : ℕ) → List ℕ
taken_at n a = first_taken (drop (start_at n) rule_rows) a
