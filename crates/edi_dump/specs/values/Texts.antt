-- Definition. THE TEXT OF A VALUE: what a program would write for it, but that records, arrays and sets have no name before their brackets.
-- Of one variable 64 parts are told in all, and then `..`: an elementary value is a part, and so is a set, and each of its members.
-- A value within 64 arrays and records is told as `..` too.
use Rattle.std.specs.Prelude.{ℕ, ℤ, pos, negsuc, ◌-◌, ◌==◌, ◌&&◌, nat_le, Bool, true, false, if◌then◌else◌, List, [], ◌∷◌, ◌++◌, codes, Option, Some, None}
use Rattle.std.specs.Prelude.{slice_get, slice_index_or, take}
use Rattle.std.specs.Fmt.{signed_decimal}
use Rattle.edi_unit.specs.Types.{Shape, int, char, shape_at}

-- ---- names

-- as many letters of a name as are told
abbrev pub most_letters : ℕ
most_letters = 64

-- a name as it is told, of whatever length it is
abbrev pub short : (name : List ℕ) → List ℕ
short name = take most_letters name

-- ---- elementary values

-- A character symbol, if the character may stand in a text: `'a'`, and `'''` for an apostrophe. Another is written by its ordinal: `char(10)`.
abbrev pub character_text : ℤ → List ℕ
character_text (pos n) = if nat_le 32 n && nat_le n 126 then 39 ∷ n ∷ 39 ∷ [] else codes "char(" ++ (signed_decimal (pos n) ++ codes ")")
character_text (negsuc n) = codes "char(" ++ (signed_decimal (negsuc n) ++ codes ")")

abbrev pub named_or_number : Option (List ℕ) → ℤ → List ℕ
named_or_number None n = signed_decimal n
named_or_number (Some name) n = short name

-- the constant with this ordinal; every value of a type with constants has one
abbrev pub constant_text : (constants : List (List ℕ)) → ℤ → List ℕ
constant_text constants (pos n) = named_or_number (slice_get constants n) (pos n)
constant_text constants (negsuc n) = signed_decimal (negsuc n)

abbrev pub elementary_text : (constants : List (List ℕ)) → Shape → ℤ → List ℕ
elementary_text constants int n = signed_decimal n
elementary_text constants char n = character_text n
elementary_text constants _ n = constant_text constants n

-- ---- lists of parts

-- of how many parts of one variable the text is told, and of how many words of a frame
abbrev pub most_shown : ℕ
most_shown = 64

-- how many values may stand in one another
abbrev pub most_deep : ℕ
most_deep = 64

-- a text, and how many parts may be told after it
pub record Piece : Type 0 where
  pub text : List ℕ
  pub left : ℕ

-- a value that stands too deep: it is told as one part
abbrev pub cut_piece : (left : ℕ) → Piece
cut_piece left = record { text = codes ".."; left = left - 1 }

-- before a part
abbrev pub gap : (first : Bool) → List ℕ
gap true = []
gap false = codes ", "

-- a part of a list, with those after it; `..` for all of these, if no more may be told
abbrev pub in_list : (first : Bool) → (left : ℕ) → (part : Piece) → (others : ℕ → Piece) → Piece
in_list first left part others =
    if left == 0 then record { text = gap first ++ codes ".."; left = 0 }
    else record { text = gap first ++ (part.text ++ (others part.left).text); left = (others part.left).left }

abbrev pub bracketed : (front : ℕ) → Piece → (back : ℕ) → Piece
bracketed front list back = record { text = front ∷ (list.text ++ back ∷ []); left = list.left }

-- a record or an array, from the list of its parts
abbrev pub compound_piece : Piece → Piece
compound_piece list = bracketed 40 list 41

-- a set, from the list of its members
abbrev pub counted_set : Piece → Piece
counted_set list = record { text = (bracketed 91 list 93).text; left = list.left - 1 }

-- ---- values

-- with the constants of each type
module _ (types : List Shape) (constants : List (List (List ℕ))) where
  abbrev pub constants_at : ℕ → List (List ℕ)
  constants_at t = slice_index_or constants t []

  -- an elementary value of this type
  abbrev pub ordinal_text : (t : ℕ) → ℤ → List ℕ
  ordinal_text t n = elementary_text (constants_at t) (shape_at types t) n

  abbrev pub ordinal_piece : (left t : ℕ) → ℤ → Piece
  ordinal_piece left t n = record { text = ordinal_text t n; left = left - 1 }

  -- members of a set of values of this type
  abbrev pub members_piece : (first : Bool) → (left base : ℕ) → List ℕ → Piece
  members_piece first left base [] = record { text = []; left = left }
  members_piece first left base (n ∷ ns) =
      in_list first left (ordinal_piece left base (pos n)) (λ more. members_piece false more base ns)

  abbrev pub set_piece : (left base : ℕ) → List ℕ → Piece
  set_piece left base set = counted_set (members_piece true left base set)
