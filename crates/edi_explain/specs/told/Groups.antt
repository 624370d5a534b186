-- Definition. How the kinds of symbols that may stand at a place are shown. A group is shown where each kind of it may stand, and only
-- there. A kind of a group that is shown is not named again by itself.
use Rattle.std.specs.Prelude.{ℕ, ◌==◌, Bool, true, false, not, ◌&&◌, ◌||◌, List, [], ◌∷◌, ◌++◌, if◌then◌else◌, codes}
use Rattle.std.specs.List.{list_all, list_any, range_with_len}
use Rattle.edi_grammar.specs.Kinds as kind
use Rattle.edi_explain.specs.told.Words.{kind_name}

-- ---- THE GROUPS: the kinds with which each begins; an operator stands between two operands, and so does a comparison

abbrev pub statement : List ℕ
statement = kind.Name ∷ kind.Cobegin ∷ kind.If ∷ kind.Skip ∷ kind.Val ∷ kind.When ∷ kind.While ∷ []

abbrev pub expression : List ℕ
expression =
    kind.Name ∷ kind.Numeral ∷ kind.Char ∷ kind.Text ∷ kind.Not ∷ kind.Val ∷ kind.Plus ∷ kind.Minus ∷ kind.Open ∷ []

abbrev pub declaration : List ℕ
declaration =
    kind.Array ∷ kind.Const ∷ kind.Enum ∷ kind.Module ∷ kind.Post ∷ kind.Pre ∷ kind.Proc ∷ kind.Record ∷ kind.Set ∷ kind.Var ∷ []

abbrev pub operator : List ℕ
operator = kind.Star ∷ kind.Div ∷ kind.Mod ∷ kind.And ∷ kind.Plus ∷ kind.Minus ∷ kind.Or ∷ []

abbrev pub comparison : List ℕ
comparison = kind.Equal ∷ kind.NotEqual ∷ kind.Less ∷ kind.AtMost ∷ kind.Greater ∷ kind.AtLeast ∷ kind.In ∷ []

-- ---- which groups are shown

abbrev pub is_among : ℕ → List ℕ → Bool
is_among k kinds = list_any (λ other. other == k) kinds

-- all of the group may stand, and this kind is one of it
abbrev pub is_of : (may : ℕ → Bool) → List ℕ → ℕ → Bool
is_of may kinds k = list_all may kinds && is_among k kinds

-- it is one of a group that is shown
abbrev pub is_grouped : (may : ℕ → Bool) → ℕ → Bool
is_grouped may k = is_of may statement k || is_of may expression k || is_of may declaration k || is_of may operator k || is_of may comparison k

-- it may stand, and no group that is shown has it
abbrev pub is_single : (may : ℕ → Bool) → ℕ → Bool
is_single may k = may k && not (is_grouped may k)

-- the kind alone where it is such a one, else none
abbrev pub if_single : (may : ℕ → Bool) → ℕ → List ℕ
if_single may k = if is_single may k then k ∷ [] else []

abbrev pub singles : (may : ℕ → Bool) → List ℕ → List ℕ
singles may [] = []
singles may (k ∷ kinds) = if_single may k ++ singles may kinds

-- ---- lines

-- what is put before a name of a list that has some already, or none yet
abbrev pub comma : Bool → List ℕ
comma true = codes ", "
comma false = []

-- the names of kinds, behind others or not
abbrev pub listed : Bool → List ℕ → List ℕ
listed more [] = []
listed more (k ∷ kinds) = (comma more ++ kind_name k) ++ listed true kinds

unfoldable pub group_line : (may : ℕ → Bool) → (called : List ℕ) → List ℕ → List ℕ
group_line may called kinds = if list_all may kinds then codes "  " ++ (called ++ (codes ": " ++ (listed false kinds ++ codes "\n"))) else []

abbrev pub single_line : List ℕ → List ℕ
single_line [] = []
single_line (k ∷ kinds) = codes "  " ++ (listed false (k ∷ kinds) ++ codes "\n")

-- what stands between two operands
abbrev pub between_lines : (may : ℕ → Bool) → List ℕ
between_lines may = group_line may (codes "an operator") operator ++ group_line may (codes "a comparison") comparison

abbrev pub group_lines : (may : ℕ → Bool) → List ℕ
group_lines may =
    group_line may (codes "a statement") statement
    ++ (group_line may (codes "an expression") expression
    ++ (group_line may (codes "a declaration") declaration ++ between_lines may))

-- WHAT MAY STAND: a line for each group, and one for those of all 51 kinds that stand in none
unfoldable pub may_lines : (may : ℕ → Bool) → List ℕ
may_lines may = group_lines may ++ single_line (singles may (range_with_len 0 51))
