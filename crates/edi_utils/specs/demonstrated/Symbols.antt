-- Helper. The symbols of the text of the demonstration, with their lines. No public contract cites this.
use Rattle.std.specs.Prelude.{ℕ, zero, suc, ◌+◌, ◌-◌, ◌*◌, pos, List, [], ◌∷◌, ◌++◌, codes}
use Rattle.std.specs.Fmt.{decimal}
use Rattle.edi_lex.specs.declared.symbol.Symbol.{Symbol}
use Rattle.edi_lex.specs.declared.symbol.Symbol.TheVariants as is
use Rattle.edi_lex.specs.declared.symbol.Mark.{Mark}

abbrev pub at : Symbol → (line : ℕ) → Mark
at symbol line = record { symbol = symbol; line = line }

-- the name of procedure i
abbrev pub procedure_name : ℕ → List ℕ
procedure_name i = codes "p" ++ decimal i

abbrev pub x : Symbol
x = is.Name (codes "x")

-- "proc main var x: int"
abbrev pub front_marks : List Mark
front_marks =
    at is.Proc 1 ∷ at (is.Name (codes "main")) 1 ∷ at is.Var 2 ∷ at x 2 ∷ at is.Colon 2 ∷ at (is.Name (codes "int")) 2 ∷ []

-- behind the name of a procedure
abbrev pub body_marks : (line : ℕ) → List Mark
body_marks line =
    at is.Begin line ∷ at is.When line ∷ at x line ∷ at is.Less line ∷ at (is.Numeral (pos 32767)) line ∷ at is.Do line ∷ at x line
    ∷ at is.Becomes line ∷ at x line ∷ at is.Plus line ∷ at (is.Numeral (pos 1)) line ∷ at is.End line ∷ at is.End line ∷ []

-- the declaration of procedure i, which begins on this line
abbrev pub procedure_marks : (i line : ℕ) → List Mark
procedure_marks i line = at is.Proc line ∷ at (is.Name (procedure_name i)) line ∷ body_marks (line + 1)

-- the declarations of n procedures from i on
abbrev pub procedures_marks : (i n line : ℕ) → List Mark
procedures_marks i zero line = []
procedures_marks i (suc n) line = procedure_marks i line ++ procedures_marks (suc i) n (line + 2)

-- the calls of n procedures from i on, each behind another
abbrev pub next_calls_marks : (i n line : ℕ) → List Mark
next_calls_marks i zero line = []
next_calls_marks i (suc n) line = at is.Semicolon line ∷ at (is.Name (procedure_name i)) line ∷ next_calls_marks (suc i) n line

-- the calls of n procedures, at least one
abbrev pub calls_marks : (n line : ℕ) → List Mark
calls_marks n line = at (is.Name (procedure_name 1)) line ∷ next_calls_marks 2 (n - 1) line

-- the statement of the program: two branches, each with all calls
abbrev pub branches_marks : (n line : ℕ) → List Mark
branches_marks n line =
    at is.Begin line ∷ at is.Cobegin line ∷ at (is.Numeral (pos 1)) (line + 1) ∷ at is.Do (line + 1) ∷ (calls_marks n (line + 1)
    ++ (at is.Also (line + 2) ∷ at (is.Numeral (pos 2)) (line + 2) ∷ at is.Do (line + 2) ∷ (calls_marks n (line + 2)
    ++ (at is.End (line + 3) ∷ at is.End (line + 3) ∷ []))))

-- all symbols of the text with n procedures
abbrev pub demo_marks : (n : ℕ) → List Mark
demo_marks n = front_marks ++ (procedures_marks 1 n 3 ++ branches_marks n (3 + 2 * n))
