-- Definition. Texts that are shown: what a cause is called, lines with numbers, and where a line begins.
use Rattle.std.specs.Prelude.{ℕ, ◌==◌, Bool, true, false, List, [], ◌∷◌, ◌++◌, Option, Some, None, if◌then◌else◌, codes}
use Rattle.std.specs.Fmt.{decimal}
use Rattle.edi_calls.specs.declared.kinds.Cause.{Cause}
use Rattle.edi_calls.specs.declared.kinds.Cause.TheVariants as cause

-- ---- texts

abbrev pub cause_text : Cause → List ℕ
cause_text cause.Range = codes "range"
cause_text cause.VariableLimit = codes "variable limit"
cause_text cause.ProcessLimit = codes "process limit"
cause_text cause.Held = codes "held"
cause_text cause.NoFile = codes "no file"
cause_text cause.FileLimit = codes "file limit"
cause_text cause.Halt = codes "halt"

-- `line N TEXT`
abbrev pub on_line : ℕ → List ℕ → List ℕ
on_line n text = codes "line " ++ (decimal n ++ (codes " " ++ text))

-- `TEXT N`
abbrev pub with_number : List ℕ → ℕ → List ℕ
with_number text n = text ++ (codes " " ++ decimal n)

-- ---- where a line begins

-- the last of the bytes, if there is one
abbrev pub last_of : List ℕ → Option ℕ
last_of [] = None
last_of (b ∷ []) = Some b
last_of (b ∷ c ∷ more) = last_of (c ∷ more)

abbrev pub is_due_behind : Option ℕ → Bool
is_due_behind None = false
is_due_behind (Some b) = if b == 10 then false else true

-- A line feed is due behind bytes that do not end with one.
abbrev pub is_due : List ℕ → Bool
is_due shown = is_due_behind (last_of shown)

abbrev pub feed : Bool → List ℕ
feed true = 10 ∷ []
feed false = []

-- THE FRESH-LINE RULE: what is shown before a line behind these bytes, so that it stands on a line of its own
abbrev pub line_end : List ℕ → List ℕ
line_end shown = feed (is_due shown)
