-- Definition. Where a process stands: whether it attempts its `when`, and the lines of the calls that lead there.
use Rattle.std.specs.Prelude.{ℕ, Bool, true, false, List, [], ◌∷◌, Option, Some, None}
use Rattle.edi_meaning.specs.Step.{Work, procedure_end, Standing, at_when, Process}

-- whether a step is an attempt: its process stands at its `when` before it
abbrev pub is_at_when : Standing → Bool
is_at_when (at_when cs position) = true
is_at_when standing = false

abbrev pub attempts : Option Process → Bool
attempts None = false
attempts (Some q) = is_at_when q.standing

-- the lines of the calls of the procedures in which a process is, the innermost first
abbrev pub call_lines : List Work → List ℕ
call_lines [] = []
call_lines (procedure_end line ∷ work) = line ∷ call_lines work
call_lines (_ ∷ work) = call_lines work
