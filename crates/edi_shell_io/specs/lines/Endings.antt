-- Words of contracts. The line of an ending of the kernel, with its line feed.
use Rattle.std.specs.Prelude.{ℕ, List, [], ◌∷◌, ◌++◌, Option, Some, None, codes}
use Rattle.edi_kernel.specs.declared.ends.Ending.{Ending}
use Rattle.edi_kernel.specs.declared.ends.Ending.TheVariants as ending
use Rattle.edi_session.specs.Texts.{on_line, about, cause_text}

abbrev pub line_for : (title : List ℕ) → Ending → Option (List ℕ)
line_for title ending.Done = None
line_for title ending.Fault = None
line_for title (ending.Halted line) = Some (on_line line (codes "halt") ++ 10 ∷ [])
line_for title (ending.Failed why line) = Some (on_line line (cause_text why) ++ 10 ∷ [])
line_for title ending.Turns = Some (codes "turn limit" ++ 10 ∷ [])
line_for title ending.Standstill = Some (codes "standstill" ++ 10 ∷ [])
line_for title (ending.Bad address) = Some (about (codes "bad code") title ++ 10 ∷ [])
