-- Words of contracts. The text of the end of a run of a code, where its processes are told; and the text of a process's name, branch by branch.
use Rattle.std.specs.Prelude.{◌≡◌, ℕ, Bool, true, false, List, [], ◌∷◌, ◌++◌, codes, Option, ⊤}
use Rattle.edi_calls.specs.State.{State}
use Rattle.edi_target.specs.Check.{CodeParts}
use Rattle.edi_trace.specs.Drawn.{Drawn}
use Rattle.edi_kernel.specs.declared.ends.Ending.{Ending}
use Rattle.edi_kernel.specs.declared.ends.Ending.TheVariants as ending
use Rattle.edi_timeline.specs.Text.{branch_text}
use Rattle.edi_timeline.specs.Told.{meant}
use Rattle.edi_waits.specs.declared.births.Branch.{Branch}
use Rattle.edi_waits.specs.Ends.{AtEnd}
use Rattle.edi_waits.specs.Ended.{EndsSo}
use Rattle.edi_dump.specs.Frames.{Program}
use Rattle.edi_dump.specs.Text.{dump_text}

-- of the program of which this is known
module _ (known : Option Program) where
  -- THE TEXT TELLS THE END of a run of this code, where so many choices had been drawn before it: the run ends so, and in its machine, which has
  -- this memory, these processes stand.
  pub record Tells (code : CodeParts) (system : State) (bound : ℕ) (old : Drawn) (e : Ending) (text : List ℕ) : Type 0 where
    pub memory : List ℕ
    pub processes : List AtEnd
    pub ends : EndsSo code system bound old e memory processes
    pub text_is : text ≡ dump_text known code.words memory (meant e) processes

  -- where an object outside failed nothing is told
  abbrev pub TellsOr : CodeParts → State → (bound : ℕ) → (old : Drawn) → Ending → (text : List ℕ) → Type 0
  TellsOr code system bound old ending.Fault text = ⊤
  TellsOr code system bound old e text = Tells code system bound old e text

-- `1.2` for the first branch, `/1.2` for each other one
abbrev pub step_text : (first : Bool) → Branch → List ℕ
step_text true branch = branch_text branch.fork branch.number
step_text false branch = codes "/" ++ branch_text branch.fork branch.number

abbrev pub steps_text : (first : Bool) → List Branch → List ℕ
steps_text first [] = []
steps_text first (branch ∷ branches) = step_text first branch ++ steps_text false branches
