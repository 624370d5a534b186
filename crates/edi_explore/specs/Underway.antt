-- Words of contracts. A run of code whose moves are counted, stint after stint.
use Rattle.std.specs.Prelude.{◌≡◌, ℕ, suc, ◌+◌, ◌-◌, nat_lt, if◌then◌else◌, List, [], Option, Some, None, ⊤}
use Rattle.edi_calls.specs.Choice.{Choices}
use Rattle.edi_calls.specs.Names.{Name}
use Rattle.edi_calls.specs.Outcome as outcome
use Rattle.edi_calls.specs.State.{State}
use Rattle.edi_target.specs.Check.{CodeParts}
use Rattle.edi_target.specs.Fetch.{fetch}
use Rattle.edi_target.specs.Mach.{Machine, after_step, entered, run}
use Rattle.edi_trace.specs.Drawn.{Drawn}
use Rattle.edi_kernel.specs.declared.ends.Ending.{Ending}
use Rattle.edi_kernel.specs.declared.ends.Ending.TheVariants as ending
use Rattle.edi_kernel.specs.declared.state.KernelState.{KernelState}
use Rattle.edi_kernel.specs.Kernel.{EndsAs}
use Rattle.edi_kernel.specs.Runs.{IsAt}
use Rattle.edi_explored.specs.machine.Counted.{EndsMoved, moved, moved_after}

-- one move more, unless somebody is marked
abbrev pub counted_by : (marks moves : ℕ) → ℕ
counted_by marks moves = if nat_lt 0 marks then moves else suc moves

-- a run of this code from its start, of at most so many turns, with these choices
module _ (code : CodeParts) (s : State) (bound : ℕ) (choices : Choices) where
  -- some instructions from the start come to what n instructions from here come to, and have so many moves more
  pub record Behind (m : Machine) (p : Name) (others : List Name) (drawn moves n : ℕ) : Type 0 where
    pub steps : ℕ
    pub runs : after_step choices (run (fetch code.words) choices steps) [] [] 0 (entered (fetch code.words code.entry) code.entry code.calls bound s)
        ≡ run (fetch code.words) choices n m p others drawn
    pub counts : moved_after choices (moved (fetch code.words) choices steps) [] [] 0 (entered (fetch code.words code.entry) code.entry code.calls bound s)
        ≡ moves + moved (fetch code.words) choices n m p others drawn

  -- the kernel is at a stint of it, after so many moves
  pub record IsUnderway (k : KernelState) (x : State) (now : Drawn) (moves : ℕ) : Type 0 where
    pub machine : Machine
    pub name : Name
    pub others : List Name
    pub comes : (n : ℕ) → Behind machine name others now.drawn moves n
    pub at : IsAt code k x (bound - k.used) machine name others

  -- it has ended so, after so many moves
  pub record HasEnded (e : Ending) (k : KernelState) (x : State) (now : Drawn) (moves : ℕ) : Type 0 where
    pub machine : Machine
    pub end : outcome.Ending
    pub ends : EndsMoved code s bound choices end machine now.drawn moves
    pub same : EndsAs end e
    pub system : machine.system ≡ x
    pub turns : machine.turns ≡ bound - k.used

  -- it goes on, or has ended; where an object has failed nothing is said
  abbrev pub Comes : Option Ending → KernelState → State → Drawn → ℕ → Type 0
  Comes None k x now moves = IsUnderway k x now moves
  Comes (Some ending.Fault) k x now moves = ⊤
  Comes (Some e) k x now moves = HasEnded e k x now moves
