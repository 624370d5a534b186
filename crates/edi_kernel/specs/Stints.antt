-- Words of contracts. A stint: the steps of the taken process until the kernel takes the next, or the run ends.
use Rattle.std.specs.Prelude.{ℕ, zero, suc, List, Option, Some, None}
use Rattle.edi_calls.specs.Names.{Name}
use Rattle.edi_calls.specs.Outcome as outcome
use Rattle.edi_calls.specs.Ready.{stays, joins}
use Rattle.edi_target.specs.Op.{Instruction}
use Rattle.edi_target.specs.Mach.{Machine, Stepped, went, ended, step}

pub data Stint : Type 0 where
  -- it goes on
  unfinished : Stint
  -- these join the back of the ready list, and the next is to be taken
  switched : Machine → List Name → Stint
  -- the run has ended
  over : outcome.Ending → Machine → Stint

abbrev pub stint_after : (Machine → Stint) → Stepped → Stint
stint_after more (went m stays) = more m
stint_after more (went m (joins ps)) = switched m ps
stint_after more (ended ending m) = over ending m

-- at most n steps of the taken process p, beside the other ready ones
abbrev pub stint : (ℕ → Option (Instruction × ℕ)) → ℕ → Machine → Name → List Name → Stint
stint fetch zero m p others = unfinished
stint fetch (suc n) m p others = stint_after (λ m. stint fetch n m p others) (step fetch m p others)

abbrev pub goes_with : (Machine → Option Machine) → Stepped → Option Machine
goes_with more (went m stays) = more m
goes_with more (went m (joins ps)) = None
goes_with more (ended ending m) = None

-- the machine after n steps of the taken process p, if it goes on in each of them
abbrev pub followed : (ℕ → Option (Instruction × ℕ)) → ℕ → Machine → Name → List Name → Option Machine
followed fetch zero m p others = Some m
followed fetch (suc n) m p others = goes_with (λ m. followed fetch n m p others) (step fetch m p others)
