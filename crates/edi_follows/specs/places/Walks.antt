-- Helper. What the machine does for one process while the kernel takes no other: instructions, the words that they leave alone, what
-- they add to the past of the system, and whether they took the marks away.
use Rattle.std.specs.Prelude.{◌≡◌, ℕ, zero, suc, Bool, true, false, ◌||◌, Option, Some, None, List, ◌++◌}
use Rattle.edi_calls.specs.Outcome.{Ending}
use Rattle.edi_calls.specs.State.{Traced}
use Rattle.edi_target.specs.Op.{Instruction}
use Rattle.edi_target.specs.Memory.{word}
use Rattle.edi_target.specs.Effect.{Local, Turn, entering, leaving, looping, arriving, again, forking, exiting, finishing}
use Rattle.edi_target.specs.Mach.{Running, Answer, on, behind, turned, over, local_step}
use Rattle.edi_target.specs.Moments.{news_of}

-- the activity where the process itself goes on, and whether the marks are taken away
abbrev pub onward_turn : Turn → Running → Option (Running × Bool)
onward_turn entering r = Some (r, true)
onward_turn leaving r = Some (r, true)
onward_turn looping r = Some (r, true)
onward_turn arriving r = None
onward_turn (again marks) r = None
onward_turn (forking branches) r = None
onward_turn exiting r = None
onward_turn finishing r = None

abbrev pub onward : Answer → Option (Running × Bool)
onward (on r) = Some (r, false)
onward (behind r) = Some (r, true)
onward (turned kind r) = onward_turn kind r
onward (over ending r) = None

-- a process at its work: its activity with the memory, the system with its past, and the turns that are left
pub record Walker : Type 0 where
  pub local : Local
  pub system : Traced
  pub turns : ℕ

-- as the machine has it
abbrev pub plain : Walker → Running
plain r = record { local = r.local; system = r.system.now; turns = r.turns }

-- beside so many live processes; `outer` has the words that are not to change
module _ (fetched : ℕ → Option (Instruction × ℕ)) (live : ℕ) (is_first : Bool) (outer : ℕ → Type 0) where
  abbrev pub Keeps : List ℕ → List ℕ → Type 0
  Keeps m m' = (a : ℕ) → outer a → word m' a ≡ word m a

  -- from one past to the other by the instruction
  abbrev pub Adds : Walker → Walker → Type 0
  Adds r r' = r'.system.past ≡ news_of fetched live is_first (plain r) ++ r.system.past

  -- one instruction
  pub record Moves (r r' : Walker) (cleared : Bool) : Type 0 where
    pub is : onward (local_step fetched live is_first (plain r)) ≡ Some (plain r', cleared)
    pub adds : Adds r r'
    pub keeps : Keeps r.local.memory r'.local.memory

  -- n instructions
  abbrev pub Walks : ℕ → Walker → Walker → Bool → Type 0
  Walks zero r r' cleared = (r ≡ r') × (cleared ≡ false)
  Walks (suc n) r r' cleared = (mid : Walker) × (c d : Bool) × Moves r mid c × Walks n mid r' d × (cleared ≡ (c || d))

  -- some instructions
  pub record Gets (r r' : Walker) (cleared : Bool) : Type 0 where
    pub steps : ℕ
    pub walks : Walks steps r r' cleared

  -- some instructions, and one that takes this turn, which the kernel handles
  pub record Comes (r : Walker) (kind : Turn) (r' : Walker) (cleared : Bool) : Type 0 where
    pub at : Walker
    pub gets : Gets r at cleared
    pub is : local_step fetched live is_first (plain at) ≡ turned kind (plain r')
    pub adds : Adds at r'
    pub keeps : Keeps at.local.memory r'.local.memory

  -- some instructions, and one that ends the run
  pub record Stops (r : Walker) (ending : Ending) (system : Traced) (turns : ℕ) : Type 0 where
    pub at : Walker
    pub cleared : Bool
    pub gets : Gets r at cleared
    pub end : Walker
    pub is : local_step fetched live is_first (plain at) ≡ over ending (plain end)
    pub adds : Adds at end
    pub system_is : end.system ≡ system
    pub turns_are : end.turns ≡ turns
    pub keeps : Keeps at.local.memory end.local.memory
