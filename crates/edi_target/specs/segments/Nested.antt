-- Words of contracts. Where the frames and segments of the processes lie in the memory of the abstract machine.
use Rattle.std.specs.Prelude.{◌≡◌, ℕ, ◌+◌, ◌-◌, ◌^◌, ◌<◌, ◌≤◌, ◌⊎◌, false, List, length, Option, Some}
use Rattle.edi_calls.specs.Choice.{Choices}
use Rattle.edi_calls.specs.Names.{Name, Table, same, find}
use Rattle.edi_calls.specs.Outcome.{Ending}
use Rattle.edi_calls.specs.Ready.{Next, parent_of}
use Rattle.edi_calls.specs.State.{State}
use Rattle.edi_target.specs.Op.{Instruction}
use Rattle.edi_target.specs.Reading.{AreWords}
use Rattle.edi_target.specs.Fetch.{fetch}
use Rattle.edi_target.specs.Mach.{waiting, Activity, Machine, Stepped, went, ended, step, awaits, entered, Ends, IsAncestor}

-- ---- what the machine reaches

-- the process lives and does not wait for children, so that it may be taken
pub record MayGoOn (m : Machine) (p : Name) : Type 0 where
  pub activity : Activity
  pub lives : find m.activities p ≡ Some activity
  pub free : (n : ℕ) → activity.standing ≡ waiting n → ⊥

-- the machine that a step leaves, also where the run ends with it
abbrev pub machine_after : Stepped → Machine
machine_after (went m next) = m
machine_after (ended ending m) = m

-- a machine between two instructions, whichever processes were taken: that of the start, and what a step of a process that
-- may go on leaves, beside whatever other ready ones
pub data Reached (code : ℕ → Option (Instruction × ℕ)) (entry : ℕ) (calls : List ℕ) (system : State) (bound : ℕ) : Machine → Type 0 where
  at_start : (m : Machine) (next : Next) → entered (code entry) entry calls bound system ≡ went m next → Reached code entry calls system bound m
  after_step : (m t : Machine) (p : Name) (others : List Name) (next : Next) →
      Reached code entry calls system bound m → MayGoOn m p → step code m p others ≡ went t next → Reached code entry calls system bound t

-- ---- frames and segments

-- a frame begins in its segment, the words in use are its first five at least, and it ends in its segment, which ends in
-- the memory
pub record InOrder (first base top end last : ℕ) : Type 0 where
  pub begins : first ≤ base
  pub links : base + 5 ≤ top
  pub uses : top ≤ end
  pub ends : end ≤ last
  pub fits : last ≤ 2 ^ 16

abbrev pub IsInOrder : Activity → Type 0
IsInOrder a = InOrder a.first a.base a.top a.end a.last

-- a segment lies in the words that another has free behind its frame
pub record IsBehind (a b : Activity) : Type 0 where
  pub behind : b.end ≤ a.first
  pub within : a.last ≤ b.last

-- the parent of a process lives and waits, and the segment lies behind its frame
pub record IsInParent (activities : Table Activity) (p : Name) (a : Activity) : Type 0 where
  pub parent : Activity
  pub lives : find activities (parent_of p) ≡ Some parent
  pub number : ℕ
  pub waits : parent.standing ≡ waiting number
  pub lies : IsBehind a parent

-- two segments have no word in common
abbrev pub AreApart : Activity → Activity → Type 0
AreApart a b = (a.last ≤ b.first) ⊎ (b.last ≤ a.first)

-- the segments of two different processes have no word in common, or one is a descendant of the other and lies in the words
-- that this has free
pub data Lie (p : Name) (a : Activity) (q : Name) (b : Activity) : Type 0 where
  apart : AreApart a b → Lie p a q b
  inside : IsAncestor q p → IsBehind a b → Lie p a q b
  around : IsAncestor p q → IsBehind b a → Lie p a q b

pub record AreNested (activities : Table Activity) : Type 0 where
  pub ordered : (p : Name) (a : Activity) → find activities p ≡ Some a → IsInOrder a
  pub nested : (p : Name) (a : Activity) → 0 < length p → find activities p ≡ Some a → IsInParent activities p a
  pub siblings : (p q : Name) (a b : Activity) → 0 < length p → 0 < length q → parent_of p ≡ parent_of q → same p q ≡ false →
      find activities p ≡ Some a → find activities q ≡ Some b → AreApart a b
  pub pairs : (p q : Name) (a b : Activity) → same p q ≡ false → find activities p ≡ Some a → find activities q ≡ Some b → Lie p a q b

-- another process is as it was, or waits for one child less
pub data Stays (activities : Table Activity) (q : Name) (b : Activity) : Type 0 where
  unchanged : find activities q ≡ Some b → Stays activities q b
  awaited : (n : ℕ) → b.standing ≡ waiting n → find activities q ≡ Some (record b { standing = awaits (n - 1) }) → Stays activities q b

-- THE LAW: in every machine that a code reaches, whatever the choices, the segments of its processes are nested as the
-- processes are. A step leaves them so too, where it ends the run or not, and leaves every other process its frame and its
-- segment
abbrev pub SegmentsAreNested : Type 0
SegmentsAreNested =
    (words : List ℕ) (entry : ℕ) (calls : List ℕ) (system : State) (bound : ℕ) (m : Machine) → AreWords words →
    Reached (fetch words) entry calls system bound m →
    AreNested m.activities
    × ((p : Name) (others : List Name) → MayGoOn m p →
    AreNested (machine_after (step (fetch words) m p others)).activities
    × ((q : Name) (b : Activity) → same q p ≡ false → find m.activities q ≡ Some b →
    Stays (machine_after (step (fetch words) m p others)).activities q b))

-- and every run ends so, whatever its choices
abbrev pub EveryEndIsNested : Type 0
EveryEndIsNested =
    (words : List ℕ) (entry : ℕ) (calls : List ℕ) (system : State) (bound : ℕ) (choices : Choices) (ending : Ending) (m : Machine) (drawn : ℕ)
    → AreWords words →
    Ends (fetch words) entry calls system bound choices ending m drawn → AreNested m.activities
