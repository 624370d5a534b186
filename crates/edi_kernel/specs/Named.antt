-- Words of contracts. Names that stay: by which names the kernel is a machine before a call of it, and by which after.
use Rattle.std.specs.Prelude.{◌≡◌, ℕ, suc, ◌+◌, ◌-◌, Bool, true, false, length, slice_get, List, Option, Some, ⊤}
use Rattle.edi_calls.specs.Names.{Name, find}
use Rattle.edi_calls.specs.Ready.{child, joins}
use Rattle.edi_calls.specs.State.{State}
use Rattle.edi_target.specs.Attempts.{attempt_fails}
use Rattle.edi_target.specs.Fetch.{fetch}
use Rattle.edi_target.specs.Mach.{Machine, went, step}
use Rattle.edi_told.specs.Told.{WhereTold}
use Rattle.edi_trace.specs.Drawn.{Drawn}
use Rattle.edi_kernel.specs.declared.ends.Ending.{Ending}
use Rattle.edi_kernel.specs.declared.ends.Ending.TheVariants as ending
use Rattle.edi_kernel.specs.declared.ends.StintEnd.{StintEnd}
use Rattle.edi_kernel.specs.declared.ends.StintEnd.TheVariants as stint_end
use Rattle.edi_kernel.specs.declared.state.KernelState.{KernelState}
use Rattle.edi_kernel.specs.declared.table.Standing.TheVariants as standing
use Rattle.edi_kernel.specs.declared.table.Table.{Table}
use Rattle.edi_kernel.specs.Table.{is_live, process_at, ready_slots}
use Rattle.edi_kernel.specs.TableIsMachine.{Naming}
use Rattle.edi_kernel.specs.Stints.{followed}
use Rattle.edi_kernel.specs.Kernel.{Holds, HoldsBroken, EndsRun, GoesTo, IsNotedAs, MayFail, StandsAfter}
use Rattle.edi_kernel.specs.Runs.{Chooses}

-- the kernel is this machine by these names
pub record HoldsBy (n : Naming) (k : KernelState) (m : Machine) (taken : Option Name) (ready : List Name) : Type 0 where
  pub holds : Holds k m taken ready
  pub by : holds.naming ≡ n

-- the process at this slot is a child of this fork and has not forked; it stands in the ready list by its number, after so many others
pub record IsBorn (parent : Name) (fork others : ℕ) (t : Table) (n : Naming) (slot : ℕ) : Type 0 where
  pub number : ℕ
  pub at : slice_get (ready_slots t) (others + number) ≡ Some slot
  pub named : n.name slot ≡ child parent fork number
  pub forks : n.forks slot ≡ 0

-- The process that was taken has forked once more, and waits for so many children. All that lived live on by their names, and have
-- forked as often as before. Who did not live is a child of this fork, and none of those that lived has the name of one.
pub record NamesGrow (fork number : ℕ) (taken : Option ℕ) (old new : Table) (before after : Naming) : Type 0 where
  pub slot : ℕ
  pub was : taken ≡ Some slot
  pub next : fork ≡ suc (before.forks slot)
  pub forked : after.forks slot ≡ fork
  pub waits : (process_at new slot).standing ≡ standing.Waiting number
  pub lives : (i : ℕ) → is_live old i ≡ true → is_live new i ≡ true
  pub names : (i : ℕ) → is_live old i ≡ true → after.name i ≡ before.name i
  pub forks : (i : ℕ) → is_live old i ≡ true → (i ≡ slot → ⊥) → after.forks i ≡ before.forks i
  pub fresh : (i q : ℕ) → is_live old i ≡ true → before.name i ≡ child (before.name slot) fork q → ⊥
  pub born : (i : ℕ) → is_live old i ≡ false → is_live new i ≡ true → IsBorn (before.name slot) fork (length (ready_slots old)) new after i

-- who lives afterwards lived before, at the same slot
abbrev pub SlotsStay : (old new : Table) → Type 0
SlotsStay old new = (i : ℕ) → is_live new i ≡ true → is_live old i ≡ true

-- The last instruction of a stint of p that begins in m: p goes on to the machine `before`, and the instruction that is next there leaves
-- `machine`, where these join the ready ones. `failed` tells whether it is the end of an attempt that has failed.
pub record EndsBy (words : List ℕ) (failed : Bool) (m : Machine) (p : Name) (others : List Name) (machine : Machine) (joined : List Name) : Type 0 where
  pub steps : ℕ
  pub before : Machine
  pub reached : followed (fetch words) steps m p others ≡ Some before
  pub last : step (fetch words) before p others ≡ went machine (joins joined)
  pub failed_is : failed ≡ attempt_fails (fetch words) before p (find before.activities p)

-- How the stint of p ends, where the kernel was the machine by these names: after an arrival, after an end and at a standstill it is so by
-- the same names, and after a fork by those that have grown.
abbrev pub GoesBy : List ℕ → StintEnd → (left : ℕ) → (old : KernelState) → Naming → KernelState → State → Machine → Name → List Name → Type 0
GoesBy words (stint_end.Arrived used) left old n k now m p others =
    (g : GoesTo words (stint_end.Arrived used) left k now m p others) × (g.0.holds.naming ≡ n) × SlotsStay old.table k.table
    × EndsBy words k.failed m p others g.0.machine g.0.joined
GoesBy words (stint_end.Exited used) left old n k now m p others =
    (g : GoesTo words (stint_end.Exited used) left k now m p others) × (g.0.holds.naming ≡ n) × SlotsStay old.table k.table
    × EndsBy words k.failed m p others g.0.machine g.0.joined
GoesBy words (stint_end.Forked used) left old n k now m p others =
    (g : GoesTo words (stint_end.Forked used) left k now m p others)
    × NamesGrow g.1.fork g.1.number old.taken old.table k.table n g.0.holds.naming
    × EndsBy words k.failed m p others g.0.machine g.0.joined
GoesBy words (stint_end.Over used ending.Standstill) left old n k now m p others =
    (g : GoesTo words (stint_end.Over used ending.Standstill) left k now m p others) × (g.3.naming ≡ n) × SlotsStay old.table k.table
GoesBy words (stint_end.Over used e) left old n k now m p others = GoesTo words (stint_end.Over used e) left k now m p others

-- the stint of p ended the run, and the kernel is the machine of that end by the same names, where p is still taken
pub record BreaksRun (words : List ℕ) (left : ℕ) (e : Ending) (old : KernelState) (n : Naming) (k : KernelState) (now : State) (m : Machine) (p : Name)
    (others : List Name) : Type 0 where
  pub ends : EndsRun words left e k now m p others
  pub broken : HoldsBroken words e k ends.machine p others
  pub by : broken.holds.naming ≡ n
  pub slots : SlotsStay old.table k.table

-- So where the stint ended the run by an instruction of p. At a standstill nobody is taken, and `GoesBy` says the same; after a fault nothing
-- is said of the processes.
abbrev pub BreaksRunBy : List ℕ → StintEnd → (left : ℕ) → (old : KernelState) → Naming → KernelState → State → Machine → Name → List Name → Type 0
BreaksRunBy words (stint_end.Over used ending.Standstill) left old n k now m p others = ⊤
BreaksRunBy words (stint_end.Over used ending.Fault) left old n k now m p others = ⊤
BreaksRunBy words (stint_end.Over used e) left old n k now m p others = BreaksRun words (left - used) e old n k now m p others
BreaksRunBy words end left old n k now m p others = ⊤

-- What a stint leaves, of the kernel where an arrival is noted: it is that of the machine's definition, as `GoesBy` and `BreaksRunBy` say.
pub record StintGoes (notes : Bool) (words : List ℕ) (left : ℕ) (old new : KernelState) (before after : Option State) (result : StintEnd) : Type 0 where
  pub noted : KernelState
  pub is : IsNotedAs notes old noted new result
  pub exact : WhereTold before after (λ s t. (m : Machine) (p : Name) (others : List Name) (n : Naming) →
      HoldsBy n old m (Some p) others → m.system ≡ s → m.turns ≡ left → GoesBy words result left old n noted t m p others)
  pub ends : WhereTold before after (λ s t. (m : Machine) (p : Name) (others : List Name) (n : Naming) →
      HoldsBy n old m (Some p) others → m.system ≡ s → m.turns ≡ left → BreaksRunBy words result left old n noted t m p others)
  pub standing : StandsAfter result old.taken (ready_slots old.table) noted.table noted.arrived
  pub failed : MayFail result noted.failed

-- the next process is taken, by the same names
abbrev pub ChoosesBy : Naming → KernelState → Machine → (old new : Drawn) → (ready : List Name) → Type 0
ChoosesBy n k m old new ready = (c : Chooses k m old new ready) × (c.holds.naming ≡ n)
