-- Words of contracts. What a system in memory shows: its state, its counts of faults, and the object that has failed.
use Rattle.std.specs.Prelude.{◌≡◌, ℕ, Bool, true, false, ◌&&◌, nat_le, if◌then◌else◌, List, [], length, replicate, Option, Some, None, is_none}
use Rattle.edi_calls.specs.declared.ends.Outside.{Outside}
use Rattle.edi_memory.specs.declared.memory.MemoryCalls.{MemoryCalls}
use Rattle.edi_calls.specs.State.{File, State, is_title, most_bytes, find_slot, put_slot}
use Rattle.edi_calls.specs.Calls.{room_for}
use Rattle.edi_memory.specs.Memory.{state_of}
use Rattle.edi_memory.specs.Counts.{count_of}

abbrev pub system_of : MemoryCalls → State
system_of calls = state_of calls.system

abbrev pub faults_of : MemoryCalls → Outside → ℕ
faults_of calls = count_of calls.faults

abbrev pub failed_of : MemoryCalls → Option Outside
failed_of calls = calls.failed

-- a system with this input and no files
abbrev pub empty_system : List ℕ → ℕ → State
empty_system input blocks = record {
  input = input;
  shown = [];
  printed = [];
  slots = replicate 256 None;
  blocks = blocks;
  found = None;
  buffer = None;
}

-- nothing has failed yet
pub record CallsBegin (calls : MemoryCalls) (input : List ℕ) (blocks : ℕ) : Type 0 where
  pub system : system_of calls ≡ empty_system input blocks
  pub failed : failed_of calls ≡ None
  pub faults : (outside : Outside) → faults_of calls outside ≡ 0

-- the slot for a new file of so many bytes, if there may be one of this title
abbrev pub new_index : State → List ℕ → ℕ → Option ℕ
new_index state title size =
    if is_title title && nat_le size most_bytes && is_none (find_slot state.slots title)
    then room_for state title size else None

-- the file was added in the slot that there is for it, or there is none and nothing changed
abbrev pub AddsAt : Option ℕ → Bool → State → State → File → Type 0
AddsAt (Some index) true before after file = after ≡ record before { slots = put_slot before.slots index (Some file) }
AddsAt None false before after file = after ≡ before
AddsAt _ _ before after file = ⊥

abbrev pub Adds : Bool → State → State → File → Type 0
Adds added before after file = AddsAt (new_index before file.title (length file.bytes)) added before after file

-- faults and the failed object stay
pub record IsSameElsewhere (before after : MemoryCalls) : Type 0 where
  pub faults : (outside : Outside) → faults_of after outside ≡ faults_of before outside
  pub failed : failed_of after ≡ failed_of before
