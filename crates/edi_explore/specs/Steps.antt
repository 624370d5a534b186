-- Words of contracts. One stint from a state that is kept.
use Rattle.std.specs.Prelude.{◌≡◌, ◌^◌, ℕ, Bool, false, List, [], length, Some, None, ⊤}
use Rattle.edi_calls.specs.Names.{Name}
use Rattle.edi_calls.specs.Ready.{name_at, without_index}
use Rattle.edi_target.specs.Check.{CodeParts}
use Rattle.edi_target.specs.Mach.{Machine}
use Rattle.edi_kernel.specs.declared.ends.Ending.{Ending}
use Rattle.edi_kernel.specs.declared.ends.Ending.TheVariants as ending
use Rattle.edi_kernel.specs.declared.ends.StintEnd.{StintEnd}
use Rattle.edi_kernel.specs.declared.ends.StintEnd.TheVariants as stint_end
use Rattle.edi_kernel.specs.declared.state.KernelState.{KernelState}
use Rattle.edi_kernel.specs.Kernel.{GoesTo, Holds, IsKernel, is_over}
use Rattle.edi_kernel.specs.Runs.{IsAt}
use Rattle.edi_explored.specs.machine.Kernels.{IsFailed}
use Rattle.edi_explore.specs.declared.ends.Limits.{Limits}
use Rattle.edi_explore.specs.declared.offline.Offline.{Offline}
use Rattle.edi_explore.specs.declared.states.States.{States}
use Rattle.edi_explore.specs.declared.step.Followed.{Followed}
use Rattle.edi_explore.specs.declared.step.Followed.TheVariants as followed
use Rattle.edi_explore.specs.Shown.{asks_of}
use Rattle.edi_explore.specs.Systems.{system_of}
use Rattle.edi_explore.specs.States.{IsAddedFrom, PutsStateBack}

-- the process at this index of the ready ones has gone on from this state, with so many turns, and its stint ended so
pub record GoesOn (s : States) (code : CodeParts) (turns state index : ℕ) (end : StintEnd) (after : KernelState) (o : Offline) : Type 0 where
  pub back : KernelState
  pub placed : Offline
  pub puts : PutsStateBack s state back placed
  pub printed : placed.printed.items ≡ []
  pub taken : KernelState
  pub takes : (m : Machine) (ready : List Name) → Holds back m None ready → Holds taken m (Some (name_at ready index)) (without_index ready index)
  pub entering : taken.entering ≡ false
  pub goes : (m : Machine) (p : Name) (others : List Name) → IsAt code taken (system_of placed) turns m p others →
      GoesTo code.words end turns after (system_of o) m p others
  pub kernel : IsKernel after
  pub long : length after.store ≡ 2 ^ 16
  pub free : is_over end ≡ false → after.taken ≡ None
  pub input : o.input ≡ placed.input

-- an ending that the program has brought about, and that is told where it is met: the stint was not cut, no object has failed, and the process
-- has not only failed an attempt
abbrev pub IsProper : Ending → Type 0
IsProper ending.Turns = ⊥
IsProper ending.Standstill = ⊥
IsProper ending.Fault = ⊥
IsProper e = ⊤

-- how a stint is followed that has ended the run; a fault of an object is want of memory
abbrev pub EndsSo : Ending → Followed → Type 0
EndsSo ending.Turns result = result ≡ followed.Cut
EndsSo ending.Standstill result = result ≡ followed.Failed
EndsSo ending.Fault result = ⊥
EndsSo e result = result ≡ followed.Ended e

-- how a stint from there was followed: the run has ended, or the stint was cut, or the process only failed an attempt, or the state to which it
-- leads is kept, with a link
abbrev pub FollowedAs : (asks : Bool) (from : ℕ) → Followed → StintEnd → (old new : States) → KernelState → Offline → Type 0
FollowedAs asks from (followed.Ended e) end old new k o = ((used : ℕ) × (end ≡ stint_end.Over used e)) × IsProper e × (new ≡ old)
FollowedAs asks from followed.Cut end old new k o = new ≡ old
FollowedAs asks from followed.Failed end old new k o = IsFailed end k × (new ≡ old)
FollowedAs asks from followed.Led end old new k o = (is_over end ≡ false) × (k.table.marks ≡ 0) × IsAddedFrom from asks old new k o

-- the stint of the process at this index from this state was followed so
pub record FollowsStint (code : CodeParts) (limits : Limits) (state index : ℕ) (result : Followed) (old new : States) (after : KernelState) (o : Offline) : Type 0 where
  pub end : StintEnd
  pub goes : GoesOn old code limits.turns state index end after o
  pub so : FollowedAs (asks_of limits) state result end old new after o
