-- Helper. How a stint has ended, by what the kernel keeps after it.
use Rattle.std.specs.Prelude.{◌≡◌, ◌<◌, ℕ, suc, ◌-◌, Bool, true, false, ◌&&◌, ◌==◌, nat_lt, if◌then◌else◌, List, [], length, drop, Option, Some, None}
use Rattle.std.specs.Option.{option_map}
use Rattle.edi_calls.specs.Outcome as outcome
use Rattle.edi_kernel.specs.declared.ends.Ending.{Ending}
use Rattle.edi_kernel.specs.declared.ends.Ending.TheVariants as ending
use Rattle.edi_kernel.specs.declared.ends.StintEnd.{StintEnd}
use Rattle.edi_kernel.specs.declared.ends.StintEnd.TheVariants as stint_end
use Rattle.edi_kernel.specs.declared.state.KernelState.{KernelState}
use Rattle.edi_kernel.specs.declared.table.Process.{Process}
use Rattle.edi_kernel.specs.declared.table.Standing.{Standing}
use Rattle.edi_kernel.specs.declared.table.Standing.TheVariants as standing
use Rattle.edi_kernel.specs.Table.{process_at, ready_slots}
use Rattle.edi_kernel.specs.Kernel.{ended_by}
use Rattle.edi_machine.specs.declared.activity.Activity.{Activity}
use Rattle.edi_timeline.specs.Stints.{End, arrives, waits, tries, forks, ends, over}
use Rattle.edi_timeline.specs.Told.{meant}
use Rattle.edi_timeline.specs.Timelines.{Told}
use Rattle.edi_timeline.specs.Adding.{added, counted, end_of, has_failed}
use Rattle.edi_timeline.specs.declared.entry.Came.{Came}
use Rattle.edi_timeline.specs.declared.entry.Said.{Said}
use Rattle.edi_waits.specs.Places.{place}
use Rattle.edi_timed.specs.declared.seats.Seated.{Seated}
use Rattle.edi_timed.specs.declared.leaving.Spot.{Spot}
use Rattle.edi_timed.specs.declared.leaving.Begun.{Begun}
use Rattle.edi_timed.specs.Ran.{is_spot}
use Rattle.edi_timed.specs.Seats.{seat_at, seats_after}

-- ---- where a process stands at a `when`

abbrev pub spot_by : Standing → Activity → Option (ℕ × ℕ)
spot_by standing.AtWhen a = Some (a.base, a.pc)
spot_by standing a = None

abbrev pub spot_at : Process → Option (ℕ × ℕ)
spot_at process = spot_by process.standing process.activity

abbrev pub spot_in : Option Spot → Option (ℕ × ℕ)
spot_in None = None
spot_in (Some s) = Some (s.base, s.pc)

-- what is known of a stint before it goes
pub record Begins (k : KernelState) (b : Begun) : Type 0 where
  pub taken : k.taken ≡ Some b.slot
  pub inside : b.slot < 32
  pub others : b.others ≡ length (ready_slots k.table)
  pub stood : spot_in b.stood ≡ spot_at (process_at k.table b.slot)

-- ---- how it ends

-- so a stint at whose end none is ready has ended at a standstill
abbrev pub ended_as : (ready : ℕ) → StintEnd → StintEnd
ended_as ready (stint_end.Over used e) = stint_end.Over used e
ended_as ready (stint_end.Arrived used) = if ready == 0 then stint_end.Over used ending.Standstill else stint_end.Arrived used
ended_as ready (stint_end.Forked used) = if ready == 0 then stint_end.Over used ending.Standstill else stint_end.Forked used
ended_as ready (stint_end.Exited used) = if ready == 0 then stint_end.Over used ending.Standstill else stint_end.Exited used

module _ (words : List ℕ) (k : KernelState) (stands : Bool) (b : Begun) where
  abbrev pub arrived_at : Option Activity → End
  arrived_at None = arrives []
  arrived_at (Some a) =
      if k.failed && (stands && is_spot (spot_in b.stood) a.base a.pc) then (if nat_lt 0 k.table.marks then waits else tries)
      else arrives (place words k.store a.segment.first a.base a.pc)

  abbrev pub left_at : StintEnd → End
  left_at (stint_end.Arrived used) = arrived_at k.arrived
  left_at (stint_end.Forked used) = forks (length (ready_slots k.table) - b.others)
  left_at (stint_end.Exited used) = ends
  left_at (stint_end.Over used e) = over (meant e)

-- whether the run has ended so because an object outside failed
abbrev pub is_fault : Option Ending → Bool
is_fault (Some ending.Fault) = true
is_fault ended = false

-- ---- what is told of it

-- how the run has ended by it, if it has
abbrev pub ending_at : StintEnd → Option outcome.Ending
ending_at end = option_map meant (ended_by end)

-- what a stint of this end adds, where there is room for it
pub record AddsStint (words : List ℕ) (k : KernelState) (b : Begun) (end : StintEnd) (said : Said) (old new : List Seated) (before after : Told) : Type 0 where
  pub came : Came
  pub is : end_of came ≡ left_at words k (seat_at old b.slot).stands b end
  pub failed : has_failed came ≡ true → (seat_at old b.slot).stands ≡ true
  pub told : after ≡ added before (seat_at old b.slot).seat came k.used said
  pub seats : new ≡ seats_after came (suc before.count) b.slot (drop b.others (ready_slots k.table)) old

abbrev pub AddsBy : (is_full : Bool) → List ℕ → KernelState → Begun → StintEnd → Said → (old new : List Seated) → (before after : Told) → Type 0
AddsBy true words k b end said old new before after = after ≡ counted before (ending_at end)
AddsBy false words k b end said old new before after = AddsStint words k b end said old new before after
