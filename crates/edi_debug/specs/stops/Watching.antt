-- Words of contracts. The lines that a run of the machine gives, from what its processes leave in the memory where they arrive.
use Rattle.std.specs.Prelude.{◌≡◌, ℕ, ℤ, ◌+◌, ◌-◌, Bool, true, false, ◌==◌, if◌then◌else◌, List, [], ◌∷◌, Option, Some}
use Rattle.std.specs.Prelude.{None}
use Rattle.edi_calls.specs.Outcome as outcome
use Rattle.edi_calls.specs.State.{State}
use Rattle.edi_word.specs.Words.{signed}
use Rattle.edi_unit.specs.Tree.{ProgramUnit}
use Rattle.edi_unit.specs.Need.{outer, slot_at}
use Rattle.edi_target.specs.Memory.{word, level}
use Rattle.edi_target.specs.Fetch.{fetch}
use Rattle.edi_target.specs.Mach.{Machine}
use Rattle.edi_scheme.specs.Pieces.{is_address}
use Rattle.edi_scheme.specs.Code.{code_of}
use Rattle.edi_trace.specs.Drawn.{Drawn}
use Rattle.edi_kernel.specs.declared.ends.Ending.{Ending}
use Rattle.edi_kernel.specs.declared.ends.Ending.TheVariants as ending
use Rattle.edi_kernel.specs.Runs.{EndsAfter, FailsIn}
use Rattle.edi_scheme.specs.Laws.{parts_of}
use Rattle.edi_sights.specs.declared.answer.Sight.{Sight}
use Rattle.edi_sights.specs.declared.answer.Sighted.{Sighted}
use Rattle.edi_scheme.specs.Awaits.{await_address, variable_offset}
use Rattle.edi_target.specs.Arrivals.{Arrived, arrived_from_start}
use Rattle.edi_debug.specs.stops.Kept.{Kept, after_lines}
use Rattle.edi_debug.specs.stops.Stops.{Watched, line_of, each_in}

abbrev pub is_address_here : Option ℕ → ℕ → Bool
is_address_here None pc = false
is_address_here (Some a) pc = a == pc

module _ (unit : ProgramUnit) (bound : ℕ) where
  -- the word of a variable, or of the one that it means
  abbrev pub meant_word : Bool → List ℕ → ℕ → ℕ
  meant_word true memory a = word memory (word memory a)
  meant_word false memory a = word memory a

  abbrev pub ordinal_in : List ℕ → (base block : ℕ) → Sighted → ℤ
  ordinal_in memory base block s =
      signed (meant_word (is_address (slot_at unit.blocks block s.levels s.variable)) memory
      (level memory s.levels base + variable_offset unit (outer unit.blocks block s.levels) s.variable))

  abbrev pub slot_lines : Arrived → Watched → (block : ℕ) → Option Sighted → List (List ℕ)
  slot_lines y p block None = []
  slot_lines y p block (Some s) = line_of (bound - y.turns) p.line p.name (ordinal_in y.memory y.activity.base block s) ∷ []

  abbrev pub sight_lines : Arrived → Watched → Sight → List (List ℕ)
  sight_lines y p s = if is_address_here (await_address unit s.block s.index) y.activity.pc then slot_lines y p s.block s.slot else []

  abbrev pub point_lines : Arrived → Watched → List (List ℕ)
  point_lines y p = each_in (sight_lines y p) p.sights

  abbrev pub stop_lines : List Watched → Arrived → List (List ℕ)
  stop_lines points y = each_in (point_lines y) points

  -- all lines of arrivals
  abbrev pub run_lines : List Watched → List Arrived → List (List ℕ)
  run_lines points ys = each_in (stop_lines points) ys

-- ---- what a watched run logs

-- after so many instructions of the run, from the start
abbrev pub LogsUpTo : ProgramUnit → State → (bound : ℕ) → Drawn → List Watched → (steps : ℕ) → (old new : Kept) → Type 0
LogsUpTo unit s bound choices points n old new =
    new ≡ after_lines (run_lines unit bound points (arrived_from_start (fetch (code_of unit)) 0 unit.calls s bound choices.source choices.drawn n)) old

-- the lines up to the end of the run
pub record LogsAll (unit : ProgramUnit) (s : State) (bound : ℕ) (choices : Drawn) (points : List Watched) (old new : Kept) : Type 0 where
  pub ending : outcome.Ending
  pub machine : Machine
  pub drawn : ℕ
  pub ends : EndsAfter (parts_of unit) s bound choices.source choices.drawn ending machine drawn
  pub logs : LogsUpTo unit s bound choices points ends.0 old new

-- Or those before the system call in which an object outside failed, and no others.
pub record LogsSome (unit : ProgramUnit) (s : State) (bound : ℕ) (choices : Drawn) (used : ℕ) (now : State) (new_choices : Drawn) (points : List Watched)
    (old new : Kept) : Type 0 where
  pub fails : FailsIn (parts_of unit) s bound choices used now new_choices
  pub logs : LogsUpTo unit s bound choices points fails.steps old new

abbrev pub LogsRun : ProgramUnit → State → (bound : ℕ) → Drawn → Ending → (used : ℕ) → (now : State) → Drawn → List Watched → (old new : Kept) → Type 0
LogsRun unit s bound choices ending.Fault used now drawn points old new = LogsSome unit s bound choices used now drawn points old new
LogsRun unit s bound choices e used now drawn points old new = LogsAll unit s bound choices points old new
