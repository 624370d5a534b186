-- Words of contracts. The state that a system in memory stands for, and how its calls reach it.
use Rattle.std.specs.Prelude.{◌≡◌, ℕ, true, Option, Result, Ok, Err, ⊤}
use Rattle.std.specs.Option.{option_map, option_to_list}
use Rattle.edi_memory.specs.declared.state.Reading.{Reading}
use Rattle.edi_memory.specs.declared.state.MemoryState.{MemoryState}
use Rattle.edi_memory.specs.declared.state.Stop.{Stop}
use Rattle.edi_memory.specs.declared.state.Stop.TheVariants as stop
use Rattle.edi_calls.specs.State.{Found, State}
use Rattle.edi_calls.specs.Asked.{uses}
use Rattle.edi_calls.specs.Calls.{CallResult, answered, no_file, file_limit}

abbrev pub found_of : Reading → Found
found_of reading = record { title = reading.title.items; position = reading.position }

abbrev pub state_of : MemoryState → State
state_of memory = record {
  input = memory.input.items;
  shown = memory.shown.items;
  printed = memory.printed.items;
  slots = memory.slots.items;
  blocks = memory.blocks;
  found = option_map found_of memory.found;
  buffer = option_map (λ bytes. bytes.items) memory.buffer;
}

-- the call is answered or refused as its result says, or memory was wanting for a call that was to be answered, and
-- the state is as before
abbrev pub Reaches : CallResult → Result (Option ℕ) Stop → State → State → Type 0
Reaches (answered words next) (Ok word) before after = (option_to_list word ≡ words) × (after ≡ next)
Reaches (answered words next) (Err (stop.Failed outside)) before after = after ≡ before
Reaches no_file (Err stop.NoFile) before after = after ≡ before
Reaches file_limit (Err stop.FileLimit) before after = after ≡ before
Reaches _ _ before after = ⊥

-- where memory was wanting the object that was to take it is one that the call of this number uses
abbrev pub FailsUsed : (number : ℕ) → Result (Option ℕ) Stop → Type 0
FailsUsed number (Err (stop.Failed outside)) = uses number outside ≡ true
FailsUsed number result = ⊤
