-- Words of contracts. The system of a program whose choices are all followed, as its object keeps it.
use Rattle.std.specs.Prelude.{◌≡◌, ℕ, Bool, true, Option, None, drop, ⊤}
use Rattle.std.specs.Option.{option_map, option_to_list}
use Rattle.std.specs.Prelude.{Result, Ok, Err}
use Rattle.edi_calls.specs.State.{State}
use Rattle.edi_calls.specs.Asked.{uses}
use Rattle.edi_calls.specs.Calls.{CallResult, answered, no_file, file_limit}
use Rattle.edi_explored.specs.machine.Alike.{SameShown}
use Rattle.edi_explore.specs.declared.offline.Offline.{Offline}
use Rattle.edi_explore.specs.declared.offline.Place.{Place}
use Rattle.edi_explore.specs.declared.offline.Stop.{Stop}
use Rattle.edi_explore.specs.declared.offline.Stop.TheVariants as stop
use Rattle.edi_explore.specs.Offline.{no_files}

-- the system, as its object keeps it
abbrev pub system_of : Offline → State
system_of o = record {
  input = drop o.taken o.input.items;
  shown = o.shown.items;
  printed = o.printed.items;
  slots = no_files;
  blocks = 0;
  found = None;
  buffer = option_map (λ bytes. bytes.items) o.buffer;
}

-- what is kept is where the system stands: what was taken of the input, the file that is being written, and what was shown, if that is asked
pub record IsPlaceOf (asks : Bool) (o : Offline) (place : Place) : Type 0 where
  pub taken : place.taken ≡ o.taken
  pub shown : SameShown asks place.shown.items o.shown.items
  pub buffer : option_map (λ bytes. bytes.items) place.buffer ≡ option_map (λ bytes. bytes.items) o.buffer

-- the input, and what has failed, are as before
pub record IsSameElsewhere (old new : Offline) : Type 0 where
  pub input : new.input ≡ old.input
  pub failed : new.failed ≡ old.failed
  pub faults : new.faults ≡ old.faults

-- the call is answered or refused as its result says, or memory ran out for a call that was to be answered, and the state is as before
abbrev pub Reaches : CallResult → Result (Option ℕ) Stop → State → State → Type 0
Reaches (answered words next) (Ok word) before after = (option_to_list word ≡ words) × (after ≡ next)
Reaches (answered words next) (Err (stop.Failed outside)) before after = after ≡ before
Reaches no_file (Err stop.NoFile) before after = after ≡ before
Reaches file_limit (Err stop.FileLimit) before after = after ≡ before
Reaches _ _ before after = ⊥

-- where memory ran out the object that was to take it is one that the call of this number uses
abbrev pub FailsUsed : (number : ℕ) → Result (Option ℕ) Stop → Type 0
FailsUsed number (Err (stop.Failed outside)) = uses number outside ≡ true
FailsUsed number result = ⊤
