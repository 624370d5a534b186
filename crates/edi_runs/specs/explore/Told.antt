-- Words of contracts. What an exploration finds, as plain data; and what reading an input takes of it.
use Rattle.std.specs.Prelude.{◌≡◌, ℕ, ◌<◌, ◌≤◌, suc, Bool, if◌then◌else◌, List, [], ◌++◌, length, drop, map, Result, Ok, Err}
use Rattle.std.specs.Global.{Vec}
use Rattle.edi_timeline.specs.Told.{meant}
use Rattle.edi_waits.specs.Told.{all_of}
use Rattle.edi_explore.specs.declared.ends.Found as code_found
use Rattle.edi_runs.specs.declared.explore.input.InputFault.{InputFault}
use Rattle.edi_runs.specs.declared.explore.input.InputFault.TheVariants as fault
use Rattle.edi_runs.specs.declared.explore.orders.Exploration as code_exploration
use Rattle.edi_runs.specs.declared.explore.orders.Orders.{Orders}
use Rattle.edi_runs.specs.declared.explore.orders.Orders.TheVariants as code_orders
use Rattle.edi_runs.specs.explore.Explorations.{Findings, Reached}
use Rattle.edi_runs.specs.explore.Input.{most_input}
use Rattle.edi_runs.specs.explore.Openness.{open_of}
use Rattle.edi_runs.specs.explore.Orders.{OpenName, OrdersOfSteps, settled, unsaid, used}

abbrev pub reached_of : code_found.Found → Reached
reached_of f = record {
  ending = meant f.ending;
  choices = f.choices.items;
  turns = f.turns;
  moves = f.moves;
  shown = f.shown.items;
  waits = all_of f.waits;
}

abbrev pub orders_of : Orders → OrdersOfSteps
orders_of code_orders.Settled = settled
orders_of (code_orders.Used openly) = used (open_of openly)
orders_of code_orders.Unsaid = unsaid

-- by whether something is said, and whether these variables are none
abbrev pub orders_by : (speaks none : Bool) → List OpenName → OrdersOfSteps
orders_by speaks none names = if speaks then (if none then settled else used names) else unsaid

abbrev pub findings_of : code_exploration.Exploration → Findings
findings_of e = record {
  endings = map reached_of e.report.found.items;
  verdict = e.report.verdict;
  states = e.report.states;
  cut = e.report.cut.items;
  longest = e.report.longest;
  orders = orders_of e.orders;
}

-- these first bytes of an input were taken
abbrev pub HasTaken : (taken old new : List ℕ) → Type 0
HasTaken taken old new = old ≡ taken ++ new

-- some were, at most one more than an input may have
abbrev pub HasTakenSome : (old new : List ℕ) → Type 0
HasTakenSome old new = (taken : List ℕ) × HasTaken taken old new × (length taken ≤ suc most_input)

-- some were, at most as many as an input may have, and the next byte is still left
abbrev pub HasFailedBehind : (old new : List ℕ) → Type 0
HasFailedBehind old new = (taken : List ℕ) × HasTaken taken old new × (length taken ≤ most_input) × (0 < length new)

-- from the bytes that were left of an input before it was read to those left after
abbrev pub Reads : Result (Vec ℕ) InputFault → List ℕ → List ℕ → Type 0
Reads (Ok bytes) old new = (old ≡ bytes.items) × (new ≡ []) × (length old ≤ most_input)
Reads (Err fault.TooLong) old new = (most_input < length old) × (new ≡ drop (suc most_input) old)
Reads (Err fault.Failed) old new = HasFailedBehind old new
Reads (Err fault.NoMemory) old new = HasTakenSome old new
