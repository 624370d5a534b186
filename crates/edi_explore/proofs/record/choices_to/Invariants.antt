use Rattle.std.proofs.Common.{◌≡◌, ◌-◌, ◌<◌, [], length}
use Rattle.edi_explore.specs.Records.{trail}
use Rattle.edi_explore.proofs.record.choices_to.Given as goal

-- the choices from here back, before those so far, are all of them
abbrev pub invariant-loop : goal.invariant-loop
invariant-loop l = record {
  so_far : trail l.states (length l.states.keys.keys - l.counter) l.at l.choices.items ≡ trail l.states (length l.states.keys.keys) l.fn.origin [];
  state : l.at.state < length l.states.keys.keys;
}
