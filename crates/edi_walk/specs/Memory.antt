-- Words of contracts. The store of the definitions for which the variables of the code stand.
use Rattle.std.specs.Prelude.{◌≡◌, ℕ, zero, suc, true, false, List, [], ◌∷◌, map, slice_index_or, slice_set}
use Rattle.edi_calls.specs.Names.{Name, same}
use Rattle.edi_unit.specs.Values.{Value}
use Rattle.edi_meaning.specs.Store.{Cell, value, no_cell, value_in, cells_in, with_cell_in, Location, Instance, Store}
use Rattle.edi_meaning.specs.Parts.{with_part}
use Rattle.edi_walk.specs.declared.memory.Activation as code_activation
use Rattle.edi_walk.specs.declared.entry.Entry as code_entry
use Rattle.edi_walk.specs.declared.memory.Memory as code_memory
use Rattle.edi_walk.specs.Data.{cell_of, spot_of}

abbrev pub instance_of : code_activation.Activation → Instance
instance_of a = record {
  frame = record { block = a.block; need = a.need; parent = spot_of a.parent };
  cells = map cell_of a.cells.items;
}

abbrev pub entry_of : code_entry.Entry → Name × List Instance
entry_of e = (e.name.items, map instance_of e.instances.items)

abbrev pub store_of : code_memory.Memory → Store
store_of m = map entry_of m.entries.items

-- the first entry of this name stands at this place
abbrev pub StandsAt : Name → ℕ → List code_entry.Entry → Type 0
StandsAt name i [] = ⊥
StandsAt name zero (e ∷ es) = same name e.name.items ≡ true
StandsAt name (suc i) (e ∷ es) = (same name e.name.items ≡ false) × StandsAt name i es

-- variables with another value at a location of them
abbrev pub cells_put : List Cell → Location → Value → List Cell
cells_put cells l v = slice_set cells l.variable (value (with_part (value_in (slice_index_or cells l.variable no_cell)) l.path v))

-- instances of one process with another value at a location of them
abbrev pub instances_put : List Instance → Location → Value → List Instance
instances_put is l v =
    with_cell_in is l.spot.1 l.variable (value (with_part (value_in (slice_index_or (cells_in is l.spot.1) l.variable no_cell)) l.path v))
