-- Words of contracts. The values, variables and instances of the definitions for which those of the code stand.
use Rattle.edi_unit.specs.Values.{Value, ordinal, compound, members, values}
use Rattle.edi_meaning.specs.Store.{Spot, Location, Closure, system_procedure, block_procedure, Cell, value, location, procedure}
use Rattle.edi_meaning.specs.Whole.{Designated}
use Rattle.edi_walk.specs.declared.data.Datum as code_datum
use Rattle.edi_walk.specs.declared.data.Datum.TheOpen.{Datum-F}
use Rattle.edi_walk.specs.declared.data.Datum.TheFolds.{fold-Datum}
use Rattle.edi_walk.specs.declared.data.SpotAt as code_spot
use Rattle.edi_walk.specs.declared.data.LocationAt as code_location
use Rattle.edi_walk.specs.declared.data.Closed as code_closure
use Rattle.edi_walk.specs.declared.data.Closed.TheVariants as closed
use Rattle.edi_walk.specs.declared.data.Held as code_cell
use Rattle.edi_walk.specs.declared.data.Held.TheVariants as held
use Rattle.edi_walk.specs.declared.data.Target as code_target

abbrev pub datum_step : Datum-F Value → Value
datum_step (Datum-F.Ordinal n) = ordinal n
datum_step (Datum-F.Compound vs) = compound (values vs.items)
datum_step (Datum-F.Members set) = members set

abbrev pub value_of : code_datum.Datum → Value
value_of = fold-Datum Value datum_step

abbrev pub spot_of : code_spot.SpotAt → Spot
spot_of s = (s.name.items, s.depth)

abbrev pub location_of : code_location.LocationAt → Location
location_of l = record { spot = spot_of l.spot; variable = l.variable; path = l.path.items }

abbrev pub closure_of : code_closure.Closed → Closure
closure_of (closed.System number) = system_procedure number
closure_of (closed.Block number parent) = block_procedure number (spot_of parent)

abbrev pub cell_of : code_cell.Held → Cell
cell_of (held.Value v) = value (value_of v)
cell_of (held.Location l) = location (location_of l)
cell_of (held.Procedure c) = procedure (closure_of c)

abbrev pub designated_of : code_target.Target → Designated
designated_of t = record { at = location_of t.at; of = t.of }
