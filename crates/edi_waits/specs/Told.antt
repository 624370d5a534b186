-- Words of contracts. What is told of a process that waits, as plain data.
use Rattle.std.specs.Prelude.{List, [], ◌∷◌, map}
use Rattle.std.specs.Global.{Vec}
use Rattle.edi_calls.specs.Names.{Name}
use Rattle.edi_waits.specs.declared.births.Branch.{Branch}
use Rattle.edi_waits.specs.declared.waits.Wait.{Wait}
use Rattle.edi_waits.specs.Waits.{Waiting}

-- the name, by the branches from the first process down
abbrev pub name_of : List Branch → Name
name_of [] = []
name_of (branch ∷ more) = branch.fork ∷ branch.number ∷ name_of more

abbrev pub waiting_of : Wait → Waiting
waiting_of w = record { process = name_of w.process.items; lines = w.lines.items }

abbrev pub all_of : Vec Wait → List Waiting
all_of ws = map waiting_of ws.items
