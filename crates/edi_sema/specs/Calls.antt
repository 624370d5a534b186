-- Words of contracts. The parts of a system call's heading.
use Rattle.std.specs.Prelude.{ℕ, Bool, false, if◌then◌else◌, List, ◌++◌, Option, Some, None, drop}
use Rattle.edi_tree.specs.Tree as text
use Rattle.edi_unit.specs.Types.{Shape, shape_at}
use Rattle.edi_unit.specs.Headings.{Heading}
use Rattle.edi_static.specs.declared.faults.StaticKind.TheVariants as kind
use Rattle.edi_static.specs.Environment.{no_heading}
use Rattle.edi_static.specs.Programs.{is_title_shape, system_calls, number_of_call, call_with}
use Rattle.edi_static.specs.Judged.{Judged, gives, faults, ◌>>=◌}
use Rattle.edi_static.specs.Views.{One, value, procedure}

-- whether a parameter takes a title
abbrev pub takes_title : List Shape → One → Bool
takes_title types (value t) = is_title_shape (shape_at types t)
takes_title types _ = false

-- a number where something holds
abbrev pub number_if : Bool → ℕ → Option ℕ
number_if holds n = if holds then Some n else None

-- the last four of the system's calls
abbrev pub file_calls : List Shape → Heading → List (List ℕ × ℕ × Bool)
file_calls types asks = drop 6 (system_calls types asks)

-- what a parameter asks of a call, where it is a procedure
abbrev pub asked_by : One → Heading
asked_by (procedure asks) = asks
asked_by _ = no_heading

-- the call that a parameter is, which asks this; a group is none
abbrev pub param_call : List Shape → text.Param → Heading → Judged ℕ
param_call types (text.procedure_param (text.heading name ps r)) asks = call_with name (number_of_call (system_calls types asks) name.text)
param_call types (text.value_param (text.group first names of)) asks = faults kind.Heading first.line
param_call types (text.var_param (text.group first names of)) asks = faults kind.Heading first.line

-- behind calls that have been told
abbrev pub behind_numbers : List ℕ → Judged (List ℕ) → Judged (List ℕ)
behind_numbers ns judged = judged >>= λ more. gives (ns ++ more)
