-- Definition. THE LOG: for each arrival at a `when`, in the order of the execution, and each point of that `when`, in the order of the points,
-- a line with the turns used, the line, the name, and the ordinal of the variable that the name means there.
use Rattle.std.specs.Prelude.{ℕ, ℤ, ◌-◌, Bool, false, ◌&&◌, ◌==◌, if◌then◌else◌, List, [], ◌∷◌, ◌++◌, codes, Option, Some, None}
use Rattle.std.specs.Fmt.{decimal, signed_decimal}
use Rattle.edi_calls.specs.Names.{Name}
use Rattle.edi_calls.specs.State.{State}
use Rattle.edi_unit.specs.Values.{ordinal_of}
use Rattle.edi_unit.specs.Tree.{ProgramUnit}
use Rattle.edi_meaning.specs.Store.{get, slot}
use Rattle.edi_meaning.specs.Step.{start}
use Rattle.edi_sights.specs.declared.answer.Sight.{Sight}
use Rattle.edi_sights.specs.declared.answer.Sighted.{Sighted}
use Rattle.edi_scheme.specs.Awaits.{await_number}
use Rattle.edi_meaning.specs.Arrivals.{Arrival, arrivals}
use Rattle.edi_debug.specs.stops.Kept.{nothing_kept, after_lines}

-- a line of the text, a name, and what the name means at the `when`s of the line
pub record Watched : Type 0 where
  pub line : ℕ
  pub name : List ℕ
  pub sights : List Sight

-- `turn T line N NAME V`
abbrev pub line_of : (turns line : ℕ) → List ℕ → ℤ → List ℕ
line_of turns line name value =
    codes "turn " ++ (decimal turns ++ (codes " line " ++ (decimal line ++ (codes " " ++ (name ++ (codes " " ++ (signed_decimal value ++ codes "\n")))))))

-- one list behind another
abbrev pub each_in : {A : Type 0} → (A → List (List ℕ)) → List A → List (List ℕ)
each_in f [] = []
each_in f (x ∷ xs) = f x ++ each_in f xs

abbrev pub is_number : Option ℕ → ℕ → Bool
is_number None n = false
is_number (Some i) n = i == n

module _ (unit : ProgramUnit) (bound : ℕ) where
  -- the variable of a slot, where it is one of an elementary type
  abbrev pub slot_lines : Arrival → Watched → Option Sighted → List (List ℕ)
  slot_lines x p None = []
  slot_lines x p (Some s) = line_of (bound - x.turns) p.line p.name (ordinal_of (get x.store (slot x.store x.process s.levels s.variable))) ∷ []

  -- what a sight gives, if it is one of the `when` at which the process stands
  abbrev pub sight_lines : Arrival → Watched → Sight → List (List ℕ)
  sight_lines x p s =
      if s.block == x.position.of && is_number (await_number unit x.position) s.index then slot_lines x p s.slot else []

  abbrev pub point_lines : Arrival → Watched → List (List ℕ)
  point_lines x p = each_in (sight_lines x p) p.sights

  abbrev pub stop_lines : List Watched → Arrival → List (List ℕ)
  stop_lines points x = each_in (point_lines x) points

-- all lines along an order of steps
abbrev pub log_lines : ProgramUnit → State → (bound : ℕ) → (order : List Name) → List Watched → List (List ℕ)
log_lines unit system bound order points = each_in (stop_lines unit bound points) (arrivals unit order (start unit system bound))

-- and the longest beginning of whole lines that fits
abbrev pub log_of : ProgramUnit → State → (bound : ℕ) → (order : List Name) → List Watched → List ℕ
log_of unit system bound order points = (after_lines (log_lines unit system bound order points) nothing_kept).bytes
