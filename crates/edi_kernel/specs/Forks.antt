-- Words of contracts. What a fork leaves of the memory and of the table, child by child.
use Rattle.std.specs.Prelude.{◌≡◌, ℕ, zero, suc, List, [], ◌∷◌, length, slice_get, Some}
use Rattle.std.specs.Option.{option_map}
use Rattle.edi_store.specs.Memory.{written}
use Rattle.edi_target.specs.Op.{Branch}
use Rattle.edi_target.specs.Perform.{share_of}
use Rattle.edi_machine.specs.declared.activity.Activity.{Activity}
use Rattle.edi_machine.specs.Activities.{IsOrdered, local_of}
use Rattle.edi_machine.specs.Starts.{child_at, child_first}
use Rattle.edi_kernel.specs.declared.table.Table.{Table}
use Rattle.edi_kernel.specs.Table.{Added}

-- the size of each child's share
abbrev pub share_in : Activity → List Branch → ℕ
share_in parent branches = share_of (local_of [] parent) (length branches)

-- child i begins after the children that have begun
pub record OneMore (slot : ℕ) (parent : Activity) (branches : List Branch) (i : ℕ) (before : List ℕ → Table → Type 0) (store : List ℕ) (table : Table) : Type
    0 where
  pub store_before : List ℕ
  pub table_before : Table
  pub begun : before store_before table_before
  pub child : Activity
  pub is : Some child ≡ option_map (child_at (child_first (local_of [] parent) (share_in parent branches) i) (share_in parent branches)) (slice_get branches i)
  pub ordered : IsOrdered child
  pub words : store ≡ written store_before (child_first (local_of [] parent) (share_in parent branches) i) (parent.base ∷ 0 ∷ 0 ∷ 0 ∷ 0 ∷ [])
  pub added : Added slot child table_before table

-- the first i children of the process at this slot have begun
abbrev pub HaveBegun : (slot : ℕ) → Activity → List Branch → (store : List ℕ) → Table → ℕ → List ℕ → Table → Type 0
HaveBegun slot parent branches store table zero new_store new_table = (new_store ≡ store) × (new_table ≡ table)
HaveBegun slot parent branches store table (suc i) new_store new_table =
    OneMore slot parent branches i (HaveBegun slot parent branches store table i) new_store new_table
