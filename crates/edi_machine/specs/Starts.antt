-- Words of contracts. The activities with which the program and the branches of a COBEGIN begin.
use Rattle.std.specs.Prelude.{◌≡◌, ℕ, ◌+◌, ◌*◌, ◌<◌, false, List, [], length, Option, Some}
use Rattle.std.specs.List.{list_any}
use Rattle.edi_target.specs.Op as op
use Rattle.edi_target.specs.Op.{Instruction, Branch}
use Rattle.edi_target.specs.Fetch.{fetch}
use Rattle.edi_target.specs.Perform.{share_of, exceeds}
use Rattle.edi_target.specs.Effect.{Local}
use Rattle.edi_target.specs.Mach.{ready, activity_of, first_activity, start_memory}
use Rattle.edi_machine.specs.declared.activity.Activity.{Activity}
use Rattle.edi_machine.specs.Activities.{local_of}

-- the memory and the activity are those with which the machine starts, where this ENTRY stands at the entry of the code
abbrev pub ActivityBegins : Option (Instruction × ℕ) → (calls : List ℕ) → (memory : List ℕ) → Activity → Type 0
ActivityBegins (Some (op.entry need r p v f, body)) calls memory a =
    (memory ≡ start_memory calls) × (activity_of (local_of memory a) 0 ready ≡ first_activity need (5 + p + v) body)
ActivityBegins _ calls memory a = ⊥

-- the branches of the COBEGIN at an address; none where no COBEGIN stands there
abbrev pub branches_in : Option (Instruction × ℕ) → List Branch
branches_in (Some (op.cobegin line branches, next)) = branches
branches_in _ = []

abbrev pub branches_at : List ℕ → ℕ → List Branch
branches_at words at = branches_in (fetch words at)

-- a COBEGIN of these branches, none of which needs more than its share, stands at this address; their parent is this activity
pub record IsFork (words : List ℕ) (at : ℕ) (branches : List Branch) (parent : Local) : Type 0 where
  pub here : branches_at words at ≡ branches
  pub some : 0 < length branches
  pub fits : list_any (exceeds (share_of parent (length branches))) branches ≡ false

-- the activity with which a branch begins that has these words as its segment
abbrev pub child_at : (first share : ℕ) → Branch → Activity
child_at first share branch = record {
  base = first;
  end = first + branch.need;
  top = first + 5;
  pc = branch.address;
  segment = record { first = first; last = first + share };
  held = 0;
}

-- the first word of child i's segment
abbrev pub child_first : Local → (share i : ℕ) → ℕ
child_first parent share i = parent.end + i * share
