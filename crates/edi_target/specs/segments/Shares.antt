-- Words of contracts. Where the segments of the children of a fork lie.
use Rattle.std.specs.Prelude.{◌≡◌, ℕ, ◌+◌, ◌*◌, List, slice_get, Option, Some}
use Rattle.edi_calls.specs.Names.{Name, find}
use Rattle.edi_calls.specs.Ready.{child}
use Rattle.edi_target.specs.Op.{Branch}
use Rattle.edi_target.specs.Mach.{ready, Activity, Machine, with_children}

-- a child at the beginning of its branch, with this segment: its frame begins with the segment
abbrev pub first_of_branch : (first share : ℕ) → Branch → Activity
first_of_branch first share branch = record {
  base = first;
  end = first + branch.need;
  top = first + 5;
  pc = branch.address;
  first = first;
  last = first + share;
  held = 0;
  forks = 0;
  standing = ready;
}

-- child i of a fork begins i shares behind the address at which the first one begins
abbrev pub ChildrenLieInShares : Type 0
ChildrenLieInShares =
    (p : Name) (fork base at share : ℕ) (branches : List Branch) (m : Machine) (i : ℕ) (branch : Branch) → slice_get branches i ≡ Some branch →
    find (with_children p fork 0 base at share branches m).activities (child p fork i) ≡ Some (first_of_branch (at + i * share) share branch)
