-- Words of contracts. An activity of the code, as the definition of the machine sees it.
use Rattle.std.specs.Prelude.{ℕ, ◌+◌, ◌^◌, ◌≤◌, List}
use Rattle.edi_target.specs.Effect.{Local}
use Rattle.edi_machine.specs.declared.activity.Activity.{Activity}

-- the activity with the memory
abbrev pub local_of : List ℕ → Activity → Local
local_of memory a = record {
  memory = memory;
  base = a.base;
  end = a.end;
  top = a.top;
  pc = a.pc;
  first = a.segment.first;
  last = a.segment.last;
  held = a.held;
}

-- the frame lies in the segment, and its five words and more of it are in use; the segment lies in the memory
pub record IsOrdered (a : Activity) : Type 0 where
  pub first : a.segment.first ≤ a.base
  pub base : a.base + 5 ≤ a.top
  pub top : a.top ≤ a.end
  pub end : a.end ≤ a.segment.last
  pub last : a.segment.last ≤ 2 ^ 16
