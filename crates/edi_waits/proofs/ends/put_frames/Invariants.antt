use Rattle.std.proofs.Common.{◌≡◌, ◌+◌, ◌-◌, ◌≤◌, ◌^◌, ◌++◌}
use Rattle.edi_waits.specs.Left.{frames_below}
use Rattle.edi_waits.proofs.ends.put_frames.Given as goal

-- the frames so far, and those below the one here, are all
abbrev pub invariant-loop : goal.invariant-loop
invariant-loop l = record {
  so_far : l.frames.items ++ frames_below (l.base - l.first - l.counter) l.kernel.store l.first l.at
      ≡ l.fn.frames.items ++ frames_below (l.base - l.first) l.kernel.store l.first l.base;
  within : l.at + 5 ≤ 2 ^ 16;
}
