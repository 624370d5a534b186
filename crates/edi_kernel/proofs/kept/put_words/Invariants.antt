use Rattle.std.proofs.Common.{◌≡◌, ◌≤◌, ◌+◌, ◌-◌, ◌^◌, List, ℕ, length, drop}
use Rattle.edi_kernel.specs.Kept.{kept_words}
use Rattle.edi_kernel.specs.Frames.{put_frames}
use Rattle.edi_kernel.proofs.kept.put_words.Given as goal

-- what is left to be put is what some memory keeps from here on, and putting it from here is putting all from the start
abbrev pub invariant-loop : goal.invariant-loop
invariant-loop l = record {
  so_far : put_frames (l.top - l.first - l.counter) (drop l.done l.words) l.store l.first l.from l.to
      ≡ put_frames (l.top - l.first) l.words l.initial.store l.first l.base l.top;
  left : (m : List ℕ) × (length m ≡ 2 ^ 16) × (drop l.done l.words ≡ kept_words (l.top - l.first - l.counter) m l.first l.from l.to);
  first : l.first ≤ l.from;
  base : l.from + 5 ≤ l.to;
  top : l.to ≤ 2 ^ 16;
  long : length l.store ≡ 2 ^ 16;
  was_long : length l.initial.store ≡ 2 ^ 16;
}
