-- Helper. The words of frames put back, one frame after another from the newest down.
use Rattle.std.specs.Prelude.{ℕ, zero, suc, ◌+◌, ◌-◌, if◌then◌else◌, List, take, drop}
use Rattle.edi_store.specs.Memory.{written}
use Rattle.edi_target.specs.Memory.{word}
use Rattle.edi_kernel.specs.Kept.{leads_down}

-- the memory in which the first of these words are those of the frame at `base` up to `top`, and the next ones those of the frames
-- below it, at most so many in all; each frame's links tell where the next one is
abbrev pub put_frames : ℕ → (words memory : List ℕ) → (first base top : ℕ) → List ℕ
put_frames zero words memory first base top = memory
put_frames (suc n) words memory first base top =
    let now = written memory base (take (top - base) words) in
    if leads_down first base (word now (base + 1)) (word now (base + 4))
    then put_frames n (drop (top - base) words) now first (word now (base + 1)) (word now (base + 4))
    else now
