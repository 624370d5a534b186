-- Definition. What was taken only grows, what is left only shrinks.
use Rattle.std.specs.Prelude.{◌≡◌, ℕ, List, drop, take, length}

-- the bytes that were taken are the first of those that are taken now
abbrev pub Grows : (taken now : List ℕ) → Type 0
Grows taken now = take (length taken) now ≡ taken

-- what is left is what was left but for a first part
abbrev pub Shrinks : (left now : List ℕ) → Type 0
Shrinks left now = (n : ℕ) × (now ≡ drop n left)
