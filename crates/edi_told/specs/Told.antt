-- Definition. What an object of the outside tells of its contents. An adapter over a real file tells nothing.
use Rattle.std.specs.Prelude.{Option, Some, None, ⊤}

-- what is told at the end of a call was told at its start, and the two are so related; nothing is said
-- where the end is not told
abbrev pub WhereTold : {A : Type 0} → Option A → Option A → (A → A → Type 0) → Type 0
WhereTold before None P = ⊤
WhereTold None (Some now) P = ⊥
WhereTold (Some before) (Some now) P = P before now
