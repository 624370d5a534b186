-- What loops over the parts of a construct keep.
use Rattle.std.proofs.Common.{◌≡◌, ◌≤◌, ℕ, List, drop}
use Rattle.std.specs.Prelude.{map, max}
use Rattle.edi_unit.specs.Need.{limited, too_large}

-- the greatest height so far and that of the parts from this place on are that of all
abbrev pub Heightens : {X Y Z : Type 0} → (X → Y) → (List Y → Z) → (Z → ℕ) → (words index : ℕ) → List X → Type 0
Heightens one list height words index items = record {
  small : words ≤ too_large;
  height : limited (max words (height (list (map one (drop index items))))) ≡ limited (height (list (map one items)));
}

-- the same of parts that are kept one above another: `before` words are below the part at this place
abbrev pub Stacks : {X Y Z : Type 0} → (X → Y) → (List Y → Z) → (ℕ → Z → ℕ) → (before words index : ℕ) → List X → Type 0
Stacks one list height before words index items = record {
  small : words ≤ too_large;
  short : before ≤ too_large;
  height : limited (max words (height before (list (map one (drop index items))))) ≡ limited (height 0 (list (map one items)));
}
