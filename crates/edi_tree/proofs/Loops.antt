-- What loops over the items of a list keep.
use Rattle.std.proofs.Common.{◌≡◌, ◌≤◌, ℕ, max, List, drop}
use Rattle.std.specs.Prelude.{map}
use Rattle.edi_tree.specs.declared.printer.Printer.{Printer}
use Rattle.edi_tree.specs.Depth.{limited}

-- the greatest depth so far and that of the items from this place on are that at the start and that of all
abbrev pub Deepens : {X Y Z : Type 0} → (X → Y) → (List Y → Z) → (Z → ℕ) → (depth initial index : ℕ) → List X → Type 0
Deepens one list of depth initial index items = record {
  small : depth ≤ 65;
  height : limited (max depth (of (list (map one (drop index items))))) ≡ limited (max initial (of (list (map one items))));
}

-- the items from this place on, behind what was printed, are all behind what was printed before
abbrev pub Prints : {X Y Z : Type 0} → (X → Y) → (List Y → Z) → (Z → Printer → Printer) → ℕ → List X → (out initial : Printer) → Type 0
Prints one list print index items out initial = print (list (map one (drop index items))) out ≡ print (list (map one items)) initial
