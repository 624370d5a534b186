-- Each need that a resolved program tells is at most 65,535.
use Rattle.std.proofs.Common.{ℕ, ◌≤◌, List, length, All, nat_lt, refl, arith, subst, sym}
use Rattle.std.proofs.lemmas.List.Elements.{All-set, All-push}
use Rattle.edi_tree.specs.Depth.{depth}
use Rattle.edi_unit.specs.Types.{greatest_size}
use Rattle.edi_unit.specs.Tree.{Block}
use Rattle.edi_unit.specs.Need.{block_at}
use Rattle.edi_static.specs.Statements.{with_statements}
use Rattle.edi_static.specs.Laws.{IsSmall, NeedsAreSmall}
use Rattle.edi_static.proofs.Judging.{Gives}
use Rattle.edi_static.proofs.Declared.{Keeping, of_blocks, block_or}
use Rattle.edi_static.proofs.Lasting.{Lasting, nothing_said, UnitLasts, unit_lasts}

at_small : (bs : List Block) (n : ℕ) → All IsSmall bs → IsSmall (block_at bs n)
at_small bs n h = block_or IsSmall bs n (nat_lt n (length bs)) refl (omega arith) h

abbrev small : Keeping
small = of_blocks (All IsSmall) (λ blocks n block body need h.
    All-set IsSmall blocks n block (subst (λ most. most ≤ greatest_size) (sym need) (at_small blocks n h)) h)

abbrev small_lasts : (levels : ℕ) → Lasting levels
small_lasts levels = record {
  keep = small;
  said = nothing_said;
  settled = λ types blocks h. h;
  first = λ i d lt. absurd (omega (arith, lt));
  begun = λ types blocks block body need h. All-push IsSmall blocks block h (subst (λ most. most ≤ greatest_size) (sym need) (omega arith));
  added = λ types blocks n d s less k h. All-set IsSmall blocks n (with_statements s (block_at blocks n)) (at_small blocks n h) h;
  needed = λ types blocks n most fits h. All-set IsSmall blocks n (record (block_at blocks n) { need = most }) fits h;
}

pub needs_are_small : NeedsAreSmall
needs_are_small tree unit e =
    let levels : ℕ = depth tree in
    subst (Gives (UnitLasts levels (small_lasts levels))) e (unit_lasts levels (small_lasts levels) tree (omega arith))
