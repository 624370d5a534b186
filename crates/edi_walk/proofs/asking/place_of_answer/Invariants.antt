use Rattle.std.proofs.Common.{◌≡◌, ℕ, [], ◌∷◌, drop}
use Rattle.std.specs.Prelude.{map}
use Rattle.edi_meaning.specs.Store.{Store}
use Rattle.edi_meaning.specs.Whole.{answer_in}
use Rattle.edi_walk.specs.Data.{cell_of}
use Rattle.edi_walk.proofs.asking.place_of_answer.Given as goal

abbrev pub invariant-loop-cell : goal.invariant-loop-cell
invariant-loop-cell l =
    (word : ℕ) (store : Store) → answer_in (map cell_of (drop l.cell-index l.cells)) (word ∷ []) store ≡ answer_in (map cell_of l.cells) (word ∷ []) store
