-- Definition. WHERE A PROCESS STANDS: the line of its `when`, and those of the calls that lead there, as they stand in the code.
use Rattle.std.specs.Prelude.{ℕ, zero, suc, ◌+◌, ◌-◌, if◌then◌else◌, List, [], ◌∷◌, slice_index}
use Rattle.edi_target.specs.Op.{address_of_words}
use Rattle.edi_target.specs.Memory.{word}
use Rattle.edi_kernel.specs.Kept.{leads_down}

module _ (words : List ℕ) where
  -- the line before an address: that of the WHEN, the CALL or the CALL_P that ends there
  abbrev pub line_before : (at : ℕ) → ℕ
  line_before at = slice_index words (at - 1)

  -- the lines of the calls that lead to the frame at this base, at most so many
  abbrev pub call_lines : ℕ → List ℕ → (first base : ℕ) → List ℕ
  call_lines zero memory first base = []
  call_lines (suc n) memory first base =
      if leads_down first base (word memory (base + 1)) (word memory (base + 4))
      then line_before (address_of_words (word memory (base + 2)) (word memory (base + 3))) ∷ call_lines n memory first (word memory (base + 1))
      else []

  -- A PLACE: the line of a `when`, and those of the calls that lead there, the innermost first; at most five
  abbrev pub place : List ℕ → (first base pc : ℕ) → List ℕ
  place memory first base pc = line_before pc ∷ call_lines 4 memory first base
