-- The numbers in the code of a whole unit that fits are words.
use Rattle.std.proofs.Common.{◌≡◌, ℕ, zero, suc, ◌+◌, ◌<◌, ◌≤◌, ◌^◌, Bool, true, false, if◌then◌else◌, List, [], ◌∷◌, length, All, Option, Some, None, sym}
use Rattle.std.proofs.Common.{subst, arith, inl, inr, ◌⊎◌, sum_by}
use Rattle.std.proofs.Math.Nat.{eq-or-lt_of_le}
use Rattle.edi_unit.specs.Types.{Shape}
use Rattle.edi_unit.specs.Tree.{Block, ProgramUnit}
use Rattle.edi_unit.specs.Need.{block_at, slot_words}
use Rattle.edi_unit.specs.Fits.{Fits}
use Rattle.edi_target.specs.Op.{words_of}
use Rattle.edi_scheme.specs.Pieces.{Code, is_branch, result_words, function_flag, entry_of, return_of}
use Rattle.edi_scheme.specs.Lengths.{acts_length}
use Rattle.edi_scheme.specs.Code.{entry, block_code, blocks_code, code_of}
use Rattle.edi_scheme.specs.Laws.{HaveParts, CodeIsWords}
use Rattle.edi_scheme.specs.Lines.{UnitLines}
use Rattle.edi_scheme.proofs.Lengths.{blocks_are_long}
use Rattle.edi_scheme.proofs.Known as known
use Rattle.edi_scheme.proofs.Worded.{Words, AreSmall, none, small_then, small_words, small_append, small_one, acts_small}

-- a later block stands no lower
entry_later : (types : List Shape) (blocks : List Block) (n m : ℕ) → n ≤ m → entry types blocks n ≤ entry types blocks m
entry_later types blocks n zero h = later n h
  where
    later : (n : ℕ) → n ≤ zero → entry types blocks n ≤ 0
    later zero h = omega arith
    later (suc n) h = absurd (omega (arith, h))
entry_later types blocks n (suc m) h = cases (entry_later types blocks n m) (eq-or-lt_of_le h)
  where
    cases : (n ≤ m → entry types blocks n ≤ entry types blocks m) → (n ≡ suc m) ⊎ (n < suc m) → entry types blocks n ≤ entry types blocks (suc m)
    cases before (inl same) = subst (λ k. entry types blocks k ≤ entry types blocks (suc m)) (sym same) (omega arith)
    cases before (inr less) = let low = before (omega (arith, less)) in omega (arith, low)

flag_small : (r : Option ℕ) → function_flag r < 2 ^ 16
flag_small None = omega arith
flag_small (Some t) = omega arith

-- one of two codes, with their lengths
either_small : (test : Bool) {a c : Code} (m n at limit : ℕ) → (at + m ≤ limit → AreSmall a) → (at + n ≤ limit → AreSmall c) → at + (if test then m else n) ≤
    limit → AreSmall (if test then a else c)
either_small true m n at limit g h k = g k
either_small false m n at limit g h k = h k

module _ (unit : ProgramUnit) (fits : Fits unit) (parts : HaveParts unit.types) (lines : UnitLines unit) (small : length (code_of unit) < 2 ^ 32) where
  abbrev types : List Shape
  types = unit.types

  abbrev blocks : List Block
  blocks = unit.blocks

  limited : entry types blocks (length blocks) < 2 ^ 32
  limited = let long = (blocks_are_long types blocks (length blocks)).is in omega (arith, small, long)

  entries : (n : ℕ) → n < length blocks → entry types blocks n ≤ entry types blocks (length blocks)
  entries n h = entry_later types blocks n (length blocks) (omega (arith, h))

  frame_words : (n : ℕ) → n < length blocks → Words (words_of (entry_of types (block_at blocks n))) × Words (words_of (return_of types (block_at blocks n)))
  frame_words n h =
      let block = block_at blocks n in
      let low = (fits.fits_blocks n h).small in
      let is = (fits.fits_blocks n h).needs in
      let sum = known.words_sum types block in
      let result : result_words types block.result < 2 ^ 16 = omega (arith, low, is, sum) in
      let passed : sum_by (slot_words types) block.parameters < 2 ^ 16 = omega (arith, low, is, sum) in
      let flag = flag_small block.result in (
        (omega arith, (omega (arith, low), (result, (passed, (omega (arith, low, is, sum), (flag, tt)))))),
        (omega arith, (result, (flag, tt))),
      )

  block_small : (n : ℕ) → n < length blocks → AreSmall (block_code types blocks (entry types blocks n) n)
  block_small n h =
      let at = entry types blocks n in
      let list = acts_length types blocks n (block_at blocks n).body in
      let frame = frame_words n h in
      let limit = entry types blocks (length blocks) in
      let body = acts_small types fits.table parts fits.shapes blocks fits.headings fits.fits_blocks (entry types blocks) limit limited entries n h
      (block_at blocks n).body in
      let last = entry_later types blocks (suc n) (length blocks) (omega (arith, h)) in
      either_small (is_branch (block_at blocks n).kind) (list + 1) (6 + list + 3) at limit
      (λ k. small_append (body at (fits.fits_blocks n h).statements (lines n h) (omega (arith, k))) (small_one (omega arith, tt)))
      (λ k.
      small_then frame.0 (small_append (body (at + 6) (fits.fits_blocks n h).statements (lines n h) (omega (arith, k))) (small_one frame.1)))
      last

  blocks_small : (n : ℕ) → n ≤ length blocks → AreSmall (blocks_code types blocks n)
  blocks_small zero h = none
  blocks_small (suc n) h = small_append (blocks_small n (omega (arith, h))) (block_small n (omega (arith, h)))

every_all : (ws : List ℕ) → Words ws → All (λ w. w < 2 ^ 16) ws
every_all [] h k d l = absurd (omega (arith, l))
every_all (w ∷ ws) h zero d l = h.0
every_all (w ∷ ws) h (suc k) d l = every_all ws h.1 k d (omega (arith, l))

pub code_is_words : CodeIsWords
code_is_words unit fits parts lines small =
    every_all (code_of unit) (small_words (blocks_code unit.types unit.blocks (length unit.blocks))
    (blocks_small unit fits parts lines small (length unit.blocks) (omega arith)))
