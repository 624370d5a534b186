-- A program has at most as many blocks as its code has words: each block begins with an entry, or ends with an exit.
use Rattle.std.proofs.Common.{◌≡◌, ℕ, zero, suc, ◌+◌, ◌≤◌, Bool, true, false, if◌then◌else◌, List, [], ◌∷◌, ◌++◌, length, length-append, Result, Ok, Err, ap, ◌∙◌, arith}
use Rattle.std.specs.Prelude.{IfOk}
use Rattle.edi_unit.specs.declared.units.Unit.{Unit}
use Rattle.edi_unit.specs.Need.{block_at}
use Rattle.edi_unit.specs.View.{blocks_of, unit_of}
use Rattle.edi_unit.specs.Types.{Shape}
use Rattle.edi_unit.specs.Tree.{Block, ProgramUnit}
use Rattle.edi_target.specs.Op as instruction
use Rattle.edi_scheme.specs.Pieces.{Code, words_of_code, code_length, is_branch, entry_of, return_of}
use Rattle.edi_scheme.specs.Code.{acts_code, entry, block_code, blocks_code, code_of}
use Rattle.edi_scheme.proofs.Laid.{words_append}
use Rattle.edi_follows.specs.Theorem.{CanBeCoded}
use Rattle.edi_texts.specs.declared.refusal.Refusal.{Refusal}
use Rattle.edi_texts.specs.Answers.{TextAnswers}
use Rattle.edi_compile.specs.Compiled.{IsFrontOf}

length_both : (a b : Code) → code_length (a ++ b) ≡ code_length a + code_length b
length_both a b = ap length (words_append a b) ∙ length-append (words_of_code a) (words_of_code b)

either : (c : Bool) (a b : Code) → 1 ≤ code_length a → 1 ≤ code_length b → 1 ≤ code_length (if c then a else b)
either true a b h k = h
either false a b h k = k

module _ (types : List Shape) (blocks : List Block) where
  block_long : (at n : ℕ) → 1 ≤ code_length (block_code types blocks at n)
  block_long at n =
      either (is_branch block.kind) (acts_code types blocks (entry types blocks) n at block.body ++ instruction.exit ∷ [])
      (entry_of types block ∷ (acts_code types blocks (entry types blocks) n (at + 6) block.body ++ return_of types block ∷ []))
      (omega (arith, length_both (acts_code types blocks (entry types blocks) n at block.body) (instruction.exit ∷ [])))
      (omega (arith, length_both (entry_of types block ∷ []) (acts_code types blocks (entry types blocks) n (at + 6) block.body ++ return_of types block ∷ [])))
    where
      block : Block
      block = block_at blocks n

  blocks_long : (n : ℕ) → n ≤ code_length (blocks_code types blocks n)
  blocks_long zero = omega arith
  blocks_long (suc n) =
      omega (arith, blocks_long n, block_long (entry types blocks n) n, length_both (blocks_code types blocks n) (block_code types blocks (entry types blocks n) n))

pub blocks_are_few : (unit : ProgramUnit) → CanBeCoded unit → length unit.blocks ≤ 4194304
blocks_are_few unit can = omega (arith, blocks_long unit.types unit.blocks (length unit.blocks), can.short)

-- so has the unit of an accepted text
pub few_of : (text : List ℕ) (result : Result Unit Refusal) → TextAnswers (λ unit. IsFrontOf text (unit_of unit)) text result
    → IfOk result (λ unit. length (blocks_of unit.blocks) ≤ 4194304)
few_of text (Ok unit) h = blocks_are_few (unit_of unit) h.gives.can
few_of text (Err fault) h = tt
