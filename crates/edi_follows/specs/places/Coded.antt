-- Helper. A program with its code, and the numbers that both sides speak of: blocks, slots, offsets.
use Rattle.std.specs.Prelude.{◌≡◌, ℕ, ◌+◌, ◌<◌, ◌^◌, length, Option, Some, None, slice_get}
use Rattle.edi_unit.specs.declared.units.Parameter.{Parameter}
use Rattle.edi_unit.specs.Tree.{Block, ProgramUnit}
use Rattle.edi_unit.specs.Need as need
use Rattle.edi_unit.specs.Need.{slots, slot_words, slot_type, variable_words, link_words}
use Rattle.edi_unit.specs.Fits.{Fits}
use Rattle.edi_unit.specs.Headings.{Heading}
use Rattle.edi_target.specs.Op.{Instruction, words_of}
use Rattle.edi_target.proofs.segments.Keeping.{Allows}
use Rattle.edi_scheme.specs.Pieces as pieces
use Rattle.edi_scheme.specs.Code as scheme
use Rattle.edi_scheme.specs.Stands.{AreBlocks}
use Rattle.edi_scheme.specs.Laws.{HaveParts}

-- a unit that fits, with what stands at each address: its code stands there, addresses rise, and each block begins at an
-- address whose high word is no mark of a system call
pub record Coded : Type 0 where
  pub unit : ProgramUnit
  pub fetched : ℕ → Option (Instruction × ℕ)
  pub fits : Fits unit
  pub parts : HaveParts unit.types
  pub stands : AreBlocks fetched unit.types unit.blocks (scheme.entry unit.types unit.blocks)
  pub rises : (at : ℕ) (found : Instruction × ℕ) → fetched at ≡ Some found → at < found.1
  -- and by the words of each instruction
  pub long : (at : ℕ) (found : Instruction × ℕ) → fetched at ≡ Some found → found.1 ≡ at + length (words_of found.0)
  pub allows : (first last at : ℕ) → Allows first last (fetched at)
  pub low : (n : ℕ) → n < length unit.blocks → scheme.entry unit.types unit.blocks n < 2 ^ 31

module _ (g : Coded) where
  abbrev pub block : ℕ → Block
  block b = need.block_at g.unit.blocks b

  abbrev pub entry : ℕ → ℕ
  entry b = scheme.entry g.unit.types g.unit.blocks b

  -- the variables of a block by number
  abbrev pub slot_in : ℕ → ℕ → Option Parameter
  slot_in b v = slice_get (slots (block b)) v

  abbrev pub slots_of : ℕ → ℕ
  slots_of b = length (slots (block b))

  abbrev pub words_in : Option Parameter → ℕ
  words_in None = 0
  words_in (Some p) = slot_words g.unit.types p

  -- where a variable stands in a frame of the block, and the words of links and variables together
  abbrev pub offset : ℕ → ℕ → ℕ
  offset b v = pieces.offset g.unit.types (block b) v

  abbrev pub kept : ℕ → ℕ
  kept b = link_words + variable_words g.unit.types (block b)

  -- the heading of a procedure parameter
  abbrev pub heading_of : ℕ → ℕ → Heading
  heading_of b v = g.fits.headings b v
