-- Words of contracts. An address in the code of a block tells the block.
use Rattle.std.specs.Prelude.{◌≡◌, ℕ, suc, ◌-◌, ◌<◌, ◌≤◌, if◌then◌else◌, length}
use Rattle.edi_unit.specs.Tree.{ProgramUnit}
use Rattle.edi_unit.specs.Fits.{Fits}
use Rattle.edi_unit.specs.Need as need
use Rattle.edi_scheme.specs.Code.{code_of, entry}
use Rattle.edi_scheme.specs.Laws.{HaveParts}
use Rattle.edi_scheme.specs.Pieces.{is_branch}
use Rattle.edi_dump.specs.Frames.{block_of}

-- where the last instruction of a block stands: an EXIT, or a RETURN, which has three words
abbrev pub last_at : ProgramUnit → ℕ → ℕ
last_at unit n = entry unit.types unit.blocks (suc n) - (if is_branch (need.block_at unit.blocks n).kind then 1 else 3)

-- ADDRESSES TELL BLOCKS: in the code of a unit that fits, an address from where a block begins up to its last instruction is that block's
abbrev pub AddressesTellBlocks : Type 0
AddressesTellBlocks =
    (unit : ProgramUnit) → Fits unit → HaveParts unit.types → (n at : ℕ) → n < length unit.blocks →
    entry unit.types unit.blocks n ≤ at → at ≤ last_at unit n → block_of (code_of unit) at ≡ n
