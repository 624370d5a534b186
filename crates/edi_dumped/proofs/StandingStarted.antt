-- A code of which instructions are read only where one starts: it stands as the whole code does, so the theorem is true of its runs too.
use Rattle.std.proofs.Common.{◌≡◌, ℕ, ◌+◌, ◌<◌, inl, inr, Bool, true, false, if◌then◌else◌, List, [], ◌∷◌, length, Option, Some, None, refl, sym, ap, ◌∙◌, arith}
use Rattle.std.proofs.lemmas.List.{append-nil}
use Rattle.edi_unit.specs.Tree.{ProgramUnit}
use Rattle.edi_target.specs.Op.{Instruction, words_of}
use Rattle.edi_target.specs.Check.{is_start, starts_of}
use Rattle.edi_target.specs.Fetch.{fetch}
use Rattle.edi_target.specs.Reading.{AreWords}
use Rattle.edi_target.proofs.Stands.{code_stands_below}
use Rattle.edi_target.proofs.segments.Keeping.{Allows}
use Rattle.edi_target.proofs.segments.Reaching.{allowed_at}
use Rattle.edi_scheme.specs.Pieces.{Code, words_of_code}
use Rattle.edi_scheme.specs.Code.{blocks_code, code_of, entry}
use Rattle.edi_scheme.specs.Stands.{IsBlock}
use Rattle.edi_scheme.proofs.Blocks.{code_is_long}
use Rattle.edi_scheme.proofs.Fine.{blocks_allowed}
use Rattle.edi_scheme.proofs.Laid.{AreAllowed, Laid, laid_words}
use Rattle.edi_scheme.proofs.Positions.{IsPosition, position_start, starts_are}
use Rattle.edi_scheme.proofs.Standing.{are_blocks}
use Rattle.edi_scheme.proofs.WordedBlocks.{code_is_words}
use Rattle.edi_follows.specs.places.Coded.{Coded}
use Rattle.edi_follows.specs.Theorem.{CanBeCoded}
use Rattle.edi_follows.proofs.Coding.{entry_up, fetched_long}

-- what is read at an address where an instruction starts
abbrev pub started_at : List ℕ → ℕ → Option (Instruction × ℕ)
started_at words at = if is_start (starts_of words) at then fetch words at else None

-- it is read there too by all
pub is_read : (words : List ℕ) (at : ℕ) (found : Instruction × ℕ) → started_at words at ≡ Some found
    → (is_start (starts_of words) at ≡ true) × (fetch words at ≡ Some found)
is_read words at found e = go (is_start (starts_of words) at) e
  where
    go : (b : Bool) → (if b then fetch words at else None) ≡ Some found → (b ≡ true) × (fetch words at ≡ Some found)
    go true h = (refl, h)
    go false h = absurd (cc)

-- a code whose instructions start is read so
laid_started : (words : List ℕ) (code : Code) (at : ℕ) → ((a : ℕ) → IsPosition code at a → is_start (starts_of words) a ≡ true) → Laid (fetch words) code at
    → Laid (started_at words) code at
laid_started words [] at start h = tt
laid_started words (i ∷ code) at start h = (
  ap (λ b. if b then fetch words at else None) (start at (inl refl)) ∙ h.0,
  laid_started words code (at + length (words_of i)) (λ a p. start a (inr p)) h.1,
)

pub allows_started : (words : List ℕ) → AreWords words → (first last at : ℕ) → Allows first last (started_at words at)
allows_started words are first last at = go (is_start (starts_of words) at)
  where
    go : (b : Bool) → Allows first last (if b then fetch words at else None)
    go true = allowed_at words are first last at
    go false = tt

module _ (unit : ProgramUnit) (c : CanBeCoded unit) where
  abbrev pub words : List ℕ
  words = code_of unit

  abbrev whole : Code
  whole = blocks_code unit.types unit.blocks (length unit.blocks)

  allowed : AreAllowed whole
  allowed = blocks_allowed unit.types c.fits.table c.parts c.fits.shapes unit.blocks c.fits.headings c.fits.fits_blocks (length unit.blocks) (omega arith)

  laid : Laid (started_at words) whole 0
  laid =
      laid_started words whole 0
      (λ a p. ap (λ x. is_start x a) (starts_are words whole 0 allowed refl (omega arith)) ∙ position_start words whole 0 a p)
      (laid_words words whole 0 [] allowed (sym (append-nil (words_of_code whole))))

  pub are_words : AreWords words
  are_words = code_is_words unit c.fits c.parts c.lines (omega (arith, c.short))

  pub stands : (n : ℕ) → n < length unit.blocks → IsBlock (started_at words) unit.types unit.blocks (entry unit.types unit.blocks) n
  stands n h = are_blocks (started_at words) unit.types unit.blocks (length unit.blocks) n h laid

  -- THE UNIT with its code, read so
  abbrev pub started : Coded
  started = record {
    unit = unit;
    fetched = started_at words;
    fits = c.fits;
    parts = c.parts;
    stands = stands;
    rises = λ at found e. (code_stands_below words at found (is_read words at found e).1).1;
    long = λ at found e. fetched_long words are_words at found (is_read words at found e).1;
    allows = λ first last at. allows_started words are_words first last at;
    low = λ n h. omega (arith, c.short, code_is_long unit, entry_up unit.types unit.blocks n (length unit.blocks) (omega (arith, h)));
  }
