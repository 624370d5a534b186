-- Words of contracts. What the code of a construct depends on besides the construct.
use Rattle.std.specs.Prelude.{ℕ, ◌+◌, ◌<◌, ◌^◌, Bool, true, false, List, length, map}
use Rattle.edi_unit.specs.Types.{Shape}
use Rattle.edi_unit.specs.View.{block_of}
use Rattle.edi_unit.specs.Tree.{Block, Clauses, no_clause, clause_then}
use Rattle.edi_unit.specs.Fits.{ShapesFit}
use Rattle.edi_scheme.specs.Pieces.{ClauseKind, once, repeated, released}
use Rattle.edi_scheme.specs.Code.{entry}
use Rattle.edi_code.specs.Stored.{AreFields, AreVariables}
use Rattle.edi_code.specs.Writable.{FrameFits, AreEntries}
use Rattle.edi_code.specs.declared.scope.Scope.{Scope}
use Rattle.edi_code.specs.declared.scope.Closing.{Closing}
use Rattle.edi_code.specs.declared.scope.Closing.TheVariants as closing

-- the types and blocks of a scope, and the address where each block stands
abbrev pub types_in : Scope → List Shape
types_in s = s.types.now

abbrev pub blocks_in : Scope → List Block
blocks_in s = map block_of s.blocks.now

abbrev pub entry_in : Scope → ℕ → ℕ
entry_in s = entry (types_in s) (blocks_in s)

-- what a list of clauses belongs to
abbrev pub clause_kind_of : Closing → ClauseKind
clause_kind_of closing.Once = once
clause_kind_of closing.Repeated = repeated
clause_kind_of closing.Released = released

-- whether no clause follows
abbrev pub is_end : Clauses → Bool
is_end no_clause = true
is_end (clause_then c cs) = false

-- a scope in which code can be written: its types and frames are those of a sound program, and it knows where each block
-- stands; what it keeps of where variables and fields stand is so
pub record IsScope (s : Scope) : Type 0 where
  pub shapes : ShapesFit (types_in s)
  pub frames : (n : ℕ) → n < length (blocks_in s) → FrameFits (types_in s) (blocks_in s) n
  pub entries : AreEntries (types_in s) (blocks_in s) s.entries.now
  pub variables : AreVariables (types_in s) (blocks_in s) s.variables.now
  pub fields : AreFields (types_in s) s.fields.now

-- a construct can be written in a scope, where it stands at an address and has so many words
pub record MayBeWritten (s : Scope) (at long : ℕ) (Writable : Type 0) : Type 0 where
  pub scope : IsScope s
  pub writable : Writable
  pub room : at + long < 2 ^ 32
