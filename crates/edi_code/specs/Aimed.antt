-- Helper. Jumps that are written before their targets are known. No public contract cites this.
use Rattle.std.specs.Prelude.{◌≡◌, ℕ, ◌+◌, ◌≤◌, List, [], ◌∷◌, ◌++◌, length, slice_set, ⊤}
use Rattle.edi_unit.specs.declared.expressions.Operator.{Operator}
use Rattle.edi_unit.specs.declared.expressions.Operator.TheVariants as op
use Rattle.edi_target.specs.Op.{high_word, low_word}
use Rattle.edi_scheme.specs.Pieces.{Code, words_of_code, ClauseKind, once, repeated, released}

-- words with this target in the jump that begins at an index
abbrev pub aimed_at : (target start : ℕ) → List ℕ → List ℕ
aimed_at target start words = slice_set (slice_set words (start + 1) (high_word target)) (start + 2) (low_word target)

-- the same at each of these indices
abbrev pub aimed : (target : ℕ) → (starts : List ℕ) → List ℕ → List ℕ
aimed target [] words = words
aimed target (start ∷ starts) words = aimed target starts (aimed_at target start words)

-- the words of a jump at each of these indices are among so many
abbrev pub AreThere : (starts : List ℕ) → (long : ℕ) → Type 0
AreThere [] long = ⊤
AreThere (start ∷ starts) long = (start + 3 ≤ long) × AreThere starts long

-- words with this target in what decides before a right operand
abbrev pub decided : Operator → (behind start : ℕ) → List ℕ → List ℕ
decided op.And behind start words = aimed_at behind start words
decided op.Or behind start words = aimed_at behind start words
decided _ behind start words = words

-- where a list of a statement goes on whose clauses begin at an address and have so many words: behind it, or at its first
-- condition, or behind the instruction that ends a `when`
abbrev pub target_of : ClauseKind → (at long : ℕ) → ℕ
target_of once at long = at + long
target_of repeated at long = at
target_of released at long = at + long + 3

-- a target that is not left open
abbrev pub IsTarget : ClauseKind → (top target : ℕ) → Type 0
IsTarget once top target = ⊤
IsTarget repeated top target = target ≡ top
IsTarget released top target = ⊤

-- A code was appended that depends on a target, with jumps to it left open at these indices, beside those that there were: with the
-- target in all of them it is that code.
pub record Opens (kind : ClauseKind) (top : ℕ) (starts_before starts_after before after : List ℕ) (code : ℕ → Code) : Type 0 where
  pub there : AreThere starts_before (length before) → AreThere starts_after (length after)
  pub with_target : (target : ℕ) → IsTarget kind top target → AreThere starts_before (length before)
      → aimed target starts_after after ≡ aimed target starts_before before ++ words_of_code (code target)
