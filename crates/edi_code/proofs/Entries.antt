-- Where the blocks of a program begin.
use Rattle.std.proofs.Common.{◌≡◌, ℕ, zero, suc, ◌+◌, ◌-◌, ◌≤◌, List, ◌++◌, ap, arith}
use Rattle.std.specs.Prelude.{Bool, true, false, if◌then◌else◌}
use Rattle.edi_unit.specs.Types.{Shape}
use Rattle.edi_unit.specs.Tree.{Block}
use Rattle.edi_unit.specs.Need.{block_at}
use Rattle.edi_scheme.specs.Pieces.{is_branch}
use Rattle.edi_scheme.specs.Lengths.{acts_length, block_length}
use Rattle.edi_scheme.specs.Code.{entry, block_code, blocks_code}

one_at_least : (branch : Bool) (list : ℕ) → 1 ≤ (if branch then list + 1 else 6 + list + 3)
one_at_least true list = omega arith
one_at_least false list = omega arith

module _ (types : List Shape) (blocks : List Block) where
  -- each block has a word
  pub block_some : (n : ℕ) → 1 ≤ block_length types blocks n
  block_some n = one_at_least (is_branch (block_at blocks n).kind) (acts_length types blocks n (block_at blocks n).body)

  pub entry_next : (n : ℕ) → entry types blocks (n + 1) ≡ entry types blocks n + block_length types blocks n
  entry_next n = let e : n + 1 ≡ suc n = omega arith in ap (entry types blocks) e

  -- as many blocks as there are have as many words
  pub entry_many : (n : ℕ) → n ≤ entry types blocks n
  entry_many zero = omega arith
  entry_many (suc n) = omega (arith, entry_many n, block_some n)

  entry_more : (n k : ℕ) → entry types blocks n ≤ entry types blocks (k + n)
  entry_more n zero = let e : zero + n ≡ n = omega arith in omega (arith, ap (entry types blocks) e)
  entry_more n (suc k) = let e : suc k + n ≡ suc (k + n) = omega arith in omega (arith, entry_more n k, ap (entry types blocks) e)

  -- a block begins before the blocks of higher numbers
  pub entry_before : (n m : ℕ) → n ≤ m → entry types blocks n ≤ entry types blocks m
  entry_before n m l =
      let e : (m - n) + n ≡ m = omega arith in
      omega (arith, entry_more n (m - n), ap (entry types blocks) e)

  -- the code of one block more
  pub blocks_next : (n : ℕ) → blocks_code types blocks (n + 1) ≡ blocks_code types blocks n ++ block_code types blocks (entry types blocks n) n
  blocks_next n = let e : n + 1 ≡ suc n = omega arith in ap (blocks_code types blocks) e
