-- Different `when`s stand at different addresses: those of a block one behind another, and those of blocks in their words.
use Rattle.std.proofs.Common.{◌≡◌, ◌⊎◌, inl, inr, ℕ, zero, suc, ◌+◌, ◌<◌, ◌≤◌, Bool, true, false, if◌then◌else◌, List, [], ◌∷◌, ◌++◌, length, Option, Some, None, slice_get}
use Rattle.std.proofs.Common.{refl, sym, subst, ap, ◌∙◌, arith}
use Rattle.std.proofs.lemmas.Bool.{cases_lt}
use Rattle.std.specs.Prelude.{⊤, nat_lt}
use Rattle.edi_unit.specs.Types.{Shape}
use Rattle.edi_unit.specs.Tree as tree
use Rattle.edi_unit.specs.Tree.{Act, if_act, while_act, when_act, Acts, no_act, act_then, Clause, clause, Clauses, no_clause, clause_then, Block, ProgramUnit}
use Rattle.edi_unit.specs.Need.{block_at}
use Rattle.edi_scheme.specs.Pieces.{ClauseKind, once, repeated, released, close_code, code_length, is_branch}
use Rattle.edi_scheme.specs.Lengths.{expression_length, act_length, acts_length, clause_length, clauses_length, block_length}
use Rattle.edi_scheme.specs.Code.{entry}
use Rattle.edi_scheme.specs.Sites.{body_start}
use Rattle.edi_scheme.specs.Awaits.{act_awaits, acts_awaits, clause_awaits, clauses_awaits, block_awaits, await_address}

-- numbers that rise, above one and up to another
abbrev pub Rising : (low high : ℕ) → List ℕ → Type 0
Rising low high [] = low ≤ high
Rising low high (a ∷ as') = (low < a) × Rising a high as'

rising_low : (low low' high : ℕ) (as' : List ℕ) → low' ≤ low → Rising low high as' → Rising low' high as'
rising_low low low' high [] l h = omega (arith, l, h)
rising_low low low' high (a ∷ as') l h = (omega (arith, l, h.0), h.1)

rising_high : (low high high' : ℕ) (as' : List ℕ) → high ≤ high' → Rising low high as' → Rising low high' as'
rising_high low high high' [] l h = omega (arith, l, h)
rising_high low high high' (a ∷ as') l h = (h.0, rising_high a high high' as' l h.1)

rising_append : (low middle high : ℕ) (as' bs : List ℕ) → Rising low middle as' → Rising middle high bs → Rising low high (as' ++ bs)
rising_append low middle high [] bs h k = rising_low middle low high bs h k
rising_append low middle high (a ∷ as') bs h k = (h.0, rising_append a middle high as' bs h.1 k)

-- each is between the two, and different ones differ
rising_at : (low high : ℕ) (as' : List ℕ) (i a : ℕ) → Rising low high as' → slice_get as' i ≡ Some a → (low < a) × (a ≤ high)
rising_at low high [] i a h e = absurd (cc)
rising_at low high (x ∷ as') zero a h e =
    let same : x ≡ a = (cc) in (omega (arith, h.0, same), omega (arith, all_up x high as' h.1, same))
  where
    all_up : (low high : ℕ) (as' : List ℕ) → Rising low high as' → low ≤ high
    all_up low high [] h = h
    all_up low high (x ∷ as') h = omega (arith, h.0, all_up x high as' h.1)
rising_at low high (x ∷ as') (suc i) a h e = let r : (x < a) × (a ≤ high) = rising_at x high as' i a h.1 e in (omega (arith, r.0, h.0), r.1)

rising_one : (low high : ℕ) (as' : List ℕ) (i j a : ℕ) → Rising low high as' → slice_get as' i ≡ Some a → slice_get as' j ≡ Some a → i ≡ j
rising_one low high [] i j a h e f = absurd (cc)
rising_one low high (x ∷ as') zero zero a h e f = refl
rising_one low high (x ∷ as') zero (suc j) a h e f =
    let same : x ≡ a = (cc) in absurd (omega (arith, same, (rising_at x high as' j a h.1 f).0))
rising_one low high (x ∷ as') (suc i) zero a h e f =
    let same : x ≡ a = (cc) in absurd (omega (arith, same, (rising_at x high as' i a h.1 e).0))
rising_one low high (x ∷ as') (suc i) (suc j) a h e f = ap suc (rising_one x high as' i j a h.1 e f)

module _ (types : List Shape) (blocks : List Block) (b : ℕ) where
  mutual
    act_rises : (a : Act) (at : ℕ) → Rising at (at + act_length types blocks b a) (act_awaits types blocks b a at)
    act_rises tree.skip at = omega arith
    act_rises (tree.assign p e) at = omega arith
    act_rises (tree.call c xs line) at = omega arith
    act_rises (tree.halt line) at = omega arith
    act_rises (tree.cobegin bs line) at = omega arith
    act_rises (if_act cs) at = clauses_rise once cs at
    act_rises (while_act cs) at = clauses_rise repeated cs at
    act_rises (when_act cs line) at = (
      omega arith,
      rising_high (at + 2) (at + 2 + clauses_length types blocks b released cs) (at + act_length types blocks b (when_act cs line))
          (clauses_awaits types blocks b released cs (at + 2)) (omega arith) (clauses_rise released cs (at + 2)),
    )

    acts_rise : (s : Acts) (at : ℕ) → Rising at (at + acts_length types blocks b s) (acts_awaits types blocks b s at)
    acts_rise no_act at = omega arith
    acts_rise (act_then a s) at =
        rising_append at (at + act_length types blocks b a) (at + acts_length types blocks b (act_then a s)) (act_awaits types blocks b a at)
        (acts_awaits types blocks b s (at + act_length types blocks b a)) (act_rises a at)
        (rising_high (at + act_length types blocks b a) (at + act_length types blocks b a + acts_length types blocks b s)
        (at + acts_length types blocks b (act_then a s)) (acts_awaits types blocks b s (at + act_length types blocks b a)) (omega arith)
        (acts_rise s (at + act_length types blocks b a)))

    clause_rises : (c : Clause) (at : ℕ) → Rising at (at + clause_length types blocks b c) (clause_awaits types blocks b c at)
    clause_rises (clause e s) at =
        rising_low (at + expression_length types blocks b e + 3) at (at + clause_length types blocks b (clause e s))
        (acts_awaits types blocks b s (at + expression_length types blocks b e + 3)) (omega arith)
        (rising_high (at + expression_length types blocks b e + 3) (at + expression_length types blocks b e + 3 + acts_length types blocks b s)
        (at + clause_length types blocks b (clause e s)) (acts_awaits types blocks b s (at + expression_length types blocks b e + 3)) (omega arith)
        (acts_rise s (at + expression_length types blocks b e + 3)))

    clauses_rise : (kind : ClauseKind) (cs : Clauses) (at : ℕ) →
        Rising at (at + clauses_length types blocks b kind cs) (clauses_awaits types blocks b kind cs at)
    clauses_rise kind no_clause at = omega arith
    clauses_rise kind (clause_then c cs) at =
        let next : ℕ = at + clause_length types blocks b c + code_length (close_code kind 0 cs) in
        rising_append at next (at + clauses_length types blocks b kind (clause_then c cs)) (clause_awaits types blocks b c at)
        (clauses_awaits types blocks b kind cs next)
        (rising_high at (at + clause_length types blocks b c) next (clause_awaits types blocks b c at) (omega arith) (clause_rises c at))
        (rising_high next (next + clauses_length types blocks b kind cs) (at + clauses_length types blocks b kind (clause_then c cs))
        (clauses_awaits types blocks b kind cs next) (omega arith) (clauses_rise kind cs next))

  -- those of a block stand in its words
  pub block_rises : Rising (entry types blocks b) (entry types blocks (suc b)) (block_awaits types blocks b)
  block_rises = go (is_branch (block_at blocks b).kind)
    where
      go : (v : Bool) → Rising (entry types blocks b)
          (entry types blocks b + (if v then acts_length types blocks b (block_at blocks b).body + 1 else 6 + acts_length types blocks b
          (block_at blocks b).body + 3))
          (acts_awaits types blocks b (block_at blocks b).body (if v then entry types blocks b else entry types blocks b + 6))
      go true =
          rising_high (entry types blocks b) (entry types blocks b + acts_length types blocks b (block_at blocks b).body)
          (entry types blocks b + (acts_length types blocks b (block_at blocks b).body + 1)) _ (omega arith)
          (acts_rise (block_at blocks b).body (entry types blocks b))
      go false =
          rising_low (entry types blocks b + 6) (entry types blocks b) _ _ (omega arith)
          (rising_high (entry types blocks b + 6) (entry types blocks b + 6 + acts_length types blocks b (block_at blocks b).body)
          (entry types blocks b + (6 + acts_length types blocks b (block_at blocks b).body + 3)) _ (omega arith)
          (acts_rise (block_at blocks b).body (entry types blocks b + 6)))

-- blocks stand one behind another
entries_up : (types : List Shape) (blocks : List Block) (n m : ℕ) → n ≤ m → entry types blocks n ≤ entry types blocks m
entries_up types blocks n zero le = let e : n ≡ zero = omega arith in subst (λ k. entry types blocks k ≤ 0) (sym e) (omega arith)
entries_up types blocks n (suc m) le = go (cases_lt n (suc m)) (entries_up types blocks n m)
  where
    go : (n < suc m) ⊎ (suc m ≤ n) → (n ≤ m → entry types blocks n ≤ entry types blocks m) → entry types blocks n ≤ entry types blocks (suc m)
    go (inl h) ih = omega (arith, ih (omega arith))
    go (inr h) ih = let e : n ≡ suc m = omega arith in subst (λ k. entry types blocks n ≤ entry types blocks k) e (omega arith)

-- ONE ADDRESS IS THAT OF ONE `when`
pub addresses_differ : (unit : ProgramUnit) (b i c j at : ℕ) → await_address unit b i ≡ Some at → await_address unit c j ≡ Some at → (b ≡ c) × (i ≡ j)
addresses_differ unit b i c j at e f = go (cases_lt b c) (cases_lt c b)
  where
    found : (b i : ℕ) → await_address unit b i ≡ Some at → slice_get (block_awaits unit.types unit.blocks b) i ≡ Some at
    found b i e = by (nat_lt b (length unit.blocks)) e
      where
        by : (v : Bool) → (if v then slice_get (block_awaits unit.types unit.blocks b) i else None) ≡ Some at →
            slice_get (block_awaits unit.types unit.blocks b) i ≡ Some at
        by true e = e
        by false e = absurd (cc)

    inside : (b i : ℕ) → await_address unit b i ≡ Some at → (entry unit.types unit.blocks b < at) × (at ≤ entry unit.types unit.blocks (suc b))
    inside b i e = rising_at (entry unit.types unit.blocks b) (entry unit.types unit.blocks (suc b)) (block_awaits unit.types unit.blocks b) i at
        (block_rises unit.types unit.blocks b) (found b i e)

    apart : (b c i j : ℕ) → b < c → await_address unit b i ≡ Some at → await_address unit c j ≡ Some at → ⊥
    apart b c i j l e f = omega (arith, (inside b i e).1, (inside c j f).0, entries_up unit.types unit.blocks (suc b) c (omega (arith, l)))

    same : b ≡ c → (b ≡ c) × (i ≡ j)
    same s = (
      s,
      rising_one (entry unit.types unit.blocks c) (entry unit.types unit.blocks (suc c)) (block_awaits unit.types unit.blocks c) i j at
          (block_rises unit.types unit.blocks c) (subst (λ k. slice_get (block_awaits unit.types unit.blocks k) i ≡ Some at) s (found b i e)) (found c j f),
    )

    go : (b < c) ⊎ (c ≤ b) → (c < b) ⊎ (b ≤ c) → (b ≡ c) × (i ≡ j)
    go (inl l) k = absurd (apart b c i j l e f)
    go (inr l) (inl k) = absurd (apart c b j i k f e)
    go (inr l) (inr k) = same (omega (arith, l, k))
