-- Each block ends with its last instruction, so an address in its code tells it.
use Rattle.std.proofs.Common.{◌≡◌, ℕ, zero, suc, ◌+◌, ◌-◌, ◌<◌, ◌≤◌, min, ◌⊎◌, inl, inr, Bool, true, false, if◌then◌else◌, List, [], ◌∷◌, ◌++◌, Some, length}
use Rattle.std.proofs.Common.{refl, sym, ap, ◌∙◌, subst, arith, append_assoc, length-append, get_or}
use Rattle.std.proofs.lemmas.Bool.{cases_lt, lt-ltb, le-ltb}
use Rattle.std.proofs.lemmas.List.Elements.{filter-append}
use Rattle.std.specs.Prelude.{filter, nat_lt}
use Rattle.edi_unit.specs.Types.{Shape}
use Rattle.edi_unit.specs.Tree.{Block}
use Rattle.edi_unit.specs.Need.{block_at}
use Rattle.edi_target.specs.Op as instruction
use Rattle.edi_target.specs.Op.{Instruction, words_of}
use Rattle.edi_target.specs.Check.{starts_of}
use Rattle.edi_scheme.specs.Pieces.{Code, code_length, words_of_code, entry_of, return_of, is_branch}
use Rattle.edi_scheme.specs.Lengths.{acts_length}
use Rattle.edi_scheme.specs.Code.{acts_code, block_code, blocks_code, code_of, entry}
use Rattle.edi_scheme.proofs.Fine.{blocks_allowed}
use Rattle.edi_scheme.proofs.Lengths.{acts_are_long, blocks_are_long}
use Rattle.edi_scheme.proofs.Positions.{starts, starts_are}
use Rattle.edi_dump.specs.Frames.{ends_block}
use Rattle.edi_dump.specs.Laws.{AddressesTellBlocks}
use Rattle.edi_dump.proofs.Addresses.{ends_in, ends_more}
use Rattle.edi_dump.proofs.Inside.{IsInside, one_then, acts_in}

-- ---- where blocks end

module _ (words : List ℕ) where
  abbrev ends : Code → ℕ → List ℕ
  ends code at = ends_in (starts words code at)

  ends_append : (a b : Code) (at : ℕ) → ends (a ++ b) at ≡ ends a at ++ ends b (at + code_length a)
  ends_append [] b at = ap (ends b) (omega arith)
  ends_append (i ∷ a) b at =
      let next : ℕ = at + length (words_of i) in
      let own : List ℕ = if ends_block (Some i) then at ∷ [] else [] in
      let there : next + code_length a ≡ at + code_length (i ∷ a) = omega (arith, length-append (words_of i) (words_of_code a)) in
      ends_more (record { at = at; word = get_or words at 0; op = Some i }) (starts words (a ++ b) next)
      ∙ (ap (λ xs. own ++ xs) (ends_append a b next ∙ ap (λ k. ends a next ++ ends b k) there)
      ∙ (sym (append_assoc own (ends a next) (ends b (at + code_length (i ∷ a))))
      ∙ ap (λ xs. xs ++ ends b (at + code_length (i ∷ a))) (sym (ends_more (record { at = at; word = get_or words at 0; op = Some i }) (starts words a next)))))

  inside_none : (code : Code) (at : ℕ) → IsInside code → ends code at ≡ []
  inside_none [] at h = refl
  inside_none (i ∷ code) at (one_then g h) =
      ends_more (record { at = at; word = get_or words at 0; op = Some i }) (starts words code (at + length (words_of i)))
      ∙ (ap (λ (t : Bool). (if t then at ∷ [] else []) ++ ends code (at + length (words_of i))) g ∙ inside_none code (at + length (words_of i)) h)

  -- a list, and the last instruction
  list_ends : (code : Code) (last : Instruction) (at long : ℕ) → IsInside code → code_length code ≡ long → ends_block (Some last) ≡ true
      → ends (code ++ last ∷ []) at ≡ (at + long) ∷ []
  list_ends code last at long h e g =
      ends_append code (last ∷ []) at
      ∙ (ap (λ xs. xs ++ ends (last ∷ []) (at + code_length code)) (inside_none code at h)
      ∙ (ends_more (record { at = at + code_length code; word = get_or words (at + code_length code) 0; op = Some last }) []
      ∙ (ap (λ (t : Bool). (if t then (at + code_length code) ∷ [] else []) ++ []) g ∙ ap (λ k. (at + k) ∷ []) e)))

  module _ (types : List Shape) (blocks : List Block) where
    abbrev last_of : ℕ → ℕ
    last_of n = entry types blocks (suc n) - (if is_branch (block_at blocks n).kind then 1 else 3)

    -- one of two forms of a block
    form_ends : (test : Bool) (x y : Code) (at long : ℕ) → ends x at ≡ (at + long) ∷ [] → ends y at ≡ (at + (6 + long)) ∷ []
        → ends (if test then x else y) at ≡ (at + (if test then long + 1 else 6 + long + 3) - (if test then 1 else 3)) ∷ []
    form_ends true x y at long g h = g ∙ ap (λ k. k ∷ []) (omega arith)
    form_ends false x y at long g h = h ∙ ap (λ k. k ∷ []) (omega arith)

    block_ends_at : (n : ℕ) → ends (block_code types blocks (entry types blocks n) n) (entry types blocks n) ≡ last_of n ∷ []
    block_ends_at n =
        let at : ℕ = entry types blocks n in
        let body = (block_at blocks n).body in
        let long : ℕ = acts_length types blocks n body in
        let list : ℕ → Code = λ from. acts_code types blocks (entry types blocks) n from body in
        let first : Instruction = entry_of types (block_at blocks n) in
        let last : Instruction = return_of types (block_at blocks n) in
        form_ends (is_branch (block_at blocks n).kind) (list at ++ instruction.exit ∷ []) (first ∷ (list (at + 6) ++ last ∷ [])) at long
        (list_ends (list at) instruction.exit at long (acts_in types blocks (entry types blocks) n body at)
        (acts_are_long types blocks (entry types blocks) n body at).is refl)
        (ends_more (record { at = at; word = get_or words at 0; op = Some first }) (starts words (list (at + 6) ++ last ∷ []) (at + 6))
        ∙ (list_ends (list (at + 6)) last (at + 6) long (acts_in types blocks (entry types blocks) n body (at + 6))
        (acts_are_long types blocks (entry types blocks) n body (at + 6)).is refl
        ∙ ap (λ k. k ∷ []) (omega arith)))

    -- of the first blocks
    abbrev lasts : ℕ → List ℕ
    lasts zero = []
    lasts (suc n) = lasts n ++ last_of n ∷ []

    blocks_end : (n : ℕ) → ends (blocks_code types blocks n) 0 ≡ lasts n
    blocks_end zero = refl
    blocks_end (suc n) =
        let front : Code = blocks_code types blocks n in
        let block : Code = block_code types blocks (entry types blocks n) n in
        let long = (blocks_are_long types blocks n).is in
        let there : 0 + code_length front ≡ entry types blocks n = omega (arith, long) in
        ends_append front block 0
        ∙ (ap (λ k. ends front 0 ++ ends block k) there
        ∙ (ap (λ xs. xs ++ ends block (entry types blocks n)) (blocks_end n) ∙ ap (λ xs. lasts n ++ xs) (block_ends_at n)))

-- ---- how many end before an address

-- of numbers, each of which is between two of numbers that rise
module _ (f last : ℕ → ℕ) (low : (n : ℕ) → f n ≤ last n) (high : (n : ℕ) → last n < f (suc n)) where
  up : (i j : ℕ) → i < j → last i < f j
  up i zero h = absurd (omega (arith, h))
  up i (suc j) h = go (cases_lt i j) (up i j)
    where
      go : (i < j) ⊎ (j ≤ i) → (i < j → last i < f j) → last i < f (suc j)
      go (inl k) before = omega (arith, before k, low j, high j)
      go (inr k) before = let same : i ≡ j = omega (arith, h, k) in subst (λ m. last m < f (suc j)) (sym same) (high j)

  module _ (ends : ℕ → List ℕ) (none_first : ends 0 ≡ []) (one_more : (n : ℕ) → ends (suc n) ≡ ends n ++ last n ∷ []) (n at : ℕ) (from : f n ≤ at) (to : at ≤ last n) where
    single : (k : ℕ) → length (filter (λ end. nat_lt end at) (last k ∷ [])) ≡ min (suc k) n - min k n
    single k = go (cases_lt k n)
      where
        go : (k < n) ⊎ (n ≤ k) → length (filter (λ end. nat_lt end at) (last k ∷ [])) ≡ min (suc k) n - min k n
        go (inl h) =
            ap (λ (t : Bool). length (if t then last k ∷ [] else [])) (lt-ltb (last k) at (omega (arith, up k n h, from))) ∙ omega (arith, h)
        go (inr h) =
            ap (λ (t : Bool). length (if t then last k ∷ [] else [])) (le-ltb (last k) at (not_before k h)) ∙ omega (arith, h)
          where
            not_before : (k : ℕ) → n ≤ k → at ≤ last k
            not_before k h = past (cases_lt n k)
              where
                past : (n < k) ⊎ (k ≤ n) → at ≤ last k
                past (inl g) = omega (arith, to, up n k g, low k)
                past (inr g) = let same : n ≡ k = omega (arith, h, g) in subst (λ m. at ≤ last m) same to

    counted : (k : ℕ) → length (filter (λ end. nat_lt end at) (ends k)) ≡ min k n
    counted zero = ap (λ xs. length (filter (λ end. nat_lt end at) xs)) none_first ∙ omega arith
    counted (suc k) =
        let test : ℕ → Bool = λ end. nat_lt end at in
        ap (λ xs. length (filter test xs)) (one_more k)
        ∙ (ap length (filter-append test (ends k) (last k ∷ []))
        ∙ omega (arith, length-append (filter test (ends k)) (filter test (last k ∷ [])), counted k, single k))

-- ---- the law

-- a block is not empty, and its last instruction is in it
last_within : (test : Bool) (at list : ℕ) → (at ≤ at + (if test then list + 1 else 6 + list + 3) - (if test then 1 else 3))
    × (at + (if test then list + 1 else 6 + list + 3) - (if test then 1 else 3) < at + (if test then list + 1 else 6 + list + 3))
last_within true at list = (omega arith, omega arith)
last_within false at list = (omega arith, omega arith)

pub addresses_tell_blocks : AddressesTellBlocks
addresses_tell_blocks unit fits parts n at inside from to =
    let types = unit.types in
    let blocks = unit.blocks in
    let words = code_of unit in
    let count : ℕ = length blocks in
    let same : starts_of words ≡ starts words (blocks_code types blocks count) 0 =
    starts_are words (blocks_code types blocks count) 0
    (blocks_allowed types fits.table parts fits.shapes blocks fits.headings fits.fits_blocks count (omega arith)) refl (omega arith) in
    ap (λ xs. length (filter (λ end. nat_lt end at) xs)) (ap ends_in same ∙ blocks_end words types blocks count)
    ∙ (counted (entry types blocks) (last_of words types blocks)
    (λ k. (last_within (is_branch (block_at blocks k).kind) (entry types blocks k) _).0)
    (λ k. (last_within (is_branch (block_at blocks k).kind) (entry types blocks k) _).1)
    (lasts words types blocks) refl (λ k. refl) n at from to count
    ∙ omega (arith, inside))
