-- Each instruction that starts in the code of a unit is one of a block: it stands in the block's code, and where it is a JUMP or a LOOP it leads there.
use Rattle.std.proofs.Common.{◌≡◌, ℕ, zero, suc, ◌+◌, ◌-◌, ◌<◌, ◌≤◌, ◌⊎◌, inl, inr, Bool, true, false, ◌||◌, ◌==◌, if◌then◌else◌, List, [], ◌∷◌, ◌++◌, length}
use Rattle.std.proofs.Common.{Option, Some, refl, sym, ap, ◌∙◌, subst, arith, length-append}
use Rattle.std.proofs.lemmas.Bool.{eqb-true}
use Rattle.edi_unit.specs.Tree.{Block, ProgramUnit}
use Rattle.edi_unit.specs.Fits.{Fits}
use Rattle.edi_unit.specs.Need as need
use Rattle.edi_calls.proofs.Names.{some_is}
use Rattle.edi_target.specs.Op as instruction
use Rattle.edi_target.specs.Op.{Instruction, words_of}
use Rattle.edi_target.specs.Check.{is_start, starts_of}
use Rattle.edi_target.specs.Fetch.{fetch}
use Rattle.edi_scheme.specs.Pieces.{Code, code_length, words_of_code, is_branch, entry_of, return_of}
use Rattle.edi_scheme.specs.Lengths.{acts_length}
use Rattle.edi_scheme.specs.Code.{acts_code, block_code, blocks_code, code_of, entry}
use Rattle.edi_scheme.specs.Laws.{HaveParts}
use Rattle.edi_scheme.proofs.Fine.{blocks_allowed}
use Rattle.edi_scheme.proofs.Laid.{AreAllowed, Laid, laid_words}
use Rattle.edi_scheme.proofs.Lengths.{acts_are_long, blocks_are_long}
use Rattle.edi_scheme.proofs.Positions.{starts, starts_are}
use Rattle.std.proofs.lemmas.List.{append-nil}
use Rattle.edi_dump.specs.Laws.{last_at}
use Rattle.edi_dump.specs.Jumps.{JumpsStay}
use Rattle.edi_dump.proofs.Located.{addresses_tell_blocks}
use Rattle.edi_dump.proofs.Jumps.{StaysIn, AllStay, none, one_then, acts_in}

-- ---- an instruction of a code

-- of a code that begins at an address this instruction stands at another one
abbrev pub Has : Code → (from at : ℕ) → Instruction → Type 0
Has [] from at i = ⊥
Has (j ∷ code) from at i = ((from ≡ at) × (j ≡ i)) ⊎ Has code (from + length (words_of j)) at i

pub record Listed (code : Code) (from at : ℕ) : Type 0 where
  pub instruction : Instruction
  pub has : Has code from at instruction

-- where one starts
pub started : (words : List ℕ) (code : Code) (from at : ℕ) → is_start (starts words code from) at ≡ true → Listed code from at
started words [] from at h = absurd (cc)
started words (i ∷ code) from at h = go (from == at) refl h (started words code (from + length (words_of i)) at)
  where
    rest : Bool
    rest = is_start (starts words code (from + length (words_of i))) at

    go : (b : Bool) → (from == at) ≡ b → (b || rest) ≡ true → (rest ≡ true → Listed code (from + length (words_of i)) at) → Listed (i ∷ code) from at
    go true e k later = record { instruction = i; has = inl (eqb-true from at e, refl) }
    go false e k later = let l : Listed code (from + length (words_of i)) at = later k in record { instruction = l.instruction; has = inr l.has }

-- it is what is read there
pub fetched_is : (fetched : ℕ → Option (Instruction × ℕ)) (code : Code) (from at : ℕ) (i : Instruction) → Laid fetched code from → Has code from at i
    → fetched at ≡ Some (i, at + length (words_of i))
fetched_is fetched [] from at i l h = absurd h
fetched_is fetched (j ∷ code) from at i l (inl h) =
    ap fetched (sym h.0) ∙ (l.0 ∙ λ k. Some (h.1 k, h.0 k + length (words_of (h.1 k))))
fetched_is fetched (j ∷ code) from at i l (inr h) = fetched_is fetched code (from + length (words_of j)) at i l.1 h

-- it is of one of two codes
pub has_split : (a b : Code) (from at : ℕ) (i : Instruction) → Has (a ++ b) from at i → Has a from at i ⊎ Has b (from + code_length a) at i
has_split [] b from at i h = inr (subst (λ n. Has b n at i) (omega arith) h)
has_split (j ∷ a) b from at i (inl h) = inl (inl h)
has_split (j ∷ a) b from at i (inr h) = elim (has_split a b (from + length (words_of j)) at i h) [
  | inl k ↦ inl (inr k)
  | inr k ↦ inr (subst (λ n. Has b n at i) (omega (arith, length-append (words_of j) (words_of_code a))) k)
]

-- and within the code
pub has_within : (code : Code) (from at : ℕ) (i : Instruction) → Has code from at i → (from ≤ at) × (at + length (words_of i) ≤ from + code_length code)
has_within [] from at i h = absurd h
has_within (j ∷ code) from at i (inl h) =
    let long = length-append (words_of j) (words_of_code code) in
    let same : length (words_of j) ≡ length (words_of i) = ap (λ x. length (words_of x)) h.1 in
    (omega (arith, h.0), omega (arith, h.0, long, same))
has_within (j ∷ code) from at i (inr h) =
    let long = length-append (words_of j) (words_of_code code) in
    let k = has_within code (from + length (words_of j)) at i h in
    (omega (arith, k.0), omega (arith, k.1, long))

pub has_stays : (low high : ℕ) (code : Code) (from at : ℕ) (i : Instruction) → AllStay low high code → Has code from at i → StaysIn low high i
has_stays low high [] from at i none h = absurd h
has_stays low high (j ∷ code) from at i (one_then g gs) (inl h) = subst (StaysIn low high) h.1 g
has_stays low high (j ∷ code) from at i (one_then g gs) (inr h) = has_stays low high code (from + length (words_of j)) at i gs h

-- ---- an instruction of a block

-- one that stands between these addresses, and leads there
pub record Keeps (low high at : ℕ) (i : Instruction) : Type 0 where
  pub from : low ≤ at
  pub to : at ≤ high
  pub stays : StaysIn low high i

-- each instruction takes a word
word_or_more : (i : Instruction) → 1 ≤ length (words_of i)
word_or_more (instruction.const v) = omega arith
word_or_more i = omega arith

-- in a list, and the last instruction behind it
in_list : (list : Code) (last : Instruction) (low from long at : ℕ) (i : Instruction) → code_length list ≡ long → low ≤ from → AllStay low (from + long) list
    → StaysIn low (from + long) last → Has (list ++ last ∷ []) from at i → Keeps low (from + long) at i
in_list list last low from long at i is l stay own h = go (has_split list (last ∷ []) from at i h)
  where
    go : Has list from at i ⊎ Has (last ∷ []) (from + code_length list) at i → Keeps low (from + long) at i
    go (inl k) =
        let w = has_within list from at i k in
        record { from = omega (arith, l, w.0); to = omega (arith, w.1, is, word_or_more i); stays = has_stays low (from + long) list from at i stay k }
    go (inr (inl k)) = let there = k.0 in
        record { from = omega (arith, l, there); to = omega (arith, there, is); stays = subst (StaysIn low (from + long)) k.1 own }
    go (inr (inr k)) = absurd k

-- behind the first instruction, which has six words
behind_first : (first : Instruction) (code : Code) (low long at : ℕ) (i : Instruction) → length (words_of first) ≡ 6 → StaysIn low (low + (6 + long)) first
    → (Has code (low + 6) at i → Keeps low (low + 6 + long) at i) → Has (first ∷ code) low at i → Keeps low (low + (6 + long)) at i
behind_first first code low long at i six own f (inl h) = let there = h.0 in
    record { from = omega (arith, there); to = omega (arith, there); stays = subst (StaysIn low (low + (6 + long))) h.1 own }
behind_first first code low long at i six own f (inr h) =
    subst (λ n. Keeps low n at i) (omega arith) (f (subst (λ n. Has code (low + n) at i) six h))

module _ (unit : ProgramUnit) where
  abbrev from_of : ℕ → ℕ
  from_of n = entry unit.types unit.blocks n

  -- of this block
  abbrev pub KeepsIn : (n at : ℕ) → Instruction → Type 0
  KeepsIn n at i = Keeps (from_of n) (last_at unit n) at i

  -- one of two forms of a block
  form : (test : Bool) (x y : Code) (low long at : ℕ) (i : Instruction) → (Has x low at i → Keeps low (low + long) at i)
      → (Has y low at i → Keeps low (low + (6 + long)) at i) → Has (if test then x else y) low at i
      → Keeps low (low + (if test then long + 1 else 6 + long + 3) - (if test then 1 else 3)) at i
  form true x y low long at i f g h = subst (λ n. Keeps low n at i) (omega arith) (f h)
  form false x y low long at i f g h = subst (λ n. Keeps low n at i) (omega arith) (g h)

  pub in_block : (n at : ℕ) (i : Instruction) → Has (block_code unit.types unit.blocks (from_of n) n) (from_of n) at i → KeepsIn n at i
  in_block n at i h =
      let low : ℕ = from_of n in
      let block : Block = need.block_at unit.blocks n in
      let long : ℕ = acts_length unit.types unit.blocks n block.body in
      let list : ℕ → Code = λ from. acts_code unit.types unit.blocks (entry unit.types unit.blocks) n from block.body in
      let is : (from : ℕ) → code_length (list from) ≡ long = λ from. (acts_are_long unit.types unit.blocks (entry unit.types unit.blocks) n block.body from).is in
      let stay : (high from : ℕ) → low ≤ from → from + long ≤ high → AllStay low high (list from) =
      λ high from l k. acts_in low high unit.types unit.blocks (entry unit.types unit.blocks) n block.body from l k in
      form (is_branch block.kind) (list low ++ instruction.exit ∷ [])
      (entry_of unit.types block ∷ (list (low + 6) ++ return_of unit.types block ∷ [])) low long at i
      (in_list (list low) instruction.exit low low long at i (is low) (omega arith) (stay (low + long) low (omega arith) (omega arith)) tt)
      (behind_first (entry_of unit.types block) (list (low + 6) ++ return_of unit.types block ∷ []) low long at i refl tt
      (in_list (list (low + 6)) (return_of unit.types block) low (low + 6) long at i (is (low + 6)) (omega arith)
      (stay (low + 6 + long) (low + 6) (omega arith) (omega arith)) tt))
      h

  -- ---- an instruction of a unit

  -- it is one of this block
  pub record IsOf (at : ℕ) (i : Instruction) : Type 0 where
    pub block : ℕ
    pub known : block < length unit.blocks
    pub keeps : KeepsIn block at i

  in_blocks : (n at : ℕ) (i : Instruction) → n ≤ length unit.blocks → Has (blocks_code unit.types unit.blocks n) 0 at i → IsOf at i
  in_blocks zero at i le h = absurd h
  in_blocks (suc n) at i le h = go (has_split front block 0 at i h) (in_blocks n at i (omega (arith, le)))
    where
      front : Code
      front = blocks_code unit.types unit.blocks n

      block : Code
      block = block_code unit.types unit.blocks (from_of n) n

      there : 0 + code_length front ≡ from_of n
      there = let long = (blocks_are_long unit.types unit.blocks n).is in omega (arith, long)

      go : Has front 0 at i ⊎ Has block (0 + code_length front) at i → (Has front 0 at i → IsOf at i) → IsOf at i
      go (inl k) before = before k
      go (inr k) before = record { block = n; known = omega (arith, le); keeps = in_block n at i (subst (λ m. Has block m at i) there k) }

  -- THE CODE of the unit, one instruction behind another
  abbrev whole : Code
  whole = blocks_code unit.types unit.blocks (length unit.blocks)

  module _ (fits : Fits unit) (parts : HaveParts unit.types) where
    allowed : AreAllowed whole
    allowed = blocks_allowed unit.types fits.table parts fits.shapes unit.blocks fits.headings fits.fits_blocks (length unit.blocks) (omega arith)

    laid : Laid (fetch (code_of unit)) whole 0
    laid = laid_words (code_of unit) whole 0 [] allowed (sym (append-nil (words_of_code whole)))

    -- what is read where an instruction starts is one of a block
    pub is_of : (at : ℕ) (found : Instruction × ℕ) → is_start (starts_of (code_of unit)) at ≡ true → fetch (code_of unit) at ≡ Some found → IsOf at found.0
    is_of at found s e =
        let all : starts_of (code_of unit) ≡ starts (code_of unit) whole 0 = starts_are (code_of unit) whole 0 allowed refl (omega arith) in
        let l : Listed whole 0 at = started (code_of unit) whole 0 at (ap (λ x. is_start x at) (sym all) ∙ s) in
        let is : (l.instruction, at + length (words_of l.instruction)) ≡ found =
        some_is (sym (fetched_is (fetch (code_of unit)) whole 0 at l.instruction laid l.has) ∙ e) in
        subst (IsOf at) (ap (λ (x : Instruction × ℕ). x.0) is) (in_blocks (length unit.blocks) at l.instruction (omega arith) l.has)

pub jumps_stay : JumpsStay
jumps_stay unit fits parts at target next s e =
    let is : IsOf unit at (instruction.jump target) = is_of unit fits parts at (instruction.jump target, next) s e in
    let k : KeepsIn unit is.block at (instruction.jump target) = is.keeps in
    addresses_tell_blocks unit fits parts is.block target is.known k.stays.0 k.stays.1
    ∙ sym (addresses_tell_blocks unit fits parts is.block at is.known k.from k.to)
