-- The code of a unit that fits has no fault.
use Rattle.std.proofs.Common.{◌≡◌, ℕ, zero, suc, ◌+◌, ◌*◌, ◌/◌, ◌^◌, ◌<◌, ◌≤◌, Bool, true, false, ◌&&◌, ◌==◌, if◌then◌else◌, nat_le, nat_lt, List, [], ◌∷◌}
use Rattle.std.proofs.Common.{◌++◌, All, Option, Some, None, IsTrue, length, drop, refl, sym, ap, ◌∙◌, subst, arith, inl, inr, ◌⊎◌, eq-eqb}
use Rattle.std.proofs.Math.Nat.{eq-or-lt_of_le}
use Rattle.std.proofs.lemmas.Bool.{false≢true, le-leb, lt-ltb}
use Rattle.std.proofs.lemmas.List.Sums.{sum_by-cons}
use Rattle.std.specs.Prelude.{sum_by}
use Rattle.edi_unit.specs.declared.units.BlockKind.{BlockKind}
use Rattle.edi_unit.specs.declared.units.BlockKind.TheVariants as kind
use Rattle.edi_unit.specs.declared.units.Parameter.{Parameter}
use Rattle.edi_unit.specs.declared.units.Parameter.TheVariants as slot
use Rattle.edi_unit.specs.Types.{Shape}
use Rattle.edi_unit.specs.Tree.{Block, ProgramUnit}
use Rattle.edi_unit.specs.Need.{block_at, slot_words}
use Rattle.edi_unit.specs.Fits.{is_called, KindFits, Fits}
use Rattle.edi_target.specs.Op as instruction
use Rattle.edi_target.specs.Op.{Instruction, words_of}
use Rattle.edi_target.specs.Decode.{decode}
use Rattle.edi_target.specs.Fetch.{fetch}
use Rattle.edi_target.specs.Check.{is_start, starts_of, is_entry, is_program, first_fault, operation_fault, jump_fault, entry_fault, fields_fault}
use Rattle.edi_target.specs.Check.{numbers_fault, words_fault, parts_fault, or_else, unless}
use Rattle.edi_target.specs.declared.code_fault.CodeFault.TheVariants as fault
use Rattle.edi_scheme.specs.Pieces.{Code, is_branch, result_words, function_flag, entry_of, return_of}
use Rattle.edi_scheme.specs.Code.{acts_code, entry, block_code, blocks_code, code_of}
use Rattle.edi_scheme.specs.Stands.{Either, IsProcedure, IsBranch}
use Rattle.edi_scheme.specs.Laws.{HaveParts, CodeIsSound}
use Rattle.edi_scheme.proofs.Laid.{long_one}
use Rattle.edi_scheme.proofs.Lengths.{acts_are_long, blocks_are_long}
use Rattle.edi_scheme.proofs.Fine.{blocks_allowed}
use Rattle.edi_scheme.proofs.Blocks.{code_stands}
use Rattle.edi_scheme.proofs.Positions.{starts, starts_are, position_start, Starts, starts_front, starts_back, covers_before, covers_start}
use Rattle.edi_scheme.proofs.Aims.{Good, Enters, Leads, nothing, leads_then, leads_one, leads_append}
use Rattle.edi_scheme.proofs.Leading.{acts_lead}
use Rattle.edi_scheme.proofs.Calls.{Numbers, every, is_number, at_most_ten, numbers_free, nothing_before}

-- ---- what is read at an address

same_entry : (i : Instruction) (m n : ℕ) → is_entry (Some (i, m)) ≡ is_entry (Some (i, n))
same_entry (instruction.const v) m n = refl
same_entry i m n = refl

same_program : (count : ℕ) (i : Instruction) (m n : ℕ) → is_program count (Some (i, m)) ≡ is_program count (Some (i, n))
same_program count (instruction.const v) m n = refl
same_program count i m n = refl

-- a test of what is decoded, where an instruction is fetched
fetched_test : (test : Option (Instruction × ℕ) → Bool) → ((i : Instruction) (m n : ℕ) → test (Some (i, m)) ≡ test (Some (i, n)))
    → (o : Option (Instruction × ℕ)) (at : ℕ)
    → test o ≡ test (elim o as (λ _. Option (Instruction × ℕ)) [ None ↦ None | Some found ↦ Some (found.0, at + found.1) ])
fetched_test test same None at = refl
fetched_test test same (Some (i, n)) at = same i n (at + n)

-- ---- blocks

called_block : (k : BlockKind) → IsTrue (is_called k) → is_branch k ≡ false
called_block kind.Program h = refl
called_block kind.Procedure h = refl
called_block kind.Function h = refl
called_block kind.Branch h = absurd (false≢true h)

program_block : (k : BlockKind) (block : Block) → KindFits k 0 block → (is_branch k ≡ false) × (block.result ≡ None)
program_block kind.Program block h = (refl, h.1)
program_block kind.Procedure block h = let some = h.0 in absurd (omega (arith, some))
program_block kind.Function block h = let some = h.0 in absurd (omega (arith, some))
program_block kind.Branch block h = let some = h.0 in absurd (omega (arith, some))

-- a procedure parameter takes three words
formal_words : (types : List Shape) (ps : List Parameter) → All (λ p. p ≡ slot.Formal None) ps → sum_by (slot_words types) ps ≡ 3 * length ps
formal_words types [] all = refl
formal_words types (p ∷ ps) all =
    let three : slot_words types p ≡ 3 = ap (slot_words types) (all 0 p (omega arith)) in
    let rest = formal_words types ps (λ k d h. all (suc k) d (omega (arith, h))) in
    omega (arith, sum_by-cons (slot_words types) p ps, three, rest)

program_test : (types : List Shape) (r : Option ℕ) (p count : ℕ) → r ≡ None → p ≡ 3 * count
    → (result_words types r == 0 && p == 3 * count && function_flag r == 0) ≡ true
program_test types None p count e h = ap (λ b. 0 == 0 && b && 0 == 0) (eq-eqb p (3 * count) h)
program_test types (Some t) p count e h = let no : None ≡ Some t = sym e in absurd (cc)

module _ (words : List ℕ) where
  -- a code without jumps that lead wrong, and without QUIETs that may not be there
  no_operation : (code : Code) (at : ℕ) → first_fault (operation_fault true) (starts words code at) ≡ None
  no_operation [] at = refl
  no_operation (i ∷ code) at = no_operation code (at + length (words_of i))

  no_jump : (code : Code) (at : ℕ) → Leads words code at → first_fault (jump_fault words (starts_of words)) (starts words code at) ≡ None
  no_jump [] at nothing = refl
  no_jump (i ∷ code) at (leads_then aims rest) =
      ap (λ o. or_else o (first_fault (jump_fault words (starts_of words)) (starts words code (at + length (words_of i))))) aims.free
      ∙ no_jump code (at + length (words_of i)) rest

  -- the first instruction of a block
  first_good : (test : Bool) (x : Code) (last i : Instruction) (y : Code) (at : ℕ) → Starts (Good words) (if test then x ++ last ∷ [] else (i ∷ y)) at
      → Good words at
  first_good true x last i y at h = covers_start (Good words) x at (covers_before (Good words) x last [] at h)
  first_good false x last i y at h = h.each at (inl refl)

  either_block : (test : Bool) (x y : Code) (at : ℕ) → (Starts (Good words) x at → Leads words x at) → (Starts (Good words) y at → Leads words y at)
      → Starts (Good words) (if test then x else y) at → Leads words (if test then x else y) at
  either_block true x y at f g h = f h
  either_block false x y at f g h = g h

-- the starts in the first blocks, and in one of them
block_starts : (good : ℕ → Type 0) (types : List Shape) (blocks : List Block) (count n : ℕ) → n < count → Starts good (blocks_code types blocks count) 0
    → Starts good (block_code types blocks (entry types blocks n) n) (entry types blocks n)
block_starts good types blocks zero n k h = absurd (omega (arith, k))
block_starts good types blocks (suc count) n k h =
    cases (λ less. block_starts good types blocks count n less (starts_front good front last 0 h)) (eq-or-lt_of_le (omega (arith, k)))
  where
    front : Code
    front = blocks_code types blocks count

    last : Code
    last = block_code types blocks (entry types blocks count) count

    cases : (n < count → Starts good (block_code types blocks (entry types blocks n) n) (entry types blocks n)) → (n ≡ count) ⊎ (n < count)
        → Starts good (block_code types blocks (entry types blocks n) n) (entry types blocks n)
    cases before (inr less) = before less
    cases before (inl same) =
        subst (λ m. Starts good (block_code types blocks (entry types blocks m) m) (entry types blocks m)) (sym same)
        (subst (Starts good last) (omega arith) (starts_back good front last 0 _ (blocks_are_long types blocks count) h))

module _ (unit : ProgramUnit) (fits : Fits unit) (parts : HaveParts unit.types) where
  abbrev words : List ℕ
  words = code_of unit

  abbrev types : List Shape
  types = unit.types

  abbrev blocks : List Block
  blocks = unit.blocks

  abbrev code : Code
  code = blocks_code unit.types unit.blocks (length unit.blocks)

  starts_same : starts_of words ≡ starts words code 0
  starts_same =
      starts_are words code 0 (blocks_allowed types fits.table parts fits.shapes blocks fits.headings fits.fits_blocks (length blocks) (omega arith)) refl
      (omega arith)

  all_start : Starts (Good words) code 0
  all_start = record { each = λ a k. ap (λ s. is_start s a) starts_same ∙ position_start words code 0 a k }

  starts_in : (n : ℕ) → n < length blocks → Starts (Good words) (block_code types blocks (entry types blocks n) n) (entry types blocks n)
  starts_in n h = block_starts (Good words) types blocks (length blocks) n h all_start

  entry_good : (n : ℕ) → n < length blocks → Good words (entry types blocks n)
  entry_good n h = first_good words (is_branch (block_at blocks n).kind) _ _ _ _ (entry types blocks n) (starts_in n h)

  procedure : (n : ℕ) → n < length blocks → is_branch (block_at blocks n).kind ≡ false → IsProcedure (fetch words) types blocks (entry types blocks) n
  procedure n h e =
      subst (λ t. Either t (IsBranch (fetch words) types blocks (entry types blocks) n) (IsProcedure (fetch words) types blocks (entry types blocks) n)) e
      (code_stands unit fits parts n h)

  enters : (n : ℕ) → n < length blocks → IsTrue (is_called (block_at blocks n).kind) → Enters words (entry types blocks n)
  enters n h c = record {
    start = entry_good n h;
    begins =
        fetched_test is_entry same_entry (decode (drop (entry types blocks n) words)) (entry types blocks n)
        ∙ ap is_entry (procedure n h (called_block (block_at blocks n).kind c)).begins;
  }

  block_leads : (n : ℕ) → n < length blocks → Leads words (block_code types blocks (entry types blocks n) n) (entry types blocks n)
  block_leads n h =
      let at = entry types blocks n in
      let body = (block_at blocks n).body in
      let first = entry_of types (block_at blocks n) in
      let last = return_of types (block_at blocks n) in
      let list = λ (from : ℕ). acts_code types blocks (entry types blocks) n from body in
      let lead = λ (from : ℕ). acts_lead words types blocks fits.headings (entry types blocks) enters entry_good n body from
      (fits.fits_blocks n h).statements in
      either_block words (is_branch (block_at blocks n).kind) (list at ++ instruction.exit ∷ []) (first ∷ (list (at + 6) ++ last ∷ [])) at
      (λ s.
      leads_append words _ (acts_are_long types blocks (entry types blocks) n body at) (lead at (covers_before (Good words) (list at) instruction.exit [] at s))
      (leads_one words (record { free = refl })))
      (λ s.
      let rest = starts_back (Good words) (first ∷ []) (list (at + 6) ++ last ∷ []) at 6 (long_one first) s in
      leads_then (record { free = refl })
      (leads_append words _ (acts_are_long types blocks (entry types blocks) n body (at + 6))
      (lead (at + 6) (covers_before (Good words) (list (at + 6)) last [] (at + 6) rest))
      (leads_one words (record { free = refl }))))
      (starts_in n h)

  blocks_lead : (n : ℕ) → n ≤ length blocks → Leads words (blocks_code types blocks n) 0
  blocks_lead zero h = nothing
  blocks_lead (suc n) h =
      leads_append words _ (blocks_are_long types blocks n) (blocks_lead n (omega (arith, h)))
      (subst (Leads words (block_code types blocks (entry types blocks n) n)) (omega arith) (block_leads n (omega (arith, h))))

  -- ---- the checks

  first_block : (is_branch (block_at blocks 0).kind ≡ false) × ((block_at blocks 0).result ≡ None)
  first_block = program_block (block_at blocks 0).kind (block_at blocks 0) (fits.fits_blocks 0 fits.some).fits_kind

  calls_length : sum_by (slot_words types) (block_at blocks 0).parameters ≡ 3 * length unit.calls
  calls_length = formal_words types (block_at blocks 0).parameters fits.fits_calls.procedures ∙ ap (λ n. 3 * n) fits.fits_calls.as_many

  begins_program : is_program (length unit.calls) (decode (drop 0 words)) ≡ true
  begins_program =
      fetched_test (is_program (length unit.calls)) (same_program (length unit.calls)) (decode (drop 0 words)) 0
      ∙ ap (is_program (length unit.calls)) (procedure 0 fits.some first_block.0).begins
      ∙ program_test types (block_at blocks 0).result _ (length unit.calls) first_block.1 calls_length

  no_entry : entry_fault words (starts_of words) 0 (length unit.calls) ≡ None
  no_entry =
      ap (λ b. unless (b && is_program (length unit.calls) (decode (drop 0 words))) (fault.Jump 0 0)) (entry_good 0 fits.some)
      ∙ ap (λ b. unless b (fault.Jump 0 0)) begins_program

  pub no_words : words_fault true words 0 (length unit.calls) ≡ None
  unfolding words_fault
  no_words =
      ap (λ o. or_else o (or_else (first_fault (jump_fault words (starts_of words)) (starts_of words))
      (entry_fault words (starts_of words) 0 (length unit.calls))))
      (ap (first_fault (operation_fault true)) starts_same ∙ no_operation words code 0)
      ∙ ap (λ o. or_else o (entry_fault words (starts_of words) 0 (length unit.calls)))
      (ap (first_fault (jump_fault words (starts_of words))) starts_same ∙ no_jump words code 0 (blocks_lead (length blocks) (omega arith)))
      ∙ no_entry

  numbers : Numbers unit.calls
  numbers = every (λ n. (1 ≤ n) × (n ≤ 10)) unit.calls (λ i l. is_number types _ _ (fits.fits_calls.each i l))

  -- a code is not empty
  long_enough : 1 ≤ length words
  long_enough = some words (entry_good 0 fits.some)
    where
      some : (ws : List ℕ) → is_start (starts_of ws) 0 ≡ true → 1 ≤ length ws
      some [] h = absurd (false≢true h)
      some (w ∷ ws) h = omega arith

  pub fields_free : length words ≤ 4194304 → fields_fault (length words) 0 (length unit.calls) unit.calls ≡ None
  fields_free small =
      fields (length words) unit.calls long_enough small (at_most_ten unit.calls numbers fits.fits_calls.distinct)
      (numbers_free [] 13 unit.calls numbers fits.fits_calls.distinct (nothing_before unit.calls))
    where
      fields : (count : ℕ) (ns : List ℕ) → 1 ≤ count → count ≤ 4194304 → length ns ≤ 10 → numbers_fault [] 13 ns ≡ None → fields_fault count 0 (length ns) ns
          ≡ None
      fields count ns some small few free =
          let third = or_else (unless (nat_le (length ns) 10) (fault.Header 12 (length ns))) (numbers_fault [] 13 ns) in
          let second = or_else (unless (nat_lt 0 count) (fault.Header 8 (0 / 2 ^ 24))) third in
          let size : (nat_le 1 count && nat_le count 4194304) ≡ true = ap (λ b. b && nat_le count 4194304) (le-leb 1 count some) ∙ le-leb count 4194304 small in
          ap (λ b. or_else (unless b (fault.Header 4 (count / 2 ^ 24))) second) size
          ∙ ap (λ b. or_else (unless b (fault.Header 8 (0 / 2 ^ 24))) third) (lt-ltb 0 count some)
          ∙ ap (λ b. or_else (unless b (fault.Header 12 (length ns))) (numbers_fault [] 13 ns)) (le-leb (length ns) 10 few)
          ∙ free

pub code_is_sound : CodeIsSound
unfolding parts_fault
code_is_sound unit fits parts small =
    ap (λ o. or_else o (words_fault true (code_of unit) 0 (length unit.calls))) (fields_free unit fits parts small) ∙ no_words unit fits parts
