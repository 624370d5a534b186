-- Definition. What a code must be: its checks in their order, and the fault that each of them finds.
use Rattle.std.specs.Prelude.{◌≡◌, ℕ, zero, suc, ◌+◌, ◌-◌, ◌*◌, ◌^◌, ◌/◌, Bool, true, false, not, ◌&&◌, ◌||◌, ◌==◌, nat_lt, nat_le, List, [], ◌∷◌, ◌++◌, map}
use Rattle.std.specs.Prelude.{drop, length, slice_index_or, Option, Some, None, ⊤}
use Rattle.std.specs.List.{list_any}
use Rattle.edi_target.specs.Op.{Instruction, Branch, jump, false_, and, or, loop, entry, call, proc, retry, cobegin, quiet}
use Rattle.edi_target.specs.Decode.{decode}
use Rattle.edi_target.specs.declared.code_fault.CodeFault.{CodeFault}
use Rattle.edi_target.specs.declared.code_fault.CodeFault.TheVariants as fault

-- ---- faults in their order

-- a fault, unless the rule is kept
abbrev pub unless : Bool → CodeFault → Option CodeFault
unless true f = None
unless false f = Some f

-- the first of two
abbrev pub or_else : Option CodeFault → Option CodeFault → Option CodeFault
or_else (Some f) later = Some f
or_else None later = later

-- the fault of the first that has one
abbrev pub first_fault : {X : Type 0} → (X → Option CodeFault) → List X → Option CodeFault
first_fault fault_at [] = None
first_fault fault_at (x ∷ xs) = or_else (fault_at x) (first_fault fault_at xs)

-- ---- the header, as far as it speaks of the code

-- the numbers of the calls, of which the first stands at the byte `at` and follows those before it: each is one of 1 to 10, and
-- none is there twice
abbrev pub numbers_fault : List ℕ → ℕ → List ℕ → Option CodeFault
numbers_fault before at [] = None
numbers_fault before at (n ∷ numbers) =
    or_else
    (unless (nat_le 1 n && nat_le n 10 && not (list_any (λ m. m == n) before)) (fault.Header at n))
    (numbers_fault (before ++ n ∷ []) (at + 1) numbers)

-- The number of words, from byte 4 on, is 1 to 4,194,304; the address of the entry, from byte 8 on, lies below it; the number of
-- parameters, byte 12, is at most 10; their call numbers stand from byte 13 on. Of a number of four bytes the first is told.
abbrev pub fields_fault : (count start parameters : ℕ) (numbers : List ℕ) → Option CodeFault
fields_fault count start parameters numbers =
    or_else (unless (nat_le 1 count && nat_le count 4194304) (fault.Header 4 (count / 2 ^ 24)))
    (or_else (unless (nat_lt start count) (fault.Header 8 (start / 2 ^ 24)))
    (or_else (unless (nat_le parameters 10) (fault.Header 12 parameters)) (numbers_fault [] 13 numbers)))

-- ---- the instructions

-- an address where an instruction must start: the word there, and the instruction that is read there, if any
pub record Start : Type 0 where
  pub at : ℕ
  pub word : ℕ
  pub op : Option Instruction

-- The starts in the words from the address `at` on, the first `behind` of which belong to the instruction before. An instruction
-- starts at the first address, and where the one before it ends; where none is read the starts end.
abbrev pub starts_from : List ℕ → ℕ → ℕ → List Start
starts_from [] at behind = []
starts_from (word ∷ words) at (suc behind) = starts_from words (at + 1) behind
starts_from (word ∷ words) at zero =
    elim (decode (word ∷ words)) [
      | None ↦ record { at = at; word = word; op = None } ∷ []
      | Some x ↦ record { at = at; word = word; op = Some x.0 } ∷ starts_from words (at + 1) (x.1 - 1)
    ]

abbrev pub starts_of : List ℕ → List Start
starts_of words = starts_from words 0 0

abbrev pub is_start : List Start → ℕ → Bool
is_start starts at = list_any (λ (s : Start). s.at == at) starts

-- the flag of an address, in a list with a flag for each address; behind the list none is set
abbrev pub is_set : List Bool → ℕ → Bool
is_set flags at = slice_index_or flags at false

-- the flags that are set are those of the instruction starts of the words
abbrev pub StartsAreSet : List Bool → List ℕ → Type 0
StartsAreSet flags words = (at : ℕ) → is_set flags at ≡ is_start (starts_of words) at

abbrev pub is_quiet : Instruction → Bool
is_quiet (quiet target) = true
is_quiet _ = false

-- an instruction is read at each start; a QUIET only where there are QUIETs, in files of version 2
abbrev pub operation_fault : Bool → Start → Option CodeFault
operation_fault has_quiet s =
    elim s.op [
      | None ↦ Some (fault.Operation s.at s.word)
      | Some op ↦ unless (has_quiet || not (is_quiet op)) (fault.Operation s.at s.word)
    ]

-- ---- where instructions lead

-- how an instruction leads to another: ahead, not ahead, into a block, or to where a branch begins
pub data Way : Type 0 where
  ahead : Way
  back : Way
  enters : Way
  begins : Way

-- where an instruction leads, in the order of its operands
abbrev pub targets_of : Instruction → List (Way × ℕ)
targets_of (jump target) = (ahead, target) ∷ []
targets_of (false_ target) = (ahead, target) ∷ []
targets_of (and target) = (ahead, target) ∷ []
targets_of (or target) = (ahead, target) ∷ []
targets_of (loop target) = (back, target) ∷ []
targets_of (retry target) = (back, target) ∷ []
targets_of (quiet target) = (back, target) ∷ []
targets_of (call level target line) = (enters, target) ∷ []
targets_of (proc level target) = (enters, target) ∷ []
targets_of (cobegin line branches) = map (λ (b : Branch). (begins, b.address)) branches
targets_of _ = []

abbrev pub is_entry : Option (Instruction × ℕ) → Bool
is_entry (Some (entry need results parameters variables function, n)) = true
is_entry _ = false

-- each leads to an instruction start: that of a later instruction, of itself or an earlier one, or of an ENTRY
abbrev pub keeps : List ℕ → List Start → ℕ → Way × ℕ → Bool
keeps words starts at (ahead, target) = is_start starts target && nat_lt at target
keeps words starts at (back, target) = is_start starts target && nat_le target at
keeps words starts at (enters, target) = is_start starts target && is_entry (decode (drop target words))
keeps words starts at (begins, target) = is_start starts target

-- the first target of an instruction that is not where it leads
abbrev pub targets_fault : List ℕ → List Start → ℕ → Instruction → Option CodeFault
targets_fault words starts at op = first_fault (λ t. unless (keeps words starts at t) (fault.Jump at t.1)) (targets_of op)

abbrev pub jump_fault : List ℕ → List Start → Start → Option CodeFault
jump_fault words starts s = elim s.op [ None ↦ None | Some op ↦ targets_fault words starts s.at op ]

-- an ENTRY of a procedure, without result words and with three words for each parameter of the program
abbrev pub is_program : ℕ → Option (Instruction × ℕ) → Bool
is_program count (Some (entry need results parameters variables function, n)) = results == 0 && parameters == 3 * count && function == 0
is_program count _ = false

-- the program begins at such an ENTRY, at an instruction start
abbrev pub entry_fault : List ℕ → List Start → ℕ → ℕ → Option CodeFault
entry_fault words starts start count = unless (is_start starts start && is_program count (decode (drop start words))) (fault.Jump start start)

-- the instructions, then where they lead, then the entry
unfoldable pub words_fault : Bool → List ℕ → ℕ → ℕ → Option CodeFault
words_fault has_quiet words start count =
    let starts : List Start = starts_of words in
    or_else (first_fault (operation_fault has_quiet) starts)
    (or_else (first_fault (jump_fault words starts) starts) (entry_fault words starts start count))

-- ---- a code

-- the words of a code, the address of its entry, and the call numbers of the program's parameters
pub record CodeParts : Type 0 where
  pub words : List ℕ
  pub entry : ℕ
  pub calls : List ℕ

-- the first fault of a code
unfoldable pub parts_fault : List ℕ → ℕ → List ℕ → Option CodeFault
parts_fault words start calls =
    or_else (fields_fault (length words) start (length calls) calls) (words_fault true words start (length calls))

-- a code without fault
abbrev pub IsSound : CodeParts → Type 0
IsSound c = parts_fault c.words c.entry c.calls ≡ None

-- a check's answer: this fault, which is free only where memory is wanting
abbrev pub IsFault : CodeFault → Option CodeFault → Type 0
IsFault fault.NoMemory expected = ⊤
IsFault f expected = expected ≡ Some f
