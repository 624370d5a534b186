-- The memory and the activities with which processes begin.
use Rattle.std.proofs.Common.{◌≡◌, ℕ, zero, suc, ◌+◌, ◌*◌, ◌<◌, ◌≤◌, true, false, List, [], ◌∷◌, ◌++◌, Option, Some, None, length, take, drop, get_or}
use Rattle.std.proofs.Common.{refl, sym, ap, subst, ◌∙◌, arith, append-nil, length-take}
use Rattle.std.specs.Prelude.{◌&&◌, slice_get}
use Rattle.std.specs.List.{list_any, list_all}
use Rattle.std.proofs.lemmas.Bool.{leb-true, ltb-false, and_parts, or_parts}
use Rattle.std.proofs.lemmas.List.{take_more, drop_all}
use Rattle.edi_store.specs.Memory.{zero_words, written}
use Rattle.edi_store.proofs.MemoryLaws.{length-zero_words}
use Rattle.edi_target.specs.Op as op
use Rattle.edi_target.specs.Op.{Instruction, Branch, has_frame}
use Rattle.edi_target.specs.Decode.{decode}
use Rattle.edi_target.specs.Fetch.{fetch}
use Rattle.edi_target.specs.Check.{CodeParts, IsSound, fields_fault, is_program, is_start, jump_fault, operation_fault, first_fault, parts_fault}
use Rattle.edi_target.specs.Check.{starts_of, words_fault}
use Rattle.edi_target.specs.Perform.{exceeds}
use Rattle.edi_target.specs.View.{instruction_of}
use Rattle.edi_target.specs.declared.op.Op.{Op}
use Rattle.edi_target.specs.declared.op.Op.TheVariants as code
use Rattle.edi_target.specs.Mach.{descriptors}
use Rattle.edi_target.proofs.Sound.{kept_by, none_of}
use Rattle.edi_machine.proofs.Frames.{written_append}

-- ---- the memory at the start

-- a memory that is all written over with zeros
pub all_zeros : (memory : List ℕ) (n : ℕ) → length memory ≡ n → written memory 0 (zero_words n) ≡ zero_words n
all_zeros memory n long =
    ap (λ (rest : List ℕ). zero_words n ++ rest) (drop_all (0 + length (zero_words n)) memory (omega (arith, length-zero_words n)))
    ∙ append-nil (zero_words n)

descriptors_append : (xs ys : List ℕ) → descriptors (xs ++ ys) ≡ descriptors xs ++ descriptors ys
descriptors_append [] ys = refl
descriptors_append (x ∷ xs) ys = ap (λ (l : List ℕ). 65535 ∷ x ∷ 0 ∷ l) (descriptors_append xs ys)

pub descriptors_length : (xs : List ℕ) → length (descriptors xs) ≡ 3 * length xs
descriptors_length [] = refl
descriptors_length (x ∷ xs) = omega (arith, descriptors_length xs)

-- one more descriptor is written
pub descriptor_more : (memory : List ℕ) (calls : List ℕ) (i : ℕ) → i < length calls → 5 + 3 * length calls ≤ length memory
    → written (written memory 5 (descriptors (take i calls))) (5 + 3 * i) (65535 ∷ get_or calls i 0 ∷ 0 ∷ []) ≡ written memory 5
    (descriptors (take (i + 1) calls))
descriptor_more memory calls i here within =
    let so_far : List ℕ = descriptors (take i calls) in
    let last : List ℕ = 65535 ∷ get_or calls i 0 ∷ 0 ∷ [] in
    let count : length so_far ≡ 3 * i = descriptors_length (take i calls) ∙ ap (λ (n : ℕ). 3 * n) (length_taken calls i here) in
    ap (λ (n : ℕ). written (written memory 5 so_far) (5 + n) last) (sym count)
    ∙ written_append memory 5 so_far last (omega (arith, count))
    ∙ ap (written memory 5) (sym (ap descriptors (take_more calls i 0 here) ∙ descriptors_append (take i calls) (get_or calls i 0 ∷ [])))
  where
    length_taken : (xs : List ℕ) (i : ℕ) → i < length xs → length (take i xs) ≡ i
    length_taken xs i here = omega (arith, length-take i xs)

-- ---- the entry of a code

entry_kept : (words : List ℕ) (start count : ℕ) → words_fault true words start count ≡ None → is_program count (decode (drop start words)) ≡ true
unfolding words_fault
entry_kept words start count e =
    let later = none_of (first_fault (operation_fault true) (starts_of words)) _ e in
    let last = none_of (first_fault (jump_fault words (starts_of words)) (starts_of words)) _ later.1 in
    let kept = kept_by (is_start (starts_of words) start && is_program count (decode (drop start words))) _ last.1 in
    (and_parts (is_start (starts_of words) start) _ kept).1

sound_entry : (c : CodeParts) → IsSound c → is_program (length c.calls) (decode (drop c.entry c.words)) ≡ true
unfolding parts_fault
sound_entry c e =
    entry_kept c.words c.entry (length c.calls) (none_of (fields_fault (length c.words) c.entry (length c.calls) c.calls) _ e).1

program_at : (count at : ℕ) (x : Option (Instruction × ℕ)) → is_program count (elim x [ None ↦ None | Some found ↦ Some (found.0, at + found.1) ])
    ≡ is_program count x
program_at count at None = refl
program_at count at (Some (op.entry need r p v f, n)) = refl
program_at count at (Some x) = refl

-- an ENTRY of a program stands at the entry of a code
pub entry_is_there : (c : CodeParts) → IsSound c → is_program (length c.calls) (fetch c.words c.entry) ≡ true
entry_is_there c sound = program_at (length c.calls) c.entry (decode (drop c.entry c.words)) ∙ sound_entry c sound

entry_at_words : (c : CodeParts) (words : List ℕ) (at : ℕ) → IsSound c → words ≡ c.words → at ≡ c.entry → is_program (length c.calls) (fetch words at) ≡ true
entry_at_words c words at sound same start =
    let P : List ℕ → ℕ → Type 0 = λ ws n. is_program (length c.calls) (fetch ws n) ≡ true in
    subst (λ ws. P ws at) (sym same) (subst (λ n. P c.words n) (sym start) (entry_is_there c sound))

-- so something is read there, and it is no other instruction
pub something_read : (c : CodeParts) (words : List ℕ) (at : ℕ) → IsSound c → words ≡ c.words → at ≡ c.entry → None ≡ fetch words at → ⊥
something_read c words at sound same start none =
    let is : is_program (length c.calls) (fetch words at) ≡ true = entry_at_words c words at sound same start in
    let no : is_program (length c.calls) (fetch words at) ≡ false = ap (is_program (length c.calls)) (sym none) in
    let contrary : false ≡ true = sym no ∙ is in
    absurd (cc)

only_entry : (o : Op) (count n : ℕ) → is_program count (Some (instruction_of o, n)) ≡ true → ((need r p v f : ℕ) → o ≡ code.Entry need r p v f → ⊥) → ⊥
only_entry (code.Entry need r p v f) count n is other = other need r p v f refl
only_entry o count n is other = absurd (cc)

pub entry_read : (c : CodeParts) (words : List ℕ) (at : ℕ) (o : Op) (n : ℕ) → IsSound c → words ≡ c.words → at ≡ c.entry → Some (instruction_of o, n) ≡ fetch
    words at → ((need r p v f : ℕ) → o ≡ code.Entry need r p v f → ⊥) → ⊥
entry_read c words at o n sound same start read other =
    only_entry o (length c.calls) n (ap (is_program (length c.calls)) read ∙ entry_at_words c words at sound same start) other

-- ---- branches

-- a branch that is one of those which fit needs no more than the share
pub branch_fits : (share : ℕ) (branches : List Branch) (i : ℕ) (b : Branch) → list_any (exceeds share) branches ≡ false → slice_get branches i ≡ Some b
    → b.need ≤ share
branch_fits share [] i b fits there = absurd (cc)
branch_fits share (x ∷ branches) zero b fits there =
    let same : x ≡ b = cc in
    let ok = or_parts (exceeds share x) (list_any (exceeds share) branches) fits in
    let le : x.need ≤ share = ltb-false share x.need ok.0 in
    subst (λ (y : Branch). y.need ≤ share) same le
branch_fits share (x ∷ branches) (suc i) b fits there =
    branch_fits share branches i b (or_parts (exceeds share x) (list_any (exceeds share) branches) fits).1 there

pub branch_has_frame : (branches : List Branch) (i : ℕ) (b : Branch) → list_all has_frame branches ≡ true → slice_get branches i ≡ Some b → 5 ≤ b.need
branch_has_frame [] i b all there = absurd (cc)
branch_has_frame (x ∷ branches) zero b all there =
    let same : x ≡ b = cc in
    let ok = and_parts (has_frame x) (list_all has_frame branches) all in
    let le : 5 ≤ x.need = leb-true 5 x.need ok.0 in
    subst (λ (y : Branch). 5 ≤ y.need) same le
branch_has_frame (x ∷ branches) (suc i) b all there =
    branch_has_frame branches i b (and_parts (has_frame x) (list_all has_frame branches) all).1 there
