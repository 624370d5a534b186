-- How the instruction starts go on behind an instruction, and what that means for the faults.
use Rattle.std.proofs.Common.{◌≡◌, ℕ, zero, suc, ◌+◌, ◌-◌, ◌<◌, ◌≤◌, Bool, true, false, ◌||◌, List, [], ◌∷◌, Option, Some, None, length, drop, get_or, set}
use Rattle.std.proofs.Common.{replicate, map, refl, ap, sym, ◌∙◌, arith}
use Rattle.std.proofs.Math.Seq.{drop-cons}
use Rattle.std.proofs.lemmas.List.{drop-drop, drop_all, length-set, get_or-set_same, get_or-set_other}
use Rattle.std.proofs.lemmas.Bool.{eqb-true, eqb-false, ltb-true, ltb-false}
use Rattle.std.specs.Prelude.{◌==◌, nat_lt}
use Rattle.edi_target.specs.Op.{Branch, Instruction}
use Rattle.edi_target.specs.Decode.{decode}
use Rattle.edi_target.specs.Check.{StartsAreSet, Start, Way, begins, first_fault, is_set, is_start, jump_fault, keeps, operation_fault, or_else}
use Rattle.edi_target.specs.Check.{starts_from, starts_of, targets_fault, unless}
use Rattle.edi_target.specs.View.{Found}
use Rattle.edi_target.specs.declared.code_fault.CodeFault.{CodeFault}
use Rattle.edi_target.specs.declared.code_fault.CodeFault.TheVariants as fault

-- ---- the starts behind an instruction

starts_skip : (ws : List ℕ) (at k : ℕ) → starts_from ws at k ≡ starts_from (drop k ws) (at + k) 0
starts_skip ws at zero = let here : at ≡ at + zero = omega arith in ap (λ (a : ℕ). starts_from ws a 0) here
starts_skip [] at (suc k) = refl
starts_skip (w ∷ ws) at (suc k) =
    let there : at + 1 + k ≡ at + suc k = omega arith in
    starts_skip ws (at + 1) k ∙ ap (λ (a : ℕ). starts_from (drop k ws) a 0) there

-- what starts at the front of words from which this is read
after_read : ℕ → ℕ → List ℕ → Option (Instruction × ℕ) → List Start
after_read at word words r = elim r [
  | None ↦ record { at = at; word = word; op = None } ∷ []
  | Some x ↦ record { at = at; word = word; op = Some x.0 }
      ∷ starts_from words (at + 1) (x.1 - 1)
]

front : (word : ℕ) (words : List ℕ) (at : ℕ) (r : Option (Instruction × ℕ)) → decode (word ∷ words) ≡ r → starts_from (word ∷ words) at 0 ≡ after_read at word
    words r
unfolding after_read
front word words at r e = ap (after_read at word words) e

pub starts_step : (words : List ℕ) (at next : ℕ) (op : Instruction) → decode (drop at words) ≡ Some (op, next - at) → at < next → next ≤ length words
    → starts_from (drop at words) at 0 ≡ record { at = at; word = get_or words at 0; op = Some op } ∷ starts_from (drop next words) next 0
unfolding after_read
starts_step words at next op e l m =
    let word : ℕ = get_or words at 0 in
    let cut : drop at words ≡ word ∷ drop (suc at) words = drop-cons words at 0 (omega arith) in
    let read : decode (word ∷ drop (suc at) words) ≡ Some (op, next - at) = ap decode (sym cut) ∙ e in
    let there : at + 1 + (next - at - 1) ≡ next = omega arith in
    let behind : suc at + (next - at - 1) ≡ next = omega arith in
    let rest : starts_from (drop (suc at) words) (at + 1) (next - at - 1) ≡ starts_from (drop next words) next 0 =
    starts_skip (drop (suc at) words) (at + 1) (next - at - 1)
    ∙ ap (λ (ws : List ℕ). starts_from ws (at + 1 + (next - at - 1)) 0) (drop-drop (next - at - 1) (suc at) words ∙ ap (λ (k : ℕ). drop k words) behind)
    ∙ ap (λ (a : ℕ). starts_from (drop next words) a 0) there in
    ap (λ (ws : List ℕ). starts_from ws at 0) cut
    ∙ front word (drop (suc at) words) at (Some (op, next - at)) read
    ∙ ap (λ (l : List Start). record { at = at; word = word; op = Some op } ∷ l) rest

pub starts_broken : (words : List ℕ) (at : ℕ) → decode (drop at words) ≡ None → at < length words → starts_from (drop at words) at 0
    ≡ record { at = at; word = get_or words at 0; op = None } ∷ []
unfolding after_read
starts_broken words at e l =
    let word : ℕ = get_or words at 0 in
    let cut : drop at words ≡ word ∷ drop (suc at) words = drop-cons words at 0 l in
    ap (λ (ws : List ℕ). starts_from ws at 0) cut ∙ front word (drop (suc at) words) at None (ap decode (sym cut) ∙ e)

pub starts_end : (words : List ℕ) (at : ℕ) → length words ≤ at → starts_from (drop at words) at 0 ≡ []
starts_end words at l = ap (λ (ws : List ℕ). starts_from ws at 0) (drop_all at words l)

-- ---- the first pass: operations, and flags

pub operation_step : (q : Bool) (words : List ℕ) (at next : ℕ) (op : Instruction) → decode (drop at words) ≡ Some (op, next - at) → at < next
    → next ≤ length words → first_fault (operation_fault q) (starts_from (drop at words) at 0) ≡ or_else
    (operation_fault q (record { at = at; word = get_or words at 0; op = Some op })) (first_fault (operation_fault q) (starts_from (drop next words) next 0))
operation_step q words at next op e l m = ap (first_fault (operation_fault q)) (starts_step words at next op e l m)

pub operation_broken : (q : Bool) (words : List ℕ) (at : ℕ) → decode (drop at words) ≡ None → at < length words → first_fault (operation_fault q)
    (starts_from (drop at words) at 0) ≡ Some (fault.Operation at (get_or words at 0))
operation_broken q words at e l = ap (first_fault (operation_fault q)) (starts_broken words at e l)

pub operation_end : (q : Bool) (words : List ℕ) (at : ℕ) → length words ≤ at → first_fault (operation_fault q) (starts_from (drop at words) at 0) ≡ None
operation_end q words at l = ap (first_fault (operation_fault q)) (starts_end words at l)

-- an address is set, or an instruction starts there in the words from `at` on
pub Flags : List ℕ → List Bool → ℕ → Type 0
Flags words flags at = (a : ℕ) → is_start (starts_of words) a ≡ (is_set flags a || is_start (starts_from (drop at words) at 0) a)

pub flags_clear : (words : List ℕ) (flags : List Bool) → ((a : ℕ) → is_set flags a ≡ false) → Flags words flags 0
unfolding Flags
flags_clear words flags c = λ a. ap (λ (b : Bool). b || is_start (starts_of words) a) (sym (c a))

flag_one : (b same rest : Bool) → (b || (same || rest)) ≡ ((same || b) || rest)
flag_one true true rest = refl
flag_one true false rest = refl
flag_one false true rest = refl
flag_one false false rest = refl

set_one : (flags : List Bool) (at a : ℕ) → at < length flags → ((at == a) || is_set flags a) ≡ is_set (set flags at true) a
set_one flags at a l = by_test (at == a) refl
  where
    by_test : (b : Bool) → (at == a) ≡ b → (b || is_set flags a) ≡ is_set (set flags at true) a
    by_test true e = sym (ap (λ (k : ℕ). get_or (set flags at true) k false) (sym (eqb-true at a e)) ∙ get_or-set_same flags at true false l)
    by_test false e = sym (get_or-set_other flags at a true false (λ same. eqb-false at a e (sym same)))

pub flags_step : (words : List ℕ) (flags : List Bool) (at next : ℕ) (op : Instruction) → decode (drop at words) ≡ Some (op, next - at) → at < next
    → next ≤ length words → at < length flags → Flags words flags at → Flags words (set flags at true) next
unfolding Flags
flags_step words flags at next op e l m r k = λ a.
    k a
    ∙ ap (λ (s : List Start). is_set flags a || is_start s a) (starts_step words at next op e l m)
    ∙ flag_one (is_set flags a) (at == a) (is_start (starts_from (drop next words) next 0) a)
    ∙ ap (λ (b : Bool). b || is_start (starts_from (drop next words) next 0) a) (set_one flags at a r)

or_false : (b : Bool) → (b || false) ≡ b
or_false true = refl
or_false false = refl

pub flags_end : (words : List ℕ) (flags : List Bool) (at : ℕ) → length words ≤ at → Flags words flags at → StartsAreSet flags words
unfolding Flags
flags_end words flags at l k = λ a. sym (k a ∙ ap (λ (s : List Start). is_set flags a || is_start s a) (starts_end words at l)
    ∙ or_false (is_set flags a))

pub none_set : (n a : ℕ) → is_set (replicate n false) a ≡ false
none_set zero a = refl
none_set (suc n) zero = refl
none_set (suc n) (suc a) = none_set n a

-- what the first pass has done before the address `at`
pub record IsSetTo (words : List ℕ) (flags : List Bool) (at : ℕ) : Type 0 where
  pub within : at ≤ length words
  pub room : length flags ≡ length words
  pub faults : first_fault (operation_fault true) (starts_of words) ≡ first_fault (operation_fault true) (starts_from (drop at words) at 0)
  pub flags_are : Flags words flags at

pub set_first : (words : List ℕ) (flags : List Bool) → length flags ≡ length words → ((a : ℕ) → is_set flags a ≡ false) → IsSetTo words flags 0
set_first words flags l c = record { within = omega arith; room = l; faults = refl; flags_are = flags_clear words flags c }

pub set_next : (words : List ℕ) (flags : List Bool) (at next : ℕ) (op : Instruction) → Found words at op next → at < next → next ≤ length words
    → IsSetTo words flags at → IsSetTo words (set flags at true) next
set_next words flags at next op f l m k =
    record {
      within = m;
      room = length-set flags at true ∙ k.room;
      faults = k.faults ∙ operation_step true words at next op f.decoded l m;
      flags_are = flags_step words flags at next op f.decoded l m (omega (arith, k.room)) k.flags_are;
    }

pub set_all : (words : List ℕ) (flags : List Bool) (at : ℕ) → length words ≤ at → IsSetTo words flags at → StartsAreSet flags words
set_all words flags at l k = flags_end words flags at l k.flags_are

pub set_fault : (words : List ℕ) (flags : List Bool) (at : ℕ) → decode (drop at words) ≡ None → at < length words → IsSetTo words flags at
    → Some (fault.Operation at (get_or words at 0)) ≡ first_fault (operation_fault true) (starts_of words)
set_fault words flags at e l k = sym (k.faults ∙ operation_broken true words at e l)

pub set_none : (words : List ℕ) (flags : List Bool) (at : ℕ) → length words ≤ at → IsSetTo words flags at → None ≡ first_fault (operation_fault true)
    (starts_of words)
set_none words flags at l k = sym (k.faults ∙ operation_end true words at l)

-- ---- the second pass: where instructions lead

pub jump_step : (words all : List ℕ) (starts : List Start) (at next : ℕ) (op : Instruction) → decode (drop at words) ≡ Some (op, next - at) → at < next
    → next ≤ length words → first_fault (jump_fault all starts) (starts_from (drop at words) at 0) ≡ or_else
    (jump_fault all starts (record { at = at; word = get_or words at 0; op = Some op }))
    (first_fault (jump_fault all starts) (starts_from (drop next words) next 0))
jump_step words all starts at next op e l m = ap (first_fault (jump_fault all starts)) (starts_step words at next op e l m)

pub jump_next : (words : List ℕ) (at next : ℕ) (op : Instruction) → Found words at op next → at < next → next ≤ length words
    → None ≡ targets_fault words (starts_of words) at op → first_fault (jump_fault words (starts_of words)) (starts_of words) ≡ first_fault
    (jump_fault words (starts_of words)) (starts_from (drop at words) at 0) → first_fault (jump_fault words (starts_of words)) (starts_of words) ≡ first_fault
    (jump_fault words (starts_of words)) (starts_from (drop next words) next 0)
jump_next words at next op f l m n k =
    k
    ∙ jump_step words words (starts_of words) at next op f.decoded l m
    ∙ ap (λ (r : Option CodeFault). or_else r (first_fault (jump_fault words (starts_of words)) (starts_from (drop next words) next 0))) (sym n)

pub jump_found : (words : List ℕ) (at next : ℕ) (op : Instruction) (f : CodeFault) → Found words at op next → at < next → next ≤ length words
    → Some f ≡ targets_fault words (starts_of words) at op → first_fault (jump_fault words (starts_of words)) (starts_of words) ≡ first_fault
    (jump_fault words (starts_of words)) (starts_from (drop at words) at 0) → Some f ≡ first_fault (jump_fault words (starts_of words)) (starts_of words)
jump_found words at next op f found l m n k =
    sym (k
    ∙ jump_step words words (starts_of words) at next op found.decoded l m
    ∙ ap (λ (r : Option CodeFault). or_else r (first_fault (jump_fault words (starts_of words)) (starts_from (drop next words) next 0))) (sym n))

pub jump_end : (words all : List ℕ) (starts : List Start) (at : ℕ) → decode (drop at words) ≡ None → first_fault (jump_fault all starts)
    (starts_from (drop at words) at 0) ≡ None
jump_end words all starts at e = by_test (nat_lt at (length words)) refl
  where
    by_test : (b : Bool) → nat_lt at (length words) ≡ b → first_fault (jump_fault all starts) (starts_from (drop at words) at 0) ≡ None
    by_test true t = ap (first_fault (jump_fault all starts)) (starts_broken words at e (ltb-true at (length words) t))
    by_test false t = ap (first_fault (jump_fault all starts)) (starts_end words at (ltb-false at (length words) t))

-- ---- branches

pub branches_begin : (words : List ℕ) (flags : List Bool) (starts : List Start) (at : ℕ) (bs : List Branch)
    → ((a : ℕ) → is_set flags a ≡ is_start starts a) → first_fault (λ (b : Branch). unless (is_set flags b.address) (fault.Jump at b.address)) bs
    ≡ first_fault (λ (t : Way × ℕ). unless (keeps words starts at t) (fault.Jump at t.1)) (map (λ (b : Branch). (begins, b.address)) bs)
branches_begin words flags starts at [] m = refl
branches_begin words flags starts at (b ∷ bs) m = rw (m b.address, branches_begin words flags starts at bs m) refl
