-- The instructions of version 1, and those of a code.
use Rattle.std.proofs.Common.{◌≡◌, ℕ, ◌<◌, ◌≤◌, Bool, true, false, List, [], ◌∷◌, Option, Some, None, length, drop, get_or, refl, sym, ap, ◌∙◌, arith}
use Rattle.std.specs.Prelude.{not, ◌||◌}
use Rattle.edi_target.specs.Op.{Instruction}
use Rattle.edi_target.specs.Decode.{decode}
use Rattle.edi_target.specs.View.{Found}
use Rattle.edi_target.specs.Check.{Start, first_fault, is_quiet, jump_fault, entry_fault, operation_fault, or_else, starts_from, starts_of, unless, words_fault}
use Rattle.edi_target.specs.declared.code_fault.CodeFault.{CodeFault}
use Rattle.edi_target.specs.declared.code_fault.CodeFault.TheVariants as fault
use Rattle.edi_target.proofs.Places.{operation_step, operation_broken, operation_end}

-- up to this address no fault was found
pub record IsReadTo (words : List ℕ) (at : ℕ) : Type 0 where
  pub within : at ≤ length words
  pub faults : first_fault (operation_fault false) (starts_of words) ≡ first_fault (operation_fault false) (starts_from (drop at words) at 0)

pub read_first : (words : List ℕ) → IsReadTo words 0
read_first words = record { within = omega arith; faults = refl }

one_version : (at word : ℕ) (op : Instruction) (q : Bool) → is_quiet op ≡ q → operation_fault false (record { at = at; word = word; op = Some op }) ≡ unless
    (not q) (fault.Operation at word)
one_version at word op q e = ap (λ (b : Bool). unless (not b) (fault.Operation at word)) e

pub read_next : (words : List ℕ) (at next : ℕ) (op : Instruction) → Found words at op next → at < next → next ≤ length words → is_quiet op ≡ false
    → IsReadTo words at → IsReadTo words next
read_next words at next op f l m q k = record {
  within = m;
  faults = k.faults ∙ operation_step false words at next op f.decoded l m
      ∙ ap (λ (x : Option CodeFault). or_else x (first_fault (operation_fault false) (starts_from (drop next words) next 0)))
      (one_version at (get_or words at 0) op false q);
}

pub read_quiet : (words : List ℕ) (at next : ℕ) (op : Instruction) → Found words at op next → at < next → next ≤ length words → is_quiet op ≡ true
    → IsReadTo words at → Some (fault.Operation at (get_or words at 0)) ≡ first_fault (operation_fault false) (starts_of words)
read_quiet words at next op f l m q k =
    sym (k.faults ∙ operation_step false words at next op f.decoded l m
    ∙ ap (λ (x : Option CodeFault). or_else x (first_fault (operation_fault false) (starts_from (drop next words) next 0)))
    (one_version at (get_or words at 0) op true q))

pub read_broken : (words : List ℕ) (at : ℕ) → decode (drop at words) ≡ None → at < length words → IsReadTo words at
    → Some (fault.Operation at (get_or words at 0)) ≡ first_fault (operation_fault false) (starts_of words)
read_broken words at e l k = sym (k.faults ∙ operation_broken false words at e l)

pub read_all : (words : List ℕ) (at : ℕ) → length words ≤ at → IsReadTo words at → None ≡ first_fault (operation_fault false) (starts_of words)
read_all words at l k = sym (k.faults ∙ operation_end false words at l)

-- ---- a code of version 1 without fault is one of version 2

pub none_of : (a b : Option CodeFault) → or_else a b ≡ None → (a ≡ None) × (b ≡ None)
none_of None b e = (refl, e)
none_of (Some f) b e = (e, cc)

newer_unless : (b : Bool) (f : CodeFault) → unless (false || b) f ≡ None → unless (true || b) f ≡ None
newer_unless b f e = refl

newer_start : (at word : ℕ) (op : Option Instruction) → operation_fault false (record { at = at; word = word; op = op }) ≡ None
    → operation_fault true (record { at = at; word = word; op = op }) ≡ None
newer_start at word None e = e
newer_start at word (Some op) e = refl

newer : (starts : List Start) → first_fault (operation_fault false) starts ≡ None → first_fault (operation_fault true) starts ≡ None
newer [] e = refl
newer (s ∷ starts) e =
    let parts = none_of (operation_fault false s) (first_fault (operation_fault false) starts) e in
    ap (λ (x : Option CodeFault). or_else x (first_fault (operation_fault true) starts)) (newer_start s.at s.word s.op parts.0) ∙ newer starts parts.1

-- where nothing is wrong by version 1, both versions find the same
pub same_words_fault : (words : List ℕ) (start count : ℕ) → None ≡ first_fault (operation_fault false) (starts_of words) → words_fault true words start count
    ≡ words_fault false words start count
unfolding words_fault
same_words_fault words start count e =
    let rest : Option CodeFault = or_else (first_fault (jump_fault words (starts_of words)) (starts_of words))
    (entry_fault words (starts_of words) start count) in
    ap (λ (x : Option CodeFault). or_else x rest) (newer (starts_of words) (sym e) ∙ e)

-- and what is wrong by version 1 is the first fault
pub first_words_fault : (words : List ℕ) (start count : ℕ) (f : CodeFault) → Some f ≡ first_fault (operation_fault false) (starts_of words)
    → words_fault false words start count ≡ Some f
unfolding words_fault
first_words_fault words start count f e =
    let rest : Option CodeFault = or_else (first_fault (jump_fault words (starts_of words)) (starts_of words))
    (entry_fault words (starts_of words) start count) in
    ap (λ (x : Option CodeFault). or_else x rest) (sym e)
