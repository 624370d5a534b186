-- Where the instructions of a code start.
use Rattle.std.proofs.Common.{◌≡◌, ℕ, ◌+◌, ◌-◌, ◌≤◌, ◌⊎◌, inl, inr, Bool, true, false, ◌||◌, ◌==◌, List, [], ◌∷◌, ◌++◌, Some, length, drop, drop-drop}
use Rattle.std.proofs.Common.{get_or, refl, sym, ap, ◌∙◌, subst, arith, eq-eqb, length-append}
use Rattle.std.proofs.Math.Seq.{drop-append_seam}
use Rattle.edi_target.specs.Op as instruction
use Rattle.edi_target.specs.Op.{Instruction, words_of}
use Rattle.edi_target.specs.Decode.{decode}
use Rattle.edi_target.specs.Check.{Start, is_start, starts_from}
use Rattle.edi_target.proofs.Places.{starts_step, starts_end}
use Rattle.edi_target.proofs.Reading.{decode_again}
use Rattle.edi_scheme.specs.Pieces.{Code, words_of_code, code_length}
use Rattle.edi_scheme.proofs.Laid.{words_append, Long, AreAllowed, none, one_then}

-- ---- the starts in the words of a code

-- each instruction has a word
pub word_at_least : (i : Instruction) → 1 ≤ length (words_of i)
word_at_least (instruction.const v) = omega arith
word_at_least i = omega arith

-- the starts of the instructions of a code, the first at an address of these words
abbrev pub starts : List ℕ → Code → ℕ → List Start
starts words [] at = []
starts words (i ∷ code) at = record { at = at; word = get_or words at 0; op = Some i } ∷ starts words code (at + length (words_of i))

pub starts_are : (words : List ℕ) (code : Code) (at : ℕ) → AreAllowed code → drop at words ≡ words_of_code code → at + code_length code ≡ length words
    → starts_from (drop at words) at 0 ≡ starts words code at
starts_are words [] at none e l = starts_end words at (omega (arith, l))
starts_are words (i ∷ code) at (one_then g gs) e l =
    let n : ℕ = length (words_of i) in
    let next : ℕ = at + n in
    let long = length-append (words_of i) (words_of_code code) in
    let gap : n ≡ next - at = omega arith in
    let decoded : decode (drop at words) ≡ Some (i, next - at) =
    ap decode e ∙ decode_again i (words_of_code code) g.operands g.integers ∙ ap (λ k. Some (i, k)) gap in
    let behind : drop next words ≡ words_of_code code =
    ap (λ k. drop k words) (omega arith) ∙ sym (drop-drop n at words) ∙ ap (drop n) e ∙ drop-append_seam (words_of i) (words_of_code code) in
    starts_step words at next i decoded (omega (arith, word_at_least i)) (omega (arith, l, long))
    ∙ ap (λ l. record { at = at; word = get_or words at 0; op = Some i } ∷ l) (starts_are words code next gs behind (omega (arith, l, long)))

-- ---- addresses at which an instruction of a code starts

abbrev pub IsPosition : Code → ℕ → ℕ → Type 0
IsPosition [] at a = ⊥
IsPosition (i ∷ code) at a = (at ≡ a) ⊎ IsPosition code (at + length (words_of i)) a

or_true : (b c : Bool) → c ≡ true → (b || c) ≡ true
or_true true c h = refl
or_true false c h = h

pub position_start : (words : List ℕ) (code : Code) (at a : ℕ) → IsPosition code at a → is_start (starts words code at) a ≡ true
position_start words [] at a h = absurd h
position_start words (i ∷ code) at a (inl e) = ap (λ b. b || is_start (starts words code (at + length (words_of i))) a) (eq-eqb at a e)
position_start words (i ∷ code) at a (inr h) = or_true (at == a) _ (position_start words code (at + length (words_of i)) a h)

position_front : (a b : Code) (at x : ℕ) → IsPosition a at x → IsPosition (a ++ b) at x
position_front [] b at x h = absurd h
position_front (i ∷ a) b at x (inl e) = inl e
position_front (i ∷ a) b at x (inr h) = inr (position_front a b (at + length (words_of i)) x h)

position_back : (a b : Code) (at x : ℕ) → IsPosition b (at + code_length a) x → IsPosition (a ++ b) at x
position_back [] b at x h = subst (λ n. IsPosition b n x) (omega arith) h
position_back (i ∷ a) b at x h =
    inr (position_back a b (at + length (words_of i)) x (subst (λ n. IsPosition b n x) (omega (arith, length-append (words_of i) (words_of_code a))) h))

module _ (good : ℕ → Type 0) where
  -- each instruction of a code starts at a good address
  pub record Starts (code : Code) (at : ℕ) : Type 0 where
    pub each : (a : ℕ) → IsPosition code at a → good a

  -- and the address behind it is good too
  pub record Covers (code : Code) (at : ℕ) : Type 0 where
    pub each : (a : ℕ) → IsPosition code at a → good a
    pub end : good (at + code_length code)

  pub starts_front : (a b : Code) (at : ℕ) → Starts (a ++ b) at → Starts a at
  starts_front a b at h = record { each = λ x k. h.each x (position_front a b at x k) }

  pub starts_back : (a b : Code) (at n : ℕ) → Long a n → Starts (a ++ b) at → Starts b (at + n)
  starts_back a b at n g h = record { each = λ x k. h.each x (position_back a b at x (subst (λ m. IsPosition b (at + m) x) (sym g.is) k)) }

  -- a code before an instruction
  pub covers_before : (code : Code) (i : Instruction) (rest : Code) (at : ℕ) → Starts (code ++ i ∷ rest) at → Covers code at
  covers_before code i rest at h = record {
    each = (starts_front code (i ∷ rest) at h).each;
    end = h.each _ (position_back code (i ∷ rest) at (at + code_length code) (inl refl));
  }

  pub covers_start : (code : Code) (at : ℕ) → Covers code at → good at
  covers_start [] at h = subst good (omega arith) h.end
  covers_start (i ∷ code) at h = h.each at (inl refl)

  pub covers_back : (a b : Code) (at n : ℕ) → Long a n → Covers (a ++ b) at → Covers b (at + n)
  covers_back a b at n g h = record {
    each = λ x k. h.each x (position_back a b at x (subst (λ m. IsPosition b (at + m) x) (sym g.is) k));
    end = subst good (omega (arith, g.is, ap length (words_append a b), length-append (words_of_code a) (words_of_code b))) h.end;
  }

  pub covers_front : (a b : Code) (at : ℕ) → Covers (a ++ b) at → Covers a at
  covers_front a b at h = record {
    each = λ x k. h.each x (position_front a b at x k);
    end = covers_start b (at + code_length a) (covers_back a b at (code_length a) (record { is = refl }) h);
  }

  pub covers_end : (code : Code) (at n : ℕ) → Long code n → Covers code at → good (at + n)
  covers_end code at n g h = subst (λ m. good (at + m)) g.is h.end
