-- Codes: their lengths, and instructions that stand one behind another.
use Rattle.std.proofs.Common.{◌≡◌, ℕ, ◌+◌, ◌-◌, ◌≤◌, List, [], ◌∷◌, ◌++◌, Option, Some, None, length, drop, drop-drop, refl, sym, ap, ◌∙◌, subst, arith}
use Rattle.std.proofs.Common.{append_assoc, length-append}
use Rattle.std.proofs.Math.Seq.{drop-append_seam}
use Rattle.std.proofs.lemmas.List.{append-nil}
use Rattle.std.specs.Prelude.{true}
use Rattle.edi_target.specs.Op.{Instruction, words_of, is_allowed, has_integers}
use Rattle.edi_target.specs.Decode.{decode}
use Rattle.edi_target.specs.Fetch.{fetch}
use Rattle.edi_target.proofs.Reading.{decode_again}
use Rattle.edi_scheme.specs.Pieces.{Code, words_of_code, code_length}
use Rattle.edi_scheme.specs.Stands.{AreInstructions}

-- ---- words and lengths

pub words_append : (a b : Code) → words_of_code (a ++ b) ≡ words_of_code a ++ words_of_code b
words_append [] b = refl
words_append (i ∷ a) b =
    ap (λ ws. words_of i ++ ws) (words_append a b) ∙ sym (append_assoc (words_of i) (words_of_code a) (words_of_code b))

-- a code has so many words
pub record Long (code : Code) (n : ℕ) : Type 0 where
  pub is : code_length code ≡ n

pub long_nothing : Long [] 0
long_nothing = record { is = refl }

pub long_append : {a b : Code} {m n : ℕ} → Long a m → Long b n → Long (a ++ b) (m + n)
long_append {a = a} {b = b} g h =
    record { is = ap length (words_append a b) ∙ omega (arith, length-append (words_of_code a) (words_of_code b), g.is, h.is) }

pub long_then : (i : Instruction) {b : Code} {n : ℕ} → Long b n → Long (i ∷ b) (length (words_of i) + n)
long_then i {b = b} h = record { is = omega (arith, length-append (words_of i) (words_of_code b), h.is) }

pub long_one : (i : Instruction) → Long (i ∷ []) (length (words_of i))
long_one i = record { is = ap length (append-nil (words_of i)) }

pub long_of : (code : Code) → Long code (code_length code)
long_of code = record { is = refl }

pub long_is : {code : Code} {m n : ℕ} → m ≡ n → Long code m → Long code n
long_is e h = record { is = h.is ∙ e }

-- ---- instructions that may stand

pub record Allowed (i : Instruction) : Type 0 where
  pub operands : is_allowed i ≡ true
  pub integers : has_integers i ≡ true

pub data AreAllowed : Code → Type 0 where
  none : AreAllowed []
  one_then : {i : Instruction} {code : Code} → Allowed i → AreAllowed code → AreAllowed (i ∷ code)

pub allowed_append : {a b : Code} → AreAllowed a → AreAllowed b → AreAllowed (a ++ b)
allowed_append none h = h
allowed_append (one_then g gs) h = one_then g (allowed_append gs h)

pub allowed_one : {i : Instruction} → Allowed i → AreAllowed (i ∷ [])
allowed_one g = one_then g none

-- ---- a code that stands at an address

module _ (fetched : ℕ → Option (Instruction × ℕ)) where
  -- its instructions stand there one behind another, each as long as its words
  abbrev pub Laid : Code → ℕ → Type 0
  Laid [] at = Unit {0}
  Laid (i ∷ code) at = (fetched at ≡ Some (i, at + length (words_of i))) × Laid code (at + length (words_of i))

  -- the front of a code, and what stands behind it
  pub laid_front : (a b : Code) (at : ℕ) → Laid (a ++ b) at → Laid a at
  laid_front [] b at h = tt
  laid_front (i ∷ a) b at h = (h.0, laid_front a b (at + length (words_of i)) h.1)

  pub laid_back : (a b : Code) (at n : ℕ) → Long a n → Laid (a ++ b) at → Laid b (at + n)
  laid_back [] b at n g h =
      let zero_length = g.is in subst (Laid b) (omega (arith, zero_length)) h
  laid_back (i ∷ a) b at n g h =
      let long = g.is in
      let rest : Long a (n - length (words_of i)) = record { is = omega (arith, long, length-append (words_of i) (words_of_code a)) } in
      subst (Laid b) (omega (arith, long, length-append (words_of i) (words_of_code a)))
      (laid_back a b (at + length (words_of i)) (n - length (words_of i)) rest h.1)

  pub laid_instructions : (code : Code) (at to : ℕ) → Long code (to - at) → at ≤ to → Laid code at → AreInstructions fetched code at to
  laid_instructions [] at to g up h = let long = g.is in omega (arith, long, up)
  laid_instructions (i ∷ []) at to g up h =
      let long = (long_one i).is in
      h.0 ∙ ap (λ n. Some (i, n)) (omega (arith, long, g.is, up))
  laid_instructions (i ∷ j ∷ code) at to g up h =
      let next = at + length (words_of i) in
      let long = length-append (words_of i) (words_of_code (j ∷ code)) in
      (next, h.0, laid_instructions (j ∷ code) next to (record { is = omega (arith, long, g.is, up) }) (omega (arith, long, g.is, up)) h.1)

-- the words of a code that stand in a list of words
pub laid_words : (words : List ℕ) (code : Code) (at : ℕ) (rest : List ℕ) → AreAllowed code → drop at words ≡ words_of_code code ++ rest
    → Laid (fetch words) code at
laid_words words [] at rest none e = tt
laid_words words (i ∷ code) at rest (one_then g gs) e =
    let here = e ∙ append_assoc (words_of i) (words_of_code code) rest in (
      ap (λ l. elim (decode l) as (λ _. Option (Instruction × ℕ)) [ None ↦ None | Some found ↦ Some (found.0, at + found.1) ]) here
          ∙ ap (λ o. elim o as (λ _. Option (Instruction × ℕ)) [ None ↦ None | Some found ↦ Some (found.0, at + found.1) ])
          (decode_again i (words_of_code code ++ rest) g.operands g.integers),
      laid_words words code (at + length (words_of i)) rest gs (behind here),
    )
  where
    behind : drop at words ≡ words_of i ++ (words_of_code code ++ rest) → drop (at + length (words_of i)) words ≡ words_of_code code ++ rest
    behind here =
        ap (λ k. drop k words) (omega arith)
        ∙ sym (drop-drop (length (words_of i)) at words)
        ∙ ap (drop (length (words_of i))) here
        ∙ drop-append_seam (words_of i) (words_of_code code ++ rest)
