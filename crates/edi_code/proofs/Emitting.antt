-- Codes that are appended one behind another.
use Rattle.std.proofs.Common.{◌≡◌, ℕ, ◌+◌, List, [], ◌∷◌, ◌++◌, Result, Ok, Err, refl, sym, ap, subst, ◌∙◌, append_assoc}
use Rattle.std.specs.Prelude.{IfOk, OnOk}
use Rattle.std.proofs.lemmas.List.{append-nil}
use Rattle.edi_target.specs.Op.{Instruction, words_of}
use Rattle.edi_scheme.specs.Pieces.{Code, words_of_code}
use Rattle.edi_code.specs.Emits.{Emits}

pub words_append : (a b : Code) → words_of_code (a ++ b) ≡ words_of_code a ++ words_of_code b
words_append [] b = refl
words_append (i ∷ a) b =
    ap (λ (l : List ℕ). words_of i ++ l) (words_append a b) ∙ sym (append_assoc (words_of i) (words_of_code a) (words_of_code b))

pub emits_nothing : (out : List ℕ) → Emits out out []
emits_nothing out = record { appended = sym (append-nil out) }

pub emits_one : (old new : List ℕ) (i : Instruction) → new ≡ old ++ words_of i → Emits old new (i ∷ [])
emits_one old new i e = record { appended = e ∙ ap (λ (l : List ℕ). old ++ l) (sym (append-nil (words_of i))) }

pub emits_then : (old middle new : List ℕ) (a b : Code) → Emits old middle a → Emits middle new b → Emits old new (a ++ b)
emits_then old middle new a b p q = record {
  appended =
      q.appended
      ∙ ap (λ (l : List ℕ). l ++ words_of_code b) p.appended
      ∙ append_assoc old (words_of_code a) (words_of_code b)
      ∙ ap (λ (l : List ℕ). old ++ l) (sym (words_append a b));
}

-- one code, told in another form
pub stated : {T E : Type 0} (r : Result T E) (old new : List ℕ) (a b : Code) → a ≡ b → OnOk r (Emits old new a) → OnOk r (Emits old new b)
stated (Err e) old new a b s p = tt
stated (Ok x) old new a b s p = subst (Emits old new) s p

-- two codes, the second of which is told by its result
pub two : {T E : Type 0} (r : Result T E) (old middle new : List ℕ) (a b c all : Code) → Emits old middle a → OnOk r (Emits middle new b) → b ≡ c → all ≡ a
    ++ c → OnOk r (Emits old new all)
two (Err e) old middle new a b c all p q s t = tt
two (Ok x) old middle new a b c all p q s t =
    subst (Emits old new) (ap (λ (l : Code). a ++ l) s ∙ sym t) (emits_then old middle new a b p q)

-- a code of three parts
pub three : (old one two new : List ℕ) (a b c x y z all : Code) → Emits old one a → Emits one two b → Emits two new c → a ≡ x → b ≡ y → c ≡ z → all ≡ x
    ++ (y ++ z) → Emits old new all
three old one two new a b c x y z all p q r s t u v =
    subst (Emits old new) (ap (λ (l : Code). l ++ (b ++ c)) s ∙ ap (λ (l : Code). x ++ (l ++ c)) t ∙ ap (λ (l : Code). x ++ (y ++ l)) u ∙ sym v)
    (emits_then old one new a (b ++ c) p (emits_then one two new b c q r))

-- one step of a loop that appends: what was appended so far, and then the rest, is all
pub rest_words : (out next whole : List ℕ) (x : Code) (f : ℕ → ℕ → Code) (here long took s u : ℕ) → took ≡ long → u ≡ s → Emits out next x → out
    ++ words_of_code (x ++ f (here + long) s) ≡ whole → next ++ words_of_code (f (here + took) u) ≡ whole
rest_words out next whole x f here long took s u e g p h =
    ap (λ (l : List ℕ). l ++ words_of_code (f (here + took) u)) p.appended
    ∙ append_assoc out (words_of_code x) (words_of_code (f (here + took) u))
    ∙ ap (λ (l : List ℕ). out ++ l) (sym (words_append x (f (here + took) u)))
    ∙ ap (λ (k : ℕ). out ++ words_of_code (x ++ f (here + k) u)) e
    ∙ ap (λ (k : ℕ). out ++ words_of_code (x ++ f (here + long) k)) g
    ∙ h

-- the same, where the address behind what was appended is told
pub rest_behind : (out next whole : List ℕ) (x : Code) (f : ℕ → ℕ → Code) (here long behind s u : ℕ) → behind ≡ here + long → u ≡ s → Emits out next x → out
    ++ words_of_code (x ++ f (here + long) s) ≡ whole → next ++ words_of_code (f behind u) ≡ whole
rest_behind out next whole x f here long behind s u e g p h =
    ap (λ (k : ℕ). next ++ words_of_code (f k u)) e ∙ rest_words out next whole x f here long long s u refl g p h

-- two codes, where both were appended
pub both : (old middle new : List ℕ) (a b c all : Code) → Emits old middle a → Emits middle new b → b ≡ c → all ≡ a ++ c → Emits old new all
both old middle new a b c all p q s t = subst (Emits old new) (ap (λ (l : Code). a ++ l) s ∙ sym t) (emits_then old middle new a b p q)

-- an address behind what was appended, told in another form
pub told : {E : Type 0} (r : Result ℕ E) (a b : ℕ) → IfOk r (λ k. k ≡ a) → a ≡ b → IfOk r (λ k. k ≡ b)
told (Err e) a b p same = tt
told (Ok k) a b p same = p ∙ same
