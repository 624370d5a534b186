-- Characters that were shown read in one way: the text of each says by its first two bytes where it ends.
use Rattle.std.proofs.Common.{◌≡◌, ◌<◌, ◌+◌, ◌*◌, ◌-◌, ℕ, zero, suc, Bool, true, false, nat_eq, ◌&&◌, not, List, [], ◌∷◌, ◌++◌, length, get_or, refl, sym, ap, ap₂, ◌∙◌, arith}
use Rattle.std.specs.Prelude.{drop}
use Rattle.std.specs.List.{list_all}
use Rattle.std.specs.Fmt.{digits}
use Rattle.std.proofs.lemmas.Bool.{eqb-true, eqb-false, ltb-true}
use Rattle.edi_calls.specs.SoundState.{is_byte}
use Rattle.edi_timeline.specs.Text.{character_text, characters_text}

-- a text of one: itself, `\n`, or `\` and three digits
shaped : List ℕ → Bool
shaped [] = false
shaped (a ∷ []) = not (nat_eq a 92)
shaped (a ∷ b ∷ []) = nat_eq a 92 && nat_eq b 110
shaped (a ∷ b ∷ c ∷ []) = false
shaped (a ∷ b ∷ c ∷ d ∷ []) = nat_eq a 92 && not (nat_eq b 110)
shaped (a ∷ b ∷ c ∷ d ∷ e ∷ s) = false

-- the character of such a text
character_of : List ℕ → ℕ
character_of [] = 0
character_of (a ∷ []) = a
character_of (a ∷ b ∷ []) = 10
character_of (a ∷ b ∷ c ∷ []) = 0
character_of (a ∷ b ∷ c ∷ d ∷ s) = (b - 48) * 100 + (c - 48) * 10 + (d - 48)

reads : ℕ → Bool
reads c = shaped (character_text c) && nat_eq (character_of (character_text c)) c

below : (ℕ → Bool) → ℕ → Bool
below f zero = true
below f (suc n) = f n && below f n

all_read : below reads 256 ≡ true
unfolding below reads shaped character_of digits
all_read = refl

both : (p q : Bool) → (p && q) ≡ true → (p ≡ true) × (q ≡ true)
both true q h = (refl, h)
both false q h = absurd (let no : false ≡ true = h in cc)

and_true : {p : Bool} → p ≡ true → (p && true) ≡ true
and_true {p} h = ap (λ b. b && true) h

clash : (p q : Bool) → not p ≡ true → (p && q) ≡ true → ⊥
clash true q n h = let no : false ≡ true = n in cc
clash false q n h = let no : false ≡ true = h in cc

below_each : (f : ℕ → Bool) (n c : ℕ) → below f n ≡ true → c < n → f c ≡ true
unfolding below
below_each f zero c h l = absurd (omega (arith, l))
below_each f (suc n) c h l = at (nat_eq c n) refl (below_each f n c (both (f n) (below f n) h).1)
  where
    at : (e : Bool) → nat_eq c n ≡ e → (c < n → f c ≡ true) → f c ≡ true
    at true e more = ap f (eqb-true c n e) ∙ (both (f n) (below f n) h).0
    at false e more = more (omega (arith, l, eqb-false c n e))

shaped_text : (c : ℕ) → is_byte c ≡ true → shaped (character_text c) ≡ true
unfolding reads
shaped_text c b = (both (shaped (character_text c)) (nat_eq (character_of (character_text c)) c) (below_each reads 256 c all_read (ltb-true c 256 b))).0

same_text : (c : ℕ) → is_byte c ≡ true → character_of (character_text c) ≡ c
unfolding reads
same_text c b =
    eqb-true (character_of (character_text c)) c
    (both (shaped (character_text c)) (nat_eq (character_of (character_text c)) c) (below_each reads 256 c all_read (ltb-true c 256 b))).1

head_of : {x y : ℕ} {xs ys : List ℕ} → (x ∷ xs) ≡ (y ∷ ys) → x ≡ y
head_of e = ap (λ s. get_or s 0 0) e

tail_of : {x y : ℕ} {xs ys : List ℕ} → (x ∷ xs) ≡ (y ∷ ys) → xs ≡ ys
tail_of e = ap (drop 1) e

-- two texts of one, each with more behind it
apart : (s t xs ys : List ℕ) → shaped s ≡ true → shaped t ≡ true → s ++ xs ≡ t ++ ys → (s ≡ t) × (xs ≡ ys)
unfolding shaped
apart [] t xs ys p q e = absurd (let no : false ≡ true = p in cc)
apart (a ∷ b ∷ c ∷ []) t xs ys p q e = absurd (let no : false ≡ true = p in cc)
apart (a ∷ b ∷ c ∷ d ∷ f ∷ s) t xs ys p q e = absurd (let no : false ≡ true = p in cc)
apart (a ∷ []) [] xs ys p q e = absurd (let no : false ≡ true = q in cc)
apart (a ∷ []) (x ∷ y ∷ z ∷ []) xs ys p q e = absurd (let no : false ≡ true = q in cc)
apart (a ∷ []) (x ∷ y ∷ z ∷ u ∷ v ∷ t) xs ys p q e = absurd (let no : false ≡ true = q in cc)
apart (a ∷ b ∷ []) [] xs ys p q e = absurd (let no : false ≡ true = q in cc)
apart (a ∷ b ∷ []) (x ∷ y ∷ z ∷ []) xs ys p q e = absurd (let no : false ≡ true = q in cc)
apart (a ∷ b ∷ []) (x ∷ y ∷ z ∷ u ∷ v ∷ t) xs ys p q e = absurd (let no : false ≡ true = q in cc)
apart (a ∷ b ∷ c ∷ d ∷ []) [] xs ys p q e = absurd (let no : false ≡ true = q in cc)
apart (a ∷ b ∷ c ∷ d ∷ []) (x ∷ y ∷ z ∷ []) xs ys p q e = absurd (let no : false ≡ true = q in cc)
apart (a ∷ b ∷ c ∷ d ∷ []) (x ∷ y ∷ z ∷ u ∷ v ∷ t) xs ys p q e = absurd (let no : false ≡ true = q in cc)
apart (a ∷ []) (x ∷ []) xs ys p q e = (ap (λ n. n ∷ []) (head_of e), tail_of e)
apart (a ∷ []) (x ∷ y ∷ []) xs ys p q e =
    absurd (clash (nat_eq x 92) (nat_eq y 110) (ap (λ n. not (nat_eq n 92)) (sym (head_of e)) ∙ p) q)
apart (a ∷ []) (x ∷ y ∷ z ∷ u ∷ []) xs ys p q e =
    absurd (clash (nat_eq x 92) (not (nat_eq y 110)) (ap (λ n. not (nat_eq n 92)) (sym (head_of e)) ∙ p) q)
apart (a ∷ b ∷ []) (x ∷ []) xs ys p q e =
    absurd (clash (nat_eq a 92) (nat_eq b 110) (ap (λ n. not (nat_eq n 92)) (head_of e) ∙ q) p)
apart (a ∷ b ∷ []) (x ∷ y ∷ []) xs ys p q e =
    (ap₂ (λ n m. n ∷ m ∷ []) (head_of e) (head_of (tail_of e)), tail_of (tail_of e))
apart (a ∷ b ∷ []) (x ∷ y ∷ z ∷ u ∷ []) xs ys p q e =
    absurd (clash (nat_eq b 110) true
    (ap (λ n. not (nat_eq n 110)) (head_of (tail_of e)) ∙ (both (nat_eq x 92) (not (nat_eq y 110)) q).1) (and_true (both (nat_eq a 92) (nat_eq b 110) p).1))
apart (a ∷ b ∷ c ∷ d ∷ []) (x ∷ []) xs ys p q e =
    absurd (clash (nat_eq a 92) (not (nat_eq b 110)) (ap (λ n. not (nat_eq n 92)) (head_of e) ∙ q) p)
apart (a ∷ b ∷ c ∷ d ∷ []) (x ∷ y ∷ []) xs ys p q e =
    absurd (clash (nat_eq y 110) true
    (ap (λ n. not (nat_eq n 110)) (sym (head_of (tail_of e))) ∙ (both (nat_eq a 92) (not (nat_eq b 110)) p).1) (and_true (both (nat_eq x 92) (nat_eq y 110) q).1))
apart (a ∷ b ∷ c ∷ d ∷ []) (x ∷ y ∷ z ∷ u ∷ []) xs ys p q e =
    let first : a ≡ x = head_of e in
    let second : b ≡ y = head_of (tail_of e) in
    let third : c ≡ z = head_of (tail_of (tail_of e)) in
    let fourth : d ≡ u = head_of (tail_of (tail_of (tail_of e))) in
    (cc, tail_of (tail_of (tail_of (tail_of e))))

some_text : (c : ℕ) (xs : List ℕ) → is_byte c ≡ true → [] ≡ character_text c ++ xs → ⊥
unfolding shaped
some_text c xs b e = at (character_text c) (shaped_text c b) e
  where
    at : (s : List ℕ) → shaped s ≡ true → [] ≡ s ++ xs → ⊥
    at [] p e = let no : false ≡ true = p in cc
    at (a ∷ s) p e = let no : 0 ≡ suc (length (s ++ xs)) = ap length e in omega (arith, no)

pub read_in_one_way : (xs ys : List ℕ) → list_all is_byte xs ≡ true → list_all is_byte ys ≡ true → characters_text xs ≡ characters_text ys → xs ≡ ys
read_in_one_way [] [] b d e = refl
read_in_one_way [] (y ∷ ys) b d e = absurd (some_text y (characters_text ys) (both (is_byte y) (list_all is_byte ys) d).0 e)
read_in_one_way (x ∷ xs) [] b d e = absurd (some_text x (characters_text xs) (both (is_byte x) (list_all is_byte xs) b).0 (sym e))
read_in_one_way (x ∷ xs) (y ∷ ys) b d e =
    let f : (is_byte x ≡ true) × (list_all is_byte xs ≡ true) = both (is_byte x) (list_all is_byte xs) b in
    let g : (is_byte y ≡ true) × (list_all is_byte ys ≡ true) = both (is_byte y) (list_all is_byte ys) d in
    let parts : (character_text x ≡ character_text y) × (characters_text xs ≡ characters_text ys) =
    apart (character_text x) (character_text y) (characters_text xs) (characters_text ys) (shaped_text x f.0) (shaped_text y g.0) e
    in
    let first : x ≡ y = sym (same_text x f.0) ∙ ap character_of parts.0 ∙ same_text y g.0 in
    let rest : xs ≡ ys = read_in_one_way xs ys f.1 g.1 parts.1 in
    cc
