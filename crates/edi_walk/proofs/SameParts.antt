-- Whether two values of the code are equal, part by part.
use Rattle.std.proofs.Common.{◌≡◌, ℕ, suc, ◌<◌, ◌+◌, Bool, true, false, List, [], ◌∷◌, length, refl, sym, subst, ap, ◌∙◌, drop, get_or}
use Rattle.std.specs.Prelude.{map, ◌&&◌, ◌==◌, nat_eq}
use Rattle.std.specs.Cmp.Lexicographic.{pointwise}
use Rattle.std.specs.Global.{Vec}
use Rattle.std.proofs.Math.Dec.{eqb_refl, T}
use Rattle.std.proofs.Math.Facts.{eqb_yes}
use Rattle.edi_word.specs.SetWords.{members_of, words_of_members}
use Rattle.edi_unit.proofs.Limits.{drop_item}
use Rattle.edi_unit.specs.Values.{Values, compound, values, same_members, same_value, same_values}
use Rattle.edi_walk.specs.declared.data.Datum as code
use Rattle.edi_walk.specs.Data.{value_of}
use Rattle.edi_walk.proofs.Layers.{compound_seen}

abbrev pub seen : List code.Datum → Values
seen xs = values (map value_of xs)

-- compounds are equal where their parts are
pub parts_seen : (one other : code.Datum) (ps : Vec code.Datum) (qs : List code.Datum) → one ≡ code.Compound ps → value_of other ≡ compound (seen qs) →
    same_value (value_of one) (value_of other) ≡ same_values (seen ps.items) (seen qs)
parts_seen one other ps qs e f =
    ap (λ v. same_value v (value_of other)) (ap value_of e ∙ compound_seen ps)
    ∙ ap (same_value (compound (seen ps.items))) f

-- and so of the same length
pub lengths_apart : (xs ys : List code.Datum) → (length xs ≡ length ys → ⊥) → same_values (seen xs) (seen ys) ≡ false
lengths_apart [] [] h = absurd (h refl)
lengths_apart [] (y ∷ ys) h = refl
lengths_apart (x ∷ xs) [] h = refl
lengths_apart (x ∷ xs) (y ∷ ys) h = under (same_value (value_of x) (value_of y)) (lengths_apart xs ys (λ e. h (ap suc e)))
  where
    under : (b : Bool) {c : Bool} → c ≡ false → (b && c) ≡ false
    under true e = e
    under false e = refl

-- ---- sets

yes : (xs ys : List ℕ) → same_members xs ys ≡ true → xs ≡ ys
yes [] [] e = refl
yes [] (y ∷ ys) e = absurd (cc)
yes (x ∷ xs) [] e = absurd (cc)
yes (x ∷ xs) (y ∷ ys) e = both (x == y) refl e (yes xs ys)
  where
    both : (b : Bool) → (x == y) ≡ b → (b && same_members xs ys) ≡ true → (same_members xs ys ≡ true → xs ≡ ys) → x ∷ xs ≡ y ∷ ys
    both true e f more = ap (λ z. z ∷ xs) (eqb_yes (subst T (sym e) tt)) ∙ ap (λ zs. y ∷ zs) (more f)
    both false e f more = absurd (cc)

T_true : (b : Bool) → T b → b ≡ true
T_true true h = refl
T_true false h = absurd h

same_as_it : (xs : List ℕ) → same_members xs xs ≡ true
same_as_it [] = refl
same_as_it (x ∷ xs) = ap (λ b. b && same_members xs xs) (T_true (x == x) (eqb_refl x)) ∙ same_as_it xs

pub pointwise_members : (xs ys : List ℕ) → pointwise nat_eq xs ys ≡ same_members xs ys
pointwise_members [] [] = refl
pointwise_members [] (y ∷ ys) = refl
pointwise_members (x ∷ xs) [] = refl
pointwise_members (x ∷ xs) (y ∷ ys) = ap (λ b. (x == y) && b) (pointwise_members xs ys)

-- sets have the same members where they are of the same words
pub words_same : (s t v w : List ℕ) → v ≡ words_of_members s → w ≡ words_of_members t → members_of v ≡ s → members_of w ≡ t → same_members v w ≡ same_members s t
words_same s t v w e f g h = go (same_members v w) refl (same_members s t) refl
  where
    go : (a : Bool) → same_members v w ≡ a → (b : Bool) → same_members s t ≡ b → a ≡ b
    go true i true j = refl
    go false i false j = refl
    go true i false j = let k : s ≡ t = sym g ∙ ap members_of (yes v w i) ∙ h in let l : true ≡ false = sym (ap (same_members s) (sym k) ∙ same_as_it s) ∙ j in absurd (cc)
    go false i true j =
        let k : v ≡ w = e ∙ ap words_of_members (yes s t j) ∙ sym f in let l : true ≡ false = sym (ap (same_members v) (sym k) ∙ same_as_it v) ∙ i in absurd (cc)

-- the parts from one place on
pub one_more : (xs ys : List code.Datum) (i : ℕ) (x y : code.Datum) → i < length xs → i < length ys → x ≡ get_or xs i x → y ≡ get_or ys i y →
    same_values (seen (drop i xs)) (seen (drop i ys)) ≡ (same_value (value_of x) (value_of y) && same_values (seen (drop (i + 1) xs)) (seen (drop (i + 1) ys)))
one_more xs ys i x y h k e f =
    ap (λ zs. same_values (seen zs) (seen (drop i ys))) (drop_item xs i x h e)
    ∙ ap (λ zs. same_values (seen (x ∷ drop (i + 1) xs)) (seen zs)) (drop_item ys i y k f)
