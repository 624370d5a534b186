-- What is read of the matches, and where the test of the words stops.
use Rattle.std.proofs.Common.{◌≡◌, ◌∙◌, ◌<◌, ◌≤◌, ◌⊎◌, ℕ, suc, Bool, true, false, refl, sym, ap, List, [], ◌∷◌, map, drop}
use Rattle.std.proofs.Common.{length, get_or, drop-cons, drop_of_length-le, Option, Some, None, unwrap_or, is_some, inl, inr}
use Rattle.std.specs.Prelude.{not, option_map}
use Rattle.std.specs.Borrow.{Bor}
use Rattle.edi_words.specs.Words.{Text, is_plain, is_option_name, parts_of}
use Rattle.edi_words.specs.View.{texts}
use Rattle.edi_words.specs.Inside.{goes}
use Rattle.edi_words.proofs.Tests.{goes_is}

pub texts_or : (r : Option (Bor (List (Bor Text)))) (none : Bor (List (Bor Text))) → none.now ≡ []
    → texts (unwrap_or r none).now ≡ unwrap_or (option_map (λ s. map (λ v. v.now) s.now) r) []
texts_or None none e = ap texts e
texts_or (Some s) none e = refl

goes_wrong : (wanted : Bool) (word : Text) (words : List Text) → is_plain word ≡ false → (wanted ≡ true) ⊎ (is_option_name word ≡ false)
    → goes wanted (word ∷ words) ≡ false
goes_wrong true word words plain (inl e) = rw plain refl
goes_wrong false word words plain (inl e) = absurd (cc)
goes_wrong true word words plain (inr e) = rw plain refl
goes_wrong false word words plain (inr e) = rw (plain, e) refl

-- the test stops at the word at place i
pub stops_at : {X : Type 0} (f : X → Text) (xs : List X) (i : ℕ) (x : X) (wanted : Bool) → i < length xs → x ≡ get_or xs i x
    → goes wanted (map f (drop i xs)) ≡ goes false (map f xs) → is_plain (f x) ≡ false → (wanted ≡ true) ⊎ (is_option_name (f x) ≡ false)
    → false ≡ is_some (parts_of (map f xs))
stops_at f xs i x wanted within at same plain wrong =
    sym (goes_wrong wanted (f x) (map f (drop (suc i) xs)) plain wrong)
    ∙ ap (λ y. goes wanted (f y ∷ map f (drop (suc i) xs))) at
    ∙ sym (ap (λ ys. goes wanted (map f ys)) (drop-cons xs i x within))
    ∙ same ∙ goes_is (map f xs)

-- and it passes all of them
pub passes_all : {X : Type 0} (f : X → Text) (xs : List X) (i : ℕ) (wanted : Bool) → length xs ≤ i
    → goes wanted (map f (drop i xs)) ≡ goes false (map f xs) → not wanted ≡ is_some (parts_of (map f xs))
passes_all f xs i wanted past same =
    sym (ap (λ ys. goes wanted (map f ys)) (drop_of_length-le xs past)) ∙ same ∙ goes_is (map f xs)
