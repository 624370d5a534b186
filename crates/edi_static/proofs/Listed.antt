-- The places of each name after a change at one spelling.
use Rattle.std.proofs.Common.{◌≡◌, ℕ, Bool, true, false, cond, List, [], Option, Some, None, Vec, Ordering, refl, sym, ap, subst, ◌∙◌, ⊎_elim}
use Rattle.std.proofs.lemmas.Bool.{cases_Bool, cond-true, cond-false}
use Rattle.std.proofs.lemmas.Map.Text.{is_eq-slice_cmp}
use Rattle.std.specs.Cmp.Lexicographic.{slice_cmp, bytes_decides, nat_list_eq_equiv, nat_list_cmp_total}
use Rattle.std.specs.Cmp.{eq_by_cmp_equiv}
use Rattle.std.specs.Ordering.{nat_cmp, is_eq, eq_by_cmp}
use Rattle.std.specs.Option.{option_map_or}
use Rattle.std.specs.Str.{bytes_eq}
use Rattle.std.specs.Map.{KeepsOthers}
use Rattle.std.specs.BTreeMap.{BTreeMap, get_by, UpdatesBy, is_at}
use Rattle.std.specs.Global.{Global}
use Rattle.edi_static.specs.declared.places.Places.{Places}
use Rattle.edi_static.specs.Waiting.{listed}

-- the order of spellings
abbrev pub spelling_cmp : Vec ℕ Global → Vec ℕ Global → Ordering
spelling_cmp x y = slice_cmp nat_cmp x.items y.items

-- how a name compares to a spelling
abbrev pub name_cmp : List ℕ → Vec ℕ Global → Ordering
name_cmp name spelling = slice_cmp nat_cmp name spelling.items

-- the list that is kept for a spelling
abbrev pub list_of : Option (Vec ℕ Global) → List ℕ
list_of list = option_map_or (λ places. places.items) list []

apart : (bs cs ks : List ℕ) → bytes_eq bs cs ≡ false → is_eq (slice_cmp nat_cmp bs ks) ≡ true → is_eq (slice_cmp nat_cmp cs ks) ≡ false
apart bs cs ks n y =
    is_eq-slice_cmp cs ks ∙ nat_list_eq_equiv.symm cs ks ∙ sym (nat_list_eq_equiv.congr bs ks cs (sym (is_eq-slice_cmp bs ks) ∙ y)) ∙ n

-- a change at the name bs leaves what other names have
others : {X : Type 0} (m n : BTreeMap (Vec ℕ Global) X) (bs cs : List ℕ) → KeepsOthers (eq_by_cmp spelling_cmp) (is_at (name_cmp bs)) m.entries n.entries
    → bytes_eq bs cs ≡ false → get_by (name_cmp cs) n ≡ get_by (name_cmp cs) m
unfolding KeepsOthers
others m n bs cs h e =
    h (is_at (name_cmp cs)) (λ x y. (eq_by_cmp_equiv nat_list_cmp_total).congr cs x.items y.items) (λ k. apart bs cs k.items e)

-- the list of one name has been changed by f
pub listed-change : (old new : Places) (bs : List ℕ) (list changed : Vec ℕ Global) (f : List ℕ → List ℕ)
    → get_by (name_cmp bs) old.lists ≡ Some list → UpdatesBy spelling_cmp (name_cmp bs) old.lists new.lists (Some changed) → changed.items ≡ f list.items
    → (q : List ℕ) → listed new q ≡ cond (bytes_eq bs q) (f (listed old q)) (listed old q)
listed-change old new bs list changed f was h e q =
    ⊎_elim
    (λ y. subst (λ l. listed new l ≡ f (listed old l)) ((bytes_decides bs q).0 y) (ap list_of h.1 ∙ e ∙ ap (λ o. f (list_of o)) (sym was))
    ∙ sym (cond-true (bytes_eq bs q) (f (listed old q)) (listed old q) y))
    (λ n. ap list_of (others old.lists new.lists bs q h.3 n) ∙ sym (cond-false (bytes_eq bs q) (f (listed old q)) (listed old q) n))
    (cases_Bool (bytes_eq bs q))

cond-same : {A : Type 0} (b : Bool) (x : A) → cond b x x ≡ x
cond-same true x = refl
cond-same false x = refl

-- the list of one name has been written back as it was
pub listed-same : (old new : Places) (bs : List ℕ) (list changed : Vec ℕ Global) → get_by (name_cmp bs) old.lists ≡ Some list
    → UpdatesBy spelling_cmp (name_cmp bs) old.lists new.lists (Some changed) → changed.items ≡ list.items → (q : List ℕ) → listed new q ≡ listed old q
listed-same old new bs list changed was h e q =
    listed-change old new bs list changed (λ l. l) was h e q ∙ cond-same (bytes_eq bs q) (listed old q)

-- one name has been given an empty list
pub listed-made : (old new : Places) (bs : List ℕ) (made : Vec ℕ Global) → get_by (name_cmp bs) old.lists ≡ None
    → UpdatesBy spelling_cmp (name_cmp bs) old.lists new.lists (Some made) → made.items ≡ [] → (q : List ℕ) → listed new q ≡ listed old q
listed-made old new bs made was h e q =
    ⊎_elim
    (λ y. subst (λ l. listed new l ≡ listed old l) ((bytes_decides bs q).0 y) (ap list_of h.1 ∙ e ∙ ap list_of (sym was)))
    (λ n. ap list_of (others old.lists new.lists bs q h.3 n))
    (cases_Bool (bytes_eq bs q))

-- the list of one name has been taken out
pub listed-taken : (old new : Places) (bs : List ℕ) → UpdatesBy spelling_cmp (name_cmp bs) old.lists new.lists None → (q : List ℕ) → listed new q
    ≡ cond (bytes_eq bs q) [] (listed old q)
listed-taken old new bs h q =
    ⊎_elim
    (λ y. subst (λ l. listed new l ≡ []) ((bytes_decides bs q).0 y) (ap list_of h.1) ∙ sym (cond-true (bytes_eq bs q) [] (listed old q) y))
    (λ n. ap list_of (others old.lists new.lists bs q h.3 n) ∙ sym (cond-false (bytes_eq bs q) [] (listed old q) n))
    (cases_Bool (bytes_eq bs q))
