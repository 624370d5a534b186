-- Counts of blocks, and the `when`s that are put behind others.
use Rattle.std.proofs.Common.{◌≡◌, ℕ, zero, suc, ◌+◌, ◌<◌, ◌≤◌, ◌==◌, Bool, true, false, if◌then◌else◌, List, [], ◌∷◌, ◌++◌, length, take, get_or, refl, ap}
use Rattle.std.proofs.Common.{sym, ◌∙◌, arith}
use Rattle.std.proofs.Math.ListN.{drop_of_length-le}
use Rattle.std.proofs.Math.Seq.{take-suc}
use Rattle.std.proofs.lemmas.Bool.{false≢true, eqb-true, eq-eqb}
use Rattle.std.proofs.lemmas.List.{length-append, take-append-drop, get_or-set_same, get_or-set_other, append_assoc, append-nil}
use Rattle.std.proofs.lemmas.List.Elements.{filter-append}
use Rattle.std.specs.Prelude.{filter, replicate, slice_index_or, slice_set}
use Rattle.edi_sights.specs.declared.awaits.Await.{Await}
use Rattle.edi_sights.specs.declared.answer.Sight.{Sight}
use Rattle.edi_sights.specs.Sights.{count_in, sight_behind, sights_on}

-- ---- a list of counts

zeros : (n b : ℕ) → slice_index_or (replicate n zero) b zero ≡ zero
zeros zero b = refl
zeros (suc n) zero = refl
zeros (suc n) (suc b) = zeros n b

padded : (xs : List ℕ) (n b : ℕ) → slice_index_or (xs ++ replicate n zero) b zero ≡ slice_index_or xs b zero
padded [] n b = zeros n b
padded (x ∷ xs) n zero = refl
padded (x ∷ xs) n (suc b) = padded xs n b

all_taken : (xs : List ℕ) (n : ℕ) → length xs ≤ n → take n xs ≡ xs
all_taken xs n le = sym (append-nil (take n xs)) ∙ (ap (λ ys. take n xs ++ ys) (sym (drop_of_length-le xs le)) ∙ take-append-drop n xs)

-- more room changes no count
pub roomy : (xs ys : List ℕ) (n k : ℕ) → length xs ≤ n → ys ≡ take n xs ++ replicate k zero → (b : ℕ) → slice_index_or ys b 0 ≡ slice_index_or xs b 0
roomy xs ys n k le e b =
    ap (λ zs. slice_index_or zs b zero) (e ∙ ap (λ zs. zs ++ replicate k zero) (all_taken xs n le)) ∙ padded xs k b

set_case : (same : Bool) (xs : List ℕ) (i b y : ℕ) → i < length xs → (i == b) ≡ same → slice_index_or (slice_set xs i y) b zero
    ≡ (if same then y else slice_index_or xs b zero)
set_case true xs i b y lt e = ap (λ b. slice_index_or (slice_set xs i y) b zero) (sym (eqb-true i b e)) ∙ get_or-set_same xs i y zero lt
set_case false xs i b y lt e = get_or-set_other xs i b y zero (λ same. false≢true (sym e ∙ eq-eqb i b (sym same)))

set_one : (xs : List ℕ) (i b y : ℕ) → i < length xs → slice_index_or (slice_set xs i y) b 0 ≡ (if i == b then y else slice_index_or xs b 0)
set_one xs i b y lt = set_case (i == b) xs i b y lt refl

one_more : (same : Bool) (c m o : ℕ) → (same ≡ true → c ≡ o) → m ≡ o → (if same then c + 1 else m) ≡ (if same then o + 1 else o)
one_more true c m o h e = ap (λ n. n + 1) (h refl)
one_more false c m o h e = e

pub counted_one : (xs old : List ℕ) (i c : ℕ) → ((b : ℕ) → slice_index_or xs b 0 ≡ slice_index_or old b 0) → i < length xs → c ≡ slice_index_or xs i 0 →
    (b : ℕ) → slice_index_or (slice_set xs i (c + 1)) b 0 ≡ (if i == b then slice_index_or old b 0 + 1 else slice_index_or old b 0)
counted_one xs old i c h lt e b =
    set_one xs i b (c + 1) lt
    ∙ one_more (i == b) c (slice_index_or xs b 0) (slice_index_or old b 0) (λ same. e ∙ (h i ∙ ap (λ b. slice_index_or old b 0) (grind (arith, same)))) (h b)

-- ---- counts of `when`s

last_counted : (same : Bool) (n : ℕ) (a : Await) → n + length (if same then a ∷ [] else []) ≡ (if same then n + 1 else n)
last_counted true n a = refl
last_counted false n a = omega arith

pub count_pushed : (b : ℕ) (awaits : List Await) (a : Await) → count_in b (awaits ++ a ∷ [])
    ≡ (if a.block == b then count_in b awaits + 1 else count_in b awaits)
count_pushed b awaits a =
    ap length (filter-append (λ a. a.block == b) awaits (a ∷ []))
    ∙ (length-append (filter (λ a. a.block == b) awaits) (filter (λ a. a.block == b) (a ∷ []))
    ∙ last_counted (a.block == b) (count_in b awaits) a)

-- the first of them, with one more
pub taken : {A : Type 0} (xs : List A) (i : ℕ) (x : A) → i < length xs → x ≡ get_or xs i x → take (i + 1) xs ≡ take i xs ++ x ∷ []
taken xs i x lt e = let next : i + 1 ≡ suc i = omega arith in ap (λ n. take n xs) next ∙ (take-suc xs i x lt ∙ ap (λ x. take i xs ++ x ∷ []) (sym e))

pub still_counted : (old new : List ℕ) (before after : List Await) (a : Await) → ((b : ℕ) → slice_index_or old b 0 ≡ count_in b before) →
    ((b : ℕ) → slice_index_or new b 0 ≡ (if a.block == b then slice_index_or old b 0 + 1 else slice_index_or old b 0)) → after ≡ before ++ a ∷ [] →
    (b : ℕ) → slice_index_or new b 0 ≡ count_in b after
still_counted old new before after a h more e b =
    more b ∙ (ap (λ n. if a.block == b then n + 1 else n) (h b) ∙ (sym (count_pushed b before a) ∙ ap (count_in b) (sym e)))

-- ---- the `when`s of a line

pub sights_next : (line : ℕ) (before after rest xs : List Await) (a : Await) (sights more whole : List Sight) (sight : Sight) →
    sights ++ sights_on line before rest ≡ whole → rest ≡ a ∷ xs → after ≡ before ++ a ∷ [] → sight ≡ sight_behind before a →
    more ≡ sights ++ (if a.line == line then sight ∷ [] else []) → more ++ sights_on line after xs ≡ whole
sights_next line before after rest xs a sights more whole sight h r f e m =
    ap (λ ms. ms ++ sights_on line after xs) m
    ∙ (ap (λ after. (sights ++ (if a.line == line then sight ∷ [] else [])) ++ sights_on line after xs) f
    ∙ (ap (λ sight. (sights ++ (if a.line == line then sight ∷ [] else [])) ++ sights_on line (before ++ a ∷ []) xs) e
    ∙ (append_assoc sights (if a.line == line then sight_behind before a ∷ [] else []) (sights_on line (before ++ a ∷ []) xs)
    ∙ (ap (λ rest. sights ++ sights_on line before rest) (sym r) ∙ h))))

pub sights_done : (line : ℕ) (before rest : List Await) (sights whole : List Sight) → sights ++ sights_on line before rest ≡ whole → rest ≡ [] → sights ≡ whole
sights_done line before rest sights whole h e = sym (append-nil sights) ∙ (ap (λ rest. sights ++ sights_on line before rest) (sym e) ∙ h)
