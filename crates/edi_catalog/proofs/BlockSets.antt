-- Sets of blocks, one block or one file after another.
use Rattle.std.proofs.Common.{◌≡◌, ℕ, zero, suc, ◌+◌, ◌<◌, ◌≤◌, Bool, true, false, List, [], ◌∷◌, ◌++◌, drop, length, replicate, Option, Some, None, refl, ap, sym, ◌∙◌, arith}
use Rattle.std.proofs.Common.{ne_eqb}
use Rattle.std.proofs.Math.Seq.{drop-cons}
use Rattle.std.proofs.lemmas.Bool.{eqb-true, false≢true, eq-eqb}
use Rattle.std.proofs.lemmas.List.{length-set, get_or-set_same, get_or-set_other}
use Rattle.std.proofs.lemmas.List.Folds.{list_any-append}
use Rattle.std.specs.Prelude.{◌==◌, ◌||◌, slice_set, slice_index_or}
use Rattle.edi_image.specs.Records.{maps_of}
use Rattle.edi_image.specs.Rules.{is_in}
use Rattle.edi_image.specs.Stored.{StoredFile}
use Rattle.edi_catalog.specs.Plan.{used_in, blocks_used, one_or_none, Inserts}

-- ---- one block

same_or_other : (words : List Bool) (block n : ℕ) (e : Bool) → (block == n) ≡ e → n < length words
    → slice_index_or (slice_set words block true) n false ≡ ((e || false) || slice_index_or words n false)
same_or_other words block n true e l =
    let here : block ≡ n = eqb-true block n e in
    ap (λ k. slice_index_or (slice_set words k true) n false) here ∙ get_or-set_same words n true false l
same_or_other words block n false e l =
    get_or-set_other words block n true false (λ is. false≢true (sym e ∙ eq-eqb block n (sym is)))

pub inserts_one : (words : List Bool) (block : ℕ) → Inserts (block ∷ []) words (slice_set words block true)
inserts_one words block = record {
  as_many = length-set words block true;
  inserted = λ n l. same_or_other words block n (block == n) refl l;
}

-- a number that is too large for the set
pub inserts_past : (words : List Bool) (block long : ℕ) → length words ≡ long → long ≤ block → Inserts (block ∷ []) words words
inserts_past words block long e h = record {
  as_many = refl;
  inserted = λ n l. ap (λ b. (b || false) || slice_index_or words n false) (sym (ne_eqb block n (λ is. omega (arith, e, h, l, is))));
}

pub inserts_none : (words : List Bool) → Inserts [] words words
inserts_none words = record { as_many = refl; inserted = λ n l. refl }

-- ---- one behind another

in_turn : (a b c : Bool) → (b || (a || c)) ≡ ((a || b) || c)
in_turn true true c = refl
in_turn true false c = refl
in_turn false true c = refl
in_turn false false c = refl

pub inserts_then : (a b : List ℕ) (one two three : List Bool) → Inserts a one two → Inserts b two three → Inserts (a ++ b) one three
inserts_then a b one two three p q = record {
  as_many = q.as_many ∙ p.as_many;
  inserted =
      λ n l. q.inserted n (omega (arith, l, p.as_many))
      ∙ ap (λ t. is_in n b || t) (p.inserted n l)
      ∙ in_turn (is_in n a) (is_in n b) (slice_index_or one n false)
      ∙ ap (λ t. t || slice_index_or one n false) (sym (list_any-append (λ m. m == n) a b));
}

pub maps_are : (first : ℕ) (second : Option ℕ) → first ∷ one_or_none second ≡ maps_of first second
maps_are first None = refl
maps_are first (Some second) = refl

-- ---- loops

one_first : (e r o : Bool) → (r || ((e || false) || o)) ≡ ((e || r) || o)
one_first true true o = refl
one_first true false o = refl
one_first false true o = refl
one_first false false o = refl

pub block_inserted : (blocks : List ℕ) (i : ℕ) (first old new : List Bool) → i < length blocks → length old ≡ length first
    → Inserts (slice_index_or blocks i 0 ∷ []) old new → (n : ℕ) (whole : Bool) → n < length first
    → (is_in n (drop i blocks) || slice_index_or old n false) ≡ whole → (is_in n (drop (i + 1) blocks) || slice_index_or new n false) ≡ whole
block_inserted blocks i first old new within long p n whole l h =
    let next : suc i ≡ i + 1 = omega arith in
    let cut : drop i blocks ≡ slice_index_or blocks i 0 ∷ drop (i + 1) blocks = drop-cons blocks i 0 within
    ∙ ap (λ k. slice_index_or blocks i 0 ∷ drop k blocks) next in
    ap (λ t. is_in n (drop (i + 1) blocks) || t) (p.inserted n (omega (arith, l, long)))
    ∙ one_first (slice_index_or blocks i 0 == n) (is_in n (drop (i + 1) blocks)) (slice_index_or old n false)
    ∙ sym (ap (λ xs. is_in n xs || slice_index_or old n false) cut)
    ∙ h

pub file_inserted : (files : List (Option StoredFile)) (i : ℕ) (old new : List Bool) → i < length files → length old ≡ 4096
    → Inserts (used_in (slice_index_or files i None)) old new → (n : ℕ) (whole : Bool) → n < 4096
    → (is_in n (blocks_used (drop i files)) || slice_index_or old n false) ≡ whole
    → (is_in n (blocks_used (drop (i + 1) files)) || slice_index_or new n false) ≡ whole
file_inserted files i old new within long p n whole l h =
    let x = slice_index_or files i None in
    let next : suc i ≡ i + 1 = omega arith in
    let cut : drop i files ≡ x ∷ drop (i + 1) files = drop-cons files i None within ∙ ap (λ k. x ∷ drop k files) next in
    ap (λ t. is_in n (blocks_used (drop (i + 1) files)) || t) (p.inserted n (omega (arith, l, long)))
    ∙ in_turn (is_in n (used_in x)) (is_in n (blocks_used (drop (i + 1) files))) (slice_index_or old n false)
    ∙ ap (λ t. t || slice_index_or old n false) (sym (list_any-append (λ m. m == n) (used_in x) (blocks_used (drop (i + 1) files))))
    ∙ sym (ap (λ xs. is_in n (blocks_used xs) || slice_index_or old n false) cut)
    ∙ h

-- the set that has none
none_in : (size n : ℕ) → slice_index_or (replicate size false) n false ≡ false
none_in zero n = refl
none_in (suc size) zero = refl
none_in (suc size) (suc n) = none_in size n

or_nothing : (b : Bool) → (b || false) ≡ b
or_nothing true = refl
or_nothing false = refl

pub nothing_inserted : (words : List Bool) (size n : ℕ) (b : Bool) → words ≡ replicate size false → (b || slice_index_or words n false) ≡ b
nothing_inserted words size n b is = ap (λ ws. b || slice_index_or ws n false) is ∙ ap (λ t. b || t) (none_in size n) ∙ or_nothing b
