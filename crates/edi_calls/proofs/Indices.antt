-- Places in the slots, and the blocks that the files take.
use Rattle.std.proofs.Common.{◌≡◌, ℕ, zero, suc, ◌+◌, ◌<◌, Bool, true, false, List, [], ◌∷◌, length, take, Option, Some, None, refl, sym, ap, ◌∙◌, arith}
use Rattle.std.specs.Prelude.{if◌then◌else◌, not, is_some, is_none, slice_index_or}
use Rattle.std.specs.Option.{option_map}
use Rattle.edi_calls.specs.State.{File, first_index, slot_at, blocks_in, blocks_taken}

-- the place of a slot that passes, where none before it does
pub first_index-at : (test : Option File → Bool) (slots : List (Option File)) (index : ℕ) (slot : Option File)
    → ((k : ℕ) → k < index → test (slot_at slots k) ≡ false) → index < length slots
    → slot ≡ slice_index_or slots index slot → test slot ≡ true → first_index test slots ≡ Some index
first_index-at test [] index slot before within is here = absurd (omega arith)
first_index-at test (first ∷ slots) zero slot before within is here =
    ap (λ b. if b then Some 0 else option_map suc (first_index test slots)) (ap test (sym is) ∙ here)
first_index-at test (first ∷ slots) (suc index) slot before within is here =
    let fails : test first ≡ false = before 0 (omega arith) in
    let later : first_index test slots ≡ Some index =
    first_index-at test slots index slot (λ k h. before (suc k) (omega arith)) (omega arith) is here in
    ap (λ b. if b then Some 0 else option_map suc (first_index test slots)) fails ∙ ap (option_map suc) later

-- no place, where no slot passes
pub first_index-none : (test : Option File → Bool) (slots : List (Option File))
    → ((k : ℕ) → k < length slots → test (slot_at slots k) ≡ false) → first_index test slots ≡ None
first_index-none test [] all = refl
first_index-none test (slot ∷ slots) all =
    let first : test slot ≡ false = all 0 (omega arith) in
    let later : first_index test slots ≡ None = first_index-none test slots (λ k h. all (suc k) (omega arith)) in
    ap (λ b. if b then Some 0 else option_map suc (first_index test slots)) first ∙ ap (option_map suc) later

-- what is known of a place that is found
pub record IsIndexOf (test : Option File → Bool) (slots : List (Option File)) (index : ℕ) : Type 0 where
  pub within : index < length slots
  pub passes : (d : Option File) → test (slice_index_or slots index d) ≡ true

index_front : (test : Option File → Bool) (slot : Option File) (slots : List (Option File)) (index : ℕ)
    → test slot ≡ true → index ≡ 0 → IsIndexOf test (slot ∷ slots) index
index_front test slot slots zero h e = record { within = omega arith; passes = λ d. h }
index_front test slot slots (suc index) h e = absurd (omega arith)

index_later : (test : Option File → Bool) (slot : Option File) (slots : List (Option File)) (k index : ℕ)
    → IsIndexOf test slots k → index ≡ suc k → IsIndexOf test (slot ∷ slots) index
index_later test slot slots k zero h e = absurd (omega arith)
index_later test slot slots k (suc index) h e =
    let same : index ≡ k = omega arith in
    record { within = omega (arith, h.within); passes = λ d. ap (λ n. test (slice_index_or slots n d)) same ∙ h.passes d }

pub first_index-found : (test : Option File → Bool) (slots : List (Option File)) (index : ℕ)
    → first_index test slots ≡ Some index → IsIndexOf test slots index
first_index-found test [] index h = absurd (cc)
first_index-found test (slot ∷ slots) index h =
    go (test slot) refl (first_index test slots) refl h (first_index-found test slots)
  where
    go : (b : Bool) → test slot ≡ b → (o : Option ℕ) → first_index test slots ≡ o
        → (if b then Some 0 else option_map suc o) ≡ Some index
        → ((k : ℕ) → first_index test slots ≡ Some k → IsIndexOf test slots k) → IsIndexOf test (slot ∷ slots) index
    go true e o q h rest = index_front test slot slots index e (cc)
    go false e None q h rest = absurd (cc)
    go false e (Some k) q h rest = index_later test slot slots k index (rest k q) (cc)

-- a test for a free slot
pub is_none-by : (slot : Option File) (b : Bool) → is_some slot ≡ not b → b ≡ true → is_none slot ≡ true
is_none-by None b e h = refl
is_none-by (Some file) true e h = absurd (cc)
is_none-by (Some file) false e h = absurd (cc)

-- one more slot
pub blocks_taken-more : (slots : List (Option File)) (i : ℕ) (slot : Option File) → i < length slots
    → slot ≡ slice_index_or slots i slot
    → blocks_taken (take (i + 1) slots) ≡ blocks_taken (take i slots) + blocks_in slot
blocks_taken-more [] i slot h is = absurd (omega arith)
blocks_taken-more (first ∷ slots) zero slot h is = ap (λ x. blocks_in x + 0) (sym is) ∙ omega arith
blocks_taken-more (first ∷ slots) (suc i) slot h is =
    let more : blocks_taken (take (i + 1) slots) ≡ blocks_taken (take i slots) + blocks_in slot =
    blocks_taken-more slots i slot (omega arith) is in
    let e : suc i + 1 ≡ suc (i + 1) = omega arith in
    rw e (omega arith)
