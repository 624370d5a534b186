-- The footprints of the branches, kept in the order of the blocks.
use Rattle.std.proofs.Common.{◌≡◌, ℕ, zero, suc, ◌<◌, ◌⊎◌, inl, inr, List, [], ◌∷◌, ◌++◌, map, length, Some, refl, sym, subst, ap, ◌∙◌, arith, get_or}
use Rattle.edi_unit.specs.declared.units.Block as code_block
use Rattle.edi_unit.specs.Need.{block_at}
use Rattle.edi_unit.specs.View.{block_of}
use Rattle.std.specs.Prelude.{slice_get}
use Rattle.edi_unit.specs.Tree.{ProgramUnit}
use Rattle.edi_disjoint.specs.declared.touching.Footprint.{Footprint}
use Rattle.edi_disjoint.specs.Found.{IsFootprint, IsFootprintAt}
use Rattle.edi_disjoint.specs.Footprints.{IsBranch}

none : (b : ℕ) → b < 0 → ⊥
none b h = omega (arith, h)

pub appended_before : {A : Type 0} (xs : List A) (x : A) (b : ℕ) → b < length xs → slice_get (xs ++ x ∷ []) b ≡ slice_get xs b
appended_before [] x b h = absurd (none b h)
appended_before (y ∷ xs) x zero h = refl
appended_before (y ∷ xs) x (suc b) h = appended_before xs x b (omega (arith, h))

pub appended_last : {A : Type 0} (xs : List A) (x : A) → slice_get (xs ++ x ∷ []) (length xs) ≡ Some x
appended_last [] x = refl
appended_last (y ∷ xs) x = appended_last xs x

-- of the first n blocks, those that are branches have their footprints at their numbers
abbrev pub Gathered : ProgramUnit → ℕ → List Footprint → Type 0
Gathered unit n items = (b : ℕ) → b < n → IsBranch unit b → IsFootprintAt unit b (slice_get items b)

before_or_at : (b n : ℕ) → b < suc n → (b < n) ⊎ (b ≡ n)
before_or_at zero zero h = inr refl
before_or_at zero (suc n) h = inl (omega arith)
before_or_at (suc b) zero h = absurd (none b (omega (arith, h)))
before_or_at (suc b) (suc n) h = elim (before_or_at b n (omega (arith, h))) [ inl l ↦ inl (omega (arith, l)) | inr e ↦ inr (ap suc e) ]

pub one_more : (unit : ProgramUnit) (n : ℕ) (xs : List Footprint) (x : Footprint) → length xs ≡ n → Gathered unit n xs
    → (IsBranch unit n → IsFootprint unit n x) → Gathered unit (suc n) (xs ++ x ∷ [])
one_more unit n xs x count all new b h is = go (before_or_at b n h)
  where
    go : (b < n) ⊎ (b ≡ n) → IsFootprintAt unit b (slice_get (xs ++ x ∷ []) b)
    go (inl l) = subst (IsFootprintAt unit b) (sym (appended_before xs x b (omega (arith, l, count)))) (all b l is)
    go (inr e) = subst (λ k. IsFootprintAt unit k (slice_get (xs ++ x ∷ []) k)) (sym e)
        (subst (IsFootprintAt unit n) (sym (ap (slice_get (xs ++ x ∷ [])) (sym count) ∙ appended_last xs x)) (new (subst (IsBranch unit) e is)))

-- a block of the code as the one of the unit with its number
pub read_block : (bs : List code_block.Block) (i : ℕ) (b : code_block.Block) → i < length bs → b ≡ get_or bs i b → block_of b ≡ block_at (map block_of bs) i
read_block [] i b h e = absurd (none i h)
read_block (x ∷ bs) zero b h e = ap block_of e
read_block (x ∷ bs) (suc i) b h e = read_block bs i b (omega (arith, h)) e
