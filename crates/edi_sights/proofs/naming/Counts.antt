-- Counts of the variables of blocks and of the constants of types, where more is named.
use Rattle.std.proofs.Common.{◌≡◌, ℕ, zero, suc, ◌+◌, Bool, true, false, ◌==◌, if◌then◌else◌, List, [], ◌∷◌, ◌++◌, length, map, get_or, refl, sym, ap, ◌∙◌}
use Rattle.std.proofs.Common.{arith, length-append}
use Rattle.std.proofs.Math.ListN.{get_or-map}
use Rattle.std.proofs.Math.Seq.{map-set_same}
use Rattle.std.proofs.lemmas.Bool.{eqb-true}
use Rattle.std.proofs.lemmas.List.{length-map, map-append, map-set}
use Rattle.std.specs.Prelude.{slice_set, option_to_list}
use Rattle.edi_unit.specs.declared.units.Parameter.TheVariants as slot
use Rattle.edi_unit.specs.Tree.{Block}
use Rattle.edi_unit.specs.Need.{block_at, no_block, slots}
use Rattle.edi_static.specs.Environment.{with_variable}
use Rattle.edi_sights.specs.named.Naming.{Named, named_at, nameless, more_variables, renamed}
use Rattle.edi_sights.specs.named.Laws.{slot_count, variable_count}

-- ---- more at one place of a list of counts

abbrev pub raised : (n k : ℕ) → List ℕ → List ℕ
raised n k counts = slice_set counts n (get_or counts n 0 + k)

pub raised_none : (n : ℕ) (counts : List ℕ) → raised n 0 counts ≡ counts
raised_none n [] = refl
raised_none zero (c ∷ counts) = ap (λ m. m ∷ counts) (omega arith)
raised_none (suc n) (c ∷ counts) = ap (λ l. c ∷ l) (raised_none n counts)

pub raised_twice : (n a b : ℕ) (counts : List ℕ) → raised n b (raised n a counts) ≡ raised n (a + b) counts
raised_twice n a b [] = refl
raised_twice zero a b (c ∷ counts) = ap (λ m. m ∷ counts) (omega arith)
raised_twice (suc n) a b (c ∷ counts) = ap (λ l. c ∷ l) (raised_twice n a b counts)

-- ---- blocks

more_slots : (of : ℕ) (b : Block) → slot_count (with_variable of b) ≡ slot_count b + 1
more_slots of b =
    omega (
      arith,
      length-append (map slot.Value (option_to_list b.result)) (b.parameters ++ map slot.Value (b.variables ++ of ∷ [])),
      length-append b.parameters (map slot.Value (b.variables ++ of ∷ [])),
      length-map (b.variables ++ of ∷ []) slot.Value,
      length-append b.variables (of ∷ []),
      length-append (map slot.Value (option_to_list b.result)) (b.parameters ++ map slot.Value b.variables),
      length-append b.parameters (map slot.Value b.variables),
      length-map b.variables slot.Value,
    )

pub variable_raised : (blocks : List Block) (n of : ℕ)
    → map slot_count (slice_set blocks n (with_variable of (block_at blocks n))) ≡ raised n 1 (map slot_count blocks)
variable_raised blocks n of =
    map-set slot_count blocks n (with_variable of (block_at blocks n))
    ∙ ap (slice_set (map slot_count blocks) n)
    (more_slots of (block_at blocks n) ∙ ap (λ k. k + 1) (sym (get_or-map slot_count blocks n no_block)))

pub names_raised : (blocks : List Named) (n : ℕ) (names : List (List ℕ))
    → map variable_count (slice_set blocks n (more_variables names (named_at blocks n))) ≡ raised n (length names) (map variable_count blocks)
names_raised blocks n names =
    map-set variable_count blocks n (more_variables names (named_at blocks n))
    ∙ ap (slice_set (map variable_count blocks) n)
    (length-append (named_at blocks n).variables names ∙ ap (λ k. k + length names) (sym (get_or-map variable_count blocks n nameless)))

renamed_count : (names : List (List ℕ)) (b : Named) → variable_count (renamed names b) ≡ variable_count b
renamed_count names b = go (length names == length b.variables) refl
  where
    go : (t : Bool) → (length names == length b.variables) ≡ t → variable_count (if t then record b { variables = names } else b) ≡ variable_count b
    go true e = eqb-true (length names) (length b.variables) e
    go false e = refl

pub renamed_same : (blocks : List Named) (n : ℕ) (names : List (List ℕ))
    → map variable_count (slice_set blocks n (renamed names (named_at blocks n))) ≡ map variable_count blocks
renamed_same blocks n names = map-set_same variable_count blocks n _ nameless (renamed_count names (named_at blocks n))

-- a block that changes, but not in its slots
pub slots_same : (blocks : List Block) (n : ℕ) (block : Block) → slots block ≡ slots (block_at blocks n)
    → map slot_count (slice_set blocks n block) ≡ map slot_count blocks
slots_same blocks n block e = map-set_same slot_count blocks n block no_block (ap length e)

-- one more at the end
pub one_more : {A B : Type 0} (f : A → ℕ) (g : B → ℕ) (xs : List A) (x : A) (ys : List B) (y : B) → map f xs ≡ map g ys → f x ≡ g y →
    map f (xs ++ x ∷ []) ≡ map g (ys ++ y ∷ [])
one_more f g xs x ys y e last =
    map-append f xs (x ∷ []) ∙ (ap (λ l. l ++ f x ∷ []) e ∙ (ap (λ n. map g ys ++ n ∷ []) last ∙ sym (map-append g ys (y ∷ []))))

-- lists with the same counts are of one length
pub as_many : {A B : Type 0} (f : A → ℕ) (g : B → ℕ) (xs : List A) (ys : List B) → map f xs ≡ map g ys → length xs ≡ length ys
as_many f g xs ys e = sym (length-map xs f) ∙ (ap length e ∙ length-map ys g)
