-- Lemmas on tables of types: the size of a type from the sizes of the types that it names, and what a declaration keeps.
use Rattle.std.proofs.Common.{◌≡◌, ℕ, zero, suc, ◌+◌, ◌-◌, ◌*◌, ◌^◌, ◌<◌, ◌≤◌, List, [], ◌∷◌, ◌++◌, length, get_or, take, drop, drop-cons, refl, sym, ap}
use Rattle.std.proofs.Common.{◌∙◌, subst, arith, inl, inr, length-append}
use Rattle.std.specs.Prelude.{sum_by, All, IfSome, slice_get}
use Rattle.std.proofs.lemmas.Bool.{cases_eq}
use Rattle.std.proofs.lemmas.List.Sums.{sum_by-cons}
use Rattle.std.proofs.lemmas.List.{take-append-drop, take-append-le, length-take, get_or_default}
use Rattle.std.proofs.Math.ListN.{get_or-append, get_or-eq_default}
use Rattle.std.proofs.Math.Seq.{get_or-append_seam, take-append_seam}
use Rattle.edi_unit.proofs.Entries.{length-entries, entries-append, entries-before, entries-at}
use Rattle.edi_unit.specs.Types.{Shape, int, char, bool, enumeration, record_of, array_of, set_of, shape_at, shape_size, element_count, size}
use Rattle.edi_unit.specs.TypeTables.{named_types}
use Rattle.edi_unit.specs.Types.{type_sizes, greatest_size, field_type, fields_of}
use Rattle.edi_unit.specs.TypeTables.{IsDeclarable, AreDeclared, IsTypeTable}

pub length-type_sizes : (types : List Shape) → length (type_sizes types) ≡ length types
length-type_sizes types = length-entries shape_size 0 [] types ∙ omega arith

pub size-before : (types more : List Shape) (t : ℕ) → t < length types → size (types ++ more) t ≡ size types t
unfolding size
size-before types more t before = entries-before shape_size 0 types more t before

-- the size of a type is that of its shape, from the sizes of the types before it
pub size-at : (types : List Shape) (s : Shape) (more : List Shape) → size (types ++ s ∷ more) (length types) ≡ shape_size (size types) s
unfolding size
size-at types s more = entries-at shape_size 0 types s more

-- the table before a type, the type, and the rest
pub types-split : (types : List Shape) (t : ℕ) → t < length types → types ≡ take t types ++ shape_at types t ∷ drop (suc t) types
types-split types t known = sym (take-append-drop t types) ∙ ap (λ l. take t types ++ l) (drop-cons types t int known)

-- the size of a shape rests on the sizes of the types that it names
sum_by-same : (f g : ℕ → ℕ) (n : ℕ) (ts : List ℕ) → All (λ t. t < n) ts → ((t : ℕ) → t < n → f t ≡ g t) → sum_by f ts ≡ sum_by g ts
sum_by-same f g n [] below same = refl
sum_by-same f g n (t ∷ ts) below same =
    sum_by-cons f t ts ∙ ap (λ k. k + sum_by f ts) (same t (below 0 0 (omega arith)))
    ∙ ap (λ k. g t + k) (sum_by-same f g n ts (λ k d h. below (suc k) d (omega arith)) same)
    ∙ sym (sum_by-cons g t ts)

pub shape_size-same : (f g : ℕ → ℕ) (n : ℕ) (s : Shape) → All (λ t. t < n) (named_types s) → ((t : ℕ) → t < n → f t ≡ g t) → shape_size f s ≡ shape_size g s
shape_size-same f g n int below same = refl
shape_size-same f g n char below same = refl
shape_size-same f g n bool below same = refl
shape_size-same f g n (enumeration k) below same = refl
shape_size-same f g n (record_of fs) below same = sum_by-same f g n fs below same
shape_size-same f g n (array_of i lo hi e) below same = ap (λ k. element_count lo hi * k) (same e (below 1 0 (omega arith)))
shape_size-same f g n (set_of b) below same = refl

pub length-before : (types : List Shape) (t : ℕ) → t < length types → length (take t types) ≡ t
length-before types t known = omega (arith, length-take t types)

-- the size of each type of a table is that of its shape, from the sizes of the table
pub size-is : (types : List Shape) (t : ℕ) → IsTypeTable types → t < length types → size types t ≡ shape_size (size types) (shape_at types t)
size-is types t table known =
    let before = take t types in
    let s = shape_at types t in
    let long = length-before types t known in
    let split = types-split types t known in
    ap (λ l. size l t) split
    ∙ ap (λ n. size (before ++ s ∷ drop (suc t) types) n) (sym long)
    ∙ size-at before s (drop (suc t) types)
    ∙ shape_size-same (size before) (size types) (length before) s (table.declared t known).known
    (λ u below. sym (ap (λ l. size l u) split ∙ size-before before (s ∷ drop (suc t) types) u below))

-- no type of a table takes more than 65,535 words
pub size-small : (types : List Shape) (t : ℕ) → IsTypeTable types → t < length types → size types t ≤ greatest_size
size-small types t table known =
    let before = take t types in
    let s = shape_at types t in
    let at : size types t ≡ shape_size (size before) s =
    ap (λ l. size l t) (types-split types t known)
    ∙ ap (λ n. size (before ++ s ∷ drop (suc t) types) n) (sym (length-before types t known))
    ∙ size-at before s (drop (suc t) types) in
    omega (arith, at, (table.declared t known).small)

-- ---- a declaration

shape_at-before : (types : List Shape) (s : Shape) (t : ℕ) → t < length types → shape_at (types ++ s ∷ []) t ≡ shape_at types t
shape_at-before types s t known = get_or-append types (s ∷ []) int t known

pub declared-push : (types : List Shape) (s : Shape) → AreDeclared types → IsDeclarable types s → AreDeclared (types ++ s ∷ [])
declared-push types s old new t known =
    elim (cases_eq t (length types)) [
      | inl last ↦
          let P : List Shape → Shape → Type 0 = λ l x. IsDeclarable l x in
          subst (λ n. P (take n (types ++ s ∷ [])) (shape_at (types ++ s ∷ []) n)) (sym last)
          (subst (λ l. P l (shape_at (types ++ s ∷ []) (length types))) (sym (take-append_seam types (s ∷ [])))
          (subst (λ x. P types x) (sym (get_or-append_seam types s [] int)) new))
      | inr other ↦
          let before : t < length types = omega (arith, length-append types (s ∷ [])) in
          let P : List Shape → Shape → Type 0 = λ l x. IsDeclarable l x in
          subst (λ l. P l (shape_at (types ++ s ∷ []) t)) (sym (take-append-le t types (s ∷ []) (omega arith)))
          (subst (λ x. P (take t types) x) (sym (shape_at-before types s t before)) (old t before))
    ]

pub table-push : (types : List Shape) (s : Shape) → IsTypeTable types → IsDeclarable types s → length types < 2 ^ 32 - 1 → IsTypeTable (types ++ s ∷ [])
table-push types s table new room = record {
  standard = take-append-le 3 types (s ∷ []) table.three ∙ table.standard;
  three = omega (arith, length-append types (s ∷ []), table.three);
  declared = declared-push types s table.declared new;
  bounded = omega (arith, length-append types (s ∷ []));
}

-- ---- a table that is kept as a list of shapes and a list of sizes

pub named_known : (types : List Shape) (s : Shape) (kept : List ℕ) → kept ≡ type_sizes types → IsDeclarable types s → All (λ t. t < length kept) (named_types s)
named_known types s kept same new = λ k d h. let known = new.known k d h in let long = ap length same ∙ length-type_sizes types in omega (arith, known, long)

pub small_kept : (types : List Shape) (s : Shape) (kept : List ℕ) → kept ≡ type_sizes types → IsDeclarable types s → shape_size (λ t. get_or kept t 0) s ≤
    greatest_size
unfolding size
small_kept types s kept same new = subst (λ l. shape_size (λ t. get_or l t 0) s ≤ greatest_size) (sym same) new.small

sizes-push : (types : List Shape) (s : Shape) → type_sizes (types ++ s ∷ []) ≡ type_sizes types ++ shape_size (λ t. get_or (type_sizes types) t 0) s ∷ []
sizes-push types s = entries-append shape_size 0 [] types (s ∷ [])

-- the lists after a declaration
pub table_kept : (types next : List Shape) (s : Shape) (kept longer : List ℕ) (n : ℕ) → kept ≡ type_sizes types → IsTypeTable types → IsDeclarable types s
    → length types < 2 ^ 32 - 1 → n ≡ shape_size (λ t. get_or kept t 0) s → longer ≡ kept ++ n ∷ [] → next ≡ types ++ s ∷ [] → (longer ≡ type_sizes next)
    × IsTypeTable next
table_kept types next s kept longer n same table new room count long more = (
  long ∙ ap (λ k. kept ++ k ∷ []) count ∙ ap (λ l. l ++ shape_size (λ t. get_or l t 0) s ∷ []) same ∙ sym (sizes-push types s) ∙ sym (ap type_sizes more),
  subst IsTypeTable (sym more) (table-push types s table new room),
)

-- the entry of a type in the list of sizes
pub size_kept : (types : List Shape) (kept : List ℕ) (t x : ℕ) → kept ≡ type_sizes types → t < length types → x ≡ get_or kept t x → x ≡ size types t
unfolding size
size_kept types kept t x same known read =
    let long = ap length same ∙ length-type_sizes types in
    read ∙ get_or_default kept t x 0 (omega (arith, known, long)) ∙ ap (λ l. get_or l t 0) same

-- the type of a field is one of the table
field_known_at : (n : ℕ) (s : Shape) (i : ℕ) → All (λ t. t < n) (named_types s) → IfSome (slice_get (fields_of s) i) (λ t. t < n)
field_known_at n int i below = tt
field_known_at n char i below = tt
field_known_at n bool i below = tt
field_known_at n (enumeration k) i below = tt
field_known_at n (record_of fs) i below = each fs i below
  where
    each : (fs : List ℕ) (i : ℕ) → All (λ t. t < n) fs → IfSome (slice_get fs i) (λ t. t < n)
    each [] i below = tt
    each (t ∷ fs) zero below = below 0 0 (omega arith)
    each (t ∷ fs) (suc i) below = each fs i (λ k d h. below (suc k) d (omega arith))
field_known_at n (array_of k lo hi e) i below = tt
field_known_at n (set_of b) i below = tt

pub field_known : (types : List Shape) (t i : ℕ) → IsTypeTable types → t < length types → IfSome (field_type types t i) (λ f. f < length types)
field_known types t i table known =
    field_known_at (length types) (shape_at types t) i
    (λ k d h. let below = (table.declared t known).known k d h in let long = length-before types t known in omega (arith, below, long, known))

-- a number that is not in the table has size 0
pub size_unknown : (types : List Shape) (t : ℕ) → length types ≤ t → 0 ≡ size types t
unfolding size
size_unknown types t past = sym (get_or-eq_default (type_sizes types) 0 (omega (arith, length-type_sizes types)))
