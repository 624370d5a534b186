-- The calls of a unit that fits are at most ten different ones of 1 to 10, as a code has to have them.
use Rattle.std.proofs.Common.{◌≡◌, ◌≢◌, ℕ, zero, suc, ◌+◌, ◌<◌, ◌≤◌, Bool, true, false, not, ◌&&◌, ◌||◌, ◌==◌, nat_le, eqb, List, [], ◌∷◌, ◌++◌, None}
use Rattle.std.proofs.Common.{length, AllPairs, slice_index, slice_index_or, refl, ap, ◌∙◌, arith, eq-eqb}
use Rattle.std.specs.List.{list_any}
use Rattle.std.proofs.lemmas.Bool.{false≢true, eqb-true, ne_eqb, le-leb}
use Rattle.std.proofs.lemmas.List.Folds.{list_any-append}
use Rattle.std.proofs.lemmas.Map.Made.{IsDistinct-from_AllPairs}
use Rattle.std.proofs.lemmas.Map.Steps.{length-le_from_distinct_below}
use Rattle.edi_unit.specs.Types.{Shape}
use Rattle.edi_unit.specs.Fits.{IsCall, accept, display, print, find, more, read, fresh, write, close, remove}
use Rattle.edi_unit.specs.Headings.{Formals}
use Rattle.edi_target.specs.Check.{numbers_fault, or_else, unless}
use Rattle.edi_target.specs.declared.code_fault.CodeFault.TheVariants as fault

-- each number of a list has this property
abbrev pub Every : (ℕ → Type 0) → List ℕ → Type 0
Every P [] = Unit {0}
Every P (n ∷ ns) = P n × Every P ns

pub every : (P : ℕ → Type 0) (ns : List ℕ) → ((i : ℕ) → i < length ns → P (slice_index ns i)) → Every P ns
every P [] h = tt
every P (n ∷ ns) h = (h 0 (omega arith), every P ns (λ i l. h (suc i) (omega (arith, l))))

pub is_number : (types : List Shape) (n : ℕ) (formals : Formals) → IsCall types n formals → (1 ≤ n) × (n ≤ 10)
is_number types n formals (accept e f) = (omega (arith, e), omega (arith, e))
is_number types n formals (display e f) = (omega (arith, e), omega (arith, e))
is_number types n formals (print e f) = (omega (arith, e), omega (arith, e))
is_number types n formals (find t e g f) = (omega (arith, e), omega (arith, e))
is_number types n formals (more e f) = (omega (arith, e), omega (arith, e))
is_number types n formals (read e f) = (omega (arith, e), omega (arith, e))
is_number types n formals (fresh e f) = (omega (arith, e), omega (arith, e))
is_number types n formals (write e f) = (omega (arith, e), omega (arith, e))
is_number types n formals (close t e g f) = (omega (arith, e), omega (arith, e))
is_number types n formals (remove t e g f) = (omega (arith, e), omega (arith, e))

abbrev pub Numbers : List ℕ → Type 0
Numbers ns = Every (λ n. (1 ≤ n) × (n ≤ 10)) ns

-- ---- at most ten

either_true : (b c : Bool) {P : Type 0} → (b ≡ true → P) → (c ≡ true → P) → (b || c) ≡ true → P
either_true true c f g h = f refl
either_true false c f g h = g h

few : (ns : List ℕ) → Numbers ns → (q : ℕ) → list_any (eqb q) ns ≡ true → q < 11
few [] all q h = absurd (false≢true h)
few (n ∷ ns) all q h =
    either_true (eqb q n) (list_any (eqb q) ns) (λ e. let same = eqb-true q n e in let low = all.0.1 in omega (arith, same, low)) (few ns all.1 q) h

few_and_none : (ns : List ℕ) → Numbers ns → (q : ℕ) → list_any (eqb q) (0 ∷ ns) ≡ true → q < 11
few_and_none ns all q h =
    either_true (eqb q 0) (list_any (eqb q) ns) (λ e. let same = eqb-true q 0 e in omega (arith, same)) (few ns all q) h

positive : (ns : List ℕ) → Numbers ns → (j d : ℕ) → j < length ns → 1 ≤ slice_index_or ns j d
positive [] all j d l = absurd (omega (arith, l))
positive (n ∷ ns) all zero d l = all.0.0
positive (n ∷ ns) all (suc j) d l = positive ns all.1 j d (omega (arith, l))

with_none : (ns : List ℕ) → Numbers ns → AllPairs (λ m n. m ≢ n) ns → AllPairs (λ m n. m ≢ n) (0 ∷ ns)
with_none ns all apart zero zero d l m = absurd (omega (arith, l))
with_none ns all apart zero (suc j) d l m = λ e. let some = positive ns all j d (omega (arith, m)) in absurd (omega (arith, some, e))
with_none ns all apart (suc i) zero d l m = absurd (omega (arith, l))
with_none ns all apart (suc i) (suc j) d l m = apart i j d (omega (arith, l)) (omega (arith, m))

pub at_most_ten : (ns : List ℕ) → Numbers ns → AllPairs (λ m n. m ≢ n) ns → length ns ≤ 10
at_most_ten ns all apart =
    let distinct = IsDistinct-from_AllPairs (λ a b. (eqb-true a b, eq-eqb a b)) (0 ∷ ns) (with_none ns all apart) in
    let long = length-le_from_distinct_below (0 ∷ ns) 11 distinct (few_and_none ns all) in
    omega (arith, long)

-- ---- no fault

-- none of the numbers stands before
abbrev New : List ℕ → List ℕ → Type 0
New before ns = Every (λ n. list_any (λ m. m == n) before ≡ false) ns

one_more : (before : List ℕ) (n : ℕ) (ns : List ℕ) → New before ns → Every (λ m. (n == m) ≡ false) ns → New (before ++ n ∷ []) ns
one_more before n [] g h = tt
one_more before n (m ∷ ns) g h =
    (list_any-append (λ k. k == m) before (n ∷ []) ∙ ap (λ b. b || ((n == m) || false)) g.0 ∙ ap (λ b. b || false) h.0, one_more before n ns g.1 h.1)

apart_from : (n : ℕ) (ns : List ℕ) → AllPairs (λ m n. m ≢ n) (n ∷ ns) → Every (λ m. (n == m) ≡ false) ns
apart_from n ns apart = every (λ m. (n == m) ≡ false) ns (λ i l. ne_eqb n (slice_index ns i) (apart 0 (suc i) 0 (omega arith) (omega (arith, l))))

pub numbers_free : (before : List ℕ) (at : ℕ) (ns : List ℕ) → Numbers ns → AllPairs (λ m n. m ≢ n) ns → New before ns → numbers_fault before at ns ≡ None
numbers_free before at [] all apart new = refl
numbers_free before at (n ∷ ns) all apart new =
    let one = le-leb 1 n all.0.0 in
    let ten = le-leb n 10 all.0.1 in
    let test : (nat_le 1 n && nat_le n 10 && not (list_any (λ m. m == n) before)) ≡ true =
    ap (λ b. b && nat_le n 10 && not (list_any (λ m. m == n) before)) one ∙ ap (λ b. b && not (list_any (λ m. m == n) before)) ten ∙ ap not new.0 in
    ap (λ b. or_else (unless b (fault.Header at n)) (numbers_fault (before ++ n ∷ []) (at + 1) ns)) test
    ∙ numbers_free (before ++ n ∷ []) (at + 1) ns all.1 (λ i j d l m. apart (suc i) (suc j) d (omega (arith, l)) (omega (arith, m)))
    (one_more before n ns new.1 (apart_from n ns apart))

pub nothing_before : (ns : List ℕ) → New [] ns
nothing_before [] = tt
nothing_before (n ∷ ns) = (refl, nothing_before ns)
