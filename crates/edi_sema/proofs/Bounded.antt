-- What a tree keeps of the marks that it spells: each is a symbol that the language spells, and they are at most 262,144. A
-- part of the tree is passed from the marks in front of it to those behind it.
use Rattle.std.proofs.Common.{◌≡◌, ℕ, ◌+◌, ◌≤◌, Bool, true, ◌||◌, ◌==◌, nat_le, List, [], ◌∷◌, length, ℤ, pos, negsuc, IsTrue, arith}
use Rattle.std.specs.Prelude.{int_le}
use Rattle.std.specs.List.{list_all}
use Rattle.std.proofs.Math.Bool.{Bool-set}
use Rattle.std.proofs.Math.Logic.{∥∥₁_elim}
use Rattle.std.proofs.Math.Nat.{le_trans}
use Rattle.std.proofs.lemmas.Bool.Decides.{nat_tests}
use Rattle.std.proofs.lemmas.List.Sums.{sum_by-cons}
use Rattle.edi_lex.specs.Bytes.{is_string_byte}
use Rattle.edi_lex.specs.Spelled.{is_spelled, are_spelled}
use Rattle.edi_lex.specs.Order.{size_of, extent}
use Rattle.edi_lex.specs.declared.symbol.Symbol.{Symbol}
use Rattle.edi_lex.specs.declared.symbol.Symbol.TheVariants as is
use Rattle.edi_lex.specs.declared.symbol.Mark.{Mark}
use Rattle.edi_lex.proofs.Runs.{both}
use Rattle.edi_tree.specs.Tree.{Program}
use Rattle.edi_tree.specs.Stands.{Spelled, StandAsMarks}
use Rattle.edi_tree.specs.Spelled.{spelled}
use Rattle.edi_tree.specs.Spells.{IsBounded}
use Rattle.edi_tree.proofs.Marks.{parts_stand}
use Rattle.edi_tree.proofs.Scans.{all_are_spelled}
use Rattle.edi_unit.specs.Types.{int, char, is_ordinal_of}
use Rattle.edi_static.specs.InRange.{AreCharacters}

-- ---- one symbol

pub numeral_in_range : (v : ℤ) → is_spelled (is.Numeral v) ≡ true → IsTrue (is_ordinal_of int v)
numeral_in_range (pos n) h = h
numeral_in_range (negsuc n) h = absurd (cc)

pub numeral_not_negative : (v : ℤ) → is_spelled (is.Numeral v) ≡ true → IsTrue (int_le (pos 0) v)
numeral_not_negative (pos n) h =
    let low : nat_le 0 n ≡ true = grind (arith, nat_tests) in
    low
numeral_not_negative (negsuc n) h = absurd (cc)

byte_in_range : (b : ℕ) → is_string_byte b ≡ true → IsTrue (is_ordinal_of char (pos b))
byte_in_range b h = grind (arith, nat_tests)

apostrophe_in_range : (b : ℕ) → (is_string_byte b || b == 39) ≡ true → IsTrue (is_ordinal_of char (pos b))
apostrophe_in_range b h = grind (arith, nat_tests)

bytes_in_range : (bs : List ℕ) → list_all is_string_byte bs ≡ true → AreCharacters bs
bytes_in_range [] h = tt {0}
bytes_in_range (b ∷ bs) h =
    let parts = both (is_string_byte b) (list_all is_string_byte bs) h in
    (byte_in_range b parts.0, bytes_in_range bs parts.1)

pub string_in_range : (text : List ℕ) → is_spelled (is.Chars text) ≡ true → AreCharacters text
string_in_range [] h = absurd (cc)
string_in_range (b ∷ []) h = (apostrophe_in_range b h, tt {0})
string_in_range (b ∷ c ∷ more) h = bytes_in_range (b ∷ c ∷ more) h

-- a symbol has a size
sized : (s : Symbol) → is_spelled s ≡ true → 1 ≤ size_of s
sized (is.Chars []) h = absurd (cc)
sized (is.Chars (b ∷ text)) h = omega arith
sized _ h = omega arith

-- ---- the marks of a tree

abbrev pub all_spelled : List Spelled → Bool
all_spelled ss = list_all (λ s. is_spelled s.symbol) ss

pub record Bounded (ss : List Spelled) : Type 0 where
  pub letters : all_spelled ss ≡ true
  pub few : length ss ≤ 262144

standing_few : (ss : List Spelled) (marks : List Mark) → StandAsMarks ss marks → are_spelled marks ≡ true → length ss ≤ extent marks
standing_few [] marks h e = omega arith
standing_few (s ∷ ss) [] h e = absurd h
standing_few (s ∷ ss) (m ∷ marks) h e =
    let parts = both (is_spelled m.symbol) (are_spelled marks) e in
    omega (arith, sum_by-cons (λ m. size_of m.symbol) m marks, sized m.symbol parts.0, standing_few ss marks h.1 parts.1)

spelled_letters : (tree : Program) → IsBounded tree → all_spelled (spelled tree) ≡ true
spelled_letters tree h = all_are_spelled (spelled tree) h.marks (parts_stand tree h.marks h.spells) h.is_bounded.spelled

spelled_few : (tree : Program) → IsBounded tree → nat_le (length (spelled tree)) 262144 ≡ true
spelled_few tree h =
    let few = le_trans (standing_few (spelled tree) h.marks (parts_stand tree h.marks h.spells) h.is_bounded.spelled) h.is_bounded.few in
    grind (arith, nat_tests, few)

-- a tree that spells marks that `Symbols` can hold
pub tree_bounded : (tree : Program) → ∥ IsBounded tree ∥₁ → Bounded (spelled tree)
tree_bounded tree is_bounded =
    let few : nat_le (length (spelled tree)) 262144 ≡ true = ∥∥₁_elim is_bounded (Bool-set _ _) (spelled_few tree) in
    record { letters = ∥∥₁_elim is_bounded (Bool-set _ _) (spelled_letters tree); few = grind (arith, nat_tests, few) }

pub first_of : (s : Spelled) (ss : List Spelled) → Bounded (s ∷ ss) → is_spelled s.symbol ≡ true
first_of s ss h = (both (is_spelled s.symbol) (all_spelled ss) h.letters).0

pub rest : {s : Spelled} {ss : List Spelled} → Bounded (s ∷ ss) → Bounded ss
rest {s = s} {ss = ss} h = record { letters = (both (is_spelled s.symbol) (all_spelled ss) h.letters).1; few = omega (arith, h.few) }

-- ---- a part of the tree

-- a part of at least n marks: what is true of it, and what stands behind it
pub record Passed (n : ℕ) (P : Type 0) (front behind : List Spelled) : Type 0 where
  pub part : P
  pub behind_it : Bounded behind
  pub fewer : n + length behind ≤ length front

pub nothing : {ss : List Spelled} → Bounded ss → Passed 0 (Unit {0}) ss ss
nothing h = record { part = tt; behind_it = h; fewer = omega arith }

-- a mark in front, and one behind
pub mark : {n : ℕ} {P : Type 0} {s : Spelled} {a b : List Spelled} → Passed n P a b → Passed 1 P (s ∷ a) b
mark x = record { part = x.part; behind_it = x.behind_it; fewer = omega (arith, x.fewer) }

pub then_mark : {n : ℕ} {P : Type 0} {s : Spelled} {a b : List Spelled} → Passed n P a (s ∷ b) → Passed n P a b
then_mark x = record { part = x.part; behind_it = rest x.behind_it; fewer = omega (arith, x.fewer) }

-- two parts, one behind the other
pub in_turn : {n m : ℕ} {P Q : Type 0} {a b c : List Spelled} → Passed n P a b → (Bounded b → Passed m Q b c) → Passed n (P × Q) a c
in_turn x next =
    let y = next x.behind_it in
    record { part = (x.part, y.part); behind_it = y.behind_it; fewer = omega (arith, x.fewer, y.fewer) }

-- a part behind another of which nothing is said
pub past : {n m : ℕ} {P Q : Type 0} {a b c : List Spelled} → Passed n P a b → (Bounded b → Passed m Q b c) → Passed m Q a c
past x next =
    let y = next x.behind_it in
    record { part = y.part; behind_it = y.behind_it; fewer = omega (arith, x.fewer, y.fewer) }

pub loose : {n : ℕ} {P : Type 0} {a b : List Spelled} → Passed n P a b → Passed 0 P a b
loose x = record { part = x.part; behind_it = x.behind_it; fewer = omega (arith, x.fewer) }
