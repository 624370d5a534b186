-- Single changes of a list of lines, what they do to its size, and what takes them back.
use Rattle.std.proofs.Common.{◌≡◌, ℕ, suc, zero, ◌+◌, ◌-◌, ◌<◌, ◌≤◌, List, [], ◌∷◌, length, refl, sym, ◌∙◌, ap, arith, get_or, set, Vec}
use Rattle.std.specs.Prelude.{insert, remove, slice_get}
use Rattle.std.proofs.Common.{Some, None, Bool, true, false, inl, inr}
use Rattle.std.proofs.lemmas.Bool.{le-leb}
use Rattle.std.proofs.lemmas.Bool.Decides.{leb_tells}
use Rattle.std.proofs.lemmas.List.Sums.{sum_by-insert, sum_by-set, sum_by-remove, get_or-le-sum_by}
use Rattle.edi_edit.specs.declared.EditEnd.TheVariants.{NoLine, Full}
use Rattle.edi_edit.specs.declared.TheConstants.{ROOM}
use Rattle.edi_edit.specs.Lines.{size_of_lines, line_numbered}
use Rattle.edi_edit.specs.Editing.{refusal, missing, is_index}
use Rattle.std.proofs.lemmas.List.{map-set, set-set, set-get_or, length-map, get_or-map}
use Rattle.edi_edit.specs.Steps.{plain}

pub remove-insert : {X : Type 0} → (xs : List X) (i : ℕ) (x : X) → i ≤ length xs → remove (insert xs i x) i ≡ xs
remove-insert xs zero x le = refl
remove-insert [] (suc i) x le = absurd (omega arith)
remove-insert (y ∷ xs) (suc i) x le = ap (λ ys. y ∷ ys) (remove-insert xs i x (omega arith))

pub insert-remove : {X : Type 0} → (xs : List X) (i : ℕ) (d : X) → i < length xs → insert (remove xs i) i (get_or xs i d) ≡ xs
insert-remove [] i d lt = absurd (omega arith)
insert-remove (y ∷ xs) zero d lt = refl
insert-remove (y ∷ xs) (suc i) d lt = ap (λ ys. y ∷ ys) (insert-remove xs i d (omega arith))

pub set-back : {X : Type 0} → (xs : List X) (i : ℕ) (x d : X) → set (set xs i x) i (get_or xs i d) ≡ xs
set-back xs i x d = set-set xs i x (get_or xs i d) ∙ set-get_or xs i d

-- the lines of a changed list
pub plain-insert : {A : Type 0} → (lines : List (Vec ℕ A)) (i : ℕ) (line : Vec ℕ A) → plain (insert lines i line) ≡ insert (plain lines) i line.items
plain-insert [] zero line = refl
plain-insert [] (suc i) line = refl
plain-insert (x ∷ lines) zero line = refl
plain-insert (x ∷ lines) (suc i) line = ap (λ ys. x.items ∷ ys) (plain-insert lines i line)

pub plain-remove : {A : Type 0} → (lines : List (Vec ℕ A)) (i : ℕ) → plain (remove lines i) ≡ remove (plain lines) i
plain-remove [] zero = refl
plain-remove [] (suc i) = refl
plain-remove (x ∷ lines) zero = refl
plain-remove (x ∷ lines) (suc i) = ap (λ ys. x.items ∷ ys) (plain-remove lines i)

pub plain-set : {A : Type 0} → (lines : List (Vec ℕ A)) (i : ℕ) (line : Vec ℕ A) → plain (set lines i line) ≡ set (plain lines) i line.items
plain-set lines i line = map-set (λ v. v.items) lines i line

-- how many lines there are, and one of them
pub counted : {A B : Type 0} → (lines : Vec (Vec ℕ A) B) → lines.len ≡ length (plain lines.items)
counted lines = omega (arith, lines.ok, length-map lines.items (λ line. line.items))

pub line_is : {A : Type 0} → (lines : List (Vec ℕ A)) (i : ℕ) (line : Vec ℕ A) → i < length lines → line ≡ get_or lines i line
    → line.items ≡ get_or (plain lines) i []
line_is lines i line lt is = ap (λ v. v.items) is ∙ sym (get_or-map (λ v. v.items) lines i line [] lt)

get_line : {A : Type 0} → (lines : List (Vec ℕ A)) (i : ℕ) (line : Vec ℕ A) → i < length lines → line ≡ get_or lines i line
    → Some line.items ≡ slice_get (plain lines) i
get_line [] i line lt is = absurd (omega arith)
get_line (x ∷ lines) zero line lt is = ap (λ v. Some v.items) is
get_line (x ∷ lines) (suc i) line lt is = get_line lines i line (omega arith) is

pub line_at_is : {A : Type 0} → (lines : List (Vec ℕ A)) (at i : ℕ) (line : Vec ℕ A) → at ≡ suc i → i < length lines → line ≡ get_or lines i line
    → Some line.items ≡ line_numbered (plain lines) at
line_at_is lines at i line from lt is = rw from (get_line lines i line lt is)

-- a change that is not refused
pub accepted : (there : Bool) (lines : List (List ℕ)) → there ≡ true → size_of_lines lines ≤ ROOM → refusal there lines ≡ None
accepted there lines here small = rw (here, le-leb (size_of_lines lines) ROOM small) refl

pub from_accepted : (there : Bool) (lines : List (List ℕ)) → refusal there lines ≡ None → (there ≡ true) × (size_of_lines lines ≤ ROOM)
from_accepted false lines h = let end : Some NoLine ≡ None = h in absurd (cc)
from_accepted true lines h =
    elim (leb_tells (size_of_lines lines) ROOM) [
      | inl tells ↦ (refl, tells.1)
      | inr tells ↦ let end : Some (Full (size_of_lines lines)) ≡ None = rw tells.0 at h in absurd (cc)
    ]

pub too_large : (there : Bool) (lines : List (List ℕ)) (size : ℕ) → there ≡ true → size ≡ size_of_lines lines → ROOM < size → refusal there lines ≡ Some (Full size)
too_large there lines size here same large =
    elim (leb_tells (size_of_lines lines) ROOM) [ inl tells ↦ absurd (omega arith) | inr tells ↦ rw (here, tells.0, same) refl ]

pub is_index-from : (at most : ℕ) → is_index at most ≡ true → (1 ≤ at) × (at ≤ most)
is_index-from at most h =
    elim (leb_tells 1 at) [
      | inl first ↦ elim (leb_tells at most) [
        | inl second ↦ (first.1, second.1)
        | inr second ↦ let end : false ≡ true = rw (first.0, second.0) at h in absurd (cc)
      ]
      | inr first ↦ let end : false ≡ true = rw first.0 at h in absurd (cc)
    ]

pub there-from_missing : (there : Bool) → missing there ≡ None → there ≡ true
there-from_missing true h = refl
there-from_missing false h = let end : Some NoLine ≡ None = h in absurd (cc)

-- the sizes of changed lists
pub size-insert : (lines : List (List ℕ)) (i : ℕ) (line : List ℕ) → size_of_lines (insert lines i line) ≡ size_of_lines lines + (length line + 1)
size-insert lines i line = sum_by-insert (λ l. length l + 1) lines i line

pub size-set : (lines : List (List ℕ)) (i : ℕ) (line : List ℕ) → i < length lines
    → size_of_lines (set lines i line) + (length (get_or lines i []) + 1) ≡ size_of_lines lines + (length line + 1)
size-set lines i line lt = sum_by-set (λ l. length l + 1) lines i line [] lt

pub size-remove : (lines : List (List ℕ)) (i : ℕ) → i < length lines → size_of_lines (remove lines i) + (length (get_or lines i []) + 1) ≡ size_of_lines lines
size-remove lines i lt = sum_by-remove (λ l. length l + 1) lines i [] lt

pub line-le-size : (lines : List (List ℕ)) (i : ℕ) → i < length lines → length (get_or lines i []) + 1 ≤ size_of_lines lines
line-le-size lines i lt = get_or-le-sum_by (λ l. length l + 1) lines i [] lt

-- a line put in place of another: it is there, and the size changes by the two lengths
pub record Replaces (lines after : List (List ℕ)) (at was now : ℕ) : Type 0 where
  pub there : is_index at (length lines) ≡ true
  pub size : size_of_lines after + was ≡ size_of_lines lines + now
  pub within : was + 1 ≤ size_of_lines lines

pub replaces : {A B : Type 0} → (lines : Vec (Vec ℕ A) B) (at line_index count : ℕ) (was : Vec ℕ A) (line : List ℕ) → count ≡ lines.len
    → (is_index at count ≡ true) × (line_index + 1 ≡ at) → was ≡ get_or lines.items line_index was
    → Replaces (plain lines.items) (set (plain lines.items) (at - 1) line) at was.len (length line)
replaces lines at line_index count was line counts there is =
    let many : count ≡ length (plain lines.items) = counts ∙ counted lines in
    let range = is_index-from at count there.0 in
    let lt : at - 1 < length (plain lines.items) = omega (arith, there.1) in
    let same : at - 1 ≡ line_index = omega (arith, there.1) in
    let lt_items : line_index < length lines.items = omega (arith, length-map lines.items (λ line. line.items)) in
    let here : was.items ≡ get_or (plain lines.items) (at - 1) [] = rw same (line_is lines.items line_index was lt_items is) in
    let long : was.len ≡ length (get_or (plain lines.items) (at - 1) []) = omega (arith, was.ok, ap length here) in
    record {
      there = rw (← many) there.0;
      size = omega (arith, size-set (plain lines.items) (at - 1) line lt);
      within = omega (arith, line-le-size (plain lines.items) (at - 1) lt);
    }

pub replaced : (lines after : List (List ℕ)) (at was now : ℕ) → Replaces lines after at was now → size_of_lines lines - was + now ≤ ROOM
    → refusal (is_index at (length lines)) after ≡ None
replaced lines after at was now r small = accepted (is_index at (length lines)) after r.there (omega (arith, r.size, r.within))

pub not_replaced : (lines after : List (List ℕ)) (at was now size : ℕ) → Replaces lines after at was now → size ≡ size_of_lines lines - was + now → ROOM < size
    → refusal (is_index at (length lines)) after ≡ Some (Full size)
not_replaced lines after at was now size r same large =
    too_large (is_index at (length lines)) after size r.there (omega (arith, r.size, r.within)) large
