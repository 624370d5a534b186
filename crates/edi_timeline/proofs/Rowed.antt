-- A row more behind rows: what stands at each index, and that the rows before stand for the same as before.
use Rattle.std.proofs.Common.{◌≡◌, ◌≤◌, ◌<◌, ℕ, zero, suc, ◌+◌, ◌-◌, ◌==◌, Bool, true, false, if◌then◌else◌, List, [], ◌∷◌, ◌++◌, refl, ap, sym, ◌∙◌, subst}
use Rattle.std.proofs.Common.{arith, length}
use Rattle.std.specs.Prelude.{slice_index_or}
use Rattle.std.proofs.lemmas.Bool.{ne_eqb, eqb-true, eqb-false}
use Rattle.edi_calls.specs.Names.{Name}
use Rattle.edi_kernel.specs.declared.ends.Ending.{Ending}
use Rattle.edi_timeline.specs.declared.rows.Row.{Row}
use Rattle.edi_timeline.specs.Stints.{Start, begin, End, Stint}
use Rattle.edi_timeline.specs.Told.{name_of, path_in, path_of, process_in, numbered, row_at, no_row, start_behind, start_in, end_as, said_of, stint_in, stints_in}
use Rattle.edi_timeline.proofs.Naming.{path_ends, path_more}

-- ---- what stands at an index

-- a fact of each row, and of what stands for a row that is not there, is one of whatever stands at an index
pub at_any : (rows : List Row) (P : Row → Type 0) → P no_row → ((i : ℕ) → i < length rows → P (row_at rows i)) → (i : ℕ) → P (row_at rows i)
at_any [] P none each zero = none
at_any [] P none each (suc i) = none
at_any (x ∷ rows) P none each zero = each zero (omega arith)
at_any (x ∷ rows) P none each (suc i) = at_any rows P none (λ j l. each (suc j) (omega (arith, l))) i

-- the same with a row more
pub with_one_more : (rows : List Row) (r : Row) (P : Row → Type 0) (i : ℕ) → (i < length rows → P (row_at rows i)) → (i ≡ length rows → P r) →
    (length rows < i → P no_row) → P (row_at (rows ++ r ∷ []) i)
with_one_more [] r P zero old new none = new refl
with_one_more [] r P (suc zero) old new none = none (omega arith)
with_one_more [] r P (suc (suc i)) old new none = none (omega arith)
with_one_more (x ∷ rows) r P zero old new none = old (omega arith)
with_one_more (x ∷ rows) r P (suc i) old new none =
    with_one_more rows r P i (λ l. old (omega (arith, l))) (λ e. new (omega (arith, e))) (λ l. none (omega (arith, l)))

row_before : (rows : List Row) (r : Row) (i : ℕ) → i < length rows → row_at (rows ++ r ∷ []) i ≡ row_at rows i
row_before [] r i l = absurd (omega (arith, l))
row_before (x ∷ rows) r zero l = refl
row_before (x ∷ rows) r (suc i) l = row_before rows r i (omega (arith, l))

-- the number of a stint is one more than its index
pub number_of : (rows : List Row) (n : ℕ) → numbered rows (suc n) ≡ row_at rows n
number_of rows n = let e : suc n - 1 ≡ n = omega arith in ap (row_at rows) e

pub born_at : (rows : List Row) → ((n : ℕ) → (numbered rows n).born ≤ n - 1) → (i : ℕ) → (row_at rows i).born ≤ i
born_at rows h i = let e : suc i - 1 ≡ i = omega arith in subst (λ j. (row_at rows j).born ≤ j) e (h (suc i))

pub before_at : (rows : List Row) → ((n : ℕ) → (numbered rows n).before ≤ n - 1) → (i : ℕ) → (row_at rows i).before ≤ i
before_at rows h i = let e : suc i - 1 ≡ i = omega arith in subst (λ j. (row_at rows j).before ≤ j) e (h (suc i))

pub born_within : (rows : List Row) → ((n : ℕ) → (numbered rows n).born ≤ n - 1) → (i : ℕ) → (row_at rows i).born ≤ length rows
born_within rows h = at_any rows (λ x. x.born ≤ length rows) (omega arith) (λ i l. omega (arith, l, born_at rows h i))

pub before_within : (rows : List Row) → ((n : ℕ) → (numbered rows n).before ≤ n - 1) → (i : ℕ) → (row_at rows i).before ≤ length rows
before_within rows h = at_any rows (λ x. x.before ≤ length rows) (omega arith) (λ i l. omega (arith, l, before_at rows h i))

-- ---- where a stint begins

pub start_none : (rows : List Row) (x : Row) → x.before ≡ 0 → start_in rows x ≡ begin
start_none rows x e = ap (λ n. if n == 0 then begin else start_behind (numbered rows x.before) (numbered rows x.before).kind) e

pub start_more : (rows : List Row) (x : Row) → (x.before ≡ 0 → ⊥) →
    start_in rows x ≡ start_behind (numbered rows x.before) (numbered rows x.before).kind
start_more rows x some =
    ap (λ b. if b then begin else start_behind (numbered rows x.before) (numbered rows x.before).kind) (ne_eqb x.before 0 some)

-- ---- the rows before a row more

module _ (rows : List Row) (r : Row) (born : (n : ℕ) → (numbered rows n).born ≤ n - 1) where
  abbrev All : List Row
  All = rows ++ r ∷ []

  pub same_numbered : (n : ℕ) → n - 1 < length rows → numbered All n ≡ numbered rows n
  same_numbered n l = row_before rows r (n - 1) l

  path_step : (m : ℕ) (x : Row) → x.born ≤ length rows → (b : Bool) → (x.born == 0) ≡ b →
      ((y : Row) → y.born ≤ length rows → path_in All m y ≡ path_in rows m y) → path_in All (suc m) x ≡ path_in rows (suc m) x
  path_step m x l true e rest =
      let none : x.born ≡ 0 = eqb-true x.born 0 e in path_ends All (suc m) x none ∙ sym (path_ends rows (suc m) x none)
  path_step m x l false e rest =
      let some : x.born ≡ 0 → ⊥ = eqb-false x.born 0 e in
      path_more All m x some
      ∙ ap (λ path. (x.fork, x.branch) ∷ path)
      (ap (path_in All m) (same_numbered x.born (omega (arith, l, some)))
      ∙ rest (numbered rows x.born) (omega (arith, l, born x.born)))
      ∙ sym (path_more rows m x some)

  same_path : (m : ℕ) (x : Row) → x.born ≤ length rows → path_in All m x ≡ path_in rows m x
  same_path zero x l = refl
  same_path (suc m) x l = path_step m x l (x.born == 0) refl (same_path m)

  pub same_process : (x : Row) → x.born ≤ length rows → process_in All x ≡ process_in rows x
  unfolding path_of
  same_process x l = ap name_of (same_path x.born x l)

  start_case : (x : Row) → x.before ≤ length rows → (b : Bool) → (x.before == 0) ≡ b → start_in All x ≡ start_in rows x
  start_case x l true e =
      let none : x.before ≡ 0 = eqb-true x.before 0 e in start_none All x none ∙ sym (start_none rows x none)
  start_case x l false e =
      let some : x.before ≡ 0 → ⊥ = eqb-false x.before 0 e in
      start_more All x some
      ∙ ap (λ y. start_behind y y.kind) (same_numbered x.before (omega (arith, l, some)))
      ∙ sym (start_more rows x some)

  pub same_start : (x : Row) → x.before ≤ length rows → start_in All x ≡ start_in rows x
  same_start x l = start_case x l (x.before == 0) refl

  -- a stint, told by its process and where it began
  abbrev stint_with : Ending → (first : ℕ) → Row → Name → Start → Stint
  stint_with e first x process from =
      record { process = process; first = first; last = x.used; from = from; end = end_as e x x.kind; shown = said_of x }

  pub same_stints : (e : Ending) (used : ℕ) (rs : List Row) → ((i : ℕ) → (row_at rs i).born ≤ length rows) →
      ((i : ℕ) → (row_at rs i).before ≤ length rows) → stints_in e All used rs ≡ stints_in e rows used rs
  same_stints e used [] b f = refl
  same_stints e used (x ∷ rs) b f =
      (λ i.
      stint_with e (suc used) x (same_process x (b 0) i) (same_start x (f 0) i)
      ∷ same_stints e x.used rs (λ j. b (suc j)) (λ j. f (suc j)) i)
