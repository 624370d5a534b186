-- Rows with one more are those of a timeline again.
use Rattle.std.proofs.Common.{◌≡◌, ◌≤◌, ◌<◌, ℕ, zero, suc, ◌-◌, Bool, true, false, List, [], ◌∷◌, ◌++◌, refl, ap, sym, ◌∙◌, subst}
use Rattle.std.proofs.Common.{arith, length, Some, None, All}
use Rattle.std.proofs.lemmas.List.Elements.{All-push}
use Rattle.edi_kernel.specs.declared.ends.Ending.{Ending}
use Rattle.edi_timeline.specs.declared.rows.Row.{Row}
use Rattle.edi_timeline.specs.declared.rows.Kind.{Kind}
use Rattle.edi_timeline.specs.declared.rows.Kind.TheVariants as kind
use Rattle.edi_timeline.specs.declared.entry.Seat.{Seat}
use Rattle.edi_timeline.specs.declared.entry.Said.{Said}
use Rattle.edi_timeline.specs.declared.entry.Came.{Came}
use Rattle.edi_timeline.specs.declared.entry.Came.TheVariants as came
use Rattle.edi_timeline.specs.Stints.{Start, at, Stint}
use Rattle.edi_timeline.specs.Told.{numbered, row_at, no_row, place_of, start_behind, start_in, end_as, stint_in, stints_in, IsRow, AreRows}
use Rattle.edi_timeline.specs.Timelines.{is_failed}
use Rattle.edi_timeline.specs.Adding.{nth_stint, start_after, is_fork, bears, is_at, has_failed, SeatFits, CameFits}
use Rattle.edi_timeline.specs.Entered.{kind_of, kept_place, row_for}
use Rattle.edi_timeline.proofs.Rowed.{at_any, with_one_more, number_of, start_more, same_numbered, same_start}
use Rattle.edi_timeline.proofs.Growing.{nth_row, behind_before, born_fits, before_fits}

none_row : IsRow no_row
none_row = record { many = omega arith; lines = λ other. omega arith; said = omega arith }

-- what stands for the row of any number is a row
pub each_row : (rows : List Row) → All IsRow rows → (n : ℕ) → IsRow (numbered rows n)
each_row rows each n = at_any rows IsRow none_row (λ i l. each i no_row l) (n - 1)

-- ---- the row of a fork, and that of a stint that stood at a `when`

fork_kind : (e : Ending) (x : Row) (k : Kind) → is_fork (end_as e x k) ≡ true → k ≡ kind.Forks
fork_kind e x kind.Forks h = refl
fork_kind e x kind.Arrives h = let f : false ≡ true = h in absurd (cc)
fork_kind e x kind.Waits h = let f : false ≡ true = h in absurd (cc)
fork_kind e x kind.Tries h = let f : false ≡ true = h in absurd (cc)
fork_kind e x kind.Ends h = let f : false ≡ true = h in absurd (cc)
fork_kind e x kind.Over h = let f : false ≡ true = h in absurd (cc)

bearing : (e : Ending) (rows : List Row) (n : ℕ) → n ≤ length rows → (n ≡ 0 → ⊥) → bears (nth_stint (stints_in e rows 0 rows) n) ≡ true →
    (numbered rows n).kind ≡ kind.Forks
bearing e rows zero l some h = absurd (some refl)
bearing e rows (suc n) l some h =
    let (first, there) = nth_row e rows 0 rows n (omega (arith, l)) in
    ap (λ y. y.kind) (number_of rows n) ∙ fork_kind e (row_at rows n) (row_at rows n).kind (sym (ap bears there) ∙ h)

at_kind : (x : Row) (k : Kind) → is_at (start_behind x k) ≡ true → start_behind x k ≡ at (place_of x)
at_kind x kind.Arrives h = refl
at_kind x kind.Waits h = refl
at_kind x kind.Tries h = refl
at_kind x kind.Forks h = let f : false ≡ true = h in absurd (cc)
at_kind x kind.Ends h = let f : false ≡ true = h in absurd (cc)
at_kind x kind.Over h = let f : false ≡ true = h in absurd (cc)

other_kind : (x : Row) (k : Kind) → is_at (start_behind x k) ≡ true → k ≡ kind.Forks → ⊥
other_kind x kind.Forks h e = let f : false ≡ true = h in absurd (cc)
other_kind x kind.Arrives h e = absurd (cc)
other_kind x kind.Waits h e = absurd (cc)
other_kind x kind.Tries h e = absurd (cc)
other_kind x kind.Ends h e = absurd (cc)
other_kind x kind.Over h e = absurd (cc)

at_some : (xs : List Stint) (n : ℕ) → is_at (start_after (nth_stint xs n)) ≡ true → n ≡ 0 → ⊥
at_some xs zero h e = let f : false ≡ true = h in absurd (cc)
at_some xs (suc n) h e = omega (arith, e)

-- ---- the rows with the new one

module _ (e : Ending) (rows : List Row) (are : AreRows rows)
    (stood : (n : ℕ) → is_failed (numbered rows n).kind ≡ true → start_in rows (numbered rows n) ≡ at (place_of (numbered rows n)))
    (s : Seat) where
  abbrev Before : Row
  Before = numbered rows s.before

  abbrev Old : List Stint
  Old = stints_in e rows 0 rows

  -- where the stint before left its process at its `when`
  module _ (within : s.before ≤ length rows) (h : is_at (start_after (nth_stint Old s.before)) ≡ true) where
    some_before : s.before ≡ 0 → ⊥
    some_before z = at_some Old s.before h z

    is_there : is_at (start_behind Before Before.kind) ≡ true
    is_there = ap is_at (behind_before e rows stood s.before within some_before) ∙ h

    stands_there : start_behind Before Before.kind ≡ at (place_of Before)
    stands_there = at_kind Before Before.kind is_there

    no_fork : Before.kind ≡ kind.Forks → ⊥
    no_fork = other_kind Before Before.kind is_there

  module _ (used : ℕ) (said : Said) (few : said.many ≤ 7) where
    new_row : (c : Came) → s.before ≤ length rows → (has_failed c ≡ true → is_at (start_after (nth_stint Old s.before)) ≡ true) → CameFits c →
        IsRow (row_for rows s c used said)
    new_row (came.Arrived p) l h fits = record { many = omega (arith, fits); lines = λ other. fits; said = few }
    new_row came.Waited l h fits =
        let row : IsRow Before = each_row rows are.each s.before in
        record { many = row.many; lines = λ other. row.lines (no_fork l (h refl)); said = few }
    new_row came.Tried l h fits =
        let row : IsRow Before = each_row rows are.each s.before in
        record { many = row.many; lines = λ other. row.lines (no_fork l (h refl)); said = few }
    new_row (came.Forked n) l h fits = record { many = fits; lines = λ other. absurd (other refl); said = few }
    new_row came.Ended l h fits = record { many = omega arith; lines = λ other. omega arith; said = few }
    new_row (came.Over f) l h fits = record { many = omega arith; lines = λ other. omega arith; said = few }

    -- a new row of an attempt that has failed has the place of the stint before
    new_stood : (c : Came) → s.before ≤ length rows → (has_failed c ≡ true → is_at (start_after (nth_stint Old s.before)) ≡ true) →
        is_failed (kind_of c) ≡ true → start_in rows (row_for rows s c used said) ≡ at (place_of (row_for rows s c used said))
    new_stood came.Waited l h f =
        start_more rows (row_for rows s came.Waited used said) (some_before l (h refl)) ∙ stands_there l (h refl)
    new_stood came.Tried l h f =
        start_more rows (row_for rows s came.Tried used said) (some_before l (h refl)) ∙ stands_there l (h refl)
    new_stood (came.Arrived p) l h f = let g : false ≡ true = f in absurd (cc)
    new_stood (came.Forked n) l h f = let g : false ≡ true = f in absurd (cc)
    new_stood came.Ended l h f = let g : false ≡ true = f in absurd (cc)
    new_stood (came.Over g) l h f = let g : false ≡ true = f in absurd (cc)

    module _ (c : Came) (fits : SeatFits Old s c) (came_fits : CameFits c) where
      abbrev New : Row
      New = row_for rows s c used said

      abbrev All' : List Row
      All' = rows ++ New ∷ []

      born_in : s.born ≤ length rows
      born_in = born_fits e rows are stood s c used said fits

      before_in : s.before ≤ length rows
      before_in = before_fits e rows are stood s c used said fits

      born_still : (n : ℕ) → (numbered All' n).born ≤ n - 1
      born_still n =
          with_one_more rows New (λ x. x.born ≤ n - 1) (n - 1) (λ l. are.born n) (λ at_end. omega (arith, at_end, born_in)) (λ l. omega arith)

      before_still : (n : ℕ) → (numbered All' n).before ≤ n - 1
      before_still n =
          with_one_more rows New (λ x. x.before ≤ n - 1) (n - 1) (λ l. are.before n) (λ at_end. omega (arith, at_end, before_in)) (λ l. omega arith)

      forked_still : (n : ℕ) → ((numbered All' n).born ≡ 0 → ⊥) → (numbered All' (numbered All' n).born).kind ≡ kind.Forks
      forked_still n =
          with_one_more rows New (λ x. (x.born ≡ 0 → ⊥) → (numbered All' x.born).kind ≡ kind.Forks) (n - 1)
          (λ l some.
          ap (λ y. y.kind) (same_numbered rows New are.born (numbered rows n).born (omega (arith, l, are.born n, some))) ∙ are.forked n some)
          (λ at_end some.
          ap (λ y. y.kind) (same_numbered rows New are.born s.born (omega (arith, born_in, some)))
          ∙ bearing e rows s.born born_in some fits.forked)
          (λ l some. absurd (some refl))

      pub rows_still : AreRows All'
      rows_still = record {
        each = All-push IsRow rows New are.each (new_row c before_in fits.stood came_fits);
        born = born_still;
        before = before_still;
        forked = forked_still;
      }

      pub stood_still : (n : ℕ) → is_failed (numbered All' n).kind ≡ true → start_in All' (numbered All' n) ≡ at (place_of (numbered All' n))
      stood_still n =
          with_one_more rows New (λ x. is_failed x.kind ≡ true → start_in All' x ≡ at (place_of x)) (n - 1)
          (λ l f. same_start rows New are.born (numbered rows n) (omega (arith, l, are.before n)) ∙ stood n f)
          (λ at_end f. same_start rows New are.born New before_in ∙ new_stood c before_in fits.stood f)
          (λ l f. let g : false ≡ true = f in absurd (cc))
