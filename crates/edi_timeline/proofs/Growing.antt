-- A row more for a stint that is handed in: it stands for the stint that comes after those of the rows before.
use Rattle.std.proofs.Common.{◌≡◌, ◌≤◌, ◌<◌, ℕ, zero, suc, ◌+◌, ◌-◌, ◌&&◌, not, Bool, true, false, if◌then◌else◌, List, [], ◌∷◌, ◌++◌, refl, ap, sym, ◌∙◌, subst}
use Rattle.std.proofs.Common.{arith, length, Option, Some, None, nat_le, option_map}
use Rattle.std.specs.Prelude.{slice_get, take}
use Rattle.std.proofs.lemmas.Bool.{and_parts}
use Rattle.edi_calls.specs.Names.{Name}
use Rattle.edi_calls.specs.Outcome as outcome
use Rattle.edi_kernel.specs.declared.ends.Ending.{Ending}
use Rattle.edi_timeline.specs.declared.rows.Row.{Row}
use Rattle.edi_timeline.specs.declared.rows.Kind.{Kind}
use Rattle.edi_timeline.specs.declared.rows.Kind.TheVariants as kind
use Rattle.edi_timeline.specs.declared.entry.Seat.{Seat}
use Rattle.edi_timeline.specs.declared.entry.Said.{Said}
use Rattle.edi_timeline.specs.declared.entry.Came.{Came}
use Rattle.edi_timeline.specs.declared.entry.Came.TheVariants as came
use Rattle.edi_timeline.specs.Stints.{Start, End, at, Stint, ending_by}
use Rattle.edi_timeline.specs.Told.{process_in, numbered, row_at, place_of, said_of, start_behind, start_in, end_as, stint_in, stints_in, AreRows, meant}
use Rattle.edi_timeline.specs.Timelines.{Told, is_failed}
use Rattle.edi_timeline.specs.Adding.{said_in, end_of, nth_stint, start_by, start_after, process_after, used_by, stint_after, added, counted, skipped, ends_run, is_going, SeatFits}
use Rattle.edi_timeline.specs.Entered.{kind_of, row_for, ending_with, ended_with}
use Rattle.edi_timeline.proofs.Counting.{as_many}
use Rattle.edi_timeline.proofs.Processes.{process_first, process_more}
use Rattle.edi_timeline.proofs.Rowed.{number_of, born_within, before_within, start_none, start_more, same_process, same_start, same_stints}

-- ---- the stints of rows, one by one

-- the stint of an index is that of its row
pub nth_row : (e : Ending) (all : List Row) (used : ℕ) (rows : List Row) (n : ℕ) → n < length rows →
    (first : ℕ) × (slice_get (stints_in e all used rows) n ≡ Some (stint_in e all first (row_at rows n)))
nth_row e all used [] n l = absurd (omega (arith, l))
nth_row e all used (r ∷ rows) zero l = (suc used, refl)
nth_row e all used (r ∷ rows) (suc n) l = nth_row e all r.used rows n (omega (arith, l))

-- the stints of rows with one more
stints_and_one : (e : Ending) (all : List Row) (used : ℕ) (rs : List Row) (r : Row) →
    stints_in e all used (rs ++ r ∷ []) ≡ stints_in e all used rs ++ stint_in e all (suc (used_by used (stints_in e all used rs))) r ∷ []
stints_and_one e all used [] r = refl
stints_and_one e all used (x ∷ rs) r = ap (λ xs. stint_in e all (suc used) x ∷ xs) (stints_and_one e all x.used rs r)

-- ---- how the run has ended is told of none that goes on

same_going : (e other : Ending) (x : Row) (k : Kind) → not (ends_run (end_as e x k)) ≡ true → end_as other x k ≡ end_as e x k
same_going e other x kind.Arrives h = refl
same_going e other x kind.Waits h = refl
same_going e other x kind.Tries h = refl
same_going e other x kind.Forks h = refl
same_going e other x kind.Ends h = refl
same_going e other x kind.Over h = let f : false ≡ true = h in absurd (cc)

abbrev stint_to : List Row → (first : ℕ) → Row → End → Stint
stint_to all first x end =
    record { process = process_in all x; first = first; last = x.used; from = start_in all x; end = end; shown = said_of x }

going_stints : (e other : Ending) (all : List Row) (used : ℕ) (rs : List Row) → is_going (stints_in e all used rs) ≡ true →
    stints_in other all used rs ≡ stints_in e all used rs
going_stints e other all used [] h = refl
going_stints e other all used (x ∷ rs) h =
    let (one, rest) = and_parts (not (ends_run (end_as e x x.kind))) (is_going (stints_in e all x.used rs)) h in
    (λ i. stint_to all (suc used) x (same_going e other x x.kind one i) ∷ going_stints e other all x.used rs rest i)

-- ---- where a process stands, and what it is called

module _ (e : Ending) (rows : List Row) where
  abbrev Stints : List Stint
  Stints = stints_in e rows 0 rows

  module _ (born : (n : ℕ) → (numbered rows n).born ≤ n - 1) (x : Row) where
    process_case : (n : ℕ) → x.born ≡ n → n ≤ length rows → process_in rows x ≡ process_after (nth_stint Stints n) x.fork x.branch
    process_case zero is l = process_first rows x is
    process_case (suc n) is l =
        let (first, there) = nth_row e rows 0 rows n (omega (arith, l)) in
        process_more rows born x (λ z. omega (arith, is, z))
        ∙ ap (λ y. process_in rows y ++ x.fork ∷ x.branch ∷ []) (ap (numbered rows) is ∙ number_of rows n)
        ∙ sym (ap (λ o. process_after o x.fork x.branch) there)

    pub process_is : x.born ≤ length rows → process_in rows x ≡ process_after (nth_stint Stints x.born) x.fork x.branch
    process_is l = process_case x.born refl l

  -- the rows of attempts that have failed have the place where their processes stood
  module _ (stood : (n : ℕ) → is_failed (numbered rows n).kind ≡ true → start_in rows (numbered rows n) ≡ at (place_of (numbered rows n))) where
    behind_by : (x : Row) (k : Kind) → (is_failed k ≡ true → start_in rows x ≡ at (place_of x)) →
        start_behind x k ≡ start_by (start_in rows x) (end_as e x k)
    behind_by x kind.Arrives h = refl
    behind_by x kind.Waits h = sym (h refl)
    behind_by x kind.Tries h = sym (h refl)
    behind_by x kind.Forks h = refl
    behind_by x kind.Ends h = refl
    behind_by x kind.Over h = refl

    -- behind the stint of this index
    behind : (n : ℕ) → n < length rows → let x : Row = numbered rows (suc n) in start_behind x x.kind ≡ start_after (slice_get Stints n)
    behind n l =
        let (first, there) = nth_row e rows 0 rows n l in
        behind_by (numbered rows (suc n)) (numbered rows (suc n)).kind (stood (suc n))
        ∙ ap (λ y. start_by (start_in rows y) (end_as e y y.kind)) (number_of rows n)
        ∙ sym (ap start_after there)

    start_case : (x : Row) (n : ℕ) → x.before ≡ n → n ≤ length rows → start_in rows x ≡ start_after (nth_stint Stints n)
    start_case x zero is l = start_none rows x is
    start_case x (suc n) is l =
        start_more rows x (λ z. omega (arith, is, z))
        ∙ ap (λ m. start_behind (numbered rows m) (numbered rows m).kind) is
        ∙ behind n (omega (arith, l))

    pub start_is : (x : Row) → x.before ≤ length rows → start_in rows x ≡ start_after (nth_stint Stints x.before)
    start_is x l = start_case x x.before refl l

    -- the row of the stint before one that stood at its `when`
    pub behind_before : (n : ℕ) → n ≤ length rows → (n ≡ 0 → ⊥) → let x : Row = numbered rows n in
        start_behind x x.kind ≡ start_after (nth_stint Stints n)
    behind_before zero l some = absurd (some refl)
    behind_before (suc n) l some = behind n (omega (arith, l))

-- ---- the stint of the new row

end_is : (e : Ending) (rows : List Row) (s : Seat) (c : Came) (used : ℕ) (said : Said) →
    end_as (ending_with c e) (row_for rows s c used said) (kind_of c) ≡ end_of c
end_is e rows s (came.Arrived p) used said = refl
end_is e rows s came.Waited used said = refl
end_is e rows s came.Tried used said = refl
end_is e rows s (came.Forked n) used said = refl
end_is e rows s came.Ended used said = refl
end_is e rows s (came.Over f) used said = refl

meant_is : (c : Came) → option_map meant (ended_with c) ≡ ending_by (end_of c)
meant_is (came.Arrived p) = refl
meant_is came.Waited = refl
meant_is came.Tried = refl
meant_is (came.Forked n) = refl
meant_is came.Ended = refl
meant_is (came.Over f) = refl

module _ (e : Ending) (rows : List Row) (are : AreRows rows)
    (stood : (n : ℕ) → is_failed (numbered rows n).kind ≡ true → start_in rows (numbered rows n) ≡ at (place_of (numbered rows n)))
    (s : Seat) (c : Came) (used : ℕ) (said : Said) (fits : SeatFits (stints_in e rows 0 rows) s c) where
  abbrev New : Row
  New = row_for rows s c used said

  abbrev Old : List Stint
  Old = stints_in e rows 0 rows

  pub born_fits : s.born ≤ length rows
  born_fits = omega (arith, fits.born, as_many e rows 0 rows)

  pub before_fits : s.before ≤ length rows
  before_fits = omega (arith, fits.before, as_many e rows 0 rows)

  abbrev with_parts : Name → Start → End → Stint
  with_parts process from end =
      record { process = process; first = suc (used_by 0 Old); last = used; from = from; end = end; shown = said_in said }

  new_stint : stint_in (ending_with c e) (rows ++ New ∷ []) (suc (used_by 0 Old)) New ≡ stint_after Old s (end_of c) used (said_in said)
  new_stint =
      (λ i.
      with_parts
      ((same_process rows New are.born New born_fits ∙ process_is e rows are.born New born_fits) i)
      ((same_start rows New are.born New before_fits ∙ start_is e rows stood New before_fits) i)
      (end_is e rows s c used said i))

  new_stints : is_going Old ≡ true →
      stints_in (ending_with c e) (rows ++ New ∷ []) 0 (rows ++ New ∷ []) ≡ Old ++ stint_after Old s (end_of c) used (said_in said) ∷ []
  new_stints going =
      let f : Ending = ending_with c e in
      let all : List Row = rows ++ New ∷ [] in
      let same : stints_in f all 0 rows ≡ Old =
      same_stints rows New are.born f 0 rows (born_within rows are.born) (before_within rows are.before) ∙ going_stints e f rows 0 rows going in
      stints_and_one f all 0 rows New
      ∙ ap (λ xs. xs ++ stint_in f all (suc (used_by 0 xs)) New ∷ []) same
      ∙ ap (λ x. Old ++ x ∷ []) new_stint

  abbrev told : List Stint → ℕ → Option outcome.Ending → Told
  told xs n how = record { stints = xs; count = n; ending = how }

  -- the timeline that has the row tells the stint
  pub grows : (count next : ℕ) (how : Option outcome.Ending) (now : List Row) (r : Row) (f : Ending) (g : Option Ending) →
      is_going Old ≡ true → nat_le 100000 count ≡ false → r ≡ New → now ≡ rows ++ r ∷ [] → f ≡ ending_with c e → g ≡ ended_with c → next ≡ count + 1 →
      told (stints_in f now 0 now) next (option_map meant g) ≡ added (told Old count how) s c used said
  grows count next how now r f g going room r_is now_is f_is g_is next_is =
      let all : now ≡ rows ++ New ∷ [] = now_is ∙ ap (λ x. rows ++ x ∷ []) r_is in
      let one : next ≡ suc count = omega (arith, next_is) in
      (λ i. told (stints_in (f_is i) (all i) 0 (all i)) (one i) (option_map meant (g_is i)))
      ∙ (λ i. told (new_stints going i) (suc count) (meant_is c i))
      ∙ sym (ap (λ b. if b then told Old (suc count) (ending_by (end_of c))
      else told (Old ++ stint_after Old s (end_of c) used (said_in said) ∷ []) (suc count) (ending_by (end_of c))) room)

-- the timeline that has no room for it only counts it
pub one_more : (t : Told) (e : Option outcome.Ending) → skipped t 1 e ≡ counted t e
one_more t e =
    let with_count : ℕ → Told = λ n. record t { count = n; ending = e } in
    let one : 1 + t.count ≡ suc t.count = omega arith in
    ap with_count one

pub added_full : (t : Told) (s : Seat) (c : Came) (used : ℕ) (said : Said) (f : Option Ending) → f ≡ ended_with c → nat_le 100000 t.count ≡ true →
    counted t (option_map meant f) ≡ added t s c used said
added_full t s c used said f is full =
    ap (λ o. counted t (option_map meant o)) is
    ∙ ap (counted t) (meant_is c)
    ∙ sym
    (ap (λ b. if b then counted t (ending_by (end_of c))
    else record {
      stints = t.stints ++ stint_after t.stints s (end_of c) used (said_in said) ∷ [];
      count = suc t.count;
      ending = ending_by (end_of c);
    }) full)
