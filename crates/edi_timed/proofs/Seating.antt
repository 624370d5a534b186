-- What is kept of processes by their slots, after a stint.
use Rattle.std.proofs.Common.{◌≡◌, ◌≤◌, ◌<◌, inl, inr, ℕ, zero, suc, ◌+◌, Bool, true, false, if◌then◌else◌, nat_le, nat_lt, List, [], ◌∷◌, ◌++◌, length}
use Rattle.std.proofs.Common.{Some, None, refl, ap, sym, ◌∙◌, subst, arith, slice_index_or, slice_set, get_or-set_same, get_or-set_other, length-set}
use Rattle.std.specs.Prelude.{slice_get, not, ◌&&◌}
use Rattle.std.proofs.lemmas.Bool.{cases_eq}
use Rattle.std.proofs.lemmas.Bool.Decides.{nat_tests}
use Rattle.edi_timeline.specs.declared.entry.Came.{Came}
use Rattle.edi_timeline.specs.declared.entry.Came.TheVariants as came
use Rattle.edi_timeline.specs.declared.entry.Said.{Said}
use Rattle.edi_timeline.specs.Stints.{Stint, ending_by}
use Rattle.edi_timeline.specs.Timelines.{Told}
use Rattle.edi_timeline.specs.Adding.{SeatFits, added, bears, counted, end_of, ends_run, has_failed, is_at, nth_stint, said_in, start_after, stint_after}
use Rattle.edi_timeline.proofs.Telling.{goes_more}
use Rattle.edi_timed.specs.declared.seats.Seated.{Seated}
use Rattle.edi_timed.specs.Seats.{seat_at, seated_at, first_seated, put_at, with_born, forks_after, stands_after, moved_on, seats_after, FitsSeat, Fitting}
use Rattle.edi_timed.proofs.Newest.{nth_earlier, nth_newest, one_longer}

-- ---- one slot

below_32 : (slot : ℕ) → slot < 32 → nat_lt slot 32 ≡ true
below_32 slot l = grind (arith, nat_tests)

pub put_is : (seats : List Seated) (slot : ℕ) (s : Seated) → slot < 32 → put_at seats slot s ≡ slice_set seats slot s
put_is seats slot s l = ap (λ b. if b then slice_set seats slot s else seats) (below_32 slot l)

pub put_here : (seats : List Seated) (slot : ℕ) (s : Seated) → length seats ≡ 32 → slot < 32 → seat_at (put_at seats slot s) slot ≡ s
put_here seats slot s wide l =
    ap (λ xs. seat_at xs slot) (put_is seats slot s l) ∙ get_or-set_same seats slot s first_seated (omega (arith, wide, l))

by_test : (b : Bool) (P : List Seated → Type 0) (xs ys : List Seated) → P xs → P ys → P (if b then xs else ys)
by_test true P xs ys p q = p
by_test false P xs ys p q = q

pub put_there : (seats : List Seated) (slot j : ℕ) (s : Seated) → (j ≡ slot → ⊥) → seat_at (put_at seats slot s) j ≡ seat_at seats j
put_there seats slot j s other =
    by_test (nat_lt slot 32) (λ xs. seat_at xs j ≡ seat_at seats j) (slice_set seats slot s) seats (get_or-set_other seats slot j s first_seated other) refl

pub put_wide : (seats : List Seated) (slot : ℕ) (s : Seated) → length seats ≡ 32 → length (put_at seats slot s) ≡ 32
put_wide seats slot s wide =
    by_test (nat_lt slot 32) (λ xs. length xs ≡ 32) (slice_set seats slot s) seats (length-set seats slot s ∙ wide) wide

-- whatever is so of the old ones and of the new one is so of all
set_all : (P : Seated → Type 0) (seats : List Seated) (slot : ℕ) (s : Seated) → P s → ((j : ℕ) → P (slice_index_or seats j first_seated)) → (j : ℕ) →
    P (slice_index_or (slice_set seats slot s) j first_seated)
set_all P [] slot s new old j = old j
set_all P (x ∷ seats) zero s new old zero = new
set_all P (x ∷ seats) zero s new old (suc j) = old (suc j)
set_all P (x ∷ seats) (suc slot) s new old zero = old zero
set_all P (x ∷ seats) (suc slot) s new old (suc j) = set_all P seats slot s new (λ i. old (suc i)) j

pub put_all : (P : Seated → Type 0) (seats : List Seated) (slot : ℕ) (s : Seated) → P s → ((j : ℕ) → P (seat_at seats j)) → (j : ℕ) →
    P (seat_at (put_at seats slot s) j)
put_all P seats slot s new old j =
    by_test (nat_lt slot 32) (λ xs. P (seat_at xs j)) (slice_set seats slot s) seats (set_all P seats slot s new old j) (old j)

-- ---- the branches of a fork

pub born_wide : (born fork b : ℕ) (slots : List ℕ) (seats : List Seated) → length seats ≡ 32 → length (with_born born fork b slots seats) ≡ 32
born_wide born fork b [] seats wide = wide
born_wide born fork b (slot ∷ slots) seats wide =
    born_wide born fork (suc b) slots (put_at seats slot (seated_at born fork b)) (put_wide seats slot (seated_at born fork b) wide)

pub born_all : (P : Seated → Type 0) (born fork b : ℕ) (slots : List ℕ) (seats : List Seated) → ((i : ℕ) → P (seated_at born fork i)) →
    ((j : ℕ) → P (seat_at seats j)) → (j : ℕ) → P (seat_at (with_born born fork b slots seats) j)
born_all P born fork b [] seats new old j = old j
born_all P born fork b (slot ∷ slots) seats new old j =
    born_all P born fork (suc b) slots (put_at seats slot (seated_at born fork b)) new (put_all P seats slot (seated_at born fork b) (new b) old) j

-- a branch sits at its slot, the last one of that slot; at any other slot who was there
pub data Sat (born fork b : ℕ) (slots : List ℕ) (seats : List Seated) (j : ℕ) : Type 0 where
  branch : (i : ℕ) → slice_get slots i ≡ Some j → seat_at (with_born born fork b slots seats) j ≡ seated_at born fork (b + i) → Sat born fork b slots seats j
  other : seat_at (with_born born fork b slots seats) j ≡ seat_at seats j → ((i : ℕ) → slice_get slots i ≡ Some j → ⊥) → Sat born fork b slots seats j

pub who_sits : (born fork b : ℕ) (slots : List ℕ) (seats : List Seated) (j : ℕ) → length seats ≡ 32 → j < 32 → Sat born fork b slots seats j
who_sits born fork b [] seats j wide l = other refl (λ i e. let a : None ≡ Some j = e in absurd (cc))
who_sits born fork b (slot ∷ slots) seats j wide l =
    go (who_sits born fork (suc b) slots next j (put_wide seats slot (seated_at born fork b) wide) l)
  where
    next : List Seated
    next = put_at seats slot (seated_at born fork b)

    same : {x y : ℕ} → Some x ≡ Some y → x ≡ y
    same e = cc

    go : Sat born fork (suc b) slots next j → Sat born fork b (slot ∷ slots) seats j
    go (branch i e s) = branch (suc i) e (s ∙ ap (seated_at born fork) (omega arith))
    go (other s none) = elim (cases_eq j slot) [
      | inl e ↦ branch 0 (ap Some (sym e))
          (s ∙ ap (λ k. seat_at next k) e ∙ put_here seats slot (seated_at born fork b) wide (omega (arith, l, e)) ∙ ap (seated_at born fork) (omega arith))
      | inr ne ↦ other (s ∙ put_there seats slot j (seated_at born fork b) ne) (λ i. none_there i ne)
    ]
      where
        none_there : (i : ℕ) → (j ≡ slot → ⊥) → slice_get (slot ∷ slots) i ≡ Some j → ⊥
        none_there zero ne f = ne (sym (same f))
        none_there (suc i) ne f = none i f

-- ---- after a stint that is told

module _ (seats : List Seated) (t : Told) (c : Came) (used : ℕ) (said : Said) (slot : ℕ) (kids : List ℕ) (h : Fitting seats t)
    (room : nat_le 100000 t.count ≡ false) (failed : has_failed c ≡ true → (seat_at seats slot).stands ≡ true) where
  abbrev Own : Seated
  Own = seat_at seats slot

  pub seat_fits : SeatFits t.stints Own.seat c
  seat_fits = record {
    born = (h.each slot).born;
    forked = (h.each slot).forked;
    before = (h.each slot).before;
    stood = λ f. sym (h.each slot).stood ∙ failed f;
  }

  abbrev New : Stint
  New = stint_after t.stints Own.seat (end_of c) used (said_in said)

  abbrev After : Told
  After = record { stints = t.stints ++ New ∷ []; count = suc t.count; ending = ending_by (end_of c) }

  after_is : After ≡ added t Own.seat c used said
  after_is = sym (ap (λ b. if b then counted t (ending_by (end_of c)) else After) room)

  stays_fit : (s : Seated) → FitsSeat t s → FitsSeat After s
  stays_fit s f = record {
    born = omega (arith, f.born, one_longer t.stints New);
    forked = ap bears (nth_earlier t.stints New s.seat.born f.born) ∙ f.forked;
    before = omega (arith, f.before, one_longer t.stints New);
    stood = f.stood ∙ sym (ap (λ o. is_at (start_after o)) (nth_earlier t.stints New s.seat.before f.before));
    forks = omega (arith, f.forks, one_longer t.stints New);
  }

  newest : nth_stint (t.stints ++ New ∷ []) (suc t.count) ≡ Some New
  newest = ap (λ n. nth_stint (t.stints ++ New ∷ []) (suc n)) (sym h.whole) ∙ nth_newest t.stints New

  stands_so : (e : Came) → (has_failed e ≡ true → Own.stands ≡ true) →
      stands_after e ≡ is_at (start_after (Some (stint_after t.stints Own.seat (end_of e) used (said_in said))))
  stands_so (came.Arrived p) f = refl
  stands_so came.Waited f = sym (f refl) ∙ (h.each slot).stood
  stands_so came.Tried f = sym (f refl) ∙ (h.each slot).stood
  stands_so (came.Forked n) f = refl
  stands_so came.Ended f = refl
  stands_so (came.Over e) f = refl

  few_forks : (e : Came) (forks : ℕ) → forks_after e forks ≤ suc forks
  few_forks (came.Arrived p) forks = omega arith
  few_forks came.Waited forks = omega arith
  few_forks came.Tried forks = omega arith
  few_forks (came.Forked n) forks = omega arith
  few_forks came.Ended forks = omega arith
  few_forks (came.Over e) forks = omega arith

  own_fits : FitsSeat After (moved_on c (suc t.count) Own)
  own_fits = record {
    born = (stays_fit Own (h.each slot)).born;
    forked = (stays_fit Own (h.each slot)).forked;
    before = omega (arith, h.whole, one_longer t.stints New);
    stood = stands_so c failed ∙ sym (ap (λ o. is_at (start_after o)) newest);
    forks = omega (arith, few_forks c Own.forks, (h.each slot).forks, one_longer t.stints New);
  }

  moved : (j : ℕ) → FitsSeat After (seat_at (put_at seats slot (moved_on c (suc t.count) Own)) j)
  moved = put_all (FitsSeat After) seats slot (moved_on c (suc t.count) Own) own_fits (λ j. stays_fit (seat_at seats j) (h.each j))

  child_fits : (n fork i : ℕ) → c ≡ came.Forked n → FitsSeat After (seated_at (suc t.count) fork i)
  child_fits n fork i is = record {
    born = omega (arith, h.whole, one_longer t.stints New);
    forked = ap bears newest ∙ ap (λ e. bears (Some (stint_after t.stints Own.seat (end_of e) used (said_in said)))) is;
    before = omega arith;
    stood = refl;
    forks = omega arith;
  }

  all_fit : (e : Came) → c ≡ e → (j : ℕ) → FitsSeat After (seat_at (seats_after e (suc t.count) slot kids seats) j)
  all_fit (came.Forked n) is =
      let s : Seated = moved_on (came.Forked n) (suc t.count) Own in
      born_all (FitsSeat After) (suc t.count) s.forks 0 kids (put_at seats slot s) (λ i. child_fits n s.forks i is)
      (subst (λ e. (j : ℕ) → FitsSeat After (seat_at (put_at seats slot (moved_on e (suc t.count) Own)) j)) is moved)
  all_fit (came.Arrived p) is = subst (λ e. (j : ℕ) → FitsSeat After (seat_at (put_at seats slot (moved_on e (suc t.count) Own)) j)) is moved
  all_fit came.Waited is = subst (λ e. (j : ℕ) → FitsSeat After (seat_at (put_at seats slot (moved_on e (suc t.count) Own)) j)) is moved
  all_fit came.Tried is = subst (λ e. (j : ℕ) → FitsSeat After (seat_at (put_at seats slot (moved_on e (suc t.count) Own)) j)) is moved
  all_fit came.Ended is = subst (λ e. (j : ℕ) → FitsSeat After (seat_at (put_at seats slot (moved_on e (suc t.count) Own)) j)) is moved
  all_fit (came.Over e) is = subst (λ e. (j : ℕ) → FitsSeat After (seat_at (put_at seats slot (moved_on e (suc t.count) Own)) j)) is moved

  all_wide : (e : Came) → length (seats_after e (suc t.count) slot kids seats) ≡ 32
  all_wide (came.Forked n) =
      let s : Seated = moved_on (came.Forked n) (suc t.count) Own in
      born_wide (suc t.count) s.forks 0 kids (put_at seats slot s) (put_wide seats slot s h.wide)
  all_wide (came.Arrived p) = put_wide seats slot (moved_on (came.Arrived p) (suc t.count) Own) h.wide
  all_wide came.Waited = put_wide seats slot (moved_on came.Waited (suc t.count) Own) h.wide
  all_wide came.Tried = put_wide seats slot (moved_on came.Tried (suc t.count) Own) h.wide
  all_wide came.Ended = put_wide seats slot (moved_on came.Ended (suc t.count) Own) h.wide
  all_wide (came.Over e) = put_wide seats slot (moved_on (came.Over e) (suc t.count) Own) h.wide

  -- THE SEATS FIT what is told then, where the run goes on
  pub fits_after : ends_run (end_of c) ≡ false → Fitting (seats_after c (suc t.count) slot kids seats) (added t Own.seat c used said)
  fits_after on = subst (Fitting (seats_after c (suc t.count) slot kids seats)) after_is (record {
    wide = all_wide c;
    whole = one_longer t.stints New ∙ ap suc h.whole;
    going = goes_more t.stints New ∙ (λ i. h.going i && not (on i));
    each = all_fit c refl;
  })
