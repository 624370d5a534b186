-- What is told of stints, with one more.
use Rattle.std.proofs.Common.{◌≡◌, ◌≤◌, ◌<◌, ℕ, zero, suc, ◌+◌, ◌&&◌, not, Bool, true, false, if◌then◌else◌, List, [], ◌∷◌, ◌++◌, refl, ap, sym, ◌∙◌, subst}
use Rattle.std.proofs.Common.{arith, length, map, Option, Some, None, nat_le, length-append, length-take}
use Rattle.std.specs.Prelude.{slice_get, take}
use Rattle.std.proofs.lemmas.Bool.{and_parts, and_from, leb-true, false_from_ne_true}
use Rattle.std.proofs.lemmas.List.{map-append, length-map}
use Rattle.edi_calls.specs.Names.{Name}
use Rattle.edi_calls.specs.Outcome.{Ending}
use Rattle.edi_timeline.specs.declared.entry.Seat.{Seat}
use Rattle.edi_timeline.specs.declared.entry.Said.{Said}
use Rattle.edi_timeline.specs.declared.entry.Came.{Came}
use Rattle.edi_timeline.specs.Stints.{Start, End, Stint, ending_by, ending_of}
use Rattle.edi_timeline.specs.Text.{most_lines, kept}
use Rattle.edi_timeline.specs.Timelines.{Told, told_of}
use Rattle.edi_timeline.specs.Adding.{said_in, end_of, nth_stint, start_after, process_after, used_by, stint_after, added, counted, ends_run, is_going, bears, is_at, SeatFits}
use Rattle.edi_timeline.proofs.Counting.{taken_whole}

-- ---- what is kept of stints is enough for the next

abbrev kept_in : Option Stint → Option Stint
kept_in None = None
kept_in (Some x) = Some (kept x)

get_kept : (xs : List Stint) (n : ℕ) → slice_get (map kept xs) n ≡ kept_in (slice_get xs n)
get_kept [] n = refl
get_kept (x ∷ xs) zero = refl
get_kept (x ∷ xs) (suc n) = get_kept xs n

nth_kept : (xs : List Stint) (n : ℕ) → nth_stint (map kept xs) n ≡ kept_in (nth_stint xs n)
nth_kept xs zero = refl
nth_kept xs (suc n) = get_kept xs n

same_bears : (o : Option Stint) → bears (kept_in o) ≡ bears o
same_bears None = refl
same_bears (Some x) = refl

same_after : (o : Option Stint) → start_after (kept_in o) ≡ start_after o
same_after None = refl
same_after (Some x) = refl

same_child : (o : Option Stint) (f i : ℕ) → process_after (kept_in o) f i ≡ process_after o f i
same_child None f i = refl
same_child (Some x) f i = refl

same_used : (used : ℕ) (xs : List Stint) → used_by used (map kept xs) ≡ used_by used xs
same_used used [] = refl
same_used used (x ∷ xs) = same_used x.last xs

module _ (xs : List Stint) (s : Seat) (end : End) (used : ℕ) (shown : List ℕ) where
  abbrev with_parts : Name → ℕ → Start → Stint
  with_parts process first from = record { process = process; first = first; last = used; from = from; end = end; shown = shown }

  same_stint : stint_after (map kept xs) s end used shown ≡ stint_after xs s end used shown
  same_stint =
      (λ i.
      with_parts
      ((ap (λ o. process_after o s.fork s.branch) (nth_kept xs s.born) ∙ same_child (nth_stint xs s.born) s.fork s.branch) i)
      (suc (same_used 0 xs i))
      ((ap start_after (nth_kept xs s.before) ∙ same_after (nth_stint xs s.before)) i))

-- ---- so many are told

within : {A : Type 0} (n : ℕ) (xs ys : List A) → n ≤ length xs → take n (xs ++ ys) ≡ take n xs
within zero [] [] l = refl
within zero [] (y ∷ ys) l = refl
within zero (x ∷ xs) ys l = refl
within (suc n) [] ys l = absurd (omega (arith, l))
within (suc n) (x ∷ xs) ys l = ap (λ zs. x ∷ zs) (within n xs ys (omega (arith, l)))

abbrev told : List Stint → ℕ → Option Ending → Told
told xs n how = record { stints = xs; count = n; ending = how }

-- the last stint tells how the run has ended
pub last_tells : (xs : List Stint) (x : Stint) → ending_of (xs ++ x ∷ []) ≡ ending_by x.end
last_tells [] x = refl
last_tells (y ∷ []) x = refl
last_tells (y ∷ z ∷ xs) x = last_tells (z ∷ xs) x

one_longer : {A : Type 0} (xs : List A) (x : A) → length (xs ++ x ∷ []) ≡ suc (length xs)
one_longer xs x = let l : length (xs ++ x ∷ []) ≡ length xs + 1 = length-append xs (x ∷ []) in omega (arith, l)

pub told_counts : (xs : List Stint) (x : Stint) → 100000 ≤ length xs → counted (told_of xs) (ending_by x.end) ≡ told_of (xs ++ x ∷ [])
told_counts xs x l =
    (λ i. told (map kept (sym (within most_lines xs (x ∷ []) l) i)) (sym (one_longer xs x) i) (sym (last_tells xs x) i))

kept_short : (x : Stint) → length x.shown ≤ 7 → kept x ≡ x
kept_short x l = ap (λ s. record x { shown = s }) (taken_whole 7 x.shown l)

pub told_adds : (xs : List Stint) (s : Seat) (c : Came) (used : ℕ) (said : Said) → length xs < 100000 → said.many ≤ 7 →
    added (told_of xs) s c used said ≡ told_of (xs ++ stint_after xs s (end_of c) used (said_in said) ∷ [])
told_adds xs s c used said l few =
    let x : Stint = stint_after xs s (end_of c) used (said_in said) in
    let all : take most_lines xs ≡ xs = taken_whole most_lines xs (omega (arith, l)) in
    let and_one : take most_lines (xs ++ x ∷ []) ≡ xs ++ x ∷ [] =
    taken_whole most_lines (xs ++ x ∷ []) (omega (arith, l, one_longer xs x)) in
    let short : length (said_in said) ≤ 7 = omega (arith, few, length-take said.many said.characters) in
    let room : nat_le most_lines (length xs) ≡ false = false_from_ne_true (nat_le most_lines (length xs)) (λ h. omega (arith, l, leb-true most_lines (length xs) h)) in
    let how : Option Ending = ending_by (end_of c) in
    let old : List Stint → Told = λ ys. told (map kept ys ++ stint_after (map kept ys) s (end_of c) used (said_in said) ∷ []) (suc (length xs)) how in
    ap (λ b. if b then counted (told_of xs) how else old (take most_lines xs)) room
    ∙ ap old all
    ∙ ap (λ y. told (map kept xs ++ y ∷ []) (suc (length xs)) how) (same_stint xs s (end_of c) used (said_in said) ∙ sym (kept_short x short))
    ∙ ap (λ ys. told ys (suc (length xs)) how) (sym (map-append kept xs (x ∷ [])))
    ∙ (λ i. told (map kept (sym and_one i)) (sym (one_longer xs x) i) (sym (last_tells xs x) i))

-- ---- a run that goes on

going_taken : (n : ℕ) (xs : List Stint) → is_going xs ≡ true → is_going (map kept (take n xs)) ≡ true
going_taken zero [] h = refl
going_taken zero (x ∷ xs) h = refl
going_taken (suc n) [] h = refl
going_taken (suc n) (x ∷ xs) h =
    let (one, rest) = and_parts (not (ends_run x.end)) (is_going xs) h in
    and_from (not (ends_run x.end)) (is_going (map kept (take n xs))) one (going_taken n xs rest)

pub told_goes : (xs : List Stint) → is_going xs ≡ true → is_going (told_of xs).stints ≡ true
told_goes xs h = going_taken most_lines xs h

and_more : (a b c : Bool) → a && (b && c) ≡ (a && b) && c
and_more true b c = refl
and_more false b c = refl

both : (b : Bool) → b && true ≡ b
both true = refl
both false = refl

pub goes_more : (xs : List Stint) (x : Stint) → is_going (xs ++ x ∷ []) ≡ (is_going xs && not (ends_run x.end))
goes_more [] x = both (not (ends_run x.end))
goes_more (y ∷ xs) x =
    ap (λ b. not (ends_run y.end) && b) (goes_more xs x) ∙ and_more (not (ends_run y.end)) (is_going xs) (not (ends_run x.end))

pub told_seats : (xs : List Stint) (s : Seat) (c : Came) → length xs < 100000 → SeatFits xs s c → SeatFits (told_of xs).stints s c
told_seats xs s c l fits =
    let all : take most_lines xs ≡ xs = taken_whole most_lines xs (omega (arith, l)) in
    let kept_all : (told_of xs).stints ≡ map kept xs = ap (map kept) all in
    subst (λ ys. SeatFits ys s c) (sym kept_all) (record {
      born = omega (arith, fits.born, length-map xs kept);
      forked = ap bears (nth_kept xs s.born) ∙ same_bears (nth_stint xs s.born) ∙ fits.forked;
      before = omega (arith, fits.before, length-map xs kept);
      stood = λ h. ap is_at (ap start_after (nth_kept xs s.before) ∙ same_after (nth_stint xs s.before)) ∙ fits.stood h;
    })
