-- What a timeline and the seats get of a stint.
use Rattle.std.proofs.Common.{◌≡◌, ℕ, suc, Bool, true, false, nat_le, nat_lt, if◌then◌else◌, List, [], ◌∷◌, ◌++◌, drop, Option, Some, None}
use Rattle.std.proofs.Common.{refl, ap, sym, ◌∙◌, subst}
use Rattle.std.specs.Prelude.{◌&&◌}
use Rattle.edi_machine.specs.declared.activity.Activity.{Activity}
use Rattle.edi_kernel.specs.declared.ends.Ending.{Ending}
use Rattle.edi_kernel.specs.declared.ends.Ending.TheVariants as ending
use Rattle.edi_kernel.specs.declared.ends.StintEnd.{StintEnd}
use Rattle.edi_kernel.specs.declared.ends.StintEnd.TheVariants as stint_end
use Rattle.edi_kernel.specs.declared.state.KernelState.{KernelState}
use Rattle.edi_kernel.specs.Table.{ready_slots}
use Rattle.edi_kernel.specs.Kernel.{ended_by, is_over}
use Rattle.edi_timeline.specs.Stints.{arrives, waits, tries, ending_by}
use Rattle.edi_timeline.specs.Timelines.{Told}
use Rattle.edi_timeline.specs.declared.entry.Came.{Came}
use Rattle.edi_timeline.specs.declared.entry.Said.{Said}
use Rattle.edi_timeline.specs.declared.entry.Seat.{Seat}
use Rattle.edi_timeline.specs.Adding.{SeatFits, added, counted, end_of, ends_run, has_failed, said_in, stint_after}
use Rattle.edi_waits.specs.Places.{place}
use Rattle.edi_timed.specs.declared.seats.Seated.{Seated}
use Rattle.edi_timed.specs.declared.leaving.Begun.{Begun}
use Rattle.edi_timed.specs.Ran.{is_spot}
use Rattle.edi_timed.specs.Seats.{Fits, Fitting, seat_at, seats_after}
use Rattle.edi_timed.specs.Leaving.{AddsBy, arrived_at, is_fault, left_at, spot_in}
use Rattle.edi_timed.proofs.Seating.{fits_after, seat_fits}

-- ---- endings

pub fault_is : (o : Option Ending) → is_fault o ≡ true → o ≡ Some ending.Fault
fault_is None h = let w : false ≡ true = h in absurd (cc)
fault_is (Some ending.Fault) h = refl
fault_is (Some ending.Done) h = let w : false ≡ true = h in absurd (cc)
fault_is (Some (ending.Halted line)) h = let w : false ≡ true = h in absurd (cc)
fault_is (Some (ending.Failed cause line)) h = let w : false ≡ true = h in absurd (cc)
fault_is (Some ending.Turns) h = let w : false ≡ true = h in absurd (cc)
fault_is (Some ending.Standstill) h = let w : false ≡ true = h in absurd (cc)
fault_is (Some (ending.Bad at)) h = let w : false ≡ true = h in absurd (cc)

pub not_over : (end : StintEnd) → ended_by end ≡ None → is_over end ≡ false
not_over (stint_end.Over used x) e = absurd (cc)
not_over (stint_end.Arrived used) e = refl
not_over (stint_end.Forked used) e = refl
not_over (stint_end.Exited used) e = refl

-- a stint that does not end the run
goes_by : (a b : Bool) (lines : List ℕ) → ends_run (if a then (if b then waits else tries) else arrives lines) ≡ false
goes_by true true lines = refl
goes_by true false lines = refl
goes_by false b lines = refl

module _ (words : List ℕ) (k : KernelState) (stands : Bool) (b : Begun) where
  arrived_goes : (o : Option Activity) → ends_run (arrived_at words k stands b o) ≡ false
  arrived_goes None = refl
  arrived_goes (Some a) =
      goes_by (k.failed && (stands && is_spot (spot_in b.stood) a.base a.pc)) (nat_lt 0 k.table.marks) (place words k.store a.segment.first a.base a.pc)

  left_goes : (end : StintEnd) → is_over end ≡ false → ends_run (left_at words k stands b end) ≡ false
  left_goes (stint_end.Arrived used) h = arrived_goes k.arrived
  left_goes (stint_end.Forked used) h = refl
  left_goes (stint_end.Exited used) h = refl
  left_goes (stint_end.Over used e) h = let w : true ≡ false = h in absurd (cc)

-- ---- one more is counted

pub one_counted : (t : Told) (s : Seat) (c : Came) (used : ℕ) (said : Said) → (added t s c used said).count ≡ suc t.count
one_counted t s c used said =
    go (nat_le 100000 t.count) (counted t (ending_by (end_of c)))
    (record {
      stints = t.stints ++ stint_after t.stints s (end_of c) used (said_in said) ∷ [];
      count = suc t.count;
      ending = ending_by (end_of c);
    }) refl refl
  where
    go : (b : Bool) (x y : Told) → x.count ≡ suc t.count → y.count ≡ suc t.count → (if b then x else y).count ≡ suc t.count
    go true x y e f = e
    go false x y e f = f

module _ (words : List ℕ) (k : KernelState) (begun : Begun) (end : StintEnd) (said : Said) (seats after : List Seated) (t later : Told) where
  module _ (seated : Seated) (came : Came) (used number : ℕ) (h : Fitting seats t) (room : nat_le 100000 t.count ≡ false)
      (seated_is : seated ≡ seat_at seats begun.slot) (exact : end_of came ≡ left_at words k seated.stands begun end)
      (failed : has_failed came ≡ true → seated.stands ≡ true) where
    own_failed : has_failed came ≡ true → (seat_at seats begun.slot).stands ≡ true
    own_failed e = ap (λ (z : Seated). z.stands) (sym seated_is) ∙ failed e

    pub seat_ok : SeatFits t.stints seated.seat came
    seat_ok =
        subst (λ (z : Seated). SeatFits t.stints z.seat came) (sym seated_is)
        (seat_fits seats t came used said begun.slot [] h room own_failed)

    module _ (used_is : used ≡ k.used) (added_is : later ≡ added t seated.seat came used said) (number_is : number ≡ later.count)
        (seats_are : after ≡ seats_after came number begun.slot (drop begun.others (ready_slots k.table)) seats) where
      number_now : number ≡ suc t.count
      number_now = number_is ∙ ap (λ (z : Told). z.count) added_is ∙ one_counted t seated.seat came used said

      told_is : later ≡ added t (seat_at seats begun.slot).seat came k.used said
      told_is = added_is ∙ (λ i. added t ((seated_is i).seat) came (used_is i) said)

      seats_now : after ≡ seats_after came (suc t.count) begun.slot (drop begun.others (ready_slots k.table)) seats
      seats_now = seats_are ∙ ap (λ n. seats_after came n begun.slot (drop begun.others (ready_slots k.table)) seats) number_now

      pub adds_so : AddsBy (nat_le 100000 t.count) words k begun end said seats after t later
      adds_so = subst (λ b. AddsBy b words k begun end said seats after t later) (sym room) (record {
        came = came;
        is = exact ∙ ap (λ (z : Seated). left_at words k z.stands begun end) seated_is;
        failed = own_failed;
        told = told_is;
        seats = seats_now;
      })

      pub more_fits : is_over end ≡ false → Fits after later
      more_fits going l =
          subst (λ z. Fitting z later) (sym seats_now)
          (subst (Fitting (seats_after came (suc t.count) begun.slot (drop begun.others (ready_slots k.table)) seats)) (sym told_is)
          (fits_after seats t came k.used said begun.slot (drop begun.others (ready_slots k.table)) h room own_failed
          (ap ends_run exact ∙ left_goes words k seated.stands begun end going)))
