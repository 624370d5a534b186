-- How the instruction that ends a stint leaves its process in the machine is how the step leaves it in the meaning.
use Rattle.std.proofs.Common.{◌≡◌, ℕ, Bool, true, false, ◌&&◌, if◌then◌else◌, List, Option, Some, None, refl, sym, ap, ◌∙◌}
use Rattle.std.specs.Prelude.{is_some}
use Rattle.std.proofs.lemmas.Bool.{eq-eqb}
use Rattle.edi_calls.specs.Names.{Name, find}
use Rattle.edi_calls.proofs.Names.{some_is}
use Rattle.edi_unit.specs.Tree.{Clauses, ProgramUnit}
use Rattle.edi_meaning.specs.Store.{shape}
use Rattle.edi_meaning.specs.Step.{Process, Processes, Position, Standing, ready, at_when, waiting}
use Rattle.edi_meaning.specs.Select.{marked}
use Rattle.edi_meaning.specs.Places.{is_at_when, attempts}
use Rattle.edi_target.specs.Fetch.{fetch}
use Rattle.edi_target.specs.Reading.{AreWords}
use Rattle.edi_target.specs.Mach as target
use Rattle.edi_target.specs.Mach.{Activity, Machine}
use Rattle.edi_follows.specs.places.Coded.{Coded}
use Rattle.edi_follows.specs.places.Related.{standing_of, activity, IsPlaced, Related}
use Rattle.edi_follows.specs.places.Lands as lands
use Rattle.edi_follows.proofs.Arrived.{none_by_names}
use Rattle.edi_timeline.specs.Stints as meant
use Rattle.edi_timeline.specs.Stints.{Start, End, arrives, waits, tries, started, start_of, failed_as, end_of}
use Rattle.edi_timeline.specs.Adding.{is_at}
use Rattle.edi_waits.specs.Places.{place}
use Rattle.edi_timed.specs.Ran.{is_marked, spot_as, spot_of, is_spot, Open, end_in}
use Rattle.edi_timed.proofs.meant.Placed.{place_is}

-- ---- spots

spots_alike : (o : Option Activity) → spot_of o ≡ lands.spot_of o
spots_alike None = refl
spots_alike (Some a) = by a.standing
  where
    by : (st : target.Standing) → spot_as a st ≡ lands.spot_as a st
    by target.ready = refl
    by target.at_when = refl
    by (target.waiting n) = refl

-- who attempts stands at its `when` in the machine too
pub attempts_stand : (g : Coded) (s : Processes) (t : Machine) → Related g s t → (p : Name) →
    is_some (lands.spot_of (find t.activities p)) ≡ attempts (find s.live p)
attempts_stand g s t r p = of_found (find s.live p) refl
  where
    of_found : (o : Option Process) → find s.live p ≡ o → is_some (lands.spot_of (find t.activities p)) ≡ attempts (find s.live p)
    of_found None e =
        ap (λ o. is_some (lands.spot_of o)) (none_by_names t.activities s.live p r.same_names e) ∙ sym (ap attempts e)
    of_found (Some q) e = ap (λ o. is_some (lands.spot_of o)) placed.found ∙ by q.standing ∙ sym (ap attempts e)
      where
        placed : IsPlaced g r.first (shape s.world.store) t.memory t.activities p q
        placed = r.words.each p q e

        by : (st : Standing) → is_some (lands.spot_as (activity g r.first (shape s.world.store) p q placed.pc) (standing_of st)) ≡ is_at_when st
        by ready = refl
        by (at_when cs position) = refl
        by (waiting n) = refl

-- who attempts has begun at a `when`
pub begun_there : (unit : ProgramUnit) (o : Option Process) → attempts o ≡ true → is_at (start_of unit o) ≡ true
begun_there unit None e = absurd (cc)
begun_there unit (Some q) e = by q.standing e
  where
    by : (st : Standing) → is_at_when st ≡ true → is_at (started unit q st) ≡ true
    by ready e = absurd (cc)
    by (at_when cs position) e = refl
    by (waiting n) e = absurd (cc)

some_spot : (o : Option (ℕ × ℕ)) → is_some o ≡ true → (spot : ℕ × ℕ) × (o ≡ Some spot)
some_spot None e = absurd (cc)
some_spot (Some spot) e = (spot, refl)

-- ---- after a step of p, from s and t to u and m

module _ (g : Coded) (words : List ℕ) (is : g.fetched ≡ fetch words) (fine : AreWords words) (s u : Processes) (t m : Machine) (p : Name)
    (before : Related g s t) (after : Related g u m) (failed quiet : Bool) (from : Start) (b : Open) (marks : List Name)
    (fails : failed ≡ is_some (lands.spot_of (find t.activities p)))
    (spots : (spot : ℕ × ℕ) → lands.spot_of (find t.activities p) ≡ Some spot → lands.spot_of (find m.activities p) ≡ Some spot)
    (same_marks : m.marks ≡ marked quiet p marks)
    (begun : attempts (find s.live p) ≡ true → is_at from ≡ true)
    (stood : attempts (find s.live p) ≡ true → b.stood ≡ spot_of (find t.activities p)) where
  abbrev attempt : Bool
  attempt = attempts (find s.live p)

  -- at its `when`, by the tests
  abbrev here : Activity → Bool → Bool → Bool → End
  here a v w x = if v && (w && x) then (if is_marked m.marks then waits else tries) else arrives (place words m.memory a.first a.base a.pc)

  has_failed : failed ≡ attempt
  has_failed = fails ∙ attempts_stand g s t before p

  -- it stands where the stint began
  stands_still : attempt ≡ true → (base pc : ℕ) → lands.spot_of (find m.activities p) ≡ Some (base, pc) → is_spot b.stood base pc ≡ true
  stands_still e base pc f =
      let spot : (spot : ℕ × ℕ) × (lands.spot_of (find t.activities p) ≡ Some spot) =
      some_spot (lands.spot_of (find t.activities p)) (attempts_stand g s t before p ∙ e) in
      let same : spot.0 ≡ (base, pc) = some_is (sym (spots spot.0 spot.1) ∙ f) in
      ap (λ o. is_spot o base pc) (stood e ∙ spots_alike (find t.activities p) ∙ spot.1 ∙ ap (λ z. Some z) same)
      ∙ (λ i. eq-eqb base base refl i && eq-eqb pc pc refl i)

  pub left_is : end_in words failed from b m (find m.activities p) ≡ end_of g.unit attempt quiet (find u.live p)
  left_is = of_found (find u.live p) refl
    where
      of_found : (o : Option Process) → find u.live p ≡ o →
          end_in words failed from b m (find m.activities p) ≡ end_of g.unit attempt quiet (find u.live p)
      of_found None e =
          ap (end_in words failed from b m) (none_by_names m.activities u.live p after.same_names e) ∙ sym (ap (end_of g.unit attempt quiet) e)
      of_found (Some q) e =
          ap (end_in words failed from b m) placed.found ∙ by q.standing refl ∙ sym (ap (end_of g.unit attempt quiet) e)
        where
          placed : IsPlaced g after.first (shape u.world.store) m.memory m.activities p q
          placed = after.words.each p q e

          a : Activity
          a = activity g after.first (shape u.world.store) p q placed.pc

          marks_say : (v : Bool) → quiet ≡ v → (if is_marked m.marks then waits else tries) ≡ failed_as g.unit v
          marks_say true f = ap (λ l. if is_marked l then waits else tries) (same_marks ∙ ap (λ v. marked v p marks) f)
          marks_say false f = ap (λ l. if is_marked l then waits else tries) (same_marks ∙ ap (λ v. marked v p marks) f)

          at_its_when : (cs : Clauses) (position : Position) → q.standing ≡ at_when cs position → (v : Bool) → attempt ≡ v →
              here a failed (is_at from) (is_spot b.stood a.base a.pc)
              ≡ (if attempt then failed_as g.unit quiet else arrives (meant.place g.unit position q.work))
          at_its_when cs position f true h =
              (λ i. here a ((has_failed ∙ h) i) (begun h i) (stands_still h a.base a.pc spot i)) ∙ marks_say quiet refl
              ∙ sym (ap (λ v. if v then failed_as g.unit quiet else arrives (meant.place g.unit position q.work)) h)
            where
              spot : lands.spot_of (find m.activities p) ≡ Some (a.base, a.pc)
              spot = ap lands.spot_of placed.found ∙ ap (λ st. lands.spot_as a (standing_of st)) f
          at_its_when cs position f false h =
              ap (λ v. here a v (is_at from) (is_spot b.stood a.base a.pc)) (has_failed ∙ h)
              ∙ ap arrives (place_is g words is fine u m after p q e cs position f)
              ∙ sym (ap (λ v. if v then failed_as g.unit quiet else arrives (meant.place g.unit position q.work)) h)

          by : (st : Standing) → q.standing ≡ st → end_in words failed from b m (Some a) ≡ end_of g.unit attempt quiet (Some q)
          by ready f =
              ap (λ z. Rattle.edi_timed.specs.Ran.left_as words failed from b m a (standing_of z)) f
              ∙ sym (ap (meant.stopped g.unit attempt quiet q) f)
          by (waiting n) f =
              ap (λ z. Rattle.edi_timed.specs.Ran.left_as words failed from b m a (standing_of z)) f
              ∙ sym (ap (meant.stopped g.unit attempt quiet q) f)
          by (at_when cs position) f =
              ap (λ z. Rattle.edi_timed.specs.Ran.left_as words failed from b m a (standing_of z)) f
              ∙ at_its_when cs position f attempt refl ∙ sym (ap (meant.stopped g.unit attempt quiet q) f)
