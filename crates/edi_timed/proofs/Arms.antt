-- A round of a timed run, by how its stint has ended.
use Rattle.std.proofs.Common.{◌≡◌, ◌<◌, ℕ, ◌+◌, ◌-◌, Bool, true, false, if◌then◌else◌, List, [], ◌∷◌, ◌++◌, length, drop}
use Rattle.std.proofs.Common.{Option, Some, None, refl, ap, sym, ◌∙◌, subst, arith}
use Rattle.std.specs.Prelude.{◌&&◌, ◌==◌, nat_lt}
use Rattle.std.proofs.lemmas.Bool.{eqb-true, lt-leb}
use Rattle.std.proofs.lemmas.List.{length-map}
use Rattle.edi_calls.specs.Names.{Name, find}
use Rattle.edi_calls.specs.Ready.{children}
use Rattle.edi_calls.specs.State.{State}
use Rattle.edi_target.specs.Attempts.{attempt_fails}
use Rattle.edi_target.specs.Check.{CodeParts}
use Rattle.edi_target.specs.Fetch.{fetch}
use Rattle.edi_target.specs.Mach.{Machine}
use Rattle.edi_trace.specs.Drawn.{Drawn}
use Rattle.edi_machine.specs.declared.activity.Activity.{Activity}
use Rattle.edi_kernel.specs.declared.ends.Ending.{Ending}
use Rattle.edi_kernel.specs.declared.ends.Ending.TheVariants as ending
use Rattle.edi_kernel.specs.declared.ends.StintEnd.{StintEnd}
use Rattle.edi_kernel.specs.declared.ends.StintEnd.TheVariants as stint_end
use Rattle.edi_kernel.specs.declared.state.KernelState.{KernelState}
use Rattle.edi_kernel.specs.declared.table.Standing.TheVariants as standing
use Rattle.edi_kernel.specs.Table.{process_at, ready_slots}
use Rattle.edi_kernel.specs.TableIsMachine.{Naming}
use Rattle.edi_kernel.specs.Kernel.{ForksInto, Switches, ended_by, used_in}
use Rattle.edi_kernel.specs.Named.{ChoosesBy, EndsBy, GoesBy, HoldsBy, NamesGrow, SlotsStay}
use Rattle.edi_kernel.proofs.Named.{goes_to}
use Rattle.edi_timeline.specs.Stints.{End, Stint, arrives, waits, tries}
use Rattle.edi_timeline.specs.Timelines.{Told}
use Rattle.edi_timeline.specs.declared.entry.Said.{Said}
use Rattle.edi_timeline.specs.Adding.{is_fork}
use Rattle.edi_waits.specs.Places.{place}
use Rattle.edi_timed.specs.declared.seats.Seated.{Seated}
use Rattle.edi_timed.specs.declared.leaving.Begun.{Begun}
use Rattle.edi_timed.specs.Ran.{end_in, is_spot, start_in}
use Rattle.edi_timed.specs.Seats.{Fitting}
use Rattle.edi_timed.specs.Leaving.{AddsBy, AddsStint, arrived_at, ended_as, left_at, spot_in}
use Rattle.edi_timed.specs.Timed.{Timed}
use Rattle.edi_timed.specs.Underway.{AreSeated, AreUnborn, Going}
use Rattle.edi_timed.proofs.Left.{arrived_is, failed_marks, forked_is, marks_are, ready_more}
use Rattle.edi_timed.proofs.Rounds.{AddsHeard, HasGone, Closed, End_now, Own, live, table, name_is, process_is, count_is, sits, stood_is, over_at, unready, goes_further}
use Rattle.edi_timed.proofs.Seated.{a_fork, seated_forked, seated_on, unborn_forked, unborn_on}

-- ---- an arrival is no fork

no_branch : (a b : Bool) (lines : List ℕ) → is_fork (if a then (if b then waits else tries) else arrives lines) ≡ false
no_branch true true lines = refl
no_branch true false lines = refl
no_branch false b lines = refl

module _ (words : List ℕ) (k : KernelState) (stands : Bool) (b : Begun) where
  arrived_plain : (o : Option Activity) → is_fork (arrived_at words k stands b o) ≡ false
  arrived_plain None = refl
  arrived_plain (Some a) =
      no_branch (k.failed && (stands && is_spot (spot_in b.stood) a.base a.pc)) (nat_lt 0 k.table.marks) (place words k.store a.segment.first a.base a.pc)

-- so many are ready, or none
by_count : (n : ℕ) (e : StintEnd) (x : Ending) (b : Bool) (used : ℕ) → ended_by (if b then stint_end.Over used ending.Standstill else e) ≡ Some x → ended_by e ≡ None →
    (b ≡ true) × (ending.Standstill ≡ x)
by_count n e x true used is none = (refl, cc)
by_count n e x false used is none = let w : None ≡ Some x = sym none ∙ is in absurd (cc)

not_over : (e : StintEnd) (b : Bool) (used : ℕ) → ended_by (if b then stint_end.Over used ending.Standstill else e) ≡ None → b ≡ false
not_over e true used is = let w : Some ending.Standstill ≡ None = is in absurd (cc)
not_over e false used is = refl

module _ (code : CodeParts) (s : State) (bound : ℕ) (first : Drawn) (old k : KernelState) (x y : State) (now : Drawn) (begun : Begun) (said : Said)
    (seats after : List Seated) (told later : Told) (f : HasGone code s bound first old k x y now begun said seats told) where
  abbrev w : Going code s bound first old x now seats told
  w = f.w

  abbrev slot : ℕ
  slot = begun.slot

  abbrev ready : ℕ
  ready = length (ready_slots k.table)

  abbrev Seat : Seated
  Seat = Own code s bound first old k x y now begun said seats after told later f

  abbrev Adds : StintEnd → Type 0
  Adds = AddsHeard code s bound first old k x y now begun said seats after told later f

  abbrev Result : Ending → Type 0
  Result e = Timed code s bound first e k y now later

  few_others : length w.others ≡ begun.others
  few_others =
      let holds = w.by.holds in
      ap length holds.is_ready ∙ length-map (ready_slots old.table) holds.naming.name ∙ sym f.begins.others

  -- ---- where it ends the run

  module _ (full : ℕ) where
    stood_still : (end : StintEnd) (used : ℕ) → full - used ≡ bound - k.used → (h : Switches code.words (full - used) k y w.machine w.name w.others) →
        EndsBy code.words k.failed w.machine w.name w.others h.machine h.joined → ended_by end ≡ None → (e : Ending) →
        ended_by (if ready == 0 then stint_end.Over used ending.Standstill else end) ≡ Some e →
        ((e ≡ ending.Fault → ⊥) → Adds (if ready == 0 then stint_end.Over used ending.Standstill else end)) → Result e
    stood_still end used turns h b going e is adds =
        let r : ((ready == 0) ≡ true) × (ending.Standstill ≡ e) = by_count ready end e (ready == 0) used is going in
        subst Result r.1
        (unready code s bound first old k x y now begun said seats after told later f (full - used) turns h b used (eqb-true ready 0 r.0)
        (subst (λ c. Adds (if c then stint_end.Over used ending.Standstill else end)) r.0 (adds (λ g. no_fault (r.1 ∙ g)))))
      where
        no_fault : ending.Standstill ≡ ending.Fault → ⊥
        no_fault g = absurd (cc)

    pub round_over : (end : StintEnd) (e : Ending) → full - used_in end ≡ bound - k.used → ended_by (ended_as ready end) ≡ Some e →
        GoesBy code.words end full old w.naming k y w.machine w.name w.others → ((e ≡ ending.Fault → ⊥) → Adds (ended_as ready end)) → Result e
    round_over (stint_end.Over used z) e turns is g adds =
        let one : z ≡ e = (cc) in
        subst Result one
        (over_at code s bound first old k x y now begun said seats after told later f z used full turns (goes_to code.words (stint_end.Over used z) full old w.naming k y w.machine w.name w.others g)
        (λ other. adds (λ h. other (one ∙ h))))
    round_over (stint_end.Arrived used) e turns is g adds = stood_still (stint_end.Arrived used) used turns g.0.0 g.3 refl e is adds
    round_over (stint_end.Forked used) e turns is g adds = stood_still (stint_end.Forked used) used turns g.0.0 g.2 refl e is adds
    round_over (stint_end.Exited used) e turns is g adds = stood_still (stint_end.Exited used) used turns g.0.0 g.3 refl e is adds

  -- ---- where the next goes on

  adds_stint : (end : StintEnd) → length w.stints < 100000 → Adds end → AddsStint code.words k begun end said seats after told later
  adds_stint end l adds =
      subst (λ b. AddsBy b code.words k begun end said seats after told later) (lt-leb 100000 told.count (omega (arith, l, count_is code s bound first old k x y now begun said seats after told later f))) adds.0

  fitting : length w.stints < 100000 → Fitting seats told
  fitting l = f.fits (omega (arith, l, count_is code s bound first old k x y now begun said seats after told later f))

  module _ (full : ℕ) (next : KernelState) (drawn : Drawn) (free : k.taken ≡ None)
      (chooses : (n : Naming) (m : Machine) (ns : List Name) → HoldsBy n k m None ns → ChoosesBy n next m now drawn ns) (stay : SlotsStay k.table next.table)
      (same_used : next.used ≡ k.used) (entering : next.entering ≡ false) where
    module _ (end : StintEnd) (used : ℕ) (turns : full - used ≡ bound - k.used) (h : Switches code.words (full - used) k y w.machine w.name w.others)
        (b : EndsBy code.words k.failed w.machine w.name w.others h.machine h.joined) where
      abbrev Now : End
      Now = End_now code s bound first old k x y now begun said seats after told later f (full - used) turns h b

      abbrev New : Stint
      New = Closed code s bound first old k x y now begun said seats after told later f Now h.machine

      abbrev Left : Type 0
      Left = length w.stints < 100000 → left_at code.words k Seat.stands begun end ≡ Now

      from_is : New.from ≡ start_in w.stints (w.naming.name slot)
      from_is = ap (start_in w.stints) (process_is code s bound first old k x y now begun said seats after told later f Now h.machine)

      -- the seats after it, where it has borne nobody
      on_plainly : Left → ended_by end ≡ None → is_fork (left_at code.words k Seat.stands begun end) ≡ false → (let holds = h.holds in holds.naming ≡ w.naming) → SlotsStay old.table k.table →
          Adds end → Going code s bound first next y drawn after later
      on_plainly left gives_way plain same stays adds =
          let holds = h.holds in
          goes_further code s bound first old k x y now begun said seats after told later f (full - used) turns h b next drawn end left gives_way adds
          (subst (AreUnborn (w.stints ++ New ∷ []) k.table) (sym same)
          (unborn_on old.table k.table w.naming w.machine (table code s bound first old k x y now begun said seats after told later f) w.stints New slot (live code s bound first old k x y now begun said seats after told later f) (process_is code s bound first old k x y now begun said seats after told later f Now h.machine) stays w.unborn))
          (λ l.
          let a : AddsStint code.words k begun end said seats after told later = adds_stint end l adds in
          subst (λ n. AreSeated (w.stints ++ New ∷ []) k.table n after) (sym same)
          (subst (AreSeated (w.stints ++ New ∷ []) k.table w.naming) (sym a.seats)
          (seated_on old.table k.table w.naming w.machine (table code s bound first old k x y now begun said seats after told later f) w.stints New slot (live code s bound first old k x y now begun said seats after told later f) (process_is code s bound first old k x y now begun said seats after told later f Now h.machine) seats a.came told.count
          (w.seated l) from_is (sym (a.is ∙ left l)) a.failed (count_is code s bound first old k x y now begun said seats after told later f) (fitting l).wide (drop begun.others (ready_slots k.table))
          (ap is_fork a.is ∙ plain) stays)))
          (chooses holds.naming h.machine (w.others ++ h.joined) (record { holds = holds; by = refl })) stay same_used entering

    -- an arrival, or an attempt that has failed
    arrived_on : (used : ℕ) → full - used ≡ bound - k.used → GoesBy code.words (stint_end.Arrived used) full old w.naming k y w.machine w.name w.others →
        Adds (stint_end.Arrived used) → Going code s bound first next y drawn after later
    arrived_on used turns g adds =
        let h : Switches code.words (full - used) k y w.machine w.name w.others = g.0.0 in
        let b : EndsBy code.words k.failed w.machine w.name w.others h.machine h.joined = g.3 in
        let holds = h.holds in
        on_plainly (stint_end.Arrived used) used turns h b
        (λ l.
        arrived_is code.words k h.machine w.name w.begun begun (start_in w.stints w.name) Seat.stands
        (attempt_fails (fetch code.words) b.before w.name (find b.before.activities w.name)) b.failed_is (sits code s bound first old k x y now begun said seats after told later f l).stands (stood_is code s bound first old k x y now begun said seats after told later f) g.0.1 holds.memory
        (λ e.
        marks_are k h.machine w.name w.others h.joined f.kernel free holds
        (failed_marks code.words b.before h.machine w.name w.others h.joined b.last (sym b.failed_is ∙ e)))
        used)
        refl (arrived_plain code.words k Seat.stands begun k.arrived) g.1 g.2 adds

    exited_on : (used : ℕ) → full - used ≡ bound - k.used → GoesBy code.words (stint_end.Exited used) full old w.naming k y w.machine w.name w.others →
        Adds (stint_end.Exited used) → Going code s bound first next y drawn after later
    exited_on used turns g adds =
        let h : Switches code.words (full - used) k y w.machine w.name w.others = g.0.0 in
        let b : EndsBy code.words k.failed w.machine w.name w.others h.machine h.joined = g.3 in
        on_plainly (stint_end.Exited used) used turns h b
        (λ l.
        sym (ap (end_in code.words (attempt_fails (fetch code.words) b.before w.name (find b.before.activities w.name)) (start_in w.stints w.name) w.begun h.machine) g.0.1))
        refl refl g.1 g.2 adds

    forked_on : (used : ℕ) → full - used ≡ bound - k.used → GoesBy code.words (stint_end.Forked used) full old w.naming k y w.machine w.name w.others →
        Adds (stint_end.Forked used) → Going code s bound first next y drawn after later
    forked_on used turns g adds =
        let h : Switches code.words (full - used) k y w.machine w.name w.others = g.0.0 in
        let b : EndsBy code.words k.failed w.machine w.name w.others h.machine h.joined = g.2 in
        let holds = h.holds in
        let fork : ForksInto w.name h.joined = g.0.1 in
        let grow : NamesGrow fork.fork fork.number old.taken old.table k.table w.naming holds.naming = g.1 in
        let stint : Stint = New (stint_end.Forked used) used turns h b in
        let old_holds = w.by.holds in
        let one : grow.slot ≡ slot = some (sym grow.was ∙ f.begins.taken) in
        let more : ready ≡ length (ready_slots old.table) + fork.number =
        ready_more holds.naming.name old_holds.naming.name (ready_slots k.table) (ready_slots old.table) w.name w.others h.joined fork.fork fork.number
        holds.is_ready fork.are old_holds.is_ready in
        let left : Left (stint_end.Forked used) used turns h b =
        (λ l.
        forked_is code.words k h.machine w.name w.begun begun (start_in w.stints w.name) Seat.stands
        (attempt_fails (fetch code.words) b.before w.name (find b.before.activities w.name)) b.failed_is (sits code s bound first old k x y now begun said seats after told later f l).stands (stood_is code s bound first old k x y now begun said seats after told later f) holds.naming slot
        (length (ready_slots old.table)) fork.number used holds.stands (grow.lives slot (live code s bound first old k x y now begun said seats after told later f)) (grow.names slot (live code s bound first old k x y now begun said seats after told later f) ∙ sym (name_is code s bound first old k x y now begun said seats after told later f))
        (subst (λ i. (process_at k.table i).standing ≡ standing.Waiting fork.number) one grow.waits) f.begins.others more) in
        goes_further code s bound first old k x y now begun said seats after told later f (full - used) turns h b next drawn (stint_end.Forked used) left refl adds
        (unborn_forked old.table k.table w.naming w.machine (table code s bound first old k x y now begun said seats after told later f) w.stints stint slot (live code s bound first old k x y now begun said seats after told later f) (process_is code s bound first old k x y now begun said seats after told later f (Now (stint_end.Forked used) used turns h b) h.machine) holds.naming fork.fork
        fork.number old.taken f.begins.taken grow w.unborn)
        (λ l.
        let a : AddsStint code.words k begun (stint_end.Forked used) said seats after told later = adds_stint (stint_end.Forked used) l adds in
        subst (AreSeated (w.stints ++ stint ∷ []) k.table holds.naming) (sym a.seats)
        (seated_forked old.table k.table w.naming w.machine (table code s bound first old k x y now begun said seats after told later f) w.stints stint slot (live code s bound first old k x y now begun said seats after told later f) (process_is code s bound first old k x y now begun said seats after told later f (Now (stint_end.Forked used) used turns h b) h.machine) seats a.came told.count
        (w.seated l) (from_is (stint_end.Forked used) used turns h b) (sym (a.is ∙ left l)) a.failed (count_is code s bound first old k x y now begun said seats after told later f) (fitting l).wide
        (ready - begun.others) (a_fork a.came (ready - begun.others) a.is) holds.naming fork.fork fork.number begun.others old.taken f.begins.taken grow w.others
        h.joined f.begins.others few_others holds.is_ready (fork.are ∙ ap (λ q. children q fork.fork 0 fork.number) (name_is code s bound first old k x y now begun said seats after told later f)) w.unborn))
        (chooses holds.naming h.machine (w.others ++ h.joined) (record { holds = holds; by = refl })) stay same_used entering
      where
        some : {a b : ℕ} → Some a ≡ Some b → a ≡ b
        some e = cc

    pub round_on : (end : StintEnd) → full - used_in end ≡ bound - k.used → ended_by (ended_as ready end) ≡ None →
        GoesBy code.words end full old w.naming k y w.machine w.name w.others → Adds (ended_as ready end) → Going code s bound first next y drawn after later
    round_on (stint_end.Over used z) turns is g adds = absurd (cc)
    round_on (stint_end.Arrived used) turns is g adds =
        arrived_on used turns g
        (subst (λ c. Adds (if c then stint_end.Over used ending.Standstill else stint_end.Arrived used)) (not_over (stint_end.Arrived used) (ready == 0) used is) adds)
    round_on (stint_end.Forked used) turns is g adds =
        forked_on used turns g
        (subst (λ c. Adds (if c then stint_end.Over used ending.Standstill else stint_end.Forked used)) (not_over (stint_end.Forked used) (ready == 0) used is) adds)
    round_on (stint_end.Exited used) turns is g adds =
        exited_on used turns g
        (subst (λ c. Adds (if c then stint_end.Over used ending.Standstill else stint_end.Exited used)) (not_over (stint_end.Exited used) (ready == 0) used is) adds)
