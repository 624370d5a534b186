-- Rounds of a timed run, where the system tells its state; its start, and its end.
use Rattle.std.proofs.Common.{◌≡◌, ◌≤◌, ◌<◌, ◌⊎◌, inl, inr, ℕ, zero, suc, ◌+◌, ◌-◌, Bool, true, false, nat_le, if◌then◌else◌, List, [], ◌∷◌, length, drop, take}
use Rattle.std.proofs.Common.{Option, Some, None, refl, sym, ap, ◌∙◌, subst, arith, slice_index_or}
use Rattle.std.specs.Prelude.{replicate}
use Rattle.edi_told.specs.Told.{WhereTold}
use Rattle.edi_told.proofs.Told.{WhereTold-map, WhereTold-then}
use Rattle.edi_calls.specs.declared.ends.Outside.{Outside}
use Rattle.edi_calls.specs.Names.{Name, Table, find, same}
use Rattle.edi_calls.specs.Outcome as outcome
use Rattle.edi_calls.specs.Ready.{stays}
use Rattle.edi_calls.specs.State.{State}
use Rattle.edi_calls.proofs.Tables.{same-equal}
use Rattle.edi_trace.specs.Drawn.{Drawn}
use Rattle.edi_target.specs.Op as op
use Rattle.edi_target.specs.Op.{Instruction}
use Rattle.edi_target.specs.Check.{CodeParts}
use Rattle.edi_target.specs.Fetch.{fetch}
use Rattle.edi_target.specs.Mach.{Activity, Machine, Stepped, went, ended, entered, first_activity, after_step, run, finished}
use Rattle.edi_kernel.specs.declared.ends.Ending.{Ending}
use Rattle.edi_kernel.specs.declared.ends.Ending.TheVariants as ending
use Rattle.edi_kernel.specs.declared.ends.StintEnd.{StintEnd}
use Rattle.edi_kernel.specs.declared.ends.StintEnd.TheVariants as stint_end
use Rattle.edi_kernel.specs.declared.state.KernelState.{KernelState}
use Rattle.edi_kernel.specs.Stretch.{Blamed}
use Rattle.edi_kernel.specs.Table.{process_at, ready_slots}
use Rattle.edi_kernel.specs.TableIsMachine.{Naming, entry_of}
use Rattle.edi_kernel.specs.Kernel.{IsKernel, ended_by, faulted, is_over, used_in}
use Rattle.edi_kernel.specs.Named.{ChoosesBy, GoesBy, HoldsBy, SlotsStay}
use Rattle.edi_kernel.specs.Runs.{IsAt, IsAtBy, Started}
use Rattle.edi_kernel.proofs.Starting.{Enters, NeverEnters, enters, never_enters}
use Rattle.edi_timeline.specs.Stints.{Stint, begin, over}
use Rattle.edi_timeline.specs.Text.{kept}
use Rattle.edi_timeline.specs.Timelines.{Told, told_of}
use Rattle.edi_timeline.specs.declared.entry.Came.TheVariants as came
use Rattle.edi_timeline.specs.declared.entry.Said.{Said}
use Rattle.edi_timeline.specs.declared.entry.Seat.{Seat}
use Rattle.edi_timeline.specs.Adding.{added, said_in, stint_after}
use Rattle.edi_timeline.proofs.Telling.{told_adds}
use Rattle.edi_timed.specs.declared.seats.Seated.{Seated}
use Rattle.edi_timed.specs.declared.leaving.Begun.{Begun}
use Rattle.edi_timed.specs.Hearing.{HasShown}
use Rattle.edi_timed.specs.Ran.{Open, closed, timed, timed_after}
use Rattle.edi_timed.specs.Seats.{Fits, FitsSeat, Fitting, first_seated}
use Rattle.edi_timed.specs.Leaving.{AddsBy, Begins, ended_as}
use Rattle.edi_timed.specs.Timed.{Timed}
use Rattle.edi_timed.specs.Underway.{Going, RoundsTo, Sits}
use Rattle.edi_timed.proofs.Along.{begins}
use Rattle.edi_timed.proofs.Arms.{round_on, round_over}
use Rattle.edi_timed.proofs.Newest.{told_last}
use Rattle.edi_timed.proofs.Rounds.{HasGone}

-- ---- what is told

-- two relations of the same two states
pub told_both : {A : Type 0} (P Q R : A → A → Type 0) (o n : Option A) → ((x y : A) → P x y → Q x y → R x y) → WhereTold o n P → WhereTold o n Q → WhereTold o n R
told_both P Q R o None f p q = tt
told_both P Q R None (Some y) f p q = p
told_both P Q R (Some x) (Some y) f p q = f x y p q

pub where_same : (o : Option State) (P : State → State → Type 0) → ((s : State) → P s s) → WhereTold o o P
where_same None P h = tt
where_same (Some s) P h = h s

fault_or : (e : Ending) → (e ≡ ending.Fault) ⊎ (e ≡ ending.Fault → ⊥)
fault_or ending.Fault = inl refl
fault_or ending.Done = inr (λ h. absurd (cc))
fault_or (ending.Halted line) = inr (λ h. absurd (cc))
fault_or (ending.Failed cause line) = inr (λ h. absurd (cc))
fault_or ending.Turns = inr (λ h. absurd (cc))
fault_or ending.Standstill = inr (λ h. absurd (cc))
fault_or (ending.Bad at) = inr (λ h. absurd (cc))

-- no object has failed in a stint that has ended otherwise
over_fine : (F : Option Outside → Type 0) (before now : Outside → ℕ) (used : ℕ) (e : Ending) → (e ≡ ending.Fault → ⊥) →
    Blamed (faulted (stint_end.Over used e)) F before now → F None
over_fine F before now used ending.Fault other b = absurd (other refl)
over_fine F before now used ending.Done other b = b
over_fine F before now used (ending.Halted line) other b = b
over_fine F before now used (ending.Failed cause line) other b = b
over_fine F before now used ending.Turns other b = b
over_fine F before now used ending.Standstill other b = b
over_fine F before now used (ending.Bad at) other b = b

pub none_failed : (F : Option Outside → Type 0) (before now : Outside → ℕ) (ready : ℕ) (end : StintEnd) →
    (ended_by (ended_as ready end) ≡ Some ending.Fault → ⊥) → Blamed (faulted end) F before now → F None
none_failed F before now ready (stint_end.Over used e) other b = over_fine F before now used e (λ h. other (ap Some h)) b
none_failed F before now ready (stint_end.Arrived used) other b = b
none_failed F before now ready (stint_end.Forked used) other b = b
none_failed F before now ready (stint_end.Exited used) other b = b

pub not_over_before : (ready : ℕ) (end : StintEnd) → ended_by (ended_as ready end) ≡ None → is_over end ≡ false
not_over_before ready (stint_end.Over used e) is = absurd (cc)
not_over_before ready (stint_end.Arrived used) is = refl
not_over_before ready (stint_end.Forked used) is = refl
not_over_before ready (stint_end.Exited used) is = refl

pub same_ending : {e f : Ending} → Some e ≡ Some f → e ≡ f
same_ending h = cc

-- ---- a round

module _ (code : CodeParts) (bound : ℕ) (old k : KernelState) (now : Drawn) (begun : Begun) (start said : Said) (seats after : List Seated) (told later : Told)
    (begins : Begins old begun) (old_kernel : IsKernel old) (kernel : IsKernel k) (within : old.used ≤ bound) (small : k.used ≤ bound)
    (nothing : said_in start ≡ []) (few : said.many ≤ 7) (fits : Fits seats told) (end : StintEnd) (full : ℕ) (all : full ≡ bound - old.used)
    (turns : full - used_in end ≡ bound - k.used) where
  -- what the stint does, by its clauses
  abbrev pub Names : State → State → Type 0
  Names x y = (m : Machine) (p : Name) (others : List Name) (n : Naming) → IsAt code old x full m p others → HoldsBy n old m (Some p) others →
      GoesBy code.words end full old n k y m p others

  abbrev pub AnyRound : Option Ending → KernelState → Drawn → State → State → Type 0
  AnyRound result next drawn x y = (s : State) (first : Drawn) → first.source ≡ now.source → Going code s bound first old x now seats told →
      RoundsTo code s bound first result next y drawn after later

  gone : (x y : State) (s : State) (first : Drawn) → first.source ≡ now.source → Going code s bound first old x now seats told →
      HasGone code s bound first old k x y now begun said seats told
  gone x y s first source w = record {
    w = w;
    begins = begins;
    old_kernel = old_kernel;
    kernel = kernel;
    within = within;
    small = small;
    start = start;
    nothing = nothing;
    few = few;
    fits = fits;
    same_source = source;
  }

  named : (x y : State) (s : State) (first : Drawn) → (w : Going code s bound first old x now seats told) → Names x y →
      GoesBy code.words end full old w.naming k y w.machine w.name w.others
  named x y s first w names =
      names w.machine w.name w.others w.naming (subst (λ n. IsAt code old x n w.machine w.name w.others) (sym all) w.at) w.by

  abbrev Adds : Type 0
  Adds = AddsBy (nat_le 100000 told.count) code.words k begun (ended_as (length (ready_slots k.table)) end) said seats after told later

  pub told_over : (e : Ending) (o n : Option State) → ended_by (ended_as (length (ready_slots k.table)) end) ≡ Some e → WhereTold o n Names →
      ((e ≡ ending.Fault → ⊥) → WhereTold o n (HasShown start said)) → ((e ≡ ending.Fault → ⊥) → Adds) → WhereTold o n (AnyRound (Some e) k now)
  unfolding gone
  told_over e o n is names heard adds = go (fault_or e)
    where
      go : (e ≡ ending.Fault) ⊎ (e ≡ ending.Fault → ⊥) → WhereTold o n (AnyRound (Some e) k now)
      go (inl fault) =
          WhereTold-map Names (AnyRound (Some e) k now) o n
          (λ x y g s first source w.
          round_over code s bound first old k x y now begun said seats after told later (gone x y s first source w) full end e turns is (named x y s first w g)
          (λ other. absurd (other fault))) names
      go (inr other) =
          told_both Names (HasShown start said) (AnyRound (Some e) k now) o n
          (λ x y g h s first source w.
          round_over code s bound first old k x y now begun said seats after told later (gone x y s first source w) full end e turns is (named x y s first w g)
          (λ f. (adds f, λ room. h))) names (heard other)

  pub told_on : (next : KernelState) (drawn : Drawn) (o n : Option State) → ended_by (ended_as (length (ready_slots k.table)) end) ≡ None →
      WhereTold o n Names → WhereTold o n (HasShown start said) → Adds → k.taken ≡ None →
      ((names : Naming) (m : Machine) (ns : List Name) → HoldsBy names k m None ns → ChoosesBy names next m now drawn ns) → SlotsStay k.table next.table →
      next.used ≡ k.used → next.entering ≡ false → WhereTold o n (AnyRound None next drawn)
  unfolding gone
  told_on next drawn o n is names heard adds free chooses stay used entering =
      told_both Names (HasShown start said) (AnyRound None next drawn) o n
      (λ x y g h s first source w.
      round_on code s bound first old k x y now begun said seats after told later (gone x y s first source w) full next drawn free chooses stay used entering end
      turns is (named x y s first w g) (adds, λ room. h)) names heard

-- ---- the start

same_everywhere : (n i : ℕ) (s : Seated) → slice_index_or (replicate n s) i s ≡ s
same_everywhere zero i s = refl
same_everywhere (suc n) zero s = refl
same_everywhere (suc n) (suc i) s = same_everywhere n i s

abbrev activities_in : Stepped → Table Activity
activities_in (went m next) = m.activities
activities_in (ended e m) = m.activities

-- the first process is alone, and has not forked
alone : (found : Option (Instruction × ℕ)) (entry : ℕ) (calls : List ℕ) (left : ℕ) (s : State) (m : Machine) → entered found entry calls (suc left) s ≡ went m stays →
    (q : Name) (a : Activity) → find m.activities q ≡ Some a → (q ≡ []) × (a.forks ≡ 0)
alone (Some (op.entry need r p v f, body)) entry calls left s m is q a e =
    go (same q []) refl (ap (λ (t : Table Activity). find t q) (ap activities_in is) ∙ e)
  where
    go : (b : Bool) → same q [] ≡ b → (if b then Some (first_activity need (5 + p + v) body) else None) ≡ Some a → (q ≡ []) × (a.forks ≡ 0)
    go true f g = (same-equal q [] f, sym (ap (λ (z : Activity). z.forks) (some g)))
      where
        some : {a b : Activity} → Some a ≡ Some b → a ≡ b
        some e = cc
    go false f g = let w : None ≡ Some a = g in absurd (cc)
alone None entry calls left s m is q a e = absurd (cc)
alone (Some x) entry calls left s m is q a e = absurd (cc)

module _ (code : CodeParts) (bound : ℕ) (first : Drawn) (seats : List Seated) (told : Told) where
  abbrev pub GoingOn : KernelState → Drawn → List Seated → Told → State → State → Type 0
  GoingOn k now ss t s x = Going code s bound first k x now ss t

  abbrev pub EndedSo : Ending → KernelState → Drawn → Told → State → State → Type 0
  EndedSo e k now t s x = Timed code s bound first e k x now t

  module _ (k : KernelState) (started : Started code k) (o : Option State) (none : told ≡ record { stints = []; count = 0; ending = None }) where
    pub timed_first : 0 < bound → seats ≡ replicate 32 first_seated → WhereTold o o (GoingOn k first seats told)
    timed_first some all = where_same o (GoingOn k first seats told) begin
      where
        begin : (s : State) → GoingOn k first seats told s s
        begin s =
            let x : Enters code k s (bound - 1) = enters code k started s (bound - 1) in
            let b : suc (bound - 1) ≡ bound = omega (arith, some) in
            let left : bound - k.used ≡ bound = omega (arith, started.used) in
            let turn : entered (fetch code.words code.entry) code.entry code.calls bound s ≡ went x.machine stays =
            ap (λ i. entered (fetch code.words code.entry) code.entry code.calls i s) (sym b) ∙ x.is in
            let holds = x.holds in
            record {
              machine = x.machine;
              name = [];
              others = [];
              naming = holds.naming;
              stints = [];
              begun = record { process = []; turns = bound; shown = length s.shown; stood = None };
              at = subst (λ t. IsAtBy t code k s (bound - k.used) x.machine [] []) (sym started.entering)
                  (started, ap (λ i. entered (fetch code.words code.entry) code.entry code.calls i s) left ∙ turn, refl, refl);
              by = record { holds = holds; by = refl };
              underway = begins code first.source bound s first.drawn x.machine turn;
              has_begun = record {
                process = refl;
                turns = sym left;
                shown = refl;
                stood = λ h. let w : false ≡ true = h in absurd (cc);
              };
              used = sym started.used;
              unborn = λ i l f j path later. refl;
              seated = λ l i live.
                  let r : (holds.naming.name i ≡ []) × ((entry_of (process_at k.table i) (holds.naming.forks i)).forks ≡ 0) =
                  alone (fetch code.words code.entry) code.entry code.calls (bound - 1) s x.machine x.is (holds.naming.name i) _ (holds.stands.found i live) in
                  subst (Sits [] (holds.naming.name i) (holds.naming.forks i))
                  (sym (ap (λ ss. slice_index_or ss i first_seated) all ∙ same_everywhere 32 i first_seated)) (record {
                    named = sym r.0;
                    born = omega arith;
                    before = refl;
                    within = omega arith;
                    forked = sym r.1;
                    stands = refl;
                  });
              told_is = none;
            }

    pub timed_never : bound ≡ 0 → (said : Said) → said_in said ≡ [] → said.many ≤ 7 → (later : Told) →
        later ≡ added told (record { born = 0; fork = 0; branch = 0; before = 0 }) (came.Over ending.Turns) 0 said →
        WhereTold o o (EndedSo ending.Turns k first later)
    timed_never zero_bound said nothing few later is = where_same o (EndedSo ending.Turns k first later) never
      where
        never : (s : State) → EndedSo ending.Turns k first later s s
        never s =
            let x : NeverEnters code s = never_enters code k started s in
            let turn : entered (fetch code.words code.entry) code.entry code.calls bound s ≡ ended outcome.turns x.machine =
            ap (λ i. entered (fetch code.words code.entry) code.entry code.calls i s) zero_bound ∙ x.is in
            let ends : after_step first.source (run (fetch code.words) first.source 0) [] [] first.drawn
            (entered (fetch code.words code.entry) code.entry code.calls bound s) ≡ finished outcome.turns x.machine first.drawn =
            ap (after_step first.source (run (fetch code.words) first.source 0) [] [] first.drawn) turn in
            let b : Open = record { process = []; turns = bound; shown = length s.shown; stood = None } in
            let seat : Seat = record { born = 0; fork = 0; branch = 0; before = 0 } in
            let one : Stint = closed bound b [] (over outcome.turns) x.machine.turns x.machine.system.shown in
            let same : kept (stint_after [] seat (over outcome.turns) 0 (said_in said)) ≡ kept one =
            λ i. record {
              process = [];
              first = suc (no_turns i);
              last = no_last x i;
              from = begin;
              end = over outcome.turns;
              shown = (ap (take 7) nothing ∙ sym (ap (take 7) (ap (λ (z : State). drop (length s.shown) z.shown) x.system_is ∙ all_dropped s.shown))) i;
            } in
            let told_so : later ≡ told_of (one ∷ []) =
            is ∙ ap (λ t. added t seat (came.Over ending.Turns) 0 said) none ∙ told_adds [] seat (came.Over ending.Turns) 0 said (omega arith) few
            ∙ told_last [] (stint_after [] seat (over outcome.turns) 0 (said_in said)) one (omega arith) same in
            record {
              ran = record {
                machine = x.machine;
                end = outcome.turns;
                is = (0, ends);
                same = tt;
                memory = tt;
                system_is = x.system_is;
                turns = omega (arith, zero_bound, x.turns, started.used);
              };
              all = λ other. record {
                end = outcome.turns;
                machine = x.machine;
                drawn = first.drawn;
                ends = (0, ends);
                stints =
                    told_so
                    ∙ sym (ap (λ z. told_of (timed_after code.words first.source bound (timed code.words first.source bound 0) false b [] [] [] first.drawn z)) turn);
              };
            }
          where
            no_turns : 0 ≡ bound - bound
            no_turns = omega arith

            no_last : (x : NeverEnters code s) → 0 ≡ bound - x.machine.turns
            no_last x = omega (arith, zero_bound)

            all_dropped : (cs : List ℕ) → drop (length cs) cs ≡ []
            all_dropped [] = refl
            all_dropped (c ∷ cs) = all_dropped cs

  module _ (a b c : Option State) (old new : KernelState) (now next : Drawn) (ss after : List Seated) (t later : Told) (source : now.source ≡ first.source) where
    abbrev pub Round : Option Ending → State → State → Type 0
    Round result x y = (s : State) (d : Drawn) → d.source ≡ now.source → Going code s bound d old x now ss t → RoundsTo code s bound d result new y next after later

    pub timed_more : WhereTold a b (GoingOn old now ss t) → WhereTold b c (Round None) → WhereTold a c (GoingOn new next after later)
    timed_more h g = WhereTold-then (GoingOn old now ss t) (Round None) (GoingOn new next after later) a b c (λ s x y w round. round s first (sym source) w) h g

    pub timed_ends : (e : Ending) → WhereTold a b (GoingOn old now ss t) → WhereTold b c (Round (Some e)) → WhereTold a c (EndedSo e new next later)
    timed_ends e h g =
        WhereTold-then (GoingOn old now ss t) (Round (Some e)) (EndedSo e new next later) a b c (λ s x y w round. round s first (sym source) w) h g

-- at the start the seats fit a timeline that tells nothing
abbrev Nothing : Told
Nothing = record { stints = []; count = 0; ending = None }

first_fit : FitsSeat Nothing first_seated
first_fit = record { born = omega arith; forked = refl; before = omega arith; stood = refl; forks = omega arith }

begins_so : Fitting (replicate 32 first_seated) Nothing
begins_so = record {
  wide = refl;
  whole = refl;
  going = refl;
  each = λ slot. subst (FitsSeat Nothing) (sym (same_everywhere 32 slot first_seated)) first_fit;
}

pub first_fits : (seats : List Seated) (told : Told) → seats ≡ replicate 32 first_seated → told ≡ record { stints = []; count = 0; ending = None } → Fits seats told
first_fits seats told all none = subst (Fits seats) (sym none) (subst (λ ss. Fits ss Nothing) (sym all) (λ few. begins_so))
