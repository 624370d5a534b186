-- Stint after stint from a state of a search.
use Rattle.std.proofs.Common.{◌≡◌, inl, inr, ℕ, ◌+◌, ◌<◌, ◌≤◌, ◌^◌, arith, Bool, true, false, ◌&&◌, List, length, None, refl, sym, ap, subst, ◌∙◌}
use Rattle.std.proofs.lemmas.Bool.{cases_lt}
use Rattle.edi_calls.specs.Outcome as outcome
use Rattle.edi_target.specs.Check.{CodeParts}
use Rattle.edi_kernel.specs.declared.ends.Ending.{Ending}
use Rattle.edi_kernel.specs.declared.ends.Ending.TheVariants as ending
use Rattle.edi_kernel.specs.declared.ends.StintEnd.{StintEnd}
use Rattle.edi_kernel.specs.declared.state.KernelState.{KernelState}
use Rattle.edi_kernel.specs.Kernel.{IsKernel, is_over}
use Rattle.edi_explored.specs.Covered.{Tells}
use Rattle.edi_explored.specs.machine.Kernels.{AreApart, IsFailed}
use Rattle.edi_explore.specs.declared.ends.Limits.{Limits}
use Rattle.edi_explore.specs.declared.expand.Expanded.{Expanded}
use Rattle.edi_explore.specs.declared.expand.Expanded.TheVariants as expanded
use Rattle.edi_explore.specs.declared.finding.Search.{Search}
use Rattle.edi_explore.specs.declared.offline.Offline.{Offline}
use Rattle.edi_explore.specs.declared.step.Followed.{Followed}
use Rattle.edi_explore.specs.declared.step.Followed.TheVariants as followed
use Rattle.edi_explore.specs.Expand.{Apart, ComesTo, GoesFurther, HasExpanded, HasOneThatGoes, HasStint, HasStintThat, HasStintsTo, IsSearch, LeadsFrom, both, by_record}
use Rattle.edi_explore.specs.Offline.{offline}
use Rattle.edi_explore.specs.Shown.{HasEnding, asks_of, told_by}
use Rattle.edi_explore.specs.Systems.{system_of}
use Rattle.edi_explore.specs.States.{AreStates, Follows, slots_of}
use Rattle.edi_explore.specs.Steps.{FollowedAs, FollowsStint}
use Rattle.edi_explore.specs.Tables.{Grows, shown_at, table_of}
use Rattle.edi_explore.proofs.Findings.{stands}
use Rattle.edi_explore.proofs.Growing.{follows_same}
use Rattle.edi_explore.proofs.Iteration.{AreKeptIn, FoundSo, expanded_still, found_ended, found_failed, found_led, goes_ended, goes_on, goes_still, kept_added, leads_on, stint_still, stint_there}
use Rattle.edi_explore.proofs.Table.{grows_added, grows_equal, grows_on, grows_same, longer, number_within, processes_still, shown_of}

-- ---- nothing is lacking of both

pub both_first : (a b : Expanded) → both a b ≡ expanded.Whole → a ≡ expanded.Whole
both_first expanded.Whole b e = refl
both_first expanded.Cut b e = e
both_first expanded.Unrecorded b e = e

pub both_other : (a b : Expanded) → both a b ≡ expanded.Whole → b ≡ expanded.Whole
both_other expanded.Whole b e = e
both_other expanded.Cut b e = absurd (cc)
both_other expanded.Unrecorded b e = absurd (cc)

pub recorded_told : (told : Bool) → by_record told ≡ expanded.Whole → told ≡ true
recorded_told true e = refl
recorded_told false e = absurd (cc)

-- ---- searches that go further

module _ (code : CodeParts) (input : List ℕ) (limits : Limits) where
  pub further_same : (a : Search) → IsSearch code input limits a → GoesFurther code input limits a a
  further_same a is = record { search = is; grows = grows_same a.states }

  pub further_on : (a b c : Search) → GoesFurther code input limits a b → GoesFurther code input limits b c → GoesFurther code input limits a c
  further_on a b c f g = record { search = g.search; grows = grows_on a.states b.states c.states f.grows g.grows }

  -- with the same states
  pub further_equal : (a b : Search) → IsSearch code input limits a → b.states ≡ a.states → b.calls.input.items ≡ input → GoesFurther code input limits a b
  further_equal a b is e same = record {
    search = record {
      states = subst AreStates (sym e) is.states;
      input_is = same;
      kept = subst (λ s. AreKeptIn s input) (sym e) is.kept;
    };
    grows = grows_equal a.states b.states e;
  }

  -- after a stint
  pub further_by : (from : ℕ) (a b : Search) (k : KernelState) (o : Offline) → IsSearch code input limits a → b.calls.input.items ≡ input → IsKernel k → length k.store ≡ 2 ^ 16 →
      (r : Followed) (end : StintEnd) → (is_over end ≡ false → k.taken ≡ None) → FollowedAs (asks_of limits) from r end a.states b.states k o → GoesFurther code input limits a b
  further_by from a b k o is same kernel long (followed.Ended e) end free f = further_equal a b is f.2 same
  further_by from a b k o is same kernel long followed.Cut end free f = further_equal a b is f same
  further_by from a b k o is same kernel long followed.Failed end free f = further_equal a b is f.1 same
  further_by from a b k o is same kernel long followed.Led end free f = record {
    search = record {
      states = f.2.0.states;
      input_is = same;
      kept = kept_added from (asks_of limits) a.states b.states input k o is.states kernel (free f.0) f.1 long f.2 is.kept;
    };
    grows = grows_added from (asks_of limits) a.states b.states k o f.2;
  }

  -- ---- what came of a stint

  module _ (a b : Search) (v index : ℕ) (k : KernelState) (o : Offline) (is : IsSearch code input limits a) (inside : v < length a.states.keys.keys)
      (same : o.input.items ≡ input) (calls : b.calls.input.items ≡ input) where
    abbrev Followed_ : Followed → Type 0
    Followed_ r = FollowsStint code limits v index r a.states b.states k o

    abbrev Fine : Bool → Type 0
    Fine fails = Apart code input limits b v → HasStintThat code input limits b fails v index

    further : (r : Followed) → Followed_ r → GoesFurther code input limits a b
    further r f = further_by v a b k o is calls f.goes.kernel f.goes.long r f.end f.goes.free f.so

    there : {end : StintEnd} (fails : Bool) → (one : HasStint code input limits b v index) × (one.end ≡ end) × (one.after ≡ k) →
        (fails ≡ false → IsFailed end k → ⊥) → HasStintThat code input limits b fails v index
    there fails r goes = record { one = r.0; goes = λ e x. goes e (subst (λ y. y) (λ i. IsFailed (r.1 i) (r.2 i)) x) }

    pub came_led : Followed_ followed.Led → ComesTo code input limits a b expanded.Whole (Fine false)
    came_led f =
        let g = further followed.Led f in
        record {
          further = g;
          so = λ _ apart.
              there false (stint_there code input limits a.states b.states b.found.items v index f.end k o is.states inside g.grows same f.goes
              (found_led code (offline input) limits.turns (asks_of limits) b.found.items (table_of b.states input) (LeadsFrom code input limits b v) f.end k (system_of o) f.so.0
              (leads_on code input limits.turns (asks_of limits) a.states b.states b.found.items k o (LeadsFrom code input limits b v) f.so.2.0
              (number_within a.states b.states input (asks_of limits) k o f.so.2.0, f.so.2.1.there) same)) apart) (λ _. goes_on f.end k f.so.0 f.so.1);
        }

    pub came_failed : Followed_ followed.Failed → ComesTo code input limits a b expanded.Whole (Fine true)
    came_failed f =
        let g = further followed.Failed f in
        record {
          further = g;
          so = λ _ apart.
              there true (stint_there code input limits a.states b.states b.found.items v index f.end k o is.states inside g.grows same f.goes
              (found_failed code (offline input) limits.turns (asks_of limits) b.found.items (table_of b.states input) (LeadsFrom code input limits b v) f.end k (system_of o) f.so.0) apart)
              (λ e. absurd (no_bool e));
        }
      where
        no_bool : true ≡ false → ⊥
        no_bool e = cc

    pub came_cut : Followed_ followed.Cut → (whole : Type 0) → ComesTo code input limits a b expanded.Cut whole
    came_cut f whole = record { further = further followed.Cut f; so = λ e. absurd (no_cut e) }
      where
        no_cut : expanded.Cut ≡ expanded.Whole → ⊥
        no_cut e = cc

    pub came_ended : (e : Ending) (told : Bool) → Followed_ (followed.Ended e) → (told ≡ true → HasEnding (asks_of limits) b.found.items e o.shown.items) →
        ComesTo code input limits a b (by_record told) (Fine false)
    came_ended e told f has =
        let g = further (followed.Ended e) f in
        record {
          further = g;
          so = λ whole apart.
              there false (stint_there code input limits a.states b.states b.found.items v index f.end k o is.states inside g.grows same f.goes
              (subst (λ x. FoundSo code (offline input) limits.turns (asks_of limits) b.found.items (table_of b.states input) (LeadsFrom code input limits b v) x k (system_of o)) (sym f.so.0.1)
              (found_ended code (offline input) limits.turns (asks_of limits) b.found.items (table_of b.states input) (LeadsFrom code input limits b v) f.so.0.0 e k (system_of o) f.so.1
              (has (recorded_told told whole)))) apart)
              (λ _ x. goes_ended f.so.0.0 e k f.so.1 (subst (λ y. IsFailed y k) f.so.0.1 x));
        }

  -- ---- index after index

  pub apart_before : (a b : Search) (v : ℕ) → AreStates a.states → Grows a.states b.states → v < length a.states.keys.keys → Apart code input limits b v →
      Apart code input limits a v
  apart_before a b v is grows l apart = subst AreApart (processes_still a.states b.states input is grows v l) apart

  pub no_stints : (s : Search) (v : ℕ) → HasStintsTo code input limits s 0 v true
  no_stints s v = record { each = λ i l. absurd (omega (arith, l)); goes = λ e. absurd (no_bool e) }
    where
      no_bool : true ≡ false → ⊥
      no_bool e = cc

  -- one stint more
  module _ (a b : Search) (v i : ℕ) (is : AreStates a.states) (inside : v < length a.states.keys.keys) (among : i < length (slots_of a.states v))
      (grows : Grows a.states b.states) (more : Follows a.found.items b.found.items) where
    pub one_more : (stands fails : Bool) → HasStintsTo code input limits a i v stands → HasStintThat code input limits b fails v i →
        HasStintsTo code input limits b (i + 1) v (stands && fails)
    one_more stands fails was one = record { each = each; goes = goes stands fails was one }
      where
        each : (j : ℕ) → j < i + 1 → HasStint code input limits b v j
        each j l = elim (cases_lt j i) [
          | inl less ↦ stint_still code input limits a b is grows more v j inside (was.each j less)
          | inr past ↦ let e : i ≡ j = omega (arith, l, past) in subst (HasStint code input limits b v) e one.one
        ]

        goes : (stands fails : Bool) → HasStintsTo code input limits a i v stands → HasStintThat code input limits b fails v i → (stands && fails) ≡ false →
            HasOneThatGoes code input limits b v
        goes false fails was one e = goes_still code input limits a b is grows more v inside (was.goes refl)
        goes true fails was one e = record {
          index = i;
          among = subst (λ xs. i < length xs) (sym (grows.slots v inside)) among;
          one = one.one;
          goes = one.goes e;
        }

  -- all are followed
  module _ (a b : Search) (v : ℕ) (stands_ : Bool) (is : AreStates a.states) (inside : v < length a.states.keys.keys) (grows : Grows a.states b.states)
      (more : Follows a.found.items b.found.items) (count : ℕ) (full : count ≡ length (slots_of a.states v))
      (all : Apart code input limits a v → HasStintsTo code input limits a count v stands_) where
    each_one : Apart code input limits b v → (i : ℕ) → i < length (slots_of b.states v) → HasStint code input limits b v i
    each_one apart i l =
        stint_still code input limits a b is grows more v i inside
        ((all (apart_before a b v is grows inside apart)).each i (omega (arith, full, subst (λ xs. i < length xs) (grows.slots v inside) l)))

    -- and one of them goes
    pub all_one_goes : stands_ ≡ false → HasExpanded code input limits b v
    all_one_goes e = record {
      follows = each_one;
      stands = λ apart. inr (goes_still code input limits a b is grows more v inside ((all (apart_before a b v is grows inside apart)).goes e));
    }

    -- or the standstill is told
    pub all_stand : HasEnding (asks_of limits) b.found.items ending.Standstill (shown_at b.states v) → HasExpanded code input limits b v
    all_stand has = record {
      follows = each_one;
      stands = λ apart.
          inl (subst (λ (xs : List ℕ). Tells (told_by (asks_of limits) b.found.items) outcome.standstill xs) (sym (shown_of b.states input v))
          (stands (asks_of limits) b.found.items (shown_at b.states v) has));
    }

  -- ---- what a loop over them keeps

  pub more_so : (first a b : Search) (v i : ℕ) (e came : Expanded) (stands fails : Bool) → IsSearch code input limits first → v < length first.states.keys.keys →
      i < length (slots_of first.states v) → GoesFurther code input limits first a →
      (e ≡ expanded.Whole → Apart code input limits a v → HasStintsTo code input limits a i v stands) → Follows a.found.items b.found.items →
      ComesTo code input limits a b came (Apart code input limits b v → HasStintThat code input limits b fails v i) → both e came ≡ expanded.Whole →
      Apart code input limits b v → HasStintsTo code input limits b (i + 1) v (stands && fails)
  more_so first a b v i e came stands fails is inside among further so more comes whole apart =
      let l : v < length a.states.keys.keys = omega (arith, inside, longer first.states a.states input is.states further.grows) in
      one_more a b v i further.search.states l (subst (λ xs. i < length xs) (sym (further.grows.slots v inside)) among) comes.further.grows more stands fails
      (so (both_first e came whole) (apart_before a b v further.search.states comes.further.grows l apart))
      (comes.so (both_other e came whole) apart)

  pub ends_going : (first a : Search) (v count : ℕ) (e : Expanded) (stands : Bool) → IsSearch code input limits first → v < length first.states.keys.keys →
      GoesFurther code input limits first a → (e ≡ expanded.Whole → Apart code input limits a v → HasStintsTo code input limits a count v stands) →
      count ≡ length (slots_of first.states v) → stands ≡ false → ComesTo code input limits first a e (HasExpanded code input limits a v)
  ends_going first a v count e stands is inside further so full goes = record {
    further = further;
    so = λ whole.
        all_one_goes a a v stands further.search.states (omega (arith, inside, longer first.states a.states input is.states further.grows)) (grows_same a.states)
        (follows_same a.found.items) count (full ∙ sym (ap length (further.grows.slots v inside))) (so whole) goes;
  }

  pub ends_standing : (first a b : Search) (v count : ℕ) (e : Expanded) (stands told : Bool) → IsSearch code input limits first →
      v < length first.states.keys.keys → GoesFurther code input limits first a →
      (e ≡ expanded.Whole → Apart code input limits a v → HasStintsTo code input limits a count v stands) → count ≡ length (slots_of first.states v) →
      b.states ≡ a.states → b.calls.input.items ≡ input → Follows a.found.items b.found.items → (told ≡ true → HasEnding (asks_of limits) b.found.items ending.Standstill (shown_at b.states v)) →
      ComesTo code input limits first b (both e (by_record told)) (HasExpanded code input limits b v)
  ends_standing first a b v count e stands told is inside further so full same calls more has =
      let last : GoesFurther code input limits a b = further_equal a b further.search same calls in
      record {
        further = further_on first a b further last;
        so = λ whole.
            all_stand a b v stands further.search.states (omega (arith, inside, longer first.states a.states input is.states further.grows)) last.grows more count
            (full ∙ sym (ap length (further.grows.slots v inside))) (so (both_first e (by_record told) whole))
            (has (recorded_told told (both_other e (by_record told) whole)));
      }

  -- state after state
  pub level_more : (first a b : Search) (from v : ℕ) (e came : Expanded) → GoesFurther code input limits first a → v < length first.states.keys.keys →
      IsSearch code input limits first → (e ≡ expanded.Whole → (w : ℕ) → from ≤ w → w < v → HasExpanded code input limits a w) →
      Follows a.found.items b.found.items → ComesTo code input limits a b came (HasExpanded code input limits b v) → both e came ≡ expanded.Whole →
      (w : ℕ) → from ≤ w → w < v + 1 → HasExpanded code input limits b w
  level_more first a b from v e came further inside is so more comes whole w low high = elim (cases_lt w v) [
    | inl less ↦
        expanded_still code input limits a b further.search.states comes.further.grows more w
        (omega (arith, less, inside, longer first.states a.states input is.states further.grows)) (so (both_first e came whole) w low less)
    | inr past ↦
        let same : v ≡ w = omega (arith, high, past) in
        subst (HasExpanded code input limits b) same (comes.so (both_other e came whole))
  ]
