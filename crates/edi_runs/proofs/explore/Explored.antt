-- What a search reports of the code of a text, in the words of the text.
use Rattle.std.proofs.Common.{◌≡◌, ℕ, zero, suc, ◌+◌, ◌<◌, ◌≤◌, Bool, true, false, List, [], ◌∷◌, length, map, Contains, Option, Some, None, is_some, refl, sym, ap, subst, ◌∙◌, arith}
use Rattle.std.specs.Prelude.{IfSome, slice_get}
use Rattle.std.proofs.lemmas.List.{length-map}
use Rattle.edi_calls.specs.Outcome as outcome
use Rattle.edi_kernel.specs.declared.ends.Ending.{Ending}
use Rattle.edi_kernel.specs.declared.ends.Ending.TheVariants as ending
use Rattle.edi_unit.specs.Tree.{ProgramUnit}
use Rattle.edi_disjoint.specs.steps.Inner.{InnerStepsKeep}
use Rattle.edi_target.specs.Check.{CodeParts}
use Rattle.edi_scheme.specs.Laws.{parts_of}
use Rattle.edi_timeline.specs.Told.{meant}
use Rattle.edi_texts.specs.Texts.{IsUnit}
use Rattle.edi_explored.specs.Reached.{AreAll, AreAllBelow, AreAllShown, AreAllShownBelow}
use Rattle.edi_explored.specs.Within.{MakeFewer}
use Rattle.edi_explored.specs.machine.Alike.{SameShown}
use Rattle.edi_explored.specs.machine.Kernels.{IsUnitCode, ending_of}
use Rattle.edi_orders.specs.Orders.{AreAllBySteps, AreCalm}
use Rattle.edi_explore.specs.declared.ends.Found.{Found}
use Rattle.edi_explore.specs.declared.ends.Verdict.{Verdict}
use Rattle.edi_explore.specs.declared.ends.Verdict.TheVariants as verdict
use Rattle.edi_explore.specs.Fewest as search_fewest
use Rattle.edi_explore.specs.Fewest.{AreWithin, IsWithin}
use Rattle.edi_explore.specs.Found.{AllTellWaits, AreNeverBad, AreRecorded, IsRecorded, TellsWaits, WaitsBy, endings_of, is_standstill, with_ending}
use Rattle.edi_explore.specs.Offline.{offline}
use Rattle.edi_explore.specs.Shown as search
use Rattle.edi_explore.specs.Shown.{shown_endings_of, with_shown}
use Rattle.edi_explore.specs.Verdicts as search_cut
use Rattle.edi_explore.specs.Verdicts.{HasCause, IsUpTo}
use Rattle.edi_explore.proofs.Findings.{contains_at}
use Rattle.edi_explore.proofs.Keying.{some_is}
use Rattle.edi_waits.specs.Told.{all_of}
use Rattle.edi_waits.specs.Waits.{Waiting}
use Rattle.edi_runs.specs.declared.explore.openness.Openness.{Openness}
use Rattle.edi_runs.specs.explore.Explorations.{AreDistinct, AreTold, IsCutAt, IsCutOnlyBy, IsExplorationOf, IsFewest, IsFound, IsFullOnlyAt, IsManyOnlyAt, IsReachedBy, IsShortest}
use Rattle.edi_runs.specs.explore.Explorations.{Reached, ShowSame}
use Rattle.edi_runs.specs.explore.Explorations.{Says, SaysShown, endings_in, shown_endings_in}
use Rattle.edi_runs.specs.explore.Openness.{IsOpenness, open_of}
use Rattle.edi_runs.specs.explore.Orders.{speaks}
use Rattle.edi_runs.specs.explore.Told.{orders_by, reached_of}
use Rattle.edi_runs.proofs.explore.Ordered.{says_longest, tells}

-- ---- endings

-- one that is no fault is what it means
meant_is : (e : Ending) (end : outcome.Ending) → ending_of e ≡ Some end → meant e ≡ end
meant_is ending.Done end h = some_is h
meant_is (ending.Halted line) end h = some_is h
meant_is (ending.Failed cause line) end h = some_is h
meant_is ending.Turns end h = some_is h
meant_is ending.Standstill end h = some_is h
meant_is (ending.Bad at) end h = some_is h
meant_is ending.Fault end h = absurd (cc)

abbrev back : outcome.Ending → Ending
back outcome.done = ending.Done
back (outcome.halted line) = ending.Halted line
back (outcome.failed cause line) = ending.Failed cause line
back outcome.turns = ending.Turns
back outcome.standstill = ending.Standstill
back (outcome.bad at) = ending.Bad at

back_is : (e : Ending) (end : outcome.Ending) → ending_of e ≡ Some end → back (meant e) ≡ e
back_is ending.Done end h = refl
back_is (ending.Halted line) end h = refl
back_is (ending.Failed cause line) end h = refl
back_is ending.Turns end h = refl
back_is ending.Standstill end h = refl
back_is (ending.Bad at) end h = refl
back_is ending.Fault end h = absurd (cc)

same_meant : (e d : Ending) (one other : outcome.Ending) → ending_of e ≡ Some one → ending_of d ≡ Some other → meant e ≡ meant d → e ≡ d
same_meant e d one other h k same = sym (back_is e one h) ∙ ap back same ∙ back_is d other k

is_found : (e : Ending) (end : outcome.Ending) → ending_of e ≡ Some end → (end ≡ outcome.turns → ⊥) → ((at : ℕ) → e ≡ ending.Bad at → ⊥) → IsFound (meant e)
is_found ending.Done end h uncut good = tt
is_found (ending.Halted line) end h uncut good = tt
is_found (ending.Failed cause line) end h uncut good = tt
is_found ending.Turns end h uncut good = absurd (uncut (sym (some_is h)))
is_found ending.Standstill end h uncut good = tt
is_found (ending.Bad at) end h uncut good = absurd (good at refl)
is_found ending.Fault end h uncut good = absurd (cc)

-- ---- lists

later : {X : Type 0} (x : X) (xs : List X) (y : X) → Contains xs y → Contains (x ∷ xs) y
later x xs y c = (suc c.0, omega (arith, c.1), c.2)

each_reached : (P : Reached → Type 0) (fs : List Found) → ((f : Found) → Contains fs f → P (reached_of f)) → (one : Reached) →
    Contains (map reached_of fs) one → P one
each_reached P [] h one c = absurd (omega (arith, c.1))
each_reached P (f ∷ fs) h one (zero, l, is) = subst P is (h f (0, omega arith, refl))
each_reached P (f ∷ fs) h one (suc k, l, is) = each_reached P fs (λ g c. h g (later f fs g c)) one (k, omega (arith, l), is)

reached_at : (fs : List Found) (i : ℕ) (a : Reached) → slice_get (map reached_of fs) i ≡ Some a →
    (f : Found) × (slice_get fs i ≡ Some f) × (reached_of f ≡ a)
reached_at [] i a e = absurd (cc)
reached_at (f ∷ fs) zero a e = (f, refl, some_is e)
reached_at (f ∷ fs) (suc i) a e = reached_at fs i a e

-- none of them is a fault
abbrev AreEndings : List Found → Type 0
AreEndings fs = (f : Found) → Contains fs f → (end : outcome.Ending) × (ending_of f.ending ≡ Some end)

same_endings : (fs : List Found) → AreEndings fs → endings_of fs ≡ endings_in (map reached_of fs)
same_endings [] told = refl
same_endings (f ∷ fs) told =
    let t = told f (0, omega arith, refl) in
    ap (λ o. with_ending o (endings_of fs)) t.1
    ∙ ap (λ es. t.0 ∷ es) (same_endings fs (λ g c. told g (later f fs g c)))
    ∙ ap (λ e. e ∷ endings_in (map reached_of fs)) (sym (meant_is f.ending t.0 t.1))

same_shown_endings : (fs : List Found) → AreEndings fs → shown_endings_of fs ≡ shown_endings_in (map reached_of fs)
same_shown_endings [] told = refl
same_shown_endings (f ∷ fs) told =
    let t = told f (0, omega arith, refl) in
    ap (λ o. with_shown o f.shown.items (shown_endings_of fs)) t.1
    ∙ ap (λ es. (t.0, f.shown.items) ∷ es) (same_shown_endings fs (λ g c. told g (later f fs g c)))
    ∙ ap (λ e. (e, f.shown.items) ∷ shown_endings_in (map reached_of fs)) (sym (meant_is f.ending t.0 t.1))

same_shown : (asks : Bool) (a b : Reached) (x y : Found) → reached_of x ≡ a → reached_of y ≡ b → ShowSame asks a.shown b.shown →
    SameShown asks x.shown.items y.shown.items
same_shown true a b x y p q same = ap (λ (r : Reached). r.shown) q ∙ sym same ∙ sym (ap (λ (r : Reached). r.shown) p)
same_shown false a b x y p q same = tt

distinct : (asks : Bool) (fs : List Found) → AreEndings fs → search.AreDistinct asks fs → AreDistinct asks (map reached_of fs)
distinct asks fs told d i j a b p q e shown =
    let x = reached_at fs i a p in
    let y = reached_at fs j b q in
    let s = told x.0 (contains_at fs i x.0 x.1) in
    let t = told y.0 (contains_at fs j y.0 y.1) in
    let same : meant x.0.ending ≡ meant y.0.ending = ap (λ (r : Reached). r.ending) x.2 ∙ e ∙ sym (ap (λ (r : Reached). r.ending) y.2) in
    d i j x.0 y.0 x.1 y.1
    (record { ending = sym (same_meant x.0.ending y.0.ending s.0 t.0 s.1 t.1 same); shown = same_shown asks a b x.0 y.0 x.2 y.2 shown })

-- ---- a report

module _ (text : List ℕ) (unit : ProgramUnit) (is : IsUnit text unit) (input : List ℕ) where
  -- who waits where is told of the code of the text
  told_as : (e : Ending) (choices : List ℕ) (waits : List Waiting) → WaitsBy (is_standstill e) (parts_of unit) input choices waits →
      AreTold (meant e) text input choices waits
  told_as ending.Done choices waits h = h
  told_as (ending.Halted line) choices waits h = h
  told_as (ending.Failed cause line) choices waits h = h
  told_as ending.Turns choices waits h = h
  told_as ending.Standstill choices waits h = record { unit = unit; unit_is = is; stands = h }
  told_as (ending.Bad at) choices waits h = h
  told_as ending.Fault choices waits h = h

  reached : (f : Found) → IsRecorded unit input f → ((at : ℕ) → f.ending ≡ ending.Bad at → ⊥) → TellsWaits (parts_of unit) input f →
      IsReachedBy text input (reached_of f)
  reached f r good waits =
      let s = r.selects in
      record {
        outcome = s.outcome;
        run = record { unit = unit; unit_is = is; run = s.selects };
        ending_is = s.ends ∙ sym (meant_is f.ending r.end r.is);
        turns_is = s.turns;
        moves_is = s.moves;
        shown_is = s.shown;
        found = is_found f.ending r.end r.is r.uncut good;
        few = r.few;
        small = r.small;
        told = told_as f.ending f.choices.items (all_of f.waits) waits;
      }

  says : (v : Verdict) (fs : List Found) → AreEndings fs → (v ≡ verdict.All → AreAll unit (offline input) (endings_of fs)) →
      ((moves : ℕ) → IsUpTo v moves → AreAllBelow moves unit (offline input) (endings_of fs)) → Says v text input (endings_in (map reached_of fs))
  says v fs told all below = subst (λ es. Says v text input es) (same_endings fs told) (of v all below)
    where
      up_to : (moves : ℕ) → AreAllBelow moves unit (offline input) (endings_of fs) → Says (verdict.Full moves) text input (endings_of fs)
      up_to moves b = record { unit = unit; unit_is = is; below = b }

      of : (v : Verdict) → (v ≡ verdict.All → AreAll unit (offline input) (endings_of fs)) →
          ((moves : ℕ) → IsUpTo v moves → AreAllBelow moves unit (offline input) (endings_of fs)) → Says v text input (endings_of fs)
      of verdict.All all below = record { unit = unit; unit_is = is; all = all refl }
      of (verdict.Full moves) all below = up_to moves (below moves refl)
      of (verdict.Many moves) all below = up_to moves (below moves refl)
      of (verdict.Cut moves) all below = up_to moves (below moves refl)
      of (verdict.Unrecorded moves) all below = up_to moves (below moves refl)
      of (verdict.NoMemory moves) all below = up_to moves (below moves refl)

  says_shown : (v : Verdict) (fs : List Found) → AreEndings fs → (v ≡ verdict.All → AreAllShown unit (offline input) (shown_endings_of fs)) →
      ((moves : ℕ) → IsUpTo v moves → AreAllShownBelow moves unit (offline input) (shown_endings_of fs)) →
      SaysShown v text input (shown_endings_in (map reached_of fs))
  says_shown v fs told all below = subst (λ es. SaysShown v text input es) (same_shown_endings fs told) (of v all below)
    where
      up_to : (moves : ℕ) → AreAllShownBelow moves unit (offline input) (shown_endings_of fs) →
          SaysShown (verdict.Full moves) text input (shown_endings_of fs)
      up_to moves b = record { unit = unit; unit_is = is; below = b }

      of : (v : Verdict) → (v ≡ verdict.All → AreAllShown unit (offline input) (shown_endings_of fs)) →
          ((moves : ℕ) → IsUpTo v moves → AreAllShownBelow moves unit (offline input) (shown_endings_of fs)) →
          SaysShown v text input (shown_endings_of fs)
      of verdict.All all below = record { unit = unit; unit_is = is; all = all refl }
      of (verdict.Full moves) all below = up_to moves (below moves refl)
      of (verdict.Many moves) all below = up_to moves (below moves refl)
      of (verdict.Cut moves) all below = up_to moves (below moves refl)
      of (verdict.Unrecorded moves) all below = up_to moves (below moves refl)
      of (verdict.NoMemory moves) all below = up_to moves (below moves refl)

  -- no execution of fewer moves ends so
  fewest : (asks : Bool) (f : Found) → ((end : outcome.Ending) × (ending_of f.ending ≡ Some end)) → search_fewest.IsFewest asks unit input f →
      IsFewest asks text input (reached_of f)
  fewest asks f e h = record {
    unit = unit;
    unit_is = is;
    fewest = λ bound choices end turns drawn order ends same.
        h bound choices (meant f.ending) end turns drawn order ends (e.1 ∙ ap Some (sym (meant_is f.ending e.0 e.1)))
        (shows_as asks (reached_of f) end.now.shown same);
  }
    where
      shows_as : (asks : Bool) (one : Reached) (shown : List ℕ) → ShowSame asks shown one.shown → SameShown asks one.shown shown
      shows_as true one shown same = same
      shows_as false one shown same = tt

  shortest : (v : Verdict) (asks : Bool) (fs : List Found) → AreEndings fs →
      ((f : Found) → Contains fs f → IsWithin v f.moves → search_fewest.IsFewest asks unit input f) → AreWithin v fs → (f : Found) → Contains fs f →
      IsShortest v asks text input (reached_of f)
  shortest verdict.All asks fs told few within f c = fewest asks f (told f c) (few f c tt)
  shortest (verdict.Full moves) asks fs told few within f c = fewest asks f (told f c) (few f c (within f c))
  shortest (verdict.Many moves) asks fs told few within f c = fewest asks f (told f c) (few f c (within f c))
  shortest (verdict.Cut moves) asks fs told few within f c = λ low. fewest asks f (told f c) (few f c low)
  shortest (verdict.Unrecorded moves) asks fs told few within f c = λ low. fewest asks f (told f c) (few f c low)
  shortest (verdict.NoMemory moves) asks fs told few within f c = λ low. fewest asks f (told f c) (few f c low)

  cut_at : (bound : ℕ) (choices : List ℕ) (moves drawn : ℕ) → search_cut.IsCutAt bound unit input choices moves drawn →
      IsCutAt bound text input choices moves drawn
  cut_at bound choices moves drawn h = record {
    outcome = h.outcome;
    run = record { unit = unit; unit_is = is; run = h.selects };
    cut = h.cut;
    moved = h.moved;
    draws = h.draws;
  }

  -- why a stint was cut
  cause : (turns : ℕ) (v : Verdict) (choices : List ℕ) → HasCause turns unit input v choices → IsCutOnlyBy turns v text input choices
  cause turns verdict.All choices h = tt
  cause turns (verdict.Full moves) choices h = tt
  cause turns (verdict.Many moves) choices h = tt
  cause turns (verdict.Cut moves) choices h = record {
    before = h.before;
    moves = h.moves;
    drawn = h.drawn;
    begins = cut_at h.before choices h.moves h.drawn h.begins;
    goes_on = cut_at (h.before + turns) choices h.moves h.drawn h.goes_on;
    few = h.few;
    small = h.small;
  }
  cause turns (verdict.Unrecorded moves) choices h = tt
  cause turns (verdict.NoMemory moves) choices h = tt

  -- what the search says of the endings where output is looked at
  pub record SearchShows (shown : Option ℕ) (v : Verdict) (fs : List Found) : Type 0 where
    pub all : is_some shown ≡ true → v ≡ verdict.All → AreAllShown unit (offline input) (shown_endings_of fs)
    pub below : is_some shown ≡ true → (moves : ℕ) → IsUpTo v moves → AreAllShownBelow moves unit (offline input) (shown_endings_of fs)
    pub many : (moves : ℕ) → v ≡ verdict.Many moves → (most : ℕ) × (shown ≡ Some most) × (most ≤ length fs)
    pub few : (most : ℕ) → shown ≡ Some most → length fs ≤ most

  pub exploration : (most turns : ℕ) (shown : Option ℕ) (v : Verdict) (states : ℕ) (fs : List Found) (cut : List ℕ) → AreRecorded unit input fs →
      AreNeverBad fs → AllTellWaits (parts_of unit) input fs → search.AreDistinct (is_some shown) fs →
      (v ≡ verdict.All → AreAll unit (offline input) (endings_of fs)) →
      ((moves : ℕ) → IsUpTo v moves → AreAllBelow moves unit (offline input) (endings_of fs)) → SearchShows shown v fs →
      ((f : Found) → Contains fs f → IsWithin v f.moves → search_fewest.IsFewest (is_some shown) unit input f) → AreWithin v fs →
      ((moves : ℕ) → v ≡ verdict.Full moves → most < states) → states ≤ suc most → HasCause turns unit input v cut → (longest : Option ℕ) →
      IfSome longest (λ n. MakeFewer (suc n) unit (offline input)) → (openly : Openness) → IsOpenness text unit openly →
      (shown ≡ None → v ≡ verdict.All → AreCalm (endings_of fs) → InnerStepsKeep unit (offline input) → AreAllBySteps unit (offline input) (endings_of fs)) →
      IsExplorationOf text input most turns shown (record {
        endings = map reached_of fs;
        verdict = v;
        states = states;
        cut = cut;
        longest = longest;
        orders = orders_by (speaks v shown (endings_in (map reached_of fs))) openly.none (open_of openly.names);
      })
  exploration most turns shown v states fs cut recorded good waits once all below shows few within full bounded why longest fewer openly known by_steps =
      let told : AreEndings fs = λ f c. let r = recorded f c in (r.end, r.is) in
      record {
        reached = each_reached (IsReachedBy text input) fs (λ f c. reached f (recorded f c) (λ at e. good f at c e) (waits f c));
        distinct = distinct (is_some shown) fs told once;
        says = says v fs told all below;
        says_shown = λ asks. says_shown v fs told (shows.all asks) (shows.below asks);
        shortest = each_reached (IsShortest v (is_some shown) text input) fs (shortest v (is_some shown) fs told few within);
        full = only v full;
        bounded = bounded;
        many = only_many v shows.many;
        few = λ n e. omega (arith, shows.few n e, length-map fs reached_of);
        cut = cause turns v cut why;
        longest = says_longest text input unit is longest fewer;
        orders = tells text input unit is (endings_in (map reached_of fs)) openly known v shown
            (λ e all calm keep. subst (AreAllBySteps unit (offline input)) (same_endings fs told)
            (by_steps e all (subst AreCalm (sym (same_endings fs told)) calm) keep));
      }
    where
      only : (v : Verdict) → ((moves : ℕ) → v ≡ verdict.Full moves → most < states) → IsFullOnlyAt most v states
      only (verdict.Full moves) h = h moves refl
      only verdict.All h = tt
      only (verdict.Many moves) h = tt
      only (verdict.Cut moves) h = tt
      only (verdict.Unrecorded moves) h = tt
      only (verdict.NoMemory moves) h = tt

      only_many : (v : Verdict) → ((moves : ℕ) → v ≡ verdict.Many moves → (n : ℕ) × (shown ≡ Some n) × (n ≤ length fs)) →
          IsManyOnlyAt shown v (length (map reached_of fs))
      only_many (verdict.Many moves) h = let m = h moves refl in (m.0, m.1, omega (arith, m.2, length-map fs reached_of))
      only_many verdict.All h = tt
      only_many (verdict.Full moves) h = tt
      only_many (verdict.Cut moves) h = tt
      only_many (verdict.Unrecorded moves) h = tt
      only_many (verdict.NoMemory moves) h = tt

-- ---- code

pub unit_code : (unit : ProgramUnit) (code : CodeParts) → code ≡ parts_of unit → IsUnitCode unit code
unit_code unit code e = record {
  words = ap (λ (c : CodeParts). c.words) e;
  entry = ap (λ (c : CodeParts). c.entry) e;
  calls = ap (λ (c : CodeParts). c.calls) e;
}
