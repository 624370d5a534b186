-- What was found, as the laws of a search speak of it; and what a run with some choices comes to.
use Rattle.std.proofs.Common.{◌≡◌, ◌⊎◌, inl, inr, ℕ, zero, suc, ◌-◌, ◌≤◌, Bool, true, false, List, [], ◌∷◌, ◌++◌, length, Contains, Option, Some, None, refl, sym, ap, subst, ◌∙◌, arith}
use Rattle.std.specs.Prelude.{slice_get}
use Rattle.std.proofs.lemmas.Bool.{cases_lt}
use Rattle.std.proofs.lemmas.Option.{slice_get_within}
use Rattle.edi_calls.specs.Choice.{Choices, listed}
use Rattle.edi_calls.specs.Outcome as outcome
use Rattle.edi_calls.specs.Outcome.{Outcome, outcome_of}
use Rattle.edi_calls.specs.State.{State}
use Rattle.edi_trace.specs.Drawn.{Drawn}
use Rattle.edi_unit.specs.Tree.{ProgramUnit}
use Rattle.edi_meaning.specs.Bad.{IsNoBad}
use Rattle.edi_meaning.specs.Select.{Select}
use Rattle.edi_meaning.proofs.NeverBad.{selection_is_never_bad}
use Rattle.edi_follows.specs.Theorem.{CanBeCoded}
use Rattle.edi_target.specs.Check.{CodeParts}
use Rattle.edi_target.specs.Fetch.{fetch}
use Rattle.edi_target.specs.Mach.{Mach}
use Rattle.edi_kernel.specs.declared.ends.Ending.{Ending}
use Rattle.edi_kernel.specs.declared.ends.Ending.TheVariants as ending
use Rattle.edi_kernel.specs.Kernel.{EndsAs}
use Rattle.edi_kernel.specs.declared.state.KernelState.{KernelState}
use Rattle.edi_explored.specs.Covered.{Tells, tells_shown}
use Rattle.edi_explored.specs.Moves.{moves_selected}
use Rattle.edi_explored.specs.Reached.{IsReached}
use Rattle.edi_explored.specs.machine.Alike.{SameShown}
use Rattle.edi_explored.specs.machine.Counted.{EndsMoved}
use Rattle.edi_explored.specs.machine.Kernels.{IsUnitCode, ending_of}
use Rattle.edi_explored.proofs.machine.Coding as coding
use Rattle.edi_explored.proofs.machine.Counting.{moves_are_counted}
use Rattle.edi_explore.specs.declared.ends.Found.{Found}
use Rattle.edi_explore.specs.declared.ends.Limits.{Limits}
use Rattle.edi_explore.specs.declared.finding.Search.{Search}
use Rattle.edi_explore.specs.Offline.{offline}
use Rattle.edi_explore.specs.Found.{AllTellWaits, AreChoices, AreRecorded, IsRecorded, IsTold, RunsWith, TellsWaits, endings_of, most_choices, most_turns, with_ending}
use Rattle.edi_explore.specs.Finding.{Finds, FindsAt, IsFresh}
use Rattle.edi_explore.specs.Underway.{Comes, HasEnded}
use Rattle.edi_explore.specs.Shown.{AreDistinct, HasEnding, IsMet, asks_of, shown_endings_of, told_by, with_shown}
use Rattle.edi_explore.specs.States.{Follows}
use Rattle.edi_explore.proofs.Growing.{follows_on, follows_same, stays_at}
use Rattle.edi_explore.proofs.Keying.{lookup, some_is, split_at}

-- ---- lists of what was found

pub contains_later : {X : Type 0} (x : X) (xs : List X) (y : X) → Contains xs y → Contains (x ∷ xs) y
contains_later x xs y c = (suc c.0, omega (arith, c.1), c.2)

pub contains_front : {X : Type 0} (xs ys : List X) (x : X) → Contains xs x → Contains (xs ++ ys) x
contains_front [] ys x c = absurd (omega (arith, c.1))
contains_front (y ∷ xs) ys x (zero, l, is) = (0, omega arith, is)
contains_front (y ∷ xs) ys x (suc k, l, is) = contains_later y (xs ++ ys) x (contains_front xs ys x (k, omega (arith, l), is))

pub contains_last : {X : Type 0} (xs : List X) (x : X) → Contains (xs ++ x ∷ []) x
contains_last [] x = (0, omega arith, refl)
contains_last (y ∷ xs) x = contains_later y (xs ++ x ∷ []) x (contains_last xs x)

contains_split : {X : Type 0} (xs : List X) (x y : X) → Contains (xs ++ x ∷ []) y → Contains xs y ⊎ (x ≡ y)
contains_split [] x y (zero, l, is) = inr is
contains_split [] x y (suc k, l, is) = absurd (omega (arith, l))
contains_split (z ∷ xs) x y (zero, l, is) = inl (0, omega arith, is)
contains_split (z ∷ xs) x y (suc k, l, is) = elim (contains_split xs x y (k, omega (arith, l), is)) [
  | inl c ↦ inl (contains_later z xs y c)
  | inr e ↦ inr e
]

pub contains_at : {X : Type 0} (xs : List X) (i : ℕ) (x : X) → slice_get xs i ≡ Some x → Contains xs x
contains_at [] i x e = absurd (cc)
contains_at (y ∷ xs) zero x e = (0, omega arith, some_is e)
contains_at (y ∷ xs) (suc i) x e = contains_later y xs x (contains_at xs i x e)

pub at_contained : {X : Type 0} (xs : List X) (x : X) → Contains xs x → (i : ℕ) × (slice_get xs i ≡ Some x)
at_contained [] x c = absurd (omega (arith, c.1))
at_contained (y ∷ xs) x (zero, l, is) = (0, ap Some is)
at_contained (y ∷ xs) x (suc k, l, is) = let r = at_contained xs x (k, omega (arith, l), is) in (suc r.0, r.1)

pub some_same : {X : Type 0} {x y : X} → Some x ≡ Some y → x ≡ y
some_same e = some_is e

-- what was found is found
pub has_still : (asks : Bool) (fs gs : List Found) (e : Ending) (shown : List ℕ) → Follows fs gs → HasEnding asks fs e shown → HasEnding asks gs e shown
has_still asks fs gs e shown f h = (h.0, subst (λ xs. Contains xs h.0) (sym f.1) (contains_front fs f.0 h.0 h.1), h.2)

-- the same where output is looked at
pub shown_back : (asks : Bool) (xs ys : List ℕ) → SameShown asks xs ys → SameShown asks ys xs
shown_back true xs ys e = sym e
shown_back false xs ys e = tt

pub shown_on : (asks : Bool) (xs ys zs : List ℕ) → SameShown asks xs ys → SameShown asks ys zs → SameShown asks xs zs
shown_on true xs ys zs e f = f ∙ e
shown_on false xs ys zs e f = tt

pub shown_same : (asks : Bool) (xs ys : List ℕ) → ys ≡ xs → SameShown asks xs ys
shown_same true xs ys e = e
shown_same false xs ys e = tt

met_back : (asks : Bool) (a b : Found) → IsMet asks a b.ending b.shown.items → IsMet asks b a.ending a.shown.items
met_back asks a b m = record { ending = sym m.ending; shown = shown_back asks b.shown.items a.shown.items m.shown }

-- ---- one more

module _ (fs gs : List Found) (one : Found) (push : gs ≡ fs ++ one ∷ []) where
  pub one_contained : Contains gs one
  one_contained = subst (λ xs. Contains xs one) (sym push) (contains_last fs one)

  pub one_recorded : (unit : ProgramUnit) (input : List ℕ) → IsRecorded unit input one → AreRecorded unit input fs → AreRecorded unit input gs
  one_recorded unit input r all x c = elim (contains_split fs one x (subst (λ xs. Contains xs x) push c)) [
    | inl c ↦ all x c
    | inr e ↦ subst (IsRecorded unit input) e r
  ]

  pub one_waits : (code : CodeParts) (input : List ℕ) → TellsWaits code input one → AllTellWaits code input fs → AllTellWaits code input gs
  one_waits code input r all x c = elim (contains_split fs one x (subst (λ xs. Contains xs x) push c)) [
    | inl c ↦ all x c
    | inr e ↦ subst (TellsWaits code input) e r
  ]

  pub one_distinct : (asks : Bool) → (HasEnding asks fs one.ending one.shown.items → ⊥) → AreDistinct asks fs → AreDistinct asks gs
  one_distinct asks none d i j a b p q e =
      sides (split_at fs one a i (ap (λ xs. slice_get xs i) (sym push) ∙ p)) (split_at fs one b j (ap (λ xs. slice_get xs j) (sym push) ∙ q))
    where
      sides : (slice_get fs i ≡ Some a) ⊎ ((i ≡ length fs) × (a ≡ one)) → (slice_get fs j ≡ Some b) ⊎ ((j ≡ length fs) × (b ≡ one)) → i ≡ j
      sides (inl x) (inl y) = d i j a b x y e
      sides (inl x) (inr y) =
          absurd (none (a, contains_at fs i a x, subst (λ (f : Found). IsMet asks a f.ending f.shown.items) y.1 (met_back asks b a e)))
      sides (inr x) (inl y) = absurd (none (b, contains_at fs j b y, subst (λ (f : Found). IsMet asks b f.ending f.shown.items) x.1 e))
      sides (inr x) (inr y) = x.0 ∙ sym y.0

-- an ending that is told is one of a run that was not cut
told_end : (e : Ending) → IsTold e → (end : outcome.Ending) × (ending_of e ≡ Some end) × (end ≡ outcome.turns → ⊥)
told_end ending.Done t = (outcome.done, refl, λ e. absurd (cc))
told_end (ending.Halted line) t = (outcome.halted line, refl, λ e. absurd (cc))
told_end (ending.Failed cause line) t = (outcome.failed cause line, refl, λ e. absurd (cc))
told_end ending.Turns t = absurd t
told_end ending.Standstill t = (outcome.standstill, refl, λ e. absurd (cc))
told_end (ending.Bad at) t = (outcome.bad at, refl, λ e. absurd (cc))
told_end ending.Fault t = absurd t

pub recorded_of : (unit : ProgramUnit) (input choices : List ℕ) (f : Found) (e : Ending) → RunsWith most_turns unit input choices f → f.ending ≡ e → IsTold e →
    length choices ≤ most_choices → IsRecorded unit input f
recorded_of unit input choices f e r same told few =
    let t = told_end e told in
    let is : ending_of f.ending ≡ Some t.0 = ap ending_of same ∙ t.1 in
    record {
      end = t.0;
      is = is;
      uncut = t.2;
      selects = r.came t.0 is;
      few = omega (arith, few, ap length r.choices_are);
      small = subst AreChoices (sym r.choices_are) r.small;
    }

-- whoever waits, it is recorded
pub recorded_waiting : (unit : ProgramUnit) (input : List ℕ) (f g : Found) → g ≡ record f { waits = g.waits } →
    IsRecorded unit input f → IsRecorded unit input g
recorded_waiting unit input f g e r = subst (IsRecorded unit input) (sym e) (record {
  end = r.end;
  is = r.is;
  uncut = r.uncut;
  selects = record {
    outcome = r.selects.outcome;
    selects = r.selects.selects;
    ends = r.selects.ends;
    turns = r.selects.turns;
    shown = r.selects.shown;
    moves = r.selects.moves;
  };
  few = r.few;
  small = r.small;
})

-- ---- what a search finds

module _ (code : CodeParts) (input : List ℕ) (limits : Limits) where
  pub finds_none : (fs : List Found) → Finds code input limits fs fs
  finds_none fs = record {
    recorded = λ unit c is all. all;
    waits = λ all. all;
    distinct = λ d. d;
    fresh = λ i one l at. absurd (omega (arith, l, slice_get_within fs i one at));
    few = λ most is l. l;
    more = follows_same fs;
  }

  fresh_on : (a b c : List Found) → Finds code input limits a b → Finds code input limits b c → (i : ℕ) (one : Found) → length a ≤ i →
      slice_get c i ≡ Some one → IsFresh limits a one
  fresh_on a b c f g i one l at = elim (cases_lt i (length b)) [
    | inl less ↦
        let old : (x : Found) × (slice_get b i ≡ Some x) = lookup b i less in
        let same : old.0 ≡ one = some_is (sym (stays_at b c i old.0 g.more old.1) ∙ at) in
        subst (IsFresh limits a) same (f.fresh i old.0 l old.1)
    | inr past ↦
        let new = g.fresh i one past at in
        record { told = new.told; lacks = λ h. new.lacks (has_still (asks_of limits) a b one.ending one.shown.items f.more h) }
  ]

  pub finds_on : (a b c : List Found) → Finds code input limits a b → Finds code input limits b c → Finds code input limits a c
  finds_on a b c f g = record {
    recorded = λ unit coded is all. g.recorded unit coded is (f.recorded unit coded is all);
    waits = λ all. g.waits (f.waits all);
    distinct = λ d. g.distinct (f.distinct d);
    fresh = λ i one l at. fresh_on a b c f g i one l at;
    few = λ most is l. g.few most is (f.few most is l);
    more = follows_on a b c f.more g.more;
  }

  -- the same was found
  pub found_none : (a b : Search) → b.found.items ≡ a.found.items → b.moves ≡ a.moves → FindsAt code input limits a b
  found_none a b e same = record {
    finds = subst (λ fs. Finds code input limits a.found.items fs) (sym e) (finds_none a.found.items);
    after = λ i one l at.
        absurd (omega (arith, l, slice_get_within a.found.items i one (ap (λ xs. slice_get xs i) (sym e) ∙ at)));
    moves = same;
  }

  pub found_on : (a b c : Search) → FindsAt code input limits a b → FindsAt code input limits b c → FindsAt code input limits a c
  found_on a b c f g = record {
    finds = finds_on a.found.items b.found.items c.found.items f.finds g.finds;
    after = λ i one l at. elim (cases_lt i (length b.found.items)) [
      | inl less ↦
          let old : (x : Found) × (slice_get b.found.items i ≡ Some x) = lookup b.found.items i less in
          let same : old.0 ≡ one = some_is (sym (stays_at b.found.items c.found.items i old.0 g.finds.more old.1) ∙ at) in
          subst (λ (x : Found). x.moves ≡ a.moves) same (f.after i old.0 l old.1)
      | inr past ↦ g.after i one past at ∙ f.moves
    ];
    moves = g.moves ∙ f.moves;
  }

-- ---- the endings that are told

with_later : (x : Option outcome.Ending) (es : List outcome.Ending) (e : outcome.Ending) → Contains es e → Contains (with_ending x es) e
with_later None es e c = c
with_later (Some y) es e c = contains_later y es e c

with_here : (x : Option outcome.Ending) (es : List outcome.Ending) (e : outcome.Ending) → x ≡ Some e → Contains (with_ending x es) e
with_here None es e is = absurd (cc)
with_here (Some y) es e is = (0, omega arith, some_is is)

has_told : (fs : List Found) (one : Found) (end : outcome.Ending) → Contains fs one → ending_of one.ending ≡ Some end → Contains (endings_of fs) end
has_told [] one end c e = absurd (omega (arith, c.1))
has_told (f ∷ fs) one end (zero, l, is) e = with_here (ending_of f.ending) (endings_of fs) end (ap (λ (x : Found). ending_of x.ending) is ∙ e)
has_told (f ∷ fs) one end (suc k, l, is) e = with_later (ending_of f.ending) (endings_of fs) end (has_told fs one end (k, omega (arith, l), is) e)

-- with what was shown

shown_later : (x : Option outcome.Ending) (shown : List ℕ) (es : List (outcome.Ending × List ℕ)) (e : outcome.Ending × List ℕ) → Contains es e →
    Contains (with_shown x shown es) e
shown_later None shown es e c = c
shown_later (Some y) shown es e c = contains_later (y, shown) es e c

shown_here : (x : Option outcome.Ending) (shown : List ℕ) (es : List (outcome.Ending × List ℕ)) (e : outcome.Ending) → x ≡ Some e →
    Contains (with_shown x shown es) (e, shown)
shown_here None shown es e is = absurd (cc)
shown_here (Some y) shown es e is = (0, omega arith, ap (λ (z : outcome.Ending). (z, shown)) (some_is is))

has_shown : (fs : List Found) (one : Found) (end : outcome.Ending) → Contains fs one → ending_of one.ending ≡ Some end →
    Contains (shown_endings_of fs) (end, one.shown.items)
has_shown [] one end c e = absurd (omega (arith, c.1))
has_shown (f ∷ fs) one end (zero, l, is) e =
    subst (λ (x : Found). Contains (shown_endings_of (f ∷ fs)) (end, x.shown.items)) is
    (shown_here (ending_of f.ending) f.shown.items (shown_endings_of fs) end (ap (λ (x : Found). ending_of x.ending) is ∙ e))
has_shown (f ∷ fs) one end (suc k, l, is) e =
    shown_later (ending_of f.ending) f.shown.items (shown_endings_of fs) (end, one.shown.items) (has_shown fs one end (k, omega (arith, l), is) e)

-- what ends so is told, with what was shown where output is looked at
pub told_as : (asks : Bool) (fs : List Found) (one : Found) (end : outcome.Ending) (shown : List ℕ) → Contains fs one → ending_of one.ending ≡ Some end →
    SameShown asks shown one.shown.items → Tells (told_by asks fs) end shown
told_as false fs one end shown c e s = has_told fs one end c e
told_as true fs one end shown c e s = subst (λ (xs : List ℕ). Contains (shown_endings_of fs) (end, xs)) s (has_shown fs one end c e)

-- an ending that was found is told
pub tells : (asks : Bool) (fs : List Found) (e : Ending) (shown : List ℕ) (end : outcome.Ending) → HasEnding asks fs e shown → EndsAs end e →
    Tells (told_by asks fs) end shown
tells asks fs e shown end h a = told_as asks fs h.0 end shown h.1 (ap ending_of h.2.ending ∙ coding.as_ending end e a) h.2.shown

pub stands : (asks : Bool) (fs : List Found) (shown : List ℕ) → HasEnding asks fs ending.Standstill shown →
    Tells (told_by asks fs) outcome.standstill shown
stands asks fs shown h = tells asks fs ending.Standstill shown outcome.standstill h tt

-- what is told was found
pub record WasFound (asks : Bool) (fs : List Found) (end : outcome.Ending) (shown : List ℕ) : Type 0 where
  pub one : Found
  pub among : Contains fs one
  pub ending : ending_of one.ending ≡ Some end
  pub shown_is : SameShown asks shown one.shown.items

found_later : (asks : Bool) (f : Found) (fs : List Found) (end : outcome.Ending) (shown : List ℕ) → WasFound asks fs end shown → WasFound asks (f ∷ fs) end shown
found_later asks f fs end shown w = record { one = w.one; among = contains_later f fs w.one w.among; ending = w.ending; shown_is = w.shown_is }

found_told : (fs : List Found) (end : outcome.Ending) (shown : List ℕ) → Contains (endings_of fs) end → WasFound false fs end shown
found_told [] end shown c = absurd (omega (arith, c.1))
found_told (f ∷ fs) end shown c = go (ending_of f.ending) refl c (λ c. found_told fs end shown c)
  where
    go : (x : Option outcome.Ending) → ending_of f.ending ≡ x → Contains (with_ending x (endings_of fs)) end →
        (Contains (endings_of fs) end → WasFound false fs end shown) → WasFound false (f ∷ fs) end shown
    go None e c next = found_later false f fs end shown (next c)
    go (Some y) e (zero, l, is) next = record { one = f; among = (0, omega arith, refl); ending = e ∙ ap Some is; shown_is = tt }
    go (Some y) e (suc k, l, is) next = found_later false f fs end shown (next (k, omega (arith, l), is))

found_shown : (fs : List Found) (end : outcome.Ending) (shown : List ℕ) → Contains (shown_endings_of fs) (end, shown) → WasFound true fs end shown
found_shown [] end shown c = absurd (omega (arith, c.1))
found_shown (f ∷ fs) end shown c = go (ending_of f.ending) refl c (λ c. found_shown fs end shown c)
  where
    go : (x : Option outcome.Ending) → ending_of f.ending ≡ x → Contains (with_shown x f.shown.items (shown_endings_of fs)) (end, shown) →
        (Contains (shown_endings_of fs) (end, shown) → WasFound true fs end shown) → WasFound true (f ∷ fs) end shown
    go None e c next = found_later true f fs end shown (next c)
    go (Some y) e (zero, l, is) next = record {
      one = f;
      among = (0, omega arith, refl);
      ending = e ∙ ap (λ (p : outcome.Ending × List ℕ). Some p.0) is;
      shown_is = ap (λ (p : outcome.Ending × List ℕ). p.1) is;
    }
    go (Some y) e (suc k, l, is) next = found_later true f fs end shown (next (k, omega (arith, l), is))

pub found_of : (asks : Bool) (fs : List Found) (end : outcome.Ending) (shown : List ℕ) → Tells (told_by asks fs) end shown → WasFound asks fs end shown
found_of false fs end shown t = found_told fs end shown t
found_of true fs end shown t = found_shown fs end shown t

-- what is told stays told
pub tells_more : (asks : Bool) (fs gs : List Found) (e : outcome.Ending) (shown : List ℕ) → Follows fs gs → Tells (told_by asks fs) e shown →
    Tells (told_by asks gs) e shown
tells_more asks fs gs e shown f t =
    let w = found_of asks fs e shown t in
    told_as asks gs w.one e shown (subst (λ xs. Contains xs w.one) (sym f.1) (contains_front fs f.0 w.one w.among)) w.ending w.shown_is

-- it is told whether output is looked at
pub asks_same : (asks : Bool) (fs : List Found) → tells_shown (told_by asks fs) ≡ asks
asks_same false fs = refl
asks_same true fs = refl

-- ---- what is found is so

pub reached : (unit : ProgramUnit) (input : List ℕ) (f : Found) → IsRecorded unit input f → (end : outcome.Ending) → ending_of f.ending ≡ Some end →
    IsReached unit (offline input) f.choices.items end
reached unit input f r end same =
    let s = r.selects in
    subst (IsReached unit (offline input) f.choices.items) (s.ends ∙ some_is (sym r.is ∙ same))
    (coding.reached unit (offline input) most_turns f.choices.items s.outcome s.selects (λ t. r.uncut (sym s.ends ∙ t)))

-- no program ends as bad
pub never_bad : (unit : ProgramUnit) (input : List ℕ) (f : Found) → IsRecorded unit input f → (at : ℕ) → f.ending ≡ ending.Bad at → ⊥
never_bad unit input f r at e =
    let s = r.selects in
    let bad : r.end ≡ outcome.bad at = some_is (sym r.is ∙ ap ending_of e) in
    let o = s.selects in
    subst IsNoBad (sym (ap (λ (x : Outcome). x.ending) o.6) ∙ s.ends ∙ bad)
    (selection_is_never_bad unit (offline input) most_turns (listed f.choices.items) o.0 o.1 o.2 o.3 o.4 o.5)

-- ---- a run

-- what some choices select, of so many turns and moves, with so many choices drawn
abbrev pub SelectedBy : ProgramUnit → State → (bound : ℕ) → (choices : List ℕ) → outcome.Ending → (used moves drawn : ℕ) → (shown : List ℕ) → Type 0
SelectedBy unit system bound choices end used moves drawn shown =
    (o : Outcome) × (s : Select unit system bound (listed choices) o) × (o.ending ≡ end) × (o.turns ≡ used) × (o.shown ≡ shown)
    × (moves_selected unit system bound (listed choices) o s ≡ moves) × (o.draws ≡ drawn)

module _ (unit : ProgramUnit) (c : CanBeCoded unit) (code : CodeParts) (is : IsUnitCode unit code) (system : State) (bound : ℕ) (choices : List ℕ)
    (from : Choices) (source : from ≡ listed choices) where
  ran_as : (e : Ending) (k : KernelState) (now : State) (later : Drawn) (moves : ℕ) → k.used ≤ bound → HasEnded code system bound from e k now later moves →
      (end : outcome.Ending) → ending_of e ≡ Some end → SelectedBy unit system bound choices end k.used moves later.drawn now.shown
  ran_as e k now later moves le h end same =
      let o : Outcome = outcome_of now h.end k.used later.drawn in
      let left : k.used ≡ bound - h.machine.turns = omega (arith, h.turns, le) in
      let m : Mach (fetch code.words) code.entry code.calls system bound from o = (
        h.end,
        h.machine,
        later.drawn,
        (h.ends.steps, h.ends.ends),
        ap (λ s. outcome_of s h.end k.used later.drawn) (sym h.system) ∙ ap (λ n. outcome_of h.machine.system h.end n later.drawn) left,
      ) in
      let s : Select unit system bound (listed choices) o =
      coding.meant unit c system bound choices o (coding.machine unit c code is system bound choices (record { source = from; drawn = 0 }) later refl source o m) in (
        o,
        s,
        some_is (sym (coding.as_ending h.end e h.same) ∙ same),
        refl,
        refl,
        moves_are_counted unit c code is system bound (listed choices) h.end h.machine later.drawn moves
            (subst (λ z. EndsMoved code system bound z h.end h.machine later.drawn moves) source h.ends) s.0 s.1 s.2 s.3 s.4 s.5,
        refl,
      )

  -- what a run of the kernel comes to
  pub ran : (e : Ending) (k : KernelState) (now : State) (later : Drawn) (moves : ℕ) → k.used ≤ bound →
      Comes code system bound from (Some e) k now later moves → (end : outcome.Ending) → ending_of e ≡ Some end →
      SelectedBy unit system bound choices end k.used moves later.drawn now.shown
  ran ending.Fault k now later moves le r = λ end same. absurd (none_some end same)
    where
      none_some : (end : outcome.Ending) → None ≡ Some end → ⊥
      none_some end same = absurd (cc)
  ran ending.Done k now later moves le r = ran_as ending.Done k now later moves le r
  ran (ending.Halted line) k now later moves le r = ran_as (ending.Halted line) k now later moves le r
  ran (ending.Failed cause line) k now later moves le r = ran_as (ending.Failed cause line) k now later moves le r
  ran ending.Turns k now later moves le r = ran_as ending.Turns k now later moves le r
  ran ending.Standstill k now later moves le r = ran_as ending.Standstill k now later moves le r
  ran (ending.Bad at) k now later moves le r = ran_as (ending.Bad at) k now later moves le r
