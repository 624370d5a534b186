-- The levels of a search: those that were expanded, and what the verdict says then.
use Rattle.std.proofs.Common.{◌≡◌, ◌⊎◌, inl, inr, ℕ, zero, suc, ◌<◌, ◌≤◌, nat_lt, arith, if◌then◌else◌, List, length, Option, refl, sym, ap, subst, ◌∙◌}
use Rattle.std.specs.Prelude.{is_some}
use Rattle.std.proofs.lemmas.Bool.{cases_lt, le-ltb, lt-ltb}
use Rattle.edi_target.specs.Check.{CodeParts}
use Rattle.edi_explored.specs.Covered.{IsCutOrTold, Report}
use Rattle.edi_explored.specs.machine.Levels.{StateTable, Below, FirstBelow, IsClosed, IsExpanded, IsLevelled, Nothing}
use Rattle.edi_explored.proofs.machine.Levels.{first_later}
use Rattle.edi_explored.proofs.machine.All.{closed_all, levels_below}
use Rattle.edi_orders.proofs.machine.Orders.{expanded_is_enough}
use Rattle.edi_explore.specs.declared.ends.Found.{Found}
use Rattle.edi_explore.specs.declared.ends.Limits.{Limits}
use Rattle.edi_explore.specs.declared.ends.Verdict.{Verdict}
use Rattle.edi_explore.specs.declared.ends.Verdict.TheVariants as verdict
use Rattle.edi_explore.specs.declared.expand.Expanded.{Expanded}
use Rattle.edi_explore.specs.declared.expand.Expanded.TheVariants as expanded
use Rattle.edi_explore.specs.declared.finding.Search.{Search}
use Rattle.edi_explore.specs.declared.step.GivenUp.{GivenUp}
use Rattle.edi_explore.specs.declared.step.GivenUp.TheVariants as given_up
use Rattle.edi_explore.specs.Expand.{GoesFurther, HasBegun, HasExpanded, IsSearch}
use Rattle.edi_explore.specs.Found.{endings_of}
use Rattle.edi_explore.specs.Offline.{offline}
use Rattle.edi_explore.specs.Shown.{HasMany, asks_of, told_by}
use Rattle.edi_explore.specs.States.{AreStates, Follows}
use Rattle.edi_explore.specs.Tables.{Grows, table_of}
use Rattle.edi_explore.specs.Verdicts.{AreAllByStepsOf, AreAllOf, AreAllTo, HasFirst, IsAnswer, IsConfirmed, IsUpTo, or_else, verdict_of, verdict_of_given_up}
use Rattle.edi_explore.proofs.Findings.{tells_more}
use Rattle.edi_explore.proofs.Iteration.{expanded_below, expanded_down, expanded_still, is_later}
use Rattle.edi_explore.proofs.Table.{longer}

-- ---- what is told of fewer moves stays told

pub all_to_more : (code : CodeParts) (input : List ℕ) (limits : Limits) (moves : ℕ) (fs gs : List Found) → Follows fs gs → AreAllTo code input limits moves fs → AreAllTo code input limits moves gs
all_to_more code input limits moves fs gs f all unit coded is bound choices ending end turns drawn order e less =
    go (all unit coded is bound choices ending end turns drawn order e less)
  where
    go : IsCutOrTold (told_by (asks_of limits) fs) ending end.now.shown → IsCutOrTold (told_by (asks_of limits) gs) ending end.now.shown
    go (inl cut) = inl cut
    go (inr c) = inr (tells_more (asks_of limits) fs gs ending end.now.shown f c)

-- ---- where the levels begin

-- the first n of these numbers, and then this one
abbrev with_next : (ℕ → ℕ) → ℕ → ℕ → ℕ → ℕ
with_next starts n last k = if nat_lt k n then starts k else last

before_next : (starts : ℕ → ℕ) (n last k : ℕ) → k < n → with_next starts n last k ≡ starts k
before_next starts n last k l = ap (λ b. if b then starts k else last) (lt-ltb k n l)

after_next : (starts : ℕ → ℕ) (n last k : ℕ) → n ≤ k → with_next starts n last k ≡ last
after_next starts n last k l = ap (λ b. if b then starts k else last) (le-ltb k n l)

module _ (code : CodeParts) (input : List ℕ) (limits : Limits) where
  -- as many levels were expanded, all states below `from`, and all others are of the next one
  pub record HasLevels (s : Search) (depth from : ℕ) : Type 0 where
    pub starts : ℕ → ℕ
    pub levelled : IsLevelled code (offline input) limits.turns (told_by (asks_of limits) s.found.items) (table_of s.states input) starts depth
    pub at : starts depth ≡ from
    pub last : (k : ℕ) → depth < k → starts k ≡ length s.states.keys.keys
    pub within : (k : ℕ) → starts k ≤ length s.states.keys.keys
    pub all : (v : ℕ) → v < from → HasExpanded code input limits s v
    pub first : HasBegun code input limits s

  -- no level was expanded
  pub no_levels : (s : Search) → HasFirst code input limits s → HasLevels s 0 0
  no_levels s h = record {
    starts = begins;
    levelled = record {
      some = h.some;
      first = h.first;
      rises = rises;
      kept = λ v l. absurd (omega (arith, l));
      expanded = λ k v l from to. absurd (omega (arith, l));
      begins = refl;
    };
    at = refl;
    last = last;
    within = within;
    all = λ v l. absurd (omega (arith, l));
    first = h.first;
  }
    where
      begins : ℕ → ℕ
      begins zero = 0
      begins (suc k) = length s.states.keys.keys

      rises : (k : ℕ) → begins k ≤ begins (suc k)
      rises zero = omega arith
      rises (suc k) = omega arith

      last : (k : ℕ) → 0 < k → begins k ≡ length s.states.keys.keys
      last zero l = absurd (omega (arith, l))
      last (suc k) l = refl

      within : (k : ℕ) → begins k ≤ length s.states.keys.keys
      within zero = omega arith
      within (suc k) = omega arith

  -- no state is left: each was expanded, and the first stint leads to one of them
  closed : (s : Search) (depth from : ℕ) → IsSearch code input limits s → HasLevels s depth from → from ≡ length s.states.keys.keys →
      IsClosed code (offline input) limits.turns (told_by (asks_of limits) s.found.items) (table_of s.states input) (length s.states.keys.keys)
  closed s depth from is h whole = record {
    some = h.levelled.some;
    first = h.first;
    kept = is.kept;
    expanded = λ v l. expanded_down code input limits s v (h.all v (omega (arith, l, whole)));
  }

  pub all_of : (s : Search) (depth from : ℕ) → IsSearch code input limits s → HasLevels s depth from → from ≡ length s.states.keys.keys → AreAllOf code input limits s.found.items
  all_of s depth from is h whole unit coded code_is =
      closed_all unit coded code code_is (offline input) limits.turns (told_by (asks_of limits) s.found.items) (table_of s.states input)
      (length s.states.keys.keys) (closed s depth from is h whole)

  pub all_steps_of : (s : Search) (depth from : ℕ) → IsSearch code input limits s → HasLevels s depth from → from ≡ length s.states.keys.keys →
      AreAllByStepsOf code input limits s.found.items
  all_steps_of s depth from is h whole none unit coded code_is calm inner =
      expanded_is_enough unit coded code code_is (offline input) limits.turns (endings_of s.found.items) (table_of s.states input) (length s.states.keys.keys)
      (subst
      (λ b. IsClosed code (offline input) limits.turns (told_by b s.found.items) (table_of s.states input) (length s.states.keys.keys))
      (ap (λ (o : Option ℕ). is_some o) none) (closed s depth from is h whole)) calm inner

  -- all executions of at most so many moves were followed
  pub all_to : (s : Search) (depth from : ℕ) → HasLevels s depth from → AreAllTo code input limits (suc depth) s.found.items
  all_to s depth from h unit coded code_is =
      levels_below unit coded code code_is (offline input) limits.turns (told_by (asks_of limits) s.found.items) (table_of s.states input) h.starts depth h.levelled

  -- one more level was expanded
  module _ (a b : Search) (depth from : ℕ) (was : AreStates a.states) (h : HasLevels a depth from) (grows : Grows a.states b.states)
      (more : Follows a.found.items b.found.items) (is : IsSearch code input limits b)
      (level : (v : ℕ) → from ≤ v → v < length a.states.keys.keys → HasExpanded code input limits b v) where
    abbrev Was : Report
    Was = told_by (asks_of limits) a.found.items

    abbrev Is : Report
    Is = told_by (asks_of limits) b.found.items

    abbrev TA : StateTable
    TA = table_of a.states input

    abbrev TB : StateTable
    TB = table_of b.states input

    abbrev old : ℕ
    old = length a.states.keys.keys

    abbrev new : ℕ
    new = length b.states.keys.keys

    abbrev starts : ℕ → ℕ
    starts = with_next h.starts (suc (suc depth)) new

    high : old ≤ new
    high = longer a.states b.states input was grows

    low : (k : ℕ) → k < suc (suc depth) → starts k ≡ h.starts k
    low k l = before_next h.starts (suc (suc depth)) new k l

    end : (k : ℕ) → suc depth < k → starts k ≡ new
    end k l = after_next h.starts (suc (suc depth)) new k (omega (arith, l))

    first_still : (next : ℕ) → next ≤ old → FirstBelow code (offline input) limits.turns Was TA next → FirstBelow code (offline input) limits.turns Is TB next
    first_still next l f =
        first_later code (offline input) limits.turns Was Is TA TB (Nothing code (offline input) limits.turns Was TA) (Nothing code (offline input) limits.turns Is TB)
        (Below code (offline input) limits.turns Was TA next) (Below code (offline input) limits.turns Is TB next) 0 0
        (is_later code input limits a b was grows more next next l (omega arith)) f

    first_more : HasBegun code input limits b
    first_more =
        first_later code (offline input) limits.turns Was Is TA TB (Nothing code (offline input) limits.turns Was TA) (Nothing code (offline input) limits.turns Is TB)
        (Below code (offline input) limits.turns Was TA old) (Below code (offline input) limits.turns Is TB new) 0 0
        (is_later code input limits a b was grows more old new (omega arith) high) h.first

    rises : (k : ℕ) → starts k ≤ starts (suc k)
    rises k = elim (cases_lt (suc k) (suc (suc depth))) [
      | inl less ↦ omega (arith, low k (omega (arith, less)), low (suc k) less, h.levelled.rises k)
      | inr past ↦ go (cases_lt k (suc (suc depth))) past
    ]
      where
        go : (k < suc (suc depth)) ⊎ (suc (suc depth) ≤ k) → suc (suc depth) ≤ suc k → starts k ≤ starts (suc k)
        go (inl less) past = omega (arith, low k less, end (suc k) (omega (arith, past)), h.within k, high)
        go (inr far) past = omega (arith, end k (omega (arith, far)), end (suc k) (omega (arith, past)))

    -- a state at one of the levels so far
    expanded_then : (k v : ℕ) → k < suc depth → starts k ≤ v → v < starts (suc k) → IsExpanded code (offline input) limits.turns Is TB (starts (suc (suc k))) v
    expanded_then k v l lowest highest = elim (cases_lt k depth) [
      | inl less ↦
          subst (λ n. IsExpanded code (offline input) limits.turns Is TB n v) (sym (low (suc (suc k)) (omega (arith, less))))
          (expanded_below code input limits a b was grows more (h.starts (suc (suc k))) v (h.within (suc (suc k)))
          (omega (arith, highest, low (suc k) (omega (arith, less)), h.within (suc k)))
          (h.levelled.expanded k v less (omega (arith, lowest, low k (omega (arith, less)))) (omega (arith, highest, low (suc k) (omega (arith, less))))))
      | inr past ↦
          let e : k ≡ depth = omega (arith, l, past) in
          subst (λ n. IsExpanded code (offline input) limits.turns Is TB n v) (sym (end (suc (suc k)) (omega (arith, past))))
          (expanded_down code input limits b v
          (level v
          (omega (arith, lowest, low k (omega (arith, l)), ap h.starts e, h.at))
          (omega (arith, highest, low (suc k) (omega (arith, l)), h.within (suc k)))))
    ]

    pub more_levels : HasLevels b (suc depth) old
    more_levels = record {
      starts = starts;
      levelled = record {
        some = h.levelled.some;
        first = subst (λ n. FirstBelow code (offline input) limits.turns Is TB n) (sym (low 1 (omega arith))) (first_still (h.starts 1) (h.within 1) h.levelled.first);
        rises = rises;
        kept = λ v l. is.kept v (omega (arith, l, low (suc depth) (omega arith), h.within (suc depth), high));
        expanded = expanded_then;
        begins = low 0 (omega arith) ∙ h.levelled.begins;
      };
      at = low (suc depth) (omega arith) ∙ h.last (suc depth) (omega arith);
      last = λ k l. end k l;
      within = λ k. elim (cases_lt k (suc (suc depth))) [
        | inl less ↦ omega (arith, low k less, h.within k, high)
        | inr past ↦ omega (arith, end k (omega (arith, past)))
      ];
      all = λ v l. elim (cases_lt v from) [
        | inl less ↦ expanded_still code input limits a b was grows more v l (h.all v less)
        | inr past ↦ level v past l
      ];
      first = first_more;
    }

-- ---- the verdict so far

module _ (code : CodeParts) (input : List ℕ) (limits : Limits) where
  -- nothing is lacking, and as many levels were expanded; or it is told already of which executions these are all endings
  abbrev pub IsSoFar : Verdict → (s : Search) → (depth from : ℕ) → Type 0
  IsSoFar verdict.All s depth from = HasLevels code input limits s depth from
  IsSoFar (verdict.Full moves) s depth from = ⊥
  IsSoFar (verdict.Many moves) s depth from = ⊥
  IsSoFar (verdict.Cut moves) s depth from = AreAllTo code input limits moves s.found.items
  IsSoFar (verdict.Unrecorded moves) s depth from = AreAllTo code input limits moves s.found.items
  IsSoFar (verdict.NoMemory moves) s depth from = ⊥

  -- after one more level, which all were followed of or not
  pub so_far_more : (x : Verdict) (e : Expanded) (a b : Search) (depth from : ℕ) → AreStates a.states → IsSoFar x a depth from →
      Follows a.found.items b.found.items → GoesFurther code input limits a b →
      (e ≡ expanded.Whole → (v : ℕ) → from ≤ v → v < length a.states.keys.keys → HasExpanded code input limits b v) →
      IsSoFar (or_else x (verdict_of e (suc depth))) b (suc depth) (length a.states.keys.keys)
  so_far_more verdict.All expanded.Whole a b depth from was h more further level =
      more_levels code input limits a b depth from was h further.grows more further.search (level refl)
  so_far_more verdict.All expanded.Cut a b depth from was h more further level =
      all_to_more code input limits (suc depth) a.found.items b.found.items more (all_to code input limits a depth from h)
  so_far_more verdict.All expanded.Unrecorded a b depth from was h more further level =
      all_to_more code input limits (suc depth) a.found.items b.found.items more (all_to code input limits a depth from h)
  so_far_more (verdict.Full moves) e a b depth from was h more further level = absurd h
  so_far_more (verdict.Many moves) e a b depth from was h more further level = absurd h
  so_far_more (verdict.Cut moves) e a b depth from was h more further level = all_to_more code input limits moves a.found.items b.found.items more h
  so_far_more (verdict.Unrecorded moves) e a b depth from was h more further level = all_to_more code input limits moves a.found.items b.found.items more h
  so_far_more (verdict.NoMemory moves) e a b depth from was h more further level = absurd h

  -- no state is left
  pub ends_whole : (x : Verdict) (s : Search) (depth from count : ℕ) → IsSearch code input limits s → IsSoFar x s depth from →
      from ≡ length s.states.keys.keys → IsAnswer code input limits count s.found.items x
  ends_whole verdict.All s depth from count is h whole =
      (all_of code input limits s depth from is h whole, all_steps_of code input limits s depth from is h whole)
  ends_whole (verdict.Full moves) s depth from count is h whole = absurd h
  ends_whole (verdict.Many moves) s depth from count is h whole = absurd h
  ends_whole (verdict.Cut moves) s depth from count is h whole = h
  ends_whole (verdict.Unrecorded moves) s depth from count is h whole = h
  ends_whole (verdict.NoMemory moves) s depth from count is h whole = absurd h

  -- the search is given up in a level
  pub ends_early : (x : Verdict) (g : GivenUp) (a : Search) (fs : List Found) (depth from count : ℕ) → IsSoFar x a depth from →
      Follows a.found.items fs → (g ≡ given_up.Full → limits.states ≤ count) → (g ≡ given_up.Many → HasMany limits fs) →
      IsAnswer code input limits count fs (or_else x (verdict_of_given_up g (suc depth)))
  ends_early verdict.All given_up.Full a fs depth from count h more full many =
      (all_to_more code input limits (suc depth) a.found.items fs more (all_to code input limits a depth from h), full refl)
  ends_early verdict.All given_up.Many a fs depth from count h more full many =
      (all_to_more code input limits (suc depth) a.found.items fs more (all_to code input limits a depth from h), many refl)
  ends_early verdict.All given_up.NoMemory a fs depth from count h more full many =
      all_to_more code input limits (suc depth) a.found.items fs more (all_to code input limits a depth from h)
  ends_early (verdict.Full moves) g a fs depth from count h more full many = absurd h
  ends_early (verdict.Many moves) g a fs depth from count h more full many = absurd h
  ends_early (verdict.Cut moves) g a fs depth from count h more full many = all_to_more code input limits moves a.found.items fs more h
  ends_early (verdict.Unrecorded moves) g a fs depth from count h more full many = all_to_more code input limits moves a.found.items fs more h
  ends_early (verdict.NoMemory moves) g a fs depth from count h more full many = absurd h

  -- of no move there is nothing to tell
  pub all_to_none : (fs : List Found) → AreAllTo code input limits 0 fs
  all_to_none fs unit coded is bound choices ending end t drawn order e less = absurd (omega (arith, less))

  -- the search is given up in the first stint
  pub early_none : (g : GivenUp) (fs : List Found) (count : ℕ) → (g ≡ given_up.Full → limits.states ≤ count) →
      (g ≡ given_up.Many → HasMany limits fs) → IsAnswer code input limits count fs (verdict_of_given_up g 0)
  early_none given_up.Full fs count full many = (all_to_none fs, full refl)
  early_none given_up.Many fs count full many = (all_to_none fs, many refl)
  early_none given_up.NoMemory fs count full many = all_to_none fs

  -- there are as many levels as there may be states
  pub ends_bound : (x : Verdict) (s : Search) (depth from count : ℕ) → IsSoFar x s depth from → limits.states ≤ count →
      IsAnswer code input limits count s.found.items (or_else x (verdict.Full (suc depth)))
  ends_bound verdict.All s depth from count h full = (all_to code input limits s depth from h, full)
  ends_bound (verdict.Full moves) s depth from count h full = absurd h
  ends_bound (verdict.Many moves) s depth from count h full = absurd h
  ends_bound (verdict.Cut moves) s depth from count h full = h
  ends_bound (verdict.Unrecorded moves) s depth from count h full = h
  ends_bound (verdict.NoMemory moves) s depth from count h full = absurd h

-- ---- what the verdict says

module _ (code : CodeParts) (input : List ℕ) (limits : Limits) (count : ℕ) (fs : List Found) where
  pub answer_all : (x : Verdict) → IsAnswer code input limits count fs x → x ≡ verdict.All → AreAllOf code input limits fs
  answer_all x h e = (subst (IsAnswer code input limits count fs) e h).0

  pub answer_steps : (x : Verdict) → IsAnswer code input limits count fs x → x ≡ verdict.All → AreAllByStepsOf code input limits fs
  answer_steps x h e = (subst (IsAnswer code input limits count fs) e h).1

  pub answer_to : (x : Verdict) (moves : ℕ) → IsAnswer code input limits count fs x → IsUpTo x moves → AreAllTo code input limits moves fs
  answer_to verdict.All moves h up = absurd up
  answer_to (verdict.Full n) moves h up = subst (λ k. AreAllTo code input limits k fs) (sym up) h.0
  answer_to (verdict.Many n) moves h up = subst (λ k. AreAllTo code input limits k fs) (sym up) h.0
  answer_to (verdict.Cut n) moves h up = subst (λ k. AreAllTo code input limits k fs) (sym up) h
  answer_to (verdict.Unrecorded n) moves h up = subst (λ k. AreAllTo code input limits k fs) (sym up) h
  answer_to (verdict.NoMemory n) moves h up = subst (λ k. AreAllTo code input limits k fs) (sym up) h

  -- a cut that is not confirmed is told otherwise, and says the same of endings
  pub answer_confirmed : (x y : Verdict) → IsConfirmed x y → IsAnswer code input limits count fs x → IsAnswer code input limits count fs y
  answer_confirmed verdict.All y e h = subst (IsAnswer code input limits count fs) (sym e) h
  answer_confirmed (verdict.Full n) y e h = subst (IsAnswer code input limits count fs) (sym e) h
  answer_confirmed (verdict.Many n) y e h = subst (IsAnswer code input limits count fs) (sym e) h
  answer_confirmed (verdict.Cut n) y (inl e) h = subst (IsAnswer code input limits count fs) (sym e) h
  answer_confirmed (verdict.Cut n) y (inr (inl e)) h = subst (IsAnswer code input limits count fs) (sym e) h
  answer_confirmed (verdict.Cut n) y (inr (inr e)) h = subst (IsAnswer code input limits count fs) (sym e) h
  answer_confirmed (verdict.Unrecorded n) y e h = subst (IsAnswer code input limits count fs) (sym e) h
  answer_confirmed (verdict.NoMemory n) y e h = subst (IsAnswer code input limits count fs) (sym e) h

  pub answer_full : (x : Verdict) (moves : ℕ) → IsAnswer code input limits count fs x → x ≡ verdict.Full moves → limits.states ≤ count
  answer_full x moves h e = (subst (IsAnswer code input limits count fs) e h).1

  pub answer_many : (x : Verdict) (moves : ℕ) → IsAnswer code input limits count fs x → x ≡ verdict.Many moves → HasMany limits fs
  answer_many x moves h e = (subst (IsAnswer code input limits count fs) e h).1
