-- Endings that no execution of fewer moves has.
use Rattle.std.proofs.Common.{◌≡◌, inl, inr, ℕ, suc, ◌≤◌, List, [], length, Some, refl, sym, ap, subst, ◌∙◌, arith}
use Rattle.std.specs.Prelude.{slice_get}
use Rattle.std.proofs.lemmas.Bool.{cases_lt}
use Rattle.edi_calls.specs.Outcome as outcome
use Rattle.edi_target.specs.Check.{CodeParts}
use Rattle.edi_unit.specs.Tree.{ProgramUnit}
use Rattle.edi_follows.specs.Theorem.{CanBeCoded}
use Rattle.edi_kernel.specs.declared.ends.Ending.{Ending}
use Rattle.edi_kernel.specs.declared.ends.Ending.TheVariants as ending
use Rattle.edi_explored.specs.Covered.{IsCutOrTold}
use Rattle.edi_explored.specs.Moves.{moves_of}
use Rattle.edi_explored.specs.machine.Kernels.{IsUnitCode, ending_of}
use Rattle.edi_explore.specs.declared.ends.Found.{Found}
use Rattle.edi_explore.specs.declared.ends.Limits.{Limits}
use Rattle.edi_explore.specs.declared.ends.Verdict.{Verdict}
use Rattle.edi_explore.specs.declared.ends.Verdict.TheVariants as verdict
use Rattle.edi_explore.specs.declared.expand.Expanded.{Expanded}
use Rattle.edi_explore.specs.declared.expand.Expanded.TheVariants as expanded
use Rattle.edi_explore.specs.declared.finding.Search.{Search}
use Rattle.edi_explore.specs.Fewest.{AreFewest, AreUpTo, AreWithin, IsFewest, IsWithin}
use Rattle.edi_explore.specs.Finding.{FindsAt, IsFresh}
use Rattle.edi_explore.specs.Found.{IsTold}
use Rattle.edi_explore.specs.Offline.{offline}
use Rattle.edi_explore.specs.Shown.{asks_of, told_by}
use Rattle.edi_explore.specs.declared.step.GivenUp.{GivenUp}
use Rattle.edi_explore.specs.declared.step.GivenUp.TheVariants as given_up
use Rattle.edi_explore.specs.Verdicts.{AreAllTo, IsConfirmed, IsUpTo, or_else, verdict_of, verdict_of_given_up}
use Rattle.edi_explore.proofs.Findings.{at_contained, contains_at, found_of, shown_on}
use Rattle.edi_explore.proofs.Growing.{stays_at}
use Rattle.edi_explore.proofs.Keying.{lookup, some_is}
use Rattle.edi_explore.proofs.Levelling.{IsSoFar, all_to}

-- ---- equal endings of the meaning are equal endings of the kernel

abbrev back_of : outcome.Ending → Ending
back_of outcome.done = ending.Done
back_of (outcome.halted line) = ending.Halted line
back_of (outcome.failed cause line) = ending.Failed cause line
back_of outcome.turns = ending.Turns
back_of outcome.standstill = ending.Standstill
back_of (outcome.bad address) = ending.Bad address

back_is : (e : Ending) (end : outcome.Ending) → ending_of e ≡ Some end → e ≡ back_of end
back_is ending.Done end is = ap back_of (some_is is)
back_is (ending.Halted line) end is = ap back_of (some_is is)
back_is (ending.Failed cause line) end is = ap back_of (some_is is)
back_is ending.Turns end is = ap back_of (some_is is)
back_is ending.Standstill end is = ap back_of (some_is is)
back_is (ending.Bad at) end is = ap back_of (some_is is)
back_is ending.Fault end is = absurd (cc)

not_turns : (e : Ending) (end : outcome.Ending) → IsTold e → ending_of e ≡ Some end → end ≡ outcome.turns → ⊥
not_turns e end told is cut = subst IsTold (back_is e end is ∙ ap back_of cut) told

-- ---- one that was found in a level

module _ (code : CodeParts) (input : List ℕ) (limits : Limits) where
  -- it was not found before, and all of fewer moves were told before
  fewest_new : (fs : List Found) (one : Found) (depth : ℕ) → AreAllTo code input limits depth fs → IsFresh limits fs one → one.moves ≡ depth →
      (unit : ProgramUnit) → CanBeCoded unit → IsUnitCode unit code → IsFewest (asks_of limits) unit input one
  fewest_new fs one depth all fresh moves unit coded is bound choices end traced turns drawn order ends same shown =
      elim (cases_lt (moves_of unit (offline input) bound choices (length order)) depth) [
        | inl less ↦ absurd (go (all unit coded is bound choices end traced turns drawn order ends less))
        | inr past ↦ omega (arith, past, moves)
      ]
    where
      go : IsCutOrTold (told_by (asks_of limits) fs) end traced.now.shown → ⊥
      go (inl cut) = not_turns one.ending end fresh.told same cut
      go (inr t) =
          let w = found_of (asks_of limits) fs end traced.now.shown t in
          fresh.lacks (
            w.one,
            w.among,
            record {
              ending = back_is w.one.ending end w.ending ∙ sym (back_is one.ending end same);
              shown = shown_on (asks_of limits) one.shown.items traced.now.shown w.one.shown.items shown w.shown_is;
            },
          )

  -- where it is said of all, it is said of some
  fewest_some : (v : Verdict) (fs : List Found) → AreFewest code input limits verdict.All fs → AreFewest code input limits v fs
  fewest_some v fs all unit coded is one c within = all unit coded is one c tt

  pub fewest_or : (v w : Verdict) (fs : List Found) → AreFewest code input limits v fs → AreFewest code input limits (or_else v w) fs
  fewest_or verdict.All w fs h = fewest_some w fs h
  fewest_or (verdict.Full n) w fs h = h
  fewest_or (verdict.Many n) w fs h = h
  fewest_or (verdict.Cut n) w fs h = h
  fewest_or (verdict.Unrecorded n) w fs h = h
  fewest_or (verdict.NoMemory n) w fs h = h

  pub fewest_confirmed : (v w : Verdict) (fs : List Found) → IsConfirmed v w → AreFewest code input limits v fs → AreFewest code input limits w fs
  fewest_confirmed verdict.All w fs e h = subst (λ (x : Verdict). AreFewest code input limits x fs) (sym e) h
  fewest_confirmed (verdict.Full n) w fs e h = subst (λ (x : Verdict). AreFewest code input limits x fs) (sym e) h
  fewest_confirmed (verdict.Many n) w fs e h = subst (λ (x : Verdict). AreFewest code input limits x fs) (sym e) h
  fewest_confirmed (verdict.Cut n) w fs (inl e) h = subst (λ (x : Verdict). AreFewest code input limits x fs) (sym e) h
  fewest_confirmed (verdict.Cut n) w fs (inr (inl e)) h = subst (λ (x : Verdict). AreFewest code input limits x fs) (sym e) h
  fewest_confirmed (verdict.Cut n) w fs (inr (inr e)) h = subst (λ (x : Verdict). AreFewest code input limits x fs) (sym e) h
  fewest_confirmed (verdict.Unrecorded n) w fs e h = subst (λ (x : Verdict). AreFewest code input limits x fs) (sym e) h
  fewest_confirmed (verdict.NoMemory n) w fs e h = subst (λ (x : Verdict). AreFewest code input limits x fs) (sym e) h

  -- of no move there are no fewer
  pub fewest_none : (v : Verdict) (a b : Search) → a.found.items ≡ [] → a.moves ≡ 0 → FindsAt code input limits a b → AreFewest code input limits v b.found.items
  fewest_none v a b none zero f unit coded is one c within bound choices end traced turns drawn order ends same shown =
      let at = at_contained b.found.items one c in
      let moves : one.moves ≡ a.moves = f.after at.0 one (omega (arith, ap length none)) at.1 in
      omega (arith, moves, zero)

  -- the verdict says something of no more moves than these
  abbrev pub IsLow : Verdict → (moves : ℕ) → Type 0
  IsLow v moves = (m : ℕ) → IsUpTo v m → m ≤ moves

  pub low_none : (v : Verdict) (e : Expanded) (depth : ℕ) → IsLow v depth → IsLow (or_else v (verdict_of e (suc depth))) (suc depth)
  low_none verdict.All expanded.Whole depth low m up = absurd up
  low_none verdict.All expanded.Cut depth low m up = omega (arith, up)
  low_none verdict.All expanded.Unrecorded depth low m up = omega (arith, up)
  low_none (verdict.Full n) e depth low m up = omega (arith, low m up)
  low_none (verdict.Many n) e depth low m up = omega (arith, low m up)
  low_none (verdict.Cut n) e depth low m up = omega (arith, low m up)
  low_none (verdict.Unrecorded n) e depth low m up = omega (arith, low m up)
  low_none (verdict.NoMemory n) e depth low m up = omega (arith, low m up)

  -- it has more moves than the verdict says something of
  beyond : (v : Verdict) (moves depth : ℕ) → IsLow v depth → moves ≡ suc depth → (v ≡ verdict.All → ⊥) → IsWithin v moves → ⊥
  beyond verdict.All moves depth low same not_all within = not_all refl
  beyond (verdict.Full n) moves depth low same not_all within = omega (arith, low n refl, same, within)
  beyond (verdict.Many n) moves depth low same not_all within = omega (arith, low n refl, same, within)
  beyond (verdict.Cut n) moves depth low same not_all within = omega (arith, low n refl, same, within)
  beyond (verdict.Unrecorded n) moves depth low same not_all within = omega (arith, low n refl, same, within)
  beyond (verdict.NoMemory n) moves depth low same not_all within = omega (arith, low n refl, same, within)

  -- one more level was expanded, or some of it
  module _ (a b : Search) (depth from : ℕ) (f : FindsAt code input limits a b) (moves : a.moves ≡ suc depth) where
    -- it was found before, or is fresh
    each : (v : Verdict) → ((one : Found) → IsFresh limits a.found.items one → one.moves ≡ suc depth → IsWithin v one.moves →
        (unit : ProgramUnit) → CanBeCoded unit → IsUnitCode unit code → IsFewest (asks_of limits) unit input one) →
        AreFewest code input limits v a.found.items → AreFewest code input limits v b.found.items
    each v new old unit coded is one c within =
        let at = at_contained b.found.items one c in
        elim (cases_lt at.0 (length a.found.items)) [
          | inl less ↦
              let was : (x : Found) × (slice_get a.found.items at.0 ≡ Some x) = lookup a.found.items at.0 less in
              let same : was.0 ≡ one = some_is (sym (stays_at a.found.items b.found.items at.0 was.0 f.finds.more was.1) ∙ at.1) in
              old unit coded is one (contains_at a.found.items at.0 one (was.1 ∙ ap Some same)) within
          | inr past ↦ new one (f.finds.fresh at.0 one past at.1) (f.after at.0 one past at.1 ∙ moves) within unit coded is
        ]

    pub fewest_more : (v : Verdict) → IsSoFar code input limits v a depth from → IsLow v depth → AreFewest code input limits v a.found.items →
        AreFewest code input limits v b.found.items
    fewest_more verdict.All h low old =
        each verdict.All (λ one fresh same within. fewest_new a.found.items one (suc depth) (all_to code input limits a depth from h) fresh same) old
    fewest_more (verdict.Full n) h low old = absurd h
    fewest_more (verdict.Many n) h low old = absurd h
    fewest_more (verdict.Cut n) h low old =
        each (verdict.Cut n) (λ one fresh same within. absurd (beyond (verdict.Cut n) one.moves depth low same (λ e. not_cut e) within)) old
      where
        not_cut : verdict.Cut n ≡ verdict.All → ⊥
        not_cut e = cc
    fewest_more (verdict.Unrecorded n) h low old =
        each (verdict.Unrecorded n) (λ one fresh same within. absurd (beyond (verdict.Unrecorded n) one.moves depth low same (λ e. not_this e) within)) old
      where
        not_this : verdict.Unrecorded n ≡ verdict.All → ⊥
        not_this e = cc
    fewest_more (verdict.NoMemory n) h low old = absurd h

  -- ---- what was found is within what is said

  -- nothing was found before
  pub up_to_none : (a b : Search) → a.found.items ≡ [] → a.moves ≡ 0 → FindsAt code input limits a b → AreUpTo 0 b.found.items
  up_to_none a b none zero f one c =
      let at = at_contained b.found.items one c in
      omega (arith, f.after at.0 one (omega (arith, ap length none)) at.1, zero)

  -- one more level
  pub up_to_more : (a b : Search) (depth : ℕ) → FindsAt code input limits a b → a.moves ≡ suc depth → AreUpTo depth a.found.items →
      AreUpTo (suc depth) b.found.items
  up_to_more a b depth f moves old one c =
      let at = at_contained b.found.items one c in
      elim (cases_lt at.0 (length a.found.items)) [
        | inl less ↦
            let was : (x : Found) × (slice_get a.found.items at.0 ≡ Some x) = lookup a.found.items at.0 less in
            let same : was.0 ≡ one = some_is (sym (stays_at a.found.items b.found.items at.0 was.0 f.finds.more was.1) ∙ at.1) in
            omega (arith, old one (contains_at a.found.items at.0 one (was.1 ∙ ap Some same)))
        | inr past ↦ omega (arith, f.after at.0 one past at.1, moves)
      ]

  up_to_so : (v : Verdict) (s : Search) (depth from : ℕ) → IsSoFar code input limits v s depth from → (fs : List Found) → AreWithin v fs
  up_to_so verdict.All s depth from h fs = tt
  up_to_so (verdict.Full n) s depth from h fs = absurd h
  up_to_so (verdict.Many n) s depth from h fs = absurd h
  up_to_so (verdict.Cut n) s depth from h fs = tt
  up_to_so (verdict.Unrecorded n) s depth from h fs = tt
  up_to_so (verdict.NoMemory n) s depth from h fs = absurd h

  -- where no state is left
  pub within_whole : (v : Verdict) (s : Search) (depth from : ℕ) → IsSoFar code input limits v s depth from → AreWithin v s.found.items
  within_whole v s depth from h = up_to_so v s depth from h s.found.items

  -- where the search is given up
  pub within_given_up : (g : GivenUp) (moves : ℕ) (fs : List Found) → AreUpTo moves fs → AreWithin (verdict_of_given_up g moves) fs
  within_given_up given_up.Full moves fs h = h
  within_given_up given_up.Many moves fs h = h
  within_given_up given_up.NoMemory moves fs h = tt

  pub within_or : (v w : Verdict) (s : Search) (depth from : ℕ) (fs : List Found) → IsSoFar code input limits v s depth from → AreWithin w fs →
      AreWithin (or_else v w) fs
  within_or verdict.All w s depth from fs h within = within
  within_or (verdict.Full n) w s depth from fs h within = absurd h
  within_or (verdict.Many n) w s depth from fs h within = absurd h
  within_or (verdict.Cut n) w s depth from fs h within = tt
  within_or (verdict.Unrecorded n) w s depth from fs h within = tt
  within_or (verdict.NoMemory n) w s depth from fs h within = absurd h

  pub within_confirmed : (v w : Verdict) (fs : List Found) → IsConfirmed v w → AreWithin v fs → AreWithin w fs
  within_confirmed verdict.All w fs e h = subst (λ (x : Verdict). AreWithin x fs) (sym e) h
  within_confirmed (verdict.Full n) w fs e h = subst (λ (x : Verdict). AreWithin x fs) (sym e) h
  within_confirmed (verdict.Many n) w fs e h = subst (λ (x : Verdict). AreWithin x fs) (sym e) h
  within_confirmed (verdict.Cut n) w fs (inl e) h = subst (λ (x : Verdict). AreWithin x fs) (sym e) tt
  within_confirmed (verdict.Cut n) w fs (inr (inl e)) h = subst (λ (x : Verdict). AreWithin x fs) (sym e) tt
  within_confirmed (verdict.Cut n) w fs (inr (inr e)) h = subst (λ (x : Verdict). AreWithin x fs) (sym e) tt
  within_confirmed (verdict.Unrecorded n) w fs e h = subst (λ (x : Verdict). AreWithin x fs) (sym e) h
  within_confirmed (verdict.NoMemory n) w fs e h = subst (λ (x : Verdict). AreWithin x fs) (sym e) h
