-- The machine that is told at the end of a run, where the process that ended it goes on in the kernel.
use Rattle.std.proofs.Common.{◌≡◌, ◌⊎◌, inl, inr, ℕ, ◌-◌, suc, Bool, true, List, Contains, length, Some, None, refl, sym, ap, subst, ◌∙◌}
use Rattle.edi_calls.specs.Names.{Name, find, same}
use Rattle.edi_calls.specs.Outcome as outcome
use Rattle.edi_calls.proofs.Tables.{find-with_at-other, find-with_at-same, same-or-other, same-refl}
use Rattle.edi_target.specs.Effect.{Local}
use Rattle.edi_target.specs.Mach.{Activity, Machine, activity_of, is_first, ready, running_of}
use Rattle.edi_kernel.specs.declared.ends.Ending.{Ending}
use Rattle.edi_kernel.specs.declared.ends.Ending.TheVariants as ending
use Rattle.edi_kernel.specs.Kernel.{GoesOnAs, ending_of, going_on}
use Rattle.edi_kernel.specs.Stretch.{IsExecuted}
use Rattle.edi_waits.specs.Ends.{AreAtEnd, AtEnd, IsSeen, end_of, executed, executed_by, frames_of, has_broken, stands_by}
use Rattle.edi_waits.specs.declared.ends.Stands.{Stands}
use Rattle.edi_waits.proofs.Lists.{some_is}

module _ (m : Machine) (p : Name) (a : Activity) (found : find m.activities p ≡ Some a) (xs : List AtEnd) where
  -- p as it goes on, where it does so as before its last instruction
  abbrev on : Activity
  on = activity_of (running_of m a).local a.forks ready

  abbrev after : Machine
  after = going_on m p (running_of m a).local a.forks

  -- nothing is told of p but its frames
  told : (q : Name) → q ≡ p → end_of after (same p) q on ≡ end_of m (same p) q a
  told q is =
      let broke : same p q ≡ true = ap (same p) is ∙ same-refl p in
      let how : stands_by (same p q) on.standing on.forks ≡ stands_by (same p q) a.standing a.forks =
      ap (λ b. stands_by b on.standing on.forks) broke ∙ ap (λ b. stands_by b a.standing a.forks) (sym broke) in
      (λ i. record { process = q; stands = how i; frames = frames_of (suc (a.base - a.first)) m.memory a.first a.base a.top a.pc })

  one : (x : AtEnd) → (b : Activity) × (find after.activities x.process ≡ Some b) × (x ≡ end_of after (same p) x.process b) →
      (b : Activity) × (find m.activities x.process ≡ Some b) × (x ≡ end_of m (same p) x.process b)
  one x h = elim (same-or-other x.process p) [
    | inl is ↦
        let on_is : on ≡ h.0 = some_is (sym (find-with_at-same m.activities p on) ∙ ap (find after.activities) (sym is) ∙ h.1) in
        (a, ap (find m.activities) is ∙ found, h.2 ∙ ap (λ b. end_of after (same p) x.process b) (sym on_is) ∙ told x.process is)
    | inr other ↦ (h.0, sym (find-with_at-other m.activities p x.process on other) ∙ h.1, h.2)
  ]

  each_one : (q : Name) (b : Activity) → find m.activities q ≡ Some b → AreAtEnd after (same p) xs → Contains xs (end_of m (same p) q b)
  each_one q b e h = elim (same-or-other q p) [
    | inl is ↦
        let same_activity : a ≡ b = some_is (sym found ∙ ap (find m.activities) (sym is) ∙ e) in
        subst (Contains xs) (told q is ∙ ap (λ z. end_of m (same p) q z) same_activity)
        (h.all q on (ap (find after.activities) is ∙ find-with_at-same m.activities p on))
    | inr other ↦ h.all q b (find-with_at-other m.activities p q on other ∙ e)
  ]

  pub are_before : AreAtEnd after (same p) xs → AreAtEnd m (same p) xs
  are_before h = record { each = λ x c. one x (h.each x c); all = λ q b e. each_one q b e h; order = h.order }

-- what is told of a machine of an end: this memory, and these processes
pub record Sees (words : List ℕ) (end : outcome.Ending) (m : Machine) (p : Name) (memory : List ℕ) (xs : List AtEnd) : Type 0 where
  pub seen : Machine
  pub is_seen : IsSeen words end m seen p
  pub memory_is : seen.memory ≡ memory
  pub are : AreAtEnd seen (has_broken end p) xs

module _ (words : List ℕ) (m : Machine) (p : Name) (a : Activity) (found : find m.activities p ≡ Some a) (now : Local) (memory : List ℕ)
    (memory_is : now.memory ≡ memory) (xs : List AtEnd) (are : AreAtEnd (going_on m p now a.forks) (same p) xs) where
  as_before : (end : outcome.Ending) → now ≡ (running_of m a).local → IsSeen words end m m p → has_broken end p ≡ same p → Sees words end m p memory xs
  as_before end e is broke = record {
    seen = m;
    is_seen = is;
    memory_is = ap (λ (l : Local). l.memory) (sym e) ∙ memory_is;
    are = subst (λ f. AreAtEnd m f xs) (sym broke)
        (are_before m p a found xs (subst (λ l. AreAtEnd (going_on m p l a.forks) (same p) xs) e are));
  }

  by_turns : (now ≡ (running_of m a).local) ⊎ IsExecuted words (length m.activities) (is_first p) (running_of m a).local now →
      Sees words outcome.turns m p memory xs
  by_turns (inl e) = as_before outcome.turns e (inl refl) refl
  by_turns (inr x) = record {
    seen = going_on m p now a.forks;
    is_seen = inr (sym (ap (executed_by words m p) found ∙ ap (λ f. executed f m p a) x.1));
    memory_is = memory_is;
    are = are;
  }

  -- BY HOW THE RUN HAS ENDED
  pub sees : (e : Ending) (end : outcome.Ending) → (e ≡ ending.Standstill → ⊥) → ending_of e ≡ Some end → GoesOnAs words e m p (running_of m a).local now →
      Sees words end m p memory xs
  sees ending.Done end not_still is goes = subst (λ x. Sees words x m p memory xs) (some_is is) (as_before outcome.done goes refl refl)
  sees (ending.Halted line) end not_still is goes =
      subst (λ x. Sees words x m p memory xs) (some_is is) (as_before (outcome.halted line) goes refl refl)
  sees (ending.Failed cause line) end not_still is goes =
      subst (λ x. Sees words x m p memory xs) (some_is is) (as_before (outcome.failed cause line) goes refl refl)
  sees ending.Turns end not_still is goes = subst (λ x. Sees words x m p memory xs) (some_is is) (by_turns goes)
  sees ending.Standstill end not_still is goes = absurd (not_still refl)
  sees (ending.Bad at) end not_still is goes = subst (λ x. Sees words x m p memory xs) (some_is is) (as_before (outcome.bad at) goes refl refl)
  sees ending.Fault end not_still is goes = absurd (cc)
