-- One ending more is found.
use Rattle.std.proofs.Common.{◌≡◌, ◌⊎◌, inl, inr, ℕ, ◌<◌, ◌≤◌, Bool, List, [], ◌∷◌, ◌++◌, length, Some, sym, ap, subst, ◌∙◌, arith, length-append}
use Rattle.std.specs.Prelude.{slice_get}
use Rattle.std.proofs.lemmas.Option.{slice_get_within}
use Rattle.edi_target.specs.Check.{CodeParts}
use Rattle.edi_unit.specs.Tree.{ProgramUnit}
use Rattle.edi_follows.specs.Theorem.{CanBeCoded}
use Rattle.edi_kernel.specs.declared.ends.Ending.{Ending}
use Rattle.edi_explored.specs.machine.Kernels.{IsUnitCode}
use Rattle.edi_explored.specs.machine.Alike.{SameShown}
use Rattle.edi_explore.specs.declared.ends.Found.{Found}
use Rattle.edi_explore.specs.declared.ends.Limits.{Limits}
use Rattle.edi_explore.specs.declared.finding.Search.{Search}
use Rattle.edi_explore.specs.Finding.{FindsAt, IsFresh}
use Rattle.edi_explore.specs.Found.{IsTold, RunsWith, TellsWaits, most_choices, most_turns}
use Rattle.edi_explore.specs.Shown.{HasEnding, IsMet, asks_of}
use Rattle.edi_explore.proofs.Findings.{one_contained, one_distinct, one_recorded, one_waits, recorded_of, recorded_waiting, shown_back, shown_on}
use Rattle.edi_explore.proofs.Keying.{split_at}

-- the same output, where it is looked at
pub has_as : (asks : Bool) (fs : List Found) (e : Ending) (xs ys : List ℕ) → SameShown asks xs ys → HasEnding asks fs e xs → HasEnding asks fs e ys
has_as asks fs e xs ys same h = (
  h.0,
  h.1,
  record { ending = h.2.ending; shown = shown_on asks ys xs h.0.shown.items (shown_back asks xs ys same) h.2.shown },
)

module _ (code : CodeParts) (input : List ℕ) (limits : Limits) (a b : Search) (came one : Found) (e : Ending) (shown choices : List ℕ)
    (push : b.found.items ≡ a.found.items ++ one ∷ []) (same : b.moves ≡ a.moves) (told : one ≡ record came { waits = one.waits })
    (met : IsMet (asks_of limits) came e shown) (as_many : came.moves ≡ a.moves) where
  -- what is kept is what was met
  pub one_met : IsMet (asks_of limits) one e shown
  one_met = subst (λ (f : Found). IsMet (asks_of limits) f e shown) (sym told) (record { ending = met.ending; shown = met.shown })

  pub one_has : HasEnding (asks_of limits) b.found.items e shown
  one_has = (one, one_contained a.found.items b.found.items one push, one_met)

  module _ (is_told : IsTold e) (lacks : HasEnding (asks_of limits) a.found.items e shown → ⊥)
      (room : (most : ℕ) → limits.shown ≡ Some most → length a.found.items < most) (few : length choices ≤ most_choices)
      (runs : (unit : ProgramUnit) → CanBeCoded unit → IsUnitCode unit code → RunsWith most_turns unit input choices came)
      (waits : TellsWaits code input one) where
    -- what is met in its place was not found
    lacks_one : HasEnding (asks_of limits) a.found.items one.ending one.shown.items → ⊥
    lacks_one h = lacks (
      h.0,
      h.1,
      record {
        ending = h.2.ending ∙ one_met.ending;
        shown = shown_on (asks_of limits) shown one.shown.items h.0.shown.items one_met.shown h.2.shown;
      },
    )

    fresh_one : IsFresh limits a.found.items one
    fresh_one = record { told = subst IsTold (sym one_met.ending) is_told; lacks = lacks_one }

    is_last : (i : ℕ) (x : Found) → length a.found.items ≤ i → slice_get b.found.items i ≡ Some x → x ≡ one
    is_last i x l at = go (split_at a.found.items one x i (ap (λ xs. slice_get xs i) (sym push) ∙ at))
      where
        go : (slice_get a.found.items i ≡ Some x) ⊎ ((i ≡ length a.found.items) × (x ≡ one)) → x ≡ one
        go (inl was) = absurd (omega (arith, l, slice_get_within a.found.items i x was))
        go (inr e) = e.1

    pub found_one : FindsAt code input limits a b
    found_one = record {
      finds = record {
        recorded = λ unit coded is all.
            one_recorded a.found.items b.found.items one push unit input
            (recorded_waiting unit input came one told (recorded_of unit input choices came e (runs unit coded is) met.ending is_told few)) all;
        waits = one_waits a.found.items b.found.items one push code input waits;
        distinct = one_distinct a.found.items b.found.items one push (asks_of limits) lacks_one;
        fresh = λ i x l at. subst (IsFresh limits a.found.items) (sym (is_last i x l at)) fresh_one;
        few = λ most is l. omega (arith, room most is, ap length push, length-append a.found.items (one ∷ []));
        more = (one ∷ [], push);
      };
      after = λ i x l at. ap (λ (f : Found). f.moves) (is_last i x l at) ∙ ap (λ (f : Found). f.moves) told ∙ as_many;
      moves = same;
    }
