-- No execution makes more moves than the ranks of a search that has followed all.
use Rattle.std.proofs.Common.{◌≡◌, ℕ, suc, List, length, Option, Some, None, subst, arith}
use Rattle.std.specs.Prelude.{IfSome}
use Rattle.edi_unit.specs.Tree.{ProgramUnit}
use Rattle.edi_target.specs.Check.{CodeParts}
use Rattle.edi_follows.specs.Theorem.{CanBeCoded}
use Rattle.edi_explored.specs.Within.{MakeFewer}
use Rattle.edi_explored.specs.machine.Kernels.{IsUnitCode}
use Rattle.edi_explored.specs.machine.Levels.{Below, Nothing}
use Rattle.edi_explored.specs.machine.Ranks.{Among}
use Rattle.edi_explored.proofs.machine.Levels.{first_later, same_later}
use Rattle.edi_explored.proofs.machine.Ranks.{ranks_fewer}
use Rattle.edi_explore.specs.declared.ends.Limits.{Limits}
use Rattle.edi_explore.specs.declared.ends.Verdict.{Verdict}
use Rattle.edi_explore.specs.declared.ends.Verdict.TheVariants as verdict
use Rattle.edi_explore.specs.declared.finding.Search.{Search}
use Rattle.edi_explore.specs.declared.step.GivenUp.{GivenUp}
use Rattle.edi_explore.specs.declared.step.GivenUp.TheVariants as given_up
use Rattle.edi_explore.specs.Expand.{IsSearch, IsWhole, targets}
use Rattle.edi_explore.specs.Links.{HaveRanks, first_states, targets_of}
use Rattle.edi_explore.specs.Offline.{offline}
use Rattle.edi_explore.specs.Shown.{asks_of, told_by}
use Rattle.edi_explore.specs.Tables.{table_of}
use Rattle.edi_explore.specs.Verdicts.{IsWholeIf, or_else, verdict_of_given_up}
use Rattle.edi_explore.proofs.Levelling.{HasLevels, IsSoFar}
use Rattle.edi_explore.proofs.Links.{state_in}

module _ (code : CodeParts) (input : List ℕ) (limits : Limits) where
  -- no state is left
  whole_of : (s : Search) (depth from : ℕ) → IsSearch code input limits s → HasLevels code input limits s depth from → from ≡ length s.states.keys.keys →
      IsWhole code input limits s
  whole_of s depth from is h whole =
      let report = told_by (asks_of limits) s.found.items in
      let table = table_of s.states input in
      let count = length s.states.keys.keys in
      let none = Nothing code (offline input) limits.turns report table in
      let below = Below code (offline input) limits.turns report table count in
      let firsts = Among code (offline input) limits.turns report table count (targets code input limits s) (first_states count) in
      record {
        some = h.levelled.some;
        first = first_later code (offline input) limits.turns report report table table none none below firsts 0 0
            (same_later code (offline input) limits.turns report table (below 0) (firsts 0) (λ w l. (l, state_in count w l))) h.first;
        kept = is.kept;
        expanded = λ v l. h.all v (omega (arith, l, whole));
      }

  pub whole_ends : (x : Verdict) (s : Search) (depth from : ℕ) → IsSearch code input limits s → IsSoFar code input limits x s depth from →
      from ≡ length s.states.keys.keys → IsWholeIf code input limits x s
  whole_ends verdict.All s depth from is h whole = whole_of s depth from is h whole
  whole_ends (verdict.Full moves) s depth from is h whole = tt
  whole_ends (verdict.Many moves) s depth from is h whole = tt
  whole_ends (verdict.Cut moves) s depth from is h whole = tt
  whole_ends (verdict.Unrecorded moves) s depth from is h whole = tt
  whole_ends (verdict.NoMemory moves) s depth from is h whole = tt

  -- the search is given up: nothing is said
  pub whole_early : (x : Verdict) (g : GivenUp) (moves : ℕ) (s : Search) → IsWholeIf code input limits (or_else x (verdict_of_given_up g moves)) s
  whole_early verdict.All given_up.Full moves s = tt
  whole_early verdict.All given_up.Many moves s = tt
  whole_early verdict.All given_up.NoMemory moves s = tt
  whole_early (verdict.Full n) g moves s = tt
  whole_early (verdict.Many n) g moves s = tt
  whole_early (verdict.Cut n) g moves s = tt
  whole_early (verdict.Unrecorded n) g moves s = tt
  whole_early (verdict.NoMemory n) g moves s = tt

  -- there are as many levels as there may be states: nothing is said
  pub whole_bound : (x : Verdict) (moves : ℕ) (s : Search) → IsWholeIf code input limits (or_else x (verdict.Full moves)) s
  whole_bound verdict.All moves s = tt
  whole_bound (verdict.Full n) moves s = tt
  whole_bound (verdict.Many n) moves s = tt
  whole_bound (verdict.Cut n) moves s = tt
  whole_bound (verdict.Unrecorded n) moves s = tt
  whole_bound (verdict.NoMemory n) moves s = tt

  -- where the ranks fall
  pub longest_fewer : (x : Verdict) (s : Search) (o : Option ℕ) → IsWholeIf code input limits x s →
      IfSome o (λ n. (x ≡ verdict.All) × HaveRanks s.states.links.items (length s.states.keys.keys) n) → (unit : ProgramUnit) → CanBeCoded unit → IsUnitCode unit code →
      IfSome o (λ n. MakeFewer (suc n) unit (offline input))
  longest_fewer x s None whole h unit coded is = tt
  longest_fewer x s (Some n) whole (all, h) unit coded is =
      ranks_fewer code (offline input) limits.turns (told_by (asks_of limits) s.found.items) (table_of s.states input) (length s.states.keys.keys) n
      (first_states (length s.states.keys.keys)) (targets_of s.states.links.items) h.rank (subst (λ (v : Verdict). IsWholeIf code input limits v s) all whole)
      h.fall unit coded is
