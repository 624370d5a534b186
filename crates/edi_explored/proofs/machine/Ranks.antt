-- A search whose ranks fall has followed everything, and has nothing for no move.
use Rattle.std.proofs.Common.{inl, inr, ℕ, zero, suc, ◌<◌, List, Option, None, Some, refl, arith}
use Rattle.edi_calls.specs.State.{State}
use Rattle.edi_unit.specs.Tree.{ProgramUnit}
use Rattle.edi_target.specs.Check.{CodeParts}
use Rattle.edi_follows.specs.Theorem.{CanBeCoded}
use Rattle.edi_explored.specs.Covered.{Report}
use Rattle.edi_explored.specs.Within.{MakeFewer}
use Rattle.edi_explored.specs.machine.Kernels.{IsUnitCode, FollowedKernels}
use Rattle.edi_explored.specs.machine.Levels.{StateTable, Nothing}
use Rattle.edi_explored.specs.machine.Ranks.{Among, IsLinked, RanksFall}
use Rattle.edi_explored.proofs.machine.Levels.{same_later, stint_later, first_later, goes_later}
use Rattle.edi_explored.proofs.machine.All.{kernels_fewer}

module _ (code : CodeParts) (start : State) (bound : ℕ) (report : Report) (table : StateTable) (count most : ℕ) (firsts : List ℕ) (targets : ℕ → List ℕ)
    (rank : ℕ → ℕ) (c : IsLinked code start bound report table count targets firsts) (falls : RanksFall rank count most firsts targets) where
  abbrev HasRank : ℕ → ℕ → Type 0
  HasRank n v = (v < count) × (rank v < n)

  abbrev BegunRank : ℕ → Type 0
  BegunRank n = most < n

  abbrev Empty : ℕ → Type 0
  Empty = Nothing code start bound report table

  abbrev In : List ℕ → ℕ → ℕ → Type 0
  In = Among code start bound report table count targets

  -- what a state leads to has a lower rank
  lower : (n v : ℕ) → HasRank (suc n) v → (w : ℕ) → In (targets v) 0 w → HasRank n w
  lower n v h w l = (l.0, omega (arith, falls.each v w h.0 l.1, h.1))

  pub ranks_followed : FollowedKernels code start bound report ℕ table.processes table.slots table.system BegunRank HasRank
  ranks_followed = record {
    some = c.some;
    first = λ n h. first_later code start bound report report table table Empty BegunRank (In firsts) HasRank 0 n
        (same_later code start bound report table (In firsts 0) (HasRank n) (λ w l. (l.0, omega (arith, falls.first w l.1, h)))) c.first;
    kept = λ n v h. c.kept v h.0;
    follows = λ n v h apart index among. stint_later code start bound report report table table Empty BegunRank (In (targets v)) HasRank 0 n
        (same_later code start bound report table (In (targets v) 0) (HasRank n) (lower n v h)) v index refl refl refl
        ((c.expanded v h.0).follows apart index among);
    stands = λ n v h apart. elim ((c.expanded v h.0).stands apart) [
      | inl told ↦ inl told
      | inr goes ↦ inr (goes_later code start bound report report table table Empty BegunRank (In (targets v)) HasRank 0 n
          (same_later code start bound report table (In (targets v) 0) (HasRank n) (lower n v h)) v refl refl refl goes)
    ];
  }

  pub ranks_fewer : (unit : ProgramUnit) → CanBeCoded unit → IsUnitCode unit code → MakeFewer (suc most) unit start
  ranks_fewer unit coded is =
      kernels_fewer unit coded code is start bound report ℕ table.processes table.slots table.system BegunRank HasRank ranks_followed
      (λ v h. absurd (omega (arith, h.1))) (λ h. absurd (omega (arith, h))) (suc most) (omega arith)
