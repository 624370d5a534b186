-- A search that has followed one stint of each ready process with a kernel has found all.
use Rattle.std.specs.Prelude.{⊤}
use Rattle.std.proofs.Common.{ℕ, zero, suc, ◌-◌, ◌<◌, ◌≤◌, List, Option, None, Some, sym, ap, arith}
use Rattle.edi_calls.specs.State.{State}
use Rattle.edi_unit.specs.Tree.{ProgramUnit}
use Rattle.edi_target.specs.Check.{CodeParts}
use Rattle.edi_target.specs.Fetch.{fetch}
use Rattle.edi_kernel.specs.declared.kept.Kept.{Kept}
use Rattle.edi_follows.specs.Theorem.{CanBeCoded}
use Rattle.edi_follows.specs.places.Coded.{Coded}
use Rattle.edi_follows.proofs.Whole.{steps, starts}
use Rattle.edi_follows.proofs.kernel.Meaning.{steps_queue}
use Rattle.edi_explored.specs.Covered.{Report, AllTold, AllToldBelow}
use Rattle.edi_explored.specs.Within.{MakeFewer}
use Rattle.edi_explored.specs.machine.PutBacks.{KeepsBy}
use Rattle.edi_explored.specs.machine.Kernels.{IsCodeOf, IsUnitCode, FollowedKernels}
use Rattle.edi_explored.specs.machine.Levels.{StateTable, IsClosed, IsLevelled}
use Rattle.edi_explored.proofs.machine.Coding.{coded}
use Rattle.edi_explored.proofs.machine.KernelStints.{PutBack, HasIt}
use Rattle.edi_explored.proofs.machine.PutBacks.{put_backs_followed}
use Rattle.edi_explored.proofs.machine.KernelSearch.{kernels_followed}
use Rattle.edi_explored.proofs.machine.Levels.{closed_followed, levels_followed}
use Rattle.edi_explored.proofs.machine.Tied.{machines_below, machines_all, machines_fewer}

module _ (unit : ProgramUnit) (c : CanBeCoded unit) (code : CodeParts) (is : IsUnitCode unit code) (start : State) (bound : ℕ) (report : Report) (V : Type 0)
    (processes : V → List Kept) (slots : V → List ℕ) (system : V → State) (Begun : ℕ → Type 0) (Has : ℕ → V → Type 0)
    (f : FollowedKernels code start bound report V processes slots system Begun Has) where
  abbrev g : Coded
  g = coded unit c

  is_code : IsCodeOf g code
  is_code = record { fetched = ap fetch (sym is.words); entry = is.entry; calls = is.calls }

  abbrev Back : Option V → Rattle.edi_target.specs.Mach.Machine → List Rattle.edi_calls.specs.Names.Name → Type 0
  Back = PutBack g code is_code start bound report V processes slots system Begun Has

  abbrev Holding : ℕ → Option V → Type 0
  Holding = HasIt g code is_code start bound report V processes slots system Begun Has

  pub kernels_all : ((n : ℕ) → Begun n) → AllTold unit start report
  kernels_all h =
      machines_all g start report (Option V) None (KeepsBy g start report (Option V) None Back Holding) Holding
      (put_backs_followed g start report (Option V) None Back Holding
      (kernels_followed g code is_code start bound report V processes slots system Begun Has f (starts g))) (steps g) steps_queue (starts g) h

  pub kernels_below : (most : ℕ) → Begun most → AllToldBelow most unit start report
  kernels_below most h =
      machines_below g start report (Option V) None (KeepsBy g start report (Option V) None Back Holding) Holding
      (put_backs_followed g start report (Option V) None Back Holding
      (kernels_followed g code is_code start bound report V processes slots system Begun Has f (starts g))) (steps g) steps_queue (starts g) most h

  -- and no execution makes more moves, where it has nothing for no move
  pub kernels_fewer : ((v : V) → Has zero v → ⊥) → (Begun zero → ⊥) → (most : ℕ) → Begun most → MakeFewer most unit start
  kernels_fewer nothing not_begun most h =
      machines_fewer g start report (Option V) None (KeepsBy g start report (Option V) None Back Holding) Holding
      (put_backs_followed g start report (Option V) None Back Holding
      (kernels_followed g code is_code start bound report V processes slots system Begun Has f (starts g))) (steps g) steps_queue (starts g) no_move most h
    where
      no_move : (v : Option V) → Holding zero v → ⊥
      no_move None b = not_begun b
      no_move (Some v) b = nothing v b

-- ---- a search by levels

module _ (unit : ProgramUnit) (c : CanBeCoded unit) (code : CodeParts) (is : IsUnitCode unit code) (start : State) (bound : ℕ) (report : Report)
    (table : StateTable) where
  pub closed_all : (count : ℕ) → IsClosed code start bound report table count → AllTold unit start report
  closed_all count f =
      kernels_all unit c code is start bound report ℕ table.processes table.slots table.system (λ n. ⊤) (λ n v. v < count)
      (closed_followed code start bound report table count f) (λ n. tt)

  pub levels_below : (starts : ℕ → ℕ) (depth : ℕ) → IsLevelled code start bound report table starts depth → AllToldBelow (suc depth) unit start report
  levels_below starts depth f =
      kernels_below unit c code is start bound report ℕ table.processes table.slots table.system (λ n. n ≤ suc depth) (λ n v. v < starts (suc depth - n))
      (levels_followed code start bound report table starts depth f) (suc depth) (omega arith)
