use Rattle.std.proofs.Common.{◌≡◌, ◌<◌, ℕ, Some}
use Rattle.std.specs.Prelude.{slice_get}
use Rattle.edi_explore.specs.declared.ends.Found.{Found}
use Rattle.edi_explore.specs.Shown.{IsMet}
use Rattle.edi_explore.proofs.finding.has.Given as goal

-- none so far is this
abbrev pub invariant-loop-one : goal.invariant-loop-one
invariant-loop-one l = (i : ℕ) (one : Found) → i < l.one-index → slice_get l.found i ≡ Some one → IsMet l.asks one l.met.ending l.met.shown.items → ⊥
