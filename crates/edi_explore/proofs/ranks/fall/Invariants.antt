use Rattle.std.proofs.Common.{◌≡◌, ◌<◌, ℕ, Some}
use Rattle.std.specs.Prelude.{slice_get}
use Rattle.edi_explore.specs.declared.states.Link.{Link}
use Rattle.edi_explore.specs.Links.{FallsAlong}
use Rattle.edi_explore.proofs.ranks.fall.Given as goal

-- they fall along all so far
abbrev pub invariant-loop-link : goal.invariant-loop-link
invariant-loop-link l = (i : ℕ) (one : Link) → i < l.link-index → slice_get l.links i ≡ Some one → FallsAlong l.ranks one
