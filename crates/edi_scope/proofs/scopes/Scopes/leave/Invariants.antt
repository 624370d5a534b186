use Rattle.std.proofs.Common.{◌≡◌, ◌<◌, length}
use Rattle.edi_scope.specs.Scope.{outside}
use Rattle.edi_scope.specs.Standing.{innermost_names}
use Rattle.edi_scope.proofs.scopes.Scopes.leave.Given as goal

abbrev pub invariant-loop : goal.invariant-loop
invariant-loop l = (outside l.self ≡ outside l.initial.self) × (1 < length l.self)

abbrev pub decreases-loop : goal.decreases-loop
decreases-loop l = length (innermost_names l.self)
