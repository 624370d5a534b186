use Rattle.std.proofs.Common.{◌<◌, length, sym, subst, arith}
use Rattle.edi_scope.proofs.Rounds.{length-with_name_at}
use Rattle.edi_scope.proofs.scopes.Scopes.declare_exported.Goals as goal

pub add_at-requires-2-clause-inside : goal.add_at-requires-2-clause-inside
add_at-requires-2-clause-inside c =
    subst (λ s. 1 < length s) (sym c.in_ok-add_at.ensures.ok)
    (omega (arith, c.has_outside.ensures.round, length-with_name_at 0 c.args.name.now c.args.entity c.args.self.now))
