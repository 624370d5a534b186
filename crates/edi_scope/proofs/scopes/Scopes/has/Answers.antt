use Rattle.std.proofs.Common.{◌≡◌, ◌-◌, ◌<◌, length, ap, subst, ◌∙◌, arith, is_some}
use Rattle.edi_scope.specs.Scope.{declared}
use Rattle.edi_scope.specs.Standing.{scopes_of}
use Rattle.edi_scope.proofs.Standings.{has_at, some_scope}
use Rattle.edi_scope.proofs.Views.{length-scopes_of}
use Rattle.edi_scope.proofs.scopes.Scopes.has.Goals as goal

pub returns : goal.returns
returns c =
    let some : 0 < length (scopes_of c.self.inside.scopes) = some_scope (scopes_of c.self.inside.scopes) c.self.invariant.outermost in
    let len : length (scopes_of c.self.inside.scopes) ≡ c.len.result = length-scopes_of c.self.inside.scopes ∙ omega (arith, c.len.ensures) in
    record {
      exact = c.is_at.ensures.exact
          ∙ has_at c.self.inside.declarations (scopes_of c.self.inside.scopes) c.args.name.now 0 (c.len.result - 1) c.self.invariant (omega arith)
          ∙ ap (λ s. is_some (declared s c.args.name.now)) c.self.view_is;
      some = subst (λ s. 0 < length s) c.self.view_is some;
    }
