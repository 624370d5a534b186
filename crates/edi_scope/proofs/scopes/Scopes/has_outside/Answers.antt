use Rattle.std.proofs.Common.{◌≡◌, ◌-◌, ◌<◌, length, drop, ap, sym, subst, ◌∙◌, arith, is_some, IsTrue}
use Rattle.edi_scope.specs.Scope.{declared, in_module}
use Rattle.edi_scope.specs.Standing.{scopes_of}
use Rattle.edi_scope.proofs.Standings.{has_at, round_module}
use Rattle.edi_scope.proofs.Views.{length-scopes_of}
use Rattle.edi_scope.proofs.scopes.Scopes.has_outside.Goals as goal

pub returns : goal.returns
returns c =
    let round : 1 < length (scopes_of c.self.inside.scopes) = round_module (scopes_of c.self.inside.scopes) c.self.invariant.outermost
    (subst (λ s. IsTrue (in_module s)) (sym c.self.view_is) c.requires) in
    let len : length (scopes_of c.self.inside.scopes) ≡ c.len.result = length-scopes_of c.self.inside.scopes ∙ omega (arith, c.len.ensures) in
    record {
      exact = c.is_at.ensures.exact
          ∙ has_at c.self.inside.declarations (scopes_of c.self.inside.scopes) c.args.name.now 1 (c.len.result - 2) c.self.invariant (omega arith)
          ∙ ap (λ s. is_some (declared (drop 1 s) c.args.name.now)) c.self.view_is;
      round = subst (λ s. 1 < length s) c.self.view_is round;
    }
