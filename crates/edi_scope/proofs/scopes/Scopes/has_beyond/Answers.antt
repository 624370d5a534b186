use Rattle.std.proofs.Common.{◌≡◌, ◌-◌, ◌<◌, length, drop, ap, sym, subst, ◌∙◌, arith, is_some, IsTrue}
use Rattle.edi_scope.specs.Scope.{declared, in_module}
use Rattle.edi_scope.specs.Standing.{scopes_of}
use Rattle.edi_scope.proofs.Standings.{has_at}
use Rattle.edi_scope.proofs.Rounds.{beyond_module, drop_twice}
use Rattle.edi_scope.proofs.Views.{length-scopes_of}
use Rattle.edi_scope.proofs.scopes.Scopes.has_beyond.Goals as goal

pub returns : goal.returns
returns c =
    let beyond : 2 < length (scopes_of c.self.inside.scopes) = beyond_module (scopes_of c.self.inside.scopes) c.self.invariant.outermost
    (subst (λ s. IsTrue (in_module (drop 1 s))) (sym c.self.view_is) c.requires) in
    let len : length (scopes_of c.self.inside.scopes) ≡ c.len.result = length-scopes_of c.self.inside.scopes ∙ omega (arith, c.len.ensures) in
    record {
      exact = c.is_at.ensures.exact
          ∙ has_at c.self.inside.declarations (scopes_of c.self.inside.scopes) c.args.name.now 2 (c.len.result - 3) c.self.invariant (omega arith)
          ∙ ap (λ s. is_some (declared s c.args.name.now)) (drop_twice (scopes_of c.self.inside.scopes))
          ∙ ap (λ s. is_some (declared (drop 1 (drop 1 s)) c.args.name.now)) c.self.view_is;
      beyond = subst (λ s. 2 < length s) c.self.view_is beyond;
    }
