use Rattle.std.proofs.Common.{◌≡◌, ap, ◌∙◌}
use Rattle.std.specs.Option.{option_map}
use Rattle.edi_scope.specs.Scope.{visible}
use Rattle.edi_scope.specs.Standing.{scopes_of}
use Rattle.edi_scope.proofs.Standings.{last_entity, last_entity-standing}
use Rattle.edi_scope.proofs.scopes.Scopes.look.Goals as goal

pub returns-in_err-declaration : goal.returns-in_err-declaration
returns-in_err-declaration c =
    let meant : last_entity c.of.result.now ≡ visible c.args.self.now c.args.name.now = ap last_entity
    (c.of.ensures.exact ∙ c.self.invariant.stands c.args.name.now) ∙ last_entity-standing (scopes_of c.self.inside.scopes) c.args.name.now
    ∙ ap (λ s. visible s c.args.name.now) c.self.view_is in
    record { exact = c.from_residual.ensures ∙ ap (option_map (λ d. d.entity)) c.in_err-declaration.ensures.value ∙ meant }

pub returns : goal.returns
returns c =
    let meant : last_entity c.of.result.now ≡ visible c.args.self.now c.args.name.now = ap last_entity
    (c.of.ensures.exact ∙ c.self.invariant.stands c.args.name.now) ∙ last_entity-standing (scopes_of c.self.inside.scopes) c.args.name.now
    ∙ ap (λ s. visible s c.args.name.now) c.self.view_is in
    record { exact = ap (option_map (λ d. d.entity)) c.in_ok-declaration.ensures.value ∙ meant }
