use Rattle.std.proofs.Common.{◌≡◌, [], None, sym, ap, ◌∙◌}
use Rattle.std.proofs.lemmas.Option.{MatchOption-at_none}
use Rattle.edi_scope.specs.declared.scopes.OpenScope.{OpenScope}
use Rattle.edi_scope.specs.Standing.{without_one, name_of}
use Rattle.edi_scope.proofs.Views.{kept-set, view-taken, scope_with, empty-from_length}
use Rattle.edi_scope.proofs.scopes.take_name.Goals as goal

pub returns-clause-exact : goal.returns-clause-exact
returns-clause-exact c =
    let old : OpenScope = c.index_mut.result.now in
    let empty : c.pop.result ≡ None → old.names.items ≡ [] = λ none. empty-from_length old.names.items
    (sym old.names.ok.0 ∙ (MatchOption-at_none _ _ none c.pop.ensures.cases).0) in
    kept-set c.args.scopes.now c.args.at old (record { is_module = old.is_module; names = c.pop.new.self }) without_one c.requires c.index_mut.ensures.value
    (ap (scope_with old.is_module) (view-taken name_of old.names.items c.pop.new.self.items c.pop.result c.pop.ensures.items empty))
