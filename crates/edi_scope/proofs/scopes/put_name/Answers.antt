use Rattle.std.proofs.Common.{◌≡◌, map, reverse, ap, ◌∙◌}
use Rattle.std.proofs.lemmas.Result.{err_from_is_err_and}
use Rattle.edi_scope.specs.declared.scopes.OpenScope.{OpenScope}
use Rattle.edi_scope.specs.declared.scopes.Named.{Named}
use Rattle.edi_scope.specs.Scope.{with_one}
use Rattle.edi_scope.specs.Standing.{scope_of, name_of}
use Rattle.edi_scope.proofs.Views.{kept-set, kept-set_same, names-put, scope_with}
use Rattle.edi_scope.proofs.scopes.put_name.Goals as goal

pub returns-in_err-push-clause-err : goal.returns-in_err-push-clause-err
returns-in_err-push-clause-err c =
    let p = err_from_is_err_and c.from_residual-in_err-push.result c.from_residual-in_err-push.ensures.1 in
    let old : OpenScope = c.index_mut.result.now in
    rw p.1
    (kept-set_same c.args.scopes.now c.args.at old (record { is_module = old.is_module; names = c.push.new.self }) c.requires c.index_mut.ensures.value
    (ap (λ l. scope_with old.is_module (reverse (map name_of l))) c.in_err-push.ensures.items))

pub returns-clause-ok : goal.returns-clause-ok
returns-clause-ok c =
    let old : OpenScope = c.index_mut.result.now in
    let named : Named = record { name = c.in_ok-name.name; entity = c.args.entity } in
    let items : c.in_ok-name.name.items ≡ c.args.name.now = c.in_ok-name.ensures.items_if_clones_equal (λ x y e. e) in
    kept-set c.args.scopes.now c.args.at old (record { is_module = old.is_module; names = c.push.new.self }) (with_one c.args.name.now c.args.entity)
    c.requires c.index_mut.ensures.value
    (ap (λ l. scope_with old.is_module (reverse (map name_of l))) c.in_ok-push.ensures.items ∙ ap (scope_with old.is_module) (names-put old.names.items named)
    ∙ ap (λ n. with_one n c.args.entity (scope_of old)) items)
