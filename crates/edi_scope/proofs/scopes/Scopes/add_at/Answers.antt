use Rattle.std.proofs.Common.{◌≡◌, ◌+◌, ◌-◌, ◌<◌, List, None, length, drop, reverse, ap, sym, subst, ◌∙◌, arith}
use Rattle.edi_scope.specs.Scope.{Scope, declared, with_name_at}
use Rattle.edi_scope.specs.Standing.{scopes_of, kept, ScopesAreKept}
use Rattle.edi_scope.proofs.Standings.{kept-same}
use Rattle.edi_scope.proofs.Views.{length-kept, length-scopes_of, put_and_taken}
use Rattle.edi_scope.proofs.Rounds.{kept-at, view-with_name_at, place_within}
use Rattle.edi_scope.proofs.scopes.Scopes.add_at.Goals as goal

pub insert-requires : goal.insert-requires
insert-requires c =
    place_within c.self.inside.declarations (scopes_of c.self.inside.scopes) c.args.name.now (c.len.result - 1 - c.args.steps) c.further_out-index.result
    c.self.invariant c.further_out-index.ensures.exact

pub invariant_of-self-in-Err : goal.invariant_of-self-in-Err
invariant_of-self-in-Err c =
    let old : List Scope = scopes_of c.self.inside.scopes in
    let inside : c.args.steps < length old = subst (λ s. c.args.steps < length s) (sym c.self.view_is) c.requires.inside in
    let within : c.len.result - 1 - c.args.steps < length (kept c.self.inside.scopes) = omega
    (arith, inside, length-scopes_of c.self.inside.scopes, length-kept c.self.inside.scopes, c.len.ensures) in
    let same : scopes_of c.take_name-dropped.new.scopes ≡ old = ap reverse
    (put_and_taken c.args.name.now c.args.entity (kept c.self.inside.scopes) (kept c.put_name.new.scopes) (kept c.take_name-dropped.new.scopes)
    (c.len.result - 1 - c.args.steps) within c.in_ok-put_name.ensures.ok c.take_name-dropped.ensures.exact) in
    subst (ScopesAreKept c.insert.new.self) (sym same) (kept-same c.self.inside.declarations c.insert.new.self old c.self.invariant c.in-Err.ensures.err)

pub returns-in-Err-clause-err : goal.returns-in-Err-clause-err
returns-in-Err-clause-err c =
    let old : List Scope = scopes_of c.self.inside.scopes in
    let inside : c.args.steps < length old = subst (λ s. c.args.steps < length s) (sym c.self.view_is) c.requires.inside in
    let within : c.len.result - 1 - c.args.steps < length (kept c.self.inside.scopes) = omega
    (arith, inside, length-scopes_of c.self.inside.scopes, length-kept c.self.inside.scopes, c.len.ensures) in
    ap reverse (put_and_taken c.args.name.now c.args.entity (kept c.self.inside.scopes) (kept c.put_name.new.scopes) (kept c.take_name-dropped.new.scopes)
    (c.len.result - 1 - c.args.steps) within c.in_ok-put_name.ensures.ok c.take_name-dropped.ensures.exact) ∙ c.self.view_is

pub invariant_of-self-in_default : goal.invariant_of-self-in_default
invariant_of-self-in_default c =
    let old : List Scope = scopes_of c.self.inside.scopes in
    let inside : c.args.steps < length old = subst (λ s. c.args.steps < length s) (sym c.self.view_is) c.requires.inside in
    let deep : c.len.result - 1 - c.args.steps + c.args.steps + 1 ≡ length old = omega (arith, inside, length-scopes_of c.self.inside.scopes, c.len.ensures) in
    let deep_kept : c.len.result - 1 - c.args.steps + c.args.steps + 1 ≡ length (kept c.self.inside.scopes) = deep ∙ length-scopes_of c.self.inside.scopes
    ∙ sym (length-kept c.self.inside.scopes) in
    let free : declared (drop c.args.steps old) c.args.name.now ≡ None = ap (λ s. declared (drop c.args.steps s) c.args.name.now) c.self.view_is
    ∙ c.requires.free in
    let view : scopes_of c.put_name.new.scopes ≡ with_name_at c.args.steps c.args.name.now c.args.entity old = view-with_name_at c.args.name.now c.args.entity
    c.args.steps (kept c.self.inside.scopes) (kept c.put_name.new.scopes) (c.len.result - 1 - c.args.steps) c.in_ok-put_name.ensures.ok deep_kept in
    subst (ScopesAreKept c.insert.new.self) (sym view)
    (kept-at c.self.inside.declarations c.insert.new.self old c.args.name.now c.args.entity c.args.steps (c.len.result - 1 - c.args.steps)
    c.further_out-index.result c.self.invariant c.in_default.ensures.ok free deep c.further_out-index.ensures.exact)

pub returns-clause-ok : goal.returns-clause-ok
returns-clause-ok c =
    let inside : c.args.steps < length (scopes_of c.self.inside.scopes) = subst (λ s. c.args.steps < length s) (sym c.self.view_is) c.requires.inside in
    let deep : c.len.result - 1 - c.args.steps + c.args.steps + 1 ≡ length (kept c.self.inside.scopes) = omega
    (arith, inside, length-scopes_of c.self.inside.scopes, length-kept c.self.inside.scopes, c.len.ensures) in
    view-with_name_at c.args.name.now c.args.entity c.args.steps (kept c.self.inside.scopes) (kept c.put_name.new.scopes) (c.len.result - 1 - c.args.steps)
    c.in_ok-put_name.ensures.ok deep ∙ ap (with_name_at c.args.steps c.args.name.now c.args.entity) c.self.view_is
