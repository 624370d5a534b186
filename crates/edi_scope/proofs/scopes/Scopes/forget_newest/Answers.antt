use Rattle.std.proofs.Common.{◌≡◌, ℕ, ◌+◌, ◌-◌, ◌<◌, List, length, remove, ap, sym, subst, ◌∙◌, arith}
use Rattle.edi_scope.specs.Scope.{Scope}
use Rattle.edi_scope.specs.Listed.{listed}
use Rattle.edi_scope.specs.Standing.{scopes_of, kept, ScopesAreKept, name_of, without_newest}
use Rattle.edi_scope.proofs.Standings.{Changed, listed-newest, kept-without_newest}
use Rattle.edi_scope.proofs.Views.{innermost_last, innermost_newest, view-without_newest}
use Rattle.edi_scope.proofs.scopes.Scopes.forget_newest.Goals as goal

pub overflow_sub-last : goal.overflow_sub-last
overflow_sub-last c =
    let old : List Scope = scopes_of c.self.inside.scopes in
    let deep = innermost_last c.self.inside.scopes c.self.invariant.outermost c.len-innermost.result (omega (arith, c.len-innermost.ensures)) in
    let first = innermost_newest c.self.inside.scopes (c.len-innermost.result - 1) (name_of c.in-Some.named) deep c.in-Some.ensures.newest in
    subst (λ l. 0 < length l) (sym (c.of.ensures.exact ∙ ap (listed c.self.inside.declarations) c.as_slice-name.ensures.value))
    (listed-newest c.self.inside.declarations old c.in-Some.named.name.items c.in-Some.named.entity c.self.invariant first)

pub remove-requires : goal.remove-requires
remove-requires c =
    let old : List Scope = scopes_of c.self.inside.scopes in
    let deep = innermost_last c.self.inside.scopes c.self.invariant.outermost c.len-innermost.result (omega (arith, c.len-innermost.ensures)) in
    let first = innermost_newest c.self.inside.scopes (c.len-innermost.result - 1) (name_of c.in-Some.named) deep c.in-Some.ensures.newest in
    let has : 0 < length (listed c.self.inside.declarations c.as_slice-name.result.now) = subst (λ l. 0 < length (listed c.self.inside.declarations l))
    (sym c.as_slice-name.ensures.value) (listed-newest c.self.inside.declarations old c.in-Some.named.name.items c.in-Some.named.entity c.self.invariant
    first) in
    omega (arith, ap length c.of.ensures.exact)

pub invariant_of-self-2 : goal.invariant_of-self-2
invariant_of-self-2 c =
    let old : List Scope = scopes_of c.self.inside.scopes in
    let name : List ℕ = c.in-Some.named.name.items in
    let deep = innermost_last c.self.inside.scopes c.self.invariant.outermost c.len-innermost.result (omega (arith, c.len-innermost.ensures)) in
    let first = innermost_newest c.self.inside.scopes (c.len-innermost.result - 1) (name_of c.in-Some.named) deep c.in-Some.ensures.newest in
    let list : c.of.result.now ≡ listed c.self.inside.declarations name = c.of.ensures.exact ∙ ap (listed c.self.inside.declarations)
    c.as_slice-name.ensures.value in
    let has : 0 < length (listed c.self.inside.declarations name) = listed-newest c.self.inside.declarations old name c.in-Some.named.entity c.self.invariant
    first in
    let last : length c.of.result.now - 1 + 1 ≡ length (listed c.self.inside.declarations name) = omega (arith, ap length list) in
    let changed : Changed (listed c.self.inside.declarations) (listed c.remove.new.self) name (λ l. remove l (length c.of.result.now - 1)) = subst
    (λ n. Changed (listed c.self.inside.declarations) (listed c.remove.new.self) n (λ l. remove l (length c.of.result.now - 1)))
    c.as_slice-name.ensures.value c.remove.ensures.exact in
    let view : scopes_of c.take_name.new.scopes ≡ without_newest old = view-without_newest (kept c.self.inside.scopes) (kept c.take_name.new.scopes)
    (c.len-innermost.result - 1) c.in-Some.ensures.exact deep in
    subst (ScopesAreKept c.remove.new.self) (sym view)
    (kept-without_newest c.self.inside.declarations c.remove.new.self old name c.in-Some.named.entity (length c.of.result.now - 1) c.self.invariant changed
    first last)

pub returns-clause-exact : goal.returns-clause-exact
returns-clause-exact c =
    let deep = innermost_last c.self.inside.scopes c.self.invariant.outermost c.len-innermost.result (omega (arith, c.len-innermost.ensures)) in
    view-without_newest (kept c.self.inside.scopes) (kept c.take_name.new.scopes) (c.len-innermost.result - 1) c.in-Some.ensures.exact deep
    ∙ ap without_newest c.self.view_is
