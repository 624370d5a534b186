use Rattle.std.proofs.Common.{◌≡◌, Some, rules, ◌++◌, ◌∷◌, [], sym, ◌∙◌}
use Rattle.std.proofs.lemmas.Result.{err_from_is_err_and}
use Rattle.std.specs.BTreeMap.{get_by}
use Rattle.edi_static.proofs.Listed.{listed-change, listed-same, name_cmp}
use Rattle.edi_static.proofs.places.Places.add.Goals as goal

pub returns-in_err-push-clause-err : goal.returns-in_err-push-clause-err
returns-in_err-push-clause-err c =
    let p = err_from_is_err_and c.from_residual-in_err-push.result c.from_residual-in_err-push.ensures.1 in
    let was : get_by (name_cmp c.args.name.now) c.make_list.new.self.lists ≡ Some c.in-Some.list.now = sym c.in-Some.ensures.value in
    rw p.1
    (λ q. listed-same c.make_list.new.self (record { lists = c.get_mut.follows.lender c.push.new.self }) c.args.name.now c.in-Some.list.now
    c.push.new.self was ((c.get_mut.follows.holds c.push.new.self).3 (search rules)) c.in_err-push.ensures.items q ∙ c.in_ok-make_list.ensures.same q)

pub returns-clause-ok : goal.returns-clause-ok
returns-clause-ok c = λ q.
    let was : get_by (name_cmp c.args.name.now) c.make_list.new.self.lists ≡ Some c.in-Some.list.now = sym c.in-Some.ensures.value in
    rw (← c.in_ok-make_list.ensures.same q)
    (listed-change c.make_list.new.self (record { lists = c.get_mut.follows.lender c.push.new.self }) c.args.name.now c.in-Some.list.now c.push.new.self
    (λ l. l ++ c.args.place ∷ []) was ((c.get_mut.follows.holds c.push.new.self).3 (search rules)) c.in_ok-push.ensures.items q)
