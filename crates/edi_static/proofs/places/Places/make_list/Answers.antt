use Rattle.std.proofs.Common.{◌≡◌, None, Some, subst, arith}
use Rattle.std.specs.BTreeMap.{get_by, UpdatesBy}
use Rattle.edi_static.proofs.Listed.{listed-made, name_cmp, spelling_cmp}
use Rattle.edi_static.proofs.places.Places.make_list.Goals as goal

pub returns-in_ok-insert-clause-same : goal.returns-in_ok-insert-clause-same
returns-in_ok-insert-clause-same c = λ q.
    let absent : get_by (name_cmp c.args.name.now) c.args.self.now.lists ≡ None = grind arith in
    let updates : UpdatesBy spelling_cmp (name_cmp c.args.name.now) c.args.self.now.lists c.insert.new.self (Some c.new.result) = subst
    (λ bs. UpdatesBy spelling_cmp (name_cmp bs) c.args.self.now.lists c.insert.new.self (Some c.new.result))
    (c.in_ok-spelling.ensures.items_if_clones_equal (λ x y e. e)) c.in_ok-insert.ensures.updates in
    listed-made c.args.self.now (record { lists = c.insert.new.self }) c.args.name.now c.new.result absent updates c.new.ensures.items q
