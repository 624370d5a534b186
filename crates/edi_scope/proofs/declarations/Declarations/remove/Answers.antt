use Rattle.std.proofs.Common.{◌≡◌, Some, rules, remove, sym}
use Rattle.std.specs.BTreeMap.{get_by}
use Rattle.edi_scope.proofs.Spellings.{listed-change, name_cmp}
use Rattle.edi_scope.proofs.declarations.Declarations.remove.Goals as goal

pub returns : goal.returns
returns c =
    let was : get_by (name_cmp c.args.name.now) c.args.self.now.lists ≡ Some c.in-Some.list.now = sym c.in-Some.ensures.value in
    record {
      exact = λ q. listed-change c.args.self.now (record { lists = c.get_mut.follows.lender c.remove-removed.new.self }) c.args.name.now c.in-Some.list.now
          c.remove-removed.new.self (λ l. remove l c.args.at) was ((c.get_mut.follows.holds c.remove-removed.new.self).3 (search rules))
          c.remove-removed.ensures.items q;
    }
