use Rattle.std.proofs.Common.{rules, ◌≡◌, ◌==◌, length, sym, subst, ◌∙◌}
use Rattle.std.specs.Bool.{Decides}
use Rattle.edi_unit.specs.View.{unit_of}
use Rattle.edi_disjoint.specs.Open.{NoOpenUses}
use Rattle.edi_disjoint.proofs.Using.{none_decides}
use Rattle.edi_disjoint.proofs.steps.Inner.{without_open_uses}
use Rattle.edi_disjoint.proofs.openly.has_no_open_uses.Goals as goal

pub returns-clause-exact : goal.returns-clause-exact
returns-clause-exact c =
    let is : c.is_empty.result ≡ (length c.in_ok-uses.uses.items == 0) = search rules in
    λ ok few. subst (λ b. Decides b (NoOpenUses (unit_of c.args.unit.now))) (sym c.is_neither.ensures.exact)
    (none_decides (unit_of c.args.unit.now) c.in_ok-named.named c.is_empty.result c.in_ok-uses.uses.items is c.in_ok-named.ensures.exact (c.in_ok-uses.ensures.exact ok few))

pub returns-clause-keep : goal.returns-clause-keep
returns-clause-keep c =
    let is : c.is_empty.result ≡ (length c.in_ok-uses.uses.items == 0) = search rules in
    λ ok few e system. without_open_uses (unit_of c.args.unit.now) ok
    ((none_decides (unit_of c.args.unit.now) c.in_ok-named.named c.is_empty.result c.in_ok-uses.uses.items is c.in_ok-named.ensures.exact
    (c.in_ok-uses.ensures.exact ok few)).0 (sym c.is_neither.ensures.exact ∙ e)) system
