use Rattle.std.proofs.Common.{ℕ, Bool}
use Rattle.std.specs.Prelude.{codes}
use Rattle.edi_explain.specs.told.Groups as spec
use Rattle.edi_explain.specs.told.Tables.{may_of}
use Rattle.edi_explain.proofs.told.Parts.{four}
use Rattle.edi_explain.proofs.told.groups.put_groups.Goals as goal

pub returns : goal.returns
returns c =
    let may : ℕ → Bool = may_of c.args.expected.now in
    four c.args.out.now.items _ _ _ _ (spec.group_line may (codes "a statement") spec.statement)
    (spec.group_line may (codes "an expression") spec.expression) (spec.group_line may (codes "a declaration") spec.declaration)
    (spec.between_lines may) c.in_ok-put_group.ensures c.in_ok-put_group-2.ensures c.in_ok-put_group-3.ensures c.in_ok-put_between.ensures
