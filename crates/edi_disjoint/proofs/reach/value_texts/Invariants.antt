use Rattle.std.proofs.Common.{◌≡◌, [], ◌++◌, drop}
use Rattle.std.specs.Prelude.{map}
use Rattle.edi_disjoint.specs.Openly.{with_values}
use Rattle.edi_disjoint.proofs.reach.value_texts.Given as goal

abbrev pub invariant-loop-text : goal.invariant-loop-text
invariant-loop-text l = map (λ t. t.items) l.list.items ++ map (λ t. with_values [] t.items) (drop l.text-index l.texts)
    ≡ map (λ t. with_values [] t.items) l.texts
