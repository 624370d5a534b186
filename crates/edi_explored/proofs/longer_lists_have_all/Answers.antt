use Rattle.std.proofs.Common.{inl, inr}
use Rattle.std.proofs.lemmas.List.Elements.{Contains-append_left}
use Rattle.edi_explored.proofs.longer_lists_have_all.Goals as goal

pub returns : goal.returns
returns c = record {
  law = λ unit system endings more all bound choices ending end turns drawn order e. elim (all bound choices ending end turns drawn order e) [
    | inl cut ↦ inl cut
    | inr there ↦ inr (Contains-append_left endings more ending there)
  ];
}
