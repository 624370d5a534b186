use Rattle.std.proofs.Common.{refl}
use Rattle.std.proofs.lemmas.List.{length-replicate}
use Rattle.edi_ring.proofs.New.{IsListed-new}
use Rattle.edi_ring.proofs.Homes.{IsSound-IsListed}
use Rattle.edi_ring.proofs.Arrays.{lists_in-IsListed, IsListed-again}
use Rattle.edi_ring.proofs.Lists.new.Goals as goal

pub invariant_of-result : goal.invariant_of-result
invariant_of-result g c = rw c.none-none.ensures (IsListed-again _ _ _ (IsListed-new _ g.row.N g.row.M refl c.requires))

pub returns-clause-exact : goal.returns-clause-exact
returns-clause-exact g c = lists_in-IsListed _ _ _ (IsListed-new _ g.row.N g.row.M refl c.requires)

pub returns-clause-sound : goal.returns-clause-sound
returns-clause-sound g c =
    IsSound-IsListed g.row.N g.row.M _ _ _ (IsListed-again _ _ _ (IsListed-new _ g.row.N g.row.M refl c.requires))
    (length-replicate g.row.N _) (length-replicate g.row.M _)
