use Rattle.edi_walk.proofs.Births.{no_share}
use Rattle.edi_walk.proofs.forking.equal_share.Goals as goal

pub returns-then-branches-eq0 : goal.returns-then-branches-eq0
returns-then-branches-eq0 c =
    record { exact = no_share c.args.room c.args.branches c.if-branches-eq0.true }
