use Rattle.std.proofs.Common.{length}
use Rattle.edi_target.specs.Decode.{branches_of}
use Rattle.edi_target.specs.Perform.{share_of}
use Rattle.edi_machine.specs.Activities.{local_of}
use Rattle.edi_machine.proofs.Starting.{branch_fits, branch_has_frame}
use Rattle.edi_machine.proofs.start.begin_child.Goals as goal

pub begin_branch-requires-clause-frame : goal.begin_branch-requires-clause-frame
begin_branch-requires-clause-frame c =
    branch_has_frame (branches_of c.args.branches.now) c.args.i (record { need = c.branch_of-start.result.need; address = c.branch_of-start.result.address })
    c.requires.frames c.branch_of-start.ensures

pub begin_branch-requires-clause-fits : goal.begin_branch-requires-clause-fits
begin_branch-requires-clause-fits c =
    rw c.count_of.ensures
    (branch_fits (share_of (local_of c.args.store.now c.args.parent.now) (length (branches_of c.args.branches.now))) (branches_of c.args.branches.now)
    c.args.i (record { need = c.branch_of-start.result.need; address = c.branch_of-start.result.address }) c.requires.fits c.branch_of-start.ensures)
