use Rattle.std.proofs.Common.{◌∙◌}
use Rattle.edi_target.specs.Decode.{branches_of}
use Rattle.edi_target.specs.Check.{starts_of}
use Rattle.edi_target.proofs.Places.{branches_begin}
use Rattle.edi_target.proofs.targets.targets_fault.Goals as goal

pub returns-in-Cobegin : goal.returns-in-Cobegin
returns-in-Cobegin c =
    let a = c.args in
    rw c.in-Cobegin.is (c.branches_fault.ensures ∙ branches_begin a.words.now a.starts.now (starts_of a.words.now) a.at
    (branches_of c.in-Cobegin.branches.now) c.requires.starts)
