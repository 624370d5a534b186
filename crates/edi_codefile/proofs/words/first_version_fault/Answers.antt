use Rattle.std.proofs.Common.{sym, ◌∙◌}
use Rattle.edi_target.specs.View.{instruction_of}
use Rattle.edi_codefile.proofs.Versions.{read_next}
use Rattle.edi_codefile.proofs.words.first_version_fault.Goals as goal

pub loop-at-preserved : goal.loop-at-preserved
loop-at-preserved c =
    let r = c.in-Some.ensures in
    read_next c.args.words.now c.loop-at.at c.in-Some.next (instruction_of c.in-Some.op) r.found r.after r.within
    (sym c.is_quiet.ensures ∙ c.if-is_quiet.false) c.loop-at.invariant
