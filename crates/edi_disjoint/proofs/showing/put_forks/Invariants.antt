use Rattle.std.proofs.Common.{◌≡◌, ◌++◌, drop}
use Rattle.std.specs.Prelude.{map}
use Rattle.edi_disjoint.specs.Apart.{answer_of}
use Rattle.edi_disjoint.specs.Report.{report_of}
use Rattle.edi_disjoint.specs.Shown.{fork_of}
use Rattle.edi_disjoint.proofs.showing.put_forks.Given as goal

abbrev pub invariant-loop-fork : goal.invariant-loop-fork
invariant-loop-fork l = l.text.items ++ report_of (answer_of l.found) (map fork_of (drop l.fork-index l.forks))
    ≡ l.fn.text.items ++ report_of (answer_of l.found) (map fork_of l.forks)
