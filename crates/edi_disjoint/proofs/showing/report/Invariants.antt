use Rattle.std.proofs.Common.{◌≡◌}
use Rattle.edi_unit.specs.View.{blocks_of}
use Rattle.edi_disjoint.specs.Apart.{answer_of}
use Rattle.edi_disjoint.specs.Report.{forks_from, forks_of, report_of}
use Rattle.edi_disjoint.proofs.showing.report.Given as goal

abbrev pub invariant-loop-forks : goal.invariant-loop-forks
invariant-loop-forks l = l.text.items ≡ report_of (answer_of l.found) (forks_from (forks_of (blocks_of l.unit.blocks)) 0 l.forks-index)
