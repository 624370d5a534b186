use Rattle.std.proofs.Common.{◌≡◌, drop}
use Rattle.edi_explain.specs.expected.Numbered.{first_taken}
use Rattle.edi_explain.specs.told.Tables.{pairs_of}
use Rattle.edi_explain.proofs.expected.parser.first_taken.Given as goal

abbrev pub invariant-loop-rule : goal.invariant-loop-rule
invariant-loop-rule l = first_taken (pairs_of (drop l.rule-index l.rules)) l.kind ≡ first_taken (pairs_of l.rules) l.kind
