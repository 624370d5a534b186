use Rattle.std.proofs.Common.{rules}
use Rattle.edi_explain.proofs.expected.Symbols.{whole_at_end}
use Rattle.edi_explain.proofs.expected.parser.at_end.Goals as goal

pub returns-then-kind-eq0 : goal.returns-then-kind-eq0
returns-then-kind-eq0 c = record { exact = whole_at_end c.args.kind (search rules) }
