use Rattle.edi_explain.proofs.expected.Symbols.{front_taken}
use Rattle.edi_explain.proofs.expected.parser.take_front.Goals as goal

pub returns : goal.returns
returns c = record { exact = front_taken _ _ _ _ _ c.args.numbers.now.ok.0 c.pop.new.self.ok.0 c.pop.ensures.items c.pop.ensures.cases }
