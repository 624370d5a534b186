use Rattle.std.proofs.Common.{rules}
use Rattle.edi_explain.proofs.expected.Symbols.{deep_symbol, few_ends, few_levels, plain_symbol, wrong_symbol}
use Rattle.edi_explain.proofs.expected.parser.at_symbol.Goals as goal

pub returns-then-wanted-kind : goal.returns-then-wanted-kind
returns-then-wanted-kind c = record { exact = wrong_symbol c.args.wanted c.args.kind c.args.numbers.now c.requires.some c.requires.known (search rules) }

pub returns-then-not-opens : goal.returns-then-not-opens
returns-then-not-opens c = record { exact = plain_symbol c.args.wanted c.args.kind c.args.numbers.now c.requires.some c.requires.known (search rules) (search rules) }

pub returns-then-levels_in-gt-MOST_LEVELS : goal.returns-then-levels_in-gt-MOST_LEVELS
returns-then-levels_in-gt-MOST_LEVELS c =
    record { exact = deep_symbol c.args.wanted c.args.kind c.args.numbers.now c.requires.some c.requires.known (search rules) (search rules) (search rules) }

pub returns : goal.returns
returns c = record { exact = few_levels c.args.wanted c.args.kind c.args.numbers.now c.requires.some c.requires.known (search rules) (search rules) }

pub returns-then-ends-le-MOST_LEVELS : goal.returns-then-ends-le-MOST_LEVELS
returns-then-ends-le-MOST_LEVELS c = record {
  exact = few_levels c.args.wanted c.args.kind c.args.numbers.now c.requires.some c.requires.known (search rules)
      (few_ends c.args.numbers.now c.args.ends 64 c.requires.counted (search rules));
}
