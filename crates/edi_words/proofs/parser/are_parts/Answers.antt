use Rattle.std.proofs.Common.{rules, arith, inl, inr}
use Rattle.std.specs.String.{string_bytes}
use Rattle.edi_words.proofs.Reading.{stops_at, passes_all}
use Rattle.edi_words.proofs.parser.are_parts.Goals as goal

pub returns-then-wanted : goal.returns-then-wanted
returns-then-wanted c =
    stops_at string_bytes c.args.words.now c.loop-word.word-index c.word-item.result c.loop-word.wanted (omega arith) c.word-item.is
    c.loop-word.invariant (search rules) (inl c.if-wanted.true)

pub returns-then-not-is_option_name : goal.returns-then-not-is_option_name
returns-then-not-is_option_name c =
    stops_at string_bytes c.args.words.now c.loop-word.word-index c.word-item.result c.loop-word.wanted (omega arith) c.word-item.is
    c.loop-word.invariant (search rules) (inr (search rules))

pub returns : goal.returns
returns c = passes_all string_bytes c.args.words.now c.loop-word.word-index c.loop-word.wanted (omega arith) c.loop-word.invariant
