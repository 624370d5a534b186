use Rattle.std.proofs.Common.{◌<◌, ◌+◌, ◌-◌, ◌*◌, length, map, [], ◌∷◌}
use Rattle.edi_tree.specs.View.{param_of}
use Rattle.edi_grammar.specs.Grammar.{token, part}
use Rattle.edi_grammar.specs.Grammar as item
use Rattle.edi_grammar.specs.Kinds as kind
use Rattle.edi_grammar.specs.Rules as g
use Rattle.edi_phrases.specs.Parses.{Goes}
use Rattle.edi_phrases.proofs.headings.Pushes.{open_params}
use Rattle.edi_phrases.proofs.headings.headings.+heading.Given as goal

abbrev pub decreases-parse_param : goal.decreases-parse_param
decreases-parse_param l = (64 - l.level) * 4 + 3

abbrev pub decreases-parse_some_params : goal.decreases-parse_some_params
decreases-parse_some_params l = (64 - l.level) * 4

abbrev pub decreases-parse_params : goal.decreases-parse_params
decreases-parse_params l = (64 - l.level) * 4 + 1

abbrev pub decreases-parse_head : goal.decreases-parse_head
decreases-parse_head l = (64 - l.level) * 4 + 2

abbrev pub invariant-parse_some_params-loop-behind_semicolon : goal.invariant-parse_some_params-loop-behind_semicolon
invariant-parse_some_params-loop-behind_semicolon l = record {
  some : 0 < length l.params.items;
  goes : Goes g.Params l.fn.level (open_params (map param_of l.params.items)) (part g.MoreParams ∷ token kind.Close ∷ item.level_end ∷ []) l.marks
      l.behind_params;
  shorter : length l.behind_params < length l.marks;
}

abbrev pub decreases-parse_some_params-loop-behind_semicolon : goal.decreases-parse_some_params-loop-behind_semicolon
decreases-parse_some_params-loop-behind_semicolon l = length l.behind_params
