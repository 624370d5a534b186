use Rattle.std.proofs.Common.{◌∙◌, ap, [], unwrap_or}
use Rattle.clap.proofs.WalkLemmas.{raw_values-rows}
use Rattle.clap.specs.Matches.{found_of}
use Rattle.edi_words.specs.View.{texts}
use Rattle.edi_words.proofs.Reading.{texts_or}
use Rattle.edi_words.proofs.parser.values.Goals as goal

pub returns : goal.returns
returns c =
    ap (λ s. texts s.now) c.unwrap_or.ensures
    ∙ texts_or c.get_raw.result c.args.none c.requires.empty
    ∙ ap (λ o. unwrap_or o []) (c.get_raw.ensures ∙ raw_values-rows (found_of c.args.matches.now) c.args.id.now)
