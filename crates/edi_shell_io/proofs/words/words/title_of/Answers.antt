use Rattle.std.proofs.Common.{◌∙◌}
use Rattle.edi_shell_io.proofs.words.Cuts.{title_same}
use Rattle.edi_shell_io.proofs.words.words.title_of.Goals as goal

pub returns : goal.returns
returns c = c.new.ensures.exact ∙ title_same c.args.word.now c.requires.whole
