use Rattle.std.proofs.Common.{◌∙◌, ap}
use Rattle.edi_calls.specs.Calls.{word_of}
use Rattle.edi_system.proofs.FoundFile.{finds_told, found_ready}
use Rattle.edi_system.proofs.Lasting.{told_alone, valid_ready}
use Rattle.edi_system.proofs.system.System.find_text.Goals as goal

pub returns-clause-exact : goal.returns-clause-exact
returns-clause-exact g c =
    finds_told g.D.Drive.contents g.D.Drive.count g.S.Source.left g.T.Sink.taken g.P.Sink.taken c.args.self.now c.args.words.now c.text_spelled-found.result _
    c.requires.ready.mounted c.text_spelled-found.ensures (c.word_of.ensures ∙ ap word_of c.is_some-is_found.ensures)

pub returns-clause-ready : goal.returns-clause-ready
returns-clause-ready g c =
    found_ready g.D.Drive.contents g.D.Drive.count c.args.self.now c.args.words.now c.text_spelled-found.result c.requires.ready c.text_spelled-found.ensures

pub returns-clause-told : goal.returns-clause-told
returns-clause-told g c = told_alone _ _ _ _ (valid_ready _ _ _ c.requires.ready)
