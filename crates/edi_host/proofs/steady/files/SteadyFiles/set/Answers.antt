use Rattle.edi_host.proofs.FileMaps.{inserted}
use Rattle.edi_host.proofs.steady.files.SteadyFiles.set.Goals as goal

pub returns-clause-ok : goal.returns-clause-ok
returns-clause-ok c =
    inserted c.in_ok-name.name c.in_ok-bytes.bytes c.self.inside.files c.insert.new.self c.args.self.now c.args.name.now c.args.bytes.now
    c.in_ok-insert.ensures.updates c.self.view_is c.in_ok-name.ensures.ok c.in_ok-bytes.ensures.items
