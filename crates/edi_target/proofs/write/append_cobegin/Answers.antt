use Rattle.edi_target.proofs.Branches.{cobegin_words}
use Rattle.edi_target.proofs.Reading.{are_words}
use Rattle.edi_target.proofs.write.append_cobegin.Goals as goal

pub returns-clause-ok : goal.returns-clause-ok
returns-clause-ok c = rw (cobegin_words c.args.line c.args.branches.now (are_words _ c.type_inv.branches) c.requires.whole) c.append.ensures.ok
