use Rattle.edi_unit.specs.View.{unit_of}
use Rattle.edi_compile.proofs.Meant.{if_meant}
use Rattle.edi_compile.proofs.units.translate.Goals as goal

pub returns-clause-meant : goal.returns-clause-meant
returns-clause-meant c = if_meant (unit_of c.args.unit.now) c.generate.result c.requires.can c.generate.ensures.exact
