use Rattle.edi_unit.specs.Lists.{list_items}
use Rattle.edi_unit.specs.View.{expression_of}
use Rattle.edi_walk.proofs.ReadParts.{chain_stopped}
use Rattle.edi_walk.proofs.reading.unread.Goals as goal

pub returns : goal.returns
returns c = record {
  exact = chain_stopped c.args.here.now (expression_of c.args.e.now) (list_items c.args.links.now) c.args.hurdle c.requires.read;
}
