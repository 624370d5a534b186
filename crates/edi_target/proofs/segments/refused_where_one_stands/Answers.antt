-- The law as proved.
use Rattle.edi_target.proofs.segments.Refused.{refused_where_one_stands}
use Rattle.edi_target.proofs.segments.refused_where_one_stands.Goals as goal

pub returns : goal.returns
returns c = record { law = refused_where_one_stands }
