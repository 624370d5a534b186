-- The law as proved.
use Rattle.edi_image.proofs.migrate.Limited.{first_bytes_decide}
use Rattle.edi_image.proofs.migrate.laws.first_bytes_decide.Goals as goal

pub returns : goal.returns
returns c = record { law = first_bytes_decide }
