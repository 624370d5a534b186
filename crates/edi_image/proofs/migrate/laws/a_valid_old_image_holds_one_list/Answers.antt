use Rattle.edi_image.proofs.migrate.OldLists.{old_holds_one_list}
use Rattle.edi_image.proofs.migrate.laws.a_valid_old_image_holds_one_list.Goals as goal

pub returns : goal.returns
returns c = old_holds_one_list
