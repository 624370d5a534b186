use Rattle.edi_image.proofs.Lists.{holds_one_list}
use Rattle.edi_image.proofs.laws.a_valid_image_holds_one_list.Goals as goal

pub returns : goal.returns
returns c = holds_one_list
