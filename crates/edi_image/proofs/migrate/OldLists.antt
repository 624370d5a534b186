-- A valid image of version 1 holds one list of files.
use Rattle.std.proofs.Common.{◌∙◌, sym, refl}
use Rattle.edi_image.specs.migrate.OldImage.{old_slots_of}
use Rattle.edi_image.specs.migrate.OldLaws.{OldHoldsOneList}

pub old_holds_one_list : OldHoldsOneList
old_holds_one_list blocks = (
  ((λ valid. (old_slots_of blocks, record { valid = valid; files = refl })), (λ contents. contents.1.valid)),
  λ one other a b. sym a.files ∙ b.files,
)
