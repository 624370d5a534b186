-- A valid image holds one list of files.
use Rattle.std.proofs.Common.{◌∙◌, sym, refl}
use Rattle.edi_image.specs.Image.{slots_of}
use Rattle.edi_image.specs.Laws.{HoldsOneList}

pub holds_one_list : HoldsOneList
holds_one_list blocks = (
  ((λ valid. (slots_of blocks, record { valid = valid; files = refl })), (λ holds. holds.1.valid)),
  λ one other a b. sym a.files ∙ b.files,
)
