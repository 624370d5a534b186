use Rattle.std.proofs.Common.{◌∙◌, [], ap}
use Rattle.std.specs.Prelude.{slice_index_or}
use Rattle.edi_utils.specs.Listing.{instruction_names}
use Rattle.edi_utils.proofs.names.name_of.Goals as goal

pub returns : goal.returns
returns c = record { exact = c.text_at.ensures ∙ ap (λ k. slice_index_or instruction_names k []) c.from.ensures }
