use Rattle.std.proofs.Common.{◌∙◌, [], ap}
use Rattle.std.specs.Prelude.{slice_index_or}
use Rattle.edi_explain.specs.told.Words.{kind_names}
use Rattle.edi_explain.proofs.told.words.kind_name.Goals as goal

pub returns : goal.returns
returns c = record { exact = c.text_at.ensures ∙ ap (λ k. slice_index_or kind_names k []) c.from.ensures }
