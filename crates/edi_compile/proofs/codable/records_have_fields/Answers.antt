use Rattle.edi_compile.proofs.codable.Fielded.{records_have_fields}
use Rattle.edi_compile.proofs.codable.records_have_fields.Goals as goal

pub returns : goal.returns
returns c = record { law = records_have_fields }
