use Rattle.edi_static.proofs.Refusing.{one_fault, unsound}
use Rattle.edi_static.proofs.laws.one_static_fault.Goals as goal

pub returns : goal.returns
returns c = record { one = one_fault; unsound = unsound }
