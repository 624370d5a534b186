use Rattle.edi_calls.proofs.Lasting.{each_call_goes_on_all}
use Rattle.edi_calls.proofs.laws.each_call_goes_on.Goals as goal

pub returns : goal.returns
returns c = each_call_goes_on_all
