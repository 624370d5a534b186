use Rattle.std.proofs.Common.{◌^◌, ◌∙◌}
use Rattle.edi_machine.proofs.Starting.{all_zeros}
use Rattle.edi_machine.proofs.start.clear_all.Goals as goal

pub returns : goal.returns
returns c = c.clear_first.ensures.exact ∙ all_zeros c.args.store.now (2 ^ 16) c.clear_first.ensures.was_whole.long
