use Rattle.edi_explored.proofs.Worked.{loses_one, loses_none, two_stand, one_text_is_not_all, waits_all, waits_below, waits_not_below}
use Rattle.edi_explored.proofs.worked_programs.Goals as goal

pub returns : goal.returns
returns c = record {
  lost = (loses_one, loses_none);
  text = one_text_is_not_all;
  stands = two_stand;
  all = waits_all;
  below = (waits_below, waits_not_below);
}
