use Rattle.edi_explored.proofs.told_is_all.Goals as goal

pub returns : goal.returns
returns c = record {
  endings = λ unit system es all. all;
  below = λ most unit system es all. all;
  shown = λ unit system es all. all;
  shown_below = λ most unit system es all. all;
}
