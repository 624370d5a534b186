use Rattle.edi_word.proofs.SetLaws.{views_are_one, union_agrees, minus_agrees, meet_agrees, with_agrees, has_agrees}
use Rattle.edi_word.proofs.members.words_are_members.Goals as goal

pub returns : goal.returns
returns c = assumption (views_are_one, union_agrees, minus_agrees, meet_agrees, with_agrees, has_agrees)
