use Rattle.std.proofs.Common.{rules}
use Rattle.edi_word.proofs.SetLaws.{same_words_test}
use Rattle.edi_word.proofs.members.MembersPartialEq.eq.Goals as goal

pub returns : goal.returns
returns c = search (rules, same_words_test)
