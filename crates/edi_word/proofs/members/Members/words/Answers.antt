use Rattle.std.proofs.Common.{sym}
use Rattle.edi_word.specs.SetViews.{words_of_members-members_of}
use Rattle.edi_word.proofs.SetLaws.{IsOrdinalSet-members_where}
use Rattle.edi_word.proofs.members.Members.words.Goals as goal

pub returns-clause-exact : goal.returns-clause-exact
returns-clause-exact c = rw (← c.self.view_is) (sym (words_of_members-members_of c.self.inside.0 c.self.invariant))

pub returns-clause-increasing : goal.returns-clause-increasing
returns-clause-increasing c = rw (← c.self.view_is) (IsOrdinalSet-members_where _)
