-- The law as proved.
use Rattle.edi_follows.proofs.values.Alone.{elementary_is_alone, set_is_members}
use Rattle.edi_follows.proofs.values.Checks.{conversion_follows, member_follows, index_follows}
use Rattle.edi_follows.proofs.values.checks_are_those_of_words.Goals as goal

pub returns : goal.returns
returns c = assumption (elementary_is_alone, set_is_members, conversion_follows, member_follows, index_follows)
