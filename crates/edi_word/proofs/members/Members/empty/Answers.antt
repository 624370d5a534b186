use Rattle.std.proofs.Common.{refl}
use Rattle.edi_word.specs.Sets.{members_where}
use Rattle.edi_word.proofs.members.Members.empty.Goals as goal

pub returns : goal.returns
unfolding members_where
returns c = record { exact = refl }
