use Rattle.std.proofs.Common.{sym, ap, ◌∙◌}
use Rattle.edi_unit.specs.Values.{same_value, members}
use Rattle.edi_walk.specs.Data.{value_of}
use Rattle.edi_walk.proofs.Layers.{members_seen}
use Rattle.edi_walk.proofs.SameParts.{pointwise_members, words_same}
use Rattle.edi_walk.proofs.operators.is_set_of.Goals as goal

pub returns-in-Members : goal.returns-in-Members
returns-in-Members c =
    let s = c.words.result in
    let t = c.words-in-Members.result in
    record {
      exact =
          c.eq.ensures
          ∙ pointwise_members s t
          ∙ words_same c.args.set.now c.in-Members.other s t c.words.ensures.exact c.words-in-Members.ensures.exact c.words.ensures.same_set
          c.words-in-Members.ensures.same_set
          ∙ sym (ap (same_value (members c.args.set.now)) (ap value_of c.in-Members.is ∙ members_seen c.in-Members.other));
    }
