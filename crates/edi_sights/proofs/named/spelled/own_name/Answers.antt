use Rattle.std.proofs.Common.{sym, ◌∙◌}
use Rattle.edi_sema.proofs.Begun.{name_seen}
use Rattle.edi_sights.proofs.named.spelled.own_name.Goals as goal

pub returns : goal.returns
returns c = record { exact = c.in_ok-name.ensures.exact ∙ sym (name_seen c.args.heading.now) }
