use Rattle.edi_edit.proofs.Feeds.{read_again}
use Rattle.edi_edit.proofs.Pieces.{small_bytes}
use Rattle.edi_edit.proofs.Text.bytes.Goals as goal

pub returns-clause-again : goal.returns-clause-again
returns-clause-again c =
    rw (← c.self.view_is) (read_again c.join_lines.result _ c.self.invariant.whole (rw c.deref.ensures.value at c.join_lines.ensures.exact))

pub returns-clause-small : goal.returns-clause-small
returns-clause-small c =
    small_bytes c.join_lines.result _ _ c.self.invariant.small (rw c.deref.ensures.value at c.join_lines.ensures.exact)
