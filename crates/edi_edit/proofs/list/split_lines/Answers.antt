use Rattle.std.proofs.Common.{◌<◌, length, ◌∙◌, rules}
use Rattle.edi_edit.proofs.Pieces.{lines_of_more}
use Rattle.edi_edit.proofs.list.split_lines.Goals as goal

pub loop-rest-preserved : goal.loop-rest-preserved
loop-rest-preserved c =
    let some : 0 < length c.loop-rest.rest.now = search rules in
    rw (c.in_ok-push.ensures.items, c.after_first-rest.ensures, c.split_at.ensures.back)
    (lines_of_more _ _ c.loop-rest.rest.now c.args.bytes.now c.line_len.result c.loop-rest.invariant
    (c.in_ok-from_slice.ensures.items ∙ c.split_at.ensures.front) some c.line_len.ensures.before)
