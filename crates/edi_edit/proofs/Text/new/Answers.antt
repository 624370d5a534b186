use Rattle.std.proofs.Common.{refl, arith}
use Rattle.edi_edit.proofs.Feeds.{no_feed-lines_of}
use Rattle.edi_edit.proofs.Pieces.{size-lines_of}
use Rattle.edi_edit.proofs.Text.new.Goals as goal

pub invariant_of-result : goal.invariant_of-result
invariant_of-result c =
    let small = c.requires in
    rw (c.in_ok-steps.ensures, c.in_ok-lines.ensures.exact)
    (record { room = refl; few = omega arith; can = tt; small = omega (arith, size-lines_of c.args.bytes.now); whole = no_feed-lines_of c.args.bytes.now })
