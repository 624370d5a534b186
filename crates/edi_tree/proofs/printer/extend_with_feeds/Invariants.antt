use Rattle.std.proofs.Common.{◌≡◌, ◌++◌, replicate}
use Rattle.edi_tree.proofs.printer.extend_with_feeds.Given as goal

abbrev pub invariant-loop-feed : goal.invariant-loop-feed
invariant-loop-feed l = l.text ≡ l.fn.text ++ replicate l._feed 10
