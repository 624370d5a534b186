use Rattle.std.proofs.Common.{◌≡◌, ◌++◌, replicate, None}
use Rattle.edi_image.proofs.migrate.old.put_free.Given as goal

abbrev pub invariant-loop-slot : goal.invariant-loop-slot
invariant-loop-slot l = l.files.items ≡ l.initial.files.items ++ replicate l._slot None
