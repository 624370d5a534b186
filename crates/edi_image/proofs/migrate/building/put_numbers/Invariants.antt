use Rattle.std.proofs.Common.{◌≡◌, ◌+◌, ◌-◌, ◌++◌}
use Rattle.std.specs.List.{range_with_len}
use Rattle.edi_image.specs.Build.{all_two}
use Rattle.edi_image.proofs.migrate.building.put_numbers.Given as goal

abbrev pub invariant-loop-i : goal.invariant-loop-i
invariant-loop-i l =
    l.bytes.items ++ all_two (range_with_len (l.first + l.i) (l.count - l.i))
    ≡ l.initial.bytes.items ++ all_two (range_with_len l.first l.count)
