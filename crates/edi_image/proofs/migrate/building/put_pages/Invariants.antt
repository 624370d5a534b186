use Rattle.std.proofs.Common.{◌≡◌, ◌++◌, drop}
use Rattle.std.specs.Prelude.{flat_map}
use Rattle.edi_image.specs.Entries.{block_at}
use Rattle.edi_image.proofs.migrate.building.put_pages.Given as goal

abbrev pub invariant-loop-page : goal.invariant-loop-page
invariant-loop-page l =
    l.bytes.items ++ flat_map (block_at l.old) (drop l.page-index l.pages) ≡ l.initial.bytes.items ++ flat_map (block_at l.old) l.pages
