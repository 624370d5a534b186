use Rattle.std.proofs.Common.{◌≡◌, ◌∙◌, length}
use Rattle.std.specs.Prelude.{⊤}
use Rattle.edi_catalog.proofs.KeptEntries.{none_fails, none_found}
use Rattle.edi_catalog.proofs.Sequence.{checks_as, checks_map, checks_none, checks_with}
use Rattle.edi_catalog.proofs.mounting.read_disk.Goals as goal

pub returns-then-blocks-eq0-clause-checks : goal.returns-then-blocks-eq0-clause-checks
returns-then-blocks-eq0-clause-checks g c =
    checks_as _ _ _ _ _ _ _ (none_fails c.no_image.result c.no_image.ensures.fault)
    (checks_map _ _ _ _ _ _ _ _
    (λ blocks p. none_found c.no_image.result blocks (p.1 ∙ c.if-blocks-eq0.true) c.no_image.ensures.fault c.no_image.ensures.files c.no_image.ensures.entries)
    (checks_with _ _ _ _ _ _ _ (λ blocks. length blocks ≡ c.blocks-2.result) c.blocks-2.ensures.counts
    (checks_none _ _ _ _ (λ blocks. ⊤) c.requires.works (λ blocks. tt))))
