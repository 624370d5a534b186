use Rattle.std.proofs.Common.{◌∙◌, ap, sym, arith}
use Rattle.edi_image.specs.Entries.{block_at}
use Rattle.edi_catalog.proofs.ReadBlocks.{front_stays, given_at}
use Rattle.edi_catalog.proofs.Sequence.{checks_map}
use Rattle.edi_catalog.proofs.WholeFiles.{page_put}
use Rattle.edi_catalog.proofs.reading.read_page_at.Goals as goal

pub returns-in-Ok-clause-checks : goal.returns-in-Ok-clause-checks
returns-in-Ok-clause-checks g c =
    checks_map _ _ _ _ _ _ _ _
    (λ blocks is. page_put c.args.at c.args.into.now _ _ _ _ c.split_at_mut-rest.ensures.front c.split_at_mut-rest.ensures.front_len
    (c.copy_from_slice.ensures.after ∙ sym is ∙ ap (block_at blocks) c.from.ensures)
    (omega (arith, c.copy_from_slice.ensures.len, c.split_at_mut-index.ensures.front_len)))
    c.in-Ok.ensures.checks

pub returns-in-Ok-clause-front : goal.returns-in-Ok-clause-front
returns-in-Ok-clause-front g c = front_stays c.args.at c.args.into.now _ _ c.split_at_mut-rest.ensures.front c.split_at_mut-rest.ensures.front_len

pub returns-in-Ok-clause-gives : goal.returns-in-Ok-clause-gives
returns-in-Ok-clause-gives g c =
    given_at c.from.result c.args.page c.args.at c.in-Ok.bytes _ _ _ c.args.disk.now c.block.new.disk c.from.ensures c.split_at_mut-rest.ensures.front_len
    c.copy_from_slice.ensures.after
    (omega (arith, c.copy_from_slice.ensures.len, c.split_at_mut-index.ensures.front_len))
    c.in-Ok.ensures.gives

pub returns-in-Ok-clause-others : goal.returns-in-Ok-clause-others
returns-in-Ok-clause-others g c = λ m other. c.in-Ok.ensures.others m (λ same. other (same ∙ c.from.ensures))
