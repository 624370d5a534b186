use Rattle.std.proofs.Common.{◌+◌, ◌/◌, ◌*◌, ◌%◌, ◌∙◌, ap, rules, refl}
use Rattle.edi_image.specs.Entries.{block_at}
use Rattle.edi_catalog.specs.Writing.{patched}
use Rattle.edi_catalog.proofs.PutEntry.{entry_put}
use Rattle.edi_catalog.proofs.StillCached.{use_as}
use Rattle.edi_catalog.proofs.writing.put_entry.Goals as goal

pub returns-clause-puts : goal.returns-clause-puts
returns-clause-puts g c =
    entry_put _ _ _ _ c.args.slot _ c.args.entry.now _ c.args.kept.now _ _
    (λ blocks told. ap (λ n. block_at blocks (1 + n / 8)) c.from-2.ensures ∙ c.requires.kept blocks told)
    (record {
      index = ap (λ n. 1 + n / 8) c.from-2.ensures;
      long = search rules;
      made = c.put_over.ensures ∙ ap (λ n. patched (64 * (n % 8)) c.args.entry.now c.args.kept.now) c.from.ensures;
    })
    c.write_block.ensures.writes

pub returns-clause-cached : goal.returns-clause-cached
returns-clause-cached g c = λ done.
    use_as _ _ _ _ c.args.disk.now c.write_block.new.disk (ap (λ n. 1 + n / 8) c.from-2.ensures) refl (c.write_block.ensures.cached done)
