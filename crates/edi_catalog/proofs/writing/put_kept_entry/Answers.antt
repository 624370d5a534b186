use Rattle.std.proofs.Common.{rules}
use Rattle.edi_catalog.proofs.EntryBlocks.{block_now, kept_block, kept_inside, kept_now}
use Rattle.edi_catalog.proofs.StillCached.{use_as}
use Rattle.edi_catalog.proofs.writing.put_kept_entry.Goals as goal

pub index_mut-requires : goal.index_mut-requires
index_mut-requires g c = search (rules, kept_inside c.args.index c.args.room.now.entries.items c.requires.within c.requires.many)

pub put_entry-requires-clause-kept : goal.put_entry-requires-clause-kept
put_entry-requires-clause-kept g c = kept_block c.args.index _ _ _ c.requires.within c.requires.many c.index_mut.ensures.value c.requires.kept

pub returns-clause-kept : goal.returns-clause-kept
returns-clause-kept g c =
    kept_now c.args.index c.args.room.now.entries.items c.args.entry.now c.index_mut.result.now c.put_entry.new.kept
    c.requires.within c.requires.many c.index_mut.ensures.value c.put_entry.ensures.kept

pub returns-clause-cached : goal.returns-clause-cached
returns-clause-cached g c = λ done.
    use_as _ _ _ _ c.args.disk.now c.put_entry.new.disk (search rules)
    (block_now c.args.index c.args.room.now.entries.items c.put_entry.new.kept c.requires.within c.requires.many) (c.put_entry.ensures.cached done)
