use Rattle.std.proofs.Common.{◌≤◌, ◌<◌, ◌-◌, ◌*◌, ◌∙◌, length, sym, subst}
use Rattle.edi_disk.specs.Shown.{drive_of, shown}
use Rattle.edi_disk.proofs.Calls as calls
use Rattle.edi_catalog.specs.Plan.{content_of}
use Rattle.edi_catalog.specs.Putting.{PutsBlock}
use Rattle.edi_catalog.proofs.FileShape.{shape_of, maps_enough, pages_enough, used_below}
use Rattle.edi_catalog.proofs.PutBlocks.{there_if}
use Rattle.edi_catalog.proofs.StillCached.{use_of}
use Rattle.edi_catalog.proofs.putting.put_block.Goals as goal

pub content_of-requires : goal.content_of-requires
content_of-requires g c =
    let shape = shape_of (g.D.Drive.count (drive_of c.args.disk.now)) c.args.file.now c.requires.file.stored in
    record {
      within = c.requires.within;
      maps = (maps_enough (g.D.Drive.count (drive_of c.args.disk.now)) c.args.file.now shape).1;
      pages = subst (λ n. 512 * (length c.args.file.now.pages - 1) ≤ n) (sym c.requires.file.size)
          (pages_enough (g.D.Drive.count (drive_of c.args.disk.now)) c.args.file.now shape).1;
    }

pub put_page-requires-clause-in_range : goal.put_page-requires-clause-in_range
put_page-requires-clause-in_range g c =
    subst (λ n. n < g.D.Drive.count (drive_of c.args.disk.now)) (sym (c.from.ensures ∙ c.block_of.ensures))
    (used_below (g.D.Drive.count (drive_of c.args.disk.now)) c.args.file.now c.args.i c.requires.file.stored c.requires.within)

pub returns : goal.returns
returns g c = record {
  puts =
      subst
      (λ n. PutsBlock g.D.Drive.contents g.D.Drive.count g.D.Drive.faults c.put_page.result n (content_of c.args.file.now c.args.bytes.now c.args.i)
      c.args.disk.now c.put_page.new.self)
      (c.from.ensures ∙ c.block_of.ensures)
      (subst
      (λ from. PutsBlock g.D.Drive.contents g.D.Drive.count g.D.Drive.faults c.put_page.result c.from.result from c.args.disk.now c.put_page.new.self)
      c.content_of.ensures
      (record {
        there = there_if (shown g.D.Drive.contents c.args.disk.now) (g.D.Drive.count (drive_of c.args.disk.now)) c.from.result
            (calls.shown_counted g.D.Drive.contents g.D.Drive.count g.D.Drive.faults g.met.D.Drive.counted c.args.disk.now.drive.now c.args.disk.now.cache)
            (subst (λ n. n < g.D.Drive.count (drive_of c.args.disk.now)) (sym (c.from.ensures ∙ c.block_of.ensures))
            (used_below (g.D.Drive.count (drive_of c.args.disk.now)) c.args.file.now c.args.i c.requires.file.stored c.requires.within));
        same_reference = c.put_page.ensures.same_reference;
        works = c.put_page.ensures.works;
        shows = c.put_page.ensures.shows;
        since = c.put_page.ensures.since;
        count_stays = c.put_page.ensures.count;
        later = c.put_page.ensures.later;
        cause = c.put_page.ensures.cause;
        uses = λ e.
            use_of g.D.Drive.contents g.D.Drive.count c.from.result _ c.args.disk.now c.put_page.new.self c.requires.works (c.put_page.ensures.caches e)
            (c.put_page.ensures.order e);
      }));
}
