use Rattle.std.proofs.Common.{rules, ◌≡◌, subst, refl, inr}
use Rattle.edi_image.specs.Entries.{block_at}
use Rattle.edi_catalog.specs.declared.ends.CatEnd.{CatEnd}
use Rattle.edi_catalog.specs.Files.{file_titled}
use Rattle.edi_catalog.specs.Mounted.{disk_of, files_of}
use Rattle.edi_image.proofs.Told.{told_map}
use Rattle.edi_catalog.proofs.FileIndices.{page_is, page_kept, page_stands}
use Rattle.edi_catalog.proofs.InSlots.{page_in_slots}
use Rattle.edi_catalog.proofs.Mounts.{same_blocks, still_mounted, told_found, told_same_blocks}
use Rattle.edi_catalog.proofs.ReadBlocks.{page_given}
use Rattle.edi_catalog.proofs.StillCached.{entries_stay}
use Rattle.edi_catalog.proofs.catalog.Catalog.read_page.Goals as goal

pub block-requires-clause-in_range : goal.block-requires-clause-in_range
block-requires-clause-in_range g c =
    (page_stands _ c.args.title.now (files_of c.args.self.now) c.args.i c.in-Some.page c.from.result c.requires.mounted.stored
    (page_kept c.args.title.now c.args.i c.in-Some.page _ _ c.deref.ensures.value c.in-Some.ensures) c.from.ensures c.requires.page).1

pub returns-in-Ok-clause-mounted : goal.returns-in-Ok-clause-mounted
returns-in-Ok-clause-mounted g c =
    inr (still_mounted _ _ _ c.args.self.now (record c.args.self.now { disk = c.block.new.disk }) _ refl refl c.requires.mounted c.in-Ok.ensures.checks
    (entries_stay c.from.result c.from.result (disk_of c.args.self.now) c.block.new.disk refl
    (page_stands _ c.args.title.now (files_of c.args.self.now) c.args.i c.in-Some.page c.from.result c.requires.mounted.stored
    (page_kept c.args.title.now c.args.i c.in-Some.page _ _ c.deref.ensures.value c.in-Some.ensures) c.from.ensures c.requires.page).0
    c.in-Ok.ensures.others))

pub returns-in-Ok-clause-reads : goal.returns-in-Ok-clause-reads
returns-in-Ok-clause-reads g c =
    told_found _ _ _ _ _ _ _ c.requires.mounted.settled c.in-Ok.ensures.checks
    (λ blocks told found. page_is {X = Unit {0}} CatEnd tt (file_titled c.args.title.now (files_of c.args.self.now)) c.args.i c.in-Some.page c.in-Ok.bytes blocks
    (page_kept c.args.title.now c.args.i c.in-Some.page _ _ c.deref.ensures.value c.in-Some.ensures)
    (subst (λ n. block_at blocks n ≡ c.in-Ok.bytes) c.from.ensures found))

pub returns-in-Ok-clause-gives : goal.returns-in-Ok-clause-gives
returns-in-Ok-clause-gives g c =
    page_given (file_titled c.args.title.now (files_of c.args.self.now)) c.args.i c.in-Some.page c.from.result c.in-Ok.bytes (disk_of c.args.self.now)
    c.block.new.disk
    (page_kept c.args.title.now c.args.i c.in-Some.page _ _ c.deref.ensures.value c.in-Some.ensures) c.from.ensures c.in-Ok.ensures.gives

pub returns-in-Err-clause-reads : goal.returns-in-Err-clause-reads
returns-in-Err-clause-reads g c =
    told_same_blocks _ _ _ (λ blocks told. (same_blocks _ _ _ _ _ _ _ c.requires.mounted.settled c.block.ensures.checks blocks told, tt))

pub returns-in-Ok-clause-page : goal.returns-in-Ok-clause-page
returns-in-Ok-clause-page g c =
    page_in_slots _ _ g.D.Drive.faults g.met.D.Drive.counted g.met.D.Drive.sized {X = Unit {0}} CatEnd tt c.args.self.now
    (record c.args.self.now { disk = c.block.new.disk })
    c.args.title.now c.args.i c.in-Ok.bytes c.requires.mounted (search rules) c.requires.page (returns-in-Ok-clause-reads g c)

pub returns-in-Err-clause-page : goal.returns-in-Err-clause-page
returns-in-Err-clause-page g c = told_map _ _ _ _ (λ old new is. tt) (returns-in-Err-clause-reads g c)
