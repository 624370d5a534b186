use Rattle.std.proofs.Common.{sym, subst, refl, inr}
use Rattle.std.specs.Prelude.{IfSome, length}
use Rattle.edi_catalog.specs.Mounted.{disk_of, files_of}
use Rattle.edi_catalog.specs.Reads.{GivesBlocks}
use Rattle.edi_disk.specs.Shown.{drive_of}
use Rattle.edi_catalog.proofs.Apart.{pages_apart}
use Rattle.edi_catalog.proofs.Mounts.{same_blocks, still_mounted, told_found, told_same_blocks}
use Rattle.edi_catalog.proofs.ReadBlocks.{entries_given}
use Rattle.edi_catalog.proofs.Sizes.{titled_stored}
use Rattle.edi_catalog.proofs.WholeFiles.{found_kept, titled_at}
use Rattle.edi_catalog.proofs.catalog.Catalog.read_into.Goals as goal

pub read_stored-requires-clause-stored : goal.read_stored-requires-clause-stored
read_stored-requires-clause-stored g c =
    titled_stored (g.D.Drive.count (drive_of (disk_of c.args.self.now))) c.args.title.now (files_of c.args.self.now) c.in-Some-index.file
    c.requires.mounted.stored
    (titled_at c.args.title.now (files_of c.args.self.now) c.in-Some.index c.index.result.now c.in-Some-index.file (sym c.in-Some.ensures.exact)
    c.in-Some.ensures.within c.index.ensures c.in-Some-index.is)

pub read_stored-requires-clause-different : goal.read_stored-requires-clause-different
read_stored-requires-clause-different g c =
    pages_apart c.args.title.now (files_of c.args.self.now) c.in-Some-index.file c.requires.mounted.apart
    (titled_at c.args.title.now (files_of c.args.self.now) c.in-Some.index c.index.result.now c.in-Some-index.file (sym c.in-Some.ensures.exact)
    c.in-Some.ensures.within c.index.ensures c.in-Some-index.is)

pub returns-in-Ok-clause-mounted : goal.returns-in-Ok-clause-mounted
returns-in-Ok-clause-mounted g c =
    inr (still_mounted _ _ _ c.args.self.now (record c.args.self.now { disk = c.read_stored.new.disk }) _ refl refl c.requires.mounted c.in-Ok.ensures.checks
    (entries_given (g.D.Drive.count (drive_of (disk_of c.args.self.now))) c.in-Some-index.file c.read_stored.new.into (disk_of c.args.self.now)
    c.read_stored.new.disk
    (titled_stored (g.D.Drive.count (drive_of (disk_of c.args.self.now))) c.args.title.now (files_of c.args.self.now) c.in-Some-index.file
    c.requires.mounted.stored
    (titled_at c.args.title.now (files_of c.args.self.now) c.in-Some.index c.index.result.now c.in-Some-index.file (sym c.in-Some.ensures.exact)
    c.in-Some.ensures.within c.index.ensures c.in-Some-index.is))
    c.in-Ok.ensures.gives))

pub returns-in-Ok-clause-reads : goal.returns-in-Ok-clause-reads
returns-in-Ok-clause-reads g c =
    told_found _ _ _ _ _ _ _ c.requires.mounted.settled c.in-Ok.ensures.checks
    (λ blocks told found. found_kept blocks c.args.title.now (files_of c.args.self.now) c.in-Some-index.file c.in-Ok.count c.read_stored.new.into
    (c.requires.mounted.image blocks told)
    (titled_at c.args.title.now (files_of c.args.self.now) c.in-Some.index c.index.result.now c.in-Some-index.file (sym c.in-Some.ensures.exact)
    c.in-Some.ensures.within c.index.ensures c.in-Some-index.is)
    found)

pub returns-in-Ok-clause-gives : goal.returns-in-Ok-clause-gives
returns-in-Ok-clause-gives g c =
    subst
    (λ o. IfSome o (λ file. GivesBlocks file.pages (length file.pages) c.read_stored.new.into (disk_of c.args.self.now) c.read_stored.new.disk))
    (sym (titled_at c.args.title.now (files_of c.args.self.now) c.in-Some.index c.index.result.now c.in-Some-index.file (sym c.in-Some.ensures.exact)
    c.in-Some.ensures.within c.index.ensures c.in-Some-index.is))
    c.in-Ok.ensures.gives

pub returns-in-Err-clause-reads : goal.returns-in-Err-clause-reads
returns-in-Err-clause-reads g c =
    told_same_blocks _ _ _ (λ blocks told. (same_blocks _ _ _ _ _ _ _ c.requires.mounted.settled c.read_stored.ensures.checks blocks told, tt))

pub returns-in_default-clause-mounted : goal.returns-in_default-clause-mounted
returns-in_default-clause-mounted g c = inr c.requires.mounted

pub returns-in-None-clause-mounted : goal.returns-in-None-clause-mounted
returns-in-None-clause-mounted g c = inr c.requires.mounted
