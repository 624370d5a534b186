use Rattle.std.proofs.Common.{◌≡◌, ◌≤◌, ◌<◌, true, refl, sym, subst, ap}
use Rattle.std.specs.List.{list_all}
use Rattle.edi_image.specs.Image.{mount_fault_of}
use Rattle.edi_image.specs.Finds.{IsFirst, failed}
use Rattle.edi_image.specs.Stored.{is_stored}
use Rattle.edi_catalog.proofs.Mounts.{still_settled, found_of, same_blocks, told_same_blocks, first_found}
use Rattle.edi_catalog.specs.Mounted.{HaveEntries}
use Rattle.edi_catalog.specs.Reads.{Checks}
use Rattle.edi_catalog.proofs.mounting.check.Goals as goal

pub returns-in-Ok-clause-checked : goal.returns-in-Ok-clause-checked
returns-in-Ok-clause-checked g c = record {
  works = c.in-Ok.ensures.checks.works refl;
  settled = still_settled _ _ _ _ _ _ c.requires.settled c.in-Ok.ensures.checks;
  clean = c.in-Ok.ensures.checks.clean refl c.requires.clean;
  many = c.in-Ok.ensures.many;
  most = subst (λ n. n ≤ 4096) (sym c.in-Ok.ensures.checks.count_stays) c.in-Ok.ensures.most;
  stored =
      subst (λ n. list_all (is_stored n) c.in-Ok.checked.files.items ≡ true) (sym c.in-Ok.ensures.checks.count_stays) c.in-Ok.ensures.stored;
  apart = c.in-Ok.ensures.apart;
  image = λ blocks told.
      (let found = found_of _ _ _ _ _ _ c.requires.settled c.in-Ok.ensures.checks blocks told in
      record { valid = found.1.0; slots = found.1.1.0 });
  room = λ some. c.in-Ok.ensures.whole (subst (λ n. 0 < n) c.in-Ok.ensures.checks.count_stays some);
  said = λ some.
      subst (λ n. HaveEntries n c.in-Ok.checked.entries.items c.in-Ok.checked.files.items) (sym c.in-Ok.ensures.checks.count_stays)
      (c.in-Ok.ensures.said (subst (λ n. 0 < n) c.in-Ok.ensures.checks.count_stays some));
  entries_cached = λ some. c.in-Ok.ensures.cached (subst (λ n. 0 < n) c.in-Ok.ensures.checks.count_stays some);
  entries = λ blocks told. (found_of _ _ _ _ _ _ c.requires.settled c.in-Ok.ensures.checks blocks told).1.1.1;
}

pub returns-in-Ok-clause-leaves : goal.returns-in-Ok-clause-leaves
returns-in-Ok-clause-leaves g c =
    told_same_blocks _ _ _
    (λ blocks told. (let found = found_of _ _ _ _ _ _ c.requires.settled c.in-Ok.ensures.checks blocks told in (found.0, (found.1.0, tt))))

pub returns-in-Err-clause-leaves : goal.returns-in-Err-clause-leaves
returns-in-Err-clause-leaves g c =
    told_same_blocks _ _ (λ blocks. IsFirst c.in-Err.fault (mount_fault_of blocks))
    (λ blocks told. (
      same_blocks _ _ _ _ _ _ _ c.requires.settled c.in-Err.ensures.checks blocks told,
      first_found _ _ _ c.in-Err.fault _ _ c.requires.settled c.in-Err.ensures.checks blocks told,
    ))

pub returns-in-Err-clause-cause : goal.returns-in-Err-clause-cause
returns-in-Err-clause-cause g c = λ is. c.in-Err.ensures.checks.cause (ap failed is)

pub returns-in-Err-clause-settled : goal.returns-in-Err-clause-settled
returns-in-Err-clause-settled g c = λ fine.
    still_settled _ _ _ _ _ (λ blocks. IsFirst c.in-Err.fault (mount_fault_of blocks)) c.requires.settled
    (subst (λ b. Checks g.D.Drive.contents g.D.Drive.count g.D.Drive.faults b c.args.disk.now c.read_disk.new.disk
    (λ blocks. IsFirst c.in-Err.fault (mount_fault_of blocks))) fine c.in-Err.ensures.checks)

pub returns-in-Ok-clause-settled : goal.returns-in-Ok-clause-settled
returns-in-Ok-clause-settled g c = λ fine. still_settled _ _ _ _ _ _ c.requires.settled c.in-Ok.ensures.checks

pub returns-in-Err-clause-clean : goal.returns-in-Err-clause-clean
returns-in-Err-clause-clean g c = λ fine. c.in-Err.ensures.checks.clean fine c.requires.clean

pub returns-in-Ok-clause-clean : goal.returns-in-Ok-clause-clean
returns-in-Ok-clause-clean g c = λ fine. c.in-Ok.ensures.checks.clean refl c.requires.clean
