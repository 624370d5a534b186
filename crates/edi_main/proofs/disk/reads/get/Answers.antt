use Rattle.std.proofs.Common.{◌≡◌, ◌∙◌, ◌++◌, Ok, Err, ap, drop, length, rules, subst, sym, take, true≢false}
use Rattle.std.proofs.Math.Seq.{take-append_seam}
use Rattle.edi_words.specs.Words.{get}
use Rattle.edi_main.specs.disk.OnDisk.{IsOfDisk, MeansOnDisk}
use Rattle.edi_main.specs.disk.OnDrive.{ReadsOn, status_kept}
use Rattle.edi_statuses.specs.EachObject.{FitsGet, is_unread}
use Rattle.edi_statuses.proofs.Told.{itself, told_so}
use Rattle.edi_main.proofs.disk.Counted.{kept_fits, kept_read}
use Rattle.edi_main.proofs.disk.GetMeans.{has_read, kept_drive, kept_failed, kept_of_disk, not_read, read_cause}
use Rattle.edi_main.proofs.disk.reads.get.Goals as goal

pub returns-in-Err-clause-means : goal.returns-in-Err-clause-means
returns-in-Err-clause-means g c =
    let files = g.F.Files.contents c.args.files.now in
    subst (λ title. MeansOnDisk (get title c.args.file.now) c.in-Err.status files files (g.D.Drive.contents c.args.drive.now)
    (g.D.Drive.contents c.read_on.new.drive))
    c.title_of-title.ensures.exact
    (not_read c.in-Err.status c.title_of-title.result c.args.file.now c.read_on.new.into files files (g.D.Drive.contents c.args.drive.now)
    (g.D.Drive.contents c.read_on.new.drive) c.in-Err.ensures.kind (record { files = itself files; blocks = c.in-Err.ensures.reads }))

pub returns-in-Err-clause-cause : goal.returns-in-Err-clause-cause
returns-in-Err-clause-cause g c =
    read_cause c.in-Err.status _ _ _ _ c.in-Err.ensures.kind (search rules) (search rules)
    (λ e. c.in-Err.ensures.counts.cause (ap Err e))

pub returns-clause-means : goal.returns-clause-means
returns-clause-means g c =
    let old = g.F.Files.contents c.args.files.now in
    let new = g.F.Files.contents c.keep.new.self in
    let was = g.D.Drive.contents c.args.drive.now in
    let now = g.D.Drive.contents c.read_on.new.drive in
    let into = c.read_on.new.into in
    let rest = drop (length into) c.in-Ok.into.items in
    let same : length into ≡ c.in-Ok.into.len = search rules in
    let back : take c.in-Ok.into.len (into ++ rest) ≡ into = ap (λ k. take k (into ++ rest)) (sym same) ∙ take-append_seam into rest in
    subst (λ s. MeansOnDisk (get c.args.title.now c.args.file.now) s old new was now) (sym c.kept.ensures.exact)
    (subst (λ title. MeansOnDisk (get title c.args.file.now) (status_kept c.keep.result) old new was now) c.title_of-title.ensures.exact
    (has_read c.keep.result c.in-Ok-read_on.count c.title_of-title.result c.args.file.now c.read_on.new.into c.split_at.result.0.now old new was now
    (record {
      files = c.keep.ensures.leaves;
      bytes_are = c.split_at.ensures.front ∙ ap (λ x. take c.in-Ok-read_on.count x) (c.deref.ensures.value ∙ back);
      blocks = c.in-Ok-read_on.ensures.reads;
    })))

pub returns-clause-cause : goal.returns-clause-cause
returns-clause-cause g c = record {
  kind = subst (λ s. IsOfDisk s) (sym c.kept.ensures.exact) (kept_of_disk c.keep.result);
  later_files = search rules;
  later_drive = search rules;
  cause_files = λ e. c.keep.ensures.cause (kept_failed c.keep.result (sym c.kept.ensures.exact ∙ e));
  cause_drive = λ e. absurd (kept_drive c.keep.result (sym c.kept.ensures.exact ∙ e));
}

pub returns-in-Err-clause-same : goal.returns-in-Err-clause-same
returns-in-Err-clause-same g c =
    told_so (λ old new. (new ≡ old) × ReadsOn (Err c.in-Err.status) c.title_of-title.result c.read_on.new.into old) (λ old new. new ≡ old) _ _
    (λ old new both. both.0) c.in-Err.ensures.reads

pub returns-clause-same : goal.returns-clause-same
returns-clause-same g c =
    told_so (λ old new. (new ≡ old) × ReadsOn (Ok c.in-Ok-read_on.count) c.title_of-title.result c.read_on.new.into old) (λ old new. new ≡ old) _ _
    (λ old new both. both.0) c.in-Ok-read_on.ensures.reads

pub returns-clause-fits : goal.returns-clause-fits
returns-clause-fits g c =
    subst (λ s. FitsGet s (g.D.Drive.count c.args.drive.now)) (sym c.kept.ensures.exact) (kept_fits c.keep.result _ c.in-Ok-read_on.ensures.mounted)

pub returns-clause-unread : goal.returns-clause-unread
returns-clause-unread g c = λ at. absurd (true≢false (sym at ∙ ap is_unread c.kept.ensures.exact ∙ kept_read c.keep.result))
