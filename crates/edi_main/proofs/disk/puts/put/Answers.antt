use Rattle.std.proofs.Common.{◌∙◌, refl, subst, Vec, ℕ, Global, rules}
use Rattle.edi_words.specs.Words.{put}
use Rattle.edi_statuses.specs.Outside.{still_told}
use Rattle.edi_main.specs.steps.OnFiles.{files_only}
use Rattle.edi_main.proofs.steps.OnFilesLemmas.{fetch_fits}
use Rattle.edi_main.specs.disk.OnDisk.{MeansOnDisk}
use Rattle.edi_statuses.proofs.EachLeft.{keeps_same}
use Rattle.edi_statuses.proofs.Told.{itself, told_so}
use Rattle.edi_main.proofs.disk.Counted.{asked, put_valid}
use Rattle.edi_main.proofs.disk.PutMeans.{has_put, not_fit, not_put, unfetched}
use Rattle.edi_main.proofs.disk.puts.put.Goals as goal

pub returns-in-Err-clause-means : goal.returns-in-Err-clause-means
returns-in-Err-clause-means g c =
    not_put c.in-Err.status c.args.file.now c.args.title.now _ _ _ _
    (unfetched c.in-Err.status c.args.file.now 261121 (g.F.Files.contents c.args.files.now) (g.F.Files.contents c.fetch.new.files)
    (g.D.Drive.contents c.args.drive.now) c.in-Err.ensures.fetched c.in-Err.ensures.only.unchanged)

pub returns-then-len-gt-MOST-clause-means : goal.returns-then-len-gt-MOST-clause-means
returns-then-len-gt-MOST-clause-means g c =
    let f = c.in-Ok.ensures.fetched in
    not_fit c.args.file.now c.args.title.now c.in-Ok.bytes.items (g.F.Files.contents c.args.files.now) (g.F.Files.contents c.fetch.new.files)
    (g.D.Drive.contents c.args.drive.now) (g.D.Drive.contents c.args.drive.now)
    (record {
      has = record { all = f.0; fetched = f.1; front = f.2; files = c.in-Ok.ensures.only.unchanged };
      long = search rules;
      blocks = itself (g.D.Drive.contents c.args.drive.now);
    })

pub returns-clause-means : goal.returns-clause-means
returns-clause-means g c =
    let f = c.in-Ok.ensures.fetched in
    subst (λ title. MeansOnDisk (put c.args.file.now title) c.put_on.result (g.F.Files.contents c.args.files.now) (g.F.Files.contents c.fetch.new.files)
    (g.D.Drive.contents c.args.drive.now) (g.D.Drive.contents c.put_on.new.drive)) c.title_of.ensures.exact
    (has_put c.put_on.result c.args.file.now c.title_of.result c.deref.result.now (g.F.Files.contents c.args.files.now) (g.F.Files.contents c.fetch.new.files)
    (g.D.Drive.contents c.args.drive.now) (g.D.Drive.contents c.put_on.new.drive) c.put_on.ensures.kind
    (record {
      has = record { all = f.0; fetched = f.1; front = c.deref.ensures.value ∙ f.2; files = c.in-Ok.ensures.only.unchanged };
      short = search rules;
      blocks = c.put_on.ensures.puts;
    }))

pub returns-in-Err-clause-fits : goal.returns-in-Err-clause-fits
returns-in-Err-clause-fits g c =
    fetch_fits (λ (v : Vec ℕ Global). v.items) (files_only (still_told (g.F.Files.contents c.args.files.now) (g.F.Files.contents c.fetch.new.files)))
    c.args.file.now 261121 c.in-Err.status _ c.in-Err.ensures.fetched

pub returns-in-Err-clause-valid : goal.returns-in-Err-clause-valid
returns-in-Err-clause-valid g c = keeps_same (g.D.Drive.contents c.args.drive.now) _ refl

pub returns-then-len-gt-MOST-clause-valid : goal.returns-then-len-gt-MOST-clause-valid
returns-then-len-gt-MOST-clause-valid g c = keeps_same (g.D.Drive.contents c.args.drive.now) _ refl

pub returns-clause-valid : goal.returns-clause-valid
returns-clause-valid g c = told_so _ _ _ _ (put_valid c.put_on.result c.title_of.result c.deref.result.now) c.put_on.ensures.puts

pub returns-clause-early : goal.returns-clause-early
returns-clause-early g c = λ early. absurd (asked c.put_on.result c.put_on.ensures.kind early)
