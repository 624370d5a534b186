-- Where the command stops, and what it keeps.
use Rattle.std.proofs.Common.{ℕ, Vec, Global}
use Rattle.edi_main.proofs.text.Meaning.{failed_means, kept_means, stops_means}
use Rattle.edi_main.proofs.text.compiling.compile_file.Goals as goal

pub returns-in-Err-clause-means : goal.returns-in-Err-clause-means
returns-in-Err-clause-means g c =
    stops_means (λ (v : Vec ℕ Global). v.items) c.args.file.now c.args.out.now (g.F.Files.contents c.args.files.now) (g.F.Files.contents c.code_file.new.files)
    c.in-Err.status c.in-Err.ensures.codes c.in-Err.ensures.only.unchanged

pub returns-in-Ok-keep-clause-means : goal.returns-in-Ok-keep-clause-means
returns-in-Ok-keep-clause-means g c =
    kept_means (λ (v : Vec ℕ Global). v.items) c.args.file.now c.args.out.now (g.F.Files.contents c.args.files.now) (g.F.Files.contents c.code_file.new.files)
    (g.F.Files.contents c.keep.new.self) c.in-Ok.bytes c.deref.result.now c.deref.ensures.value c.in-Ok.ensures.codes c.in-Ok.ensures.only.unchanged
    c.in-Ok-keep.ensures.leaves

pub returns-in-Failed-clause-means : goal.returns-in-Failed-clause-means
returns-in-Failed-clause-means g c =
    failed_means (λ (v : Vec ℕ Global). v.items) c.args.file.now c.args.out.now (g.F.Files.contents c.args.files.now)
    (g.F.Files.contents c.code_file.new.files) (g.F.Files.contents c.keep.new.self) c.in-Ok.bytes c.deref.result.now c.deref.ensures.value
    c.in-Ok.ensures.codes c.in-Ok.ensures.only.unchanged c.in-Failed.ensures.leaves
