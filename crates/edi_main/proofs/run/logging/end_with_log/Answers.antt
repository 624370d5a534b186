use Rattle.std.proofs.Common.{◌≡◌, ℕ, List, option_map, subst}
use Rattle.std.specs.FinMap as map
use Rattle.edi_told.specs.Told.{WhereTold}
use Rattle.edi_host.specs.Files.{KeepLeaves}
use Rattle.edi_main.proofs.run.LogKept.{then_record}
use Rattle.edi_main.proofs.run.logging.end_with_log.Goals as goal

pub returns-in-Ok-clause-keeps : goal.returns-in-Ok-clause-keeps
returns-in-Ok-clause-keeps g c =
    let old = g.F.Files.contents c.args.files.now in
    let mid = g.F.Files.contents c.keep.new.self in
    let out : List ℕ = c.args.out.now in
    then_record out c.args.log.now.bytes (option_map (λ name. name.now) c.args.record_file) c.args.choices.now c.args.ended.status
    c.end_with_record.result.status old mid (g.F.Files.contents c.end_with_record.new.files)
    (subst (λ log. WhereTold old mid (λ a b. b ≡ map.insert a out log)) c.bytes.ensures.exact
    (subst (λ r. WhereTold old mid (KeepLeaves r out c.bytes.result.now)) c.in-Ok.is c.keep.ensures.leaves))
    c.end_with_record.ensures.keeps
