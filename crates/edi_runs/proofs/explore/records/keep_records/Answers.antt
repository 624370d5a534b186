use Rattle.std.proofs.Common.{ap, ◌∙◌, arith, rules}
use Rattle.std.specs.Prelude.{take}
use Rattle.edi_runs.proofs.explore.Keeping.{all_kept, first_kept}
use Rattle.edi_runs.proofs.explore.records.keep_records.Goals as goal

pub returns-then-len-gt-MOST_RECORDS-clause-keeps : goal.returns-then-len-gt-MOST_RECORDS-clause-keeps
returns-then-len-gt-MOST_RECORDS-clause-keeps g c =
    first_kept _ _ c.keep_all.result c.args.name.now c.args.exploration.now.report.found.items c.split_at.result.0.now
    (c.split_at.ensures.front ∙ ap (take 1000) c.as_slice.ensures.value) c.keep_all.ensures.keeps

pub returns-clause-keeps : goal.returns-clause-keeps
returns-clause-keeps g c =
    all_kept _ _ c.keep_all-2.result c.args.name.now c.args.exploration.now.report.found.items (grind (arith, c.if-len-gt-MOST_RECORDS.false)) (search rules)
