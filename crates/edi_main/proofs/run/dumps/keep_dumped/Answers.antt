-- The record is kept, and then the dump, till one is not.
use Rattle.std.proofs.Common.{◌≡◌, [], ◌∷◌, true, false, option_map, rules}
use Rattle.edi_runs.specs.explore.Keeping.{is_kept}
use Rattle.edi_statuses.specs.Executions.{record_of}
use Rattle.edi_main.proofs.run.AccountKept.{one_told, stops_told, then_told}
use Rattle.edi_main.proofs.run.dumps.keep_dumped.Goals as goal

pub returns-then-not-is_kept-clause-keeps : goal.returns-then-not-is_kept-clause-keeps
returns-then-not-is_kept-clause-keeps g c = λ told is.
    let lost : is_kept c.keep_record-recorded.result ≡ false = search rules in
    stops_told (record_of (option_map (λ text. text.now) c.args.record_file) c.args.choices.now.source c.args.choices.now.drawn)
    ((c.args.out.now, told) ∷ []) c.keep_record-recorded.result _ _ lost c.keep_record-recorded.ensures.keeps

pub returns-clause-keeps : goal.returns-clause-keeps
returns-clause-keeps g c = λ told is.
    let kept : is_kept c.keep_record-recorded.result ≡ true = search rules in
    then_told (record_of (option_map (λ text. text.now) c.args.record_file) c.args.choices.now.source c.args.choices.now.drawn)
    ((c.args.out.now, told) ∷ []) c.keep_record-recorded.result c.keep_dump.result _ _ _ kept c.keep_record-recorded.ensures.keeps
    (one_told c.keep_dump.result c.args.out.now told _ _ (c.keep_dump.ensures.leaves told is))
