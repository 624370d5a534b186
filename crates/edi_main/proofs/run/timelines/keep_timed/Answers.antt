-- The files are kept one after another, till one is not.
use Rattle.std.proofs.Common.{◌≡◌, ◌++◌, ℕ, List, [], ◌∷◌, true, false, Option, option_map, rules}
use Rattle.std.specs.Prelude.{codes}
use Rattle.edi_runs.specs.explore.Keeping.{is_kept}
use Rattle.edi_timeline.specs.Picture.{picture_of}
use Rattle.edi_timeline.specs.Text.{text_of}
use Rattle.edi_statuses.specs.Executions.{record_of}
use Rattle.edi_statuses.specs.Outside.{Kept}
use Rattle.edi_statuses.specs.Accounts.{timeline_files}
use Rattle.edi_main.proofs.run.AccountKept.{one_told, stops_told, then_told}
use Rattle.edi_main.proofs.run.timelines.keep_timed.Goals as goal

pub returns-then-not-is_kept-clause-keeps : goal.returns-then-not-is_kept-clause-keeps
returns-then-not-is_kept-clause-keeps g c =
    let lost : is_kept c.keep_record-recorded.result ≡ false = search rules in
    stops_told (record_of (option_map (λ text. text.now) c.args.record_file) c.args.choices.now.source c.args.choices.now.drawn)
    (timeline_files c.args.out.now c.args.timeline.now) c.keep_record-recorded.result _ _ lost c.keep_record-recorded.ensures.keeps

pub returns-then-not-is_kept-2-clause-keeps : goal.returns-then-not-is_kept-2-clause-keeps
returns-then-not-is_kept-2-clause-keeps g c =
    let told = c.args.timeline.now in
    let out : List ℕ = c.args.out.now in
    let lines : Kept = (out ++ codes ".txt", text_of told.count told.ending told.stints) in
    let picture : Kept = (out ++ codes ".svg", picture_of told.count told.ending told.stints) in
    let kept : is_kept c.keep_record-recorded.result ≡ true = search rules in
    let lost : is_kept c.keep_lines-lines.result ≡ false = search rules in
    then_told (record_of (option_map (λ text. text.now) c.args.record_file) c.args.choices.now.source c.args.choices.now.drawn)
    (timeline_files out told) c.keep_record-recorded.result c.keep_lines-lines.result _ _ _ kept c.keep_record-recorded.ensures.keeps
    (stops_told (lines ∷ []) (picture ∷ []) c.keep_lines-lines.result _ _ lost
    (one_told c.keep_lines-lines.result lines.0 lines.1 _ _ c.keep_lines-lines.ensures.leaves))

pub returns-clause-keeps : goal.returns-clause-keeps
returns-clause-keeps g c =
    let told = c.args.timeline.now in
    let out : List ℕ = c.args.out.now in
    let lines : Kept = (out ++ codes ".txt", text_of told.count told.ending told.stints) in
    let picture : Kept = (out ++ codes ".svg", picture_of told.count told.ending told.stints) in
    let recorded : is_kept c.keep_record-recorded.result ≡ true = search rules in
    let kept : is_kept c.keep_lines-lines.result ≡ true = search rules in
    then_told (record_of (option_map (λ text. text.now) c.args.record_file) c.args.choices.now.source c.args.choices.now.drawn)
    (timeline_files out told) c.keep_record-recorded.result c.keep_picture.result _ _ _ recorded c.keep_record-recorded.ensures.keeps
    (then_told (lines ∷ []) (picture ∷ []) c.keep_lines-lines.result c.keep_picture.result _ _ _ kept
    (one_told c.keep_lines-lines.result lines.0 lines.1 _ _ c.keep_lines-lines.ensures.leaves)
    (one_told c.keep_picture.result picture.0 picture.1 _ _ c.keep_picture.ensures.leaves))
