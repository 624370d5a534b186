-- The record is kept, or it is not.
use Rattle.std.proofs.Common.{Bor, List, option_map, sym, subst, ℕ}
use Rattle.std.specs.Prelude.{min}
use Rattle.edi_told.specs.Told.{WhereTold}
use Rattle.edi_calls.specs.Choice.{first_choices}
use Rattle.edi_runs.specs.explore.Keeping.{KeepsInTurn}
use Rattle.edi_trace.specs.Drawn.{most_kept}
use Rattle.edi_trace.specs.Lines.{written}
use Rattle.edi_statuses.specs.Executions.{record_of}
use Rattle.edi_main.proofs.run.AccountKept.{one_told}
use Rattle.edi_main.proofs.run.timelines.keep_record.Goals as goal

pub returns-clause-keeps : goal.returns-clause-keeps
returns-clause-keeps g c =
    let old = g.F.Files.contents c.args.files.now in
    let new = g.F.Files.contents c.keep_choices.new.files in
    let choices = c.args.choices.now in
    subst (λ n. WhereTold old new (KeepsInTurn c.keep_choices.result (record_of (option_map (λ (text : Bor (List ℕ)). text.now) n) choices.source choices.drawn)))
    (sym c.in-Some.is)
    (one_told c.keep_choices.result c.in-Some.name.now (written (first_choices choices.source (min choices.drawn most_kept))) old new
    c.keep_choices.ensures.leaves)
