-- Where an ending is to be kept there is one.
use Rattle.std.proofs.Common.{◌<◌, Bor, List, arith, length, map, option_map, sym, subst, ℕ}
use Rattle.edi_runs.specs.explore.Records.{records_of}
use Rattle.edi_runs.specs.explore.Told.{reached_of}
use Rattle.edi_main.proofs.text.ManyNames.{some_kept}
use Rattle.edi_main.proofs.text.explore.ending.keep_endings.Goals as goal

pub returns-clause-some : goal.returns-clause-some
returns-clause-some g c = λ unkept.
    let found = c.args.exploration.now.report.found.items in
    subst (λ r. 0 < length (records_of (option_map (λ (name : Bor (List ℕ)). name.now) r) (map reached_of found))) (sym c.in-Some.is)
    (some_kept c.in-Some.name.now found (grind (arith, c.is_empty.ensures, c.if-is_empty.false)))
