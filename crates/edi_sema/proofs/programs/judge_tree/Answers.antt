use Rattle.std.proofs.Common.{◌≡◌, rules}
use Rattle.edi_tree.specs.Whole.{program_of}
use Rattle.edi_unit.specs.View.{unit_of}
use Rattle.edi_static.specs.Judged.{gives}
use Rattle.edi_static.specs.Programs.{resolve_tree}
use Rattle.edi_static.proofs.FitnessPrograms.{units_fit}
use Rattle.edi_sema.proofs.Ranges.{bounded_in_range}
use Rattle.edi_sema.proofs.programs.judge_tree.Goals as goal

pub returns-clause-fits : goal.returns-clause-fits
returns-clause-fits c =
    let tree = program_of c.args.tree.now in
    let unit = unit_of (record {
      types = c.program_procedure.new.known.types;
      blocks = c.from_vec.result;
      program = 0;
      calls = c.in_ok-calls.calls;
    }) in
    let exact : resolve_tree tree ≡ gives unit = search rules in
    units_fit tree unit c.args.tree.now.shallow (bounded_in_range tree c.args.tree.now.is_bounded) c.in_ok-calls.ensures.table.bounded exact
