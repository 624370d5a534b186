use Rattle.edi_tree.specs.Whole.{program_of}
use Rattle.edi_unit.specs.View.{unit_of}
use Rattle.edi_compile.proofs.Meant.{sound_units_can_be_coded}
use Rattle.edi_runs.proofs.watch.source.watchable_of_symbols.Goals as goal

pub generate_mapped-requires-clause-parts : goal.generate_mapped-requires-clause-parts
generate_mapped-requires-clause-parts c =
    (sound_units_can_be_coded (program_of c.in_ok-tree.tree) (unit_of c.in_ok-unit.unit) c.in_ok-unit.ensures.sound c.in_ok-unit.ensures.exact).parts

pub generate_mapped-requires-clause-short : goal.generate_mapped-requires-clause-short
generate_mapped-requires-clause-short c =
    (sound_units_can_be_coded (program_of c.in_ok-tree.tree) (unit_of c.in_ok-unit.unit) c.in_ok-unit.ensures.sound c.in_ok-unit.ensures.exact).short

pub returns : goal.returns
returns c =
    let tree = program_of c.in_ok-tree.tree in
    let unit = unit_of c.in_ok-unit.unit in
    let resolved = c.in_ok-unit.ensures.exact in
    let sound = c.in_ok-unit.ensures.sound in
    record {
      gives = record {
        tree_is = c.in_ok-tree.ensures.tree;
        whole = record {
          unit = unit;
          sound = sound;
          resolved = resolved;
          can = sound_units_can_be_coded tree unit sound resolved;
          mapped = c.in_ok-mapped.ensures.exact;
        };
      };
    }
