use Rattle.std.proofs.Common.{arith}
use Rattle.edi_tree.specs.Whole.{program_of}
use Rattle.edi_unit.specs.View.{unit_of}
use Rattle.edi_compile.proofs.codable.Fielded.{records_have_fields}
use Rattle.edi_compile.proofs.codable.Following.{code_is_short, code_is_short_for_text, lines_are_small}
use Rattle.edi_compile.proofs.passes.unit_of_symbols.Goals as goal

pub returns : goal.returns
returns c =
    let tree = program_of c.in_ok-tree.tree in
    let unit = unit_of c.in_ok-unit.unit in
    let it = c.in_ok-tree.ensures.tree in
    let resolved = c.in_ok-unit.ensures.exact in
    let sound = c.in_ok-unit.ensures.sound in
    record {
      gives = record {
        unit_is = record { tree = tree; tree_is = it; resolved = resolved };
        can = record {
          fits = c.in_ok-unit.ensures.fits;
          parts = records_have_fields tree unit resolved;
          lines = lines_are_small tree unit sound.is_bounded resolved;
          short = omega (arith, code_is_short tree unit sound.is_bounded resolved);
        };
        short = omega (arith, code_is_short_for_text tree unit c.args.symbols.now.marks sound.is_bounded it.spells resolved);
      };
    }
