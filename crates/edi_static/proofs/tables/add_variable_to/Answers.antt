use Rattle.std.proofs.Common.{ap, arith}
use Rattle.edi_unit.specs.View.{block_of}
use Rattle.edi_unit.specs.Need.{no_block}
use Rattle.edi_static.specs.Judged.{gives}
use Rattle.edi_static.specs.Environment.{with_variable}
use Rattle.edi_static.proofs.Proper.{set_seen}
use Rattle.edi_static.proofs.tables.add_variable_to.Goals as goal

pub returns-clause-exact : goal.returns-clause-exact
returns-clause-exact c =
    ap gives
    (set_seen block_of (with_variable c.args.of) c.args.blocks.now.items c.args.at c.index_mut.result.now _ no_block
    (omega (arith, c.requires, c.args.blocks.now.ok.0)) c.index_mut.ensures.value
    (ap (λ vs. record (block_of c.index_mut.result.now) { variables = vs }) c.in_ok-add.ensures.ok))
