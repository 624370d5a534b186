use Rattle.std.proofs.Common.{false}
use Rattle.edi_tree.specs.declared.headings.Param.TheViews.{out-Heading}
use Rattle.edi_tree.specs.View.{heading_of}
use Rattle.edi_unit.specs.declared.units.BlockKind.TheVariants as block_kind
use Rattle.edi_static.specs.Headings.{Headed}
use Rattle.edi_static.specs.Views.{environment, asked_of}
use Rattle.edi_sema.proofs.Answered.{on_ok}
use Rattle.edi_sema.proofs.Opening.{begins, program_inner}
use Rattle.edi_sema.proofs.programs.begin_program.Goals as goal

pub returns-clause-begins : goal.returns-clause-begins
returns-clause-begins c =
    let env = environment c.args.known.now in
    let after = environment c.begin_block_of.new.known in
    let headed : Headed = record { env = environment c.heading_parts.new.known; asks = asked_of c.in_ok-asked.asked } in
    on_ok c.program_heading.result (begins env after
    (program_inner false (out-Heading c.args.heading.now).name 0 0 (heading_of c.args.heading.now) env after block_kind.Program headed
    c.in_ok-asked.ensures.exact c.in_ok-begin_block_of.ensures.exact)
    c.in_ok-begin_block_of.ensures.proper)
