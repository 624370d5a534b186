use Rattle.std.proofs.Common.{length, ap, sym, arith}
use Rattle.edi_tree.specs.declared.headings.Param.TheViews.{out-Heading}
use Rattle.edi_tree.specs.View.{heading_of}
use Rattle.edi_static.specs.Declarations.{begin_procedure}
use Rattle.edi_static.specs.Views.{environment, headed_of}
use Rattle.edi_sema.proofs.Begun.{begin_answered, headings_kept, inner_answer, name_seen}
use Rattle.edi_sema.proofs.Opening.{begin_inner}
use Rattle.edi_sema.proofs.Staying.{given}
use Rattle.edi_sema.proofs.procedures.begin_procedure.Goals as goal

pub begin_block_of-requires-clause-fits : goal.begin_block_of-requires-clause-fits
begin_block_of-requires-clause-fits c =
    let env = environment c.args.known.now in
    let n = given (length env.blocks) c.in_ok-block.block c.in_ok-block.ensures.exact in
    let kept = headings_kept c.in_ok-block.block (heading_of c.args.heading.now) env (headed_of c.heading_parts.new.known c.in_ok-asked.asked)
    c.in_ok-asked.ensures.exact in
    omega (arith, ap length kept, c.requires.stands.stands.proper.headings, n)

pub returns-clause-exact : goal.returns-clause-exact
returns-clause-exact c =
    begin_answered c.args.export (heading_of c.args.heading.now) (out-Heading c.args.heading.now).name (environment c.args.known.now)
    (environment c.begin_block_of.new.known) (headed_of c.heading_parts.new.known c.in_ok-asked.asked) c.kind_of-kind.result c.in_ok-block.block
    c.begin_block_of.result c.in_ok-block.ensures.exact
    (sym (name_seen c.args.heading.now)) c.in_ok-asked.ensures.exact c.kind_of-kind.ensures.exact c.begin_block_of.ensures.exact

pub returns-clause-begins : goal.returns-clause-begins
returns-clause-begins c =
    let env = environment c.args.known.now in
    inner_answer env (environment c.begin_block_of.new.known) c.begin_block_of.result (begin_procedure c.args.export (heading_of c.args.heading.now) env)
    (begin_answered c.args.export (heading_of c.args.heading.now) (out-Heading c.args.heading.now).name env (environment c.begin_block_of.new.known)
    (headed_of c.heading_parts.new.known c.in_ok-asked.asked)
    c.kind_of-kind.result c.in_ok-block.block c.begin_block_of.result c.in_ok-block.ensures.exact (sym (name_seen c.args.heading.now))
    c.in_ok-asked.ensures.exact c.kind_of-kind.ensures.exact c.begin_block_of.ensures.exact)
    (begin_inner c.args.export (heading_of c.args.heading.now) env) c.begin_block_of.ensures.proper
