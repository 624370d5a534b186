use Rattle.std.proofs.Common.{◌≡◌, sym, ◌∙◌}
use Rattle.std.proofs.lemmas.Result.{IfOk-weaker}
use Rattle.edi_tree.specs.declared.headings.Param.TheViews.{out-Heading}
use Rattle.edi_tree.specs.View.{heading_of}
use Rattle.edi_static.specs.Declarations.{begin_post}
use Rattle.edi_static.specs.Views.{environment, headed_of}
use Rattle.edi_sema.specs.Splits.{post_block}
use Rattle.edi_sema.proofs.Begun.{post_answered, post_fits, post_number, inner_answer, name_seen}
use Rattle.edi_sema.proofs.Opening.{post_inner}
use Rattle.edi_sema.proofs.procedures.begin_post.Goals as goal

pub complete-requires-clause-fits : goal.complete-requires-clause-fits
complete-requires-clause-fits c =
    post_fits (heading_of c.args.heading.now) (out-Heading c.args.heading.now).name.text (environment c.args.known.now) (headed_of
    c.heading_parts.new.known c.in_ok-asked.asked) c.begun_block-found.result
    c.in_ok-block.block c.requires.stands.stands.begun_fit c.begun_block-found.ensures.exact c.in_ok-block.ensures.exact c.in_ok-asked.ensures.exact

pub returns-clause-exact : goal.returns-clause-exact
returns-clause-exact c =
    post_answered c.args.export (heading_of c.args.heading.now) (out-Heading c.args.heading.now).name (environment c.args.known.now)
    (environment c.complete.new.known) (headed_of c.heading_parts.new.known c.in_ok-asked.asked) c.begun_block-found.result c.in_ok-block.block
    c.complete.result (sym (name_seen c.args.heading.now))
    c.begun_block-found.ensures.exact c.in_ok-block.ensures.exact c.in_ok-asked.ensures.exact c.complete.ensures.exact

pub returns-clause-number : goal.returns-clause-number
returns-clause-number c =
    let env = environment c.args.known.now in
    IfOk-weaker c.complete.result (λ b. b ≡ c.in_ok-block.block) (λ b. b ≡ post_block (heading_of c.args.heading.now) env)
    (λ b e. e ∙ post_number (heading_of c.args.heading.now) (out-Heading c.args.heading.now).name env c.begun_block-found.result c.in_ok-block.block
    (sym (name_seen c.args.heading.now)) c.begun_block-found.ensures.exact c.in_ok-block.ensures.exact) c.complete.ensures.number

pub returns-clause-begins : goal.returns-clause-begins
returns-clause-begins c =
    let env = environment c.args.known.now in
    inner_answer env (environment c.complete.new.known) c.complete.result (begin_post c.args.export (heading_of c.args.heading.now) env)
    (post_answered c.args.export (heading_of c.args.heading.now) (out-Heading c.args.heading.now).name env (environment c.complete.new.known) (headed_of
    c.heading_parts.new.known c.in_ok-asked.asked)
    c.begun_block-found.result c.in_ok-block.block c.complete.result (sym (name_seen c.args.heading.now)) c.begun_block-found.ensures.exact
    c.in_ok-block.ensures.exact c.in_ok-asked.ensures.exact c.complete.ensures.exact)
    (post_inner c.args.export (heading_of c.args.heading.now) env) c.complete.ensures.proper
