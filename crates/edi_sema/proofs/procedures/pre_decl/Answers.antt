use Rattle.std.proofs.Common.{◌∷◌, ◌++◌, [], ap, sym, ◌∙◌, subst}
use Rattle.edi_tree.specs.View.{heading_of}
use Rattle.edi_static.specs.Judged.{gives}
use Rattle.edi_static.specs.Environment.{Begun}
use Rattle.edi_static.specs.Answers.{JudgedAnswers}
use Rattle.edi_static.specs.Proper.{Proper}
use Rattle.edi_static.specs.Views.{environment}
use Rattle.edi_sema.specs.Frames.{Comes}
use Rattle.edi_sema.specs.Splits.{with_begun}
use Rattle.edi_sema.proofs.Begun.{pre_stated, pre_comes, begun_block, name_seen}
use Rattle.edi_sema.proofs.Staying.{answered}
use Rattle.edi_sema.proofs.procedures.pre_decl.Goals as goal

pub returns-clause-exact : goal.returns-clause-exact
returns-clause-exact c =
    let env = environment c.args.known.now in
    let inside = environment c.begin_procedure.new.known in
    let b : Begun = record { name = c.in_ok-name.name; block = c.in_ok-block.block } in
    subst (JudgedAnswers (λ _. environment c.begin_split.new.known) c.begin_split.result)
    (ap (λ e. gives (with_begun (e.begun ++ b ∷ []) e)) c.leave.ensures.exact
    ∙ sym (pre_stated c.args.export (heading_of c.args.heading.now) c.in_ok-name.name env inside c.in_ok-block.block c.in_ok-block.ensures.exact
    (c.in_ok-name.ensures.ok ∙ sym (name_seen c.args.heading.now)) c.in_ok-block.ensures.number c.in_ok-block.ensures.begins.begun_same))
    c.begin_split.ensures.exact

pub returns-clause-comes : goal.returns-clause-comes
returns-clause-comes c =
    let env = environment c.args.known.now in
    let inside = environment c.begin_procedure.new.known in
    let b : Begun = record { name = c.in_ok-name.name; block = c.in_ok-block.block } in
    answered (Comes env) (environment c.begin_split.new.known) c.begin_split.result
    (gives (with_begun ((environment c.leave.new.self).begun ++ b ∷ []) (environment c.leave.new.self)))
    c.begin_split.ensures.exact
    (subst (λ e. Comes env (with_begun (e.begun ++ b ∷ []) e)) (sym c.leave.ensures.exact)
    (pre_comes env inside b c.requires.stands.stands c.in_ok-block.ensures.begins (subst Proper c.leave.ensures.exact c.leave.ensures.proper)
    (begun_block c.args.export (heading_of c.args.heading.now) env inside c.in_ok-block.block c.in_ok-block.ensures.exact c.requires.stands.stands.proper
    c.in_ok-block.ensures.number)))
