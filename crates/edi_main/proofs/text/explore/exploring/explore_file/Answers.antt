-- The exits of `explore`.
use Rattle.std.proofs.Common.{ℕ, refl, sym, subst, ◌∙◌}
use Rattle.std.proofs.lemmas.Bool.{false≢true}
use Rattle.edi_words.specs.View.{exploring_of}
use Rattle.edi_statuses.specs.Outside.{lent}
use Rattle.edi_main.specs.text.ExploreCommand.{IsExplored}
use Rattle.edi_main.proofs.text.ExploreCame.{came_ended, came_unfed, came_unread, came_unshown}
use Rattle.edi_main.proofs.text.explore.exploring.explore_file.Goals as goal

pub returns-in-Err-clause-came : goal.returns-in-Err-clause-came
returns-in-Err-clause-came g c =
    let k = c.args.kernel.now in
    came_unread c.args.file.now (exploring_of c.args.options) (g.F.Files.contents c.args.files.now) (g.F.Files.contents c.program_of_file.new.files)
    (g.S.Source.left c.args.input.now) (g.T.Sink.taken c.args.terminal.now) (lent k.store k.used k.store k.used) c.in-Err.status c.stopped.result.status
    c.stopped.result.due refl c.stopped.ensures.status_is c.stopped.ensures.due c.in-Err.ensures.only.unchanged c.in-Err.ensures.gives

pub returns-in-Err-input_of-clause-came : goal.returns-in-Err-input_of-clause-came
returns-in-Err-input_of-clause-came g c =
    let k = c.args.kernel.now in
    came_unfed c.args.file.now (exploring_of c.args.options) (g.F.Files.contents c.args.files.now) (g.F.Files.contents c.program_of_file.new.files)
    c.in-Ok.ensures.only.unchanged c.in-Ok.program c.in-Ok.ensures.gives (g.S.Source.left c.args.input.now) (g.S.Source.left c.input_of.new.input)
    (g.T.Sink.taken c.args.terminal.now) (lent k.store k.used k.store k.used) c.in-Err-input_of.status c.stopped-in-Err-input_of.result.status
    c.stopped-in-Err-input_of.result.due refl c.stopped-in-Err-input_of.ensures.status_is c.stopped-in-Err-input_of.ensures.due
    c.in-Err-input_of.ensures.takes

pub returns-in-Ok-explore_program-clause-came : goal.returns-in-Ok-explore_program-clause-came
returns-in-Ok-explore_program-clause-came g c =
    let k = c.args.kernel.now in
    let l = c.explore_program.new.kernel in
    let gives = c.in-Ok.ensures.gives in
    came_ended c.args.file.now (exploring_of c.args.options) (g.F.Files.contents c.args.files.now) (g.F.Files.contents c.program_of_file.new.files)
    c.in-Ok.ensures.only.unchanged c.in-Ok.program gives (g.S.Source.left c.args.input.now) (g.S.Source.left c.input_of.new.input)
    (g.T.Sink.taken c.args.terminal.now) (lent k.store k.used l.store l.used) c.in-Ok-input_of.given c.in-Ok-input_of.ensures.takes
    c.deref.result.now c.deref.ensures.value c.in-Ok-explore_program.explored
    (subst (λ (n : ℕ). IsExplored gives.0 c.deref.result.now (exploring_of c.args.options).states n (exploring_of c.args.options).shown
    (exploring_of c.args.options).record_file
    c.in-Ok-explore_program.explored) c.from.ensures (c.in-Ok-explore_program.ensures.finds gives.0 gives.2.0 gives.2.1))
    (g.F.Files.contents c.end_exploration.new.files)
    (g.T.Sink.taken c.end_exploration.new.terminal) c.end_exploration.result c.end_exploration.ensures.ends

pub returns-clause-came : goal.returns-clause-came
returns-clause-came g c =
    let k = c.args.kernel.now in
    let l = c.explore_program.new.kernel in
    came_unshown c.args.file.now (exploring_of c.args.options) (g.F.Files.contents c.args.files.now) (g.F.Files.contents c.program_of_file.new.files)
    c.in-Ok.ensures.only.unchanged c.in-Ok.program c.in-Ok.ensures.gives (g.S.Source.left c.args.input.now) (g.S.Source.left c.input_of.new.input)
    (g.T.Sink.taken c.args.terminal.now) (lent k.store k.used l.store l.used) c.in-Ok-input_of.given c.in-Ok-input_of.ensures.takes
    c.stopped-in-Err-explore_program.result.status c.stopped-in-Err-explore_program.result.due
    c.stopped-in-Err-explore_program.ensures.status_is c.stopped-in-Err-explore_program.ensures.due

pub returns-in-Ok-explore_program-clause-early : goal.returns-in-Ok-explore_program-clause-early
returns-in-Ok-explore_program-clause-early g c = λ before. absurd (false≢true (sym c.end_exploration.ensures.late ∙ before))
