use Rattle.std.proofs.Common.{ap, ◌∙◌}
use Rattle.std.specs.Prelude.{replicate, Err, Ok}
use Rattle.edi_system.proofs.Told.{told_map}
use Rattle.edi_system.proofs.Calling.{answers, does, has_no_file, is_full}
use Rattle.edi_system.proofs.Limits.{answers_may, does_may, has_no_file_may, is_full_may, may}
use Rattle.edi_system.proofs.Used.{blamed_by}
use Rattle.edi_system.proofs.calls.SystemCalls.call.Goals as goal

pub returns-in-Ok-Some-clause-exact : goal.returns-in-Ok-Some-clause-exact
returns-in-Ok-Some-clause-exact g c =
    let filled = c.fill.ensures.after (λ y e. e) ∙ ap (λ n. replicate n c.in-Ok-Some.word) c.requires.answers in
    told_map _ _ _ _
    (answers c.args.number c.args.args.now c.fill.new.self c.in-Ok-Some.word c.in-Ok-Some.field-0 c.in-Ok-Some.field-0-is c.requires.from c.requires.to filled)
    c.in-Ok-Some.ensures.exact

pub returns-in-Ok-None-clause-exact : goal.returns-in-Ok-None-clause-exact
returns-in-Ok-None-clause-exact g c =
    told_map _ _ _ _
    (does c.args.number c.args.args.now c.args.answer.now c.in-Ok-None.field-0 c.in-Ok-None.field-0-is c.requires.from c.requires.to c.requires.answers)
    c.in-Ok-None.ensures.exact

pub returns-in-Err-NoFile-clause-exact : goal.returns-in-Err-NoFile-clause-exact
returns-in-Err-NoFile-clause-exact g c =
    told_map _ _ _ _ (has_no_file c.args.number c.args.args.now c.args.answer.now c.in-Err-NoFile.field-0 c.in-Err-NoFile.field-0-is)
    c.in-Err-NoFile.ensures.exact

pub returns-in-Err-FileLimit-clause-exact : goal.returns-in-Err-FileLimit-clause-exact
returns-in-Err-FileLimit-clause-exact g c =
    told_map _ _ _ _ (is_full c.args.number c.args.args.now c.args.answer.now c.in-Err-FileLimit.field-0 c.in-Err-FileLimit.field-0-is)
    c.in-Err-FileLimit.ensures.exact

pub returns-in-Ok-Some-clause-may : goal.returns-in-Ok-Some-clause-may
returns-in-Ok-Some-clause-may g c =
    let filled = c.fill.ensures.after (λ y e. e) ∙ ap (λ n. replicate n c.in-Ok-Some.word) c.requires.answers in
    answers_may c.args.number c.fill.new.self c.in-Ok-Some.word c.in-Ok-Some.field-0 c.in-Ok-Some.field-0-is filled
    (may g.D.Drive.contents g.D.Drive.count c.args.self.now c.program_call.new.self g.S.Source.left g.T.Sink.taken g.P.Sink.taken c.args.args.now
    (Ok c.in-Ok-Some.field-0) c.args.number c.requires.from c.requires.to c.in-Ok-Some.ensures.does)

pub returns-in-Ok-None-clause-may : goal.returns-in-Ok-None-clause-may
returns-in-Ok-None-clause-may g c =
    does_may c.args.number c.args.answer.now c.in-Ok-None.field-0 c.in-Ok-None.field-0-is c.requires.answers
    (may g.D.Drive.contents g.D.Drive.count c.args.self.now c.program_call.new.self g.S.Source.left g.T.Sink.taken g.P.Sink.taken c.args.args.now
    (Ok c.in-Ok-None.field-0) c.args.number c.requires.from c.requires.to c.in-Ok-None.ensures.does)

pub returns-in-Err-NoFile-clause-may : goal.returns-in-Err-NoFile-clause-may
returns-in-Err-NoFile-clause-may g c =
    has_no_file_may c.args.number c.args.answer.now c.in-Err-NoFile.field-0 c.in-Err-NoFile.field-0-is
    (may g.D.Drive.contents g.D.Drive.count c.args.self.now c.program_call.new.self g.S.Source.left g.T.Sink.taken g.P.Sink.taken c.args.args.now
    (Err c.in-Err-NoFile.field-0) c.args.number c.requires.from c.requires.to c.in-Err-NoFile.ensures.does)

pub returns-in-Err-FileLimit-clause-may : goal.returns-in-Err-FileLimit-clause-may
returns-in-Err-FileLimit-clause-may g c =
    is_full_may c.args.number c.args.answer.now c.in-Err-FileLimit.field-0 c.in-Err-FileLimit.field-0-is
    (may g.D.Drive.contents g.D.Drive.count c.args.self.now c.program_call.new.self g.S.Source.left g.T.Sink.taken g.P.Sink.taken c.args.args.now
    (Err c.in-Err-FileLimit.field-0) c.args.number c.requires.from c.requires.to c.in-Err-FileLimit.ensures.does)

pub returns-in-Err-Fault-clause-blame : goal.returns-in-Err-Fault-clause-blame
returns-in-Err-Fault-clause-blame g c =
    blamed_by g.D.Drive.contents g.D.Drive.count g.S.Source.left c.program_call.new.self c.args.number c.in-Err-Fault.field-0 _ _ c.in-Err-Fault.field-0-is
    c.in-Err-Fault.ensures.stays.keeps.blame c.in-Err-Fault.ensures.used
