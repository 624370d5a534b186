use Rattle.std.proofs.Common.{refl, ◌∷◌, []}
use Rattle.std.specs.Prelude.{map, take}
use Rattle.edi_calls.specs.Calls.{answer_words}
use Rattle.edi_walk.specs.Data.{cell_of}
use Rattle.edi_walk.proofs.Calls.{told_answered, told_no_file, told_full, told_torn, blamed_so}
use Rattle.edi_walk.proofs.evaluation.Evaluation.answer.Goals as goal

pub returns-in-Ok-clause-exact : goal.returns-in-Ok-clause-exact
returns-in-Ok-clause-exact g c =
    told_answered c.args.number c.args.line c.args.self.now c.put_answer.new.self (map cell_of c.args.cells.now) c.args.words.now
    (take (answer_words c.args.number) (c.make_call-made.result.word ∷ [])) c.requires.words (g.C.Calls.state c.args.calls.now)
    (g.C.Calls.state c.make_call-made.new.calls) c.make_call-made.result.end c.in-Ok.is c.make_call-made.ensures.exact c.put_answer.result
    c.put_answer.ensures.exact c.put_answer.ensures.others c.put_answer.ensures.err c.put_answer.ensures.same c.requires.free

pub returns-in-NoFile-clause-exact : goal.returns-in-NoFile-clause-exact
returns-in-NoFile-clause-exact g c =
    told_no_file c.args.number c.args.line c.args.self.now c.args.self.now (map cell_of c.args.cells.now) c.args.words.now
    (take (answer_words c.args.number) (c.make_call-made.result.word ∷ [])) c.requires.words (g.C.Calls.state c.args.calls.now)
    (g.C.Calls.state c.make_call-made.new.calls) c.make_call-made.result.end c.in-NoFile.is c.make_call-made.ensures.exact refl

pub returns-in-FileLimit-clause-exact : goal.returns-in-FileLimit-clause-exact
returns-in-FileLimit-clause-exact g c =
    told_full c.args.number c.args.line c.args.self.now c.args.self.now (map cell_of c.args.cells.now) c.args.words.now
    (take (answer_words c.args.number) (c.make_call-made.result.word ∷ [])) c.requires.words (g.C.Calls.state c.args.calls.now)
    (g.C.Calls.state c.make_call-made.new.calls) c.make_call-made.result.end c.in-FileLimit.is c.make_call-made.ensures.exact refl

pub returns-in-OutsideFault-clause-exact : goal.returns-in-OutsideFault-clause-exact
returns-in-OutsideFault-clause-exact g c =
    told_torn c.args.number c.args.line c.args.self.now c.args.self.now (map cell_of c.args.cells.now) c.args.words.now
    (take (answer_words c.args.number) (c.make_call-made.result.word ∷ [])) c.requires.words (g.C.Calls.state c.args.calls.now)
    (g.C.Calls.state c.make_call-made.new.calls) c.make_call-made.result.end c.in-OutsideFault.is c.make_call-made.ensures.exact refl

pub returns-in-OutsideFault-clause-blame : goal.returns-in-OutsideFault-clause-blame
returns-in-OutsideFault-clause-blame g c =
    blamed_so c.args.number c.make_call-made.result.end c.in-OutsideFault.is (g.C.Calls.failed c.make_call-made.new.calls) (g.C.Calls.faults c.args.calls.now)
    (g.C.Calls.faults c.make_call-made.new.calls) c.make_call-made.ensures.blame c.make_call-made.ensures.used
