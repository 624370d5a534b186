use Rattle.std.proofs.Common.{[], ap, ◌∙◌}
use Rattle.std.specs.Prelude.{map}
use Rattle.edi_unit.specs.View.{acts, act_of}
use Rattle.edi_walk.specs.Processes.{acts_bare, work_of}
use Rattle.edi_unit.specs.Need.{block_at}
use Rattle.edi_unit.specs.View.{unit_of}
use Rattle.edi_walk.proofs.Working.{puts_calm}
use Rattle.edi_walk.proofs.Pieces.{program_begun, program_calm, program_stays}
use Rattle.edi_walk.proofs.evaluation.Evaluation.program.Goals as goal

pub returns-in-Ok-clause-exact : goal.returns-in-Ok-clause-exact
returns-in-Ok-clause-exact c s =
    program_begun c.args.self.now c.program_entered.new.self s (acts (map act_of c.body.result.now)) c.put_first.result c.args.work.now.items c.put_first.new.work.items
    c.in-Ok.ensures.exact (c.body.ensures.exact ∙ ap (λ u. (block_at (unit_of u.now).blocks (unit_of u.now).program).body) c.in-Ok.ensures.same.unit)
    c.put_first.ensures.exact

pub returns-in-Ok-clause-calm : goal.returns-in-Ok-clause-calm
returns-in-Ok-clause-calm c =
    puts_calm (acts_bare (acts (map act_of c.body.result.now))) c.put_first.result c.args.work.now.items c.put_first.new.work.items
    c.put_first.ensures.exact

pub returns-in-Err-clause-exact : goal.returns-in-Err-clause-exact
returns-in-Err-clause-exact c s =
    program_stays c.args.self.now c.program_entered.new.self s (work_of c.args.work.now.items []) c.args.work.now.items c.in-Err.stop c.in-Err.ensures.exact

pub returns-in-Err-clause-calm : goal.returns-in-Err-clause-calm
returns-in-Err-clause-calm c =
    program_calm c.args.self.now c.program_entered.new.self c.in-Err.stop c.in-Err.ensures.exact
