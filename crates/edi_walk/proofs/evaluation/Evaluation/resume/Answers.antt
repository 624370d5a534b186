use Rattle.std.proofs.Common.{refl}
use Rattle.edi_walk.specs.declared.frames.Given.TheVariants as make
use Rattle.edi_walk.proofs.Arms.{arm, bare_arm}
use Rattle.edi_walk.proofs.Calls.{same_on}
use Rattle.edi_walk.proofs.evaluation.Evaluation.resume.Goals as goal

pub returns-in-Evaluates-clause-exact : goal.returns-in-Evaluates-clause-exact
returns-in-Evaluates-clause-exact c = bare_arm c.args.frame _ c.evaluate.result c.args.self.now c.evaluate.new.self c.in-Evaluates.is c.evaluate.ensures.exact

pub returns-in-Places-clause-exact : goal.returns-in-Places-clause-exact
returns-in-Places-clause-exact c = bare_arm c.args.frame _ c.place.result c.args.self.now c.place.new.self c.in-Places.is c.place.ensures.exact

pub returns-in-Refines-clause-exact : goal.returns-in-Refines-clause-exact
returns-in-Refines-clause-exact c = bare_arm c.args.frame _ c.refine.result c.args.self.now c.refine.new.self c.in-Refines.is c.refine.ensures.exact

pub returns-in-WasTrue-clause-exact : goal.returns-in-WasTrue-clause-exact
returns-in-WasTrue-clause-exact c = bare_arm c.args.frame _ c.was_true.result c.args.self.now c.was_true.new.self c.in-WasTrue.is c.was_true.ensures.exact

pub returns-in-Asks-clause-exact : goal.returns-in-Asks-clause-exact
returns-in-Asks-clause-exact c =
    bare_arm c.args.frame _ c.put.result c.args.self.now c.put.new.self c.in-Asks.is (λ levels system enough. c.put.ensures.exact levels system _ refl)

pub returns-in-Performs-clause-exact : goal.returns-in-Performs-clause-exact
returns-in-Performs-clause-exact c =
    arm c.args.frame _ c.take-given.result make.Nothing c.perform.result c.args.self.now c.take-given.new.self c.perform.new.self c.in-Performs.is c.take-given.ensures.exact
    c.take-given.ensures.given c.perform.ensures.exact

pub returns-in-Tries-clause-exact : goal.returns-in-Tries-clause-exact
returns-in-Tries-clause-exact c =
    arm c.args.frame _ c.take-given-in-Tries.result make.Nothing c.attempt.result c.args.self.now c.take-given-in-Tries.new.self c.attempt.new.self c.in-Tries.is c.take-given-in-Tries.ensures.exact
    c.take-given-in-Tries.ensures.given c.attempt.ensures.exact

pub returns-in-Gathers-clause-exact : goal.returns-in-Gathers-clause-exact
returns-in-Gathers-clause-exact c =
    arm c.args.frame _ c.take-given-in-Gathers.result make.Nothing c.gather.result c.args.self.now c.take-given-in-Gathers.new.self c.gather.new.self c.in-Gathers.is c.take-given-in-Gathers.ensures.exact
    c.take-given-in-Gathers.ensures.given c.gather.ensures.exact

pub returns-in-Joins-clause-exact : goal.returns-in-Joins-clause-exact
returns-in-Joins-clause-exact c =
    arm c.args.frame _ c.take-given-in-Joins.result make.Nothing c.join.result c.args.self.now c.take-given-in-Joins.new.self c.join.new.self c.in-Joins.is c.take-given-in-Joins.ensures.exact
    c.take-given-in-Joins.ensures.given c.join.ensures.exact

pub returns-in-Collects-clause-exact : goal.returns-in-Collects-clause-exact
returns-in-Collects-clause-exact c =
    arm c.args.frame _ c.take-given-in-Collects.result make.Nothing c.collect.result c.args.self.now c.take-given-in-Collects.new.self c.collect.new.self c.in-Collects.is c.take-given-in-Collects.ensures.exact
    c.take-given-in-Collects.ensures.given c.collect.ensures.exact

pub returns-in-Negates-clause-exact : goal.returns-in-Negates-clause-exact
returns-in-Negates-clause-exact c =
    arm c.args.frame _ c.take-given-in-Negates.result make.Nothing c.negate.result c.args.self.now c.take-given-in-Negates.new.self c.negate.new.self c.in-Negates.is c.take-given-in-Negates.ensures.exact
    c.take-given-in-Negates.ensures.given c.negate.ensures.exact

pub returns-in-Signs-clause-exact : goal.returns-in-Signs-clause-exact
returns-in-Signs-clause-exact c =
    arm c.args.frame _ c.take-given-in-Signs.result make.Nothing c.sign.result c.args.self.now c.take-given-in-Signs.new.self c.sign.new.self c.in-Signs.is c.take-given-in-Signs.ensures.exact
    c.take-given-in-Signs.ensures.given c.sign.ensures.exact

pub returns-in-Converts-clause-exact : goal.returns-in-Converts-clause-exact
returns-in-Converts-clause-exact c =
    arm c.args.frame _ c.take-given-in-Converts.result make.Nothing c.convert.result c.args.self.now c.take-given-in-Converts.new.self c.convert.new.self c.in-Converts.is c.take-given-in-Converts.ensures.exact
    c.take-given-in-Converts.ensures.given c.convert.ensures.exact

pub returns-in-LinksOn-clause-exact : goal.returns-in-LinksOn-clause-exact
returns-in-LinksOn-clause-exact c =
    arm c.args.frame _ c.take-given-in-LinksOn.result make.Nothing c.link.result c.args.self.now c.take-given-in-LinksOn.new.self c.link.new.self c.in-LinksOn.is c.take-given-in-LinksOn.ensures.exact
    c.take-given-in-LinksOn.ensures.given c.link.ensures.exact

pub returns-in-Operates-clause-exact : goal.returns-in-Operates-clause-exact
returns-in-Operates-clause-exact c =
    arm c.args.frame _ c.take-given-in-Operates.result make.Nothing c.operate.result c.args.self.now c.take-given-in-Operates.new.self c.operate.new.self c.in-Operates.is c.take-given-in-Operates.ensures.exact
    c.take-given-in-Operates.ensures.given c.operate.ensures.exact

pub returns-in-Indexes-clause-exact : goal.returns-in-Indexes-clause-exact
returns-in-Indexes-clause-exact c =
    arm c.args.frame _ c.take-given-in-Indexes.result make.Nothing c.index.result c.args.self.now c.take-given-in-Indexes.new.self c.index.new.self c.in-Indexes.is c.take-given-in-Indexes.ensures.exact
    c.take-given-in-Indexes.ensures.given c.index.ensures.exact

pub returns-in-Stores-clause-exact : goal.returns-in-Stores-clause-exact
returns-in-Stores-clause-exact c =
    arm c.args.frame _ c.take-given-in-Stores.result make.Nothing c.store.result c.args.self.now c.take-given-in-Stores.new.self c.store.new.self c.in-Stores.is c.take-given-in-Stores.ensures.exact
    c.take-given-in-Stores.ensures.given c.store.ensures.exact

pub returns-in-Tests-clause-exact : goal.returns-in-Tests-clause-exact
returns-in-Tests-clause-exact c =
    arm c.args.frame _ c.take-given-in-Tests.result make.Nothing c.test.result c.args.self.now c.take-given-in-Tests.new.self c.test.new.self c.in-Tests.is c.take-given-in-Tests.ensures.exact
    c.take-given-in-Tests.ensures.given c.test.ensures.exact

pub returns-in-Loads-clause-exact : goal.returns-in-Loads-clause-exact
returns-in-Loads-clause-exact c =
    arm c.args.frame _ c.take-given-in-Loads.result make.Nothing c.load.result c.args.self.now c.take-given-in-Loads.new.self c.load.new.self c.in-Loads.is c.take-given-in-Loads.ensures.exact
    c.take-given-in-Loads.ensures.given c.load.ensures.exact

pub returns-in-Assigns-clause-exact : goal.returns-in-Assigns-clause-exact
returns-in-Assigns-clause-exact c =
    arm c.args.frame _ c.take-given-in-Assigns.result make.Nothing c.assign.result c.args.self.now c.take-given-in-Assigns.new.self c.assign.new.self c.in-Assigns.is c.take-given-in-Assigns.ensures.exact
    c.take-given-in-Assigns.ensures.given c.assign.ensures.exact

pub returns-in-CallsFunction-clause-exact : goal.returns-in-CallsFunction-clause-exact
returns-in-CallsFunction-clause-exact c =
    arm c.args.frame _ c.take-given-in-CallsFunction.result make.Nothing c.call_function.result c.args.self.now c.take-given-in-CallsFunction.new.self c.call_function.new.self c.in-CallsFunction.is c.take-given-in-CallsFunction.ensures.exact
    c.take-given-in-CallsFunction.ensures.given c.call_function.ensures.exact

pub returns-in-CallsProcedure-clause-exact : goal.returns-in-CallsProcedure-clause-exact
returns-in-CallsProcedure-clause-exact c =
    arm c.args.frame _ c.take-given-in-CallsProcedure.result make.Nothing c.call_procedure.result c.args.self.now c.take-given-in-CallsProcedure.new.self c.call_procedure.new.self c.in-CallsProcedure.is c.take-given-in-CallsProcedure.ensures.exact
    c.take-given-in-CallsProcedure.ensures.given c.call_procedure.ensures.exact

pub returns-in-Loops-clause-exact : goal.returns-in-Loops-clause-exact
returns-in-Loops-clause-exact c =
    arm c.args.frame _ c.take-given-in-Loops.result make.Nothing c.repeat.result c.args.self.now c.take-given-in-Loops.new.self c.repeat.new.self c.in-Loops.is c.take-given-in-Loops.ensures.exact
    c.take-given-in-Loops.ensures.given c.repeat.ensures.exact

pub returns-in-EndsFunction-clause-exact : goal.returns-in-EndsFunction-clause-exact
returns-in-EndsFunction-clause-exact c =
    arm c.args.frame _ c.take-given-in-EndsFunction.result make.Nothing c.end_function.result c.args.self.now c.take-given-in-EndsFunction.new.self c.end_function.new.self c.in-EndsFunction.is c.take-given-in-EndsFunction.ensures.exact
    c.take-given-in-EndsFunction.ensures.given c.end_function.ensures.exact

pub returns-in-EndsProcedure-clause-exact : goal.returns-in-EndsProcedure-clause-exact
returns-in-EndsProcedure-clause-exact c =
    arm c.args.frame _ c.take-given-in-EndsProcedure.result make.Nothing c.end_procedure.result c.args.self.now c.take-given-in-EndsProcedure.new.self c.end_procedure.new.self c.in-EndsProcedure.is c.take-given-in-EndsProcedure.ensures.exact
    c.take-given-in-EndsProcedure.ensures.given c.end_procedure.ensures.exact

-- ---- the process stays

pub returns-in-Performs-clause-same : goal.returns-in-Performs-clause-same
returns-in-Performs-clause-same c =
    same_on c.args.self.now c.take-given.new.self c.perform.new.self c.take-given.ensures.same c.perform.ensures.same

pub returns-in-Tries-clause-same : goal.returns-in-Tries-clause-same
returns-in-Tries-clause-same c =
    same_on c.args.self.now c.take-given-in-Tries.new.self c.attempt.new.self c.take-given-in-Tries.ensures.same c.attempt.ensures.same

pub returns-in-Gathers-clause-same : goal.returns-in-Gathers-clause-same
returns-in-Gathers-clause-same c =
    same_on c.args.self.now c.take-given-in-Gathers.new.self c.gather.new.self c.take-given-in-Gathers.ensures.same c.gather.ensures.same

pub returns-in-Joins-clause-same : goal.returns-in-Joins-clause-same
returns-in-Joins-clause-same c =
    same_on c.args.self.now c.take-given-in-Joins.new.self c.join.new.self c.take-given-in-Joins.ensures.same c.join.ensures.same

pub returns-in-Collects-clause-same : goal.returns-in-Collects-clause-same
returns-in-Collects-clause-same c =
    same_on c.args.self.now c.take-given-in-Collects.new.self c.collect.new.self c.take-given-in-Collects.ensures.same c.collect.ensures.same

pub returns-in-Negates-clause-same : goal.returns-in-Negates-clause-same
returns-in-Negates-clause-same c =
    same_on c.args.self.now c.take-given-in-Negates.new.self c.negate.new.self c.take-given-in-Negates.ensures.same c.negate.ensures.same

pub returns-in-Signs-clause-same : goal.returns-in-Signs-clause-same
returns-in-Signs-clause-same c =
    same_on c.args.self.now c.take-given-in-Signs.new.self c.sign.new.self c.take-given-in-Signs.ensures.same c.sign.ensures.same

pub returns-in-Converts-clause-same : goal.returns-in-Converts-clause-same
returns-in-Converts-clause-same c =
    same_on c.args.self.now c.take-given-in-Converts.new.self c.convert.new.self c.take-given-in-Converts.ensures.same c.convert.ensures.same

pub returns-in-LinksOn-clause-same : goal.returns-in-LinksOn-clause-same
returns-in-LinksOn-clause-same c =
    same_on c.args.self.now c.take-given-in-LinksOn.new.self c.link.new.self c.take-given-in-LinksOn.ensures.same c.link.ensures.same

pub returns-in-Operates-clause-same : goal.returns-in-Operates-clause-same
returns-in-Operates-clause-same c =
    same_on c.args.self.now c.take-given-in-Operates.new.self c.operate.new.self c.take-given-in-Operates.ensures.same c.operate.ensures.same

pub returns-in-Indexes-clause-same : goal.returns-in-Indexes-clause-same
returns-in-Indexes-clause-same c =
    same_on c.args.self.now c.take-given-in-Indexes.new.self c.index.new.self c.take-given-in-Indexes.ensures.same c.index.ensures.same

pub returns-in-Stores-clause-same : goal.returns-in-Stores-clause-same
returns-in-Stores-clause-same c =
    same_on c.args.self.now c.take-given-in-Stores.new.self c.store.new.self c.take-given-in-Stores.ensures.same c.store.ensures.same

pub returns-in-Tests-clause-same : goal.returns-in-Tests-clause-same
returns-in-Tests-clause-same c =
    same_on c.args.self.now c.take-given-in-Tests.new.self c.test.new.self c.take-given-in-Tests.ensures.same c.test.ensures.same

pub returns-in-Loads-clause-same : goal.returns-in-Loads-clause-same
returns-in-Loads-clause-same c =
    same_on c.args.self.now c.take-given-in-Loads.new.self c.load.new.self c.take-given-in-Loads.ensures.same c.load.ensures.same

pub returns-in-Assigns-clause-same : goal.returns-in-Assigns-clause-same
returns-in-Assigns-clause-same c =
    same_on c.args.self.now c.take-given-in-Assigns.new.self c.assign.new.self c.take-given-in-Assigns.ensures.same c.assign.ensures.same

pub returns-in-CallsFunction-clause-same : goal.returns-in-CallsFunction-clause-same
returns-in-CallsFunction-clause-same c =
    same_on c.args.self.now c.take-given-in-CallsFunction.new.self c.call_function.new.self c.take-given-in-CallsFunction.ensures.same c.call_function.ensures.same

pub returns-in-CallsProcedure-clause-same : goal.returns-in-CallsProcedure-clause-same
returns-in-CallsProcedure-clause-same c =
    same_on c.args.self.now c.take-given-in-CallsProcedure.new.self c.call_procedure.new.self c.take-given-in-CallsProcedure.ensures.same c.call_procedure.ensures.same

pub returns-in-Loops-clause-same : goal.returns-in-Loops-clause-same
returns-in-Loops-clause-same c =
    same_on c.args.self.now c.take-given-in-Loops.new.self c.repeat.new.self c.take-given-in-Loops.ensures.same c.repeat.ensures.same

pub returns-in-EndsFunction-clause-same : goal.returns-in-EndsFunction-clause-same
returns-in-EndsFunction-clause-same c =
    same_on c.args.self.now c.take-given-in-EndsFunction.new.self c.end_function.new.self c.take-given-in-EndsFunction.ensures.same c.end_function.ensures.same

pub returns-in-EndsProcedure-clause-same : goal.returns-in-EndsProcedure-clause-same
returns-in-EndsProcedure-clause-same c =
    same_on c.args.self.now c.take-given-in-EndsProcedure.new.self c.end_procedure.new.self c.take-given-in-EndsProcedure.ensures.same c.end_procedure.ensures.same
