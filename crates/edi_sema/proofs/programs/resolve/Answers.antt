use Rattle.edi_tree.specs.Whole.{program_of}
use Rattle.edi_sema.proofs.Soundness.{sound_if_given, unsound_if_refused}
use Rattle.edi_sema.proofs.programs.resolve.Goals as goal

pub returns-clause-sound : goal.returns-clause-sound
returns-clause-sound c =
    let tree = c.args.tree.now in
    sound_if_given (program_of tree) c.judge_tree.result tree.is_bounded tree.shallow c.judge_tree.ensures.exact

pub returns-clause-refuses : goal.returns-clause-refuses
returns-clause-refuses c = unsound_if_refused (program_of c.args.tree.now) c.judge_tree.result c.judge_tree.ensures.exact
