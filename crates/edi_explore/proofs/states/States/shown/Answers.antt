-- The place of a state is there.
use Rattle.edi_explore.proofs.states.States.shown.Goals as goal

pub index-place-requires : goal.index-place-requires
index-place-requires c = (c.requires.states.states c.args.state c.index-key.result.now c.index-key.ensures).place
