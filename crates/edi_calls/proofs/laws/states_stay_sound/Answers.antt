use Rattle.edi_calls.proofs.Sound.{states_stay_sound_all}
use Rattle.edi_calls.proofs.laws.states_stay_sound.Goals as goal

pub returns : goal.returns
returns c = states_stay_sound_all
