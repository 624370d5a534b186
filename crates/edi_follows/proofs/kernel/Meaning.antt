-- What the meaning keeps by itself.
use Rattle.std.proofs.Common.{◌≡◌, true, ◌||◌, List, Option, Some, None, refl, ap}
use Rattle.edi_calls.specs.Names.{Name, find}
use Rattle.edi_calls.specs.Ready.{has, stays, joins}
use Rattle.edi_calls.proofs.Tables.{same-refl}
use Rattle.edi_meaning.specs.Step as source
use Rattle.edi_meaning.specs.Step.{Process, Processes, Stepped, went, ended}
use Rattle.edi_meaning.specs.Permitted.{is_running_process}
use Rattle.edi_meaning.proofs.Dangling.{step_coherent}
use Rattle.edi_meaning.proofs.Permitted.{StepSound, step_sound}
use Rattle.edi_follows.specs.places.Lands.{StepsCohere, QueueAfter, StepsQueue}

pub steps_cohere : StepsCohere
steps_cohere unit s p c = step_coherent unit s p c

queue_of : (p : Name) (others : List Name) (x : Stepped) → StepSound p others x → QueueAfter p others x
queue_of p others (ended e system turns) h = tt
queue_of p others (went s stays quiet) h = h.1
queue_of p others (went s (joins ps) quiet) h = h.1

pub steps_queue : StepsQueue
steps_queue unit s p others c queue = go (find s.live p) refl (queue.holds p (ap (λ b. b || has others p) (same-refl p)))
  where
    go : (o : Option Process) → find s.live p ≡ o → is_running_process o ≡ true → QueueAfter p others (source.step unit s p)
    go None e h = absurd (cc)
    go (Some q) e h = queue_of p others (source.step unit s p) (step_sound unit s p q others e c.family.proper.fresh queue)
