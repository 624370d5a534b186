-- An ending of the kernel is that of the definition which it ends as.
use Rattle.std.proofs.Common.{◌≡◌, Some, refl, ap}
use Rattle.edi_calls.specs.Outcome as outcome
use Rattle.edi_kernel.specs.declared.ends.Ending.{Ending}
use Rattle.edi_kernel.specs.declared.ends.Ending.TheVariants as ending
use Rattle.edi_kernel.specs.Kernel.{EndsAs, ending_of}

pub ends_as : (x : outcome.Ending) (e : Ending) → EndsAs x e → ending_of e ≡ Some x
ends_as outcome.done ending.Done h = refl
ends_as outcome.done e h = absurd h
ends_as (outcome.halted line) (ending.Halted at) h = ap (λ n. Some (outcome.halted n)) h
ends_as (outcome.halted line) e h = absurd h
ends_as (outcome.failed cause line) (ending.Failed c at) h = λ i. Some (outcome.failed (h.0 i) (h.1 i))
ends_as (outcome.failed cause line) e h = absurd h
ends_as outcome.turns ending.Turns h = refl
ends_as outcome.turns e h = absurd h
ends_as outcome.standstill ending.Standstill h = refl
ends_as outcome.standstill e h = absurd h
ends_as (outcome.bad address) (ending.Bad at) h = ap (λ n. Some (outcome.bad n)) h
ends_as (outcome.bad address) e h = absurd h
