-- A run of the kernel is one of the machine's definition.
use Rattle.std.proofs.Common.{subst, sym, ap, ◌∙◌}
use Rattle.edi_calls.specs.Outcome.{outcome_of}
use Rattle.edi_kernel.specs.Runs.{EndsAfter, RunsAreTheMachines}

pub runs_are_the_machines : RunsAreTheMachines
runs_are_the_machines code system bound old new e words used now none r = (
  r.end,
  r.machine,
  new.drawn,
  subst (λ d. EndsAfter code system bound old.source d r.end r.machine new.drawn) none r.is,
  ap (λ s. outcome_of s r.end used new.drawn) (sym r.system_is) ∙ ap (λ n. outcome_of r.machine.system r.end n new.drawn) (sym r.turns),
)
