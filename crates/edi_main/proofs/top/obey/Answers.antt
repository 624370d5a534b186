use Rattle.std.proofs.Common.{None, ap, map}
use Rattle.std.specs.String.{string_bytes}
use Rattle.edi_words.specs.Words.{command_of}
use Rattle.edi_statuses.specs.declared.status.Status.TheVariants as status
use Rattle.edi_statuses.specs.EachObject.{command_does, uses_devices}
use Rattle.edi_statuses.specs.Outside.{kernel_of}
use Rattle.edi_statuses.proofs.EachLeft.{none_touched}
use Rattle.edi_statuses.proofs.Silent.{refused, wants}
use Rattle.edi_main.proofs.Obeyed.{came_else, never_output, never_so, counts_of_none, counts_unread, no_words, none_unmounted}
use Rattle.edi_main.proofs.top.obey.Goals as goal

pub returns-in-Ok-None-clause-came : goal.returns-in-Ok-None-clause-came
returns-in-Ok-None-clause-came g c =
    let none = no_words c.in-Ok-None.field-0 (command_of (map string_bytes c.args.words.now)) c.in-Ok-None.ensures.exact c.in-Ok-None.field-0-is in
    came_else (command_of (map string_bytes c.args.words.now)) c.silent.result.status c.silent.result.due _ _ _ _ _ _ (ap (command_does uses_devices) none)
    (never_so status.Words c.silent.result.status _ _ c.silent.ensures.status (λ never. cc))
    (refused c.silent.result.status c.silent.result.due _ _ (kernel_of c.args.kernel.now.store c.args.kernel.now.used) c.silent.ensures.status c.silent.ensures.due none)

pub returns-in-Err-clause-came : goal.returns-in-Err-clause-came
returns-in-Err-clause-came g c = (
  None,
  never_output status.NoMemory c.silent-in-Err.result.status _ c.silent-in-Err.ensures.status (λ never. cc),
  wants c.silent-in-Err.result.status c.silent-in-Err.result.due _ _ (kernel_of c.args.kernel.now.store c.args.kernel.now.used) c.silent-in-Err.ensures.status c.silent-in-Err.ensures.due,
)

pub returns-in-Ok-None-clause-size : goal.returns-in-Ok-None-clause-size
returns-in-Ok-None-clause-size g c =
    counts_of_none _ c.silent.result.status _ _ (no_words c.in-Ok-None.field-0 _ c.in-Ok-None.ensures.exact c.in-Ok-None.field-0-is)

pub returns-in-Err-clause-size : goal.returns-in-Err-clause-size
returns-in-Err-clause-size g c = counts_unread _ c.silent-in-Err.result.status _ _ c.silent-in-Err.ensures.status

pub returns-in-Ok-None-clause-untouched : goal.returns-in-Ok-None-clause-untouched
returns-in-Ok-None-clause-untouched g c = none_touched _ _ _

pub returns-in-Err-clause-untouched : goal.returns-in-Err-clause-untouched
returns-in-Err-clause-untouched g c = none_touched _ _ _

pub returns-in-Ok-None-clause-unmounted : goal.returns-in-Ok-None-clause-unmounted
returns-in-Ok-None-clause-unmounted g c = none_unmounted _ _ _

pub returns-in-Err-clause-unmounted : goal.returns-in-Err-clause-unmounted
returns-in-Err-clause-unmounted g c = none_unmounted _ _ _
