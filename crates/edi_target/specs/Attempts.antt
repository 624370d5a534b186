-- Definition. An attempt of the machine that has failed: the turn of a `when` of which no condition was true.
use Rattle.std.specs.Prelude.{ℕ, Bool, true, false, length, Option, Some, None}
use Rattle.edi_calls.specs.Names.{Name}
use Rattle.edi_target.specs.Op.{Instruction}
use Rattle.edi_target.specs.Effect.{again}
use Rattle.edi_target.specs.Mach.{Answer, turned, local_step, running_of, is_first, Activity, Machine}

-- the turn of an attempt of which no condition was true
abbrev pub is_failed_turn : Answer → Bool
is_failed_turn (turned (again marks) r) = true
is_failed_turn answer = false

-- whether the next instruction of a process is the end of an attempt that has failed
abbrev pub attempt_fails : (ℕ → Option (Instruction × ℕ)) → Machine → Name → Option Activity → Bool
attempt_fails fetch m p None = false
attempt_fails fetch m p (Some a) = is_failed_turn (local_step fetch (length m.activities) (is_first p) (running_of m a))
