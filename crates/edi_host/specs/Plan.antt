-- Words of contracts. Which calls on a form in memory fail.
use Rattle.std.specs.Prelude.{ℕ, ◌+◌, ◌-◌, ◌^◌, Bool, List, ◌==◌, nat_lt, if◌then◌else◌}
use Rattle.std.specs.List.{list_any}

-- the numbers of the calls that are to fail, how many calls there were, and how many of them were faults
pub record Plan : Type 0 where
  pub failing : List ℕ
  pub calls : ℕ
  pub faults : ℕ

-- one more, but a count of 64 bits stands still at its last value
abbrev pub counted : ℕ → ℕ
counted n = if nat_lt n (2 ^ 64 - 1) then n + 1 else n

-- a count of faults after a call
abbrev pub faults_after : Bool → ℕ → ℕ
faults_after fault faults = if fault then counted faults else faults

-- before the first call
abbrev pub planned : List ℕ → Plan
planned failing = record { failing = failing; calls = 0; faults = 0 }

-- the next call is one of those that are to fail; the first call has the number 1
abbrev pub strikes : Plan → Bool
strikes plan = list_any (λ number. number == counted plan.calls) plan.failing

-- after one more call, and one more fault where it was one
abbrev pub after_call : Bool → Plan → Plan
after_call fault plan = record plan { calls = counted plan.calls; faults = faults_after fault plan.faults }
