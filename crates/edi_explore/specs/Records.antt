-- Words of contracts. The choices that lead to a state, by where each state came from.
use Rattle.std.specs.Prelude.{ℕ, zero, suc, List, [], ◌∷◌, ◌++◌, length, ◌&&◌, ◌==◌, nat_lt, if◌then◌else◌, slice_get, Option, Some, None}
use Rattle.edi_explore.specs.declared.states.Origin.{Origin}
use Rattle.edi_explore.specs.declared.states.States.{States}
use Rattle.edi_explore.specs.States.{slots_of}

-- the index that was taken of so many ready ones goes behind the later ones: a single one is taken without a choice, and zeros at the end
-- of all choices are left out
abbrev pub noted : (ready index : ℕ) → List ℕ → List ℕ
noted ready index later = if nat_lt ready 2 then later else (if (index == 0) && (length later == 0) then later else later ++ index ∷ [])

abbrev pub or_else : Origin → Option Origin → Origin
or_else at None = at
or_else at (Some origin) = origin

-- where a state came from
abbrev pub origin_of : States → Origin → Origin
origin_of s at = or_else at (slice_get s.origins.items at.state)

-- the choices that lead to the process at this index in this state, the last one first, in at most so many steps back
abbrev pub trail : States → ℕ → Origin → List ℕ → List ℕ
trail s zero at later = later
trail s (suc n) at later =
    let more = noted (length (slots_of s at.state)) at.index later in
    if at.state == 0 then more else trail s n (origin_of s at) more
