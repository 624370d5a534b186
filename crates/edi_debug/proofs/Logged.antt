-- A log only grows.
use Rattle.std.proofs.Common.{ℕ, ◌-◌, Bool, true, false, ◌||◌, if◌then◌else◌, List, [], ◌++◌, length, refl, sym, ap, ◌∙◌, append-nil, append_assoc}
use Rattle.std.specs.Prelude.{nat_lt}
use Rattle.edi_debug.specs.Kept.{Grows}
use Rattle.edi_debug.specs.stops.Kept.{Kept, after_line, most_logged}

pub grows_none : (log : Kept) → Grows log log
grows_none log = record { more = []; is = sym (append-nil log.bytes) }

pub grows_line : (line : List ℕ) (log : Kept) → Grows log (after_line line log)
grows_line line log = go (log.full || nat_lt (most_logged - length log.bytes) (length line))
  where
    go : (b : Bool) → Grows log (if b then record log { full = true } else record { bytes = log.bytes ++ line; full = false })
    go true = record { more = []; is = sym (append-nil log.bytes) }
    go false = record { more = line; is = refl }

pub grows_on : (a b c : Kept) → Grows a b → Grows b c → Grows a c
grows_on a b c one two = record {
  more = one.more ++ two.more;
  is = two.is ∙ ap (λ (x : List ℕ). x ++ two.more) one.is ∙ append_assoc a.bytes one.more two.more;
}
