-- Words of contracts. What the calls that show bytes and the line of a status leave.
use Rattle.std.specs.Prelude.{◌≡◌, ◌⊎◌, ℕ, Bool, List, [], ◌∷◌, ◌++◌, Option}
use Rattle.edi_told.specs.Told.{WhereTold}
use Rattle.edi_statuses.specs.declared.ended.Ended.{Ended}
use Rattle.edi_statuses.specs.declared.status.Status.{Status}
use Rattle.edi_statuses.specs.declared.status.Status.TheVariants as status
use Rattle.edi_statuses.specs.Lines.{is_due}
use Rattle.edi_statuses.specs.Fronts.{IsFront}

-- The line of the status was shown, and the status is answered; or a first part of it was shown, and a fault of the output is
-- answered in its place.
abbrev pub ClosesWith : (meant answer : Status) → (line : List ℕ) → (before after : Option (List ℕ)) → Type 0
ClosesWith meant answer line before after =
    ((answer ≡ meant) × WhereTold before after (λ old new. new ≡ old ++ line))
    ⊎ ((answer ≡ status.OutputFault) × WhereTold before after (λ old new. (front : List ℕ) × IsFront front line × (new ≡ old ++ front)))

-- ---- bytes before the line of a status

-- whether a line feed is due behind these bytes, where it was due before them or not
abbrev pub due_behind : (due : Bool) → List ℕ → Bool
due_behind due [] = due
due_behind due (b ∷ more) = is_due (b ∷ more)

-- all the bytes were shown, or a first part of them where the output has failed
abbrev pub ShowsFar : Status → (front all : List ℕ) → Type 0
ShowsFar status.Ok front all = front ≡ all
ShowsFar status.OutputFault front all = IsFront front all
ShowsFar _ front all = ⊥

-- the terminal has taken them, and a line feed is due behind them, or not
abbrev pub ShowsBytes : (all : List ℕ) → (due : Bool) → Ended → (before after : Option (List ℕ)) → Type 0
ShowsBytes all due ended before after =
    (front : List ℕ) × ShowsFar ended.status front all × WhereTold before after (λ old new. new ≡ old ++ front)
    × (ended.due ≡ due_behind due front)
