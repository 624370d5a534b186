-- The bytes that a run has shown, and whether a line feed is due behind them.
use Rattle.std.proofs.Common.{◌≡◌, ◌∙◌, ◌-◌, ◌==◌, ℕ, Bool, true, false, List, [], ◌∷◌, ◌++◌, length, drop, Option, Some, None}
use Rattle.std.proofs.Common.{refl, sym, ap}
use Rattle.std.specs.Prelude.{slice_get, not}
use Rattle.std.specs.Option.{option_map_or}
use Rattle.std.proofs.lemmas.List.{take-append-drop}
use Rattle.edi_told.specs.Told.{WhereTold}
use Rattle.edi_system.specs.Parts.{due_after}
use Rattle.edi_system.specs.Growing.{Grows}
use Rattle.edi_statuses.specs.Lines.{is_due, is_due_behind}
use Rattle.edi_statuses.proofs.Due.{last_at, turned}

-- ---- the last byte

behind_it : (last : Option ℕ) → is_due_behind last ≡ option_map_or (λ c. not (c == 10)) last false
behind_it None = refl
behind_it (Some b) = turned (b == 10)

pub due_is : (bytes : List ℕ) → due_after false bytes ≡ is_due bytes
due_is [] = refl
due_is (b ∷ more) = sym (ap is_due_behind (last_at b more) ∙ behind_it (slice_get (b ∷ more) (length (b ∷ more) - 1)))

-- ---- the bytes

-- What a terminal has taken more. Where it tells nothing, any bytes will do behind which a line feed is due as it is.
abbrev pub any_shown : (due : Bool) → List ℕ
any_shown true = 97 ∷ []
any_shown false = []

abbrev pub shown_since : (due : Bool) → (before after : Option (List ℕ)) → List ℕ
shown_since due before None = any_shown due
shown_since due None (Some now) = any_shown due
shown_since due (Some taken) (Some now) = drop (length taken) now

pub shows_so : (due : Bool) (before after : Option (List ℕ)) → WhereTold before after Grows
    → WhereTold before after (λ old new. new ≡ old ++ shown_since due before after)
shows_so due before None grows = tt
shows_so due None (Some now) grows = grows
shows_so due (Some taken) (Some now) grows =
    sym (ap (λ front. front ++ drop (length taken) now) (sym grows) ∙ take-append-drop (length taken) now)

pub due_so : (due : Bool) (before after : Option (List ℕ)) → WhereTold before after Grows
    → WhereTold before after (λ taken now. due ≡ due_after false (drop (length taken) now)) → due ≡ is_due (shown_since due before after)
due_so true before None grows is = refl
due_so false before None grows is = refl
due_so due None (Some now) grows is = absurd grows
due_so due (Some taken) (Some now) grows is = is ∙ due_is (drop (length taken) now)
