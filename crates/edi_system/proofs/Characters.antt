-- A character that is shown or printed.
use Rattle.std.proofs.Common.{◌≡◌, ◌≤◌, ℕ, zero, suc, ◌⊎◌, inl, inr, Bool, true, false, List, [], ◌∷◌, ◌++◌, take, Option, None, refl, ap, subst, ◌∙◌, arith}
use Rattle.std.specs.Prelude.{Result, Ok, Err}
use Rattle.std.proofs.lemmas.List.{append-nil}
use Rattle.edi_calls.specs.State.{State, character}
use Rattle.edi_calls.specs.Calls.{answered, display, print}
use Rattle.edi_calls.specs.Ends.{IsTorn}
use Rattle.edi_system.specs.Ends.{Reaches}
use Rattle.edi_system.specs.Parts.{IsPart, Prints, PrintsMore, Shows, ShowsMore}
use Rattle.edi_system.specs.declared.ends.Stop.{Stop}
use Rattle.edi_system.specs.declared.ends.Stop.TheVariants as stop
use Rattle.edi_system.specs.declared.system.System.{System}

-- the answer to a character that is shown or printed
abbrev pub shown_as : Bool → Result (Option ℕ) Stop
shown_as true = Ok None
shown_as false = Err stop.Fault

-- none or one of one byte was taken
one_taken : (c n : ℕ) → n ≤ 1 → (take n (c ∷ []) ≡ []) ⊎ (take n (c ∷ []) ≡ c ∷ [])
one_taken c zero h = inl refl
one_taken c (suc zero) h = inr refl
one_taken c (suc (suc n)) h = absurd (omega arith)

one_whole : (c n : ℕ) → n ≡ 1 → take n (c ∷ []) ≡ c ∷ []
one_whole c n e = ap (λ k. take k (c ∷ [])) e

-- a text with none or one of one byte more
one_more : (old new : List ℕ) (c n : ℕ) → n ≤ 1 → new ≡ old ++ take n (c ∷ []) → (new ≡ old) ⊎ (new ≡ old ++ c ∷ [])
one_more old new c n h now = go (one_taken c n h) where
  go : (take n (c ∷ []) ≡ []) ⊎ (take n (c ∷ []) ≡ c ∷ []) → (new ≡ old) ⊎ (new ≡ old ++ c ∷ [])
  go (inl e) = inl (now ∙ ap (λ x. old ++ x) e ∙ append-nil old)
  go (inr e) = inr (now ∙ ap (λ x. old ++ x) e)

display_torn : (before after : State) (c n : ℕ) → n ≤ 1 → after ≡ record before { shown = before.shown ++ take n (c ∷ []) }
    → IsTorn before (record before { shown = before.shown ++ c ∷ [] }) after
display_torn before after c n h now = record {
  input = ap (λ (x : State). x.input) now;
  shown = one_more before.shown after.shown c n h (ap (λ (x : State). x.shown) now);
  printed = inl (ap (λ (x : State). x.printed) now);
  slots = inl (ap (λ (x : State). x.slots) now);
  blocks = ap (λ (x : State). x.blocks) now;
}

print_torn : (before after : State) (c n : ℕ) → n ≤ 1 → after ≡ record before { printed = before.printed ++ take n (c ∷ []) }
    → IsTorn before (record before { printed = before.printed ++ c ∷ [] }) after
print_torn before after c n h now = record {
  input = ap (λ (x : State). x.input) now;
  shown = inl (ap (λ (x : State). x.shown) now);
  printed = one_more before.printed after.printed c n h (ap (λ (x : State). x.printed) now);
  slots = inl (ap (λ (x : State). x.slots) now);
  blocks = ap (λ (x : State). x.blocks) now;
}

-- the same character
pub shows_as : {D S T P : Type 0} (shown : T → Option (List ℕ)) (whole : Bool) (c d : ℕ) (before after : System D S T P) → c ≡ d
    → Shows shown whole (c ∷ []) before after → Shows shown whole (d ∷ []) before after
shows_as shown whole c d before after e shows = subst (λ x. Shows shown whole (x ∷ []) before after) e shows

pub prints_as : {D S T P : Type 0} (printed : P → Option (List ℕ)) (whole : Bool) (c d : ℕ) (before after : System D S T P) → c ≡ d
    → Prints printed whole (c ∷ []) before after → Prints printed whole (d ∷ []) before after
prints_as printed whole c d before after e prints = subst (λ x. Prints printed whole (x ∷ []) before after) e prints

-- one character is taken, or the object that was to take it has failed: `put` gives the state with what it has taken
one_put : (put : List ℕ → State) (word c : ℕ) (whole : Bool) (before after : State) (taken : ℕ) → c ≡ character word → IsPart whole (c ∷ []) taken
    → after ≡ put (take taken (c ∷ [])) → ((n : ℕ) → n ≤ 1 → after ≡ put (take n (c ∷ [])) → IsTorn before (put (c ∷ [])) after)
    → Reaches (answered [] (put (character word ∷ []))) (shown_as whole) before after
one_put put word c true before after taken e part now torn = (refl, now ∙ ap put (one_whole c taken (part.all refl) ∙ ap (λ x. x ∷ []) e))
one_put put word c false before after taken e part now torn = subst (λ x. IsTorn before (put (x ∷ [])) after) e (torn taken part.within now)

pub displays : (word c : ℕ) (whole : Bool) (before after : State) → c ≡ character word → ShowsMore whole (c ∷ []) before after
    → Reaches (display word before) (shown_as whole) before after
displays word c whole before after e more =
    one_put (λ x. record before { shown = before.shown ++ x }) word c whole before after more.taken e more.part more.now (display_torn before after c)

pub prints : (word c : ℕ) (whole : Bool) (before after : State) → c ≡ character word → PrintsMore whole (c ∷ []) before after
    → Reaches (print word before) (shown_as whole) before after
prints word c whole before after e more =
    one_put (λ x. record before { printed = before.printed ++ x }) word c whole before after more.taken e more.part more.now (print_torn before after c)
