-- The call of a program that an object outside has failed, in the course of a session.
use Rattle.std.proofs.Common.{◌≡◌, ◌⊎◌, ◌<◌, ℕ, true, false, List, [], ◌∷◌, ◌++◌, length, Option, refl, sym, ap, subst, ◌∙◌, inl, inr, arith, append_assoc}
use Rattle.std.proofs.lemmas.Bool.{cases_lt, eqb-true}
use Rattle.edi_calls.specs.declared.ends.Outside.{Outside}
use Rattle.edi_calls.specs.declared.ends.Outside.TheVariants as outside
use Rattle.edi_calls.specs.Asked.{Asks, IsFollowed, may_have_done}
use Rattle.edi_calls.specs.Calls.{CallResult, accept_from, answered, no_file, file_limit, call}
use Rattle.edi_calls.specs.Choice.{Choices}
use Rattle.edi_calls.specs.Outcome.{Ending}
use Rattle.edi_calls.specs.State.{State, moments_of, newest}
use Rattle.edi_system.specs.AsCalls.{LeavesByte}
use Rattle.edi_target.specs.Mach.{Machine}
use Rattle.edi_target.specs.Op.{Instruction}
use Rattle.edi_target.specs.Moments.{history_from_start, EndsThrough}
use Rattle.edi_target.proofs.Histories.{past_grows, same_past}
use Rattle.edi_session.specs.Course.{IsFollowedBy, MayFail, PrintsByte, ShowsByte, TakesByte}
use Rattle.edi_session.proofs.Faults.{both_there, drive_fails, input_fails, printer_fails, terminal_fails}

-- ---- a call that shows, prints or takes does so with one byte

abbrev left_by : State → CallResult → State
left_by other (answered words state) = state
left_by other no_file = other
left_by other file_limit = other

-- what the call of this number leaves
left_so : (number n : ℕ) (arguments answer : List ℕ) (before next : State) → number ≡ n → call number arguments before ≡ answered answer next
    → left_by before (call n arguments before) ≡ next
left_so number n arguments answer before next same is = ap (λ k. left_by before (call k arguments before)) (sym same) ∙ ap (left_by before) is

shows_byte : (before next : State) → Asks outside.Terminal before next → ShowsByte before next
shows_byte before next a = (_, sym (left_so a.number 2 a.arguments a.answer before next (eqb-true a.number 2 a.uses_it) a.is))

prints_byte : (before next : State) → Asks outside.Printer before next → PrintsByte before next
prints_byte before next a = (_, sym (left_so a.number 3 a.arguments a.answer before next (eqb-true a.number 3 a.uses_it) a.is))

-- one that takes finds a byte, or the input has ended
taken_from : (before next : State) (input : List ℕ) → before.input ≡ input → left_by before (accept_from input before) ≡ next
    → TakesByte before next ⊎ ((next ≡ before) × (before.input ≡ []))
taken_from before next [] has is = inr (sym is, has)
taken_from before next (byte ∷ left) has is =
    let same : left ≡ next.input = ap (λ (x : State). x.input) is in
    inl (byte, has ∙ ap (λ (i : List ℕ). byte ∷ i) same, sym is ∙ ap (λ (i : List ℕ). record before { input = i }) same)

takes_byte : (before next : State) → Asks outside.Input before next → TakesByte before next ⊎ ((next ≡ before) × (before.input ≡ []))
takes_byte before next a =
    taken_from before next before.input refl (left_so a.number 1 a.arguments a.answer before next (eqb-true a.number 1 a.uses_it) a.is)

-- the object that a call uses may fail before the call, or behind it, but the input only before it, where a byte is left
pub at_call : (failed : Outside) (states : List State) (before next : State) → IsFollowedBy states before next → Asks failed before next
    → LeavesByte failed before.input → MayFail failed states before × (may_have_done failed ≡ true → MayFail failed states next)
at_call outside.Terminal states before next follows asks left =
    let puts = shows_byte before next asks in (
      terminal_fails states before (record { before = before; next = next; follows = follows; puts = puts; at = inl refl }),
      λ done. terminal_fails states next (record { before = before; next = next; follows = follows; puts = puts; at = inr refl }),
    )
at_call outside.Printer states before next follows asks left =
    let puts = prints_byte before next asks in (
      printer_fails states before (record { before = before; next = next; follows = follows; puts = puts; at = inl refl }),
      λ done. printer_fails states next (record { before = before; next = next; follows = follows; puts = puts; at = inr refl }),
    )
at_call outside.Drive states before next follows asks left =
    let both = both_there states before next follows in (drive_fails states before both.0, λ done. drive_fails states next both.1)
at_call outside.Input states before next follows asks left = (
  elim (takes_byte before next asks) [
    | inl takes ↦ input_fails states before next follows takes
    | inr ended ↦ absurd (let none : 0 < 0 = subst (λ (i : List ℕ). 0 < length i) ended.1 left in omega (arith, none))
  ],
  λ done. absurd (let wrong : false ≡ true = done in cc),
)

-- ---- what follows one another in the past of a run

-- in a longer past
followed_later : (system : State) (news past : List State) (before next : State) → IsFollowed system past before next
    → IsFollowed system (news ++ past) before next
followed_later system news past before next h = record {
  later = news ++ h.later;
  earlier = h.earlier;
  is = ap (λ y. news ++ y) h.is ∙ sym (append_assoc news h.later (next ∷ h.earlier));
  last = h.last;
}

module _ (fetched : ℕ → Option (Instruction × ℕ)) (entry : ℕ) (calls : List ℕ) (system : State) (bound : ℕ) (choices : Choices) (drawn : ℕ) where
  -- what is followed after some instructions is followed in the past of the whole run
  pub followed_in_whole : (ending : Ending) (m : Machine) (drew : ℕ) (past : List State) (before next : State) (n : ℕ)
      → EndsThrough fetched entry calls system bound choices drawn ending m drew past
      → IsFollowed system (history_from_start fetched entry calls system bound choices drawn n) before next → IsFollowed system past before next
  followed_in_whole ending m drew past before next n e h = elim (cases_lt e.0 n) [
    | inl l ↦ subst (λ y. IsFollowed system y before next)
        (sym (same_past fetched entry calls system bound choices drawn e.0 n ending m drew (omega arith) e.1) ∙ e.2) h
    | inr l ↦
        let g : (news : List State) × (history_from_start fetched entry calls system bound choices drawn e.0 ≡ news
        ++ history_from_start fetched entry calls system bound choices drawn n) = past_grows fetched entry calls system bound choices drawn n e.0 l in
        subst (λ y. IsFollowed system y before next) (sym g.1 ∙ e.2)
        (followed_later system g.0 (history_from_start fetched entry calls system bound choices drawn n) before next h)
  ]

-- the first state is behind the past
behind_past : (first : State) (earlier : List State) (before : State) → newest first earlier ≡ before
    → (rest : List State) × (earlier ++ first ∷ [] ≡ before ∷ rest)
behind_past first [] before is = ([], ap (λ s. s ∷ []) is)
behind_past first (s ∷ earlier) before is = (earlier ++ first ∷ [], ap (λ t. t ∷ (earlier ++ first ∷ [])) is)

-- among all states of the run
pub in_moments : (first : State) (past : List State) (before next : State) → IsFollowed first past before next
    → IsFollowedBy (moments_of first past) before next
in_moments first past before next h =
    let b = behind_past first h.earlier before h.last in
    record {
      later = h.later;
      earlier = b.0;
      is = ap (λ y. y ++ first ∷ []) h.is ∙ append_assoc h.later (next ∷ h.earlier) (first ∷ [])
          ∙ ap (λ y. h.later ++ next ∷ y) b.1;
    }
