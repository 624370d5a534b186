-- Draws, one after another.
use Rattle.std.proofs.Common.{◌≡◌, ℕ, zero, suc, ◌+◌, ◌-◌, ◌*◌, ◌%◌, ◌^◌, ◌<◌, ◌≤◌, min, inl, inr, sym, subst, List, [], ◌∷◌, ◌++◌, length, refl, ap, ◌∙◌}
use Rattle.std.proofs.Common.{arith, add-one, length-append}
use Rattle.edi_calls.specs.Choice.{Choices, choice, first_choices, generated}
use Rattle.std.proofs.lemmas.Bool.{cases_lt}
use Rattle.edi_trace.specs.declared.choices.Source.{Source}
use Rattle.edi_trace.specs.declared.choices.Source.TheVariants as source
use Rattle.edi_trace.specs.Kept.{IsAt}

-- one more step of the generator
pub generated_more : (seed n : ℕ) → generated seed (n + 1) ≡ (25173 * generated seed n + 13849) % 65536
generated_more seed n = ap (generated seed) (add-one n)

-- one more choice
pub first_choices_more : (source : Choices) (n : ℕ) → first_choices source (n + 1) ≡ first_choices source n ++ choice source (n + 1) ∷ []
first_choices_more source n =
    ap (first_choices source) (add-one n) ∙ ap (λ m. first_choices source n ++ choice source m ∷ []) (omega arith)

pub length-first_choices : (source : Choices) (n : ℕ) → length (first_choices source n) ≡ n
length-first_choices source zero = refl
length-first_choices source (suc n) =
    length-append (first_choices source n) (choice source (suc n) ∷ []) ∙ omega (arith, length-first_choices source n)

-- the count of draws and the choices that are kept, after one more draw
pub used_more : (source : Choices) (most last drawn after : ℕ) (old new : List ℕ) (value : ℕ) → most < last
    → old ≡ first_choices source (min drawn most) → after ≡ min (drawn + 1) last
    → (drawn < last → value ≡ choice source (drawn + 1))
    → (length old < most → new ≡ old ++ value ∷ []) → (most ≤ length old → new ≡ old)
    → new ≡ first_choices source (min after most)
used_more source most last drawn after old new value small is later exact more full =
    elim (cases_lt drawn most) [
      | inl below ↦
          let now : min drawn most ≡ drawn = omega arith in
          let next : min after most ≡ drawn + 1 = omega arith in
          let so : old ≡ first_choices source drawn = is ∙ ap (first_choices source) now in
          let long : length old ≡ drawn = ap length so ∙ length-first_choices source drawn in
          more (omega arith) ∙ ap (λ xs. xs ++ value ∷ []) so ∙ ap (λ v. first_choices source drawn ++ v ∷ []) (exact (omega arith))
          ∙ sym (first_choices_more source drawn) ∙ ap (first_choices source) (sym next)
      | inr above ↦
          let now : min drawn most ≡ most = omega arith in
          let next : min after most ≡ most = omega arith in
          let so : old ≡ first_choices source most = is ∙ ap (first_choices source) now in
          let long : length old ≡ most = ap length so ∙ length-first_choices source most in
          full (omega arith) ∙ so ∙ ap (first_choices source) (sym next)
    ]

-- nothing is said of a generator where the count stands still
is_at_last : (s : Source) (drawn : ℕ) → 2 ^ 64 - 1 ≤ drawn → IsAt s drawn
is_at_last (source.List values) drawn h = tt
is_at_last (source.Seed seed state) drawn h = λ below. absurd (omega arith)

pub at_more : (old new : Source) (drawn after : ℕ) → after ≡ min (drawn + 1) (2 ^ 64 - 1)
    → (drawn < 2 ^ 64 - 1 → IsAt old drawn → IsAt new (drawn + 1)) → IsAt old drawn → IsAt new after
at_more old new drawn after later moved at =
    elim (cases_lt drawn (2 ^ 64 - 1)) [
      | inl below ↦
          let next : drawn + 1 ≡ after = omega arith in
          subst (λ n. IsAt new n) next (moved below at)
      | inr above ↦ is_at_last new after (omega arith)
    ]
