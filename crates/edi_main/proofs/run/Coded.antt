-- The code of the demonstration and the line of its size.
use Rattle.std.proofs.Common.{◌≡◌, ◌≤◌, ◌∙◌, ◌++◌, ℕ, Bool, true, true≢false, List, Some, Ok, Err, refl, sym, ap, subst, inl, inr}
use Rattle.edi_utils.proofs.demonstrated.Accepted.{demonstrations_are_accepted}
use Rattle.edi_lex.specs.Symbols.{symbols_of}
use Rattle.edi_target.specs.Check.{CodeParts}
use Rattle.edi_texts.specs.Texts.{IsFault}
use Rattle.edi_timed.specs.on.Timelines as timed
use Rattle.edi_utils.specs.Demo.{demo_line, demo_text}
use Rattle.edi_statuses.specs.declared.status.Status.{Status}
use Rattle.edi_statuses.specs.declared.status.Status.TheVariants as status
use Rattle.edi_statuses.specs.Commands.{count_in, size_line}
use Rattle.edi_statuses.specs.Executions.{Runnable, text}
use Rattle.edi_statuses.specs.Lines.{feed, is_due}
use Rattle.edi_main.specs.run.Demonstrated.{is_ok}
use Rattle.edi_main.specs.run.FileSteps.{TextStep}
use Rattle.edi_main.specs.run.OnAccounts.{IsGiven}

pub demo_coded : (n : ℕ) (own bytes : List ℕ) (parts : CodeParts) (symbols : ℕ) → own ≡ demo_text n → symbols ≡ count_in (symbols_of own)
    → bytes ≡ demo_text n → TextStep bytes (Ok parts)
    → IsGiven (Some own) parts (text (demo_text n)) × (symbols ≡ count_in (symbols_of (demo_text n)))
demo_coded n own bytes parts symbols is counted are reads =
    let h = subst (λ t. TextStep t (Ok parts)) are reads in
    (((h.0, h.1.front.unit_is, h.1.front.can, h.1.code_is), ap timed.text (sym is)), counted ∙ ap (λ t. count_in (symbols_of t)) is)

-- the same bytes are that text too
pub of_text : (given own : List ℕ) → given ≡ own → (parts : CodeParts) (program : Runnable) → IsGiven (Some own) parts program → IsGiven (Some given) parts program
of_text given own same parts program h = (h.0, h.1 ∙ ap timed.text (sym same))

-- its text has no fault, so that memory was wanting where it has no code
pub demo_wants : (n : ℕ) → 1 ≤ n → n ≤ 1000 → (bytes : List ℕ) (s : Status) → bytes ≡ demo_text n → TextStep bytes (Err s) → s ≡ status.NoMemory
demo_wants n some many bytes s are (inl none) = none
demo_wants n some many bytes s are (inr (kind, line, is, refused)) =
    absurd ((demonstrations_are_accepted n some many).no_fault refused.0 kind line (subst (λ t. IsFault t refused.0 kind line) are refused.1))

pub ok_is : (s : Status) → is_ok s ≡ true → s ≡ status.Ok
ok_is status.Ok h = refl
ok_is s h = absurd (true≢false (sym h))

pub line_is : (n symbols turns used : ℕ) (due : Bool) (shown : List ℕ) → due ≡ is_due shown → symbols ≡ count_in (symbols_of (demo_text n)) → turns ≡ used
    → feed due ++ demo_line n symbols turns ≡ size_line n used shown
line_is n symbols turns used due shown d s t = λ i. feed (d i) ++ demo_line n (s i) (t i)
