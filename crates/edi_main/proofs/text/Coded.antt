-- From what the compiler and a fetch answer to the steps of `compile`.
use Rattle.std.proofs.Common.{◌≡◌, inl, inr, ℕ, List, take, Result, Ok, Err, subst, ap, ◌∙◌}
use Rattle.edi_compile.specs.Compiled.{IsCodeOf}
use Rattle.edi_scheme.specs.Laws.{parts_of}
use Rattle.edi_target.specs.Check.{CodeParts}
use Rattle.edi_target.specs.File.{code_bytes}
use Rattle.edi_lex.specs.Limit.{most_fetched}
use Rattle.edi_texts.specs.Texts.{IsRefused}
use Rattle.edi_texts.specs.Answers.{TextAnswers}
use Rattle.edi_texts.specs.Fetched.{Tells}
use Rattle.edi_texts.proofs.Same.{fetched_bytes_decide}
use Rattle.edi_statuses.specs.declared.status.Status.{Status}
use Rattle.edi_statuses.specs.Outside.{Outside}
use Rattle.edi_statuses.specs.Steps.{goes, Fetches}
use Rattle.edi_main.specs.text.TextCommands.{CodesText, CodesFile}

pub coded : {V : Type 0} (items : V → List ℕ) (text : List ℕ) (code : CodeParts) (v : V) → TextAnswers (IsCodeOf text) text (Ok code)
    → items v ≡ code_bytes code → CodesText items text (Ok v)
coded items text code v answers bytes =
    let own : IsCodeOf text code = answers.gives in
    (own.unit, own.unit_is, own.code_for, bytes ∙ ap code_bytes own.code_is)

-- the first bytes of a file decide
pub file_coded : {V : Type 0} (items : V → List ℕ) (o : Outside) (name bytes text : List ℕ) (r : Result V Status) → Fetches o name (goes text)
    → bytes ≡ take most_fetched text → CodesText items bytes r → CodesFile items o name r
file_coded items o name bytes text (Ok v) fetched front codes =
    let so = subst (λ t. CodesText items t (Ok v)) front codes in
    let tells : Tells (take most_fetched text) text = fetched_bytes_decide.there text in
    (text, fetched, (so.0, tells.unit so.0 so.1, tells.code (parts_of so.0) so.2, so.3))
file_coded items o name bytes text (Err s) fetched front (inl none) = inl none
file_coded items o name bytes text (Err s) fetched front (inr refused) =
    let tells : Tells (take most_fetched text) text = fetched_bytes_decide.there text in
    let first = subst (λ t. IsRefused t refused.0 refused.1) front refused.3 in
    inr (inr (inr (text, fetched, inl (refused.0, refused.1, refused.2, (first.0, tells.fault first.0 refused.0 refused.1 first.1)))))
