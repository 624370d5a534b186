-- A text is explained: from its first bytes to what is shown of it, and what the statuses of `explain` mean.
use Rattle.std.proofs.Common.{◌≡◌, ◌∙◌, inl, inr, ℕ, Bool, true, false, List, [], take, if◌then◌else◌, Result, Ok, Err, refl, sym, ap, subst}
use Rattle.edi_lex.specs.declared.fault.LexFault.TheVariants as fault
use Rattle.edi_lex.specs.Limit.{most_fetched}
use Rattle.edi_lex.specs.Symbols.{is_too_long, symbols_from, symbols_of}
use Rattle.edi_lex.proofs.Limited.{first_bytes_decide}
use Rattle.edi_texts.specs.declared.kind.RefusalKind.{RefusalKind}
use Rattle.edi_texts.specs.Fetched.{Tells}
use Rattle.edi_texts.proofs.Same.{fetched_bytes_decide}
use Rattle.edi_explain.specs.told.Explained.{IsExplained, IsExplainedBy}
use Rattle.edi_words.specs.Words.{explain}
use Rattle.edi_statuses.specs.declared.status.Status.{Status}
use Rattle.edi_statuses.specs.declared.status.Status.TheVariants as status
use Rattle.edi_statuses.specs.Counts.{Counts, HasCause}
use Rattle.edi_statuses.specs.Outside.{Lent, Outside}
use Rattle.edi_statuses.specs.Commands.{IsNothing, IsShownOf, OnlyShows}
use Rattle.edi_statuses.specs.Means.{MeansOf}
use Rattle.edi_statuses.specs.Steps.{Fetches, goes, stops}
use Rattle.edi_main.specs.steps.OnFiles.{files_only}
use Rattle.edi_main.specs.text.TextCommands.{ExplainsFile, ExplainsText}
use Rattle.edi_main.proofs.steps.Shown.{ShowsOf}

-- ---- the first bytes of a file decide

abbrev front : List ℕ → List ℕ
front text = take most_fetched text

-- a text that is too long has one explanation, whatever its bytes are
explained_by : (text : List ℕ) (kind : RefusalKind) (line : ℕ) (shown : List ℕ) (long : Bool) → is_too_long (front text) ≡ long
    → IsExplained (front text) kind line shown → IsExplained text kind line shown
explained_by text kind line shown false short h =
    subst (λ t. IsExplained t kind line shown) ((first_bytes_decide text).1 short) h
explained_by text kind line shown true long h =
    let cut : symbols_of (front text) ≡ Err fault.TooLong = ap (λ b. if b then Err fault.TooLong else symbols_from (front text) 0 1) long in
    let all : symbols_of text ≡ Err fault.TooLong = sym (first_bytes_decide text).0 ∙ cut in
    subst (λ k. IsExplainedBy text kind line k shown) (sym all) (subst (λ k. IsExplainedBy (front text) kind line k shown) cut h)

-- the first bytes of a text have its explanation
explained : (text : List ℕ) (kind : RefusalKind) (line : ℕ) (shown : List ℕ) → IsExplained (front text) kind line shown → IsExplained text kind line shown
explained text kind line shown h = explained_by text kind line shown (is_too_long (front text)) refl h

shown_of : (text : List ℕ) (s : Status) (bytes : List ℕ) → IsShownOf (front text) s bytes → IsShownOf text s bytes
shown_of text status.Ok bytes h = let tells : Tells (front text) text = fetched_bytes_decide.there text in (h.0, tells.unit h.0 h.1, h.2)
shown_of text (status.Refused kind line) bytes h =
    let tells : Tells (front text) text = fetched_bytes_decide.there text in
    ((h.0.0, tells.fault h.0.0 kind line h.0.1), explained text kind line bytes h.1)
shown_of text s bytes h = absurd h

pub file_explained : {V : Type 0} (ends : V → Status) (items : V → List ℕ) (o : Outside) (name bytes text : List ℕ) (r : Result V Status)
    → Fetches o name (goes text) → bytes ≡ front text → ExplainsText ends items bytes r → ExplainsFile ends items o name r
file_explained ends items o name bytes text (Ok v) fetched first is =
    (text, fetched, shown_of text (ends v) (items v) (subst (λ t. IsShownOf t (ends v) (items v)) first is))
file_explained ends items o name bytes text (Err s) fetched first none = inl none

-- ---- the statuses

-- what is shown of a text comes with a status that tells no fault of an object
pub tells_no_fault : (text : List ℕ) (s : Status) (bytes : List ℕ) → IsShownOf text s bytes → (had has : Counts) → HasCause s had has
tells_no_fault text status.Ok bytes h had has = tt
tells_no_fault text (status.Refused kind line) bytes h had has = tt
tells_no_fault text s bytes h had has = absurd h

module _ (file : List ℕ) where
  step_means : (s : Status) (before after : Outside) (kernel : Lent) → Fetches (files_only before.files) file (stops s)
      → IsNothing before after [] kernel → MeansOf s (explain file) before after [] kernel
  step_means s before after kernel absent nothing =
      subst (λ t. MeansOf t (explain file) before after [] kernel) (sym absent.0) (inl ((refl, absent.1), nothing))

  no_fault : (s : Status) (o : Outside) (had has : Counts) → Fetches o file (stops s) → HasCause s had has
  no_fault s o had has absent = subst (λ t. HasCause t had has) (sym absent.0) tt

  has_shown : (s : Status) (before after : Outside) (kernel : Lent) (text bytes : List ℕ) → Fetches (files_only before.files) file (goes text)
      → IsShownOf text s bytes → OnlyShows bytes before after bytes kernel → MeansOf s (explain file) before after bytes kernel
  has_shown status.Ok before after kernel text bytes went is shows = inr (text, went, (bytes, is, shows))
  has_shown (status.Refused kind line) before after kernel text bytes went is shows = inr (text, went, (bytes, is, shows))
  has_shown s before after kernel text bytes went is shows = absurd is

  -- where it ends with this status, once it has shown what is to be shown
  pub explain_shows : (s : Status) → ShowsOf (explain file) file (λ o. Fetches o file) (λ text bytes. IsShownOf text s bytes) s
  explain_shows s = record {
    stopped = step_means;
    no_memory = λ before after kernel nothing. nothing;
    not_fetched = λ before after kernel there same begun. record { uses = refl; far = inl (same, there, begun) };
    has_shown = has_shown s;
    cut_short = λ before after kernel text bytes front_ went is cut same. record { uses = tt; far = (same, (text, went, (s, bytes, is, cut))) };
    no_fault = no_fault;
  }
