-- The line of a status behind what a command has shown.
use Rattle.std.proofs.Common.{◌≡◌, ℕ, ◌++◌, List, [], Option, Some, None, refl, sym, ap, subst, ◌∙◌, inl, inr, append_assoc, rules}
use Rattle.std.specs.Prelude.{◌⊎◌, IsSome, Bool}
use Rattle.std.proofs.lemmas.List.{append-nil}
use Rattle.edi_told.specs.Faults.{CountRose}
use Rattle.edi_told.specs.Told.{WhereTold}
use Rattle.edi_words.specs.Words.{Command}
use Rattle.edi_statuses.specs.declared.status.Status.{Status}
use Rattle.edi_statuses.specs.declared.status.Status.TheVariants as status
use Rattle.edi_statuses.specs.Lines.{closing, closing_line, is_due, text_of}
use Rattle.edi_statuses.specs.Showing.{ClosesWith}
use Rattle.edi_statuses.specs.Fronts.{IsFront}
use Rattle.edi_statuses.specs.Counts.{Counts, HasCause, OutputRose}
use Rattle.edi_statuses.specs.EachObject.{LeavesEach, command_does, uses_devices}
use Rattle.edi_statuses.specs.Outside.{Outside, Shows, Lent}
use Rattle.edi_statuses.specs.Means.{EndsWith, IsCutShort, Means}
use Rattle.edi_statuses.specs.Decided.{EndsAll, LinesEnd, with_shown}
use Rattle.edi_statuses.proofs.Terminal.{StillTold}
use Rattle.edi_statuses.proofs.Later.{later}

-- ---- bytes shown one after another

shown_then : (x y z : Option (List ℕ)) (a : List ℕ) (P : List ℕ → Type 0) → WhereTold x y (λ old new. new ≡ old ++ a)
    → WhereTold y z (λ old new. (b : List ℕ) × P b × (new ≡ old ++ b)) → P [] → (b : List ℕ) × P b × WhereTold x z (λ old new. new ≡ old ++ (a ++ b))
shown_then x y None a P f g none = ([], none, tt)
shown_then x None (Some z) a P f g none = absurd g
shown_then None (Some y) (Some z) a P f g none = absurd f
shown_then (Some x) (Some y) (Some z) a P f g none = (g.0, g.1, g.2 ∙ ap (λ t. t ++ g.0) f ∙ append_assoc x a g.0)

pub still_told : (x y : Option (List ℕ)) (P : List ℕ → List ℕ → Type 0) → WhereTold x y P → StillTold x y
still_told x None P h = tt
still_told None (Some y) P h = absurd h
still_told (Some x) (Some y) P h = tt

-- ---- a status and its line

-- any status but that of the output is followed by its line
ends_plain : (s : Status) (c : Option Command) (before after : Outside) (had has : Counts) (shown : List ℕ) (kernel : Lent) → IsSome (text_of s)
    → Means s c before after shown kernel
    → EndsWith s c before after had has (shown ++ closing s shown) kernel
ends_plain status.Ok c before after had has shown kernel some h = absurd (cc)
ends_plain status.OutputFault c before after had has shown kernel some h = absurd (cc)
ends_plain status.Words c before after had has shown kernel some h = (shown, h, refl)
ends_plain status.NoMemory c before after had has shown kernel some h = (shown, h, refl)
ends_plain status.FileFault c before after had has shown kernel some h = (shown, h, refl)
ends_plain status.DriveFault c before after had has shown kernel some h = (shown, h, refl)
ends_plain status.InputFault c before after had has shown kernel some h = (shown, h, refl)
ends_plain (status.Refused kind line) c before after had has shown kernel some h = (shown, h, refl)
ends_plain (status.Stopped cause line) c before after had has shown kernel some h = (shown, h, refl)
ends_plain status.Turns c before after had has shown kernel some h = (shown, h, refl)
ends_plain (status.BadImage broken) c before after had has shown kernel some h = (shown, h, refl)
ends_plain (status.BadCode broken) c before after had has shown kernel some h = (shown, h, refl)
ends_plain (status.BadState address) c before after had has shown kernel some h = (shown, h, refl)
ends_plain status.Absent c before after had has shown kernel some h = (shown, h, refl)
ends_plain (status.BadChoices line) c before after had has shown kernel some h = (shown, h, refl)
ends_plain status.SessionLimit c before after had has shown kernel some h = (shown, h, refl)
ends_plain status.DiskFull c before after had has shown kernel some h = (shown, h, refl)
ends_plain status.FileLarge c before after had has shown kernel some h = (shown, h, refl)
ends_plain status.Standstill c before after had has shown kernel some h = (shown, h, refl)
ends_plain (status.BadPoints line) c before after had has shown kernel some h = (shown, h, refl)
ends_plain (status.Found others) c before after had has shown kernel some h = (shown, h, refl)
ends_plain status.NotAll c before after had has shown kernel some h = (shown, h, refl)
ends_plain status.InputLimit c before after had has shown kernel some h = (shown, h, refl)
ends_plain status.NoEnding c before after had has shown kernel some h = (shown, h, refl)

no_text : (text : List ℕ) → Some text ≡ None → ⊥
no_text text e = cc

-- a status without a line
ends_silent : (s : Status) (c : Option Command) (before after : Outside) (had has : Counts) (shown : List ℕ) (kernel : Lent) → text_of s ≡ None
    → (s ≡ status.OutputFault → OutputRose (command_does uses_devices c) kernel.failed had has) → Means s c before after shown kernel
    → EndsWith s c before after had has shown kernel
ends_silent status.Ok c before after had has shown kernel none rose h = (shown, h, sym (append-nil shown))
ends_silent status.OutputFault c before after had has shown kernel none rose h = inl (h, rose refl)
ends_silent status.Words c before after had has shown kernel none rose h = absurd (no_text _ none)
ends_silent status.NoMemory c before after had has shown kernel none rose h = absurd (no_text _ none)
ends_silent status.FileFault c before after had has shown kernel none rose h = absurd (no_text _ none)
ends_silent status.DriveFault c before after had has shown kernel none rose h = absurd (no_text _ none)
ends_silent status.InputFault c before after had has shown kernel none rose h = absurd (no_text _ none)
ends_silent (status.Refused kind line) c before after had has shown kernel none rose h = absurd (no_text _ none)
ends_silent (status.Stopped cause line) c before after had has shown kernel none rose h = absurd (no_text _ none)
ends_silent status.Turns c before after had has shown kernel none rose h = absurd (no_text _ none)
ends_silent (status.BadImage broken) c before after had has shown kernel none rose h = absurd (no_text _ none)
ends_silent (status.BadCode broken) c before after had has shown kernel none rose h = absurd (no_text _ none)
ends_silent (status.BadState address) c before after had has shown kernel none rose h = absurd (no_text _ none)
ends_silent status.Absent c before after had has shown kernel none rose h = absurd (no_text _ none)
ends_silent (status.BadChoices line) c before after had has shown kernel none rose h = absurd (no_text _ none)
ends_silent status.SessionLimit c before after had has shown kernel none rose h = absurd (no_text _ none)
ends_silent status.DiskFull c before after had has shown kernel none rose h = absurd (no_text _ none)
ends_silent status.FileLarge c before after had has shown kernel none rose h = absurd (no_text _ none)
ends_silent status.Standstill c before after had has shown kernel none rose h = absurd (no_text _ none)
ends_silent (status.BadPoints line) c before after had has shown kernel none rose h = absurd (no_text _ none)
ends_silent (status.Found others) c before after had has shown kernel none rose h = absurd (no_text _ none)
ends_silent status.NotAll c before after had has shown kernel none rose h = absurd (no_text _ none)
ends_silent status.InputLimit c before after had has shown kernel none rose h = absurd (no_text _ none)
ends_silent status.NoEnding c before after had has shown kernel none rose h = absurd (no_text _ none)

pub is_some : {A : Type 0} (x : Option A) → (x ≡ None) ⊎ IsSome x
is_some None = inl refl
is_some (Some a) = inr (search rules)

pub shown_line : (x y z : Option (List ℕ)) (a line : List ℕ) → WhereTold x y (λ old new. new ≡ old ++ a) → WhereTold y z (λ old new. new ≡ old ++ line)
    → WhereTold x z (λ old new. new ≡ old ++ (a ++ line))
shown_line x y None a line f g = tt
shown_line x None (Some z) a line f g = absurd g
shown_line None (Some y) (Some z) a line f g = absurd f
shown_line (Some x) (Some y) (Some z) a line f g = g ∙ ap (λ t. t ++ line) f ∙ append_assoc x a line

shown_same : (x y z : Option (List ℕ)) (a : List ℕ) → z ≡ y → WhereTold x y (λ old new. new ≡ old ++ a) → WhereTold x z (λ old new. new ≡ old ++ a)
shown_same x y z a same f = subst (λ t. WhereTold x t (λ old new. new ≡ old ++ a)) (sym same) f

still_closed : (meant answer : Status) (line : List ℕ) (x y : Option (List ℕ)) → ClosesWith meant answer line x y → StillTold x y
still_closed meant answer line x y (inl h) = still_told x y _ h.1
still_closed meant answer line x y (inr h) = still_told x y _ h.1

line_of : (meant : Status) (due : Bool) (shown : List ℕ) → due ≡ is_due shown → closing_line due meant ≡ closing meant shown
line_of meant due shown is = ap (λ d. closing_line d meant) is

-- a fault of the output has no line
no_line : (meant : Status) → IsSome (text_of meant) → meant ≡ status.OutputFault → ⊥
no_line meant some is = let none : IsSome (text_of status.OutputFault) = subst (λ s. IsSome (text_of s)) is some in absurd (cc)

-- the line was shown, or a first part of it
with_line : (meant answer : Status) (c : Option Command) (before mid : Outside) (had has : Counts) (y : Option (List ℕ)) (kernel : Lent)
    (shown : List ℕ) → HasCause meant had has → ((answer ≡ meant → ⊥) → CountRose had.terminal has.terminal) → IsSome (text_of meant) → Means meant c before (with_shown y mid) shown kernel
    → Shows before mid shown → LeavesEach c before (with_shown y mid) → ClosesWith meant answer (closing meant shown) mid.shown y
    → EndsAll answer c before (with_shown y mid) had has kernel
with_line meant answer c before mid had has y kernel shown cause rose some means shows each (inl h) = (
  shown ++ closing meant shown,
  subst (λ s. EndsWith s c before (with_shown y mid) had has (shown ++ closing meant shown) kernel) (sym h.0)
      (ends_plain meant c before (with_shown y mid) had has shown kernel some means),
  shown_line before.shown mid.shown y shown (closing meant shown) shows h.1,
  each,
)
with_line meant answer c before mid had has y kernel shown cause rose some means shows each (inr h) =
    let front = shown_then before.shown mid.shown y shown (λ f. IsFront f (closing meant shown)) shows h.1 (closing meant shown, refl) in
    let cut : IsCutShort c before (with_shown y mid) had has (shown ++ front.0) kernel = record {
      meant = meant;
      has_line = some;
      terminal = rose (λ same. no_line meant some (sym same ∙ h.0));
      cause = cause;
      shown = shown;
      line = front.0;
      means = means;
      front = front.1;
      all_ = refl;
    } in (
      shown ++ front.0,
      subst (λ s. EndsWith s c before (with_shown y mid) had has (shown ++ front.0) kernel) (sym h.0) (inr cut),
      front.2,
      each,
    )

-- THE LAW
pub lines_end : LinesEnd
lines_end meant answer due c before mid had has y kernel cause blamed came closed silent rose = by_text (is_some (text_of meant)) where
  means : Means meant c before (with_shown y mid) came.shown kernel
  means =
      later before mid y (still_closed meant answer (closing_line due meant) mid.shown y closed) meant c came.shown kernel came.means

  each : LeavesEach c before (with_shown y mid)
  each = record { drive = came.each.drive; input = came.each.input; printer = came.each.printer }

  by_text : (text_of meant ≡ None) ⊎ IsSome (text_of meant) → EndsAll answer c before (with_shown y mid) had has kernel
  by_text (inl none) =
      let same = silent none in (
        came.shown,
        subst (λ s. EndsWith s c before (with_shown y mid) had has came.shown kernel) (sym same.0)
            (ends_silent meant c before (with_shown y mid) had has came.shown kernel none blamed means),
        shown_same before.shown mid.shown y came.shown same.1 came.shows,
        each,
      )
  by_text (inr some) =
      with_line meant answer c before mid had has y kernel came.shown cause rose some means came.shows each
      (subst (λ (l : List ℕ). ClosesWith meant answer l mid.shown y) (line_of meant due came.shown came.due_is) closed)
