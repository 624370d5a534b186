-- The rows of an editing, from what the calls on the text and on the object say.
use Rattle.std.proofs.Common.{◌≡◌, ℕ, ◌+◌, ◌<◌, Bool, true, false, List, [], ◌∷◌, ◌++◌, length, length-append, Option, Some, None, Result, Ok, Err, refl}
use Rattle.std.proofs.Common.{◌⊎◌, sym, ap, subst, ◌∙◌, arith, inl, inr}
use Rattle.std.specs.Prelude.{codes}
use Rattle.edi_calls.specs.declared.ends.Outside.{Outside}
use Rattle.edi_calls.specs.declared.kinds.FileKind.TheVariants as file_kind
use Rattle.edi_calls.specs.State.{File, State, free}
use Rattle.edi_catalog.specs.Refusing.{no_room}
use Rattle.edi_catalog.specs.SlotsStored.{slots_stored}
use Rattle.edi_catalog.specs.declared.ends.CatEnd.{CatEnd}
use Rattle.edi_catalog.specs.declared.ends.CatEnd.TheVariants as cat
use Rattle.edi_edit.specs.Editing.{Editing, undone}
use Rattle.edi_edit.specs.Undoing.{EndsBy}
use Rattle.edi_edit.specs.Undoing as edit
use Rattle.edi_edit.specs.declared.EditEnd.{EditEnd}
use Rattle.edi_edit.specs.declared.EditEnd.TheVariants as edit_end
use Rattle.edi_edit.specs.Lines.{bytes_of_lines, size_of_lines}
use Rattle.edi_session.proofs.Later.{shows_more, shows_on}
use Rattle.edi_session.specs.Course.{MayFail, states_of}
use Rattle.edi_session.specs.Files.{answered, why_line}
use Rattle.edi_session.specs.Session.{AfterLine, ChangesLine, TakesBack, Writes, edit_refusal, edits_on, leaves, says_no_memory, written_back}
use Rattle.edi_session.specs.Shell.{Shell, says, shown_by, state_in}
use Rattle.edi_session.specs.declared.end.SessionEnd.{SessionEnd}
use Rattle.edi_shell_io.specs.calls.Standing.{Answers, At, IsFault, IsLeft, StandsIn, with_slots}
use Rattle.edi_shell_io.proofs.calls.Faulted.{of_fault}
use Rattle.edi_shell.specs.edit.Rows.{EditingBreaks, Edits, IsBehindLine, SaysOn, EditingStops}
use Rattle.std.proofs.lemmas.List.Sums.{sum_by-cons}

pub length_of : (lines : List (List ℕ)) → length (bytes_of_lines lines) ≡ size_of_lines lines
length_of [] = refl
length_of (line ∷ lines) =
    let one = length-append line (10 ∷ bytes_of_lines lines) in
    let rest = length_of lines in
    let sum = sum_by-cons (λ (line : List ℕ). length line + 1) line lines in
    omega (arith, one, rest, sum)

-- there is something to undo
undo_row : (earlier : List (List (List ℕ))) (before : Editing) (title : List ℕ) (s : Shell) (next : AfterLine) → 0 < length earlier
    → (next ≡ edits_on title (undone before) s) ⊎ (next ≡ edits_on title before (says_no_memory s)) → TakesBack title earlier before s next
undo_row [] before title s next some row = absurd (omega (arith, some))
undo_row (text ∷ texts) before title s next some row = row

-- what is shown takes no byte
follows_itself : (s : Shell) → IsBehindLine s s.taken s
follows_itself s = record { taken_is = refl; drawn_is = refl; before_is = refl }

module _ {C : Type 0} (at : C → State → ℕ → Type 0) (stands : C → Outside → State → Type 0) where
  -- an object failed, and so the session stops
  pub broke : (Row : AfterLine → Type 0) (e : SessionEnd) (s : Shell) (c : C) → IsFault e → EditingBreaks at stands Row c → EditingStops at stands e Row s c
  broke Row e s c fault b = of_fault (λ x. EditingStops at stands x Row s c) b b b b e fault

  -- the mode of a shell tells nothing of where an object stands
  breaks : (Row : AfterLine → Type 0) (title : List ℕ) (e : Editing) (t : Shell) (c : C) → Row (edits_on title e t) → StandsIn stands t c
      → EditingBreaks at stands Row c
  breaks Row title e t c row there =
      record { next = edits_on title e t; row = row; in_ = record { failed = there.failed; moment = there.moment; there = there.there; is = there.is } }

  -- ---- `l N`

  -- a line is shown in two parts
  pub first_broke : (line : List ℕ) (s : Shell) (c : C) → StandsIn stands (shown_by line s) c → StandsIn stands (says line s) c
  first_broke line s c there = record {
    failed = there.failed;
    moment = there.moment;
    there = subst (λ d. MayFail there.failed (states_of d) there.moment) (sym (shows_more line (10 ∷ []) s.system))
        (shows_on (10 ∷ []) (shown_by line s).system there.failed there.moment there.there);
    is = there.is;
  }

  pub both_shown : (line : List ℕ) (s : Shell) (result : Result Bool SessionEnd) (c : C) → SaysOn at stands result (10 ∷ []) (shown_by line s) c
      → SaysOn at stands result (line ++ 10 ∷ []) s c
  both_shown line s result c there = go result there where
    same : shown_by (10 ∷ []) (shown_by line s) ≡ shown_by (line ++ 10 ∷ []) s
    same = ap (λ d. record s { system = d }) (sym (shows_more line (10 ∷ []) s.system))

    go : (r : Result Bool SessionEnd) → SaysOn at stands r (10 ∷ []) (shown_by line s) c → SaysOn at stands r (line ++ 10 ∷ []) s c
    go (Ok true) h = h
    go (Ok false) h = subst (λ t. At at c t) same h
    go (Err fault) h = subst (λ t. StandsIn stands t c) same h

  -- ---- `w`

  abbrev Refusal : (title : List ℕ) → (size : ℕ) → Shell → Option CatEnd
  Refusal title size s = no_room title size (free (state_in s)) (state_in s).slots

  abbrev Wanted : (title bytes : List ℕ) → Shell → List (Option File)
  Wanted title bytes s = slots_stored title file_kind.Text bytes (state_in s).slots

  -- the row of a store that is not refused
  stored_row : (title : List ℕ) (e : Editing) (s : Shell) → Refusal title (length (bytes_of_lines e.lines)) s ≡ None
      → Writes title e s (leaves (with_slots (Wanted title (bytes_of_lines e.lines) s) s))
  stored_row title e s none =
      inl (ap (λ o. leaves (answered_by o)) (sym none) ∙ ap (λ o. written_back o title e s) (sym none)
      ∙ ap (λ n. written_back (Refusal title n s) title e s) (length_of e.lines)) where
        answered_by : Option CatEnd → Shell
        answered_by o = answered o title title (Wanted title (bytes_of_lines e.lines) s) s

  pub stored : (title bytes : List ℕ) (e : Editing) (s : Shell) (c : C) → bytes ≡ bytes_of_lines e.lines
      → Answers at stands (Ok tt) (Refusal title (length bytes) s) (Wanted title bytes s) s c
      → Edits at stands (Ok true) (Writes title e s) s s.taken title e c
  stored title bytes e s c is so =
      let here = subst (λ b. Answers at stands (Ok tt) (Refusal title (length b) s) (Wanted title b s) s c) is so in (
        with_slots (Wanted title (bytes_of_lines e.lines) s) s,
        stored_row title e s here.0,
        record { taken_is = refl; drawn_is = refl; before_is = refl },
        here.1,
      )

  pub store_broke : (title bytes : List ℕ) (e : Editing) (s : Shell) (c : C) → bytes ≡ bytes_of_lines e.lines
      → Answers at stands (Err cat.Fault) (Refusal title (length bytes) s) (Wanted title bytes s) s c → EditingBreaks at stands (Writes title e s) c
  store_broke title bytes e s c is so =
      let here = subst (λ b. Answers at stands (Err cat.Fault) (Refusal title (length b) s) (Wanted title b s) s c) is so in
      record {
        next = leaves (with_slots (Wanted title (bytes_of_lines e.lines) s) s);
        row = stored_row title e s here.0;
        in_ = record { failed = here.1.failed; moment = here.1.moment; there = here.1.there; is = here.1.is };
      }

  -- a store that is refused
  pub not_stored : (title bytes : List ℕ) (e : Editing) (s : Shell) (why : CatEnd) (c : C) → bytes ≡ bytes_of_lines e.lines → (why ≡ cat.Fault → ⊥)
      → Answers at stands (Err why) (Refusal title (length bytes) s) (Wanted title bytes s) s c
      → Writes title e s (edits_on title e (says (why_line title title why) s)) × At at c s
  not_stored title bytes e s why c is fine so = go why fine so where
    row : (w : CatEnd) → Refusal title (length bytes) s ≡ Some w → Writes title e s (edits_on title e (says (why_line title title w) s))
    row w h =
        inl (ap (λ o. written_back o title e s) (sym h) ∙ ap (λ b. written_back (Refusal title (length b) s) title e s) is
        ∙ ap (λ n. written_back (Refusal title n s) title e s) (length_of e.lines))

    go : (w : CatEnd) → (w ≡ cat.Fault → ⊥) → Answers at stands (Err w) (Refusal title (length bytes) s) (Wanted title bytes s) s c
        → Writes title e s (edits_on title e (says (why_line title title w) s)) × At at c s
    go cat.NoSuch f a = (row cat.NoSuch a.0, a.1)
    go cat.Taken f a = (row cat.Taken a.0, a.1)
    go cat.Protected f a = (row cat.Protected a.0, a.1)
    go (cat.TooLarge n) f a = (row (cat.TooLarge n) a.0, a.1)
    go cat.CatalogFull f a = (row cat.CatalogFull a.0, a.1)
    go (cat.Full w g) f a = (row (cat.Full w g) a.0, a.1)
    go cat.Fault f a = absurd (f refl)

  -- ---- what is shown of nothing

  pub change_made : (cause : Option EditEnd) (before after now : Editing) (n : ℕ) (title : List ℕ) (s : Shell) (c : C)
      → EndsBy {T = Unit {0}} (Ok tt) cause after before now → At at c s
      → Edits at stands (Ok false) (ChangesLine cause n title before after s) s s.taken title now c
  change_made cause before after now n title s c e a =
      (s, subst (λ o. ChangesLine o n title before after s (edits_on title now s)) (sym e.0) (inl (ap (λ x. edits_on title x s) e.1)), follows_itself s, a)

  pub undo_made : (before now : Editing) (title : List ℕ) (s : Shell) (c : C) → edit.Undoes true before now → At at c s
      → Edits at stands (Ok false) (TakesBack title before.earlier before s) s s.taken title now c
  undo_made before now title s c u a =
      (s, undo_row before.earlier before title s (edits_on title now s) u.0 (inl (ap (λ x. edits_on title x s) u.1)), follows_itself s, a)

module _ {C : Type 0} (ready : C → Type 0) (failed : C → Option Outside) (at : C → State → ℕ → Type 0) (stands : C → Outside → State → Type 0) where
  -- a line is shown, and the editing goes on
  pub said : (Row : AfterLine → Type 0) (title : List ℕ) (e : Editing) (text bytes : List ℕ) (s : Shell) (result : Result Bool SessionEnd) (c : C)
      → Row (edits_on title e (says text s)) → bytes ≡ text ++ 10 ∷ [] → IsLeft ready failed result c → SaysOn at stands result bytes s c
      → Edits at stands result Row s s.taken title e c
  said Row title e text bytes s (Ok true) c row is left w = absurd w
  said Row title e text bytes s (Ok false) c row is left w =
      (says text s, row, record { taken_is = refl; drawn_is = refl; before_is = refl }, subst (λ b. At at c (shown_by b s)) is w)
  said Row title e text bytes s (Err fault) c row is left w =
      broke at stands Row fault s c left.0 (breaks at stands Row title e (says text s) c row (subst (λ b. StandsIn stands (shown_by b s) c) is w))

  -- ---- changes

  refused : (why : EditEnd) (cause : Option EditEnd) (before after now : Editing) (n : ℕ) (title : List ℕ) (s : Shell) → cause ≡ Some why → now ≡ before
      → ChangesLine cause n title before after s (edits_on title now (says (edit_refusal n why) s))
  refused why cause before after now n title s e same =
      subst (λ o. ChangesLine o n title before after s (edits_on title now (says (edit_refusal n why) s))) (sym e)
      (ap (λ x. edits_on title x (says (edit_refusal n why) s)) same)

  why_row : (why : EditEnd) (cause : Option EditEnd) (before after now : Editing) (n : ℕ) (title : List ℕ) (s : Shell)
      → EndsBy {T = Unit {0}} (Err why) cause after before now → ChangesLine cause n title before after s (edits_on title now (says (edit_refusal n why) s))
  why_row edit_end.NoMemory cause before after now n title s e =
      subst (λ o. ChangesLine o n title before after s (edits_on title now (says_no_memory s))) (sym e.0)
      (inr (ap (λ x. edits_on title x (says_no_memory s)) e.1))
  why_row edit_end.NoLine cause before after now n title s e = refused edit_end.NoLine cause before after now n title s e.0 e.1
  why_row (edit_end.Full size) cause before after now n title s e = refused (edit_end.Full size) cause before after now n title s e.0 e.1

  pub change_said : (why : EditEnd) (cause : Option EditEnd) (before after now : Editing) (n : ℕ) (title bytes : List ℕ) (s : Shell)
      (result : Result Bool SessionEnd) (c : C) → EndsBy {T = Unit {0}} (Err why) cause after before now → bytes ≡ edit_refusal n why ++ 10 ∷ []
      → IsLeft ready failed result c → SaysOn at stands result bytes s c
      → Edits at stands result (ChangesLine cause n title before after s) s s.taken title now c
  change_said why cause before after now n title bytes s result c e is left w =
      said (ChangesLine cause n title before after s) title now (edit_refusal n why) bytes s result c (why_row why cause before after now n title s e) is left w

  -- ---- `u`

  pub undo_none : (before now : Editing) (title : List ℕ) (s : Shell) (result : Result Bool SessionEnd) (c : C) → before.earlier ≡ [] → now ≡ before
      → IsLeft ready failed result c → SaysOn at stands result (codes "no undo\n") s c
      → Edits at stands result (TakesBack title before.earlier before s) s s.taken title now c
  undo_none before now title s result c none same left w =
      said (TakesBack title before.earlier before s) title now (codes "no undo") (codes "no undo\n") s result c
      (subst (λ texts. TakesBack title texts before s (edits_on title now (says (codes "no undo") s))) (sym none)
      (ap (λ x. edits_on title x (says (codes "no undo") s)) same)) refl left w

  pub undo_wants : (before now : Editing) (title : List ℕ) (s : Shell) (result : Result Bool SessionEnd) (c : C) → 0 < length before.earlier → now ≡ before
      → IsLeft ready failed result c → SaysOn at stands result (codes "no memory\n") s c
      → Edits at stands result (TakesBack title before.earlier before s) s s.taken title now c
  undo_wants before now title s result c some same left w =
      said (TakesBack title before.earlier before s) title now (codes "no memory") (codes "no memory\n") s result c
      (undo_row before.earlier before title s (edits_on title now (says_no_memory s)) some (inr (ap (λ x. edits_on title x (says_no_memory s)) same)))
      refl left w
