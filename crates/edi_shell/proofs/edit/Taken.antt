-- A line behind a line that was taken.
use Rattle.std.proofs.Common.{◌≡◌, ℕ, ◌+◌, Bool, true, false, inr, List, [], length, Option, Some, None, Result, Ok, Err, refl, sym, subst, ◌∙◌}
use Rattle.std.specs.Prelude.{◌-◌, insert, slice_set, codes}
use Rattle.edi_calls.specs.declared.ends.Outside.{Outside}
use Rattle.edi_calls.specs.Choice.{Choices}
use Rattle.edi_calls.specs.State.{State}
use Rattle.edi_edit.specs.Editing.{Editing, changed, is_index, refusal}
use Rattle.edi_edit.specs.Undoing.{EndsBy}
use Rattle.edi_edit.specs.declared.EditEnd.{EditEnd}
use Rattle.edi_session.proofs.Later.{says_on}
use Rattle.edi_session.proofs.Total as total
use Rattle.edi_session.specs.declared.end.SessionEnd.{SessionEnd}
use Rattle.edi_session.specs.declared.end.SessionEnd.TheVariants as end
use Rattle.edi_session.specs.Session.{AfterLine, ChangesLine, EditsBy, EditsLine, Goes, GoesIn, Inserts, Replaces, BehindTaken, edit_refusal, edits_on, says_no_memory}
use Rattle.edi_session.specs.Session.{shell_in}
use Rattle.edi_session.specs.Shell.{Shell, Taken, took, ended, limited, shell_of, editing, next_line, says, state_in}
use Rattle.edi_session.specs.Words.{edit_line, kept_line}
use Rattle.edi_shell.proofs.commands.Standing.{stands_later}
use Rattle.edi_shell.specs.commands.Taking.{GivesLine, Stops}
use Rattle.edi_shell_io.specs.calls.Standing.{At, StandsIn}
use Rattle.edi_shell.proofs.commands.Keeping.{TakingKeeps, taking_behind}
use Rattle.edi_shell.proofs.edit.Chains.{line_keeps}
use Rattle.edi_shell.specs.edit.Rows.{EditingBreaks, Edits, IsBehindLine, EditingStops, puts}

-- a change comes to something
change_comes : (why : Option EditEnd) (n : ℕ) (title : List ℕ) (before after : Editing) (t : Shell) → total.Comes (ChangesLine why n title before after) t
change_comes (Some why) n title before after t = (edits_on title before (says (edit_refusal n why) t), refl, says_on (edit_refusal n why) t)
change_comes None n title before after t = (edits_on title before (says_no_memory t), inr refl, says_on (codes "no memory") t)

module _ {C : Type 0} (at : C → State → ℕ → Type 0) (stands : C → Outside → State → Type 0) where
  breaks_taking : (taken : Taken) (P : List ℕ → Shell → AfterLine → Type 0) (c : C) → ((bytes : List ℕ) (t : Shell) → total.Comes (P bytes) t)
      → StandsIn stands (shell_of taken) c → EditingBreaks at stands (BehindTaken taken P) c
  breaks_taking taken P c on there =
      let next = taking_behind taken P on in
      record { next = next.0; row = next.1; in_ = stands_later stands (shell_of taken) (shell_in next.0) c next.2 there }

  -- no line is taken
  taking_stops : (taken : Taken) (P : List ℕ → Shell → AfterLine → Type 0) (e : SessionEnd) (s : Shell) (c : C)
      → ((bytes : List ℕ) (t : Shell) → total.Comes (P bytes) t) → (shell_of taken).drawn ≡ s.drawn → Stops at stands e taken c
      → EditingStops at stands e (BehindTaken taken P) s c
  taking_stops (took bytes t) P end.Halted s c on drawn h = h
  taking_stops (ended t) P end.Halted s c on drawn h = h
  taking_stops (limited t) P end.Halted s c on drawn h = h
  taking_stops (took bytes t) P end.InputEnd s c on drawn h = absurd h
  taking_stops (ended t) P end.InputEnd s c on drawn h = record { last = t; row = refl; drawn_is = drawn; at_ = h }
  taking_stops (limited t) P end.InputEnd s c on drawn h = absurd h
  taking_stops (took bytes t) P end.Limit s c on drawn h = absurd h
  taking_stops (ended t) P end.Limit s c on drawn h = absurd h
  taking_stops (limited t) P end.Limit s c on drawn h = record { last = t; row = refl; drawn_is = drawn; at_ = h }
  taking_stops taken P end.DriveFault s c on drawn h = breaks_taking taken P c on h
  taking_stops taken P end.InputFault s c on drawn h = breaks_taking taken P c on h
  taking_stops taken P end.TerminalFault s c on drawn h = breaks_taking taken P c on h
  taking_stops taken P end.PrinterFault s c on drawn h = breaks_taking taken P c on h

  -- the same line by another row, from another shell
  stops_by : (Row Other : AfterLine → Type 0) (e : SessionEnd) (t s : Shell) (c : C) → ((next : AfterLine) → Row next → Other next) → t.drawn ≡ s.drawn
      → EditingStops at stands e Row t c → EditingStops at stands e Other s c
  stops_by Row Other end.Halted t s c to_row drawn h = h
  stops_by Row Other end.InputEnd t s c to_row drawn h = record { last = h.last; row = to_row _ h.row; drawn_is = h.drawn_is ∙ drawn; at_ = h.at_ }
  stops_by Row Other end.Limit t s c to_row drawn h = record { last = h.last; row = to_row _ h.row; drawn_is = h.drawn_is ∙ drawn; at_ = h.at_ }
  stops_by Row Other end.DriveFault t s c to_row drawn h = record { next = h.next; row = to_row h.next h.row; in_ = h.in_ }
  stops_by Row Other end.InputFault t s c to_row drawn h = record { next = h.next; row = to_row h.next h.row; in_ = h.in_ }
  stops_by Row Other end.TerminalFault t s c to_row drawn h = record { next = h.next; row = to_row h.next h.row; in_ = h.in_ }
  stops_by Row Other end.PrinterFault t s c to_row drawn h = record { next = h.next; row = to_row h.next h.row; in_ = h.in_ }

  follows_by : (t s after : Shell) (count : ℕ) → TakingKeeps s t → IsBehindLine t count after → IsBehindLine s count after
  follows_by t s after count k f =
      record { taken_is = f.taken_is; drawn_is = f.drawn_is ∙ k.drawn_is; before_is = f.before_is ∙ k.before_is }

  edits_by : (Row Other : AfterLine → Type 0) (result : Result Bool SessionEnd) (t s : Shell) (count : ℕ) (title : List ℕ) (e : Editing) (c : C)
      → ((next : AfterLine) → Row next → Other next) → TakingKeeps s t → Edits at stands result Row t count title e c → Edits at stands result Other s count title e c
  edits_by Row Other (Ok true) t s count title e c to_row k h = (h.0, to_row _ h.1, follows_by t s h.0 count k h.2, h.3)
  edits_by Row Other (Ok false) t s count title e c to_row k h = (h.0, to_row _ h.1, follows_by t s h.0 count k h.2, h.3)
  edits_by Row Other (Err why) t s count title e c to_row k h = stops_by Row Other why t s c to_row k.drawn_is h

  -- A line was taken, and what is done with it is done.
  pub taking_edits : (P : List ℕ → Shell → AfterLine → Type 0) (taken : Taken) (kept : List ℕ) (count later : ℕ) (result : Result Bool SessionEnd) (s : Shell)
      (title : List ℕ) (e : Editing) (before c : C)
      → TakingKeeps s (shell_of taken) → GivesLine at stands 261121 (Ok tt) taken kept count before
      → ((bytes : List ℕ) (t : Shell) → kept ≡ kept_line bytes → t.taken ≡ count → At at before t → Edits at stands result (P bytes t) t later title e c)
      → Edits at stands result (BehindTaken taken P) s later title e c
  taking_edits P (took bytes t) kept count later result s title e before c k g done =
      edits_by (P bytes t) (BehindTaken (took bytes t) P) result t s later title e c (λ next row. row) k (done bytes t g.0 g.1 g.2)
  taking_edits P (ended t) kept count later result s title e before c k g done = absurd g
  taking_edits P (limited t) kept count later result s title e before c k g done = absurd g

  -- ---- `i N` and `r N`

  pub put_stops : (replacing : Bool) (n : ℕ) (title : List ℕ) (before : Editing) (e : SessionEnd) (s : Shell) (c : C) → Stops at stands e (next_line false s) c
      → EditingStops at stands e (EditsBy (puts replacing n) title before s) s c
  put_stops true n title before e s c h =
      taking_stops (next_line false s) (Replaces n title before) e s c
      (λ text t. let after = slice_set before.lines (n - 1) (kept_line text) in
      change_comes (refusal (is_index n (length before.lines)) after) n title before (changed before after) t)
      (line_keeps false (state_in s).input [] s).drawn_is h
  put_stops false n title before e s c h =
      taking_stops (next_line false s) (Inserts n title before) e s c
      (λ text t. let after = insert before.lines (n - 1) (kept_line text) in
      change_comes (refusal (is_index n (length before.lines + 1)) after) n title before (changed before after) t)
      (line_keeps false (state_in s).input [] s).drawn_is h

  -- the line that was taken changes the text, where it is changed in place `there`, or it is shown why not
  pub line_changes : (there : Bool) (put : List ℕ → List (List ℕ)) (answer : Result (Unit {0}) EditEnd) (n : ℕ) (title line kept : List ℕ)
      (before now : Editing) (count : ℕ) (result : Result Bool SessionEnd) (s : Shell) (b c : C) → line ≡ kept
      → EndsBy answer (refusal there (put line)) (changed before (put line)) before now → GivesLine at stands 261121 (Ok tt) (next_line false s) kept count b
      → ((t : Shell) (cause : Option EditEnd) (after : Editing) → EndsBy answer cause after before now → At at b t
      → Edits at stands result (ChangesLine cause n title before after t) t t.taken title now c)
      → Edits at stands result (BehindTaken (next_line false s)
      (λ bytes t. ChangesLine (refusal there (put (kept_line bytes))) n title before (changed before (put (kept_line bytes))) t)) s count title now c
  line_changes there put answer n title line kept before now count result s b c same ends g say =
      let Row : List ℕ → Shell → AfterLine → Type 0 =
      λ bytes t. ChangesLine (refusal there (put (kept_line bytes))) n title before (changed before (put (kept_line bytes))) t in
      taking_edits Row (next_line false s) kept count count result s title now b c (line_keeps false (state_in s).input [] s) g
      (λ bytes t is taken a. subst (λ m. Edits at stands result (Row bytes t) t m title now c) taken
      (say t _ _ (subst (λ l. EndsBy answer (refusal there (put l)) (changed before (put l)) before now) (same ∙ is) ends) a))

  -- ---- a line of the editing

  pub next_stops : (bound : ℕ) (choices : Choices) (title : List ℕ) (e : Editing) (why : SessionEnd) (s : Shell) (c : C) → s.mode ≡ editing title e
      → Stops at stands why (next_line false s) c → EditingStops at stands why (Goes bound choices s) s c
  next_stops bound choices title e why s c mode h =
      stops_by (BehindTaken (next_line false s) (EditsLine title e)) (Goes bound choices s) why s s c
      (λ next row. subst (λ m. GoesIn bound choices m s next) (sym mode) row) refl
      (taking_stops (next_line false s) (EditsLine title e) why s c (total.edits_line title e) (line_keeps false (state_in s).input [] s).drawn_is h)

  pub next_edits : (bound : ℕ) (choices : Choices) (title : List ℕ) (e now : Editing) (kept : List ℕ) (count later : ℕ) (result : Result Bool SessionEnd)
      (s : Shell) (before c : C) → s.mode ≡ editing title e → GivesLine at stands 261121 (Ok tt) (next_line false s) kept count before
      → ((t : Shell) → t.taken ≡ count → At at before t → Edits at stands result (EditsBy (edit_line kept) title e t) t later title now c)
      → Edits at stands result (Goes bound choices s) s later title now c
  next_edits bound choices title e now kept count later result s before c mode g done =
      edits_by (BehindTaken (next_line false s) (EditsLine title e)) (Goes bound choices s) result s s later title now c
      (λ next row. subst (λ m. GoesIn bound choices m s next) (sym mode) row) (record { drawn_is = refl; mode_is = refl; before_is = refl })
      (taking_edits (EditsLine title e) (next_line false s) kept count later result s title now before c (line_keeps false (state_in s).input [] s) g
      (λ bytes t is taken a. subst (λ k. Edits at stands result (EditsBy (edit_line k) title e t) t later title now c) is (done t taken a)))
