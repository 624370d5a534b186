-- What the lines of an editing come to, line by line and from its command on.
use Rattle.std.proofs.Common.{◌≡◌, ℕ, zero, suc, inl, true, false, List, [], ◌∷◌, ◌++◌, Option, Some, None, Result, Ok, Err, refl, sym, ap, subst, ◌∙◌}
use Rattle.std.specs.Prelude.{codes}
use Rattle.std.specs.Option.{option_map}
use Rattle.edi_calls.specs.Choice.{Choices}
use Rattle.edi_calls.specs.declared.ends.Outside.{Outside}
use Rattle.edi_calls.specs.declared.kinds.FileKind.{FileKind}
use Rattle.edi_calls.specs.declared.kinds.FileKind.TheVariants as file_kind
use Rattle.edi_calls.specs.State.{File, State}
use Rattle.edi_catalog.specs.declared.entry.Entry.{Entry}
use Rattle.edi_catalog.specs.InSlots.{entry_told}
use Rattle.edi_edit.specs.Editing.{Editing}
use Rattle.edi_edit.specs.Lines.{lines_of}
use Rattle.edi_session.specs.declared.end.SessionEnd.{SessionEnd}
use Rattle.edi_session.specs.declared.end.SessionEnd.TheVariants as end
use Rattle.edi_session.specs.Session.{AfterLine, BeginsEditing, EditsFile, EditsKind, Goes, edits_on, goes, leaves}
use Rattle.edi_session.specs.Shell.{Shell, commanding, editing, says, shown_by}
use Rattle.edi_session.specs.Texts.{about}
use Rattle.edi_shell.proofs.commands.Opening.{some_same}
use Rattle.edi_shell_io.specs.calls.Standing.{At, IsFault, IsLeft, Leads, ReadsFile, StandsIn}
use Rattle.edi_shell.proofs.edit.Chains.{chain_by, chain_on}
use Rattle.edi_shell.proofs.edit.Rows.{broke}
use Rattle.edi_shell.specs.edit.Chain.{Chain, LinesCome}
use Rattle.edi_shell.specs.edit.Rows.{EditingBreaks, Edits, IsBehindLine, OpensText, EditingStops}

-- So many lines of an editing came one after another.
pub record Underway (bound : ℕ) (choices : Choices) {C : Type 0} (at : C → State → ℕ → Type 0) (s : Shell) (taken : ℕ) (title : List ℕ) (text : Editing)
    (c : C) : Type 0 where
  pub now : Shell
  pub lines_ : ℕ
  pub comes : (next : AfterLine) → Goes bound choices now next → Chain bound choices (Goes bound choices s) lines_ next
  pub mode_is : now.mode ≡ editing title text
  pub behind : IsBehindLine s taken now
  pub at_ : At at c now

-- the shell in an editing that has begun
abbrev pub begun_at : (f : List ℕ) → List (List ℕ) → Shell → Shell
begun_at f lines s = record s { mode = editing f (record { lines = lines; earlier = [] }) }

module _ (bound : ℕ) (choices : Choices) {C : Type 0} (at : C → State → ℕ → Type 0) (stands : C → Outside → State → Type 0) where
  -- ---- what lines come to

  -- the last line stops the session
  stops_come : (Row : AfterLine → Type 0) (e : SessionEnd) (Other : AfterLine → Type 0) (now s : Shell) (taken drawn : ℕ) (n : ℕ) (c : C)
      → ((next : AfterLine) → Row next → Chain bound choices Other n next) → now.drawn ≡ drawn → EditingStops at stands e Row now c
      → LinesCome bound choices at stands Other (Err e) s taken drawn c
  stops_come Row end.Halted Other now s taken drawn n c chain d h = absurd h
  stops_come Row end.InputEnd Other now s taken drawn n c chain d h =
      record { last = h.last; lines_ = n; comes = chain _ h.row; drawn_is = h.drawn_is ∙ d; at_ = h.at_ }
  stops_come Row end.Limit Other now s taken drawn n c chain d h =
      record { last = h.last; lines_ = n; comes = chain _ h.row; drawn_is = h.drawn_is ∙ d; at_ = h.at_ }
  stops_come Row end.DriveFault Other now s taken drawn n c chain d h = record { next = h.next; lines_ = n; comes = chain h.next h.row; in_ = h.in_ }
  stops_come Row end.InputFault Other now s taken drawn n c chain d h = record { next = h.next; lines_ = n; comes = chain h.next h.row; in_ = h.in_ }
  stops_come Row end.TerminalFault Other now s taken drawn n c chain d h = record { next = h.next; lines_ = n; comes = chain h.next h.row; in_ = h.in_ }
  stops_come Row end.PrinterFault Other now s taken drawn n c chain d h = record { next = h.next; lines_ = n; comes = chain h.next h.row; in_ = h.in_ }

  -- another row leads to the same lines
  pub comes_by : (Row Other : AfterLine → Type 0) (result : Result (Unit {0}) SessionEnd) (s s' : Shell) (taken drawn : ℕ) (c : C)
      → ((n : ℕ) (next : AfterLine) → Chain bound choices Row n next → (m : ℕ) × Chain bound choices Other m next) → s.shown_before ≡ s'.shown_before
      → LinesCome bound choices at stands Row result s taken drawn c → LinesCome bound choices at stands Other result s' taken drawn c
  comes_by Row Other (Ok x) s s' taken drawn c chain before h =
      let on = chain h.lines_ (goes h.after) h.comes in
      record {
        after = h.after;
        lines_ = on.0;
        comes = on.1;
        mode_is = h.mode_is;
        before_is = h.before_is ∙ before;
        taken_is = h.taken_is;
        drawn_is = h.drawn_is;
        at_ = h.at_;
      }
  comes_by Row Other (Err end.Halted) s s' taken drawn c chain before h =
      let on = chain h.lines_ _ h.comes in record { last = h.last; lines_ = on.0; comes = on.1; drawn_is = h.drawn_is; at_ = h.at_ }
  comes_by Row Other (Err end.InputEnd) s s' taken drawn c chain before h =
      let on = chain h.lines_ _ h.comes in record { last = h.last; lines_ = on.0; comes = on.1; drawn_is = h.drawn_is; at_ = h.at_ }
  comes_by Row Other (Err end.Limit) s s' taken drawn c chain before h =
      let on = chain h.lines_ _ h.comes in record { last = h.last; lines_ = on.0; comes = on.1; drawn_is = h.drawn_is; at_ = h.at_ }
  comes_by Row Other (Err end.DriveFault) s s' taken drawn c chain before h =
      let on = chain h.lines_ h.next h.comes in record { next = h.next; lines_ = on.0; comes = on.1; in_ = h.in_ }
  comes_by Row Other (Err end.InputFault) s s' taken drawn c chain before h =
      let on = chain h.lines_ h.next h.comes in record { next = h.next; lines_ = on.0; comes = on.1; in_ = h.in_ }
  comes_by Row Other (Err end.TerminalFault) s s' taken drawn c chain before h =
      let on = chain h.lines_ h.next h.comes in record { next = h.next; lines_ = on.0; comes = on.1; in_ = h.in_ }
  comes_by Row Other (Err end.PrinterFault) s s' taken drawn c chain before h =
      let on = chain h.lines_ h.next h.comes in record { next = h.next; lines_ = on.0; comes = on.1; in_ = h.in_ }

  -- an object failed at the first line
  pub broke_comes : (Row : AfterLine → Type 0) (e : SessionEnd) (s : Shell) (taken : ℕ) (c : C) → IsFault e → EditingBreaks at stands Row c
      → LinesCome bound choices at stands Row (Err e) s taken s.drawn c
  broke_comes Row e s taken c fault b = stops_come Row e Row s s taken s.drawn zero c (λ next row. row) refl (broke at stands Row e s c fault b)

  -- ---- the lines of an editing

  pub begins : (s : Shell) (taken : ℕ) (title : List ℕ) (text : Editing) (c : C) → s.taken ≡ taken → s.mode ≡ editing title text → At at c s
      → Underway bound choices at s taken title text c
  begins s taken title text c t mode a = record {
    now = s;
    lines_ = zero;
    comes = λ next row. row;
    mode_is = mode;
    behind = record { taken_is = t; drawn_is = refl; before_is = refl };
    at_ = a;
  }

  pub goes_on : (s : Shell) (first second : ℕ) (title : List ℕ) (text later : Editing) (b c : C) → (u : Underway bound choices at s first title text b)
      → Edits at stands (Ok false) (Goes bound choices u.now) u.now second title later c → Underway bound choices at s second title later c
  goes_on s first second title text later b c u e = record {
    now = record e.0 { mode = editing title later };
    lines_ = suc u.lines_;
    comes = λ next row.
        chain_on bound choices (Goes bound choices s) u.lines_ (record e.0 { mode = editing title later }) next (u.comes (edits_on title later e.0) e.1) tt row;
    mode_is = refl;
    behind = record {
      taken_is = e.2.taken_is;
      drawn_is = e.2.drawn_is ∙ u.behind.drawn_is;
      before_is = e.2.before_is ∙ u.behind.before_is;
    };
    at_ = e.3;
  }

  pub is_left : (s : Shell) (first second : ℕ) (title : List ℕ) (text later : Editing) (b c : C) → (u : Underway bound choices at s first title text b)
      → Edits at stands (Ok true) (Goes bound choices u.now) u.now second title later c
      → LinesCome bound choices at stands (Goes bound choices s) (Ok tt) s second s.drawn c
  is_left s first second title text later b c u e = record {
    after = record e.0 { mode = commanding };
    lines_ = u.lines_;
    comes = u.comes (leaves e.0) e.1;
    mode_is = refl;
    before_is = e.2.before_is ∙ u.behind.before_is;
    taken_is = e.2.taken_is;
    drawn_is = e.2.drawn_is ∙ u.behind.drawn_is;
    at_ = e.3;
  }

  pub is_stopped : (s : Shell) (first second : ℕ) (title : List ℕ) (text : Editing) (e : SessionEnd) (b c : C)
      → (u : Underway bound choices at s first title text b) → EditingStops at stands e (Goes bound choices u.now) u.now c
      → LinesCome bound choices at stands (Goes bound choices s) (Err e) s second s.drawn c
  is_stopped s first second title text e b c u h =
      stops_come (Goes bound choices u.now) e (Goes bound choices s) u.now s second s.drawn u.lines_ c
      u.comes u.behind.drawn_is h

  -- ---- its beginning

  -- the editing has begun, and its lines follow
  pub begun : (f : List ℕ) (lines : List (List ℕ)) (s : Shell) (taken : ℕ) (result : Result (Unit {0}) SessionEnd) (c : C)
      → LinesCome bound choices at stands (Goes bound choices (begun_at f lines s)) result (begun_at f lines s) taken s.drawn c
      → LinesCome bound choices at stands (BeginsEditing f lines s) result s taken s.drawn c
  begun f lines s taken result c h =
      comes_by (Goes bound choices (begun_at f lines s)) (BeginsEditing f lines s) result (begun_at f lines s) s taken s.drawn c
      (λ n next chain. (suc n, (begun_at f lines s, inl refl, tt, chain))) refl h

  -- a line is shown in its place
  pub leads_comes : (ready : C → Type 0) (failed : C → Option Outside) (Row : AfterLine → Type 0) (s t : Shell) (taken : ℕ)
      (result : Result (Unit {0}) SessionEnd) (c : C)
      → Row (goes t) → t.mode ≡ commanding → t.shown_before ≡ s.shown_before → t.taken ≡ taken → t.drawn ≡ s.drawn → IsLeft ready failed result c
      → Leads at stands result t c → LinesCome bound choices at stands Row result s taken s.drawn c
  leads_comes ready failed Row s t taken (Ok x) c row mode before count drawn left l = record {
    after = t;
    lines_ = zero;
    comes = row;
    mode_is = mode;
    before_is = before;
    taken_is = count;
    drawn_is = drawn;
    at_ = l;
  }
  leads_comes ready failed Row s t taken (Err e) c row mode before count drawn left l =
      broke_comes Row e s taken c left.0 (record { next = goes t; row = row; in_ = l })

  -- the file is there
  pub opened : (f : List ℕ) (file : Option File) (lines : List (List ℕ)) (s : Shell) (taken : ℕ) (result : Result (Unit {0}) SessionEnd) (c : C)
      → ((next : AfterLine) → BeginsEditing f lines s next → EditsFile f file s next)
      → LinesCome bound choices at stands (BeginsEditing f lines s) result s taken s.drawn c
      → LinesCome bound choices at stands (EditsFile f file s) result s taken s.drawn c
  opened f file lines s taken result c row h =
      comes_by (BeginsEditing f lines s) (EditsFile f file s) result s s taken s.drawn c
      (λ n next chain. (n, chain_by bound choices (BeginsEditing f lines s) (EditsFile f file s) row n next chain)) refl h

  -- the file is no text, which was shown
  pub not_opened : (f : List ℕ) (file : Option File) (into : List ℕ) (s : Shell) (taken : ℕ) (c : C) → s.mode ≡ commanding → s.taken ≡ taken
      → OpensText at stands (Ok None) f file into s c → LinesCome bound choices at stands (EditsFile f file s) (Ok tt) s taken s.drawn c
  not_opened f file into s taken c mode count h = record {
    after = h.0;
    lines_ = zero;
    comes = h.1;
    mode_is = h.2.mode ∙ mode;
    before_is = h.2.shown_before;
    taken_is = h.2.taken ∙ count;
    drawn_is = h.3;
    at_ = h.4;
  }

-- ---- opening its text

module _ {C : Type 0} (at : C → State → ℕ → Type 0) (stands : C → Outside → State → Type 0) where
  -- there is no such file
  pub opens_none : (f : List ℕ) (file : Option File) (into : List ℕ) (s : Shell) (c : C) → None ≡ option_map entry_told file → At at c s
      → OpensText at stands (Ok (Some 0)) f file into s c
  opens_none f None into s c e a = (λ next row. row, a)
  opens_none f (Some file) into s c e a = absurd cc

  text_row : (f : List ℕ) (file : File) (s : Shell) (next : AfterLine) (kind : FileKind) → kind ≡ file_kind.Text
      → BeginsEditing f (lines_of file.bytes) s next → EditsKind kind f file.bytes s next
  text_row f file s next file_kind.Text e row = row
  text_row f file s next file_kind.Code e row = absurd cc

  code_row : (f : List ℕ) (file : File) (s : Shell) (kind : FileKind) → kind ≡ file_kind.Code
      → EditsKind kind f file.bytes s (goes (says (about (codes "not text") f) s))
  code_row f file s file_kind.Code e = refl
  code_row f file s file_kind.Text e = absurd cc

  kind_of : (file : File) (entry : Entry) (kind : FileKind) → Some entry ≡ option_map entry_told (Some file) → entry.kind ≡ kind → file.kind ≡ kind
  kind_of file entry kind e k = ap (λ (x : Entry). x.kind) (sym (some_same e)) ∙ k

  -- it is a text, and was read
  pub opens_text : (f : List ℕ) (file : Option File) (entry : Entry) (into : List ℕ) (s : Shell) (result : Result (Option ℕ) SessionEnd) (c : C)
      → Some entry ≡ option_map entry_told file → entry.kind ≡ file_kind.Text → ReadsFile at stands result file into s c
      → OpensText at stands result f file into s c
  opens_text f None entry into s result c e k r = absurd cc
  opens_text f (Some file) entry into s (Ok (Some n)) c e k r =
      (λ next row. text_row f file s next file.kind (kind_of file entry file_kind.Text e k) (subst (λ b. BeginsEditing f (lines_of b) s next) r.0 row), r.1)
  opens_text f (Some file) entry into s (Ok None) c e k r = absurd r.0
  opens_text f (Some file) entry into s (Err fault) c e k r = record {
    next = edits_on f (record { lines = lines_of file.bytes; earlier = [] }) s;
    row = text_row f file s _ file.kind (kind_of file entry file_kind.Text e k) (inl refl);
    in_ = record { failed = r.failed; moment = r.moment; there = r.there; is = r.is };
  }

  -- it is a code, and that was shown
  pub opens_code : (f : List ℕ) (file : Option File) (entry : Entry) (into bytes : List ℕ) (s : Shell) (c : C)
      → Some entry ≡ option_map entry_told file → entry.kind ≡ file_kind.Code → bytes ≡ about (codes "not text") f ++ 10 ∷ [] → At at c (shown_by bytes s)
      → OpensText at stands (Ok None) f file into s c
  opens_code f None entry into bytes s c e k is a = absurd cc
  opens_code f (Some file) entry into bytes s c e k is a = (
    says (about (codes "not text") f) s,
    code_row f file s file.kind (kind_of file entry file_kind.Code e k),
    record { taken = refl; mode = refl; shown_before = refl },
    refl,
    subst (λ b. At at c (shown_by b s)) is a,
  )

  pub opens_broke : (f : List ℕ) (file : Option File) (entry : Entry) (bytes : List ℕ) (s : Shell) (c : C)
      → Some entry ≡ option_map entry_told file → entry.kind ≡ file_kind.Code → bytes ≡ about (codes "not text") f ++ 10 ∷ []
      → StandsIn stands (shown_by bytes s) c → EditingBreaks at stands (EditsFile f file s) c
  opens_broke f None entry bytes s c e k is st = absurd cc
  opens_broke f (Some file) entry bytes s c e k is st = record {
    next = goes (says (about (codes "not text") f) s);
    row = code_row f file s file.kind (kind_of file entry file_kind.Code e k);
    in_ = subst (λ b. StandsIn stands (shown_by b s) c) is st;
  }
