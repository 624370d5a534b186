-- An execution of code is a row of the table.
use Rattle.std.proofs.Common.{◌≡◌, ◌⊎◌, inl, inr, ℕ, List, [], ◌∷◌, ◌++◌, Option, Some, None, take, refl, sym, ap, subst, ◌∙◌}
use Rattle.std.specs.Prelude.{Result, Ok, Err, codes}
use Rattle.edi_calls.specs.declared.ends.Outside.{Outside}
use Rattle.edi_calls.specs.Choice.{Choices}
use Rattle.edi_calls.specs.Outcome as outcome
use Rattle.edi_calls.specs.State.{State}
use Rattle.edi_kernel.specs.declared.ends.Ending.{Ending}
use Rattle.edi_kernel.specs.declared.ends.Ending.TheVariants as ending
use Rattle.edi_kernel.specs.Kernel.{EndsAs}
use Rattle.edi_calls.specs.State.{File}
use Rattle.edi_calls.specs.declared.kinds.FileKind.{FileKind}
use Rattle.edi_calls.specs.declared.kinds.FileKind.TheVariants as file_kind
use Rattle.edi_target.specs.Check.{CodeParts, IsFault}
use Rattle.edi_target.specs.File.{code_fault_of, code_of}
use Rattle.edi_target.specs.declared.code_fault.CodeFault.{CodeFault}
use Rattle.edi_target.specs.declared.code_fault.CodeFault.TheVariants as fault
use Rattle.edi_session.specs.declared.end.SessionEnd.{SessionEnd}
use Rattle.edi_session.specs.Session.{goes, ExecutesBytes, ExecutesCode, ExecutesFile, ExecutesKind, ends_with, says_no_memory}
use Rattle.edi_session.specs.Shell.{Shell, says, shown_by, on_fresh_line}
use Rattle.edi_session.specs.Texts.{ending_line}
use Rattle.edi_session.proofs.Later.{ends_on, says_on}
use Rattle.edi_shell_io.specs.lines.Endings.{line_for}
use Rattle.edi_shell_io.specs.calls.Standing.{At, StandsIn, Leads, HasRun, RunsTo, RunBreaks}
use Rattle.edi_shell.specs.commands.Rows.{IsLike, LineGoesOn, LineBreaks, LineDoes}
use Rattle.edi_shell.specs.commands.Files.{Reads, code_refusal}
use Rattle.edi_shell.proofs.commands.Rows.{does_by, execute_refused, execute_opened, leads_does, like_says}
use Rattle.edi_shell.proofs.commands.Opening.{some_same}
use Rattle.edi_shell.proofs.commands.Standing.{stands_later}

-- the line of an ending
abbrev pub with_feed : Option (List ℕ) → Option (List ℕ)
with_feed None = None
with_feed (Some text) = Some (text ++ 10 ∷ [])

pub same_line : (f : List ℕ) (end : outcome.Ending) (e : Ending) → EndsAs end e → line_for f e ≡ with_feed (ending_line f end)
same_line f outcome.done ending.Done h = refl
same_line f outcome.done (ending.Halted at) h = absurd h
same_line f outcome.done (ending.Failed c at) h = absurd h
same_line f outcome.done ending.Turns h = absurd h
same_line f outcome.done ending.Standstill h = absurd h
same_line f outcome.done (ending.Bad at) h = absurd h
same_line f outcome.done ending.Fault h = absurd h
same_line f (outcome.halted line) ending.Done h = absurd h
same_line f (outcome.halted line) (ending.Halted at) h = ap (λ n. line_for f (ending.Halted n)) h
same_line f (outcome.halted line) (ending.Failed c at) h = absurd h
same_line f (outcome.halted line) ending.Turns h = absurd h
same_line f (outcome.halted line) ending.Standstill h = absurd h
same_line f (outcome.halted line) (ending.Bad at) h = absurd h
same_line f (outcome.halted line) ending.Fault h = absurd h
same_line f (outcome.failed cause line) ending.Done h = absurd h
same_line f (outcome.failed cause line) (ending.Halted at) h = absurd h
same_line f (outcome.failed cause line) (ending.Failed c at) h = ap (λ n. line_for f (ending.Failed c n)) h.1 ∙ ap (λ k. line_for f (ending.Failed k line)) h.0
same_line f (outcome.failed cause line) ending.Turns h = absurd h
same_line f (outcome.failed cause line) ending.Standstill h = absurd h
same_line f (outcome.failed cause line) (ending.Bad at) h = absurd h
same_line f (outcome.failed cause line) ending.Fault h = absurd h
same_line f outcome.turns ending.Done h = absurd h
same_line f outcome.turns (ending.Halted at) h = absurd h
same_line f outcome.turns (ending.Failed c at) h = absurd h
same_line f outcome.turns ending.Turns h = refl
same_line f outcome.turns ending.Standstill h = absurd h
same_line f outcome.turns (ending.Bad at) h = absurd h
same_line f outcome.turns ending.Fault h = absurd h
same_line f outcome.standstill ending.Done h = absurd h
same_line f outcome.standstill (ending.Halted at) h = absurd h
same_line f outcome.standstill (ending.Failed c at) h = absurd h
same_line f outcome.standstill ending.Turns h = absurd h
same_line f outcome.standstill ending.Standstill h = refl
same_line f outcome.standstill (ending.Bad at) h = absurd h
same_line f outcome.standstill ending.Fault h = absurd h
same_line f (outcome.bad address) ending.Done h = absurd h
same_line f (outcome.bad address) (ending.Halted at) h = absurd h
same_line f (outcome.bad address) (ending.Failed c at) h = absurd h
same_line f (outcome.bad address) ending.Turns h = absurd h
same_line f (outcome.bad address) ending.Standstill h = absurd h
same_line f (outcome.bad address) (ending.Bad at) h = refl
same_line f (outcome.bad address) ending.Fault h = absurd h

-- the line that is shown is that of the ending
pub feed_some : (items : List ℕ) (line : Option (List ℕ)) → Some items ≡ with_feed line → (text : List ℕ) × (line ≡ Some text) × (items ≡ text ++ 10 ∷ [])
feed_some items None e = absurd cc
feed_some items (Some text) e = (text, refl, some_same e)

pub feed_none : (line : Option (List ℕ)) → None ≡ with_feed line → line ≡ None
feed_none None e = refl
feed_none (Some text) e = absurd cc

like_behind : (code : CodeParts) (bound : ℕ) (choices : Choices) (end : outcome.Ending) (drawn : ℕ) (s after : Shell) → HasRun code bound choices end drawn s
    after → IsLike s after
like_behind code bound choices end drawn s after r =
    record { taken = ap (λ (u : Shell). u.taken) r.is; mode = ap (λ (u : Shell). u.mode) r.is; shown_before = ap (λ (u : Shell). u.shown_before) r.is }

module _ {C : Type 0} (at : C → State → ℕ → Type 0) (stands : C → Outside → State → Type 0) (f : List ℕ) (code : CodeParts) (bound : ℕ) (choices : Choices) where
  -- where the line of the ending leads
  row_of : (end : outcome.Ending) (drawn : ℕ) (s after : Shell) → HasRun code bound choices end drawn s after
      → ExecutesCode bound choices f code s (goes (ends_with (ending_line f end) after))
  row_of end drawn s after r = record {
    ending = end;
    machine = r.machine;
    drawn = drawn;
    past = r.past;
    ends = r.ends;
    next_is = ap (λ u. goes (ends_with (ending_line f end) u)) r.is;
  }

  pub run_broke : (s : Shell) (c : C) → RunBreaks at stands code bound choices s c → LineBreaks at stands (ExecutesCode bound choices f code) s c
  run_broke s c b = record {
    next = goes (ends_with (ending_line f b.ending_) b.after);
    row = row_of b.ending_ b.drawn s b.after b.runs;
    in_ = stands_later stands b.after (ends_with (ending_line f b.ending_) b.after) c (ends_on (ending_line f b.ending_) b.after) b.in_;
  }

  -- the line of the ending could not be begun
  pub fresh_broke : (e : Ending) (drawn : ℕ) (s : Shell) (c d : C) (r : RunsTo at stands code bound choices e drawn s c) (text : List ℕ)
      → ending_line f r.ending_ ≡ Some text
      → StandsIn stands (on_fresh_line r.after) d → LineBreaks at stands (ExecutesCode bound choices f code) s d
  fresh_broke e drawn s c d r text is st = record {
    next = goes (ends_with (ending_line f r.ending_) r.after);
    row = row_of r.ending_ drawn s r.after r.runs;
    in_ = subst (λ l. StandsIn stands (ends_with l r.after) d) (sym is)
        (stands_later stands (on_fresh_line r.after) (says text (on_fresh_line r.after)) d (says_on text (on_fresh_line r.after)) st);
  }

  -- the line of the ending is shown
  pub run_says : (e : Ending) (drawn : ℕ) (s : Shell) (c d : C) (r : RunsTo at stands code bound choices e drawn s c) (text items : List ℕ)
      (result : Result (Unit {0}) SessionEnd)
      → ending_line f r.ending_ ≡ Some text → items ≡ text ++ 10 ∷ [] → Leads at stands result (shown_by items (on_fresh_line r.after)) d
      → LineDoes at stands (ExecutesCode bound choices f code) result drawn s d
  run_says e drawn s c d r text items (Ok x) is line l = record {
    after = says text (on_fresh_line r.after);
    row = subst (λ k. ExecutesCode bound choices f code s (goes (ends_with k r.after))) is (row_of r.ending_ drawn s r.after r.runs);
    like = let k = like_behind code bound choices r.ending_ drawn s r.after r.runs in record { taken = k.taken; mode = k.mode; shown_before = k.shown_before };
    draws = ap (λ (u : Shell). u.drawn) r.runs.is;
    at_ = subst (λ b. At at d (shown_by b (on_fresh_line r.after))) line l;
  }
  run_says e drawn s c d r text items (Err fault) is line l = record {
    next = goes (ends_with (ending_line f r.ending_) r.after);
    row = row_of r.ending_ drawn s r.after r.runs;
    in_ = subst (λ k. StandsIn stands (ends_with k r.after) d) (sym is) (subst (λ b. StandsIn stands (shown_by b (on_fresh_line r.after)) d) line l);
  }

  -- a program that came to its end has no line
  pub run_ended : (e : Ending) (drawn : ℕ) (s : Shell) (c : C) (r : RunsTo at stands code bound choices e drawn s c) → ending_line f r.ending_ ≡ None
      → LineGoesOn at stands (ExecutesCode bound choices f code) s drawn c
  run_ended e drawn s c r is = record {
    after = r.after;
    row = subst (λ k. ExecutesCode bound choices f code s (goes (ends_with k r.after))) is (row_of r.ending_ drawn s r.after r.runs);
    like = like_behind code bound choices r.ending_ drawn s r.after r.runs;
    draws = ap (λ (u : Shell). u.drawn) r.runs.is;
    at_ = r.at_;
  }

-- ---- a file without code

-- the refusal of a file whose code was not loaded
refused_bytes : (bound : ℕ) (choices : Choices) (f bytes : List ℕ) (known : Option CodeFault) (s : Shell) (why : CodeFault) → IsFault why known
    → ExecutesBytes bound choices f bytes known s (goes (says (code_refusal f why) s)) ⊎ (goes (says (code_refusal f why) s) ≡ goes (says_no_memory s))
refused_bytes bound choices f bytes known s fault.NoMemory h = inr refl
refused_bytes bound choices f bytes known s (fault.Short at) h = inl
    (subst (λ k. ExecutesBytes bound choices f bytes k s (goes (says (code_refusal f (fault.Short at)) s))) (sym h) refl)
refused_bytes bound choices f bytes known s (fault.Over at) h = inl
    (subst (λ k. ExecutesBytes bound choices f bytes k s (goes (says (code_refusal f (fault.Over at)) s))) (sym h) refl)
refused_bytes bound choices f bytes known s (fault.Header at found) h = inl
    (subst (λ k. ExecutesBytes bound choices f bytes k s (goes (says (code_refusal f (fault.Header at found)) s))) (sym h) refl)
refused_bytes bound choices f bytes known s (fault.Operation at found) h = inl
    (subst (λ k. ExecutesBytes bound choices f bytes k s (goes (says (code_refusal f (fault.Operation at found)) s))) (sym h) refl)
refused_bytes bound choices f bytes known s (fault.Jump at target) h = inl
    (subst (λ k. ExecutesBytes bound choices f bytes k s (goes (says (code_refusal f (fault.Jump at target)) s))) (sym h) refl)

module _ {C : Type 0} (at : C → State → ℕ → Type 0) (stands : C → Outside → State → Type 0) (f : List ℕ) (bound : ℕ) (choices : Choices) where
  pub execute_reading_broke : (into : List ℕ) (file : Option File) (s : Shell) (c : C) (e : SessionEnd) → Reads at stands (Err e) (Some file_kind.Code) file f
      into s c
      → LineBreaks at stands (ExecutesFile bound choices f file) s c
  execute_reading_broke into file s c e (inl r) = record { next = goes r.after; row = execute_refused bound choices f file s r.after r.is; in_ = r.in_ }
  execute_reading_broke into file s c e (inr r) = record {
    next = goes (says_no_memory s);
    row = execute_opened bound choices f file r.0 s (goes (says_no_memory s)) r.1 (inr refl);
    in_ = stands_later stands s (says_no_memory s) c (says_on (codes "no memory") s) r.2;
  }

  -- the code was not loaded
  pub bytes_refused : (bytes : List ℕ) (drawn : ℕ) (s : Shell) (c : C) (why : CodeFault) (result : Result (Unit {0}) SessionEnd)
      → IsFault why (code_fault_of bytes) → s.drawn ≡ drawn → Leads at stands result (says (code_refusal f why) s) c
      → LineDoes at stands (ExecutesKind bound choices file_kind.Code f bytes) result drawn s c
  bytes_refused bytes drawn s c why result h e l =
      subst (λ k. LineDoes at stands (ExecutesKind bound choices file_kind.Code f bytes) result k s c) e
      (leads_does at stands (ExecutesKind bound choices file_kind.Code f bytes) s (says (code_refusal f why) s) result c
      (refused_bytes bound choices f bytes (code_fault_of bytes) s why h) (like_says (code_refusal f why) s) refl l)

  -- the code was loaded, and run
  pub bytes_run : (bytes : List ℕ) (drawn : ℕ) (s : Shell) (c : C) (code : CodeParts) (result : Result (Unit {0}) SessionEnd)
      → code_fault_of bytes ≡ None → code ≡ code_of bytes → LineDoes at stands (ExecutesCode bound choices f code) result drawn s c
      → LineDoes at stands (ExecutesKind bound choices file_kind.Code f bytes) result drawn s c
  bytes_run bytes drawn s c code result sound is =
      does_by at stands (ExecutesCode bound choices f code) (ExecutesKind bound choices file_kind.Code f bytes) s drawn result c
      (λ next ran. inl (subst (λ k. ExecutesBytes bound choices f bytes k s next) (sym sound)
      (subst (λ p. ExecutesCode bound choices f p s next) is ran)))

  -- what these bytes of the file do, the file does
  pub execute_does : (into front : List ℕ) (file : Option File) (kind : FileKind) (n drawn : ℕ) (s : Shell) (c d : C)
      (result : Result (Unit {0}) SessionEnd) → front ≡ take n into → Reads at stands (Ok (Some (kind, n))) (Some file_kind.Code) file f into s c
      → LineDoes at stands (ExecutesKind bound choices file_kind.Code f front) result drawn s d
      → LineDoes at stands (ExecutesFile bound choices f file) result drawn s d
  execute_does into front file kind n drawn s c d result part r =
      does_by at stands (ExecutesKind bound choices file_kind.Code f front) (ExecutesFile bound choices f file) s drawn result d
      (λ next row. execute_opened bound choices f file r.0 s next r.1
      (subst (λ b. ExecutesKind bound choices file_kind.Code f b s next) (part ∙ r.3) row))
