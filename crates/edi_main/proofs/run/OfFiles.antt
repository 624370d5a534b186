-- The program of a file, in either form: its code, and how the command that runs it came to its status, with an account or without one.
use Rattle.std.proofs.Common.{◌≡◌, ◌∙◌, if◌then◌else◌, ℕ, Bool, true, false, List, Option, Some, None, Result, Ok, Err, refl, sym, ap, subst, inl, inr}
use Rattle.std.specs.Prelude.{⊤, take}
use Rattle.edi_told.specs.Told.{WhereTold}
use Rattle.edi_host.specs.Contents.{Contents}
use Rattle.edi_calls.specs.Choice.{Choices}
use Rattle.edi_dumped.specs.Given.{program_given}
use Rattle.edi_lex.specs.declared.fault.LexFault.{LexFault}
use Rattle.edi_lex.specs.declared.fault.LexFault.TheVariants as lexical
use Rattle.edi_lex.specs.declared.symbol.Mark.{Mark}
use Rattle.edi_lex.specs.Limit.{most_fetched}
use Rattle.edi_lex.specs.Symbols.{is_too_long, symbols_from, symbols_of}
use Rattle.edi_lex.proofs.Limited.{first_bytes_decide}
use Rattle.edi_target.specs.Check.{CodeParts}
use Rattle.edi_texts.specs.Texts.{AreAccepted, IsUnit}
use Rattle.edi_texts.proofs.Same.{fetched_bytes_decide}
use Rattle.edi_timed.specs.on.Timelines as timed
use Rattle.edi_unit.specs.Tree.{ProgramUnit}
use Rattle.edi_words.specs.Words as words
use Rattle.edi_words.specs.Words.{Account, Options}
use Rattle.edi_statuses.specs.declared.status.Status.{Status}
use Rattle.edi_statuses.specs.declared.status.Status.TheVariants as status
use Rattle.edi_statuses.specs.Outside.{Outside, IsSomeFile, seen, still_told, Lent}
use Rattle.edi_statuses.specs.Steps.{AfterStep, goes, stops, Accepts, Fetches, Loads, Mounts, ReadsChoices}
use Rattle.edi_statuses.specs.Executions.{Runnable, text, code}
use Rattle.edi_statuses.specs.Commands.{RunSteps, ExecSteps}
use Rattle.edi_statuses.specs.Broken.{ExecAsks, RunAsks}
use Rattle.edi_statuses.specs.Decided.{Came}
use Rattle.edi_statuses.specs.Means.{MeansOf}
use Rattle.edi_statuses.specs.Accounts.{timable}
use Rattle.edi_statuses.proofs.Told.{still_same}
use Rattle.edi_main.specs.steps.OnFiles.{files_only}
use Rattle.edi_main.proofs.steps.LoadedFiles.{loads_all, stops_all}
use Rattle.edi_main.specs.run.FileSteps.{CodeStep, command_for, limit_of, text_given}
use Rattle.edi_main.specs.run.OnAccounts.{IsGiven, ProgramRan, RanWith}
use Rattle.edi_main.specs.declared.run.files.Form.{Form}
use Rattle.edi_main.specs.declared.run.files.Form.TheVariants as form
use Rattle.edi_main.proofs.run.Exits.{with_files}
use Rattle.edi_main.proofs.run.Meaning.{came_of, code_means, means_by}
use Rattle.edi_main.proofs.run.Stopping.{AsksBy, IsEarly, StepsBy, StopsAs, Unread, still_fetched, still_read, stops_by, text_unread, text_unread_all}
use Rattle.edi_main.proofs.run.AccountMeans as accounted
use Rattle.edi_main.proofs.run.AccountMeans.{ran_means, text_means}

-- ---- the third step of each form, behind the file and the choices

abbrev pub Read : Form → Type 0
Read form.Text = ProgramUnit
Read form.Code = CodeParts

abbrev pub Made : Form → Type 0
Made form.Text = List ℕ
Made form.Code = CodeParts

abbrev pub third : (f : Form) → List ℕ → AfterStep (Read f) → Type 0
third form.Text = Accepts
third form.Code = Loads

abbrev pub make : (f : Form) → List ℕ → Read f → Made f
make form.Text = λ bytes unit. bytes
make form.Code = λ bytes parts. parts

abbrev pub program : (f : Form) → Made f → Runnable
program form.Text = text
program form.Code = code

abbrev pub Steps : (f : Form) → (file : List ℕ) → Options → Outside → AfterStep (Made f × Choices) → Type 0
Steps f file o = StepsBy (third f) (make f) file o.choices

-- the code of a file is not had
pub unread : (f : Form) (bytes : List ℕ) (s : Status) → CodeStep f bytes (Err s) → Unread (third f) bytes s
unread form.Text bytes s h = text_unread bytes s h
unread form.Code bytes status.NoMemory h = inl refl
unread form.Code bytes s h = inr (subst IsEarly (sym h.1) tt, h)

pub unread_all : (f : Form) (all bytes : List ℕ) → bytes ≡ take (limit_of f) all → (s : Status) → CodeStep f bytes (Err s) → Unread (third f) all s
unread_all form.Text all bytes first s h = text_unread_all all bytes first s (text_unread bytes s h)
unread_all form.Code all bytes first status.NoMemory h = inl refl
unread_all form.Code all bytes first s h = inr (subst IsEarly (sym h.1) tt, stops_all all bytes s first h)

-- ---- the command

-- it may stop before the drive is looked at
pub stops_as : (f : Form) (account : Option Account) (file : List ℕ) (o : Options)
    → StopsAs (command_for f account file o) file o.choices (third f) (Steps f file o)
stops_as form.Text None file o =
    stops_by Accepts (λ bytes unit. bytes) (words.run file o) file o.choices (λ b a k n. inl n)
    (λ b a k there same begun. record { uses = refl; far = inl (same, there, begun) }) (λ s b a k h n. inl (h, n))
stops_as form.Code None file o =
    stops_by Loads (λ bytes parts. parts) (words.exec file o) file o.choices (λ b a k n. inl n)
    (λ b a k there same begun. record { uses = refl; far = inl (same, there, begun) }) (λ s b a k h n. inl (h, n))
stops_as form.Text (Some account) file o =
    stops_by Accepts (λ bytes unit. bytes) (words.run_with file account o) file o.choices (λ b a k n. inl n)
    (λ b a k there same begun. record { uses = refl; far = inl (same, there, begun) }) (λ s b a k h n. inl (h, n))
stops_as form.Code (Some account) file o =
    stops_by Loads (λ bytes parts. parts) (words.exec_with file account o) file o.choices (λ b a k n. inl n)
    (λ b a k there same begun. record { uses = refl; far = inl (same, there, begun) }) (λ s b a k h n. inl (h, n))

-- what its status means where the code was run
module _ (file : List ℕ) (o : Options) (x after : Outside) (shown : List ℕ) (kernel : Lent) (choices : Choices) where
  ran_to : (f : Form) (account : Option Account) (p : Made f) → AsksBy (third f) file o.choices x
      → (Mounts x (goes tt) → Steps f file o x (goes (p, choices))) → ((s : Status) → Mounts x (stops s) → Steps f file o x (stops s)) → (s : Status)
      → ProgramRan account (program f p) o.turns choices o.record_file s x after shown kernel → MeansOf s (command_for f account file o) x after shown kernel
  ran_to form.Text None p asked went stopped s h =
      means_by (words.run file o) (IsSomeFile x file) (RunAsks x file o.choices) (RunSteps x file o.choices) (λ a. text a.0) (λ a. a.1) o.turns
      o.record_file x after shown kernel refl refl (λ y. y) (λ y. y) (λ y. y) (λ y. y) (λ y. y) (λ t y. y) s
      (code_means (IsSomeFile x file) (RunAsks x file o.choices) (RunSteps x file o.choices) (λ a. text a.0) (λ a. a.1) (p, choices) o.turns o.record_file x
      after shown kernel asked went stopped s h)
  ran_to form.Code None p asked went stopped s h =
      means_by (words.exec file o) (IsSomeFile x file) (ExecAsks x file o.choices) (ExecSteps x file o.choices) (λ a. code a.0) (λ a. a.1) o.turns
      o.record_file x after shown kernel refl refl (λ y. y) (λ y. y) (λ y. y) (λ y. y) (λ y. y) (λ t y. y) s
      (code_means (IsSomeFile x file) (ExecAsks x file o.choices) (ExecSteps x file o.choices) (λ a. code a.0) (λ a. a.1) (p, choices) o.turns o.record_file x
      after shown kernel asked went stopped s h)
  ran_to form.Text (Some account) p asked went stopped s h =
      text_means file account o x after shown kernel s
      (ran_means (IsSomeFile x file) (RunAsks x file o.choices) (RunSteps x file o.choices) (λ a. text a.0) (λ a. a.1) (p, choices) o.turns account o.record_file
      x after shown kernel asked went stopped s h)
  ran_to form.Code (Some account) p asked went stopped s h =
      accounted.code_means file account o x after shown kernel s
      (ran_means (IsSomeFile x file) (ExecAsks x file o.choices) (ExecSteps x file o.choices) (λ a. code a.0) (λ a. a.1) (p, choices) o.turns account o.record_file
      x after shown kernel asked went stopped s h)

-- ---- how it came to its status, behind the run

module _ (account : Option Account) (file : List ℕ) (o : Options) (before : Outside) (kernel : Lent) (all : List ℕ) (new : Option Contents)
    (choices : Choices) (f : Fetches (files_only (still_told before.files new)) file (goes all))
    (c : ReadsChoices (files_only (still_told before.files new)) o.choices (goes choices)) (same : WhereTold before.files new (λ a b. b ≡ a))
    (after : Outside) (last : WhereTold new after.files (λ a b. ⊤)) (s : Status) (due : Bool)
    (IsIt : Runnable → Type 0) (r : RanWith account IsIt o.turns choices o.record_file s due (with_files before new) after kernel) where
  abbrev x : Outside
  x = seen before after

  came_by : (k : Form) (u : Read k) → third k all (goes u) → IsIt (program k (make k all u))
      → Came s due (Some (command_for k account file o)) before after kernel
  came_by k u t is =
      let p : Made k = make k all u in
      let got : Fetches x file (goes all) = still_fetched before after new last file o.choices all f in
      let there : ReadsChoices x o.choices (goes choices) = still_read before after new last file o.choices choices c in
      let ran = subst (λ files. ProgramRan account (program k p) o.turns choices o.record_file s (record x { files = files }) after r.shown kernel)
      (still_same before.files new after.files same last) (r.ran (program k p) is) in
      came_of (command_for k account file o) s due before after kernel r.shown
      (ran_to file o x after r.shown kernel choices k account p (u, inr (all, got, inr (choices, there, t)))
      (λ m. inr (all, got, inr (choices, there, inr (u, t, inr (tt, m, refl)))))
      (λ y m. inr (all, got, inr (choices, there, inr (u, t, inl m)))) s ran) r.shows r.due_is
      (record { drive = λ stays. r.each.drive refl; input = r.each.input; printer = r.each.printer })

-- an accepted text was fetched whole
whole : (all bytes : List ℕ) (unit : ProgramUnit) → bytes ≡ take most_fetched all → IsUnit bytes unit → all ≡ bytes
whole all bytes unit first is = go (is_too_long bytes) refl
  where
    go : (long : Bool) → is_too_long bytes ≡ long → all ≡ bytes
    go false e = sym (first ∙ (first_bytes_decide all).1 (ap is_too_long (sym first) ∙ e))
    go true e =
        let refused : symbols_of bytes ≡ Err lexical.TooLong = ap (λ b. if b then Err lexical.TooLong else symbols_from bytes 0 1) e in
        let no : (known : Result (List Mark × ℕ) LexFault) → known ≡ Err lexical.TooLong → AreAccepted known unit → ⊥ = λ known same h.
        subst (λ k. AreAccepted k unit) same h in
        absurd (no (symbols_of bytes) refused is)

-- the program of the file is the one that was run
pub file_ran : (account : Option Account) (file : List ℕ) (o : Options) (before : Outside) (kernel : Lent) (all : List ℕ) (new : Option Contents)
    (choices : Choices) → Fetches (files_only (still_told before.files new)) file (goes all)
    → ReadsChoices (files_only (still_told before.files new)) o.choices (goes choices) → WhereTold before.files new (λ a b. b ≡ a)
    → (after : Outside) → WhereTold new after.files (λ a b. ⊤) → (s : Status) (due : Bool) (k : Form) (bytes : List ℕ) (given : Option (List ℕ))
    (parts : CodeParts) → given ≡ text_given k bytes
    → RanWith account (IsGiven given parts) o.turns choices o.record_file s due (with_files before new) after kernel
    → bytes ≡ take (limit_of k) all → CodeStep k bytes (Ok parts) → Came s due (Some (command_for k account file o)) before after kernel
file_ran account file o before kernel all new choices f c same after last s due form.Text bytes given parts given_is r first h =
    let unit : ProgramUnit = h.0 in
    let unit_is : IsUnit all unit = (fetched_bytes_decide.there all).unit unit (subst (λ t. IsUnit t unit) first h.1.front.unit_is) in
    came_by account file o before kernel all new choices f c same after last s due (IsGiven given parts) r form.Text unit unit_is
    ((unit, unit_is, h.1.front.can, h.1.code_is), subst (λ g. timable (text all) ≡ program_given g parts) (sym given_is) (ap timed.text (whole all bytes unit first h.1.front.unit_is)))
file_ran account file o before kernel all new choices f c same after last s due form.Code bytes given parts given_is r first h =
    came_by account file o before kernel all new choices f c same after last s due (IsGiven given parts) r form.Code parts (loads_all all bytes parts first h)
    (refl, subst (λ g. timable (code parts) ≡ program_given g parts) (sym given_is) refl)
