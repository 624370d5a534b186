-- From what the words are to the command that is obeyed.
use Rattle.std.proofs.Common.{◌≡◌, ◌∙◌, ◌⊎◌, ◌&&◌, arith, not, inl, inr, ℕ, Bool, true, false, true≢false, List, [], Option, Some, None, option_map, refl, sym, subst, ap}
use Rattle.edi_told.specs.Faults.{CountRose}
use Rattle.edi_host.specs.Contents.{Contents}
use Rattle.std.specs.Borrow.{Bor}
use Rattle.edi_words.specs.Words.{Command, Text}
use Rattle.edi_words.specs.declared.commands.Account.{Account}
use Rattle.edi_words.specs.declared.commands.Command as commands
use Rattle.edi_words.specs.declared.commands.Command.TheVariants as command
use Rattle.edi_words.specs.declared.commands.Options.{Options}
use Rattle.edi_words.specs.Words as words
use Rattle.edi_words.specs.View.{account_of, options_of, view}
use Rattle.edi_statuses.specs.declared.status.Status.{Status}
use Rattle.edi_statuses.specs.declared.status.Status.TheVariants as status
use Rattle.edi_statuses.specs.Counts.{Counts, HasCause, IsBlamed, NoneFalls, OutputRose}
use Rattle.edi_statuses.specs.Outside.{Blamed, Outside, KernelLeft, Lent, blaming}
use Rattle.edi_told.specs.Told.{WhereTold}
use Rattle.edi_statuses.specs.OnFiles.{IsOfFiles}
use Rattle.edi_statuses.proofs.Causes.{output_rose}
use Rattle.edi_statuses.proofs.EachLeft.{each_same}
use Rattle.edi_statuses.proofs.Silent.{idle, nothing_shown}
use Rattle.edi_main.specs.disk.OnDisk.{IsOfDisk, MeansOnDisk, RestStays}
use Rattle.edi_main.specs.run.Blaming.{Blaming}
use Rattle.edi_main.specs.run.RunMeans.{replaying}
use Rattle.edi_main.proofs.run.Meaning.{replayed}
use Rattle.edi_statuses.specs.Lines.{text_of}
use Rattle.edi_statuses.specs.Facts.{DriveUse, leaves_drive, mounts_last, mounts_first, formats_to, facts_of}
use Rattle.edi_statuses.specs.EachObject.{CountsBlocks, CountsNew, CountsUsed, FitsCount, FitsGet, Handed, KeepsImage, LeavesEach, RunStays, UnmountedStay, UnusedStay}
use Rattle.edi_statuses.specs.EachObject.{asks_first, asks_last, command_does, comes_to, formats, handed, is_at_drive, is_unread, stops_by, stops_first, uses_devices, uses_drive}
use Rattle.edi_statuses.specs.EachObject.{uses_input, uses_kernel}
use Rattle.edi_statuses.specs.Always.{lent_from}
use Rattle.edi_statuses.specs.Decided.{Came, CameBlaming}

pub no_words : (f : Option commands.Command) (x : Option Command) → option_map view f ≡ x → f ≡ None → x ≡ None
no_words f x exact none = subst (λ y. y ≡ None) exact (subst (λ g. option_map view g ≡ None) (sym none) refl)

-- a command as the code has it
pub obeyed_so : (c d : commands.Command) (s : Status) (due : Bool) (before after : Outside) (kernel : Lent) → c ≡ d
    → Came s due (Some (view d)) before after kernel → Came s due (Some (view c)) before after kernel
obeyed_so c d s due before after kernel is came = subst (λ x. Came s due (Some (view x)) before after kernel) (sym is) came

-- so of a demonstration, whose number the code has in a wider form
pub obeyed_demo : (c : commands.Command) (n m : ℕ) (o : Options) (s : Status) (due : Bool) (before after : Outside) (kernel : Lent)
    → c ≡ command.Demo n o → m ≡ n → Came s due (Some (words.demo m (options_of o))) before after kernel
    → Came s due (Some (view c)) before after kernel
obeyed_demo c n m o s due before after kernel is same came =
    obeyed_so c (command.Demo n o) s due before after kernel is
    (subst (λ k. Came s due (Some (words.demo k (options_of o))) before after kernel) same came)

pub obeyed_demo_with : (c : commands.Command) (n m : ℕ) (account : Account) (o : Options) (s : Status) (due : Bool) (before after : Outside) (kernel : Lent)
    → c ≡ command.DemoWith n account o → m ≡ n → Came s due (Some (words.demo_with m (account_of account) (options_of o))) before after kernel
    → Came s due (Some (view c)) before after kernel
obeyed_demo_with c n m account o s due before after kernel is same came =
    obeyed_so c (command.DemoWith n account o) s due before after kernel is
    (subst (λ k. Came s due (Some (words.demo_with k (account_of account) (options_of o))) before after kernel) same came)

-- so of a replay, which is a run
pub obeyed_replay : (c : commands.Command) (file choices : Bor Text) (turns : ℕ) (o : Options) (s : Status) (due : Bool) (before after : Outside)
    (kernel : Lent) → c ≡ command.Replay file choices turns → options_of o ≡ replaying choices.now turns
    → Came s due (Some (words.run file.now (options_of o))) before after kernel → Came s due (Some (view c)) before after kernel
obeyed_replay c file choices turns o s due before after kernel is same came =
    obeyed_so c (command.Replay file choices turns) s due before after kernel is
    (replayed file.now choices.now turns s due before after kernel
    (subst (λ x. Came s due (Some (words.run file.now x)) before after kernel) same came))

-- so of one that shows nothing
pub obeyed : (c d : commands.Command) (meant s : Status) (due : Bool) (before after : Outside) (kernel : Lent) → c ≡ d → s ≡ meant → due ≡ false
    → Came meant false (Some (view d)) before after kernel → Came s due (Some (view c)) before after kernel
obeyed c d meant s due before after kernel is same silent came =
    subst (λ x. Came s due (Some (view x)) before after kernel) (sym is)
    (subst (λ t. Came t due (Some (view d)) before after kernel) (sym same)
    (subst (λ x. Came meant x (Some (view d)) before after kernel) (sym silent) came))

-- ---- what is blamed

-- a command that runs a program blames what has failed in it
pub came_run : (c : Option Command) (s : Status) (due : Bool) (before after : Outside) (had has : Counts) (was now : KernelLeft)
    → command_does uses_devices c ≡ true → HasCause s had has → (blamed : Blamed)
    → IsBlamed blamed s had.terminal has.terminal had.printer has.printer → Came s due c before after (blaming blamed (lent_from was now))
    → CameBlaming s due c before after had has (lent_from was now)
came_run c s due before after had has was now uses cause blamed is came =
    (blamed, (λ same. subst (λ u. OutputRose u blamed had has) (sym uses) (output_rose blamed s had has is cause same)), came)

-- so of a command as the code has it
pub run_so : (c d : commands.Command) (s : Status) (due : Bool) (before after : Outside) (had has : Counts) (was now : KernelLeft) → c ≡ d
    → uses_devices (view d) ≡ true → HasCause s had has
    → Blaming s had.terminal has.terminal had.printer has.printer (Came s due (Some (view d)) before after) (lent_from was now)
    → CameBlaming s due (Some (view c)) before after had has (lent_from was now)
run_so c d s due before after had has was now is uses cause came =
    came_run (Some (view c)) s due before after had has was now (ap (λ x. uses_devices (view x)) is ∙ uses) cause came.0 came.1
    (obeyed_so c d s due before after (blaming came.0 (lent_from was now)) is came.2)

-- another one blames none: of the output only the terminal can have failed
pub came_else : (c : Option Command) (s : Status) (due : Bool) (before after : Outside) (had has : Counts) (was now : KernelLeft)
    → command_does uses_devices c ≡ false → (s ≡ status.OutputFault → CountRose had.terminal has.terminal)
    → Came s due c before after (blaming None (lent_from was now)) → CameBlaming s due c before after had has (lent_from was now)
came_else c s due before after had has was now none rose came =
    (None, (λ same. subst (λ u. OutputRose u None had has) (sym none) (rose same)), came)

-- where a printer that never fails is no cause, the terminal is
pub terminal_rose : (s : Status) (had has : Counts) → has.printer ≡ 0 → HasCause s had has → s ≡ status.OutputFault
    → CountRose had.terminal has.terminal
terminal_rose s had has never cause same = elim (subst (λ x. HasCause x had has) same cause) [
  | inl rose ↦ rose
  | inr rose ↦ absurd (omega (arith, rose, never))
]

-- a command that shows nothing
pub never_on_files : (s t : Status) (had has : ℕ) → t ≡ s → IsOfFiles s → t ≡ status.OutputFault → CountRose had has
never_on_files s t had has is kind same = absurd (subst IsOfFiles (sym is ∙ same) kind)

pub never_on_disk : (s t : Status) (had has : ℕ) → t ≡ s → IsOfDisk s → t ≡ status.OutputFault → CountRose had has
never_on_disk s t had has is kind same = absurd (subst IsOfDisk (sym is ∙ same) kind)

pub never_output : (s t : Status) (A : Type 0) → t ≡ s → (s ≡ status.OutputFault → ⊥) → t ≡ status.OutputFault → A
never_output s t A is other same = absurd (other (sym is ∙ same))

pub never_so : (s t : Status) (had has : ℕ) → t ≡ s → (s ≡ status.OutputFault → ⊥) → t ≡ status.OutputFault → CountRose had has
never_so s t had has is other same = absurd (other (sym is ∙ same))

-- ---- commands that touch the files and the drive alone

abbrev pub with_disk : Option Contents → Option (List (List ℕ)) → Outside → Outside
with_disk files blocks o = record { files = files; blocks = blocks; input = o.input; shown = o.shown; printed = o.printed }

pub on_disk : (c : Command) (s : Status) (before : Outside) (files : Option Contents) (blocks : Option (List (List ℕ))) (kernel : KernelLeft)
    → MeansOnDisk c s before.files files before.blocks blocks → (formats c ≡ false → WhereTold before.blocks blocks KeepsImage)
    → Came s false (Some c) before (with_disk files blocks before) (idle kernel)
on_disk c s before files blocks kernel means keeps =
    let rest_stays : LeavesEach (Some c) before before = each_same (Some c) before before refl refl refl in
    let rest : RestStays before (with_disk files blocks before) (idle kernel) = record { input = refl; printed = refl; kernel_same = refl } in
    record {
      shown = [];
      means = means before (with_disk files blocks before) (idle kernel) refl refl refl refl rest;
      shows = nothing_shown before.shown;
      due_is = refl;
      each = record { drive = keeps; input = rest_stays.input; printer = rest_stays.printer };
    }

-- ---- the number of blocks

-- a fault of the output stands for a status of `newdisk` whose line was not shown
cut_short : (s t : Status) (wanted old new had has : ℕ) → t ≡ status.OutputFault → (text_of s ≡ None → t ≡ s) → (s ≡ status.DriveFault → CountRose had has)
    → CountsNew s wanted old new had has → (new ≡ old) ⊎ CountRose had has
cut_short status.Ok t wanted old new had has fault silent cause h =
    let never : status.OutputFault ≡ status.Ok = sym fault ∙ silent refl in absurd (cc)
cut_short status.DriveFault t wanted old new had has fault silent cause h = inr (cause refl)
cut_short status.OutputFault t wanted old new had has fault silent cause h = h
cut_short s t wanted old new had has fault silent cause h = inl h

fits_closed : (s t : Status) (count : ℕ) → (t ≡ s) ⊎ (t ≡ status.OutputFault) → FitsCount s count → FitsCount t count
fits_closed s t count (inl same) h = subst (λ x. FitsCount x count) (sym same) h
fits_closed s t count (inr fault) h = subst (λ x. FitsCount x count) (sym fault) tt

get_closed : (s t : Status) (count : ℕ) → (t ≡ s) ⊎ (t ≡ status.OutputFault) → FitsGet s count → FitsGet t count
get_closed s t count (inl same) h = subst (λ x. FitsGet x count) (sym same) h
get_closed s t count (inr fault) h = subst (λ x. FitsGet x count) (sym fault) tt

used_closed : (drive : DriveUse) (s t : Status) (old new had has : ℕ) → (t ≡ s) ⊎ (t ≡ status.OutputFault) → (text_of s ≡ None → t ≡ s)
    → (s ≡ status.DriveFault → CountRose had has) → CountsUsed drive s old new had has → CountsUsed drive t old new had has
used_closed leaves_drive s t old new had has which silent cause h = h
used_closed mounts_last s t old new had has which silent cause h = (h.0, fits_closed s t old which h.1)
used_closed mounts_first s t old new had has which silent cause h = (h.0, get_closed s t old which h.1)
used_closed (formats_to blocks) s t old new had has (inl same) silent cause h =
    subst (λ x. CountsNew x blocks old new had has) (sym same) h
used_closed (formats_to blocks) s t old new had has (inr fault) silent cause h =
    subst (λ x. CountsNew x blocks old new had has) (sym fault) (cut_short s t blocks old new had has fault silent cause h)

-- the status of a command is answered, or a fault of the output in its place
pub counts_closed : (c : Option Command) (s t : Status) (old new had has : ℕ) → (t ≡ s) ⊎ (t ≡ status.OutputFault) → (text_of s ≡ None → t ≡ s)
    → (s ≡ status.DriveFault → CountRose had has) → CountsBlocks c s old new had has → CountsBlocks c t old new had has
counts_closed None s t old new had has which silent cause h = h
counts_closed (Some c) s t old new had has which silent cause h = used_closed (facts_of c).drive s t old new had has which silent cause h

-- a fault of the drive has its cause
pub drive_rose : (s : Status) (had has : Counts) → NoneFalls had has → HasCause s had has → s ≡ status.DriveFault → CountRose had.drive has.drive
drive_rose s had has later cause is = subst (λ x. HasCause x had has) is cause

-- words that are none leave the drive alone
pub counts_of_none : (c : Option Command) (s : Status) (n had : ℕ) → c ≡ None → CountsBlocks c s n n had had
counts_of_none c s n had none = subst (λ x. CountsBlocks x s n n had had) (sym none) refl

-- where memory ran out before the words were read, no command has begun
used_unread : (drive : DriveUse) (n had : ℕ) → CountsUsed drive status.NoMemory n n had had
used_unread leaves_drive n had = refl
used_unread mounts_last n had = (refl, tt)
used_unread mounts_first n had = (refl, tt)
used_unread (formats_to blocks) n had = refl

pub counts_unread : (c : Option Command) (s : Status) (n had : ℕ) → s ≡ status.NoMemory → CountsBlocks c s n n had had
counts_unread None s n had is = refl
counts_unread (Some c) s n had is = subst (λ x. CountsUsed (facts_of c).drive x n n had had) (sym is) (used_unread (facts_of c).drive n had)

-- a command as the code has it, and its status
pub counts_so : (c d : commands.Command) (meant s : Status) (old new had has : ℕ) → c ≡ d → s ≡ meant
    → CountsBlocks (Some (view d)) meant old new had has → CountsBlocks (Some (view c)) s old new had has
counts_so c d meant s old new had has is same h =
    subst (λ x. CountsBlocks (Some (view x)) s old new had has) (sym is)
    (subst (λ t. CountsBlocks (Some (view d)) t old new had has) (sym same) h)

-- ---- what is not touched

-- a command as the code has it, and its status
pub untouched_so : {F D S T P K : Type 0} (c d : commands.Command) (meant s : Status) (before after : Handed F D S T P K) → c ≡ d → s ≡ meant
    → UnusedStay (Some (view d)) meant before after → UnusedStay (Some (view c)) s before after
untouched_so c d meant s before after is same h =
    subst (λ x. UnusedStay (Some (view x)) s before after) (sym is)
    (subst (λ t. UnusedStay (Some (view d)) t before after) (sym same) h)

-- a fault of the output is no status of a step
never_first : (drive : DriveUse) → stops_by drive status.OutputFault ≡ false
never_first leaves_drive = refl
never_first mounts_last = refl
never_first mounts_first = refl
never_first (formats_to blocks) = refl

none_comes : (uses stops never : Bool) → never ≡ false → (uses && not never) ≡ false → (uses && not stops) ≡ false
none_comes false stops never is h = refl
none_comes true stops true is h = absurd (true≢false is)
none_comes true stops false is h = absurd (true≢false h)

comes_less : (uses : Command → Bool) (c : Option Command) (s t : Status) → (t ≡ s) ⊎ (t ≡ status.OutputFault) → comes_to uses c t ≡ false
    → comes_to uses c s ≡ false
comes_less uses c s t (inl same) h = subst (λ x. comes_to uses c x ≡ false) same h
comes_less uses None s t (inr fault) h = refl
comes_less uses (Some c) s t (inr fault) h =
    none_comes (uses c) (stops_first c s) (stops_first c status.OutputFault) (never_first (facts_of c).drive)
    (subst (λ x. comes_to uses (Some c) x ≡ false) fault h)

-- the status of a command is answered, or a fault of the output in its place
pub untouched_closed : {F D S T P K : Type 0} (c : Option Command) (s t : Status) (before : Handed F D S T P K) (f : F) (d : D) (i : S) (w w' : T)
    (p : P) (k : K) → (t ≡ s) ⊎ (t ≡ status.OutputFault) → UnusedStay c s before (handed f d i w p k) → UnusedStay c t before (handed f d i w' p k)
untouched_closed c s t before f d i w w' p k which h = record {
  files = h.files;
  drive = λ none. h.drive (comes_less uses_drive c s t which none);
  input = λ none. h.input (comes_less uses_input c s t which none);
  printer = λ none. h.printer (comes_less uses_devices c s t which none);
  kernel = λ none. h.kernel (comes_less uses_kernel c s t which none);
}

-- ---- where the drive is no valid image

-- a command as the code has it, and its status
pub unmounted_so : {F D S T P K : Type 0} (c d : commands.Command) (meant s : Status) (before after : Handed F D S T P K) → c ≡ d → s ≡ meant
    → UnmountedStay (Some (view d)) meant before after → UnmountedStay (Some (view c)) s before after
unmounted_so c d meant s before after is same h =
    subst (λ x. UnmountedStay (Some (view x)) s before after) (sym is)
    (subst (λ t. UnmountedStay (Some (view d)) t before after) (sym same) h)

-- of one that mounts it last
pub unmounted_last : {F D S T P K : Type 0} (c : Command) (s : Status) (before after : Handed F D S T P K) → asks_first c ≡ false
    → (is_at_drive s ≡ true → RunStays before after) → UnmountedStay (Some c) s before after
unmounted_last c s before after never stays =
    record { last = λ asks at. stays at; first = λ asks at. absurd (true≢false (sym asks ∙ never)) }

-- of one that does not mount it
pub unmounted_never : {F D S T P K : Type 0} (c : Command) (s : Status) (before after : Handed F D S T P K) → asks_last c ≡ false → asks_first c ≡ false
    → UnmountedStay (Some c) s before after
unmounted_never c s before after never none =
    record { last = λ asks at. absurd (true≢false (sym asks ∙ never)); first = λ asks at. absurd (true≢false (sym asks ∙ none)) }

-- where nothing is touched
pub none_unmounted : {F D S T P K : Type 0} (c : Option Command) (s : Status) (before : Handed F D S T P K) → UnmountedStay c s before before
none_unmounted c s before = record { last = λ asks at. record { input = refl; printer = refl; kernel = refl }; first = λ asks at. refl }

-- a fault of the output is none of these statuses
seen_in : (test : Status → Bool) (s t : Status) → test status.OutputFault ≡ false → (t ≡ s) ⊎ (t ≡ status.OutputFault) → test t ≡ true → test s ≡ true
seen_in test s t never (inl same) h = subst (λ x. test x ≡ true) same h
seen_in test s t never (inr fault) h = absurd (true≢false (sym (subst (λ x. test x ≡ true) fault h) ∙ never))

pub unmounted_closed : {F D S T P K : Type 0} (c : Option Command) (s t : Status) (before : Handed F D S T P K) (f : F) (d : D) (i : S) (w w' : T)
    (p : P) (k : K) → (t ≡ s) ⊎ (t ≡ status.OutputFault) → UnmountedStay c s before (handed f d i w p k) → UnmountedStay c t before (handed f d i w' p k)
unmounted_closed c s t before f d i w w' p k which h = record {
  last = λ asks at.
      let stays = h.last asks (seen_in is_at_drive s t refl which at) in
      record { input = stays.input; printer = stays.printer; kernel = stays.kernel };
  first = λ asks at. h.first asks (seen_in is_unread s t refl which at);
}
