-- Each step comes to something, where contents are told: it goes on, or it stops at a status that they decide.
use Rattle.std.proofs.Common.{◌≡◌, ℕ, Bool, true, false, List, [], Option, Some, None, Result, Ok, Err, option_map, refl, ap, inl, inr}
use Rattle.std.specs.Prelude.{◌-◌, length, nat_le, ⊤}
use Rattle.std.specs.FinMap as map
use Rattle.edi_calls.specs.State as state
use Rattle.edi_calls.specs.State.{File, find_file, most_bytes}
use Rattle.edi_host.specs.BytesAsBlocks.{blocks_of}
use Rattle.edi_host.specs.Contents.{Contents}
use Rattle.edi_image.specs.declared.faults.MountFault.{MountFault}
use Rattle.edi_image.specs.Image.{mount_fault_of, slots_of}
use Rattle.edi_image.specs.migrate.OldImage.{old_fault_of, old_slots_of}
use Rattle.edi_lex.specs.declared.symbol.Mark.{Mark}
use Rattle.edi_lex.specs.declared.fault.LexFault.{LexFault}
use Rattle.edi_lex.specs.Symbols.{symbols_of}
use Rattle.edi_target.specs.declared.code_fault.CodeFault.{CodeFault}
use Rattle.edi_target.specs.File.{code_fault_of, code_of}
use Rattle.edi_trace.specs.Lines.{Reading, values, bad_line, read_of}
use Rattle.edi_calls.specs.Choice.{listed, seeded}
use Rattle.edi_tree.specs.Tree.{Program}
use Rattle.edi_debug.specs.Points as points
use Rattle.edi_texts.specs.Texts.{AreAccepted, IsUnit}
use Rattle.edi_texts.proofs.Thing.{one_thing}
use Rattle.edi_unit.specs.Tree.{ProgramUnit}
use Rattle.edi_runs.specs.watch.Logs.{AreOfTree}
use Rattle.edi_words.specs.Words.{ChoicesFrom, nowhere, file, seed}
use Rattle.edi_statuses.specs.declared.status.Status.{Status}
use Rattle.edi_statuses.specs.declared.status.Status.TheVariants as status
use Rattle.edi_statuses.specs.Outside.{Devices}
use Rattle.edi_statuses.specs.Steps.{AfterStep, goes, stops, ◌>>=◌, Ready, Fetches, GivesChoices, ReadsChoices, Accepts, Mounts, Loads, ChecksOld}
use Rattle.edi_statuses.specs.Steps.{FindsPoints, GivesPoints, Tests}
use Rattle.edi_statuses.specs.Sessions.{BootSteps}
use Rattle.edi_statuses.specs.Commands.{HasPlace, ReadsTitle, is_full, RunSteps, ExecSteps, WatchSteps, TextSteps, OldSteps, PutSteps, GetSteps}
use Rattle.edi_statuses.specs.Commands.{ListSteps}
use Rattle.edi_statuses.specs.Decided.{IsDecisive}
use Rattle.edi_statuses.specs.Always.{told_outside}
use Rattle.edi_statuses.proofs.always.Rules.{IsRule, mount_is_rule, old_is_rule}

abbrev IsFine : {A : Type 0} → AfterStep A → Type 0
IsFine (goes a) = ⊤
IsFine (stops s) = IsDecisive s

-- it comes to something
abbrev pub ComesTo : {A : Type 0} → (AfterStep A → Type 0) → Type 0
ComesTo {A = A} step = (r : AfterStep A) × step r × IsFine r

pub then_some : {A B : Type 0} (step : AfterStep A → Type 0) (more : A → AfterStep B → Type 0) → ComesTo step
    → ((a : A) → step (goes a) → ComesTo (more a)) → ComesTo (step >>= more)
then_some step more (stops s, h, fine) f = (stops s, inl h, fine)
then_some step more (goes a, h, fine) f = let k = f a h in (k.0, inr (a, h, k.1), k.2)

pub ready_some : {A : Type 0} (a : A) → ComesTo (Ready a)
ready_some a = (goes a, refl, tt)

-- ---- steps that look at no object

gives_some : (reading : Reading) → ComesTo (GivesChoices reading)
gives_some (values list) = (goes (listed list), refl, tt)
gives_some (bad_line n) = (stops (status.BadChoices n), refl, tt)

accepts_some : (text : List ℕ) → ComesTo (Accepts text)
accepts_some text = elim (one_thing.some_thing text) [
  | inl fault ↦ (stops (status.Refused fault.1 fault.2), (fault.1, fault.2, refl, (fault.0, fault.3)), tt)
  | inr unit ↦ (goes unit.0, unit.1, tt)
]

points_some : (reading : points.Reading) → ComesTo (GivesPoints reading)
points_some (points.read found) = (goes found, refl, tt)
points_some (points.bad_line n) = (stops (status.BadPoints n), refl, tt)

-- an accepted text is that of a program
tree_of : (known : Result (List Mark × ℕ) LexFault) (unit : ProgramUnit) → AreAccepted known unit → (tree : Program) × AreOfTree known tree
tree_of (Err fault) unit h = absurd h
tree_of (Ok known) unit h = (h.tree, h.tree_is)

finds_some : (text lines : List ℕ) (unit : ProgramUnit) → IsUnit text unit → ComesTo (FindsPoints text lines)
finds_some text lines unit is =
    let tree = tree_of (symbols_of text) unit is in
    let k = points_some (points.read_of tree.0 lines) in
    (k.0, (tree.0, tree.1, k.1), k.2)

loads_some : (bytes : List ℕ) → ComesTo (Loads bytes)
loads_some bytes = go (code_fault_of bytes) refl
  where
    go : (x : Option CodeFault) → code_fault_of bytes ≡ x → ComesTo (Loads bytes)
    go None e = (goes (code_of bytes), (e, refl), tt)
    go (Some broken) e = (stops (status.BadCode broken), (broken, refl, e), tt)

old_some : (bytes : List ℕ) → ComesTo (ChecksOld bytes)
old_some bytes = go (old_fault_of (blocks_of bytes)) refl (old_is_rule (blocks_of bytes))
  where
    go : (x : Option MountFault) → old_fault_of (blocks_of bytes) ≡ x → IsRule x → ComesTo (ChecksOld bytes)
    go None e r = (goes (blocks_of bytes), (refl, e), tt)
    go (Some broken) e r = (stops (status.BadImage broken), (broken, refl, e, r), tt)

tests_some : (passes : Bool) (refusal : Status) → IsDecisive refusal → ComesTo (Tests passes refusal)
tests_some true refusal fine = (goes tt, refl, tt)
tests_some false refusal fine = (stops refusal, (refl, refl), fine)

module _ (files : Contents) (d : Devices) where
  -- ---- steps that look at files and the drive

  pub fetches_some : (name : List ℕ) → ComesTo (Fetches (told_outside files d) name)
  fetches_some name = go (map.get files name) refl
    where
      go : (x : Option (List ℕ)) → map.get files name ≡ x → ComesTo (Fetches (told_outside files d) name)
      go None e = (stops status.Absent, (refl, e), tt)
      go (Some bytes) e = (goes bytes, e, tt)

  pub choices_some : (from : ChoicesFrom) → ComesTo (ReadsChoices (told_outside files d) from)
  choices_some nowhere = ready_some (listed [])
  choices_some (file name) = then_some _ _ (fetches_some name) (λ bytes h. gives_some (read_of bytes))
  choices_some (seed n) = ready_some (seeded n)

  mounts_some : ComesTo (Mounts (told_outside files d))
  mounts_some = go (mount_fault_of d.blocks) refl (mount_is_rule d.blocks)
    where
      go : (x : Option MountFault) → mount_fault_of d.blocks ≡ x → IsRule x → ComesTo (Mounts (told_outside files d))
      go None e r = (goes tt, e, tt)
      go (Some broken) e r = (stops (status.BadImage broken), (broken, refl, e, r), tt)

  place_some : (title : List ℕ) (size : ℕ) → ComesTo (HasPlace (told_outside files d) title size)
  place_some title size = go (is_full d.blocks title size) refl
    where
      go : (b : Bool) → is_full d.blocks title size ≡ b → ComesTo (HasPlace (told_outside files d) title size)
      go false e = (goes tt, e, tt)
      go true e = (stops status.DiskFull, (refl, e), tt)

  title_some : (title : List ℕ) → ComesTo (ReadsTitle (told_outside files d) title)
  title_some title = go (find_file (slots_of d.blocks) title) refl
    where
      go : (x : Option File) → find_file (slots_of d.blocks) title ≡ x → ComesTo (ReadsTitle (told_outside files d) title)
      go None e = (stops status.Absent, (refl, e), tt)
      go (Some f) e = (goes f.bytes, ap (option_map (λ (g : File). g.bytes)) e, tt)

  -- ---- the steps of the commands

  pub run_some : (name : List ℕ) (from : ChoicesFrom) → ComesTo (RunSteps (told_outside files d) name from)
  run_some name from =
      then_some _ _ (fetches_some name) (λ bytes h. then_some _ _ (choices_some from)
      (λ choices k. then_some _ _ (accepts_some bytes) (λ unit u. then_some _ _ mounts_some (λ done m. ready_some (bytes, choices)))))

  pub exec_some : (name : List ℕ) (from : ChoicesFrom) → ComesTo (ExecSteps (told_outside files d) name from)
  exec_some name from =
      then_some _ _ (fetches_some name) (λ bytes h. then_some _ _ (choices_some from)
      (λ choices k. then_some _ _ (loads_some bytes) (λ parts u. then_some _ _ mounts_some (λ done m. ready_some (parts, choices)))))

  pub watch_some : (name points_name : List ℕ) (from : ChoicesFrom) → ComesTo (WatchSteps (told_outside files d) name points_name from)
  watch_some name points_name from =
      then_some _ _ (then_some _ _ (fetches_some name) (λ bytes h. then_some _ _ (choices_some from)
      (λ choices k. then_some _ _ (accepts_some bytes) (λ unit u. then_some _ _ (fetches_some points_name)
      (λ lines l. then_some _ _ (finds_some bytes lines unit u) (λ found p. ready_some (bytes, choices, found)))))))
      (λ a w. then_some _ _ mounts_some (λ done m. ready_some a))

  pub text_some : (name : List ℕ) → ComesTo (TextSteps (told_outside files d) name)
  text_some name =
      then_some _ _ (fetches_some name) (λ bytes h. then_some _ _ (accepts_some bytes) (λ unit u. ready_some (bytes, unit)))

  pub old_steps_some : (blocks : ℕ) (name : List ℕ) → ComesTo (OldSteps (told_outside files d) blocks name)
  old_steps_some blocks name =
      then_some _ _ (fetches_some name) (λ bytes h. then_some _ _ (old_some bytes)
      (λ old o. then_some _ _ (tests_some (nat_le (state.blocks_taken (old_slots_of old)) (blocks - 33)) status.DiskFull tt) (λ done m. ready_some old)))

  pub put_some : (name title : List ℕ) → ComesTo (PutSteps (told_outside files d) name title)
  put_some name title =
      then_some _ _ (fetches_some name) (λ bytes h. then_some _ _ (tests_some (nat_le (length bytes) most_bytes) status.FileLarge tt)
      (λ fits t. then_some _ _ mounts_some (λ done m. then_some _ _ (place_some title (length bytes)) (λ room p. ready_some bytes))))

  pub get_some : (title : List ℕ) → ComesTo (GetSteps (told_outside files d) title)
  get_some title = then_some _ _ mounts_some (λ done m. title_some title)

  pub list_some : (name : List ℕ) → ComesTo (ListSteps (told_outside files d) name)
  list_some name = then_some _ _ (fetches_some name) (λ bytes h. loads_some bytes)

  pub boot_some : (from : ChoicesFrom) → ComesTo (BootSteps (told_outside files d) from)
  boot_some from = then_some _ _ (choices_some from) (λ choices k. then_some _ _ mounts_some (λ done m. ready_some choices))
