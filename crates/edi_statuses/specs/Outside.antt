-- Definition. What the five objects outside tell of their contents before a call and behind it, and the words for what a
-- call leaves of them. Every word speaks of contents where they are told.
use Rattle.std.specs.Prelude.{IfSome, ◌≡◌, ℕ, List, [], ◌∷◌, ◌++◌, length, Option, Some, None, IsSome}
use Rattle.std.specs.FinMap as map
use Rattle.std.specs.Option.{option_map, option_and_then}
use Rattle.edi_told.specs.Told.{WhereTold}
use Rattle.edi_host.specs.Contents.{Contents}
use Rattle.edi_calls.specs.declared.ends.Outside as failing
use Rattle.edi_calls.specs.Outcome.{Outcome}
use Rattle.edi_calls.specs.State.{File, State}
use Rattle.edi_image.specs.Image.{Holds}
use Rattle.edi_system.specs.Begun.{state_begun}

-- the files by their names; the drive's blocks; what is left of the input; what the terminal and the printer have taken
pub record Outside : Type 0 where
  pub files : Option Contents
  pub blocks : Option (List (List ℕ))
  pub input : Option (List ℕ)
  pub shown : Option (List ℕ)
  pub printed : Option (List ℕ)

-- the outside that tells this
abbrev pub outside_with : (files : Option Contents) → (blocks : Option (List (List ℕ))) → (input shown printed : Option (List ℕ)) → Outside
outside_with files blocks input shown printed =
    record { files = files; blocks = blocks; input = input; shown = shown; printed = printed }

-- what these objects tell
abbrev pub outside_of : {F D S T P : Type 0} → (F → Option Contents) → (D → Option (List (List ℕ))) → (S → Option (List ℕ))
    → (T → Option (List ℕ)) → (P → Option (List ℕ)) → F → D → S → T → P → Outside
outside_of kept contents left taken printed files drive input terminal printer =
    outside_with (kept files) (contents drive) (left input) (taken terminal) (printed printer)

-- What is told at one moment, where it is told at a later one too. Of contents that an object no longer tells behind a call
-- nothing is said, since no call on it has said anything of them.
abbrev pub still_told : {A : Type 0} → Option A → Option A → Option A
still_told before None = None
still_told before (Some now) = before

-- so of all objects
abbrev pub seen : (before after : Outside) → Outside
seen before after = record {
  files = still_told before.files after.files;
  blocks = still_told before.blocks after.blocks;
  input = still_told before.input after.input;
  shown = still_told before.shown after.shown;
  printed = still_told before.printed after.printed;
}

-- ---- files of the host

-- a file has this name and these bytes
abbrev pub IsFile : Outside → List ℕ → List ℕ → Type 0
IsFile o name bytes = IfSome o.files (λ files. map.get files name ≡ Some bytes)

-- no file has this name
abbrev pub IsNoFile : Outside → List ℕ → Type 0
IsNoFile o name = IfSome o.files (λ files. map.get files name ≡ None)

-- a file has this name
abbrev pub IsSomeFile : Outside → List ℕ → Type 0
IsSomeFile o name = IfSome o.files (λ files. IsSome (map.get files name))

-- a name and the bytes that are kept under it
abbrev pub Kept : Type 0
Kept = List ℕ × List ℕ

abbrev pub with_kept : List Kept → Contents → Contents
with_kept [] files = files
with_kept (kept ∷ more) files = with_kept more (map.insert files kept.0 kept.1)

-- these are kept, one after another, and all other files are as before
abbrev pub Keeps : Outside → Outside → List Kept → Type 0
Keeps before after kept = WhereTold before.files after.files (λ old new. new ≡ with_kept kept old)

abbrev pub SameFiles : Outside → Outside → Type 0
SameFiles before after = Keeps before after []

abbrev pub without_names : List (List ℕ) → Contents → Contents
without_names [] files = files
without_names (name ∷ names) files = without_names names (map.remove files name)

-- all files are as before but for those of these names
abbrev pub SameBut : List (List ℕ) → Outside → Outside → Type 0
SameBut names before after = WhereTold before.files after.files (λ old new. without_names names new ≡ without_names names old)

-- ---- the other objects

abbrev pub SameBlocks : Outside → Outside → Type 0
SameBlocks before after = WhereTold before.blocks after.blocks (λ old new. new ≡ old)

abbrev pub SameInput : Outside → Outside → Type 0
SameInput before after = WhereTold before.input after.input (λ old new. new ≡ old)

abbrev pub SamePrinted : Outside → Outside → Type 0
SamePrinted before after = WhereTold before.printed after.printed (λ old new. new ≡ old)

-- but for the terminal all is as before
pub record IsAsBefore (before after : Outside) : Type 0 where
  pub files : SameFiles before after
  pub blocks : SameBlocks before after
  pub input : SameInput before after
  pub printed : SamePrinted before after

-- the terminal has taken these bytes more
abbrev pub Shows : Outside → Outside → List ℕ → Type 0
Shows before after bytes = WhereTold before.shown after.shown (λ old new. new ≡ old ++ bytes)

-- ---- the devices that a program sees, where all four tell their contents

pub record Devices : Type 0 where
  pub blocks : List (List ℕ)
  pub input : List ℕ
  pub shown : List ℕ
  pub printed : List ℕ

abbrev pub devices_with : List (List ℕ) → (input shown printed : List ℕ) → Devices
devices_with blocks input shown printed = record { blocks = blocks; input = input; shown = shown; printed = printed }

abbrev pub devices_of : Outside → Option Devices
devices_of o =
    option_and_then (λ blocks. option_and_then (λ input. option_and_then (λ shown.
    option_map (devices_with blocks input shown) o.printed) o.shown) o.input) o.blocks

-- the state of the system over these devices, with no file open
abbrev pub system_on : Devices → State
system_on d = state_begun d.blocks d.input d.shown d.printed

-- the devices before are those of `d`, and behind the call have just this, where these bytes were shown in it; the drive has as many
-- blocks as before
pub record DevicesHave (left all prints : List ℕ) (slots : List (Option File)) (d after : Devices) (shown : List ℕ) : Type 0 where
  pub input : after.input ≡ left
  pub shown_ : d.shown ++ shown ≡ all
  pub printed : after.printed ≡ prints
  pub disk : Holds after.blocks slots
  pub count : length after.blocks ≡ length d.blocks

-- what this state has
abbrev pub DevicesAreAt : State → (d after : Devices) → (shown : List ℕ) → Type 0
DevicesAreAt state = DevicesHave state.input state.shown state.printed state.slots

-- what this outcome leaves
abbrev pub OutcomeLeaves : Outcome → (d after : Devices) → (shown : List ℕ) → Type 0
OutcomeLeaves outcome = DevicesHave outcome.input outcome.shown outcome.printed outcome.slots

-- ---- the kernel that was lent

-- the words of its store, and the turns of its last run
pub record KernelLeft : Type 0 where
  pub words : List ℕ
  pub used : ℕ

abbrev pub kernel_of : (words : List ℕ) → (used : ℕ) → KernelLeft
kernel_of words used = record { words = words; used = used }

-- the object that is blamed, or none
abbrev pub Blamed : Type 0
Blamed = Option failing.Outside

-- What a command was lent: the kernel, before the call and behind it; and the object that is blamed for the end of the command, if one is.
pub record Lent : Type 0 where
  pub before : KernelLeft
  pub after : KernelLeft
  pub failed : Blamed

-- no object is blamed
abbrev pub lent : (old_words : List ℕ) → (old_used : ℕ) → (words : List ℕ) → (used : ℕ) → Lent
lent old_words old_used words used = record { before = kernel_of old_words old_used; after = kernel_of words used; failed = None }

-- this object is blamed, or none
abbrev pub blaming : Blamed → Lent → Lent
blaming failed kernel = record { before = kernel.before; after = kernel.after; failed = failed }

-- a kernel that was left alone
abbrev pub idle : KernelLeft → Lent
idle kernel = record { before = kernel; after = kernel; failed = None }
