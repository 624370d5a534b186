-- Words of contracts. A file that a command asks for.
use Rattle.std.specs.Prelude.{◌≡◌, ◌⊎◌, ℕ, List, [], ◌++◌, take, Option, Some, None, Result, Ok, Err, codes}
use Rattle.edi_calls.specs.declared.ends.Outside.{Outside}
use Rattle.edi_calls.specs.declared.kinds.FileKind.{FileKind}
use Rattle.edi_calls.specs.declared.kinds.FileKind.TheVariants as file_kind
use Rattle.edi_calls.specs.State.{File, State}
use Rattle.edi_catalog.specs.declared.entry.Entry.{Entry}
use Rattle.edi_catalog.specs.InSlots.{entry_told}
use Rattle.edi_target.specs.declared.code_fault.CodeFault.{CodeFault}
use Rattle.edi_target.specs.declared.code_fault.CodeFault.TheVariants as code
use Rattle.edi_session.specs.declared.end.SessionEnd.{SessionEnd}
use Rattle.edi_session.specs.Shell.{Shell, says}
use Rattle.edi_session.specs.Texts.{about, file_line}
use Rattle.edi_shell_io.specs.calls.Standing.{At, StandsIn}

-- the line of a slot in the list of the files
abbrev pub slot_line : Option File → List ℕ
slot_line None = []
slot_line (Some file) = file_line file ++ codes "\n"

-- what is said of a file of another kind than the one that is asked for, if one is
abbrev pub wrong : Option FileKind → FileKind → Option (List ℕ)
wrong None kind = None
wrong (Some file_kind.Text) file_kind.Text = None
wrong (Some file_kind.Text) file_kind.Code = Some (codes "not text")
wrong (Some file_kind.Code) file_kind.Text = Some (codes "not code")
wrong (Some file_kind.Code) file_kind.Code = None

-- the shell at which it is refused, where it is
abbrev pub refused_kind : Option (List ℕ) → (f : List ℕ) → Shell → Option Shell
refused_kind None f s = None
refused_kind (Some text) f s = Some (says (about text f) s)

abbrev pub refused : Option FileKind → Option File → (f : List ℕ) → Shell → Option Shell
refused wanted None f s = Some (says (about (codes "no file") f) s)
refused wanted (Some file) f s = refused_kind (wrong wanted file.kind) f s

-- what is said where no code was loaded
abbrev pub code_refusal : (f : List ℕ) → CodeFault → List ℕ
code_refusal f code.NoMemory = codes "no memory"
code_refusal f (code.Short at) = about (codes "bad code") f
code_refusal f (code.Over at) = about (codes "bad code") f
code_refusal f (code.Header at found) = about (codes "bad code") f
code_refusal f (code.Operation at found) = about (codes "bad code") f
code_refusal f (code.Jump at target) = about (codes "bad code") f

-- the file that is asked for
pub record IsOpened (wanted : Option FileKind) (file : Option File) (opened : File) : Type 0 where
  pub is : file ≡ Some opened
  pub right : wrong wanted opened.kind ≡ None

module _ {C : Type 0} (at : C → State → ℕ → Type 0) (stands : C → Outside → State → Type 0) where
  -- the refusal was shown, or an object failed in it
  pub record WasRefused (wanted : Option FileKind) (file : Option File) (f : List ℕ) (s : Shell) (c : C) : Type 0 where
    pub after : Shell
    pub is : refused wanted file f s ≡ Some after
    pub at_ : At at c after

  pub record RefusalBroke (wanted : Option FileKind) (file : Option File) (f : List ℕ) (s : Shell) (c : C) : Type 0 where
    pub after : Shell
    pub is : refused wanted file f s ≡ Some after
    pub in_ : StandsIn stands after c

  -- there is such a file; or why there is none was shown
  abbrev pub Opens : Result (Option Entry) SessionEnd → Option FileKind → Option File → (f : List ℕ) → Shell → C → Type 0
  Opens (Ok (Some entry)) wanted file f s c = (opened : File) × IsOpened wanted file opened × (entry ≡ entry_told opened) × At at c s
  Opens (Ok None) wanted file f s c = WasRefused wanted file f s c
  Opens (Err e) wanted file f s c = RefusalBroke wanted file f s c

  -- its bytes were read
  abbrev pub Reads : Result (Option (FileKind × ℕ)) SessionEnd → Option FileKind → Option File → (f into : List ℕ) → Shell → C → Type 0
  Reads (Ok (Some read)) wanted file f into s c =
      (opened : File) × IsOpened wanted file opened × (read.0 ≡ opened.kind) × (take read.1 into ≡ opened.bytes) × At at c s
  Reads (Ok None) wanted file f into s c = WasRefused wanted file f s c
  Reads (Err e) wanted file f into s c = RefusalBroke wanted file f s c ⊎ ((opened : File) × IsOpened wanted file opened × StandsIn stands s c)
