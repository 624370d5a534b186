-- Definition. The line of each status.
use Rattle.std.specs.Prelude.{ℕ, Bool, List, [], ◌++◌, Option, Some, None, codes}
use Rattle.edi_image.specs.declared.faults.MountFault.{MountFault}
use Rattle.edi_image.specs.declared.faults.MountFault.TheVariants as mount
use Rattle.edi_target.specs.declared.code_fault.CodeFault.{CodeFault}
use Rattle.edi_target.specs.declared.code_fault.CodeFault.TheVariants as code
use Rattle.edi_texts.specs.Kinds.{kind_text}
pub use Rattle.edi_texts.specs.Lines.{cause_text, on_line, with_number, last_of, is_due_behind, is_due, feed, line_end}
use Rattle.edi_statuses.specs.declared.status.Status.{Status}
use Rattle.edi_statuses.specs.declared.status.Status.TheVariants as status

-- ---- texts

-- the first rule of an image that is broken; the last two are told by statuses of their own
abbrev pub image_text : MountFault → List ℕ
image_text mount.Short = codes "bad image short"
image_text mount.Header = codes "bad image header"
image_text (mount.Entry slot) = with_number (codes "bad image entry") slot
image_text (mount.Page slot block) = with_number (with_number (codes "bad image page") slot) block
image_text (mount.Shared block) = with_number (codes "bad image shared") block
image_text mount.Fault = codes "drive fault"
image_text mount.NoMemory = codes "no memory"

-- the first fault of a code file; the last one is told by a status of its own
abbrev pub code_text : CodeFault → List ℕ
code_text (code.Short at) = with_number (codes "bad code short") at
code_text (code.Over at) = with_number (codes "bad code over") at
code_text (code.Header at found) = with_number (codes "bad code header") at
code_text (code.Operation at found) = with_number (codes "bad code operation") at
code_text (code.Jump at target) = with_number (codes "bad code jump") at
code_text code.NoMemory = codes "no memory"

-- the text of a status; none where the command did what it says, and where the terminal or the printer has failed
abbrev pub text_of : Status → Option (List ℕ)
text_of status.Ok = None
text_of status.Words = Some (codes "bad words")
text_of (status.Refused kind line) = Some (on_line line (kind_text kind))
text_of (status.Stopped why line) = Some (on_line line (cause_text why))
text_of status.Turns = Some (codes "turn limit")
text_of status.NoMemory = Some (codes "no memory")
text_of status.FileFault = Some (codes "file fault")
text_of status.DriveFault = Some (codes "drive fault")
text_of status.InputFault = Some (codes "input fault")
text_of status.OutputFault = None
text_of (status.BadImage broken) = Some (image_text broken)
text_of (status.BadCode broken) = Some (code_text broken)
text_of (status.BadState address) = Some (with_number (codes "bad code state") address)
text_of status.Absent = Some (codes "absent")
text_of (status.BadChoices line) = Some (with_number (codes "choices line") line)
text_of status.SessionLimit = Some (codes "session limit")
text_of status.DiskFull = Some (codes "disk full")
text_of status.FileLarge = Some (codes "file too large")
text_of status.Standstill = Some (codes "standstill")
text_of (status.BadPoints line) = Some (with_number (codes "points line") line)
text_of (status.Found others) = Some (with_number (codes "found") others)
text_of status.NotAll = Some (codes "not all")
text_of status.InputLimit = Some (codes "input limit")
text_of status.NoEnding = Some (codes "no ending")

-- ---- what is shown for a status

abbrev pub line_behind : (due : Bool) → Option (List ℕ) → List ℕ
line_behind due None = []
line_behind due (Some text) = feed due ++ (text ++ codes "\n")

-- where a line feed is due, or not
abbrev pub closing_line : (due : Bool) → Status → List ℕ
closing_line due s = line_behind due (text_of s)

-- WHAT IS SHOWN FOR A STATUS behind the bytes that were shown in this call: its line, on a line of its own
abbrev pub closing : Status → (shown : List ℕ) → List ℕ
closing s shown = closing_line (is_due shown) s
