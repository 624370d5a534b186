-- Words of contracts. The law that told contents decide all that a command leaves.
use Rattle.std.specs.Prelude.{◌≡◌, ℕ, Bool, true, false, List, length}
use Rattle.edi_host.specs.Contents.{Contents}
use Rattle.edi_image.specs.Image.{slots_of}
use Rattle.edi_words.specs.Words.{Command}
use Rattle.edi_statuses.specs.declared.status.Status.{Status}
use Rattle.edi_statuses.specs.Outside.{Devices, KernelLeft}
use Rattle.edi_statuses.specs.Decided.{is_decided}
use Rattle.edi_statuses.specs.Facts.{Comes, facts_of}
use Rattle.edi_statuses.specs.Always.{lent_from, told_outside}

-- Two calls have left the same: the same files of the host; as many blocks with the same files on them, wherever these lie; the same input, and the
-- same bytes printed; and each run has taken as many turns. The record of a run tells its choices, and so how many were drawn.
pub record LeaveSame (files other_files : Contents) (d other : Devices) (left other_left : KernelLeft) : Type 0 where
  pub files_ : files ≡ other_files
  pub slots : slots_of d.blocks ≡ slots_of other.blocks
  pub count : length d.blocks ≡ length other.blocks
  pub input : d.input ≡ other.input
  pub printed : d.printed ≡ other.printed
  pub turns : left.used ≡ other_left.used

-- it keeps a dump
abbrev pub keeps_dump : Command → Bool
keeps_dump c = (facts_of c).dumps

-- THE LAW: contents that are told decide all that is left, of every command whose end they decide (`is_decided`: all but `boot` and `explore`) and
-- which keeps no dump.
-- That they decide its status and what it shows is the law `OneStatus`.
abbrev pub OneEnd : Type 0
OneEnd =
    (s t : Status) (c : Command) (files one other : Contents) (d e f : Devices) (shown bytes : List ℕ) (kernel left also : KernelLeft)
    → is_decided c ≡ true → keeps_dump c ≡ false
    → Comes c s (told_outside files d) (told_outside one e) shown (lent_from kernel left)
    → Comes c t (told_outside files d) (told_outside other f) bytes (lent_from kernel also)
    → LeaveSame one other e f left also
