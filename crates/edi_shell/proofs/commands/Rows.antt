-- Rows of the table of commands: what a line leads to is what the object was led to.
use Rattle.std.proofs.Common.{◌≡◌, ℕ, List, Option, Some, None, refl, sym, ap, subst}
use Rattle.std.specs.Prelude.{Result, Ok, Err}
use Rattle.edi_calls.specs.declared.ends.Outside.{Outside}
use Rattle.edi_calls.specs.declared.kinds.FileKind.{FileKind}
use Rattle.edi_calls.specs.declared.kinds.FileKind.TheVariants as file_kind
use Rattle.edi_calls.specs.Choice.{Choices}
use Rattle.edi_calls.specs.State.{File, State}
use Rattle.edi_catalog.specs.declared.ends.CatEnd.{CatEnd}
use Rattle.edi_session.specs.declared.end.SessionEnd.{SessionEnd}
use Rattle.edi_session.specs.Files.{answered}
use Rattle.edi_session.specs.Session.{AfterLine, goes, ExecutesFile, ExecutesKind}
use Rattle.edi_session.specs.Shell.{Shell, says}
use Rattle.edi_shell_io.specs.calls.Standing.{Leads}
use Rattle.edi_shell.specs.commands.Files.{wrong, refused, refused_kind, IsOpened}
use Rattle.edi_shell.specs.commands.Rows.{IsLike, LineDoes}
use Rattle.edi_shell.proofs.commands.Opening.{some_same}

-- ---- the same but for the system

pub like_says : (text : List ℕ) (s : Shell) → IsLike s (says text s)
like_says text s = record { taken = refl; mode = refl; shown_before = refl }

pub like_answered : (refusal : Option CatEnd) (f g : List ℕ) (slots : List (Option File)) (s : Shell) → IsLike s (answered refusal f g slots s)
like_answered None f g slots s = record { taken = refl; mode = refl; shown_before = refl }
like_answered (Some why) f g slots s = record { taken = refl; mode = refl; shown_before = refl }

pub drawn_answered : (refusal : Option CatEnd) (f g : List ℕ) (slots : List (Option File)) (s : Shell) → (answered refusal f g slots s).drawn ≡ s.drawn
drawn_answered None f g slots s = refl
drawn_answered (Some why) f g slots s = refl

-- ---- rows

module _ {C : Type 0} (at : C → State → ℕ → Type 0) (stands : C → Outside → State → Type 0) where
  pub leads_does : (Row : Shell → AfterLine → Type 0) (s t : Shell) (result : Result (Unit {0}) SessionEnd) (c : C)
      → Row s (goes t) → IsLike s t → t.drawn ≡ s.drawn → Leads at stands result t c → LineDoes at stands Row result s.drawn s c
  leads_does Row s t (Ok x) c row like draws l = record { after = t; row = row; like = like; draws = draws; at_ = l }
  leads_does Row s t (Err e) c row like draws l = record { next = goes t; row = row; in_ = l }

  -- a line that does so by one row does so by another that leads to the same
  pub does_by : (Row Other : Shell → AfterLine → Type 0) (s : Shell) (drawn : ℕ) (result : Result (Unit {0}) SessionEnd) (c : C)
      → ((next : AfterLine) → Row s next → Other s next) → LineDoes at stands Row result drawn s c → LineDoes at stands Other result drawn s c
  does_by Row Other s drawn (Ok x) c other d =
      record { after = d.after; row = other (goes d.after) d.row; like = d.like; draws = d.draws; at_ = d.at_ }
  does_by Row Other s drawn (Err e) c other d = record { next = d.next; row = other d.next d.row; in_ = d.in_ }

-- ---- the execution of a file

execute_kind : (bound : ℕ) (choices : Choices) (f : List ℕ) (file : File) (s t : Shell) (kind : FileKind) → refused_kind (wrong (Some file_kind.Code) kind) f
    s ≡ Some t
    → ExecutesFile bound choices f (Some (record file { kind = kind })) s (goes t)
execute_kind bound choices f file s t file_kind.Text e = ap goes (sym (some_same e))
execute_kind bound choices f file s t file_kind.Code e = absurd cc

pub execute_refused : (bound : ℕ) (choices : Choices) (f : List ℕ) (file : Option File) (s t : Shell) → refused (Some file_kind.Code) file f s ≡ Some t
    → ExecutesFile bound choices f file s (goes t)
execute_refused bound choices f None s t e = ap goes (sym (some_same e))
execute_refused bound choices f (Some file) s t e = execute_kind bound choices f file s t file.kind e

opened_code : (bound : ℕ) (choices : Choices) (f : List ℕ) (file : File) (s : Shell) (next : AfterLine) (kind : FileKind) → wrong (Some file_kind.Code) kind ≡ None
    → ExecutesKind bound choices file_kind.Code f file.bytes s next → ExecutesFile bound choices f (Some (record file { kind = kind })) s next
opened_code bound choices f file s next file_kind.Code e row = row
opened_code bound choices f file s next file_kind.Text e row = absurd cc

pub execute_opened : (bound : ℕ) (choices : Choices) (f : List ℕ) (file : Option File) (opened : File) (s : Shell) (next : AfterLine)
    → IsOpened (Some file_kind.Code) file opened
    → ExecutesKind bound choices file_kind.Code f opened.bytes s next → ExecutesFile bound choices f file s next
execute_opened bound choices f file opened s next o row =
    subst (λ x. ExecutesFile bound choices f x s next) (sym o.is) (opened_code bound choices f opened s next opened.kind o.right row)
