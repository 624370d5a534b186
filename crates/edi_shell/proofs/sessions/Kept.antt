-- What a command leaves as it is.
use Rattle.std.proofs.Common.{◌≡◌, ℕ, Bool, true, false, List, Option, Some, None, length, refl}
use Rattle.std.specs.Prelude.{if◌then◌else◌, codes}
use Rattle.edi_calls.specs.Calls.{is_text}
use Rattle.edi_calls.specs.State.{File, free}
use Rattle.edi_catalog.specs.declared.ends.CatEnd.{CatEnd}
use Rattle.edi_catalog.specs.SlotsChanged.{deleted, file_protected, file_renamed, slots_changed}
use Rattle.edi_catalog.specs.Refusing.{no_deletion, no_renaming, no_room, no_such}
use Rattle.edi_catalog.specs.SlotsStored.{slots_stored}
use Rattle.edi_session.specs.declared.line.Line.{Line}
use Rattle.edi_session.specs.declared.line.Line.TheVariants as line
use Rattle.edi_session.specs.Files.{answered, copies_to, file_in, with_file, with_text}
use Rattle.edi_session.specs.Shell.{Shell, on_fresh_line, printed_by, says, shown_by, state_in}
use Rattle.edi_session.specs.Texts.{about, catalogue_text}
use Rattle.edi_shell.specs.sessions.Done.{done_by}

-- all but the system is the same
pub record IsAlike (s t : Shell) : Type 0 where
  pub mode_is : t.mode ≡ s.mode
  pub before_is : t.shown_before ≡ s.shown_before
  pub taken_is : t.taken ≡ s.taken
  pub drawn_is : t.drawn ≡ s.drawn

itself : (s : Shell) → IsAlike s s
itself s = record { mode_is = refl; before_is = refl; taken_is = refl; drawn_is = refl }

alike_shown : (bytes : List ℕ) (s : Shell) → IsAlike s (shown_by bytes s)
alike_shown bytes s = record { mode_is = refl; before_is = refl; taken_is = refl; drawn_is = refl }

alike_answered : (refusal : Option CatEnd) (f g : List ℕ) (slots : List (Option File)) (s : Shell) → IsAlike s (answered refusal f g slots s)
alike_answered None f g slots s = record { mode_is = refl; before_is = refl; taken_is = refl; drawn_is = refl }
alike_answered (Some why) f g slots s = record { mode_is = refl; before_is = refl; taken_is = refl; drawn_is = refl }

alike_with_file : (file : Option File) (f : List ℕ) (act : File → Shell → Shell) (s : Shell) → ((file : File) → IsAlike s (act file s))
    → IsAlike s (with_file file f act s)
alike_with_file None f act s h = record { mode_is = refl; before_is = refl; taken_is = refl; drawn_is = refl }
alike_with_file (Some file) f act s h = h file

alike_with_text : (f : List ℕ) (act : List ℕ → Shell → Shell) (file : File) (s : Shell) → ((bytes : List ℕ) → IsAlike s (act bytes s))
    → IsAlike s (with_text f act file s)
alike_with_text f act file s h = go (is_text file.kind) where
  go : (b : Bool) → IsAlike s (if b then act file.bytes s else says (about (codes "not text") f) s)
  go true = h file.bytes
  go false = record { mode_is = refl; before_is = refl; taken_is = refl; drawn_is = refl }

pub alike_done : (l : Line) (s : Shell) → IsAlike s (done_by l s)
alike_done line.Bad s = alike_shown (codes "bad command\n") s
alike_done line.Catalogue s = alike_shown (catalogue_text (state_in s)) s
alike_done (line.Show f) s =
    alike_with_file (file_in s f) f (with_text f (λ bytes s. on_fresh_line (shown_by bytes s))) s
    (λ file. alike_with_text f (λ bytes s. on_fresh_line (shown_by bytes s)) file s
    (λ bytes. record { mode_is = refl; before_is = refl; taken_is = refl; drawn_is = refl }))
alike_done (line.Print f) s =
    alike_with_file (file_in s f) f (with_text f printed_by) s
    (λ file. alike_with_text f printed_by file s (λ bytes. record { mode_is = refl; before_is = refl; taken_is = refl; drawn_is = refl }))
alike_done (line.Copy f g) s =
    alike_with_file (file_in s f) f (copies_to g) s
    (λ file. alike_answered (no_room g (length file.bytes) (free (state_in s)) (state_in s).slots) g g
    (slots_stored g file.kind file.bytes (state_in s).slots) s)
alike_done (line.Rename f g) s =
    alike_answered (no_renaming (file_in s f) (file_in s g)) f g (slots_changed (file_renamed g) f (state_in s).slots) s
alike_done (line.Delete f) s = alike_answered (no_deletion (file_in s f)) f f (slots_changed deleted f (state_in s).slots) s
alike_done (line.Protect f) s = alike_answered (no_such (file_in s f)) f f (slots_changed (file_protected true) f (state_in s).slots) s
alike_done (line.Release f) s = alike_answered (no_such (file_in s f)) f f (slots_changed (file_protected false) f (state_in s).slots) s
alike_done _ s = itself s
