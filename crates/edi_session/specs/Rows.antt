-- Computed rows. Sessions on a new disk of 64 blocks, of whose slots the first two stand here.
use Rattle.std.specs.Prelude.{◌≡◌, ℕ, List, [], ◌∷◌, None, codes, refl}
use Rattle.std.proofs.Common.{inl}
use Rattle.edi_calls.specs.Choice.{Choices, listed}
use Rattle.edi_calls.specs.State.{State}
use Rattle.edi_session.specs.declared.end.SessionEnd.{SessionEnd}
use Rattle.edi_session.specs.declared.end.SessionEnd.TheVariants.{Halted, InputEnd}
use Rattle.edi_session.specs.Shell.{Shell, session_on, state_in}
use Rattle.edi_session.specs.Session.{ComesTo, Goes, Session, stops}

abbrev pub no_choices : Choices
no_choices = listed []

-- a new disk, where this is the input
abbrev pub new_disk : List ℕ → State
new_disk input = record {
  input = input;
  shown = [];
  printed = [];
  slots = None ∷ None ∷ [];
  blocks = 64;
  found = None;
  buffer = None;
}

-- the session on this input ends so and has shown these bytes
pub record Shows (input : List ℕ) (end : SessionEnd) (shown : List ℕ) : Type 0 where
  pub after : Shell
  pub session : Session 1000000 no_choices (session_on (new_disk input) 0 0) end after
  pub is : (state_in after).shown ≡ shown

by_lines : (input : List ℕ) (end : SessionEnd) (shown : List ℕ) (count : ℕ) (last after : Shell)
    → ComesTo 1000000 no_choices count (session_on (new_disk input) 0 0) last → Goes 1000000 no_choices last (stops end after)
    → (state_in after).shown ≡ shown → Shows input end shown
by_lines input end shown count last after comes stops_ is =
    record { after = after; session = record { lines_ = count; last = last; comes = comes; stops_ = stops_ }; is = is }

pub an_empty_input : Shows [] InputEnd (codes "> \n")
an_empty_input = by_lines _ _ _ 0 _ _ refl refl refl

pub a_line_of_blanks : Shows (codes "  \t\nhalt") Halted (codes ">   \t\n> halt\n")
a_line_of_blanks = by_lines _ _ _ 1 _ _ (_, refl, refl) refl refl

pub bad_commands : Shows (codes "list a\nenter 1\nhalt now\nhalt\n") Halted
    (codes "> list a\nbad command\n> enter 1\nbad command\n> halt now\nbad command\n> halt\n")
bad_commands = by_lines _ _ _ 3 _ _ (_, refl, (_, refl, (_, refl, refl))) refl refl

pub a_text_is_entered : Shows (codes "enter t\na\n.\ntype t\nhalt\n") Halted (codes "> enter t\n> type t\na\n> halt\n")
a_text_is_entered = by_lines _ _ _ 2 _ _ (_, refl, (_, refl, refl)) refl refl

-- the text has no end, so nothing is stored
pub the_input_ends_first : Shows (codes "enter t\na\nb") InputEnd (codes "> enter t\n")
the_input_ends_first = by_lines _ _ _ 0 _ _ refl refl refl

pub refusals_in_order : Shows (codes "enter t\n.\nprotect t\nrename u t\nrename t t\ndelete t\nrelease t\nrename t t\nt\n") InputEnd
    (codes "> enter t\n> protect t\n> rename u t\nno file u\n> rename t t\nprotected t\n> delete t\nprotected t\n> release t\n> rename t t\ntitle taken t\n> t\nnot code t\n> \n")
refusals_in_order = by_lines _ _ _ 8 _ _ (_, refl, (_, refl, (_, refl, (_, refl, (_, refl, (_, refl, (_, refl, (_, refl, refl)))))))) refl refl

pub an_empty_editing : Shows (codes "edit t\nu\nx\nq\nhalt\n") Halted (codes "> edit t\nno undo\nbad edit\n> halt\n")
an_empty_editing = by_lines _ _ _ 4 _ _ (_, inl refl, (_, refl, (_, refl, (_, refl, refl)))) refl refl

-- line 2 is inserted, line 1 deleted, that taken back, and looked at
pub an_editing : Shows (codes "enter t\na\n.\nedit t\ni 2\nb\nd 1\nu\nl 1\nw\ntype t\nhalt\n") Halted
    (codes "> enter t\n> edit t\na\n> type t\na\nb\n> halt\n")
an_editing = by_lines _ _ _ 8 _ _ (_, refl, (_, inl refl, (_, inl refl, (_, inl refl, (_, inl refl, (_, refl, (_, inl refl, (_, refl, refl)))))))) refl refl
