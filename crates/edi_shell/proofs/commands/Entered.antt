-- A text that is being taken, and what is done with it.
use Rattle.std.proofs.Common.{◌≡◌, ℕ, zero, suc, ◌≤◌, Bool, true, false, List, [], ◌∷◌, ◌++◌, length, take, Option, refl, sym, ap, subst, ◌∙◌, arith}
use Rattle.std.specs.Prelude.{if◌then◌else◌, nat_le, ◌==◌, ◌&&◌, Result, Ok, Err}
use Rattle.std.proofs.lemmas.List.{append_assoc, append-nil, take-take, take_all, take_at}
use Rattle.std.proofs.lemmas.Bool.{eqb-true}
use Rattle.edi_calls.specs.declared.ends.Outside.{Outside}
use Rattle.edi_calls.specs.declared.kinds.FileKind.TheVariants as file_kind
use Rattle.edi_calls.specs.State.{State, free}
use Rattle.edi_catalog.specs.Refusing.{no_room}
use Rattle.edi_catalog.specs.SlotsStored.{slots_stored}
use Rattle.edi_session.specs.declared.end.SessionEnd.{SessionEnd}
use Rattle.edi_session.specs.declared.end.SessionEnd.TheVariants as end
use Rattle.edi_session.specs.Files.{stores}
use Rattle.edi_session.specs.Session.{AfterLine, goes, closes, shell_in, StoresText, BehindTaken}
use Rattle.edi_session.specs.Shell.{Shell, Taken, took, ended, limited, shell_of, limit, state_in, took_byte, ends_text, text_with, line_with, take_text, next_text}
use Rattle.edi_session.proofs.Later.{Later, answered_on, text_behind}
use Rattle.edi_shell_io.specs.calls.Standing.{At, StandsIn, IsFault, IsLeft, Leads}
use Rattle.edi_shell_io.proofs.calls.Faulted.{of_fault}
use Rattle.edi_shell.specs.commands.Rows.{LineBreaks, LineCloses, LineDoesOrEnds, LineEnds, EntersFile}
use Rattle.edi_shell.specs.commands.Taking.{GivesNone, GivesText, IsSoFar, Stops}
use Rattle.edi_shell.proofs.commands.Keeping.{TakingKeeps, itself, one_keeps, taking_behind, took_keeps}
use Rattle.edi_shell.proofs.commands.Rows.{drawn_answered, like_answered}
use Rattle.edi_shell.proofs.commands.Standing.{nothing_stops, stands_later}

-- So much of the text has been taken: from here on the rest comes to what the whole does.
pub record TextUnderway {C : Type 0} (at : C → State → ℕ → Type 0) (result : Taken) (length_ whole : ℕ) (dot : Bool) (room : List ℕ) (count : ℕ) (c : C) :
    Type 0 where
  pub now : Shell
  pub text : List ℕ
  pub line : List ℕ
  pub comes : take_text (state_in now).input text line now ≡ result
  pub so_far : IsSoFar length_ whole dot text line
  pub kept : take length_ room ≡ take (length room) (text ++ line)
  pub taken_is : now.taken ≡ count
  pub at_ : At at c now

-- ---- what the next byte comes to

limited_text : (input text line : List ℕ) (s : Shell) → nat_le limit s.taken ≡ true → take_text input text line s ≡ limited s
limited_text [] text line s full = rw full refl
limited_text (b ∷ input) text line s full = rw full refl

ended_text : (input text line : List ℕ) (s : Shell) → nat_le limit s.taken ≡ false → input ≡ []
    → take_text input text line s ≡ (if ends_text line then took text s else ended s)
ended_text input text line s open_ none = ap (λ i. take_text i text line s) none ∙ rw open_ refl

next_in_text : (input text line left : List ℕ) (b : ℕ) (s : Shell) → nat_le limit s.taken ≡ false → input ≡ b ∷ left
    → take_text input text line s ≡ (if b == 10 && ends_text line then took text (took_byte left s) else take_text left (text_with b text line) (line_with b line)
    (took_byte left s))
next_in_text input text line left b s open_ some = ap (λ i. take_text i text line s) some ∙ rw open_ refl

-- the input has ended behind the line that ends the text, or behind another
pub dot_is : (text line : List ℕ) (s : Shell) (result : Taken) → take_text (state_in s).input text line s ≡ result → nat_le limit s.taken ≡ false
    → (state_in s).input ≡ [] → ends_text line ≡ true → result ≡ took text s
dot_is text line s result is open_ none dot = sym is ∙ ended_text (state_in s).input text line s open_ none ∙ rw dot refl

pub ended_is : (text line : List ℕ) (s : Shell) (result : Taken) → take_text (state_in s).input text line s ≡ result → nat_le limit s.taken ≡ false
    → (state_in s).input ≡ [] → ends_text line ≡ false → result ≡ ended s
ended_is text line s result is open_ none other = sym is ∙ ended_text (state_in s).input text line s open_ none ∙ rw other refl

-- a line feed ends the text, or the text goes on
pub whole_is : (text line left : List ℕ) (b : ℕ) (s : Shell) (result : Taken) → take_text (state_in s).input text line s ≡ result
    → nat_le limit s.taken ≡ false → (state_in s).input ≡ b ∷ left → (b == 10 && ends_text line) ≡ true → result ≡ took text (took_byte left s)
whole_is text line left b s result is open_ some both = sym is ∙ next_in_text (state_in s).input text line left b s open_ some ∙ rw both refl

pub more_is : (text line left : List ℕ) (b : ℕ) (s : Shell) (result : Taken) → take_text (state_in s).input text line s ≡ result
    → nat_le limit s.taken ≡ false → (state_in s).input ≡ b ∷ left → (b == 10 && ends_text line) ≡ false
    → take_text left (text_with b text line) (line_with b line) (took_byte left s) ≡ result
more_is text line left b s result is open_ some other =
    sym (rw other refl) ∙ sym (next_in_text (state_in s).input text line left b s open_ some) ∙ is

module _ {C : Type 0} (at : C → State → ℕ → Type 0) (stands : C → Outside → State → Type 0) where
  -- no byte is taken, and so no text
  pub no_text : (text line : List ℕ) (s : Shell) (result : Taken) (e : SessionEnd) (c : C) → take_text (state_in s).input text line s ≡ result
      → GivesNone at stands e s c → Stops at stands e result c
  no_text text line s result e c is none =
      nothing_stops at stands s result e c (λ full. sym is ∙ limited_text (state_in s).input text line s full)
      (λ byte left open_ some. subst (λ r. Later (took_byte left s) (shell_of r))
      (sym (next_in_text (state_in s).input text line left byte s open_ some) ∙ is) (text_behind text line left byte s)) none

  -- the text is taken
  pub text_given : (n count : ℕ) (taken : Taken) (text room : List ℕ) (t : Shell) (c : C) → taken ≡ took text t → n ≡ length text
      → take n room ≡ take (length room) text → t.taken ≡ count → At at c t → GivesText at stands (Ok n) taken room count c
  text_given n count taken text room t c e long kept counted a = subst (λ w. GivesText at stands (Ok n) w room count c) (sym e) (long, kept, counted, a)

-- a text that was taken
pub record IsTaken {C : Type 0} (at : C → State → ℕ → Type 0) (n count : ℕ) (taken : Taken) (room : List ℕ) (c : C) : Type 0 where
  pub text : List ℕ
  pub after : Shell
  pub is : taken ≡ took text after
  pub long : n ≡ length text
  pub kept : take n room ≡ take (length room) text
  pub counted : after.taken ≡ count
  pub at_ : At at c after

pub text_taken : {C : Type 0} (at : C → State → ℕ → Type 0) (stands : C → Outside → State → Type 0) (n count : ℕ) (taken : Taken) (room : List ℕ) (c : C)
    → GivesText at stands (Ok n) taken room count c → IsTaken at n count taken room c
text_taken at stands n count (took text t) room c h =
    record { text = text; after = t; is = refl; long = h.0; kept = h.1; counted = h.2; at_ = h.3 }
text_taken at stands n count (ended t) room c h = absurd h
text_taken at stands n count (limited t) room c h = absurd h

-- ---- what the room has

swapped : (m n : ℕ) (xs : List ℕ) → take m (take n xs) ≡ take n (take m xs)
swapped zero zero xs = refl
swapped zero (suc n) xs = refl
swapped (suc m) zero xs = refl
swapped (suc m) (suc n) [] = refl
swapped (suc m) (suc n) (x ∷ xs) = ap (λ ys. x ∷ ys) (swapped m n xs)

-- of the text and a line that was begun behind it the room has the first bytes, and so those of the text
pub text_kept : (count whole : ℕ) (dot : Bool) (text line room : List ℕ) → IsSoFar count whole dot text line → take count room ≡ take (length room)
    (text ++ line) → take whole room ≡ take (length room) text
text_kept count whole dot text line room so kept =
    sym (take-take whole count room (omega (arith, so.all, so.lines_))) ∙ ap (take whole) kept ∙ swapped whole (length room) (text ++ line)
    ∙ ap (take (length room)) (take_at text line whole (sym so.lines_))

-- the text and the line with one more byte
pub joined : (b : ℕ) (text line : List ℕ) → text_with b text line ++ line_with b line ≡ (text ++ line) ++ b ∷ []
joined b text line = go (b == 10) refl where
  go : (q : Bool) → (b == 10) ≡ q
      → (if q then text ++ (line ++ 10 ∷ []) else text) ++ (if q then [] else line ++ b ∷ []) ≡ (text ++ line) ++ b ∷ []
  go true h = append-nil (text ++ (line ++ 10 ∷ [])) ∙ ap (λ n. text ++ (line ++ n ∷ [])) (sym (eqb-true b 10 h)) ∙ sym (append_assoc text line (b ∷ []))
  go false h = sym (append_assoc text line (b ∷ []))

-- a room that has all of a text
pub all_kept : (n : ℕ) (text room : List ℕ) → n ≡ length text → n ≤ length room → take n room ≡ take (length room) text → take n room ≡ text
all_kept n text room long wide kept = kept ∙ take_all (length room) text (subst (λ k. k ≤ length room) long wide)

-- ---- the row of `enter f`

text_keeps : (input text line : List ℕ) (s : Shell) → TakingKeeps s (shell_of (take_text input text line s))
text_keeps [] text line s =
    one_keeps (nat_le limit s.taken) s (limited s) _ (itself s) (one_keeps (ends_text line) s (took text s) (ended s) (itself s) (itself s))
text_keeps (b ∷ input) text line s =
    one_keeps (nat_le limit s.taken) s (limited s) _ (itself s)
    (one_keeps (b == 10 && ends_text line) s (took text (took_byte input s)) (take_text input (text_with b text line) (line_with b line) (took_byte input s))
    (took_keeps input s s (itself s))
    (let k = text_keeps input (text_with b text line) (line_with b line) (took_byte input s) in
    record { drawn_is = k.drawn_is; mode_is = k.mode_is; before_is = k.before_is }))

pub next_keeps : (s : Shell) (taken : Taken) → next_text s ≡ taken → TakingKeeps s (shell_of taken)
next_keeps s taken is = subst (λ w. TakingKeeps s (shell_of w)) is (text_keeps (state_in s).input [] [] s)

stored_on : (f text : List ℕ) (s : Shell) → Later s (stores f file_kind.Text text s)
stored_on f text s = answered_on (no_room f (length text) (free (state_in s)) (state_in s).slots) f f (slots_stored f file_kind.Text text (state_in s).slots) s

-- what lies behind the lines that were asked for
entered : (f : List ℕ) (taken : Taken) → (next : AfterLine) × BehindTaken taken (StoresText f) next × Later (shell_of taken) (shell_in next)
entered f taken = taking_behind taken (StoresText f) (λ text t. (goes (stores f file_kind.Text text t), refl, stored_on f text t))

module _ {C : Type 0} (at : C → State → ℕ → Type 0) (stands : C → Outside → State → Type 0) (f : List ℕ) where
  -- an object failed while the text was taken
  text_breaks : (s : Shell) (taken : Taken) (c : C) → next_text s ≡ taken → StandsIn stands (shell_of taken) c → LineBreaks at stands (EntersFile f) s c
  text_breaks s taken c is st =
      let n = entered f taken in
      record {
        next = n.0;
        row = subst (λ w. BehindTaken w (StoresText f) n.0) (sym is) n.1;
        in_ = stands_later stands (shell_of taken) (shell_in n.0) c n.2 st;
      }

  text_closes : (e : SessionEnd) (s t : Shell) (c : C) → TakingKeeps s t → BehindTaken (next_text s) (StoresText f) (closes e t) → At at c t
      → LineCloses at stands (EntersFile f) e s s.drawn c
  text_closes e s t c k row a = record { last = t; row = row; shown_before = k.before_is; draws = k.drawn_is; at_ = a }

  -- the text was not taken
  pub enter_stops : (s : Shell) (taken : Taken) (e : SessionEnd) (c : C) → next_text s ≡ taken → Stops at stands e taken c
      → LineEnds at stands (EntersFile f) e s.drawn s c
  enter_stops s (ended t) end.InputEnd c is a =
      text_closes end.InputEnd s t c (next_keeps s (ended t) is) (subst (λ w. BehindTaken w (StoresText f) (closes end.InputEnd t)) (sym is) refl) a
  enter_stops s (limited t) end.Limit c is a =
      text_closes end.Limit s t c (next_keeps s (limited t) is) (subst (λ w. BehindTaken w (StoresText f) (closes end.Limit t)) (sym is) refl) a
  enter_stops s (took text t) end.InputEnd c is a = absurd a
  enter_stops s (limited t) end.InputEnd c is a = absurd a
  enter_stops s (took text t) end.Limit c is a = absurd a
  enter_stops s (ended t) end.Limit c is a = absurd a
  enter_stops s (took text t) end.Halted c is a = absurd a
  enter_stops s (ended t) end.Halted c is a = absurd a
  enter_stops s (limited t) end.Halted c is a = absurd a
  enter_stops s taken end.DriveFault c is a = text_breaks s taken c is a
  enter_stops s taken end.InputFault c is a = text_breaks s taken c is a
  enter_stops s taken end.TerminalFault c is a = text_breaks s taken c is a
  enter_stops s taken end.PrinterFault c is a = text_breaks s taken c is a

  -- a fault ends the session
  fault_ends : (Row : Shell → AfterLine → Type 0) (e : SessionEnd) (drawn : ℕ) (s : Shell) (c : C) → IsFault e → LineBreaks at stands Row s c
      → LineEnds at stands Row e drawn s c
  fault_ends Row e drawn s c fault b = of_fault (λ x. LineEnds at stands Row x drawn s c) b b b b e fault

  -- the text was taken, and is stored, or it is shown why not
  pub enter_stores : (ready : C → Type 0) (failed : C → Option Outside) (s t : Shell) (text : List ℕ) (count : ℕ) (result : Result (Unit {0}) SessionEnd) (c : C)
      → next_text s ≡ took text t → t.taken ≡ count → IsLeft ready failed result c → Leads at stands result (stores f file_kind.Text text t) c
      → LineDoesOrEnds at stands (EntersFile f) result count s.drawn s c
  enter_stores ready failed s t text count (Ok x) c is counted left l =
      let k = next_keeps s (took text t) is in
      let like = like_answered (no_room f (length text) (free (state_in t)) (state_in t).slots) f f (slots_stored f file_kind.Text text (state_in t).slots) t in
      record {
        after = stores f file_kind.Text text t;
        row = subst (λ w. BehindTaken w (StoresText f) (goes (stores f file_kind.Text text t))) (sym is) refl;
        takes = like.taken ∙ counted;
        mode = like.mode ∙ k.mode_is;
        shown_before = like.shown_before ∙ k.before_is;
        draws = drawn_answered (no_room f (length text) (free (state_in t)) (state_in t).slots) f f (slots_stored f file_kind.Text text (state_in t).slots) t
            ∙ k.drawn_is;
        at_ = l;
      }
  enter_stores ready failed s t text count (Err e) c is counted left l = fault_ends (EntersFile f) e s.drawn s c left.0 (record {
    next = goes (stores f file_kind.Text text t);
    row = subst (λ w. BehindTaken w (StoresText f) (goes (stores f file_kind.Text text t))) (sym is) refl;
    in_ = l;
  })
