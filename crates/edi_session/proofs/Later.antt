-- What a session has come through it has come through for ever: no part of a line takes a state from its course, and where an object
-- may fail it may fail still.
use Rattle.std.proofs.Common.{◌≡◌, ℕ, Bool, true, false, List, [], ◌∷◌, ◌++◌, Option, Some, None, refl}
use Rattle.std.specs.Prelude.{if◌then◌else◌, nat_le, ◌==◌, ◌&&◌, codes}
use Rattle.edi_calls.specs.declared.ends.Outside.{Outside}
use Rattle.edi_calls.specs.State.{File, State, fresh, moments_of}
use Rattle.edi_catalog.specs.declared.ends.CatEnd.{CatEnd}
use Rattle.edi_session.specs.Course.{Course, MayFail, states_of, becomes, shows, prints}
use Rattle.edi_session.specs.Files.{why_line, answered, with_file}
use Rattle.edi_session.specs.Texts.{about, line_end}
use Rattle.edi_session.specs.Session.{behind, ends_with}
use Rattle.edi_session.specs.Shell.{Shell, Taken, took, ended, limited, shell_of, limit, shown_by, shown_in, printed_by, on_fresh_line, says, took_byte}
use Rattle.edi_session.specs.Shell.{echoed, last_line, take_line, take_text, ends_text, text_with, line_with}
use Rattle.edi_session.proofs.Faults.{may_fail_on}

-- one shell comes behind another
abbrev pub Later : Shell → Shell → Type 0
Later s t = (o : Outside) (m : State) → MayFail o (states_of s.system) m → MayFail o (states_of t.system) m

pub becomes_on : (next : State) (c : Course) (o : Outside) (m : State) → MayFail o (states_of c) m → MayFail o (states_of (becomes next c)) m
becomes_on next c o m h = may_fail_on (next ∷ []) (states_of c) o m h

pub shows_on : (bytes : List ℕ) (c : Course) (o : Outside) (m : State) → MayFail o (states_of c) m → MayFail o (states_of (shows bytes c)) m
shows_on [] c o m h = h
shows_on (b ∷ bytes) c o m h = shows_on bytes (becomes _ c) o m (becomes_on _ c o m h)

pub prints_on : (bytes : List ℕ) (c : Course) (o : Outside) (m : State) → MayFail o (states_of c) m → MayFail o (states_of (prints bytes c)) m
prints_on [] c o m h = h
prints_on (b ∷ bytes) c o m h = prints_on bytes (becomes _ c) o m (becomes_on _ c o m h)

-- more bytes are shown behind others
pub shows_more : (bytes more : List ℕ) (c : Course) → shows (bytes ++ more) c ≡ shows more (shows bytes c)
shows_more [] more c = refl
shows_more (b ∷ bytes) more c = shows_more bytes more (becomes _ c)

pub shown_on : (bytes : List ℕ) (s : Shell) → Later s (shown_by bytes s)
shown_on bytes s o m h = shows_on bytes s.system o m h

-- a line is shown
pub says_on : (text : List ℕ) (s : Shell) → Later s (says text s)
says_on text s o m h = shows_on (text ++ 10 ∷ []) s.system o m h

pub fresh_on : (s : Shell) → Later s (on_fresh_line s)
fresh_on s o m h = shows_on (line_end (shown_in s)) s.system o m h

pub printed_on : (bytes : List ℕ) (s : Shell) → Later s (printed_by bytes s)
printed_on bytes s o m h = prints_on bytes s.system o m h

pub answered_on : (refusal : Option CatEnd) (f g : List ℕ) (slots : List (Option File)) (s : Shell) → Later s (answered refusal f g slots s)
answered_on None f g slots s o m h = becomes_on (record (fresh s.system.now) { slots = slots }) s.system o m h
answered_on (Some why) f g slots s o m h = says_on (why_line f g why) s o m h

pub with_file_on : (file : Option File) (f : List ℕ) (act : File → Shell → Shell) (s : Shell) → ((file : File) → Later s (act file s))
    → Later s (with_file file f act s)
with_file_on None f act s on o m h = says_on (about (codes "no file") f) s o m h
with_file_on (Some file) f act s on o m h = on file o m h

pub if_on : (b : Bool) (s t u : Shell) → Later s t → Later s u → Later s (if b then t else u)
if_on true s t u p q = p
if_on false s t u p q = q

pub executed_on : (after : State) (past : List State) (drawn : ℕ) (s : Shell) → Later s (behind after past drawn s)
executed_on after past drawn s o m h =
    may_fail_on (after ∷ moments_of (fresh s.system.now) past) (states_of s.system) o m h

pub ends_on : (line : Option (List ℕ)) (s : Shell) → Later s (ends_with line s)
ends_on None s o m h = h
ends_on (Some text) s o m h = says_on text (on_fresh_line s) o m (fresh_on s o m h)

-- ---- taking

one_on : (b : Bool) (s : Shell) (x y : Taken) → Later s (shell_of x) → Later s (shell_of y) → Later s (shell_of (if b then x else y))
one_on true s x y p q = p
one_on false s x y p q = q

pub echoed_on : (echo : Bool) (bytes : List ℕ) (s : Shell) → Later s (echoed echo bytes s)
echoed_on true bytes s o m h = shown_on bytes s o m h
echoed_on false bytes s o m h = h

pub took_on : (left : List ℕ) (s : Shell) → Later s (took_byte left s)
took_on left s o m h = becomes_on (record s.system.now { input = left }) s.system o m h

last_on : (echo : Bool) (line : List ℕ) (s : Shell) → Later s (shell_of (last_line echo line s))
last_on echo [] s o m h = h
last_on echo (b ∷ bytes) s o m h = echoed_on echo (10 ∷ []) s o m h

pub take_line_on : (echo : Bool) (input line : List ℕ) (s : Shell) → Later s (shell_of (take_line echo input line s))
take_line_on echo [] line s = one_on (nat_le limit s.taken) s (limited s) (last_line echo line s) (λ o m h. h) (last_on echo line s)
take_line_on echo (b ∷ input) line s =
    one_on (nat_le limit s.taken) s (limited s) _ (λ o m h. h)
    (one_on (b == 10) s (took line (echoed echo (10 ∷ []) (took_byte input s)))
    (take_line echo input (line ++ b ∷ []) (echoed echo (b ∷ []) (took_byte input s)))
    (λ o m h. echoed_on echo (10 ∷ []) (took_byte input s) o m (took_on input s o m h))
    (λ o m h. take_line_on echo input (line ++ b ∷ []) (echoed echo (b ∷ []) (took_byte input s)) o m
    (echoed_on echo (b ∷ []) (took_byte input s) o m (took_on input s o m h))))

pub take_text_on : (input text line : List ℕ) (s : Shell) → Later s (shell_of (take_text input text line s))
take_text_on [] text line s =
    one_on (nat_le limit s.taken) s (limited s) _ (λ o m h. h) (one_on (ends_text line) s (took text s) (ended s) (λ o m h. h) (λ o m h. h))
take_text_on (b ∷ input) text line s =
    one_on (nat_le limit s.taken) s (limited s) _ (λ o m h. h)
    (one_on (b == 10 && ends_text line) s (took text (took_byte input s)) (take_text input (text_with b text line) (line_with b line) (took_byte input s))
    (λ o m h. took_on input s o m h)
    (λ o m h. take_text_on input (text_with b text line) (line_with b line) (took_byte input s) o m (took_on input s o m h)))

-- what a line and a text come to behind their next byte
pub line_behind : (echo : Bool) (line left : List ℕ) (b : ℕ) (s : Shell)
    → Later (took_byte left s) (shell_of (if b == 10 then took line (echoed echo (10 ∷ []) (took_byte left s))
    else take_line echo left (line ++ b ∷ []) (echoed echo (b ∷ []) (took_byte left s))))
line_behind echo line left b s =
    one_on (b == 10) (took_byte left s) (took line (echoed echo (10 ∷ []) (took_byte left s)))
    (take_line echo left (line ++ b ∷ []) (echoed echo (b ∷ []) (took_byte left s)))
    (λ o m h. echoed_on echo (10 ∷ []) (took_byte left s) o m h)
    (λ o m h. take_line_on echo left (line ++ b ∷ []) (echoed echo (b ∷ []) (took_byte left s)) o m
    (echoed_on echo (b ∷ []) (took_byte left s) o m h))

pub text_behind : (text line left : List ℕ) (b : ℕ) (s : Shell)
    → Later (took_byte left s) (shell_of (if b == 10 && ends_text line then took text (took_byte left s)
    else take_text left (text_with b text line) (line_with b line) (took_byte left s)))
text_behind text line left b s =
    one_on (b == 10 && ends_text line) (took_byte left s) (took text (took_byte left s))
    (take_text left (text_with b text line) (line_with b line) (took_byte left s)) (λ o m h. h)
    (λ o m h. take_text_on left (text_with b text line) (line_with b line) (took_byte left s) o m h)
