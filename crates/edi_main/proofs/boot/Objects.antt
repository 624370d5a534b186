-- What a session leaves of the objects, from what it leaves of the system over them.
use Rattle.std.proofs.Common.{◌≡◌, ℕ, ◌<◌, Bool, true, false, List, [], ◌∷◌, length, drop, Option, Some, None, ◌+◌, ◌*◌, ◌^◌, arith, refl, sym, ap, subst, ◌∙◌}
use Rattle.std.specs.Prelude.{IfSome, ◌≤◌}
use Rattle.edi_told.specs.Faults.{CountRose}
use Rattle.edi_told.specs.Told.{WhereTold}
use Rattle.edi_calls.specs.declared.ends.Outside.{Outside}
use Rattle.edi_calls.specs.declared.ends.Outside.TheVariants as outside
use Rattle.edi_calls.specs.State.{State}
use Rattle.edi_session.specs.declared.end.SessionEnd.{SessionEnd}
use Rattle.edi_session.specs.Shell.{session_on}
use Rattle.edi_shell.specs.sessions.Ends.{IsFreshlyBy, IsFreshlySince, SessionEnds, SessionLeaves}
use Rattle.edi_shell.proofs.sessions.OnSystem.{ends_otherwise}
use Rattle.edi_system.specs.AsCalls.{IsDueFrom, IsDueSince, KeepsDue}
use Rattle.edi_system.specs.Ends.{Blames}
use Rattle.edi_system.specs.Parts.{due_after, KeepsTold, SystemBegins}
use Rattle.edi_system.specs.State.{all_told, drive_in, due_in, failed_in, faults_of, input_in, printer_in, state_of, state_with, terminal_in}
use Rattle.edi_system.specs.declared.system.System.{System}
use Rattle.edi_trace.specs.Drawn.{Drawn}
use Rattle.edi_execute.specs.Objects.{FailedIs, Objects, contents_with, faults_in, system_on}
use Rattle.edi_execute.proofs.Runs.{AreOf, AreUnder, due_run, on_objects, told_run}
use Rattle.edi_main.specs.declared.boot.holding.SessionExit.{SessionExit}
use Rattle.edi_main.specs.boot.OnObjects.{EndsOn, HaveStateBy, HaveStateSince, SessionLeft}

drop_all : (xs : List ℕ) → drop (length xs) xs ≡ []
drop_all [] = refl
drop_all (x ∷ xs) = drop_all xs

-- ---- what is told before and afterwards

-- nothing is said where nothing is told before
nothing_said : {X : Type 0} (z : Option X) (P Q : X → X → Type 0) → WhereTold None z P → WhereTold None z Q
nothing_said None P Q h = tt
nothing_said (Some x) P Q h = absurd h

-- ---- bytes that were shown before

since_now : (due : Bool) (bytes : List ℕ) → due ≡ false → IsDueFrom (length bytes) bytes due
since_now due bytes none = record { within = omega arith; is = none ∙ sym (ap (due_after false) (drop_all bytes)) }

-- from the number of bytes that are told to have been shown before
from_start : {A B E X : Type 0} (make : A → B → List ℕ → E → X) (a : Option A) (b : Option B) (c : Option (List ℕ)) (e : Option E) (z : Option X)
    (due : Bool) (L : ℕ → X → X → Type 0) (count : X → ℕ) → due ≡ false → ((x : A) (y : B) (bytes : List ℕ) (w : E) → count (make x y bytes w) ≡ length bytes)
    → ((n : ℕ) → IfSome c (λ bytes. IsDueFrom n bytes due) → WhereTold (all_told make a b c e) z (L n))
    → WhereTold (all_told make a b c e) z (λ s t. L (count s) s t)
from_start make None b None e z due L count none is h = nothing_said z (L 0) _ (h 0 tt)
from_start make None b (Some bytes) e z due L count none is h = nothing_said z (L (length bytes)) _ (h (length bytes) (since_now due bytes none))
from_start make (Some x) None None e z due L count none is h = nothing_said z (L 0) _ (h 0 tt)
from_start make (Some x) None (Some bytes) e z due L count none is h =
    nothing_said z (L (length bytes)) _ (h (length bytes) (since_now due bytes none))
from_start make (Some x) (Some y) None e z due L count none is h = nothing_said z (L 0) _ (h 0 tt)
from_start make (Some x) (Some y) (Some bytes) None z due L count none is h =
    nothing_said z (L (length bytes)) _ (h (length bytes) (since_now due bytes none))
from_start make (Some x) (Some y) (Some bytes) (Some w) None due L count none is h = tt
from_start make (Some x) (Some y) (Some bytes) (Some w) (Some t) due L count none is h =
    subst (λ n. L n (make x y bytes w) t) (sym (is x y bytes w)) (h (length bytes) (since_now due bytes none))

module _ {D S T P : Type 0} (contents : D → Option (List (List ℕ))) (left : S → Option (List ℕ)) (shown : T → Option (List ℕ)) (printed : P → Option (List ℕ))
    (before after : System D S T P) (o o' : Objects D S T P) (are : AreUnder contents before o) (are' : AreOf after o') where
  -- the system begins with no file open
  begun_is : SystemBegins before → (x : List (List ℕ)) (y z w : List ℕ) → state_with before x y z w ≡ system_on (contents_with x y z w)
  begun_is begins x y z w = search (begins.found, begins.buffer)

  ends_on : (bound : ℕ) (old : Drawn) (how : SessionEnd) (drawn : ℕ) → SystemBegins before → (x x' : List (List ℕ)) (y y' z z' w w' : List ℕ)
      → SessionLeaves bound old.source (session_on (state_with before x y z w) old.drawn (length z)) how drawn (state_with after x' y' z' w')
      → EndsOn bound old how drawn (contents_with x y z w) (contents_with x' y' z' w')
  ends_on bound old how drawn begins x x' y y' z z' w w' h =
      subst (λ s. SessionEnds bound old.source HaveStateSince (HaveStateBy how) (session_on s old.drawn (length z)) how drawn (contents_with x' y' z' w'))
      (begun_is begins x y z w)
      (ends_otherwise bound old.source IsFreshlySince (IsFreshlyBy how) HaveStateSince (HaveStateBy how) (state_with after x' y' z' w') (contents_with x' y' z' w')
      (λ state n e. record {
        input = ap (λ (s : State). s.input) e;
        shown = ap (λ (s : State). s.shown) e;
        printed = ap (λ (s : State). s.printed) e;
        slots = ap (λ (s : State). s.slots) e;
        blocks = ap (λ (s : State). s.blocks) e;
      })
      (λ failed state e. (
        e.0,
        record {
          input = ap (λ (s : State). s.input) e.1;
          shown = ap (λ (s : State). s.shown) e.1;
          printed = ap (λ (s : State). s.printed) e.1;
          slots = ap (λ (s : State). s.slots) e.1;
          blocks = ap (λ (s : State). s.blocks) e.1;
        },
      ))
      (session_on (state_with before x y z w) old.drawn (length z)) how drawn h)

  -- all of it
  pub session_left : (bound : ℕ) (old : Drawn) (exit : SessionExit) (drawn : ℕ) → SystemBegins before
      → (old.drawn + 4194304 * bound < 2 ^ 64 → (n : ℕ) → IsDueSince shown before n → WhereTold (state_of contents left shown printed before)
      (state_of contents left shown printed after) (λ s t. SessionLeaves bound old.source (session_on s old.drawn n) exit.end drawn t))
      → KeepsTold contents left shown printed before after → KeepsDue shown before after → exit.due ≡ due_in after
      → SessionLeft contents left shown printed bound old exit drawn o o'
  session_left bound old exit drawn begins exact told keeps due = record {
    ends = λ few.
        on_objects contents left shown printed before after o o' are are' (λ s t. SessionLeaves bound old.source (session_on s old.drawn (length s.shown)) exit.end drawn t) (EndsOn bound old exit.end drawn)
        (ends_on bound old exit.end drawn begins)
        (from_start (state_with before) (contents (drive_in before)) (left (input_in before)) (shown (terminal_in before)) (printed (printer_in before))
        (state_of contents left shown printed after) (due_in before)
        (λ n s t. SessionLeaves bound old.source (session_on s old.drawn n) exit.end drawn t) (λ s. length s.shown) begins.due
        (λ x y bytes w. refl) (exact few));
    told = told_run contents left shown printed before after o o' are are' told;
    due = due_run contents left shown printed before after o o' are are' exit.due begins due told keeps;
  }

rose_behind : (a b c : ℕ) → a ≤ b → CountRose b c → CountRose a c
rose_behind a b c first rose = omega (arith, first, rose)

-- it rose where it is blamed
rose_of : (old new : Outside → ℕ) (fault : Bool) (failed : Option Outside) (failing : Outside) → failed ≡ Some failing → Blames fault failed old new
    → CountRose (old failing) (new failing)
rose_of old new true (Some one) failing is blame = let same : one ≡ failing = cc in subst (λ o. CountRose (old o) (new o)) same blame
rose_of old new true None failing is blame = absurd blame
rose_of old new false (Some one) failing is blame = absurd blame
rose_of old new false None failing is blame = absurd (cc)

-- the count of the object that has failed rose
pub blamed : {D S T P : Type 0} (drive : D → ℕ) (input : S → ℕ) (terminal : T → ℕ) (printer : P → ℕ) (before after : System D S T P) (o o' : Objects D S T P)
    → drive o.drive ≤ drive (drive_in before) → o.input ≡ input_in before → o.terminal ≡ terminal_in before → o.printer ≡ printer_in before → AreOf after o'
    → (fault : Bool)
    → Blames fault (failed_in after) (faults_of drive input terminal printer before) (faults_of drive input terminal printer after)
    → (failed : Option Outside) → failed_in after ≡ failed → FailedIs failed (faults_in drive input terminal printer o) (faults_in drive input terminal printer o')
blamed drive input terminal printer before after o o' first i t p are' fault blame None is = tt
blamed drive input terminal printer before after o o' first i t p are' fault blame (Some failing) is =
    each failing (rose_of (faults_of drive input terminal printer before) (faults_of drive input terminal printer after) fault (failed_in after) failing is blame)
  where
    each : (failing : Outside) → CountRose (faults_of drive input terminal printer before failing) (faults_of drive input terminal printer after failing)
        → CountRose (faults_in drive input terminal printer o failing) (faults_in drive input terminal printer o' failing)
    each outside.Drive rose = subst (λ x. CountRose (drive o.drive) (drive x)) (sym are'.drive) (rose_behind _ _ _ first rose)
    each outside.Input rose =
        subst (λ x. CountRose (input x) (input o'.input)) (sym i) (subst (λ x. CountRose (input (input_in before)) (input x)) (sym are'.input) rose)
    each outside.Terminal rose =
        subst (λ x. CountRose (terminal x) (terminal o'.terminal)) (sym t)
        (subst (λ x. CountRose (terminal (terminal_in before)) (terminal x)) (sym are'.terminal) rose)
    each outside.Printer rose =
        subst (λ x. CountRose (printer x) (printer o'.printer)) (sym p)
        (subst (λ x. CountRose (printer (printer_in before)) (printer x)) (sym are'.printer) rose)
