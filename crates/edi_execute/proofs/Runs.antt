-- What a run leaves of the objects, from what it leaves of the system over them.
use Rattle.std.proofs.Common.{◌≡◌, ℕ, ◌+◌, ◌<◌, ◌^◌, Bool, false, List, [], ◌∷◌, length, drop, Option, Some, None, ◌≤◌, inl, inr, arith, refl, sym, ap, subst, ◌∙◌}
use Rattle.std.specs.Prelude.{IfSome}
use Rattle.edi_told.specs.Told.{WhereTold}
use Rattle.edi_calls.specs.declared.ends.Outside.{Outside}
use Rattle.edi_calls.specs.declared.ends.Outside.TheVariants as outside
use Rattle.edi_calls.specs.Laws.{IsSameOutside}
use Rattle.edi_calls.specs.State.{State, fresh}
use Rattle.edi_image.specs.Image.{mount_fault_of}
use Rattle.edi_kernel.specs.declared.ends.Ending.TheVariants as ending
use Rattle.edi_kernel.specs.Runs.{RunsTo}
use Rattle.edi_system.specs.AsCalls.{IsDueFrom, IsDueSince, KeepsDue}
use Rattle.edi_system.specs.Parts.{due_after, IsValid, KeepsTold, SystemBegins, ToldStays}
use Rattle.edi_system.specs.Growing.{Grows, Shrinks}
use Rattle.edi_system.proofs.Lasting.{none_stays, valid_ready}
use Rattle.edi_system.specs.State.{all_told, drive_in, due_in, faults_of, input_in, printer_in, state_of, state_with, terminal_in, IsReady}
use Rattle.edi_system.specs.declared.system.System.{System}
use Rattle.edi_target.specs.Check.{CodeParts}
use Rattle.edi_trace.specs.Drawn.{Drawn}
use Rattle.edi_execute.specs.declared.run.Ran.{Ran}
use Rattle.edi_execute.specs.Execution.{IsAtCall, IsAtMoment}
use Rattle.edi_execute.specs.Objects.{Contents, HasRun, NoneFalls, Objects, RunLeaves, Show, StandsAtCall, StandsAtMoment, contents_of, contents_with}
use Rattle.edi_execute.specs.Objects.{faults_in, system_on}
use Rattle.edi_execute.proofs.Executing.{byte_before}

-- what is told of four objects together, seen otherwise
pub told_otherwise : {A B C E X Y : Type 0} (make make' : A → B → C → E → X) (other : A → B → C → E → Y) (a a' : Option A) (b b' : Option B) (c c' : Option C)
    (e e' : Option E)
    (W : X → X → Type 0) (V : Y → Y → Type 0)
    → ((x x' : A) (y y' : B) (z z' : C) (w w' : E) → W (make x y z w) (make' x' y' z' w') → V (other x y z w) (other x' y' z' w'))
    → WhereTold (all_told make a b c e) (all_told make' a' b' c' e') W → WhereTold (all_told other a b c e) (all_told other a' b' c' e') V
told_otherwise make make' other a None b b' c c' e e' W V so told = tt
told_otherwise make make' other a (Some x') b None c c' e e' W V so told = tt
told_otherwise make make' other a (Some x') b (Some y') c None e e' W V so told = tt
told_otherwise make make' other a (Some x') b (Some y') c (Some z') e None W V so told = tt
told_otherwise make make' other None (Some x') b (Some y') c (Some z') e (Some w') W V so told = absurd told
told_otherwise make make' other (Some x) (Some x') None (Some y') c (Some z') e (Some w') W V so told = absurd told
told_otherwise make make' other (Some x) (Some x') (Some y) (Some y') None (Some z') e (Some w') W V so told = absurd told
told_otherwise make make' other (Some x) (Some x') (Some y) (Some y') (Some z) (Some z') None (Some w') W V so told = absurd told
told_otherwise make make' other (Some x) (Some x') (Some y) (Some y') (Some z) (Some z') (Some w) (Some w') W V so told =
    so x x' y y' z z' w w' told

-- a drive that was only read in between
same_blocks : {A B C E X : Type 0} (make : A → B → C → E → X) (o o' : Option A) (b : Option B) (c : Option C) (e : Option E) (z : Option X) (P : X → X → Type 0)
    → WhereTold o o' (λ old new. new ≡ old) → WhereTold (all_told make o' b c e) z P → WhereTold (all_told make o b c e) z P
same_blocks make o None b c e None P same told = tt
same_blocks make o None b c e (Some z) P same told = absurd told
same_blocks make None (Some x') b c e z P same told = absurd same
same_blocks make (Some x) (Some x') b c e z P same told = subst (λ y. WhereTold (all_told make (Some y) b c e) z P) same told

pub only_read : {D : Type 0} (contents : D → Option (List (List ℕ))) (a b old new : D) (P : List (List ℕ) → Type 0) → WhereTold (contents a) (contents b)
    (λ x y. (y ≡ x) × P x)
    → old ≡ a → new ≡ b → WhereTold (contents old) (contents new) (λ x y. y ≡ x)
only_read contents a b old new P told first last =
    subst (λ o. WhereTold (contents o) (contents new) (λ x y. y ≡ x)) (sym first)
    (subst (λ n. WhereTold (contents a) (contents n) (λ x y. y ≡ x)) (sym last) (go (contents a) (contents b) told)) where
      go : (o n : Option (List (List ℕ))) → WhereTold o n (λ x y. (y ≡ x) × P x) → WhereTold o n (λ x y. y ≡ x)
      go o None t = tt
      go None (Some n) t = absurd t
      go (Some o) (Some n) t = t.0

-- these are the objects of a system
pub record AreOf {D S T P : Type 0} (system : System D S T P) (o : Objects D S T P) : Type 0 where
  pub drive : o.drive ≡ drive_in system
  pub input : o.input ≡ input_in system
  pub terminal : o.terminal ≡ terminal_in system
  pub printer : o.printer ≡ printer_in system

-- a system was made over these objects, whose drive was only read before
pub record AreUnder {D S T P : Type 0} (contents : D → Option (List (List ℕ))) (system : System D S T P) (o : Objects D S T P) : Type 0 where
  pub drive : WhereTold (contents o.drive) (contents (drive_in system)) (λ old new. new ≡ old)
  pub input : o.input ≡ input_in system
  pub terminal : o.terminal ≡ terminal_in system
  pub printer : o.printer ≡ printer_in system

drop_all : (xs : List ℕ) → drop (length xs) xs ≡ []
drop_all [] = refl
drop_all (x ∷ xs) = drop_all xs

-- the objects have what a state has, where the system is at it but for the found file and the buffer
shows_of : (state now : State) (y : Contents) → IsSameOutside state now → y.input ≡ now.input → y.shown ≡ now.shown → y.printed ≡ now.printed
    → system_on y ≡ fresh now → Show state y
shows_of state now y same input shown printed rest = record {
  input = input ∙ same.input;
  shown = shown ∙ same.shown;
  printed = printed ∙ same.printed;
  slots = ap (λ (s : State). s.slots) rest ∙ same.slots;
  blocks = ap (λ (s : State). s.blocks) rest ∙ same.blocks;
}

-- after a fault the objects have what a state has through which the run comes
moment_is : (code : CodeParts) (bound : ℕ) (old : Drawn) (x : Contents) (now : State) (y : Contents) → IsAtMoment code (system_on x) bound old now
    → y.input ≡ now.input → y.shown ≡ now.shown → y.printed ≡ now.printed → system_on y ≡ fresh now → StandsAtMoment code bound old x y
moment_is code bound old x now y at input shown printed rest = record {
  moment = at.moment;
  comes = at.comes;
  shows = shows_of at.moment now y at.same input shown printed rest;
}

-- and of the two states of the call that failed
call_is : (code : CodeParts) (bound : ℕ) (old : Drawn) (outside : Outside) (x : Contents) (now : State) (y : Contents)
    → IsAtCall code (system_on x) bound old outside now
    → y.input ≡ now.input → y.shown ≡ now.shown → y.printed ≡ now.printed → system_on y ≡ fresh now → StandsAtCall code bound old outside x y
call_is code bound old outside x now y at input shown printed rest = record {
  from = at.0.1.before;
  next = at.0.1.next;
  calls = (at.0.0, at.0.1.follows);
  asks = at.0.1.asks;
  left = byte_before outside at.0.1.before at.0.1.next now at.0.1.at at.1;
  shows =
      elim at.0.1.at [
        | inl same ↦ inl (shows_of at.0.1.before now y same input shown printed rest)
        | inr same ↦ inr (same.0, shows_of at.0.1.next now y same.1 input shown printed rest)
      ];
}

module _ {D S T P : Type 0} (contents : D → Option (List (List ℕ))) (left : S → Option (List ℕ)) (shown : T → Option (List ℕ)) (printed : P → Option (List ℕ))
    (before after : System D S T P) where
  -- the drive was a valid image, where it is told before and afterwards
  pub mounted_run : (count : D → ℕ) (first last : D) → IsReady contents count before → WhereTold (contents first) (contents (drive_in before))
      (λ old new. new ≡ old)
      → last ≡ drive_in after → KeepsTold contents left shown printed before after → WhereTold (contents first) (contents last)
      (λ old new. mount_fault_of old ≡ None)
  mounted_run count first last ready read is told =
      go (contents first) (contents (drive_in before)) (contents last) read (valid_ready contents count before ready) (λ none. ap contents is ∙ told.drive none)
    where
      go : (a b c : Option (List (List ℕ))) → WhereTold a b (λ old new. new ≡ old) → IsValid b → (b ≡ None → c ≡ None)
          → WhereTold a c (λ old new. mount_fault_of old ≡ None)
      go a b None same valid stays = tt
      go a None (Some c) same valid stays = absurd (let wrong : Some c ≡ None = stays refl in cc)
      go None (Some b) (Some c) same valid stays = absurd same
      go (Some a) (Some b) (Some c) same valid stays = subst (λ bs. mount_fault_of bs ≡ None) same valid

module _ {D S T P : Type 0} (contents : D → Option (List (List ℕ))) (left : S → Option (List ℕ)) (shown : T → Option (List ℕ)) (printed : P → Option (List ℕ))
    (before after : System D S T P) (o o' : Objects D S T P) (are : AreUnder contents before o) (are' : AreOf after o') where
  told_of : contents_of contents left shown printed o'
      ≡ all_told contents_with (contents (drive_in after)) (left (input_in after)) (shown (terminal_in after)) (printed (printer_in after))
  told_of =
      ap (λ x. all_told contents_with (contents x) (left o'.input) (shown o'.terminal) (printed o'.printer)) are'.drive
      ∙ ap (λ x. all_told contents_with (contents (drive_in after)) (left x) (shown o'.terminal) (printed o'.printer)) are'.input
      ∙ ap (λ x. all_told contents_with (contents (drive_in after)) (left (input_in after)) (shown x) (printed o'.printer)) are'.terminal
      ∙ ap (λ x. all_told contents_with (contents (drive_in after)) (left (input_in after)) (shown (terminal_in after)) (printed x)) are'.printer

  -- what is told of the states of the system is told of its objects
  pub on_objects : (W : State → State → Type 0) (V : Contents → Contents → Type 0)
      → ((x x' : List (List ℕ)) (y y' z z' w w' : List ℕ) → W (state_with before x y z w) (state_with after x' y' z' w')
      → V (contents_with x y z w) (contents_with x' y' z' w'))
      → WhereTold (state_of contents left shown printed before) (state_of contents left shown printed after) W
      → WhereTold (contents_of contents left shown printed o) (contents_of contents left shown printed o') V
  on_objects W V so told =
      subst (λ x. WhereTold (all_told contents_with (contents o.drive) x (shown o.terminal) (printed o.printer)) (contents_of contents left shown printed o')
      V) (sym (ap left are.input))
      (subst (λ x. WhereTold (all_told contents_with (contents o.drive) (left (input_in before)) x (printed o.printer))
      (contents_of contents left shown printed o') V) (sym (ap shown are.terminal))
      (subst (λ x. WhereTold (all_told contents_with (contents o.drive) (left (input_in before)) (shown (terminal_in before)) x)
      (contents_of contents left shown printed o') V) (sym (ap printed are.printer))
      (same_blocks contents_with (contents o.drive) (contents (drive_in before)) (left (input_in before)) (shown (terminal_in before))
      (printed (printer_in before)) (contents_of contents left shown printed o') V are.drive
      (subst (λ x. WhereTold (all_told contents_with (contents (drive_in before)) (left (input_in before)) (shown (terminal_in before))
      (printed (printer_in before))) x V)
      (sym told_of)
      (told_otherwise (state_with before) (state_with after) contents_with (contents (drive_in before)) (contents (drive_in after)) (left (input_in before))
      (left (input_in after))
      (shown (terminal_in before)) (shown (terminal_in after)) (printed (printer_in before)) (printed (printer_in after)) W V
      (λ x x' y y' z z' w w' is. so x x' y y' z z' w w' is) told)))))

  -- what is not told stays so, and the drive is a valid image
  pub told_run : KeepsTold contents left shown printed before after
      → ToldStays (contents o.drive) (contents o'.drive) (left o.input) (left o'.input) (shown o.terminal) (shown o'.terminal) (printed o.printer)
      (printed o'.printer)
  told_run told = record {
    drive = λ none. ap contents are'.drive ∙ told.drive (none_stays (λ old new. new ≡ old) (contents o.drive) (contents (drive_in before)) are.drive none);
    source = λ none. ap left are'.input ∙ told.source (ap left (sym are.input) ∙ none);
    terminal = λ none. ap shown are'.terminal ∙ told.terminal (ap shown (sym are.terminal) ∙ none);
    printer = λ none. ap printed are'.printer ∙ told.printer (ap printed (sym are.printer) ∙ none);
    valid = subst IsValid (sym (ap contents are'.drive)) told.valid;
    grows = subst (λ x. WhereTold (shown x) (shown o'.terminal) Grows) (sym are.terminal)
        (subst (λ x. WhereTold (shown (terminal_in before)) (shown x) Grows) (sym are'.terminal) told.grows);
    shrinks = subst (λ x. WhereTold (left x) (left o'.input) Shrinks) (sym are.input)
        (subst (λ x. WhereTold (left (input_in before)) (left x) Shrinks) (sym are'.input) told.shrinks);
    prints = subst (λ x. WhereTold (printed x) (printed o'.printer) Grows) (sym are.printer)
        (subst (λ x. WhereTold (printed (printer_in before)) (printed x) Grows) (sym are'.printer) told.prints);
  }

  -- whether a line is due
  pub due_run : (due : Bool) → SystemBegins before → due ≡ due_in after → KeepsTold contents left shown printed before after → KeepsDue shown before after
      → WhereTold (shown o.terminal) (shown o'.terminal) (λ taken now. due ≡ due_after false (drop (length taken) now))
  due_run due begins is told keeps =
      go (shown o.terminal) (shown o'.terminal) (ap shown (sym are.terminal)) (ap shown (sym are'.terminal))
    where
      go : (a b : Option (List ℕ)) → shown (terminal_in before) ≡ a → shown (terminal_in after) ≡ b
          → WhereTold a b (λ taken now. due ≡ due_after false (drop (length taken) now))
      go a None e e' = tt
      go None (Some now) e e' = absurd (let wrong : Some now ≡ None = sym e' ∙ told.terminal e in cc)
      go (Some taken) (Some now) e e' =
          let first : IsDueSince shown before (length taken) =
          subst (λ x. IfSome x (λ bytes. IsDueFrom (length taken) bytes (due_in before))) (sym e)
          (record { within = omega arith; is = begins.due ∙ sym (ap (due_after false) (drop_all taken)) }) in
          let last : IfSome (Some now) (λ bytes. IsDueFrom (length taken) bytes (due_in after)) =
          subst (λ x. IfSome x (λ bytes. IsDueFrom (length taken) bytes (due_in after))) e' (keeps (length taken) first) in
          is ∙ last.is

  -- after a fault, that of the call that failed
  pub call_leaves : (code : CodeParts) (bound : ℕ) (old : Drawn) (outside : Outside)
      → WhereTold (state_of contents left shown printed before) (state_of contents left shown printed after)
      (λ s t. IsAtCall code (fresh s) bound old outside t)
      → WhereTold (contents_of contents left shown printed o) (contents_of contents left shown printed o') (StandsAtCall code bound old outside)
  call_leaves code bound old outside told =
      on_objects (λ s t. IsAtCall code (fresh s) bound old outside t) (StandsAtCall code bound old outside)
      (λ x x' y y' z z' w w' is. call_is code bound old outside (contents_with x y z w) (state_with after x' y' z' w') (contents_with x' y' z' w') is refl refl
      refl refl)
      told

  -- all of it
  pub run_leaves : (code : CodeParts) (bound : ℕ) (old : Drawn) (ran : Ran) (words : List ℕ) (used : ℕ) (new : Drawn) → SystemBegins before
      → (old.drawn + bound < 2 ^ 64 → WhereTold (state_of contents left shown printed before) (state_of contents left shown printed after)
      (λ s t. RunsTo code (fresh s) bound old ran.ending words used t new))
      → (ran.ending ≡ ending.Fault → old.drawn + bound < 2 ^ 64 → WhereTold (state_of contents left shown printed before)
      (state_of contents left shown printed after) (λ s t. IsAtMoment code (fresh s) bound old t))
      → ran.due ≡ due_in after → KeepsTold contents left shown printed before after → KeepsDue shown before after
      → RunLeaves contents left shown printed code bound old ran words used new o o'
  run_leaves code bound old ran words used new begins exact moment due told keeps = record {
    runs = λ few.
        on_objects (λ s t. RunsTo code (fresh s) bound old ran.ending words used t new) (HasRun code bound old ran.ending words used new)
        (λ x x' y y' z z' w w' is. record {
          state = state_with after x' y' z' w';
          runs = is;
          shows = record { input = refl; shown = refl; printed = refl; slots = refl; blocks = refl };
        }) (exact few);
    moment = λ fault few.
        on_objects (λ s t. IsAtMoment code (fresh s) bound old t) (StandsAtMoment code bound old)
        (λ x x' y y' z z' w w' is. moment_is code bound old (contents_with x y z w) (state_with after x' y' z' w') (contents_with x' y' z' w') is refl refl
        refl refl)
        (moment fault few);
    told = told_run told;
    due = due_run ran.due begins due told keeps;
  }

-- no count of a system's objects has fallen, and none of its drive before
pub none_falls : {D S T P : Type 0} (drive : D → ℕ) (input : S → ℕ) (terminal : T → ℕ) (printer : P → ℕ) (before after : System D S T P)
    (o o' : Objects D S T P)
    → drive o.drive ≤ drive (drive_in before) → o.input ≡ input_in before → o.terminal ≡ terminal_in before → o.printer ≡ printer_in before → AreOf after o'
    → ((outside : Outside) → faults_of drive input terminal printer before outside ≤ faults_of drive input terminal printer after outside)
    → NoneFalls drive input terminal printer o o'
none_falls drive input terminal printer before after o o' first i t p are' later = record { later = each } where
  each : (outside : Outside) → faults_in drive input terminal printer o outside ≤ faults_in drive input terminal printer o' outside
  each outside.Drive =
      subst (λ x. drive o.drive ≤ drive x) (sym are'.drive)
      (let then_ : drive (drive_in before) ≤ drive (drive_in after) = later outside.Drive in omega (arith, first, then_))
  each outside.Input = subst (λ x. input x ≤ input o'.input) (sym i) (subst (λ x. input (input_in before) ≤ input x) (sym are'.input) (later outside.Input))
  each outside.Terminal = subst (λ x. terminal x ≤ terminal o'.terminal) (sym t)
      (subst (λ x. terminal (terminal_in before) ≤ terminal x) (sym are'.terminal) (later outside.Terminal))
  each outside.Printer = subst (λ x. printer x ≤ printer o'.printer) (sym p)
      (subst (λ x. printer (printer_in before) ≤ printer x) (sym are'.printer) (later outside.Printer))
