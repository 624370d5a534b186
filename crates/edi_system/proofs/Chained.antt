-- Two calls, one after the other: what both keep the two keep together.
use Rattle.std.proofs.Common.{◌≡◌, ℕ, zero, suc, ◌+◌, ◌≤◌, Bool, true, false, List, [], ◌∷◌, drop, length, take, Option, Some, None, refl, sym, ap, ◌∙◌, arith}
use Rattle.std.proofs.Math.Seq.{drop-nil}
use Rattle.edi_told.specs.Faults.{CountRose}
use Rattle.edi_told.specs.Told.{WhereTold}
use Rattle.edi_calls.specs.declared.ends.Outside.{Outside}
use Rattle.edi_system.specs.AsCalls.{IsBehind, KeepsDue}
use Rattle.edi_system.specs.Ends.{Blames, Keeps}
use Rattle.edi_system.specs.Parts.{IsValid, KeepsTold, ToldStays}
use Rattle.edi_system.specs.Growing.{Grows, Shrinks}
use Rattle.edi_system.specs.State.{drive_in, failed_in, faults_of, input_in, printer_in, terminal_in}
use Rattle.edi_system.specs.declared.system.System.{System}
use Rattle.edi_system.proofs.Lasting.{grows_same, shrinks_same}

-- what is told of each of two calls
pub told_then : {A : Type 0} (P Q R : A → A → Type 0) (a b c : Option A) → ((x y z : A) → P x y → Q y z → R x z) → WhereTold a b P → WhereTold b c Q
    → WhereTold a c R
told_then P Q R a b None so one two = tt
told_then P Q R a None (Some z) so one two = absurd two
told_then P Q R None (Some y) (Some z) so one two = absurd one
told_then P Q R (Some x) (Some y) (Some z) so one two = so x y z one two

front_of_front : (x y z : List ℕ) → take (length x) y ≡ x → take (length y) z ≡ y → take (length x) z ≡ x
front_of_front [] y z one two = refl
front_of_front (a ∷ x) [] z one two = absurd (let wrong : [] ≡ a ∷ x = one in cc)
front_of_front (a ∷ x) (b ∷ y) [] one two = absurd (let wrong : [] ≡ b ∷ y = two in cc)
front_of_front (a ∷ x) (b ∷ y) (c ∷ z) one two =
    (let first : b ∷ take (length x) y ≡ a ∷ x = one in
    let second : c ∷ take (length y) z ≡ b ∷ y = two in
    let head : c ≡ a = cc in
    let rest : take (length x) y ≡ x = cc in
    let other : take (length y) z ≡ y = cc in
    ap (λ n. n ∷ take (length x) z) head ∙ ap (λ ns. a ∷ ns) (front_of_front x y z rest other))

drop_more : (n m : ℕ) (x : List ℕ) → drop m (drop n x) ≡ drop (n + m) x
drop_more zero m x = ap (λ k. drop k x) (omega arith)
drop_more (suc n) m [] = drop-nil m ∙ sym (drop-nil (suc n + m))
drop_more (suc n) m (a ∷ x) = drop_more n m x ∙ ap (λ k. drop k (a ∷ x)) (let e : suc (n + m) ≡ suc n + m = omega arith in e)

less_of_less : (x y z : List ℕ) → Shrinks x y → Shrinks y z → Shrinks x z
less_of_less x y z one two = (one.0 + two.0, two.1 ∙ ap (drop two.0) one.1 ∙ drop_more one.0 two.0 x)

-- what is told stays so
pub told_on : (d d' d'' : Option (List (List ℕ))) (i i' i'' t t' t'' p p' p'' : Option (List ℕ))
    → ToldStays d d' i i' t t' p p' → ToldStays d' d'' i' i'' t' t'' p' p'' → ToldStays d d'' i i'' t t'' p p''
told_on d d' d'' i i' i'' t t' t'' p p' p'' one two = record {
  drive = λ none. two.drive (one.drive none);
  source = λ none. two.source (one.source none);
  terminal = λ none. two.terminal (one.terminal none);
  printer = λ none. two.printer (one.printer none);
  valid = two.valid;
  shrinks = told_then Shrinks Shrinks Shrinks i i' i'' less_of_less one.shrinks two.shrinks;
  grows = told_then Grows Grows Grows t t' t'' front_of_front one.grows two.grows;
  prints = told_then Grows Grows Grows p p' p'' front_of_front one.prints two.prints;
}

-- the count rose in the second call, and did not fall in the first
rose_on : (a b c : ℕ) → a ≤ b → CountRose b c → CountRose a c
rose_on a b c first rose = omega (arith, first, rose)

module _ {D S T P : Type 0} (drive : D → ℕ) (input : S → ℕ) (terminal : T → ℕ) (printer : P → ℕ) where
  -- the objects stay, and no count falls
  pub keeps_on : (fault : Bool) (a b c : System D S T P) → Keeps drive input terminal printer false a b → Keeps drive input terminal printer fault b c
      → Keeps drive input terminal printer fault a c
  keeps_on fault a b c one two = record {
    same_drive = two.same_drive ∙ one.same_drive;
    same_room = two.same_room ∙ one.same_room;
    same_input = two.same_input ∙ one.same_input;
    same_terminal = two.same_terminal ∙ one.same_terminal;
    same_printer = two.same_printer ∙ one.same_printer;
    same_buffer = two.same_buffer ∙ one.same_buffer;
    later = λ outside. let first = one.later outside in let then_ = two.later outside in omega (arith, first, then_);
    blame = go fault (failed_in c) two.blame;
  } where
    go : (f : Bool) (failed : Option Outside) → Blames f failed (faults_of drive input terminal printer b) (faults_of drive input terminal printer c)
        → Blames f failed (faults_of drive input terminal printer a) (faults_of drive input terminal printer c)
    go true (Some outside) blame = rose_on _ _ _ (one.later outside) blame
    go true None blame = absurd blame
    go false (Some outside) blame = absurd blame
    go false None blame = tt

module _ {D S T P : Type 0} (contents : D → Option (List (List ℕ))) (left : S → Option (List ℕ)) (shown : T → Option (List ℕ)) (printed : P → Option (List ℕ))
  where
    pub keeps_told_on : (a b c : System D S T P) → KeepsTold contents left shown printed a b → KeepsTold contents left shown printed b c
        → KeepsTold contents left shown printed a c
    keeps_told_on a b c one two = told_on _ _ _ _ _ _ _ _ _ _ _ _ one two

    -- whether a line is due stays told
    pub due_on : (a b c : System D S T P) → KeepsDue shown a b → KeepsDue shown b c → KeepsDue shown a c
    due_on a b c one two = λ start since. two start (one start since)

module _ {D S T P : Type 0} (contents : D → Option (List (List ℕ))) (count : D → ℕ) (left : S → Option (List ℕ)) (shown : T → Option (List ℕ))
    (printed : P → Option (List ℕ)) where
  -- before any call, and with one call more
  pub behind_none : (a : System D S T P) → IsBehind contents count left shown printed a a
  behind_none a = record {
    drive = λ none. none;
    source = λ none. none;
    terminal = λ none. none;
    printer = λ none. none;
    valid = λ valid. valid;
    count_ = refl;
    shrinks = shrinks_same (left (input_in a));
    grows = grows_same (shown (terminal_in a));
    prints = grows_same (printed (printer_in a));
    due = λ start since. since;
  }

  pub behind_one_more : (start old new : System D S T P) → KeepsTold contents left shown printed old new → count (drive_in new) ≡ count (drive_in old)
      → KeepsDue shown old new → IsBehind contents count left shown printed start old → IsBehind contents count left shown printed start new
  behind_one_more start old new told size due led = record {
    drive = λ none. told.drive (led.drive none);
    source = λ none. told.source (led.source none);
    terminal = λ none. told.terminal (led.terminal none);
    printer = λ none. told.printer (led.printer none);
    valid = λ valid. told.valid;
    count_ = size ∙ led.count_;
    shrinks = told_then Shrinks Shrinks Shrinks _ _ _ less_of_less led.shrinks told.shrinks;
    grows = told_then Grows Grows Grows _ _ _ front_of_front led.grows told.grows;
    prints = told_then Grows Grows Grows _ _ _ front_of_front led.prints told.prints;
    due = λ from since. due from (led.due from since);
  }

  -- what is told where the drive was a valid image
  pub told_behind : (a b : System D S T P) → IsValid (contents (drive_in a)) → IsBehind contents count left shown printed a b
      → KeepsTold contents left shown printed a b
  told_behind a b valid led = record {
    drive = led.drive;
    source = led.source;
    terminal = led.terminal;
    printer = led.printer;
    valid = led.valid valid;
    shrinks = led.shrinks;
    grows = led.grows;
    prints = led.prints;
  }
