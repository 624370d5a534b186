-- Helper. What every call of a system keeps, it keeps over several calls.
use Rattle.std.proofs.Common.{◌≡◌, ℕ, ◌≤◌, Bool, true, false, List, [], ◌∷◌, Option, Some, None, refl, sym, ap, subst, ◌∙◌, arith, inl, inr}
use Rattle.std.specs.Prelude.{is_some, IsSome}
use Rattle.edi_told.specs.Faults.{CountRose}
use Rattle.edi_calls.specs.declared.ends.Outside.{Outside}
use Rattle.edi_system.proofs.Chained.{behind_none, behind_one_more, told_on}
use Rattle.edi_system.specs.AsCalls.{IsBehind, KeepsDue}
use Rattle.edi_system.specs.Ends.{Blames, Keeps}
use Rattle.edi_system.specs.Parts.{KeepsTold, ToldStays}
use Rattle.edi_system.specs.State.{all_told, drive_in, failed_in, faults_of, input_in, printer_in, state_of, state_with, terminal_in}
use Rattle.edi_system.specs.declared.system.System.{System}
use Rattle.edi_shell_io.specs.calls.OnSystem.{SystemLasts}

none_some : {A : Type 0} (o : Option A) → o ≡ None → IsSome o → ⊥
none_some o e h = let wrong : false ≡ true = ap is_some (sym e) ∙ h in cc

no_one : false ≡ true → ⊥
no_one h = cc

some_before : {A : Type 0} (o o' : Option A) → (o ≡ None → o' ≡ None) → IsSome o' → IsSome o
some_before (Some x) o' h e = refl
some_before None o' h e = absurd (none_some o' (h refl) e)

all_some : {A B C E X : Type 0} (make : A → B → C → E → X) (a : Option A) (b : Option B) (c : Option C) (e : Option E) → IsSome (all_told make a b c e)
    → IsSome a × IsSome b × IsSome c × IsSome e
all_some make (Some x) (Some y) (Some z) (Some w) h = (refl, refl, refl, refl)
all_some make (Some x) (Some y) (Some z) None h = absurd (no_one h)
all_some make (Some x) (Some y) None e h = absurd (no_one h)
all_some make (Some x) None c e h = absurd (no_one h)
all_some make None b c e h = absurd (no_one h)

some_all : {A B C E X : Type 0} (make : A → B → C → E → X) (a : Option A) (b : Option B) (c : Option C) (e : Option E) → IsSome a → IsSome b → IsSome c
    → IsSome e → IsSome (all_told make a b c e)
some_all make (Some x) (Some y) (Some z) (Some w) ha hb hc he = refl
some_all make (Some x) (Some y) (Some z) None ha hb hc he = absurd (no_one he)
some_all make (Some x) (Some y) None e ha hb hc he = absurd (no_one hc)
some_all make (Some x) None c e ha hb hc he = absurd (no_one hb)
some_all make None b c e ha hb hc he = absurd (no_one ha)

module _ {D S T P : Type 0} (contents : D → Option (List (List ℕ))) (count : D → ℕ) (left : S → Option (List ℕ)) (shown : T → Option (List ℕ))
    (printed : P → Option (List ℕ)) where
  -- what is told of the input, the terminal and the printer stays so
  streams_stay : (a b : System D S T P) → IsBehind contents count left shown printed a b
      → ToldStays None None (left (input_in a)) (left (input_in b)) (shown (terminal_in a)) (shown (terminal_in b)) (printed (printer_in a))
      (printed (printer_in b))
  streams_stay a b led = record {
    drive = λ none. none;
    source = led.source;
    terminal = led.terminal;
    printer = led.printer;
    valid = tt;
    shrinks = led.shrinks;
    grows = led.grows;
    prints = led.prints;
  }

  behind_then : (a b c : System D S T P) → IsBehind contents count left shown printed a b → IsBehind contents count left shown printed b c
      → IsBehind contents count left shown printed a c
  behind_then a b c one two =
      let streams = told_on None None None _ _ _ _ _ _ _ _ _ (streams_stay a b one) (streams_stay b c two) in
      record {
        drive = λ none. two.drive (one.drive none);
        source = streams.source;
        terminal = streams.terminal;
        printer = streams.printer;
        valid = λ valid. two.valid (one.valid valid);
        count_ = two.count_ ∙ one.count_;
        shrinks = streams.shrinks;
        grows = streams.grows;
        prints = streams.prints;
        due = λ start since. two.due start (one.due start since);
      }

module _ {D S T P : Type 0} (contents : D → Option (List (List ℕ))) (count : D → ℕ) (left : S → Option (List ℕ)) (shown : T → Option (List ℕ))
    (printed : P → Option (List ℕ)) (drive : D → ℕ) (input : S → ℕ) (terminal : T → ℕ) (printer : P → ℕ) where
  abbrev Lasts : System D S T P → System D S T P → Type 0
  Lasts a b = SystemLasts contents count left shown printed drive input terminal printer a b

  pub lasts_itself : (a : System D S T P) → Lasts a a
  lasts_itself a = record {
    behind = behind_none contents count left shown printed a;
    references = refl;
    later = λ outside. omega arith;
    blame = λ outside e. inl e;
  }

  rose_then : (p q r : ℕ) → p ≤ q → CountRose q r → CountRose p r
  rose_then p q r first rose = omega (arith, first, rose)

  rose_before : (p q r : ℕ) → CountRose p q → q ≤ r → CountRose p r
  rose_before p q r rose later = omega (arith, rose, later)

  pub lasts_then : (a b c : System D S T P) → Lasts a b → Lasts b c → Lasts a c
  lasts_then a b c one two = record {
    behind = behind_then contents count left shown printed a b c one.behind two.behind;
    references = two.references ∙ one.references;
    later = λ outside. let first = one.later outside in let second = two.later outside in omega (arith, first, second);
    blame = λ outside e. elim (two.blame outside e) [
      | inl was ↦ elim (one.blame outside was) [
        | inl first ↦ inl first
        | inr rose ↦ inr (rose_before _ _ _ rose (two.later outside))
      ]
      | inr rose ↦ inr (rose_then _ _ _ (one.later outside) rose)
    ];
  }

  -- what a call of the system says of it
  pub lasts_by : (fault : Bool) (a b : System D S T P) → KeepsTold contents left shown printed a b → count (drive_in b) ≡ count (drive_in a)
      → KeepsDue shown a b → Keeps drive input terminal printer fault a b → Lasts a b
  lasts_by fault a b told size due keeps = record {
    behind = behind_one_more contents count left shown printed a a b told size due (behind_none contents count left shown printed a);
    references = same _ _ _ _ _ _ _ _ _ _ _ _ keeps.same_drive keeps.same_room keeps.same_input keeps.same_terminal keeps.same_printer keeps.same_buffer;
    later = keeps.later;
    blame = λ outside e. inr (go fault (failed_in b) outside e keeps.blame);
  } where
    same : (d d' r r' i i' t t' p p' b b' : ℕ) → d ≡ d' → r ≡ r' → i ≡ i' → t ≡ t' → p ≡ p' → b ≡ b'
        → d ∷ r ∷ i ∷ t ∷ p ∷ b ∷ [] ≡ d' ∷ r' ∷ i' ∷ t' ∷ p' ∷ b' ∷ []
    same d d' r r' i i' t t' p p' b b' e1 e2 e3 e4 e5 e6 = cc

    go : (f : Bool) (failed : Option Outside) (outside : Outside) → failed ≡ Some outside
        → Blames f failed (faults_of drive input terminal printer a) (faults_of drive input terminal printer b)
        → CountRose (faults_of drive input terminal printer a outside) (faults_of drive input terminal printer b outside)
    go true (Some one) outside e blame = let is : one ≡ outside = cc in
        subst (λ o. CountRose (faults_of drive input terminal printer a o) (faults_of drive input terminal printer b o)) is blame
    go true None outside e blame = absurd blame
    go false (Some one) outside e blame = absurd blame
    go false None outside e blame = absurd (cc)

  -- what is told in the end was told before
  pub told_before : (a b : System D S T P) → Lasts a b → IsSome (state_of contents left shown printed b) → IsSome (state_of contents left shown printed a)
  told_before a b lasts tells =
      let each = all_some (state_with b) (contents (drive_in b)) (left (input_in b)) (shown (terminal_in b)) (printed (printer_in b)) tells in
      some_all (state_with a) (contents (drive_in a)) (left (input_in a)) (shown (terminal_in a)) (printed (printer_in a))
      (some_before _ _ lasts.behind.drive each.0) (some_before _ _ lasts.behind.source each.1) (some_before _ _ lasts.behind.terminal each.2)
      (some_before _ _ lasts.behind.printer each.3)
