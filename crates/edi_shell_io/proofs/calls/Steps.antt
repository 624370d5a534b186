-- Bytes that are shown or printed one after another, as steps of a course.
use Rattle.std.proofs.Common.{◌≡◌, ◌≤◌, ◌<◌, ◌⊎◌, inl, inr, ℕ, zero, suc, List, [], ◌∷◌, ◌++◌, length, take, refl, sym, ap, subst, ◌∙◌, arith, append-nil, append_assoc}
use Rattle.std.specs.Prelude.{Contains}
use Rattle.std.proofs.lemmas.List.Elements.{Contains-append_right}
use Rattle.edi_calls.specs.declared.ends.Outside.{Outside}
use Rattle.edi_calls.specs.declared.ends.Outside.TheVariants as outside
use Rattle.edi_calls.specs.State.{State, fresh}
use Rattle.edi_session.specs.Course.{Course, IsAtByte, MayFail, PrintsByte, ShowsByte, states_of, becomes, leaves_input, shows, prints}
use Rattle.edi_session.proofs.Faults.{byte_on, drive_fails, input_fails, printer_fails, terminal_fails}

is_now : (c : Course) → Contains (states_of c) c.now
is_now c = (0, omega arith, refl)

-- the input may fail where its next byte is taken, before that
pub input_past : (byte : ℕ) (left : List ℕ) (c : Course) → c.now.input ≡ byte ∷ left → MayFail outside.Input (states_of (leaves_input left c)) c.now
input_past byte left c some =
    input_fails (states_of (leaves_input left c)) c.now (record c.now { input = left }) (record { later = []; earlier = c.past; is = refl })
    (byte, some, refl)

-- the drive may fail where a course is now, and there before a change
pub drive_now : (c : Course) → MayFail outside.Drive (states_of c) c.now
drive_now c = drive_fails (states_of c) c.now (is_now c)

pub drive_past : (next : State) (c : Course) → MayFail outside.Drive (states_of (becomes next c)) c.now
drive_past next c =
    drive_fails (states_of (becomes next c)) c.now (Contains-append_right (next ∷ []) (states_of c) c.now (is_now c))

-- What each of two ways to put bytes does: in the end all are there, each first part is there once, right before a byte or behind it, and
-- so it is from another state with the same contents.
pub record Appends (failed : Outside) (f : List ℕ → Course → Course) (more : State → List ℕ → State) : Type 0 where
  pub in_the_end : (bytes : List ℕ) (c : Course) → (f bytes c).now ≡ more c.now bytes
  pub on_the_way : (k : ℕ) (bytes : List ℕ) (c : Course) → k ≤ length bytes → 0 < length bytes
      → MayFail failed (states_of (f bytes c)) (more c.now (take k bytes))
  pub behind : (part : List ℕ) (now x y : State) → fresh x ≡ fresh now → y ≡ more x part → fresh y ≡ fresh (more now part)

module _ (f : List ℕ → Course → Course) (more : State → List ℕ → State) (none : (s : State) → more s [] ≡ s)
    (two : (s : State) (xs ys : List ℕ) → more (more s xs) ys ≡ more s (xs ++ ys)) (opens : (s : State) (xs : List ℕ) → fresh (more s xs) ≡ more (fresh s) xs)
    (nil : (c : Course) → f [] c ≡ c) (cons : (b : ℕ) (bs : List ℕ) (c : Course) → f (b ∷ bs) c ≡ f bs (becomes (more c.now (b ∷ [])) c))
    (Puts : State → State → Type 0) (puts : (s : State) (b : ℕ) → Puts s (more s (b ∷ []))) where
  -- in the end all of them are there
  in_the_end : (bytes : List ℕ) (c : Course) → (f bytes c).now ≡ more c.now bytes
  in_the_end [] c = ap (λ d. d.now) (nil c) ∙ sym (none c.now)
  in_the_end (b ∷ bytes) c =
      ap (λ d. d.now) (cons b bytes c) ∙ in_the_end bytes (becomes (more c.now (b ∷ [])) c) ∙ two c.now (b ∷ []) bytes

  -- a byte from before stays in the course
  stays_there : (bytes : List ℕ) (c : Course) (x : State) → IsAtByte Puts (states_of c) x → IsAtByte Puts (states_of (f bytes c)) x
  stays_there [] c x there = subst (λ d. IsAtByte Puts (states_of d) x) (sym (nil c)) there
  stays_there (b ∷ bytes) c x there =
      subst (λ d. IsAtByte Puts (states_of d) x) (sym (cons b bytes c))
      (stays_there bytes (becomes (more c.now (b ∷ [])) c) x (byte_on Puts (more c.now (b ∷ []) ∷ []) (states_of c) x there))

  -- the course with one byte more: this moment is before it, or behind it
  one_byte : (b : ℕ) (c : Course) (x : State) → (x ≡ c.now) ⊎ (x ≡ more c.now (b ∷ [])) → IsAtByte Puts (states_of (becomes (more c.now (b ∷ [])) c)) x
  one_byte b c x at = record {
    before = c.now;
    next = more c.now (b ∷ []);
    follows = record { later = []; earlier = c.past; is = refl };
    puts = puts c.now b;
    at = at;
  }

  -- and each first part is there once
  on_the_way : (k b : ℕ) (bytes : List ℕ) (c : Course) → k ≤ suc (length bytes)
      → IsAtByte Puts (states_of (f (b ∷ bytes) c)) (more c.now (take k (b ∷ bytes)))
  on_the_way zero b bytes c few =
      subst (λ d. IsAtByte Puts (states_of d) (more c.now [])) (sym (cons b bytes c))
      (stays_there bytes (becomes (more c.now (b ∷ [])) c) (more c.now []) (one_byte b c (more c.now []) (inl (none c.now))))
  on_the_way (suc zero) b [] c few =
      subst (λ d. IsAtByte Puts (states_of d) (more c.now (b ∷ []))) (sym (cons b [] c))
      (stays_there [] (becomes (more c.now (b ∷ [])) c) (more c.now (b ∷ [])) (one_byte b c (more c.now (b ∷ [])) (inr refl)))
  on_the_way (suc (suc k)) b [] c few = absurd (omega (arith, few))
  on_the_way (suc k) b (d ∷ bytes) c few =
      subst (λ x. IsAtByte Puts (states_of x) (more c.now (b ∷ take k (d ∷ bytes)))) (sym (cons b (d ∷ bytes) c))
      (subst (IsAtByte Puts (states_of (f (d ∷ bytes) (becomes (more c.now (b ∷ [])) c)))) (two c.now (b ∷ []) (take k (d ∷ bytes)))
      (on_the_way k d bytes (becomes (more c.now (b ∷ [])) c) (omega (arith, few))))

  some_way : (k : ℕ) (bytes : List ℕ) (c : Course) → k ≤ length bytes → 0 < length bytes
      → IsAtByte Puts (states_of (f bytes c)) (more c.now (take k bytes))
  some_way k [] c few some = absurd (omega (arith, some))
  some_way k (b ∷ bytes) c few some = on_the_way k b bytes c few

  appends : (failed : Outside) → ((states : List State) (x : State) → IsAtByte Puts states x → MayFail failed states x) → Appends failed f more
  appends failed may = record {
    in_the_end = in_the_end;
    on_the_way = λ k bytes c few some. may (states_of (f bytes c)) (more c.now (take k bytes)) (some_way k bytes c few some);
    behind = λ part now x y alike is. ap fresh is ∙ opens x part ∙ ap (λ s. more s part) alike ∙ sym (opens now part);
  }

-- ---- the terminal and the printer

abbrev pub more_shown : State → List ℕ → State
more_shown s bytes = record s { shown = s.shown ++ bytes }

abbrev pub more_printed : State → List ℕ → State
more_printed s bytes = record s { printed = s.printed ++ bytes }

pub shows_append : Appends outside.Terminal shows more_shown
shows_append =
    appends shows more_shown (λ s. ap (λ xs. record s { shown = xs }) (append-nil s.shown))
    (λ s xs ys. ap (λ zs. record s { shown = zs }) (append_assoc s.shown xs ys)) (λ s xs. refl) (λ c. refl) (λ b bs c. refl)
    ShowsByte (λ s b. (b, refl)) outside.Terminal terminal_fails

pub prints_append : Appends outside.Printer prints more_printed
prints_append =
    appends prints more_printed (λ s. ap (λ xs. record s { printed = xs }) (append-nil s.printed))
    (λ s xs ys. ap (λ zs. record s { printed = zs }) (append_assoc s.printed xs ys)) (λ s xs. refl) (λ c. refl) (λ b bs c. refl)
    PrintsByte (λ s b. (b, refl)) outside.Printer printer_fails
