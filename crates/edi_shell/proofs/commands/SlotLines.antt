-- The list of the files, line by line.
use Rattle.std.proofs.Common.{◌≡◌, ℕ, zero, suc, ◌+◌, ◌<◌, List, [], ◌∷◌, ◌++◌, length, take, drop, Option, Some, None, refl, sym, ap, subst, ◌∙◌}
use Rattle.std.proofs.Common.{append_assoc, arith}
use Rattle.std.specs.Prelude.{codes}
use Rattle.std.specs.Fmt.{decimal}
use Rattle.std.specs.Option.{option_map}
use Rattle.edi_catalog.specs.declared.entry.Entry.{Entry}
use Rattle.edi_catalog.specs.InSlots.{entry_told}
use Rattle.edi_shell.proofs.commands.Opening.{some_same}
use Rattle.edi_calls.specs.State.{File, free, slot_at}
use Rattle.edi_session.specs.Shell.{Shell, shown_by, state_in}
use Rattle.edi_session.specs.Course.{Course, MayFail, states_of, shows, becomes}
use Rattle.edi_session.specs.Texts.{file_lines, entry_line, catalogue_text}
use Rattle.edi_shell.specs.commands.Files.{slot_line}
use Rattle.edi_session.proofs.Later.{Later, shows_more, shows_on}

-- the lines of the first so many slots
abbrev pub first_lines : ℕ → List (Option File) → List ℕ
first_lines n slots = file_lines (take n slots)

-- one slot more
one_line : (slot : Option File) (slots : List (Option File)) → file_lines (slot ∷ slots) ≡ slot_line slot ++ file_lines slots
one_line None slots = refl
one_line (Some file) slots = refl

pub next_line_of : (n : ℕ) (slots : List (Option File)) → n < length slots → first_lines (suc n) slots ≡ first_lines n slots ++ slot_line (slot_at slots n)
next_line_of n [] lt = absurd (omega (arith, lt))
next_line_of zero (slot ∷ slots) lt = one_line slot [] ∙ append-nil (slot_line slot) where
  append-nil : (xs : List ℕ) → xs ++ [] ≡ xs
  append-nil [] = refl
  append-nil (x ∷ xs) = ap (λ ys. x ∷ ys) (append-nil xs)
next_line_of (suc n) (slot ∷ slots) lt =
    one_line slot (take (suc n) slots) ∙ ap (λ ys. slot_line slot ++ ys) (next_line_of n slots (omega (arith, lt)))
    ∙ sym (append_assoc (slot_line slot) (first_lines n slots) (slot_line (slot_at slots n)))
    ∙ ap (λ ys. ys ++ slot_line (slot_at slots n)) (sym (one_line slot (take n slots)))

rest_of : (n : ℕ) (slots : List (Option File)) → file_lines slots ≡ first_lines n slots ++ file_lines (drop n slots)
rest_of zero slots = refl
rest_of (suc n) [] = refl
rest_of (suc n) (slot ∷ slots) =
    one_line slot slots ∙ ap (λ ys. slot_line slot ++ ys) (rest_of n slots)
    ∙ sym (append_assoc (slot_line slot) (first_lines n slots) (file_lines (drop n slots)))
    ∙ ap (λ ys. ys ++ file_lines (drop n slots)) (sym (one_line slot (take n slots)))

-- a first part of the list is shown on the way to the whole
pub part_on : (n : ℕ) (s : Shell) → Later (shown_by (first_lines n (state_in s).slots) s) (shown_by (catalogue_text (state_in s)) s)
part_on n s o m h =
    let slots = (state_in s).slots in
    let last = decimal (free (state_in s)) ++ codes " blocks free\n" in
    let whole : catalogue_text (state_in s) ≡ first_lines n slots ++ (file_lines (drop n slots) ++ last) =
    ap (λ ys. ys ++ last) (rest_of n slots) ∙ append_assoc (first_lines n slots) (file_lines (drop n slots)) last in
    subst (λ c. MayFail o (states_of c) m)
    (sym (ap (λ ys. shows ys s.system) whole ∙ shows_more (first_lines n slots) (file_lines (drop n slots) ++ last) s.system))
    (shows_on (file_lines (drop n slots) ++ last) (shows (first_lines n slots) s.system) o m h)

-- ---- a line that is shown

pub slots_shown : (bytes : List ℕ) (c : Course) → (shows bytes c).now.slots ≡ c.now.slots
slots_shown [] c = refl
slots_shown (b ∷ bytes) c = slots_shown bytes (becomes (record c.now { shown = c.now.shown ++ b ∷ [] }) c)

pub shown_more : (bytes more : List ℕ) (s : Shell) → shown_by more (shown_by bytes s) ≡ shown_by (bytes ++ more) s
shown_more bytes more s = ap (λ c. record s { system = c }) (sym (shows_more bytes more s.system))

pub entry_is : (slot : Option File) (entry : Entry) (items : List ℕ) → Some entry ≡ option_map entry_told slot
    → items ≡ entry_line entry.title entry.kind entry.length entry.protected ++ codes "\n" → items ≡ slot_line slot
entry_is None entry items e is = absurd cc
entry_is (Some file) entry items e is = is ∙ ap (λ (x : Entry). entry_line x.title x.kind x.length x.protected ++ codes "\n") (some_same e)

pub none_is : (slot : Option File) → None ≡ option_map entry_told slot → slot_line slot ≡ []
none_is None e = refl
none_is (Some file) e = absurd cc

-- behind the line of slot n
pub behind_slot : (n : ℕ) (s : Shell) → n < length (state_in s).slots
    → shown_by (slot_line (slot_at (state_in (shown_by (first_lines n (state_in s).slots) s)).slots n)) (shown_by (first_lines n (state_in s).slots) s)
    ≡ shown_by (first_lines (n + 1) (state_in s).slots) s
behind_slot n s lt =
    let more : suc n ≡ n + 1 = omega arith in
    ap (λ slots. shown_by (slot_line (slot_at slots n)) (shown_by (first_lines n (state_in s).slots) s))
    (slots_shown (first_lines n (state_in s).slots) s.system)
    ∙ shown_more (first_lines n (state_in s).slots) (slot_line (slot_at (state_in s).slots n)) s
    ∙ ap (λ b. shown_by b s) (sym (next_line_of n (state_in s).slots lt) ∙ ap (λ k. first_lines k (state_in s).slots) more)

take_whole : {A : Type 0} (xs : List A) → take (length xs) xs ≡ xs
take_whole [] = refl
take_whole (x ∷ xs) = ap (λ ys. x ∷ ys) (take_whole xs)

pub all_lines : (n : ℕ) (slots : List (Option File)) → length slots ≡ n → first_lines n slots ≡ file_lines slots
all_lines n slots e = ap (λ k. file_lines (take k slots)) (sym e) ∙ ap file_lines (take_whole slots)

-- behind the last line
pub behind_all : (n free_ : ℕ) (items : List ℕ) (s : Shell) → length (state_in s).slots ≡ n → free_ ≡ free (state_in s) → items ≡ decimal free_
    ++ codes " blocks free\n"
    → shown_by items (shown_by (first_lines n (state_in s).slots) s) ≡ shown_by (catalogue_text (state_in s)) s
behind_all n free_ items s wide is line =
    shown_more (first_lines n (state_in s).slots) items s
    ∙ ap (λ b. shown_by (b ++ items) s) (all_lines n (state_in s).slots wide)
    ∙ ap (λ b. shown_by (file_lines (state_in s).slots ++ b) s) (line ∙ ap (λ k. decimal k ++ codes " blocks free\n") is)
