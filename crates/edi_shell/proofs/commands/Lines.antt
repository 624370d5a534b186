-- A line that is being taken.
use Rattle.std.proofs.Common.{◌≡◌, ℕ, zero, suc, ◌+◌, ◌<◌, ◌≤◌, Bool, true, false, List, [], ◌∷◌, ◌++◌, length, take, Option, Some, None, refl, sym, ap, subst, ◌∙◌, arith}
use Rattle.std.specs.Prelude.{if◌then◌else◌, nat_le, ◌==◌}
use Rattle.edi_calls.specs.declared.ends.Outside.{Outside}
use Rattle.edi_calls.specs.State.{State}
use Rattle.edi_session.specs.declared.end.SessionEnd.{SessionEnd}
use Rattle.edi_session.specs.declared.end.SessionEnd.TheVariants as end
use Rattle.edi_session.specs.Shell.{Shell, Taken, took, limited, shell_of, limit, state_in, took_byte, echoed, last_line, take_line}
use Rattle.std.proofs.lemmas.Bool.{eqb-true, ne_eqb}
use Rattle.std.proofs.lemmas.List.{length-append, take_all}
use Rattle.std.specs.Prelude.{Ok, IfNone, IfSome}
use Rattle.edi_session.proofs.Later.{Later, line_behind, take_line_on}
use Rattle.edi_shell_io.specs.calls.Standing.{At, StandsIn, IsFault}
use Rattle.edi_shell.specs.commands.Taking.{GivesNone, GivesLine, Stops}
use Rattle.edi_shell.proofs.commands.Standing.{stands_later, fault_stops, nothing_stops}

-- ---- what the next byte comes to

pub limited_line : (echo : Bool) (input line : List ℕ) (s : Shell) → nat_le limit s.taken ≡ true → take_line echo input line s ≡ limited s
limited_line echo [] line s full = rw full refl
limited_line echo (b ∷ input) line s full = rw full refl

ended_line : (echo : Bool) (input line : List ℕ) (s : Shell) → nat_le limit s.taken ≡ false → input ≡ [] → take_line echo input line s ≡ last_line echo line s
ended_line echo input line s open_ none = ap (λ i. take_line echo i line s) none ∙ rw open_ refl

next_in_line : (echo : Bool) (input line left : List ℕ) (b : ℕ) (s : Shell) → nat_le limit s.taken ≡ false → input ≡ b ∷ left
    → take_line echo input line s ≡ (if b == 10 then took line (echoed echo (10 ∷ []) (took_byte left s)) else take_line echo left (line ++ b ∷ [])
    (echoed echo (b ∷ []) (took_byte left s)))
next_in_line echo input line left b s open_ some = ap (λ i. take_line echo i line s) some ∙ rw open_ refl

-- whether a line has bytes
pub no_bytes : (line : List ℕ) → (length line == 0) ≡ true → line ≡ []
no_bytes [] h = refl
no_bytes (b ∷ line) h = absurd (let none : suc (length line) ≡ 0 = eqb-true _ 0 h in omega arith)

pub some_bytes : (line : List ℕ) → (length line == 0) ≡ false → 0 < length line
some_bytes [] h = absurd (cc)
some_bytes (b ∷ line) h = omega arith

more_bytes : (n : ℕ) → (suc n == 0) ≡ false
more_bytes n = ne_eqb (suc n) 0 (λ e. omega (arith, e))

-- a line has none where none is kept of it
pub same_empty : (most : ℕ) (kept line : List ℕ) → 0 < most → kept ≡ take most line → (length kept == 0) ≡ (length line == 0)
same_empty zero kept line some is = absurd (omega (arith, some))
same_empty (suc m) kept [] some is = ap (λ k. length k == 0) is
same_empty (suc m) kept (b ∷ line) some is = ap (λ k. length k == 0) is ∙ more_bytes (length (take m line)) ∙ sym (more_bytes (length line))

line_is_longer : (empty : Bool) (n first before after : ℕ) → empty ≡ (n == 0) → (0 < n → first < before) → first ≤ before → before ≤ after
    → (empty ≡ true → before < after) → first < after
line_is_longer true n first before after e some from on one = let more = one refl in omega (arith, from, more)
line_is_longer false zero first before after e some from on one = absurd (let no : true ≡ false = sym e in cc)
line_is_longer false (suc n) first before after e some from on one = let less = some (omega arith) in omega (arith, less, on)

-- showing bytes takes none
pub echoed_taken : (echo : Bool) (bytes : List ℕ) (s : Shell) → (echoed echo bytes s).taken ≡ s.taken
echoed_taken true bytes s = refl
echoed_taken false bytes s = refl

echoed_input : (echo : Bool) (b : ℕ) (s : Shell) → (state_in (echoed echo (b ∷ []) s)).input ≡ (state_in s).input
echoed_input true b s = refl
echoed_input false b s = refl

-- the input has ended behind a line that was begun
pub last_is : (echo : Bool) (line : List ℕ) (s : Shell) (result : Taken) → take_line echo (state_in s).input line s ≡ result
    → nat_le limit s.taken ≡ false → (state_in s).input ≡ [] → 0 < length line → result ≡ took line (echoed echo (10 ∷ []) s)
last_is echo [] s result is open_ none some = absurd (omega (arith, some))
last_is echo (d ∷ line) s result is open_ none some = sym is ∙ ended_line echo (state_in s).input (d ∷ line) s open_ none

-- a line feed ends the line
pub fed_is : (echo : Bool) (left line : List ℕ) (b : ℕ) (s : Shell) (result : Taken) → take_line echo (state_in s).input line s ≡ result
    → nat_le limit s.taken ≡ false → (state_in s).input ≡ b ∷ left → (b == 10) ≡ true → result ≡ took line (echoed echo (10 ∷ []) (took_byte left s))
fed_is echo left line b s result is open_ some feed =
    sym is ∙ next_in_line echo (state_in s).input line left b s open_ some ∙ rw feed refl

-- another byte joins it
pub more_is : (echo : Bool) (left line : List ℕ) (b : ℕ) (s : Shell) (result : Taken) → take_line echo (state_in s).input line s ≡ result
    → nat_le limit s.taken ≡ false → (state_in s).input ≡ b ∷ left → (b == 10) ≡ false
    → take_line echo (state_in (echoed echo (b ∷ []) (took_byte left s))).input (line ++ b ∷ []) (echoed echo (b ∷ []) (took_byte left s)) ≡ result
more_is echo left line b s result is open_ some other =
    ap (λ i. take_line echo i (line ++ b ∷ []) (echoed echo (b ∷ []) (took_byte left s))) (echoed_input echo b (took_byte left s))
    ∙ sym (rw other refl) ∙ sym (next_in_line echo (state_in s).input line left b s open_ some) ∙ is

module _ {C : Type 0} (at : C → State → ℕ → Type 0) (stands : C → Outside → State → Type 0) where
  -- no byte is taken, and so no line
  pub none_stops : (echo : Bool) (line : List ℕ) (s : Shell) (result : Taken) (e : SessionEnd) (c : C) → take_line echo (state_in s).input line s ≡ result
      → GivesNone at stands e s c → Stops at stands e result c
  none_stops echo line s result e c is none =
      nothing_stops at stands s result e c (λ full. sym is ∙ limited_line echo (state_in s).input line s full)
      (λ byte left open_ some. subst (λ r. Later (took_byte left s) (shell_of r))
      (sym (next_in_line echo (state_in s).input line left byte s open_ some) ∙ is) (line_behind echo line left byte s)) none

  -- the input has ended, and no line was begun
  pub ends_empty : (echo : Bool) (line : List ℕ) (s : Shell) (result : Taken) (c : C) → take_line echo (state_in s).input line s ≡ result
      → nat_le limit s.taken ≡ false → (state_in s).input ≡ [] → line ≡ [] → At at c s → Stops at stands end.InputEnd result c
  ends_empty echo line s result c is open_ none empty a =
      subst (λ r. Stops at stands end.InputEnd r c)
      (sym (ended_line echo (state_in s).input line s open_ none ∙ ap (λ l. last_line echo l s) empty) ∙ is) a

  -- the line has ended, and its line feed could not be shown
  pub line_breaks : (e : SessionEnd) (result : Taken) (line : List ℕ) (t : Shell) (c : C) → IsFault e → result ≡ took line t → StandsIn stands t c
      → Stops at stands e result c
  line_breaks e result line t c fault is st = fault_stops at stands e result c fault (subst (λ w. StandsIn stands (shell_of w) c) (sym is) st)

  -- a byte of it could not be shown
  pub byte_breaks : (echo : Bool) (b : ℕ) (left line : List ℕ) (s : Shell) (result : Taken) (e : SessionEnd) (c : C)
      → take_line echo (state_in s).input line s ≡ result → nat_le limit s.taken ≡ false → (state_in s).input ≡ b ∷ left
      → IsFault e → StandsIn stands (echoed echo (b ∷ []) (took_byte left s)) c → Stops at stands e result c
  byte_breaks echo b left line s result e c is open_ some fault st =
      fault_stops at stands e result c fault
      (subst (λ r. StandsIn stands (shell_of r) c) (sym (next_in_line echo (state_in s).input line left b s open_ some) ∙ is) (go (b == 10) refl)) where
        go : (q : Bool) → (b == 10) ≡ q
            → StandsIn stands (shell_of (if q then took line (echoed echo (10 ∷ []) (took_byte left s)) else take_line echo left (line ++ b ∷ [])
            (echoed echo (b ∷ []) (took_byte left s)))) c
        go true h = subst (λ n. StandsIn stands (echoed echo (n ∷ []) (took_byte left s)) c) (eqb-true b 10 h) st
        go false h =
            stands_later stands (echoed echo (b ∷ []) (took_byte left s))
            (shell_of (take_line echo left (line ++ b ∷ []) (echoed echo (b ∷ []) (took_byte left s)))) c
            (take_line_on echo left (line ++ b ∷ []) (echoed echo (b ∷ []) (took_byte left s))) st

  -- the line is taken
  pub gives_line : (most : ℕ) (taken : Taken) (line kept : List ℕ) (count : ℕ) (t : Shell) (c : C) → taken ≡ took line t → kept ≡ take most line
      → t.taken ≡ count → At at c t → GivesLine at stands most (Ok tt) taken kept count c
  gives_line most taken line kept count t c e k n a = subst (λ w. GivesLine at stands most (Ok tt) w kept count c) (sym e) (k, n, a)

-- what a loop keeps that takes a line
pub record TakesOn {C : Type 0} (ready : C → Type 0) (lasts : C → C → Type 0) (first count : ℕ) (kept : List ℕ) (start c : C) : Type 0 where
  pub ready_ : ready c
  pub limit_ : count ≤ 4194304
  pub later : first ≤ count
  pub more : 0 < length kept → first < count
  pub lasts_ : lasts start c

-- and so behind a further byte
pub takes_on : {C : Type 0} (ready : C → Type 0) (lasts : C → C → Type 0) (first count next byte : ℕ) (value : Option ℕ) (kept more : List ℕ) (start c d : C)
    → TakesOn ready lasts first count kept start c → value ≡ Some byte → IfSome value (λ b. next ≡ count + 1) → next ≤ 4194304 → ready d → lasts start d
    → TakesOn ready lasts first next more start d
takes_on ready lasts first count next byte value kept more start c d was some counts limit_ may lasts_ =
    let one : next ≡ count + 1 = subst (λ v. IfSome v (λ b. next ≡ count + 1)) some counts in
    record {
      ready_ = may;
      limit_ = limit_;
      later = omega (arith, one, was.later);
      more = λ begun. omega (arith, one, was.later);
      lasts_ = lasts_;
    }

-- behind the end of the line more bytes have been taken than before it
pub ended_longer : {C : Type 0} (ready : C → Type 0) (lasts : C → C → Type 0) (first count next : ℕ) (value : Option ℕ) (kept : List ℕ) (empty : Bool)
    (start c : C) → TakesOn ready lasts first count kept start c → empty ≡ (length kept == 0) → count ≤ next → value ≡ None
    → IfNone value (empty ≡ true → count < next) → first < next
ended_longer ready lasts first count next value kept empty start c was e on none ends =
    line_is_longer empty (length kept) first count next e was.more was.later on (subst (λ v. IfNone v (empty ≡ true → count < next)) none ends)

-- ---- what is kept of a line

all_taken : (most : ℕ) (line : List ℕ) (b : ℕ) → most ≤ length (take most line) → take most line ≡ take most (line ++ b ∷ [])
all_taken zero line b le = refl
all_taken (suc m) [] b le = absurd (omega (arith, le))
all_taken (suc m) (x ∷ line) b le = ap (λ xs. x ∷ xs) (all_taken m line b (omega (arith, le)))

-- one more byte is kept where there is room for it, and none where there is not
pub keeps_more : (most : ℕ) (kept : List ℕ) (b : ℕ) → length kept < most → kept ++ b ∷ [] ≡ take most (kept ++ b ∷ [])
keeps_more most kept b less = sym (take_all most (kept ++ b ∷ []) (omega (arith, less, length-append kept (b ∷ []))))

pub keeps_all : (most : ℕ) (kept : List ℕ) (b : ℕ) → length kept ≤ most → most ≤ length kept → kept ≡ take most (kept ++ b ∷ [])
keeps_all most kept b short long =
    let whole = sym (take_all most kept short) in
    whole ∙ all_taken most kept b (subst (λ k. most ≤ length k) whole long)

first_of_first : (most : ℕ) (line : List ℕ) (b : ℕ) → take most (take most line ++ b ∷ []) ≡ take most (line ++ b ∷ [])
first_of_first zero line b = refl
first_of_first (suc m) [] b = refl
first_of_first (suc m) (x ∷ line) b = ap (λ xs. x ∷ xs) (first_of_first m line b)

-- what is kept of the kept bytes and one more is what is kept of the line
pub keeps_still : (most : ℕ) (kept line : List ℕ) (b : ℕ) → kept ≡ take most line → take most (kept ++ b ∷ []) ≡ take most (line ++ b ∷ [])
keeps_still most kept line b is = ap (λ k. take most (k ++ b ∷ [])) is ∙ first_of_first most line b
