-- A line that goes on has taken a byte, and none is taken behind the limit. So every session comes to an end.
use Rattle.std.proofs.Common.{◌≡◌, ℕ, zero, suc, ◌+◌, ◌<◌, ◌≤◌, Bool, true, false, List, [], ◌∷◌, ◌++◌, refl, subst, arith}
use Rattle.std.specs.Prelude.{if◌then◌else◌, nat_le, ◌==◌, ⊤}
use Rattle.std.proofs.lemmas.Bool.{leb-false}
use Rattle.edi_calls.specs.Choice.{Choices}
use Rattle.edi_session.specs.declared.end.SessionEnd.{SessionEnd}
use Rattle.edi_session.specs.declared.end.SessionEnd.TheVariants.{InputEnd, Limit}
use Rattle.edi_session.specs.Session.{ActsOn, closes, ComesTo, EditsLine, Goes, GoesIn, AfterLine, Session, BehindTaken, goes, prompted, shell_in, stops}
use Rattle.edi_session.specs.Shell.{Mode, Shell, Taken, commanding, echoed, editing, ended, limit, limited, next_line, state_in, take_line, took, took_byte}
use Rattle.edi_session.specs.Words.{command_line, edit_line, kept_line}
use Rattle.edi_session.proofs.Total.{goes_on}
use Rattle.edi_session.proofs.ends.Throughout.{EachPartKeeps, acts_keeps, edits_keeps}

-- no part of a line gives bytes back
abbrev HasTaken : ℕ → Shell → Type 0
HasTaken n s = n ≤ s.taken

none_back : (bound : ℕ) (choices : Choices) (n : ℕ) → EachPartKeeps bound choices (HasTaken n)
none_back bound choices n = record {
  taking_ = record { shows_ = λ bytes s h. h; takes = λ left s h. (let more : n ≤ s.taken + 1 = omega (arith, h) in more) };
  prints_ = λ bytes s h. h;
  changes = λ slots s h. h;
  turns_to = λ mode s h. h;
  runs_ = λ code ending machine drawn past s ends h. h;
}

-- ---- taking a line

-- below the limit a byte was taken
abbrev IsMore : ℕ → Taken → Type 0
IsMore n (took bytes s) = (n < limit) × (n < s.taken)
IsMore n (ended s) = ⊤
IsMore n (limited s) = ⊤

-- so, where some bytes of the line are taken already
abbrev HasBegun : ℕ → List ℕ → Shell → Type 0
HasBegun n [] s = n ≤ s.taken
HasBegun n (b ∷ bytes) s = (n < limit) × (n < s.taken)

so_many : (n : ℕ) (line : List ℕ) (s : Shell) → HasBegun n line s → n ≤ s.taken
so_many n [] s h = h
so_many n (b ∷ bytes) s h = omega (arith, h.1)

one_more : (n : ℕ) (line : List ℕ) (b : ℕ) (s : Shell) → n < limit → n < s.taken → HasBegun n (line ++ b ∷ []) s
one_more n [] b s below more = (below, more)
one_more n (c ∷ line) b s below more = (below, more)

tested : (n : ℕ) (test : Bool) (x y : Taken) → (test ≡ true → IsMore n x) → (test ≡ false → IsMore n y) → IsMore n (if test then x else y)
tested n true x y p q = p refl
tested n false x y p q = q refl

echoes_none : (echo : Bool) (bytes : List ℕ) (s : Shell) → s.taken ≡ (echoed echo bytes s).taken
echoes_none true bytes s = refl
echoes_none false bytes s = refl

line_takes : (n : ℕ) (echo : Bool) (input line : List ℕ) (s : Shell) → HasBegun n line s → IsMore n (take_line echo input line s)
line_takes n echo [] [] s h = tested n (nat_le limit s.taken) (limited s) (ended s) (λ e. tt) (λ e. tt)
line_takes n echo [] (b ∷ bytes) s h =
    tested n (nat_le limit s.taken) (limited s) (took (b ∷ bytes) (echoed echo (10 ∷ []) s)) (λ e. tt)
    (λ e. (h.0, subst (λ k. n < k) (echoes_none echo (10 ∷ []) s) h.1))
line_takes n echo (b ∷ input) line s h =
    tested n (nat_le limit s.taken) (limited s) _ (λ e. tt)
    (λ e. let t : Shell = took_byte input s in
    let some : n ≤ s.taken = so_many n line s h in
    let room : s.taken < limit = leb-false limit s.taken e in
    let below : n < limit = omega (arith, some, room) in
    let more : n < t.taken = omega (arith, some) in
    tested n (b == 10) (took line (echoed echo (10 ∷ []) t)) (take_line echo input (line ++ b ∷ []) (echoed echo (b ∷ []) t))
    (λ is. (below, subst (λ k. n < k) (echoes_none echo (10 ∷ []) t) more))
    (λ is. line_takes n echo input (line ++ b ∷ []) (echoed echo (b ∷ []) t)
    (one_more n line b (echoed echo (b ∷ []) t) below (subst (λ k. n < k) (echoes_none echo (b ∷ []) t) more))))

-- ---- what comes next

abbrev GoesMore : ℕ → AfterLine → Type 0
GoesMore n (goes t) = (n < limit) × (n < t.taken)
GoesMore n (stops end t) = ⊤

taking_more : (n : ℕ) (taken : Taken) (P : List ℕ → Shell → AfterLine → Type 0) (next : AfterLine)
    → ((bytes : List ℕ) (t : Shell) → P bytes t next → t.taken ≤ (shell_in next).taken) → IsMore n taken → BehindTaken taken P next → GoesMore n next
taking_more n (took bytes t) P (goes u) on h row = let more : t.taken ≤ u.taken = on bytes t row in let first : n < t.taken = h.1 in
    (h.0, omega (arith, first, more))
taking_more n (ended t) P (goes u) on h row = absurd (let never : goes u ≡ closes InputEnd t = row in cc)
taking_more n (limited t) P (goes u) on h row = absurd (let never : goes u ≡ closes Limit t = row in cc)
taking_more n taken P (stops end u) on h row = tt

module _ (bound : ℕ) (choices : Choices) where
  goes_in_more : (mode : Mode) (s : Shell) (next : AfterLine) → GoesIn bound choices mode s next → GoesMore s.taken next
  goes_in_more commanding s next row =
      taking_more s.taken (next_line true (prompted bound choices s)) (ActsOn bound choices) next
      (λ bytes t r. acts_keeps bound choices (HasTaken t.taken) (none_back bound choices t.taken) (command_line bytes) t next (omega arith) r)
      (line_takes s.taken true (state_in (prompted bound choices s)).input [] (prompted bound choices s) (omega arith)) row
  goes_in_more (editing title e) s next row =
      taking_more s.taken (next_line false s) (EditsLine title e) next
      (λ bytes t r. edits_keeps bound choices (HasTaken t.taken) (none_back bound choices t.taken) (edit_line (kept_line bytes)) title e t next (omega arith) r)
      (line_takes s.taken false (state_in s).input [] s (omega arith)) row

  goes_more : (s : Shell) (next : AfterLine) → Goes bound choices s next → GoesMore s.taken next
  goes_more s next row = goes_in_more s.mode s next row

  -- ---- the laws

  room_for : (n : ℕ) (s after : Shell) → ComesTo bound choices (suc n) s after → s.taken + suc n ≤ limit
  room_for zero s after is = let first : s.taken < limit = (goes_more s (goes is.0) is.1).0 in omega (arith, first)
  room_for (suc n) s after is =
      let between : Shell = is.0 in
      let first : s.taken < between.taken = (goes_more s (goes is.0) is.1).1 in
      let rest : between.taken + suc n ≤ limit = room_for n is.0 after is.2 in
      omega (arith, first, rest)

  pub lines_are_few : (n : ℕ) (s after : Shell) → ComesTo bound choices n s after → n ≤ limit
  lines_are_few zero s after is = omega arith
  lines_are_few (suc n) s after is = let room : s.taken + suc n ≤ limit = room_for n s after is in omega (arith, room)

  -- an end, if so many bytes may still be taken
  ends_from : (bytes : ℕ) (s : Shell) → limit ≤ s.taken + bytes → (next : AfterLine) → Goes bound choices s next
      → (end : SessionEnd) × (after : Shell) × Session bound choices s end after
  ends_from bytes s most (stops end after) row = (end, after, record { lines_ = 0; last = s; comes = refl; stops_ = row })
  ends_from zero s most (goes t) row = absurd (let below : s.taken < limit = (goes_more s (goes t) row).0 in omega (arith, most, below))
  ends_from (suc bytes) s most (goes t) row =
      let more : s.taken < t.taken = (goes_more s (goes t) row).1 in
      let next = goes_on bound choices t in
      let rest = ends_from bytes t (omega (arith, most, more)) next.0 next.1 in (
        rest.0,
        rest.1,
        record { lines_ = suc rest.2.lines_; last = rest.2.last; comes = (t, row, rest.2.comes); stops_ = rest.2.stops_ },
      )

  pub every_session_ends : (s : Shell) → (end : SessionEnd) × (after : Shell) × Session bound choices s end after
  every_session_ends s = let next = goes_on bound choices s in ends_from limit s (omega arith) next.0 next.1
