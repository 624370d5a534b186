-- WHAT IS LOGGED of a run of the code is the log of the program; and of a run that broke off, a beginning of it.
use Rattle.std.proofs.Common.{◌≡◌, ℕ, ◌-◌, Bool, true, false, ◌||◌, if◌then◌else◌, List, [], ◌∷◌, ◌++◌, length, refl, sym}
use Rattle.std.proofs.Common.{ap, ◌∙◌, append_assoc, append-nil}
use Rattle.std.specs.Prelude.{nat_lt}
use Rattle.edi_calls.specs.Choice.{Choices}
use Rattle.edi_calls.specs.Names.{Name}
use Rattle.edi_calls.specs.Outcome.{Ending}
use Rattle.edi_calls.specs.State.{State, Traced}
use Rattle.edi_unit.specs.Tree.{ProgramUnit}
use Rattle.edi_meaning.specs.Select as selection
use Rattle.edi_meaning.specs.Step.{start}
use Rattle.edi_target.specs.Fetch.{fetch}
use Rattle.edi_target.specs.Mach as target
use Rattle.edi_target.specs.Mach.{Machine}
use Rattle.edi_scheme.specs.Code.{code_of}
use Rattle.edi_trace.specs.Drawn.{Drawn}
use Rattle.edi_meaning.specs.Arrivals.{arrivals}
use Rattle.edi_target.specs.Arrivals.{Arrived, arrived_from_start}
use Rattle.edi_scheme.proofs.Apart.{addresses_differ}
use Rattle.edi_follows.specs.Theorem.{CanBeCoded}
use Rattle.edi_follows.specs.Arrivals.{AreAlike}
use Rattle.edi_follows.proofs.Whole.{arrives_as_meant}
use Rattle.edi_debug.specs.stops.Kept.{Kept, nothing_kept, most_logged, after_line, after_lines}
use Rattle.edi_debug.specs.stops.Stops.{Watched, each_in, log_lines, log_of}
use Rattle.edi_debug.specs.stops.Watching.{run_lines, LogsAll, LogsSome}
use Rattle.edi_debug.specs.stops.Watching as watching
use Rattle.edi_debug.specs.stops.Seen.{PointsFit}
use Rattle.edi_debug.proofs.stops.Same.{lines_same}
use Rattle.edi_debug.proofs.stops.Ends.{ends_same, begins_same}

-- ---- lists of lines

pub each_append : {A : Type 0} (f : A → List (List ℕ)) (xs ys : List A) → each_in f (xs ++ ys) ≡ each_in f xs ++ each_in f ys
each_append f [] ys = refl
each_append f (x ∷ xs) ys = ap (λ l. f x ++ l) (each_append f xs ys) ∙ sym (append_assoc (f x) (each_in f xs) (each_in f ys))

pub after_append : (ls ms : List (List ℕ)) (k : Kept) → after_lines (ls ++ ms) k ≡ after_lines ms (after_lines ls k)
after_append [] ms k = refl
after_append (l ∷ ls) ms k = after_append ls ms (after_line l k)

-- what is kept only grows
line_grows : (l : List ℕ) (k : Kept) → (more : List ℕ) × ((after_line l k).bytes ≡ k.bytes ++ more)
line_grows l k = go (k.full || nat_lt (most_logged - length k.bytes) (length l))
  where
    go : (b : Bool) → (more : List ℕ) × ((if b then record k { full = true } else record { bytes = k.bytes ++ l; full = false }).bytes ≡ k.bytes ++ more)
    go true = ([], sym (append-nil k.bytes))
    go false = (l, refl)

lines_grow : (ls : List (List ℕ)) (k : Kept) → (more : List ℕ) × ((after_lines ls k).bytes ≡ k.bytes ++ more)
lines_grow [] k = ([], sym (append-nil k.bytes))
lines_grow (l ∷ ls) k =
    let one : (more : List ℕ) × ((after_line l k).bytes ≡ k.bytes ++ more) = line_grows l k in
    let rest : (more : List ℕ) × ((after_lines ls (after_line l k)).bytes ≡ (after_line l k).bytes ++ more) = lines_grow ls (after_line l k) in
    (one.0 ++ rest.0, rest.1 ∙ ap (λ b. b ++ rest.0) one.1 ∙ append_assoc k.bytes one.0 rest.0)

-- ---- the law

module _ (unit : ProgramUnit) (c : CanBeCoded unit) (system : State) (bound : ℕ) (choices : Choices) (points : List Watched) (fits : PointsFit unit points)
    (ending : Ending) (end : Traced) (turns drawn : ℕ) (order : List Name) (e : selection.Ends unit system bound choices ending end turns drawn order) where
  abbrev Seen : ℕ → List Arrived
  Seen n = arrived_from_start (fetch (code_of unit)) 0 unit.calls system bound choices 0 n

  -- a run that has ended gives the lines of the program
  all_lines : (n : ℕ) (x : Ending) (m : Machine) (d : ℕ) →
      target.run_from_start (fetch (code_of unit)) 0 unit.calls system bound choices n ≡ target.finished x m d →
      run_lines unit bound points (Seen n) ≡ log_lines unit system bound order points
  all_lines n x m d f =
      let h : (k : ℕ) × (m : Machine)
      × (target.run_from_start (fetch (code_of unit)) 0 unit.calls system bound choices k ≡ target.finished ending m drawn)
      × AreAlike unit (arrivals unit order (start unit system bound)) (Seen k) =
      arrives_as_meant unit c system bound choices ending end turns drawn order e in
      ap (run_lines unit bound points) (ends_same (fetch (code_of unit)) choices 0 unit.calls system bound 0 n h.0 (x, m, d, f) (ending, h.1, drawn, h.2))
      ∙ lines_same unit bound (addresses_differ unit) points fits (arrivals unit order (start unit system bound)) (Seen h.0) h.3

  -- so the log of a run that has ended is that of the program
  pub log_is_meant : (new : Kept) → LogsAll unit system bound (record { source = choices; drawn = 0 }) points nothing_kept new →
      new.bytes ≡ log_of unit system bound order points
  log_is_meant new h =
      ap (λ (k : Kept). k.bytes) (h.logs ∙ ap (λ l. after_lines l nothing_kept) (all_lines h.ends.0 h.ending h.machine h.drawn h.ends.1))

  -- and that of a run that broke off is a beginning of it
  pub log_begins : (used : ℕ) (now : State) (drawn_then : Drawn) (new : Kept) →
      LogsSome unit system bound (record { source = choices; drawn = 0 }) used now drawn_then points nothing_kept new → (more : List ℕ) × (log_of unit system bound order points ≡ new.bytes ++ more)
  log_begins used now drawn_then new h =
      let k : (k : ℕ) × (m : Machine)
      × (target.run_from_start (fetch (code_of unit)) 0 unit.calls system bound choices k ≡ target.finished ending m drawn)
      × AreAlike unit (arrivals unit order (start unit system bound)) (Seen k) =
      arrives_as_meant unit c system bound choices ending end turns drawn order e in
      let more : (more : List Arrived) × (Seen k.0 ≡ Seen (h.fails).steps ++ more) =
      begins_same (fetch (code_of unit)) choices 0 unit.calls system bound 0 (h.fails).steps k.0 (ending, k.1, drawn, k.2) in
      let lines : log_lines unit system bound order points ≡ run_lines unit bound points (Seen (h.fails).steps) ++ run_lines unit bound points more.0 =
      sym (all_lines k.0 ending k.1 drawn k.2) ∙ ap (run_lines unit bound points) more.1
      ∙ each_append (watching.stop_lines unit bound points) (Seen (h.fails).steps) more.0 in
      let grown : (b : List ℕ) × ((after_lines (run_lines unit bound points more.0) new).bytes ≡ new.bytes ++ b) =
      lines_grow (run_lines unit bound points more.0) new in (
        grown.0,
        ap (λ l. (after_lines l nothing_kept).bytes) lines
            ∙ ap (λ (x : Kept). x.bytes) (after_append (run_lines unit bound points (Seen (h.fails).steps)) (run_lines unit bound points more.0) nothing_kept)
            ∙ ap (λ x. (after_lines (run_lines unit bound points more.0) x).bytes) (sym h.logs) ∙ grown.1,
      )
