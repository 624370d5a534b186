-- Computed rows. Lines that are shown of explorations, and the statuses by which they are told.
use Rattle.std.specs.Prelude.{◌≡◌, ℕ, true, false, List, [], ◌∷◌, ◌++◌, Some, None, codes, replicate, refl}
use Rattle.std.specs.Fmt.{digits}
use Rattle.edi_calls.specs.Outcome as outcome
use Rattle.edi_calls.specs.Outcome.{Ending}
use Rattle.edi_calls.specs.declared.kinds.Cause.TheVariants as cause
use Rattle.edi_explore.specs.declared.ends.Verdict.{Verdict}
use Rattle.edi_explore.specs.declared.ends.Verdict.TheVariants as verdict
use Rattle.edi_runs.specs.declared.explore.summary.Summary.TheVariants as summary
use Rattle.edi_runs.specs.explore.Explorations.{Findings, Reached}
use Rattle.edi_runs.specs.explore.Lines.{choices_text, ending_line, last_lines, name_lines, names_text, numbers_text, output_line, report_text, summary_of, verdict_line}
use Rattle.edi_runs.specs.explore.Orders.{OpenName, settled, unsaid, used}

abbrev pub reached : Ending → (choices : List ℕ) → (turns : ℕ) → Reached
reached ending choices turns = record { ending = ending; choices = choices; turns = turns; moves = 0; shown = []; waits = [] }

abbrev pub found : List Reached → Verdict → (states : ℕ) → Findings
found endings v states = record { endings = endings; verdict = v; states = states; cut = []; longest = None; orders = unsaid }

-- ---- endings

pub row_done : ending_line false [] 0 1 (reached outcome.done [] 13) ≡ codes "done after 13 turns: no choices\n"
unfolding digits
row_done = refl

pub row_one_choice : ending_line false [] 0 1 (reached outcome.standstill (4 ∷ []) 1) ≡ codes "standstill after 1 turn: choices 4\n"
unfolding digits
row_one_choice = refl

pub row_halted : ending_line false [] 0 1 (reached (outcome.halted 18) (230 ∷ 15 ∷ []) 1000) ≡ codes "line 18 halt after 1000 turns: choices 230 15\n"
unfolding digits
row_halted = refl

pub row_failed : ending_line false [] 0 1 (reached (outcome.failed cause.Range 12) (4 ∷ 0 ∷ []) 57) ≡ codes "line 12 range after 57 turns: choices 4 0\n"
unfolding digits
row_failed = refl

-- where its choices are kept
pub row_kept : ending_line false (codes "all") 1000 2 (reached outcome.done (1 ∷ []) 13) ≡ codes "done after 13 turns: choices 1 in all.2\n"
unfolding digits
row_kept = refl

-- those of the thousand and first are not
pub row_not_kept : ending_line false (codes "all") 1000 1001 (reached outcome.done (1 ∷ []) 13) ≡ codes "done after 13 turns: choices 1\n"
unfolding digits
row_not_kept = refl

-- a process that was called, one of its branches, and the first one
pub row_waits : ending_line false [] 0 1 (record (reached outcome.standstill [] 62) {
  waits =
      record { process = 1 ∷ 0 ∷ []; lines = 15 ∷ 28 ∷ 35 ∷ [] } ∷ record { process = 1 ∷ 0 ∷ 2 ∷ 1 ∷ []; lines = 7 ∷ [] }
      ∷ record { process = []; lines = 3 ∷ [] } ∷ [];
}) ≡ codes "standstill after 62 turns: no choices\n  1.1 waits at line 15, called on line 28, called on line 35\n  1.1/2.2 waits at line 7\n  main waits at line 3\n"
unfolding digits
row_waits = refl

-- where output is asked for: a line feed is told as `\n`, a quotation mark by its number of three digits; and what is shown comes before who waits
pub row_shown : ending_line true [] 0 1 (record (reached outcome.done (0 ∷ 0 ∷ []) 13) { shown = codes "a\"1\n" })
    ≡ codes "done after 13 turns: choices 0 0\n  shown \"a\\0341\\n\"\n"
unfolding digits
row_shown = refl

pub row_shown_and_waits : ending_line true (codes "all") 1000 2 (record (reached outcome.standstill [] 6) {
  shown = codes "x";
  waits = record { process = 1 ∷ 0 ∷ []; lines = 5 ∷ [] } ∷ [];
}) ≡ codes "standstill after 6 turns: no choices in all.2\n  shown \"x\"\n  1.1 waits at line 5\n"
unfolding digits
row_shown_and_waits = refl

pub row_shows_nothing : ending_line true [] 0 1 (reached outcome.done [] 2) ≡ codes "done after 2 turns: no choices\n  shows nothing\n"
unfolding digits
row_shows_nothing = refl

-- 400 characters are told whole, and of more the first 400
pub row_output : output_line (replicate 400 97) ≡ codes "  shown \"" ++ (replicate 400 97 ++ codes "\"\n")
row_output = refl

pub row_longer_output : output_line (replicate 401 97) ≡ codes "  shown \"" ++ (replicate 400 97 ++ codes "\"..\n")
row_longer_output = refl

-- a hundred choices are shown whole
pub row_hundred : choices_text (replicate 100 7) ≡ codes "choices" ++ numbers_text (replicate 100 7)
row_hundred = refl

-- and a hundred of more
pub row_more : choices_text (replicate 100 7 ++ 8 ∷ []) ≡ codes "choices" ++ (numbers_text (replicate 100 7) ++ codes " .. (101 in all)")
unfolding digits
row_more = refl

-- ---- whole reports

pub row_both : report_text false None (found (reached outcome.standstill [] 62 ∷ reached outcome.done (4 ∷ 0 ∷ []) 81 ∷ []) verdict.All 45)
    ≡ codes "standstill after 62 turns: no choices\ndone after 81 turns: choices 4 0\nno execution ends otherwise; 45 states\n"
unfolding digits
row_both = refl

pub row_only : report_text false None (found (reached outcome.done [] 2 ∷ []) verdict.All 1) ≡ codes "done after 2 turns: no choices\nno execution ends otherwise; 1 state\n"
unfolding digits
row_only = refl

pub row_none : report_text false None (found [] verdict.All 2) ≡ codes "every execution goes on for ever; 2 states\n"
unfolding digits
row_none = refl

pub row_full : verdict_line (found [] (verdict.Full 12) 1000001)
    ≡ codes "perhaps not all: --states allows no more; every execution of fewer than 12 moves was followed; 1000001 states\n"
unfolding digits
row_full = refl

pub row_cut : verdict_line (found [] (verdict.Cut 1) 5)
    ≡ codes "perhaps not all: a process goes on for more turns than --turns allows, with no choices; every execution of fewer than 1 move was followed; 5 states\n"
unfolding digits
row_cut = refl

pub row_many : verdict_line (found [] (verdict.Many 12) 83)
    ≡ codes "perhaps not all: --shown allows no more; every execution of fewer than 12 moves was followed; 83 states\n"
unfolding digits
row_many = refl

-- nothing is said of executions of fewer than no move
pub row_cut_at_once : verdict_line (found [] (verdict.Cut 0) 1) ≡ codes "perhaps not all: a process goes on for more turns than --turns allows, with no choices; 1 state\n"
unfolding digits
row_cut_at_once = refl

pub row_unrecorded : verdict_line (found [] (verdict.Unrecorded 0) 1) ≡ codes "perhaps not all: an ending has no record; 1 state\n"
unfolding digits
row_unrecorded = refl

pub row_no_memory : verdict_line (found [] (verdict.NoMemory 0) 1) ≡ codes "perhaps not all: memory ran out; 1 state\n"
unfolding digits
row_no_memory = refl

-- ---- how far executions go, and every order of steps

pub row_longest : last_lines (record (found (reached outcome.done [] 13 ∷ []) verdict.All 20) { longest = Some 7; orders = settled })
    ≡ codes "no execution ends otherwise; 20 states\nno execution makes more than 7 moves\nno order of steps ends otherwise, but perhaps by process limit\n"
unfolding digits
row_longest = refl

pub row_one_move : last_lines (record (found (reached outcome.done [] 3 ∷ []) verdict.All 2) { longest = Some 1 })
    ≡ codes "no execution ends otherwise; 2 states\nno execution makes more than 1 move\n"
unfolding digits
row_one_move = refl

-- not all executions were followed: one of them may go on in one stint
pub row_no_longest : last_lines (record (found [] (verdict.Cut 0) 1) { longest = Some 7 }) ≡ verdict_line (found [] (verdict.Cut 0) 1)
unfolding digits
row_no_longest = refl

pub row_no_order_ends : last_lines (record (found [] verdict.All 2) { orders = settled })
    ≡ codes "every execution goes on for ever; 2 states\nno order of steps ends, but perhaps by process limit\n"
unfolding digits
row_no_order_ends = refl

abbrev pub open_name : OpenName
open_name = record { name = codes "x"; block = codes "main" }

pub row_used : last_lines (record (found (reached outcome.done [] 2 ∷ []) verdict.All 1) { orders = used (open_name ∷ record { name = codes "val f"; block = codes "f" } ∷ []) })
    ≡ codes "no execution ends otherwise; 1 state\nx of main may be used outside critical phases\nval f of f may be used outside critical phases\nanother order of steps may end otherwise\n"
unfolding digits
row_used = refl

-- the program itself is called
pub row_used_by_none : last_lines (record (found (reached outcome.done [] 2 ∷ []) verdict.All 1) { orders = used [] })
    ≡ codes "no execution ends otherwise; 1 state\nanother order of steps may end otherwise\n"
unfolding digits
row_used_by_none = refl

-- ten variables are named, and of eleven the first ten
pub row_ten : names_text (replicate 10 open_name) ≡ name_lines (replicate 10 open_name)
row_ten = refl

pub row_eleven : names_text (replicate 11 open_name) ≡ name_lines (replicate 10 open_name) ++ codes "and 1 more\n"
unfolding digits
row_eleven = refl

-- ---- statuses

pub row_fine : summary_of (found (reached outcome.done [] 2 ∷ []) verdict.All 1) ≡ summary.Fine
row_fine = refl

-- that no execution ends is told by a status of its own
pub row_for_ever : summary_of (found [] verdict.All 2) ≡ summary.Endless
row_for_ever = refl

-- but not where they were not all followed
pub row_nothing : summary_of (found [] (verdict.NoMemory 0) 2) ≡ summary.NotAll
row_nothing = refl

pub row_not_all : summary_of (found (reached outcome.done [] 2 ∷ []) (verdict.Full 3) 9) ≡ summary.NotAll
row_not_all = refl

pub row_not_all_shown : summary_of (found (reached outcome.done [] 2 ∷ []) (verdict.Many 3) 9) ≡ summary.NotAll
row_not_all_shown = refl

-- other endings come first, whether they are all or not
pub row_found : summary_of (found (reached outcome.standstill [] 2 ∷ reached outcome.done [] 3 ∷ reached (outcome.halted 1) [] 4 ∷ []) (verdict.Cut 3) 9)
    ≡ summary.Found 2
row_found = refl
