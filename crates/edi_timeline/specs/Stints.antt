-- Definition. THE STINTS of an execution: what one process does from when it is taken until the next one is taken, with its turns, where it
-- began, how it ended, and what was shown in it.
use Rattle.std.specs.Prelude.{ℕ, zero, suc, ◌-◌, ◌==◌, Bool, true, false, if◌then◌else◌, List, [], ◌∷◌, length, take, drop, Option, Some, None}
use Rattle.edi_calls.specs.Names.{Name, find}
use Rattle.edi_calls.specs.Outcome as outcome
use Rattle.edi_calls.specs.Outcome.{Ending}
use Rattle.edi_calls.specs.Ready.{stays, joins}
use Rattle.edi_calls.specs.State.{State}
use Rattle.edi_unit.specs.Tree as tree
use Rattle.edi_unit.specs.Tree.{Act, Acts, Clauses, ProgramUnit}
use Rattle.edi_unit.specs.Need.{block_at}
use Rattle.edi_meaning.specs.Step.{Position, Work, Standing, ready, at_when, waiting, Process, Processes, Stepped, went, ended, step, start}
use Rattle.edi_meaning.specs.Places.{attempts, call_lines}

-- ---- where a process stands

-- what the numbers of a position lead to: statements, one of them, or nothing
pub data Led : Type 0 where
  statements : Acts → Led
  statement : Act → Led
  nothing : Led

abbrev pub nth_statement : Acts → ℕ → Led
nth_statement tree.no_act n = nothing
nth_statement (tree.act_then a as') zero = statement a
nth_statement (tree.act_then a as') (suc n) = nth_statement as' n

abbrev pub nth_list : Clauses → ℕ → Led
nth_list tree.no_clause n = nothing
nth_list (tree.clause_then (tree.clause e as') cs) zero = statements as'
nth_list (tree.clause_then c cs) (suc n) = nth_list cs n

abbrev pub into : Led → ℕ → Led
into (statements as') n = nth_statement as' n
into (statement (tree.if_act cs)) n = nth_list cs n
into (statement (tree.while_act cs)) n = nth_list cs n
into (statement (tree.when_act cs line)) n = nth_list cs n
into _ n = nothing

abbrev pub led : Led → List ℕ → Led
led x [] = x
led x (n ∷ path) = led (into x n) path

abbrev pub line_at : Led → ℕ
line_at (statement (tree.when_act cs line)) = line
line_at _ = 0

-- the line of the `when` at a position
abbrev pub when_line : ProgramUnit → Position → ℕ
when_line unit position = line_at (led (statements (block_at unit.blocks position.of).body) position.path)

-- A PLACE: the line of a `when`, and those of the calls that lead there, the innermost first; at most five
abbrev pub place : ProgramUnit → Position → List Work → List ℕ
place unit position work = take 5 (when_line unit position ∷ call_lines work)

-- ---- one stint

-- where it begins: with its process, behind the `cobegin` whose branches have ended, or at the `when` of a place
pub data Start : Type 0 where
  begin : Start
  join : Start
  at : List ℕ → Start

-- how it ends: at the `when` of a place; by an attempt that has failed and changed nothing; by one that has failed after a call of a function
-- may have changed something; by a fork into so many branches; with its process; or with the run
pub data End : Type 0 where
  arrives : List ℕ → End
  waits : End
  tries : End
  forks : (branches : ℕ) → End
  ends : End
  over : Ending → End

-- how a stint that has ended so ends the run, if it does
abbrev pub ending_by : End → Option Ending
ending_by (over ending) = Some ending
ending_by end = None

-- Its turns are those from the first to the last; one that ends the run before it has taken a turn has its last turn before its first.
pub record Stint : Type 0 where
  pub process : Name
  pub first : ℕ
  pub last : ℕ
  pub from : Start
  pub end : End
  -- the bytes that were shown in it
  pub shown : List ℕ

-- how the run has ended, if the last of these stints has ended it
abbrev pub ending_of : List Stint → Option Ending
ending_of [] = None
ending_of (x ∷ []) = ending_by x.end
ending_of (x ∷ y ∷ xs) = ending_of (y ∷ xs)

-- ---- along an execution

module _ (unit : ProgramUnit) where
  -- how a process is taken
  abbrev pub started : Process → Standing → Start
  started q (at_when cs position) = at (place unit position q.work)
  started q _ = if q.forks == 0 then begin else join

  abbrev pub start_of : Option Process → Start
  start_of None = begin
  start_of (Some q) = started q q.standing

  -- how an attempt that has failed ends a stint; the test says whether none of its conditions calls a function
  abbrev pub failed_as : (quiet : Bool) → End
  failed_as true = waits
  failed_as false = tries

  -- How the step that ends its stint leaves it: one that was taken at a `when`, and stands there again, has failed in its attempt.
  abbrev pub stopped : (attempt quiet : Bool) → Process → Standing → End
  stopped attempt quiet q (at_when cs position) = if attempt then failed_as quiet else arrives (place unit position q.work)
  stopped attempt quiet q (waiting n) = forks n
  stopped attempt quiet q ready = ends

  abbrev pub end_of : (attempt quiet : Bool) → Option Process → End
  end_of attempt quiet None = ends
  end_of attempt quiet (Some q) = stopped attempt quiet q q.standing

-- a stint that has begun: whose it is, with how many turns left, from where, and behind how many bytes that were shown
pub record Begun : Type 0 where
  pub process : Name
  pub turns : ℕ
  pub from : Start
  pub shown : ℕ

-- it has ended, with so many turns left of the bound, and this shown
abbrev pub stint : (bound : ℕ) → Begun → End → (turns : ℕ) → (shown : List ℕ) → Stint
stint bound b end turns shown = record {
  process = b.process;
  first = suc (bound - b.turns);
  last = bound - turns;
  from = b.from;
  end = end;
  shown = drop b.shown shown;
}

module _ (unit : ProgramUnit) (bound : ℕ) where
  abbrev pub begun : Processes → Name → Begun
  begun s p = record {
    process = p;
    turns = s.world.turns;
    from = start_of unit (find s.live p);
    shown = length s.world.system.now.shown;
  }

  abbrev pub stopping : Begun → End → Processes → Stint
  stopping b end s = stint bound b end s.world.turns s.world.system.now.shown

  -- A step of p, an attempt or not, behind which these step. Where it ends its stint and nobody steps any more, the run is at a standstill.
  abbrev pub onward : Stepped → (attempt : Bool) → Name → List Name → Begun → (more : Begun → Processes → List Stint) → List Stint
  onward (ended ending system turns) attempt p order b more = stint bound b (over ending) turns system.now.shown ∷ []
  onward (went s stays quiet) attempt p order b more = more b s
  onward (went s (joins ps) quiet) attempt p [] b more = stopping b (over outcome.standstill) s ∷ []
  onward (went s (joins ps) quiet) attempt p (q ∷ order) b more =
      stopping b (end_of unit attempt quiet (find s.live p)) s ∷ more (begun s q) s

  -- the stints along the steps of these processes, one after another
  abbrev pub along : List Name → Begun → Processes → List Stint
  along [] b s = []
  along (p ∷ order) b s = onward (step unit s p) (attempts (find s.live p)) p order b (along order)

-- THE STINTS of the execution in which these processes step
abbrev pub stints_of : ProgramUnit → State → (bound : ℕ) → (order : List Name) → List Stint
stints_of unit system bound order = let s : Processes = start unit system bound in along unit bound order (begun unit bound s []) s
