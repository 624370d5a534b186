-- Whatever the choices, the demonstration comes to its end, and takes so many turns; with fewer it ends for want of them.
use Rattle.std.proofs.Common.{◌≡◌, inl, inr, ℕ, zero, suc, ◌+◌, ◌-◌, ◌*◌, ◌<◌, ◌≤◌, Bool, true, false, not, List, [], ◌∷◌, Option, Some, None, refl}
use Rattle.std.proofs.Common.{sym, ap, ◌∙◌, subst, arith, ltb, leb}
use Rattle.std.proofs.lemmas.Bool.Decides.{nat_tests}
use Rattle.edi_calls.specs.Choice.{Choices}
use Rattle.edi_calls.specs.Names.{Name}
use Rattle.edi_calls.specs.Outcome as outcome
use Rattle.edi_calls.specs.Outcome.{Ending, Outcome, outcome_of}
use Rattle.edi_calls.specs.Ready.{stays, joins}
use Rattle.edi_calls.specs.State.{State, Traced, begun}
use Rattle.edi_unit.specs.Tree as unit
use Rattle.edi_unit.specs.Tree.{Acts, Block, ProgramUnit}
use Rattle.edi_unit.specs.Need.{block_at}
use Rattle.edi_unit.specs.Values.{zero_value}
use Rattle.edi_meaning.specs.Step.{Position, inside, ready, Work, doing, branch_end, program_end, Processes, went, ended, step, start, doing_all}
use Rattle.edi_meaning.specs.Select.{Select}
use Rattle.edi_utils.proofs.demonstrated.Blocks.{IsProcedure, call_act, AreCalls, AreBlocks, branch_block, ended_program}
use Rattle.edi_utils.proofs.demonstrated.Resolving.{unit_of}
use Rattle.edi_utils.proofs.demonstrated.Running.{name_of, At, at_call, entered, arrived, behind, state, last_state, enters, arrives, counts, returns, leaves}
use Rattle.edi_utils.proofs.demonstrated.Running.{leaves_last, finishes, program_instance}
use Rattle.edi_utils.proofs.demonstrated.Running.{last_stops, end_stops, call_stops, when_stops, return_stops}
use Rattle.edi_utils.proofs.demonstrated.Selecting.{EndsSo, nothing, goes, one_ready, two_ready, over, Balance, takes_turn}

-- ---- what is left to do

-- so many calls are left, and then the end of the branch
abbrev pub CallsLeft : List Block → ℕ → List Work → Type 0
CallsLeft blocks zero work = work ≡ branch_end ∷ []
CallsLeft blocks (suc m) work =
    (b : ℕ) × (line : ℕ) × (position : Position) × (more : List Work) × (work ≡ doing (call_act b line) position ∷ more) × IsProcedure (block_at blocks b)
    × CallsLeft blocks m more

abbrev pub Fits : List Block → (m : ℕ) → At → Type 0
Fits blocks m (at_call k work) = CallsLeft blocks m work
Fits blocks m (entered k c b line work) = CallsLeft blocks m work
Fits blocks m (arrived k c b line work) = CallsLeft blocks m work
Fits blocks m (behind k c b work) = CallsLeft blocks m work

-- the turns that a branch takes from here, with so many calls behind the procedure in which it is
abbrev pub turns_left : (m : ℕ) → At → ℕ
turns_left m (at_call k work) = 3 * m + 1
turns_left m (entered k c b line work) = 3 * m + 3
turns_left m (arrived k c b line work) = 3 * m + 2
turns_left m (behind k c b work) = 3 * m + 2

-- how often it counts up
abbrev pub counts_left : (m : ℕ) → At → ℕ
counts_left m (at_call k work) = m
counts_left m (entered k c b line work) = m + 1
counts_left m (arrived k c b line work) = m + 1
counts_left m (behind k c b work) = m

-- so it is with the other branch, if it lives
abbrev pub OtherFits : List Block → (l : ℕ) → Option At → Type 0
OtherFits blocks l None = Unit {0}
OtherFits blocks l (Some o) = Fits blocks l o

abbrev pub other_turns : (l : ℕ) → Option At → ℕ
other_turns l None = 0
other_turns l (Some o) = turns_left l o

abbrev pub other_counts : (l : ℕ) → Option At → ℕ
other_counts l None = 0
other_counts l (Some o) = counts_left l o

abbrev pub others_of : Bool → Option At → List Name
others_of which None = []
others_of which (Some o) = name_of (not which) ∷ []

below : (x : ℕ) → x ≤ 2000 → ltb x 32767 ≡ true
below x small = grind (arith, nat_tests)

within : (x : ℕ) → x ≤ 2000 → leb (x + 1) 32767 ≡ true
within x small = grind (arith, nat_tests)

module _ (blocks : List Block) (choices : Choices) (wanted : Ending) (system : Traced) (left : ℕ) where
  abbrev Ends : (fuel : ℕ) → Bool → At → Option At → (x t : ℕ) → Type 0
  Ends fuel which a other x t =
      EndsSo (unit_of blocks) choices fuel (state which a other x t system) (name_of which) (others_of which other) wanted system left

  -- the same state, seen from the other branch
  turned : (fuel : ℕ) (which : Bool) (a o : At) (x t : ℕ) → Ends fuel (not which) o (Some a) x t
      → EndsSo (unit_of blocks) choices fuel (state which a (Some o) x t system) (name_of (not which)) (name_of which ∷ []) wanted system left
  turned fuel true a o x t h = h
  turned fuel false a o x t h = h

  -- the step of a branch that takes a turn
  branch_turn : (fuel : ℕ) (which : Bool) (a : At) (other : Option At) (x t needed : ℕ) → 1 ≤ needed → Balance wanted left t needed
      → step (unit_of blocks) (state which a other x 0 system) (name_of which) ≡ ended outcome.turns system 0
      → ((u : ℕ) → Balance wanted left u (needed - 1) → Ends (suc fuel) which a other x (suc u)) → Ends (suc fuel) which a other x t
  branch_turn fuel which a other x t needed some b none next =
      takes_turn (unit_of blocks) choices wanted system left fuel (λ u. state which a other x u system) (name_of which) (others_of which other) t needed some b
      none next

  ends_last : (fuel x t needed : ℕ) → needed ≡ 1 → Balance wanted left t needed
      → EndsSo (unit_of blocks) choices fuel (last_state x t system) [] [] wanted system left
  ends_last zero x t needed is b = nothing (unit_of blocks) choices wanted system left (last_state x t system) [] []
  ends_last (suc fuel) x t needed is b =
      takes_turn (unit_of blocks) choices wanted system left fuel (λ u. last_state x u system) [] [] t needed (omega (arith, is)) b
      (last_stops blocks x system) (λ u rest. over (unit_of blocks) choices wanted system left fuel (last_state x (suc u) system) [] [] (done_with u rest))
    where
      done_with : (u : ℕ) → Balance wanted left u (needed - 1) → step (unit_of blocks) (last_state x (suc u) system) [] ≡ ended wanted system left
      done_with u (inl (w, e)) =
          let same : u ≡ left = omega (arith, e, is) in
          finishes blocks x u system ∙ ap (λ e. ended e system u) (sym w) ∙ ap (λ n. ended wanted system n) same
      done_with u (inr (w, l, less)) = absurd (omega (arith, less, is))

  ends : (fuel : ℕ) (which : Bool) (a : At) (m : ℕ) (other : Option At) (l x t needed : ℕ) → Fits blocks m a → OtherFits blocks l other
      → x + counts_left m a + other_counts l other ≤ 2000 → needed ≡ turns_left m a + other_turns l other + 1 → Balance wanted left t needed
      → Ends fuel which a other x t
  ends zero which a m other l x t needed fits other_fits small is b =
      nothing (unit_of blocks) choices wanted system left (state which a other x t system) (name_of which) (others_of which other)
  ends (suc fuel) which (at_call k work) zero None l x t needed fits other_fits small is b =
      let a : At = at_call k (branch_end ∷ []) in
      subst (λ w. Ends (suc fuel) which (at_call k w) None x t) (sym fits)
      (branch_turn fuel which a None x t needed (omega (arith, is)) b (end_stops blocks which None k x system) (λ u rest.
      one_ready (unit_of blocks) choices wanted system left fuel (state which a None x (suc u) system) (last_state x u system) (name_of which) [] [] ([] ∷ [])
      (leaves_last blocks which k x u system) refl (ends_last fuel x u (needed - 1) (omega (arith, is)) rest)))
  ends (suc fuel) which (at_call k work) zero (Some o) l x t needed fits other_fits small is b =
      let a : At = at_call k (branch_end ∷ []) in
      subst (λ w. Ends (suc fuel) which (at_call k w) (Some o) x t) (sym fits)
      (branch_turn fuel which a (Some o) x t needed (omega (arith, is)) b (end_stops blocks which (Some o) k x system) (λ u rest.
      one_ready (unit_of blocks) choices wanted system left fuel (state which a (Some o) x (suc u) system) (state (not which) o None x u system) (name_of which)
      (name_of (not which)) (name_of (not which) ∷ []) [] (leaves blocks which o k x u system) refl
      (ends fuel (not which) o l None 0 x u (needed - 1) other_fits tt (omega (arith, small)) (omega (arith, is)) rest)))
  ends (suc fuel) which (at_call k work) (suc m) other l x t needed fits other_fits small is b =
      let block : ℕ = fits.0 in
      let position : Position = fits.2 in
      let more : List Work = fits.3 in
      let inner = fits.5 in
      let a : At = at_call k (doing (call_act block fits.1) position ∷ more) in
      subst (λ w. Ends (suc fuel) which (at_call k w) other x t) (sym fits.4)
      (branch_turn fuel which a other x t needed (omega (arith, is)) b
      (call_stops blocks which other k block fits.1 inner.0 position more x system inner.1) (λ u rest.
      goes (unit_of blocks) choices wanted system left fuel (state which a other x (suc u) system) (state which (entered k fits.1 block inner.0 more) other x u system)
      (name_of which) (others_of which other) (enters blocks which other k block fits.1 inner.0 position more x u system inner.1)
      (ends fuel which (entered k fits.1 block inner.0 more) m other l x u (needed - 1) fits.6 other_fits (omega (arith, small)) (omega (arith, is)) rest)))
  ends (suc fuel) which (entered k c block line work) m None l x t needed fits other_fits small is b =
      branch_turn fuel which (entered k c block line work) None x t needed (omega (arith, is)) b
      (when_stops blocks which None k c block line work x system) (λ u rest.
      one_ready (unit_of blocks) choices wanted system left fuel (state which (entered k c block line work) None x (suc u) system)
      (state which (arrived k c block line work) None x u system) (name_of which) (name_of which) [] (name_of which ∷ [])
      (arrives blocks which None k c block line work x u system) refl
      (ends fuel which (arrived k c block line work) m None l x u (needed - 1) fits other_fits (omega (arith, small)) (omega (arith, is)) rest))
  ends (suc fuel) which (entered k c block line work) m (Some o) l x t needed fits other_fits small is b =
      let next : At = arrived k c block line work in
      branch_turn fuel which (entered k c block line work) (Some o) x t needed (omega (arith, is)) b (when_stops blocks which (Some o) k c block line work x system)
      (λ u rest.
      two_ready (unit_of blocks) choices wanted system left fuel (state which (entered k c block line work) (Some o) x (suc u) system)
      (state which next (Some o) x u system) (name_of which) (name_of (not which)) (name_of which) (name_of (not which) ∷ []) (name_of which ∷ [])
      (arrives blocks which (Some o) k c block line work x u system) refl
      (turned fuel which next o x u
      (ends fuel (not which) o l (Some next) m x u (needed - 1) other_fits fits (omega (arith, small)) (omega (arith, is)) rest))
      (ends fuel which next m (Some o) l x u (needed - 1) fits other_fits (omega (arith, small)) (omega (arith, is)) rest))
  ends (suc fuel) which (arrived k c block line work) m other l x t needed fits other_fits small is b =
      goes (unit_of blocks) choices wanted system left fuel (state which (arrived k c block line work) other x t system)
      (state which (behind k c block work) other (x + 1) t system) (name_of which) (others_of which other)
      (counts blocks which other k c block line work x t system (below x (omega (arith, small))) (within x (omega (arith, small))))
      (ends fuel which (behind k c block work) m other l (x + 1) t needed fits other_fits (omega (arith, small)) (omega (arith, is)) b)
  ends (suc fuel) which (behind k c block work) m other l x t needed fits other_fits small is b =
      branch_turn fuel which (behind k c block work) other x t needed (omega (arith, is)) b (return_stops blocks which other k c block work x system) (λ u rest.
      goes (unit_of blocks) choices wanted system left fuel (state which (behind k c block work) other x (suc u) system)
      (state which (at_call k work) other x u system) (name_of which) (others_of which other) (returns blocks which other k c block work x u system)
      (ends fuel which (at_call k work) m other l x u (needed - 1) fits other_fits (omega (arith, small)) (omega (arith, is)) rest))

-- ---- from the start

calls_left : (n : ℕ) (blocks : List Block) (are : AreBlocks n blocks) (m : ℕ) (s : Acts) (position : Position) (k : ℕ) → AreCalls are.count m s
    → CallsLeft blocks m (doing_all s position k (branch_end ∷ []))
calls_left n blocks are zero s position k calls = ap (λ s. doing_all s position k (branch_end ∷ [])) calls
calls_left n blocks are (suc m) s position k calls =
    let b : ℕ = calls.0 in
    let more : Acts = calls.2 in (
      suc b,
      calls.1,
      inside position k,
      doing_all more position (suc k) (branch_end ∷ []),
      ap (λ s. doing_all s position k (branch_end ∷ [])) calls.4,
      are.procedures b calls.3,
      calls_left n blocks are m more position (suc k) calls.5,
    )

-- the statements of a branch
abbrev whole_work : (k : ℕ) → Acts → List Work
whole_work k s = doing_all s (record { of = k; path = [] }) 0 (branch_end ∷ [])

-- in front of the fork
abbrev begun_state : (branches : List ℕ) → (line turns : ℕ) → Traced → Processes
begun_state branches line turns system = record {
  live = (
    [],
    record {
      size = 65536;
      forks = 0;
      work = doing (unit.cobegin branches line) (record { of = 0; path = 0 ∷ [] }) ∷ program_end ∷ [];
      standing = ready;
    },
  ) ∷ [];
  world = record { store = ([], program_instance 0 ∷ []) ∷ []; system = system; turns = turns };
}

begins : (blocks : List Block) (branches : List ℕ) (line t : ℕ) (system : State) → block_at blocks 0 ≡ ended_program branches line
    → step (unit_of blocks) (start (unit_of blocks) system (suc t)) [] ≡ went (begun_state branches line t (begun system)) stays false
unfolding zero_value
begins blocks branches line t system is = rw is refl

forks : (blocks : List Block) (first second line t : ℕ) (one two : Acts) (system : Traced) → block_at blocks first ≡ branch_block one
    → block_at blocks second ≡ branch_block two
    → step (unit_of blocks) (begun_state (first ∷ second ∷ []) line (suc t) system) []
    ≡ went (state true (at_call first (whole_work first one)) (Some (at_call second (whole_work second two))) 0 t system)
    (joins (name_of true ∷ name_of false ∷ [])) false
forks blocks first second line t one two system is other = rw (is, other) refl

begin_stops : (blocks : List Block) (branches : List ℕ) (line : ℕ) (system : State) → block_at blocks 0 ≡ ended_program branches line
    → step (unit_of blocks) (start (unit_of blocks) system 0) [] ≡ ended outcome.turns (begun system) 0
begin_stops blocks branches line system is = refl

fork_stops : (blocks : List Block) (first second line : ℕ) (one two : Acts) (system : Traced) → block_at blocks first ≡ branch_block one
    → block_at blocks second ≡ branch_block two
    → step (unit_of blocks) (begun_state (first ∷ second ∷ []) line 0 system) [] ≡ ended outcome.turns system 0
fork_stops blocks first second line one two system is other = rw (is, other) refl

-- from the start on
module _ (n : ℕ) (few : n ≤ 1000) (blocks : List Block) (are : AreBlocks n blocks) (choices : Choices) (wanted : Ending) (system : State) (left : ℕ) where
  abbrev branches : List ℕ
  branches = are.first ∷ are.second ∷ []

  abbrev first_at : At
  first_at = at_call are.first (whole_work are.first are.first_calls)

  abbrev second_at : At
  second_at = at_call are.second (whole_work are.second are.second_calls)

  ends_forked : (fuel t needed : ℕ) → needed ≡ 6 * n + 4 → Balance wanted left t needed
      → EndsSo (unit_of blocks) choices fuel (begun_state branches are.line t (begun system)) [] [] wanted (begun system) left
  ends_forked zero t needed is b = nothing (unit_of blocks) choices wanted (begun system) left (begun_state branches are.line t (begun system)) [] []
  ends_forked (suc fuel) t needed is b =
      let one : Fits blocks n first_at = calls_left n blocks are n are.first_calls (record { of = are.first; path = [] }) 0 are.first_are in
      let two : Fits blocks n second_at = calls_left n blocks are n are.second_calls (record { of = are.second; path = [] }) 0 are.second_are in
      takes_turn (unit_of blocks) choices wanted (begun system) left fuel (λ u. begun_state branches are.line u (begun system)) [] [] t needed
      (omega (arith, is)) b (fork_stops blocks are.first are.second are.line are.first_calls are.second_calls (begun system) are.first_is are.second_is)
      (λ u rest.
      two_ready (unit_of blocks) choices wanted (begun system) left fuel (begun_state branches are.line (suc u) (begun system))
      (state true first_at (Some second_at) 0 u (begun system)) [] (name_of true) (name_of false) [] (name_of true ∷ name_of false ∷ [])
      (forks blocks are.first are.second are.line u are.first_calls are.second_calls (begun system) are.first_is are.second_is) refl
      (ends blocks choices wanted (begun system) left fuel true first_at n (Some second_at) n 0 u (needed - 1) one two (omega (arith, few))
      (omega (arith, is)) rest)
      (turned blocks choices wanted (begun system) left fuel true first_at second_at 0 u
      (ends blocks choices wanted (begun system) left fuel false second_at n (Some first_at) n 0 u (needed - 1) two one (omega (arith, few))
      (omega (arith, is)) rest)))

  ends_from_start : (fuel bound : ℕ) → Balance wanted left bound (6 * n + 5)
      → EndsSo (unit_of blocks) choices fuel (start (unit_of blocks) system bound) [] [] wanted (begun system) left
  ends_from_start zero bound b = nothing (unit_of blocks) choices wanted (begun system) left (start (unit_of blocks) system bound) [] []
  ends_from_start (suc fuel) bound b =
      takes_turn (unit_of blocks) choices wanted (begun system) left fuel (λ u. start (unit_of blocks) system u) [] [] bound (6 * n + 5) (omega arith) b
      (begin_stops blocks branches are.line system are.program) (λ u rest.
      goes (unit_of blocks) choices wanted (begun system) left fuel (start (unit_of blocks) system (suc u))
      (begun_state branches are.line u (begun system)) [] []
      (begins blocks branches are.line u system are.program) (ends_forked fuel u (6 * n + 5 - 1) (omega arith) rest))

  -- the outcome of a selection
  outcome_is : (bound used : ℕ) (o : Outcome) → Balance wanted left bound (6 * n + 5) → bound - left ≡ used → Select (unit_of blocks) system bound choices o
      → o ≡ outcome_of system wanted used o.draws
  outcome_is bound used o b count s =
      let e = ends_from_start s.5.0 bound b [] 0 s.0 s.1 s.2 s.3 s.4 s.5.1 in
      let is : o ≡ outcome_of system wanted used s.3 =
      s.6 ∙ ap (λ end. outcome_of end.now s.0 (bound - s.2) s.3) e.system_is ∙ ap (λ ending. outcome_of system ending (bound - s.2) s.3) e.ending_is
      ∙ ap (λ turns. outcome_of system wanted (bound - turns) s.3) e.turns_are ∙ ap (λ turns. outcome_of system wanted turns s.3) count in
      is ∙ ap (λ draws. outcome_of system wanted used draws) (sym (ap (λ o. o.draws) is))

-- every selection with so many turns ends so
pub every_selection : (n : ℕ) → n ≤ 1000 → (blocks : List Block) → AreBlocks n blocks → (system : State) (bound : ℕ) (choices : Choices) (o : Outcome)
    → 6 * n + 5 ≤ bound → Select (unit_of blocks) system bound choices o → o ≡ outcome_of system outcome.done (6 * n + 5) o.draws
every_selection n few blocks are system bound choices o enough s =
    let left : ℕ = bound - (6 * n + 5) in
    outcome_is n few blocks are choices outcome.done system left bound (6 * n + 5) o (inl (refl, omega (arith, enough))) (omega (arith, enough)) s

-- and one with fewer for want of them
pub short_selection : (n : ℕ) → n ≤ 1000 → (blocks : List Block) → AreBlocks n blocks → (system : State) (bound : ℕ) (choices : Choices) (o : Outcome)
    → bound < 6 * n + 5 → Select (unit_of blocks) system bound choices o → o ≡ outcome_of system outcome.turns bound o.draws
short_selection n few blocks are system bound choices o less s =
    outcome_is n few blocks are choices outcome.turns system 0 bound bound o (inr (refl, refl, less)) (omega arith) s
