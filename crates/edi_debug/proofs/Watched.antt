-- Rounds of a watched run, where the system tells its state.
use Rattle.std.proofs.Common.{◌≡◌, ℕ, zero, suc, ◌-◌, ◌<◌, ◌≤◌, false, List, [], ◌∷◌, length, map, All, Option, Some, None, refl, sym, ap, ◌∙◌, subst}
use Rattle.std.proofs.Common.{arith}
use Rattle.edi_told.specs.Told.{WhereTold}
use Rattle.edi_told.proofs.Told.{WhereTold-map, WhereTold-then}
use Rattle.edi_calls.specs.declared.ends.Outside.{Outside}
use Rattle.edi_calls.specs.Names.{Name}
use Rattle.edi_calls.specs.Outcome as outcome
use Rattle.edi_calls.specs.Ready.{stays}
use Rattle.edi_calls.specs.State.{State}
use Rattle.edi_trace.specs.Drawn.{Drawn}
use Rattle.edi_tree.specs.Tree as text
use Rattle.edi_unit.specs.Tree.{ProgramUnit}
use Rattle.edi_static.specs.Programs.{Resolved, Sound}
use Rattle.edi_target.specs.Check.{CodeParts}
use Rattle.edi_target.specs.Fetch.{fetch}
use Rattle.edi_target.specs.Mach.{Machine, went, ended, entered, after_step, run, finished}
use Rattle.edi_target.specs.Arrivals.{arrived, arrived_next}
use Rattle.edi_scheme.specs.Laws.{parts_of}
use Rattle.edi_scheme.specs.Code.{code_of}
use Rattle.edi_kernel.specs.declared.ends.Ending.{Ending}
use Rattle.edi_kernel.specs.declared.ends.Ending.TheVariants as ending
use Rattle.edi_kernel.specs.declared.ends.StintEnd.{StintEnd}
use Rattle.edi_kernel.specs.declared.ends.StintEnd.TheVariants as stint_end
use Rattle.edi_kernel.specs.declared.state.KernelState.{KernelState}
use Rattle.edi_kernel.specs.declared.table.Table.{Table}
use Rattle.edi_kernel.specs.Kernel.{BreaksBy, Holds, GoesTo, StandsAfter, used_in, ended_by, fault_of, is_over}
use Rattle.edi_kernel.specs.Runs.{FaultsBy, IsAt, IsAtBy, Proceeds, Started, RunsAs}
use Rattle.edi_kernel.proofs.Starting.{Enters, NeverEnters, enters, never_enters}
use Rattle.edi_code.specs.declared.mapped.Mapped.{Mapped}
use Rattle.edi_code.specs.Mapped.{IsMapped}
use Rattle.edi_debug.specs.declared.answer.Point.{Point}
use Rattle.edi_debug.specs.declared.answer.Points.{Points}
use Rattle.edi_debug.specs.Points.{watched, watched_in, ArePoints, AreNamed}
use Rattle.edi_debug.specs.Looking.{stop_now}
use Rattle.edi_debug.specs.stops.Kept.{Kept, after_lines}
use Rattle.edi_debug.specs.stops.Stops.{Watched}
use Rattle.edi_debug.specs.stops.Seen.{PointsFit}
use Rattle.edi_debug.specs.stops.Watching.{run_lines, LogsAll}
use Rattle.edi_debug.specs.stops.Underway.{AsksFailed, Going, Ended, Watches}
use Rattle.edi_debug.proofs.Files.{points_fit, names_are_short}
use Rattle.edi_debug.proofs.stops.Stinted.{begins}
use Rattle.edi_debug.proofs.stops.Rounds.{round_asks, round_over, round_on}

pub not_over : (end : StintEnd) → ended_by end ≡ None → is_over end ≡ false
not_over (stint_end.Over used x) e = absurd (cc)
not_over (stint_end.Arrived used) e = refl
not_over (stint_end.Forked used) e = refl
not_over (stint_end.Exited used) e = refl

-- ---- names

unwatched : (ps : List Point) → All (λ (w : Watched). length w.name ≤ 250) (map watched ps) → All (λ (p : Point). length p.name.items ≤ 250) ps
unwatched [] h = no_point
  where
    no_point : All (λ (p : Point). length p.name.items ≤ 250) []
    no_point i d l = absurd (omega (arith, l))
unwatched (p ∷ ps) h = more (unwatched ps (λ i d l. h (suc i) d (omega (arith, l))))
  where
    more : All (λ (q : Point). length q.name.items ≤ 250) ps → All (λ (q : Point). length q.name.items ≤ 250) (p ∷ ps)
    more k zero d l = h zero (watched d) (omega arith)
    more k (suc i) d l = k i d (omega (arith, l))

pub are_named : (tree : text.Program) (points : Points) → ArePoints tree points → AreNamed points
are_named tree points h = unwatched points.items.items (names_are_short tree h.0 (watched_in points) h.1)

-- ---- a round

module _ (mapped : Mapped) (points : List Watched) (bound : ℕ) where
  -- what a round does of any watched run
  abbrev pub AnyRound : Option Ending → (old new : KernelState) → (now next : Drawn) → (before after : Kept) → State → State → Type 0
  AnyRound result old new now next before after x y =
      (unit : ProgramUnit) → IsMapped unit mapped → PointsFit unit points → (s : State) (first : Drawn) (start : Kept) → first.source ≡ now.source →
      Going unit points s bound first start old x now before → Watches unit points s bound first start result new y next after

  -- where it ends the run by a fault, the call that failed uses the object that has failed
  abbrev pub AnyFault : (failed : Option Outside → Type 0) → Option Ending → (old new : KernelState) → (now next : Drawn) → (before : Kept) → State → State
      → Type 0
  AnyFault failed result old new now next before x y =
      (unit : ProgramUnit) → IsMapped unit mapped → (s : State) (first : Drawn) (start : Kept) → first.source ≡ now.source →
      Going unit points s bound first start old x now before → AsksFailed unit points s bound first start failed result new y next

module _ (mapped : Mapped) (points : List Watched) (bound : ℕ) (code : CodeParts) (is_code : (unit : ProgramUnit) → IsMapped unit mapped → code ≡ parts_of unit)
  where
    abbrev Logs : KernelState → (before after : Kept) → Type 0
    Logs k before after =
        (unit : ProgramUnit) → IsMapped unit mapped → PointsFit unit points → after ≡ after_lines (stop_now unit bound k.store k.arrived k.used points) before

    abbrev AnyStint : StintEnd → (left : ℕ) → (old k : KernelState) → State → State → Type 0
    AnyStint end left old k x y = (m : Machine) (p : Name) (others : List Name) → IsAt code old x left m p others → GoesTo code.words end left k y m p others

    module _ (end : StintEnd) (old k : KernelState) (now : Drawn) (before after : Kept) (left : ℕ) (taken : Option ℕ) (ready : List ℕ) (t : Table)
        (o n : Option State) (all : left ≡ bound - old.used) (turns : left - used_in end ≡ bound - k.used) (small : k.used ≤ bound) (logs : Logs k before after)
        (stands : StandsAfter end taken ready t k.arrived) where
      pub told_over : (x : Ending) → ended_by end ≡ Some x → WhereTold o n (AnyStint end left old k) → WhereTold o n (AnyRound mapped points bound (Some x) old k now now before after)
      told_over x is h =
          WhereTold-map (AnyStint end left old k) (AnyRound mapped points bound (Some x) old k now now before after) o n
          (λ a b goes unit m fits s first start source w.
          round_over unit points s bound first start end x old k a b now before after code left taken ready t is (is_code unit m) all turns small
          (logs unit m fits) stands goes w) h

      pub told_on : (result : Option Ending) (next : KernelState) (later : Drawn) → ended_by end ≡ None → next.used ≡ k.used → next.entering ≡ false →
          ((m : Machine) (ns : List Name) → Holds k m None ns → Proceeds result next m now later ns) → WhereTold o n (AnyStint end left old k) →
          WhereTold o n (AnyRound mapped points bound result old next now later before after)
      told_on result next later is used entering proceeds h =
          WhereTold-map (AnyStint end left old k) (AnyRound mapped points bound result old next now later before after) o n
          (λ a b goes unit m fits s first start source w.
          round_on unit points s bound first start end result old k next a b now later before after code left taken ready t is (is_code unit m) all turns small
          (logs unit m fits) stands source used entering proceeds goes w) h

      abbrev AnyBreak : (failed : Option Outside → Type 0) → State → State → Type 0
      AnyBreak failed x y = (m : Machine) (p : Name) (others : List Name) → IsAt code old x left m p others → BreaksBy failed code.words end left y m p others

      pub asks_over : (failed : Option Outside → Type 0) (x : Ending) → ended_by end ≡ Some x → WhereTold o n (AnyBreak failed)
          → WhereTold o n (AnyFault mapped points bound failed (Some x) old k now now before)
      asks_over failed x is h =
          WhereTold-map (AnyBreak failed) (AnyFault mapped points bound failed (Some x) old k now now before) o n
          (λ a b breaks unit m s first start source w.
          round_asks unit points s bound first start failed end x old k a b now before code left is (is_code unit m) all turns small breaks w) h

      -- a choice, and what was found where nobody is ready, are no fault
      pub asks_on : (failed : Option Outside → Type 0) (result : Option Ending) (next : KernelState) (later : Drawn) → fault_of result ≡ None
          → WhereTold o n (AnyBreak failed) → WhereTold o n (AnyFault mapped points bound failed result old next now later before)
      asks_on failed result next later none h =
          WhereTold-map (AnyBreak failed) (AnyFault mapped points bound failed result old next now later before) o n
          (λ a b breaks unit m s first start source w. go unit s first start b result none) h
        where
          go : (unit : ProgramUnit) (s : State) (first : Drawn) (start : Kept) (b : State) (r : Option Ending) → fault_of r ≡ None
              → AsksFailed unit points s bound first start failed r next b later
          go unit s first start b None none = tt
          go unit s first start b (Some ending.Fault) none = absurd (cc)
          go unit s first start b (Some ending.Done) none = tt
          go unit s first start b (Some (ending.Halted line)) none = tt
          go unit s first start b (Some (ending.Failed cause line)) none = tt
          go unit s first start b (Some ending.Turns) none = tt
          go unit s first start b (Some ending.Standstill) none = tt
          go unit s first start b (Some (ending.Bad at)) none = tt

-- ---- a whole run

module _ (tree : text.Program) (sound : Sound tree) (mapped : Mapped) (points : Points) (are : ArePoints tree points) (bound : ℕ) (first : Drawn) (start : Kept) where
  abbrev pub GoingOn : KernelState → Drawn → Kept → State → State → Type 0
  GoingOn k now log s x =
      (unit : ProgramUnit) → Resolved tree unit → IsMapped unit mapped → Going unit (watched_in points) s bound first start k x now log

  abbrev pub EndedSo : Ending → KernelState → Drawn → Kept → State → State → Type 0
  EndedSo e k now log s x =
      (unit : ProgramUnit) → Resolved tree unit → IsMapped unit mapped → Ended unit (watched_in points) s bound first start e k x now log

  abbrev pub AskedSo : (failed : Option Outside → Type 0) → Ending → KernelState → Drawn → State → State → Type 0
  AskedSo failed e k now s x =
      (unit : ProgramUnit) → Resolved tree unit → IsMapped unit mapped → FaultsBy failed (parts_of unit) s bound first e k.used x now

  fit : (unit : ProgramUnit) → Resolved tree unit → PointsFit unit (watched_in points)
  fit unit resolved = points_fit tree unit sound resolved are.0 (watched_in points) are.1

  module _ (a b c : Option State) (old new : KernelState) (now next : Drawn) (before after : Kept) (source : now.source ≡ first.source) where
    pub watched_more : WhereTold a b (GoingOn old now before) → WhereTold b c (AnyRound mapped (watched_in points) bound None old new now next before after)
        → WhereTold a c (GoingOn new next after)
    watched_more h g =
        WhereTold-then _ _ _ a b c (λ s x y w round unit resolved m. round unit m (fit unit resolved) s first start (sym source) (w unit resolved m)) h g

    pub watched_asks : (failed : Option Outside → Type 0) (e : Ending) → WhereTold a b (GoingOn old now before)
        → WhereTold b c (AnyFault mapped (watched_in points) bound failed (Some e) old new now next before) → WhereTold a c (AskedSo failed e new next)
    watched_asks failed e h g =
        WhereTold-then _ _ _ a b c (λ s x y w round unit resolved m. round unit m s first start (sym source) (w unit resolved m)) h g

    pub watched_ends : (e : Ending) → WhereTold a b (GoingOn old now before)
        → WhereTold b c (AnyRound mapped (watched_in points) bound (Some e) old new now next before after) → WhereTold a c (EndedSo e new next after)
    watched_ends e h g =
        WhereTold-then _ _ _ a b c (λ s x y w round unit resolved m. round unit m (fit unit resolved) s first start (sym source) (w unit resolved m)) h g

  where_same : (o : Option State) (P : State → State → Type 0) → ((s : State) → P s s) → WhereTold o o P
  where_same None P h = tt
  where_same (Some s) P h = h s

  module _ (code : CodeParts) (is_code : (unit : ProgramUnit) → IsMapped unit mapped → code ≡ parts_of unit) (k : KernelState) (started : Started code k)
      (o : Option State) where
    pub watched_first : 0 < bound → WhereTold o o (GoingOn k first start)
    watched_first some = where_same o (GoingOn k first start) begin
      where
        begin : (s : State) → GoingOn k first start s s
        begin s unit resolved m =
            let st : Started (parts_of unit) k = subst (λ c. Started c k) (is_code unit m) started in
            let x : Enters (parts_of unit) k s (bound - 1) = enters (parts_of unit) k st s (bound - 1) in
            let b : suc (bound - 1) ≡ bound = omega (arith, some) in
            let all : bound - k.used ≡ bound = omega (arith, st.used) in
            let turn : entered (fetch (code_of unit) 0) 0 unit.calls bound s ≡ went x.machine stays =
            ap (λ i. entered (fetch (code_of unit) 0) 0 unit.calls i s) (sym b) ∙ x.is in
            record {
              machine = x.machine;
              name = [];
              others = [];
              seen = [];
              at = subst (λ t. IsAtBy t (parts_of unit) k s (bound - k.used) x.machine [] []) (sym st.entering)
                  (st, ap (λ i. entered (fetch (code_of unit) 0) 0 unit.calls i s) all ∙ turn, refl, refl);
              underway = begins (fetch (code_of unit)) first.source 0 unit.calls s bound first.drawn x.machine turn;
              logs = refl;
            }

    pub nothing_asked : (failed : Option Outside → Type 0) → WhereTold o o (AskedSo failed ending.Turns k first)
    nothing_asked failed = where_same o (AskedSo failed ending.Turns k first) (λ s unit resolved m. tt)

    pub watched_never : bound ≡ 0 → WhereTold o o (EndedSo ending.Turns k first start)
    watched_never none = where_same o (EndedSo ending.Turns k first start) never
      where
        never : (s : State) → EndedSo ending.Turns k first start s s
        never s unit resolved m =
            let st : Started (parts_of unit) k = subst (λ c. Started c k) (is_code unit m) started in
            let x : NeverEnters (parts_of unit) s = never_enters (parts_of unit) k st s in
            let turn : entered (fetch (code_of unit) 0) 0 unit.calls bound s ≡ ended outcome.turns x.machine =
            ap (λ i. entered (fetch (code_of unit) 0) 0 unit.calls i s) none ∙ x.is in
            let ends : after_step first.source (run (fetch (code_of unit)) first.source 0) [] [] first.drawn (entered (fetch (code_of unit) 0) 0 unit.calls bound s)
            ≡ finished outcome.turns x.machine first.drawn =
            ap (after_step first.source (run (fetch (code_of unit)) first.source 0) [] [] first.drawn) turn in
            let run_as : RunsAs (parts_of unit) s bound first ending.Turns k.store k.used s first = record {
              machine = x.machine;
              end = outcome.turns;
              is = (0, ends);
              same = tt;
              memory = tt;
              system_is = x.system_is;
              turns = omega (arith, none, x.turns, st.used);
            } in
            let all : LogsAll unit s bound first (watched_in points) start start = record {
              ending = outcome.turns;
              machine = x.machine;
              drawn = first.drawn;
              ends = (0, ends);
              logs =
                  sym (ap (λ z. after_lines (run_lines unit bound (watched_in points)
                  (arrived_next first.source (arrived (fetch (code_of unit)) first.source 0) [] [] first.drawn z)) start) turn);
            } in
            record { ran = run_as; logs = all }
