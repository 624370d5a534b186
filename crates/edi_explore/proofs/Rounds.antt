-- Rounds of a run whose moves are counted.
use Rattle.std.proofs.Common.{◌≡◌, inl, inr, ℕ, suc, ◌+◌, ◌-◌, ◌<◌, true, false, ◌||◌, nat_lt, if◌then◌else◌, List, [], ◌++◌, Option, Some, None}
use Rattle.std.proofs.Common.{refl, sym, ap, subst, ◌∙◌, arith}
use Rattle.std.proofs.lemmas.Bool.Decides.{nat_tests}
use Rattle.edi_calls.specs.Choice.{Choices}
use Rattle.edi_calls.specs.Names.{Name}
use Rattle.edi_calls.specs.Outcome as outcome
use Rattle.edi_calls.specs.Ready.{has, stays, take_next, taking}
use Rattle.edi_calls.specs.State.{State}
use Rattle.edi_calls.proofs.Tables.{same-refl}
use Rattle.edi_target.specs.Check.{CodeParts}
use Rattle.edi_target.specs.Fetch.{fetch}
use Rattle.edi_target.specs.Mach.{Machine, after_step, ended, entered, finished, go_on, run, went}
use Rattle.edi_trace.specs.Drawn.{Drawn}
use Rattle.edi_kernel.specs.declared.ends.Ending.{Ending}
use Rattle.edi_kernel.specs.declared.ends.Ending.TheVariants as ending
use Rattle.edi_kernel.specs.declared.ends.StintEnd.{StintEnd}
use Rattle.edi_kernel.specs.declared.ends.StintEnd.TheVariants as stint_end
use Rattle.edi_kernel.specs.declared.state.KernelState.{KernelState}
use Rattle.edi_kernel.specs.Kept.{IsMarkCount}
use Rattle.edi_kernel.specs.Kernel.{EndsRun, GoesTo, Holds, IsKernel, Switches, ended_by, is_over, used_in}
use Rattle.edi_kernel.specs.Runs.{IsAtBy, Proceeds, Started}
use Rattle.edi_kernel.proofs.Again.{mark_count}
use Rattle.edi_kernel.proofs.Starting.{Enters, NeverEnters, enters, never_enters}
use Rattle.edi_explored.specs.Moves.{counted, moves_on}
use Rattle.edi_explored.specs.machine.Counted.{is_marked, moved, moved_after}
use Rattle.edi_explored.proofs.Members.{last_has}
use Rattle.edi_explored.proofs.machine.Counted.{Marks, stint_adds, stint_ends, stint_marks}
use Rattle.edi_explore.specs.Underway.{Comes, HasEnded, IsUnderway, counted_by}
use Rattle.edi_explore.proofs.Keying.{some_is}

-- ---- the count of the kernel is that of the machine

by_some : (count moves : ℕ) → 0 < count → counted_by count moves ≡ moves
by_some count moves h = let t : nat_lt 0 count ≡ true = grind (arith, nat_tests) in ap (λ b. if b then moves else suc moves) t

by_none : (count moves : ℕ) → count ≡ 0 → counted_by count moves ≡ suc moves
by_none count moves h = let t : nat_lt 0 count ≡ false = grind (arith, nat_tests) in ap (λ b. if b then moves else suc moves) t

counts_on : (count moves more : ℕ) (u : Machine) (p : Name) (others joined : List Name) → IsMarkCount count u.marks (others ++ joined) → Marks p u joined →
    counted_by count moves + more ≡ moves + counted (is_marked u.marks) more
counts_on count moves more u p others joined c (inl e) =
    let here : counted_by count moves ≡ suc moves = by_none count moves (c.none e) in
    let there : counted (is_marked u.marks) more ≡ suc more = ap (λ ms. counted (is_marked ms) more) e in
    omega (arith, here, there)
counts_on count moves more u p others joined c (inr h) =
    let some : 0 < count =
    c.some p (ap (λ l. has (others ++ l) p) h.2 ∙ last_has others p) (ap (λ ms. has ms p) h.1 ∙ ap (λ b. b || has h.0 p) (same-refl p)) in
    let here : counted_by count moves ≡ moves = by_some count moves some in
    let there : counted (is_marked u.marks) more ≡ more = ap (λ ms. counted (is_marked ms) more) h.1 in
    omega (arith, here, there)

-- a stint that has not ended the run
pub not_over : (end : StintEnd) → ended_by end ≡ None → is_over end ≡ false
not_over (stint_end.Over used x) e = absurd (cc)
not_over (stint_end.Arrived used) e = refl
not_over (stint_end.Forked used) e = refl
not_over (stint_end.Exited used) e = refl

module _ (code : CodeParts) (s : State) (bound : ℕ) (choices : Choices) where
  abbrev Entered : Rattle.edi_target.specs.Mach.Stepped
  Entered = entered (fetch code.words code.entry) code.entry code.calls bound s

  -- ---- the start

  pub begins : (k : KernelState) (now : Drawn) → Started code k → 0 < bound → now.drawn ≡ 0 → IsUnderway code s bound choices k s now 0
  begins k now st some none =
      let x : Enters code k s (bound - 1) = enters code k st s (bound - 1) in
      let b : suc (bound - 1) ≡ bound = omega (arith, some) in
      let all : bound - k.used ≡ bound = omega (arith, st.used) in
      let turn : Entered ≡ went x.machine stays = ap (λ i. entered (fetch code.words code.entry) code.entry code.calls i s) (sym b) ∙ x.is in
      record {
        machine = x.machine;
        name = [];
        others = [];
        comes = λ n.
            let plus : moved (fetch code.words) choices n x.machine [] [] now.drawn ≡ 0 + moved (fetch code.words) choices n x.machine [] [] now.drawn =
            omega arith in
            record {
              steps = n;
              runs = ap (after_step choices (run (fetch code.words) choices n) [] [] 0) turn
                  ∙ ap (run (fetch code.words) choices n x.machine [] []) (sym none);
              counts = ap (moved_after choices (moved (fetch code.words) choices n) [] [] 0) turn
                  ∙ ap (moved (fetch code.words) choices n x.machine [] []) (sym none) ∙ plus;
            };
        at = subst (λ t. IsAtBy t code k s (bound - k.used) x.machine [] []) (sym st.entering)
            (st, ap (λ i. entered (fetch code.words code.entry) code.entry code.calls i s) all ∙ turn, refl, refl);
      }

  -- without turns it ends at once
  pub never_begins : (k : KernelState) (now : Drawn) → Started code k → bound ≡ 0 → now.drawn ≡ 0 → HasEnded code s bound choices ending.Turns k s now 0
  never_begins k now st at_once none =
      let x : NeverEnters code s = never_enters code k st s in
      let turn : Entered ≡ ended outcome.turns x.machine = ap (λ i. entered (fetch code.words code.entry) code.entry code.calls i s) at_once ∙ x.is in
      record {
        machine = x.machine;
        end = outcome.turns;
        ends = record {
          steps = 0;
          ends = ap (after_step choices (run (fetch code.words) choices 0) [] [] 0) turn ∙ ap (finished outcome.turns x.machine) (sym none);
          counts = ap (moved_after choices (moved (fetch code.words) choices 0) [] [] 0) turn;
        };
        same = tt;
        system = x.system_is;
        turns = omega (arith, x.turns, at_once);
      }

  -- ---- a round

  module _ (k0 k : KernelState) (x y : State) (now : Drawn) (moves : ℕ) (w : IsUnderway code s bound choices k0 x now moves) where
    ends_run : (e : Ending) (left : ℕ) → left ≡ bound - k.used → EndsRun code.words left e k y w.machine w.name w.others →
        HasEnded code s bound choices e k y now moves
    ends_run e left turns h =
        let j = stint_ends (fetch code.words) choices h.steps w.machine w.name w.others now.drawn h.end h.machine h.is in
        let b = w.comes j.steps in
        let none : moves + 0 ≡ moves = omega arith in
        record {
          machine = h.machine;
          end = h.end;
          ends = record { steps = b.steps; ends = b.runs ∙ j.runs; counts = b.counts ∙ ap (λ n. moves + n) j.counts ∙ none };
          same = h.same;
          system = h.system;
          turns = h.turns ∙ turns;
        }

    over : (used : ℕ) (e : Ending) (left : ℕ) → left - used ≡ bound - k.used → GoesTo code.words (stint_end.Over used e) left k y w.machine w.name w.others →
        Comes code s bound choices (Some e) k y now moves
    over used ending.Fault left turns g = tt
    over used ending.Standstill left turns g = ends_run ending.Standstill (left - used) turns g.0
    over used ending.Done left turns g = ends_run ending.Done (left - used) turns g
    over used (ending.Halted line) left turns g = ends_run (ending.Halted line) (left - used) turns g
    over used (ending.Failed cause line) left turns g = ends_run (ending.Failed cause line) (left - used) turns g
    over used ending.Turns left turns g = ends_run ending.Turns (left - used) turns g
    over used (ending.Bad at) left turns g = ends_run (ending.Bad at) (left - used) turns g

    -- the stint ends the run
    pub round_over : (end : StintEnd) (e : Ending) (left : ℕ) → ended_by end ≡ Some e → left - used_in end ≡ bound - k.used →
        GoesTo code.words end left k y w.machine w.name w.others → Comes code s bound choices (Some e) k y now moves
    round_over (stint_end.Over used z) e left is turns g =
        subst (λ i. Comes code s bound choices (Some i) k y now moves) (some_is is) (over used z left turns g)
    round_over (stint_end.Arrived used) e left is turns g = absurd (cc)
    round_over (stint_end.Forked used) e left is turns g = absurd (cc)
    round_over (stint_end.Exited used) e left is turns g = absurd (cc)

    -- it switches, and the next is taken, or nobody is ready
    module _ (source : choices ≡ now.source) (kernel : IsKernel k) (free : k.taken ≡ None) (next : KernelState) (later : Drawn) (used : next.used ≡ k.used)
        (entering : next.entering ≡ false) where
      abbrev more : ℕ
      more = counted_by k.table.marks moves

      on : (result : Option Ending) (left : ℕ) → left ≡ bound - k.used → (h : Switches code.words left k y w.machine w.name w.others) →
          Proceeds result next h.machine now later (w.others ++ h.joined) → Comes code s bound choices result next y later more
      on None left turns h c =
          let t : take_next choices now.drawn (w.others ++ h.joined) ≡ taking c.name c.others later.drawn =
          ap (λ z. take_next z now.drawn (w.others ++ h.joined)) source ∙ c.is in
          record {
            machine = h.machine;
            name = c.name;
            others = c.others;
            comes = λ n.
                let j = stint_adds (fetch code.words) choices h.steps w.machine w.name w.others now.drawn n h.machine h.joined h.is in
                let b = w.comes j.steps in
                let adds = counts_on k.table.marks moves (moved (fetch code.words) choices n h.machine c.name c.others later.drawn) h.machine w.name w.others
                h.joined (mark_count k h.machine (w.others ++ h.joined) kernel free h.holds)
                (stint_marks w.name (fetch code.words) w.others h.steps w.machine h.machine h.joined h.is) in
                record {
                  steps = b.steps;
                  runs = b.runs ∙ j.runs ∙ ap (λ p. go_on p (run (fetch code.words) choices n h.machine) h.machine now.drawn) t;
                  counts = b.counts
                      ∙ ap (λ i. moves + i) (j.counts ∙ ap (λ p. counted (is_marked h.machine.marks) (moves_on p (moved (fetch code.words) choices n h.machine))) t)
                      ∙ sym adds;
                };
            at = subst (λ p. IsAtBy p code next y (bound - next.used) h.machine c.name c.others) (sym entering)
                (c.holds, h.system, h.turns ∙ turns ∙ ap (λ i. bound - i) (sym used));
          }
      on (Some ending.Standstill) left turns h c =
          let j = stint_adds (fetch code.words) choices h.steps w.machine w.name w.others now.drawn 0 h.machine h.joined h.is in
          let b = w.comes j.steps in
          let adds = counts_on k.table.marks moves 0 h.machine w.name w.others h.joined (mark_count k h.machine (w.others ++ h.joined) kernel free h.holds)
          (stint_marks w.name (fetch code.words) w.others h.steps w.machine h.machine h.joined h.is) in
          let none : more + 0 ≡ more = omega arith in
          record {
            machine = h.machine;
            end = outcome.standstill;
            ends = record {
              steps = b.steps;
              ends = b.runs ∙ j.runs ∙ ap (λ ps. go_on (take_next choices now.drawn ps) (run (fetch code.words) choices 0 h.machine) h.machine now.drawn) c.0
                  ∙ ap (λ (d : Drawn). finished outcome.standstill h.machine d.drawn) (sym c.1);
              counts = b.counts
                  ∙ ap (λ i. moves + i) (j.counts ∙ ap (λ ps. counted (is_marked h.machine.marks)
                  (moves_on (take_next choices now.drawn ps) (moved (fetch code.words) choices 0 h.machine))) c.0) ∙ sym adds ∙ none;
            };
            same = tt;
            system = h.system;
            turns = h.turns ∙ turns ∙ ap (λ i. bound - i) (sym used);
          }
      on (Some ending.Done) left turns h c = absurd c
      on (Some (ending.Halted line)) left turns h c = absurd c
      on (Some (ending.Failed cause line)) left turns h c = absurd c
      on (Some ending.Turns) left turns h c = absurd c
      on (Some (ending.Bad at)) left turns h c = absurd c
      on (Some ending.Fault) left turns h c = absurd c

      pub round_on : (end : StintEnd) (result : Option Ending) (left : ℕ) → ended_by end ≡ None → left - used_in end ≡ bound - k.used →
          ((m : Machine) (ready : List Name) → Holds k m None ready → Proceeds result next m now later ready) →
          GoesTo code.words end left k y w.machine w.name w.others → Comes code s bound choices result next y later more
      round_on (stint_end.Over n e) result left is turns c g = absurd (cc)
      round_on (stint_end.Arrived n) result left is turns c g =
          let h : Switches code.words (left - n) k y w.machine w.name w.others = g.0 in
          on result (left - n) turns h (c h.machine (w.others ++ h.joined) h.holds)
      round_on (stint_end.Forked n) result left is turns c g =
          let h : Switches code.words (left - n) k y w.machine w.name w.others = g.0 in
          on result (left - n) turns h (c h.machine (w.others ++ h.joined) h.holds)
      round_on (stint_end.Exited n) result left is turns c g =
          let h : Switches code.words (left - n) k y w.machine w.name w.others = g.0 in
          on result (left - n) turns h (c h.machine (w.others ++ h.joined) h.holds)
