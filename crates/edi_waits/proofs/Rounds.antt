-- Rounds of a run whose processes are named.
use Rattle.std.proofs.Common.{◌≡◌, ℕ, ◌-◌, ◌^◌, ◌<◌, ◌≤◌, false, List, [], ◌∷◌, ◌++◌, length, map, Option, Some, None, refl, sym, ap, subst, ◌∙◌, arith}
use Rattle.std.proofs.Common.{slice_get, true, ◌+◌}
use Rattle.std.specs.Option.{option_map}
use Rattle.edi_told.specs.Told.{WhereTold}
use Rattle.edi_told.proofs.Told.{WhereTold-map}
use Rattle.edi_calls.specs.declared.ends.Outside.{Outside}
use Rattle.edi_calls.specs.Ends.{IsUsed}
use Rattle.edi_calls.specs.Names.{Name}
use Rattle.edi_calls.specs.Outcome as outcome
use Rattle.edi_calls.specs.Ready.{child, children, take_next, taking}
use Rattle.edi_calls.specs.State.{State}
use Rattle.edi_target.specs.Op.{Instruction}
use Rattle.edi_target.specs.Check.{CodeParts}
use Rattle.edi_target.specs.Fetch.{fetch}
use Rattle.edi_target.specs.Mach.{Machine, finished, go_on, run}
use Rattle.edi_trace.specs.Drawn.{Drawn}
use Rattle.edi_kernel.specs.declared.ends.Ending.{Ending}
use Rattle.edi_kernel.specs.declared.ends.Ending.TheVariants as ending
use Rattle.edi_kernel.specs.declared.ends.StintEnd.{StintEnd}
use Rattle.edi_kernel.specs.declared.ends.StintEnd.TheVariants as stint_end
use Rattle.edi_kernel.specs.declared.state.KernelState.{KernelState}
use Rattle.edi_kernel.specs.Table.{is_free_home, is_live, ready_slots}
use Rattle.edi_kernel.specs.TableIsMachine.{IsTaken, Naming}
use Rattle.edi_kernel.specs.Kernel.{BreaksOff, EndsAs, EndsRun, ForksInto, Holds, IsKernel, IsTakenIn, Switches, ended_by, is_over, used_in}
use Rattle.edi_kernel.specs.Moments.{moment, moment_at, moment_of, moment_on}
use Rattle.edi_kernel.specs.Named.{BreaksRun, BreaksRunBy, GoesBy, HoldsBy, NamesGrow}
use Rattle.edi_kernel.specs.Runs.{FailsIn, IsAt, IsAtBy, RunsAs}
use Rattle.edi_kernel.proofs.Enders.{EndsBy, ends_by}
use Rattle.edi_kernel.proofs.Lists.{live_of_home}
use Rattle.edi_kernel.proofs.Moments.{moment_followed, moment_switched}
use Rattle.edi_kernel.proofs.Sharing.{none_twice}
use Rattle.edi_kernel.proofs.Rounds.{run_over, run_switched}
use Rattle.edi_kernel.proofs.Underway.{told_both}
use Rattle.edi_waits.specs.declared.births.Names.{Names}
use Rattle.edi_waits.specs.Names.{AreNames, FollowsNames, LivesBefore}
use Rattle.edi_waits.specs.Runs.{Broke, Comes, Going, ProceedsBy}
use Rattle.edi_waits.proofs.Naming.{names_grow, names_stay}
use Rattle.edi_waits.proofs.Lists.{children_at, map_at, mapped, once_at, past, some_is}

stood : (x : outcome.Ending) → EndsAs x ending.Standstill → x ≡ outcome.standstill
stood outcome.standstill h = refl
stood outcome.done h = absurd h
stood (outcome.halted line) h = absurd h
stood (outcome.failed cause line) h = absurd h
stood outcome.turns h = absurd h
stood (outcome.bad at) h = absurd h

module _ (code : CodeParts) (s : State) (bound : ℕ) (first : Drawn) where
  -- ---- a round

  module _ (k0 k : KernelState) (x y : State) (now : Drawn) (old names : Names) (w : Going code s bound first k0 x now old) (source : first.source ≡ now.source)
      (kernel : IsKernel k) (within : k.used ≤ bound) where
    -- the stint ends the run as the machine does
    ran : (left : ℕ) (e : Ending) → left ≡ bound - k.used → EndsRun code.words left e k y w.machine w.name w.others →
        RunsAs code s bound first e k.store k.used y now
    ran left e turns h =
        let j : (j : ℕ) × (run (fetch code.words) first.source j w.machine w.name w.others now.drawn ≡ finished h.end h.machine now.drawn) =
        run_over (fetch code.words) first.source h.steps w.machine w.name w.others now.drawn h.end h.machine h.is in
        record {
          machine = h.machine;
          end = h.end;
          is = w.comes j.0 (finished h.end h.machine now.drawn) j.1;
          same = h.same;
          memory = h.memory;
          system_is = h.system;
          turns = omega (arith, h.turns, turns, within);
        }

    -- an object outside failed in a call of it
    pub breaks : (left : ℕ) → left ≡ bound - k.used → (h : BreaksOff code.words left y w.machine w.name w.others) →
        (f : FailsIn code s bound first k.used y now) × ((failed : Option Outside → Type 0) → IsUsed h.fails.number failed → IsUsed f.fails.number failed)
    breaks left turns h =
        let z : (j : ℕ) × (moment_of code s bound first.source first.drawn j ≡ Some (moment_at h.machine w.name w.others now.drawn)) =
        w.passes h.steps (Some (moment_at h.machine w.name w.others now.drawn))
        (moment_followed (fetch code.words) first.source h.steps w.machine w.name w.others now.drawn h.machine h.is) in (
          record {
            steps = z.0;
            at = moment_at h.machine w.name w.others now.drawn;
            is = z.1;
            fails = h.fails;
            drawn = refl;
            turns = omega (arith, h.turns, turns, within);
          },
          λ failed used. used,
        )

    -- the stint ends the run by an instruction of its process
    broke : (left : ℕ) (e : Ending) → k0.used ≤ k.used → names ≡ old → BreaksRun code.words left e k0 w.naming k y w.machine w.name w.others →
        Broke code s bound first e k now names
    broke left e more same b =
        let h : EndsRun code.words left e k y w.machine w.name w.others = b.ends in
        let z : EndsBy code s bound first.source first.drawn h.end h.machine w.name now.drawn =
        ends_by code s bound first.source first.drawn w.machine w.name w.others now.drawn w.passes h.steps h.end h.machine h.is in
        record {
          machine = h.machine;
          end = h.end;
          name = w.name;
          others = w.others;
          ends = (z.steps, z.is);
          ran = z.ran;
          same = h.same;
          broken = b.broken;
          kernel = kernel;
          named = subst (λ z. AreNames z b.broken.holds.naming k.table k.used) (sym same)
              (names_stay old b.broken.holds.naming k0.table k.table k0.used k.used b.slots more
              (subst (λ n. AreNames old n k0.table k0.used) (sym b.by) w.named));
        }

    -- the stint ends the run
    pub over : (used : ℕ) (e : Ending) (left : ℕ) → left - used ≡ bound - k.used → k0.used ≤ k.used → names ≡ old →
        GoesBy code.words (stint_end.Over used e) left k0 w.naming k y w.machine w.name w.others →
        BreaksRunBy code.words (stint_end.Over used e) left k0 w.naming k y w.machine w.name w.others → Comes code s bound first (Some e) k y now names
    over used ending.Standstill left turns more same g b =
        let h : EndsRun code.words (left - used) ending.Standstill k y w.machine w.name w.others = g.0.0 in
        let j : (j : ℕ) × (run (fetch code.words) first.source j w.machine w.name w.others now.drawn ≡ finished h.end h.machine now.drawn) =
        run_over (fetch code.words) first.source h.steps w.machine w.name w.others now.drawn h.end h.machine h.is in
        let e : h.end ≡ outcome.standstill = stood h.end h.same in (
          ran (left - used) ending.Standstill turns h,
          record {
            machine = h.machine;
            ready = w.others ++ w.name ∷ [];
            naming = w.naming;
            ends = w.comes j.0 (finished outcome.standstill h.machine now.drawn) (j.1 ∙ ap (λ z. finished z h.machine now.drawn) e);
            kernel = kernel;
            holds = record { holds = g.0.3; by = g.1 };
            named = subst (λ z. AreNames z w.naming k.table k.used) (sym same) (names_stay old w.naming k0.table k.table k0.used k.used g.2 more w.named);
          },
        )
    over used ending.Done left turns more same g b =
        (ran (left - used) ending.Done turns b.ends, broke (left - used) ending.Done more same b)
    over used (ending.Halted line) left turns more same g b =
        (ran (left - used) (ending.Halted line) turns b.ends, broke (left - used) (ending.Halted line) more same b)
    over used (ending.Failed cause line) left turns more same g b =
        (ran (left - used) (ending.Failed cause line) turns b.ends, broke (left - used) (ending.Failed cause line) more same b)
    over used ending.Turns left turns more same g b =
        (ran (left - used) ending.Turns turns b.ends, broke (left - used) ending.Turns more same b)
    over used (ending.Bad at) left turns more same g b =
        (ran (left - used) (ending.Bad at) turns b.ends, broke (left - used) (ending.Bad at) more same b)
    over used ending.Fault left turns more same g b = ((breaks (left - used) turns g).0, tt)

    -- it switches, by these names, and the next is taken or nobody is ready
    module _ (next : KernelState) (later : Drawn) (left : ℕ) (turns : left ≡ bound - k.used) (used : next.used ≡ k.used) (entering : next.entering ≡ false)
        (lives : LivesBefore k.table next.table) (h : Switches code.words left k y w.machine w.name w.others) (n : Naming) (by : h.holds.naming ≡ n)
        (named : AreNames names n k.table k.used) where
      abbrev fetched : ℕ → Option (Instruction × ℕ)
      fetched = fetch code.words

      after : AreNames names n next.table next.used
      after = names_stay names n k.table next.table k.used next.used lives (omega (arith, used)) named

      pub on : (result : Option Ending) → ProceedsBy result n k next h.machine now later (w.others ++ h.joined) → Comes code s bound first result next y later names
      on None c =
          let t : take_next first.source now.drawn (w.others ++ h.joined) ≡ taking c.0.name c.0.others later.drawn =
          ap (λ z. take_next z now.drawn (w.others ++ h.joined)) source ∙ c.0.is in
          record {
            machine = h.machine;
            name = c.0.name;
            others = c.0.others;
            naming = n;
            comes = λ i r e.
                let z : (j : ℕ) × (run fetched first.source j w.machine w.name w.others now.drawn ≡ r) =
                run_switched fetched first.source h.steps w.machine w.name w.others now.drawn h.machine h.joined h.is i r
                (ap (λ p. go_on p (run fetched first.source i h.machine) h.machine now.drawn) t ∙ e) in
                w.comes z.0 r z.1;
            passes = λ i r e.
                let z : (j : ℕ) × (moment fetched first.source j w.machine w.name w.others now.drawn ≡ r) =
                moment_switched fetched first.source h.steps w.machine w.name w.others now.drawn h.machine h.joined h.is i r
                (ap (λ p. moment_on p (moment fetched first.source i h.machine)) t ∙ e) in
                w.passes z.0 r z.1;
            at = subst (λ p. IsAtBy p code next y (bound - next.used) h.machine c.0.name c.0.others) (sym entering)
                (c.0.holds, h.system, h.turns ∙ turns ∙ ap (λ i. bound - i) (sym used));
            holds = record { holds = c.0.holds; by = c.1 };
            named = after;
          }
      on (Some ending.Standstill) c =
          let z : (j : ℕ) × (run fetched first.source j w.machine w.name w.others now.drawn ≡ finished outcome.standstill h.machine now.drawn) =
          run_switched fetched first.source h.steps w.machine w.name w.others now.drawn h.machine h.joined h.is 0 (finished outcome.standstill h.machine now.drawn)
          (ap (λ ps. go_on (take_next first.source now.drawn ps) (run fetched first.source 0 h.machine) h.machine now.drawn) c.0) in
          let drawn : now.drawn ≡ later.drawn = sym (ap (λ (d : Drawn). d.drawn) c.1) in
          let holds : HoldsBy n k h.machine None (w.others ++ h.joined) = record { holds = h.holds; by = by } in
          let ends = w.comes z.0 (finished outcome.standstill h.machine later.drawn) (z.1 ∙ ap (finished outcome.standstill h.machine) drawn) in (
            record {
              machine = h.machine;
              end = outcome.standstill;
              is = ends;
              same = tt;
              memory = tt;
              system_is = h.system;
              turns = omega (arith, h.turns, turns, used, within);
            },
            record {
              machine = h.machine;
              ready = w.others ++ h.joined;
              naming = n;
              ends = ends;
              kernel = subst IsKernel (sym c.2) kernel;
              holds = subst (λ q. HoldsBy n q h.machine None (w.others ++ h.joined)) (sym c.2) holds;
              named = after;
            },
          )
      on (Some ending.Done) c = absurd c
      on (Some (ending.Halted line)) c = absurd c
      on (Some (ending.Failed cause line)) c = absurd c
      on (Some ending.Turns) c = absurd c
      on (Some (ending.Bad at)) c = absurd c
      on (Some ending.Fault) c = absurd c

    -- by the end of the stint
    pub round_over : (end : StintEnd) (e : Ending) (left : ℕ) → ended_by end ≡ Some e → left - used_in end ≡ bound - k.used → k0.used ≤ k.used →
        FollowsNames end k0.taken (length (ready_slots k0.table)) k old names → GoesBy code.words end left k0 w.naming k y w.machine w.name w.others →
        BreaksRunBy code.words end left k0 w.naming k y w.machine w.name w.others → Comes code s bound first (Some e) k y now names
    round_over (stint_end.Over used z) e left is turns more follows g b =
        subst (λ i. Comes code s bound first (Some i) k y now names) (some_is is) (over used z left turns more follows g b)
    round_over (stint_end.Arrived used) e left is turns more follows g b = absurd (cc)
    round_over (stint_end.Forked used) e left is turns more follows g b = absurd (cc)
    round_over (stint_end.Exited used) e left is turns more follows g b = absurd (cc)

    module _ (was : IsKernel k0) (next : KernelState) (later : Drawn) (result : Option Ending) (used : next.used ≡ k.used) (entering : next.entering ≡ false)
        (lives : LivesBefore k.table next.table) (more : k0.used < k.used) (small : k.used < 2 ^ 32)
        (proceeds : (n : Naming) (m : Machine) (ready : List Name) → HoldsBy n k m None ready → ProceedsBy result n k next m now later ready) where
      abbrev before : ℕ
      before = length (ready_slots k0.table)

      same_names : (xs : List Name) (h : Holds k0 w.machine (Some w.name) xs) → h.naming ≡ w.naming → xs ≡ map w.naming.name (ready_slots k0.table)
      same_names xs h by = h.is_ready ∙ ap (λ (n : Naming). map n.name (ready_slots k0.table)) by

      as_many : length w.others ≡ before
      as_many = ap length (same_names w.others w.holds.holds w.holds.by) ∙ mapped w.naming.name (ready_slots k0.table)

      after_stint : (n left : ℕ) → left - n ≡ bound - k.used → (h : Switches code.words (left - n) k y w.machine w.name w.others) →
          (naming : Naming) (by : h.holds.naming ≡ naming) → AreNames names naming k.table k.used → Comes code s bound first result next y later names
      after_stint n left turns h naming by named =
          on next later (left - n) turns used entering lives h naming by named result
          (proceeds naming h.machine (w.others ++ h.joined) (record { holds = h.holds; by = by }))

      none_born : LivesBefore k0.table k.table → names ≡ old → AreNames names w.naming k.table k.used
      none_born lived same =
          subst (λ z. AreNames z w.naming k.table k.used) (sym same) (names_stay old w.naming k0.table k.table k0.used k.used lived (omega (arith, more)) w.named)

      module _ (fork number : ℕ) (grow : Naming) (joined : List Name) (m : Machine) (h : Holds k m None (w.others ++ joined)) (by : h.naming ≡ grow)
          (are : joined ≡ children w.name fork 0 number) (g : NamesGrow fork number k0.taken k0.table k.table w.naming grow)
          (follows : FollowsNames (stint_end.Forked 0) k0.taken before k old names) where
        slot_lives : is_live k0.table g.slot ≡ true
        slot_lives =
            let t : IsTaken k0.table g.slot = subst (λ o. IsTakenIn k0.table o) g.was was.taken in
            live_of_home k0.table g.slot t.inside (ap is_free_home t.homeless)

        own_name : w.name ≡ w.naming.name g.slot
        own_name =
            some_is (w.holds.holds.is_taken ∙ ap (λ (n : Naming). option_map n.name k0.taken) w.holds.by ∙ ap (option_map w.naming.name) g.was)

        children_join : (i slot : ℕ) → before ≤ i → slice_get (ready_slots k.table) i ≡ Some slot → grow.name slot ≡ child (w.naming.name g.slot) fork (i - before)
        children_join i slot le e =
            let there : slice_get (w.others ++ joined) i ≡ Some (grow.name slot) =
            ap (λ xs. slice_get xs i) (h.is_ready ∙ ap (λ (n : Naming). map n.name (ready_slots k.table)) by) ∙ map_at grow.name (ready_slots k.table) i slot e in
            let child_there : slice_get (children w.name fork 0 number) (i - before) ≡ Some (grow.name slot) =
            ap (λ n. slice_get (children w.name fork 0 number) (i - n)) (sym as_many) ∙ ap (λ xs. slice_get xs (i - length w.others)) (sym are)
            ∙ sym (past w.others joined i (omega (arith, as_many, le))) ∙ there in
            let none : 0 + (i - before) ≡ i - before = omega arith in
            children_at w.name fork number 0 (i - before) (grow.name slot) child_there ∙ ap (child w.name fork) none
            ∙ ap (λ p. child p fork (i - before)) own_name

        pub some_born : AreNames names grow k.table k.used
        some_born =
            let f = subst (λ o. FollowsNames (stint_end.Forked 0) o before k old names) g.was follows in
            names_grow old names w.naming grow k0.table k.table fork number k0.used k.used k0.taken g slot_lives more small w.named children_join
            (λ i j x p q. once_at (ready_slots k.table) (none_twice (ready_slots k.table) (kernel.table.sound.once 0)) i j x p q)
            f

      pub round_on : (end : StintEnd) (left : ℕ) → ended_by end ≡ None → left - used_in end ≡ bound - k.used → FollowsNames end k0.taken before k old names →
          GoesBy code.words end left k0 w.naming k y w.machine w.name w.others → Comes code s bound first result next y later names
      round_on (stint_end.Over n e) left is turns follows g = absurd (cc)
      round_on (stint_end.Arrived n) left is turns follows g =
          let h : Switches code.words (left - n) k y w.machine w.name w.others = g.0.0 in
          after_stint n left turns h w.naming g.1 (none_born g.2 follows)
      round_on (stint_end.Exited n) left is turns follows g =
          let h : Switches code.words (left - n) k y w.machine w.name w.others = g.0.0 in
          after_stint n left turns h w.naming g.1 (none_born g.2 follows)
      round_on (stint_end.Forked n) left is turns follows g =
          let h : Switches code.words (left - n) k y w.machine w.name w.others = g.0.0 in
          let f : ForksInto w.name h.joined = g.0.1 in
          after_stint n left turns h h.holds.naming refl
          (some_born f.fork f.number h.holds.naming h.joined h.machine h.holds refl f.are g.1 follows)

-- a stint that has not ended the run
pub not_over : (end : StintEnd) → ended_by end ≡ None → is_over end ≡ false
not_over (stint_end.Over used x) e = absurd (cc)
not_over (stint_end.Arrived used) e = refl
not_over (stint_end.Forked used) e = refl
not_over (stint_end.Exited used) e = refl

-- ---- where the state is told

module _ (code : CodeParts) (bound : ℕ) where
  -- what a round does of any such run
  abbrev pub AnyRound : Option Ending → (old new : KernelState) → (now later : Drawn) → (before after : Names) → State → State → Type 0
  AnyRound result old new now later before after x y =
      (s : State) (first : Drawn) → first.source ≡ now.source → Going code s bound first old x now before → Comes code s bound first result new y later after

  abbrev pub AnyStint : StintEnd → (left : ℕ) → (old k : KernelState) → State → State → Type 0
  AnyStint end left old k x y = (m : Machine) (p : Name) (others : List Name) (n : Naming) → IsAt code old x left m p others → HoldsBy n old m (Some p) others →
      GoesBy code.words end left old n k y m p others

  -- and where it ends the run by an instruction of its process
  abbrev pub AnyEnd : StintEnd → (left : ℕ) → (old k : KernelState) → State → State → Type 0
  AnyEnd end left old k x y = (m : Machine) (p : Name) (others : List Name) (n : Naming) → IsAt code old x left m p others → HoldsBy n old m (Some p) others →
      BreaksRunBy code.words end left old n k y m p others

  module _ (end : StintEnd) (k0 k : KernelState) (now : Drawn) (old names : Names) (left : ℕ) (before after : Option State) (all : left ≡ bound - k0.used)
      (was : IsKernel k0) (kernel : IsKernel k) (within : k.used ≤ bound) (turns : left - used_in end ≡ bound - k.used)
      (follows : FollowsNames end k0.taken (length (ready_slots k0.table)) k old names) where
    goes : (x y : State) (s : State) (first : Drawn) → AnyStint end left k0 k x y → (w : Going code s bound first k0 x now old) →
        GoesBy code.words end left k0 w.naming k y w.machine w.name w.others
    goes x y s first g w =
        g w.machine w.name w.others w.naming (subst (λ n. IsAt code k0 x n w.machine w.name w.others) (sym all) w.at) w.holds

    breaks_run : (x y : State) (s : State) (first : Drawn) → AnyEnd end left k0 k x y → (w : Going code s bound first k0 x now old) →
        BreaksRunBy code.words end left k0 w.naming k y w.machine w.name w.others
    breaks_run x y s first b w =
        b w.machine w.name w.others w.naming (subst (λ n. IsAt code k0 x n w.machine w.name w.others) (sym all) w.at) w.holds

    pub told_over : (e : Ending) → ended_by end ≡ Some e → k0.used ≤ k.used → WhereTold before after (AnyStint end left k0 k) →
        WhereTold before after (AnyEnd end left k0 k) → WhereTold before after (AnyRound (Some e) k0 k now now old names)
    told_over e is more h b =
        WhereTold-map (λ x y. AnyStint end left k0 k x y × AnyEnd end left k0 k x y) (AnyRound (Some e) k0 k now now old names) before after
        (λ x y g s first source w.
        round_over code s bound first k0 k x y now old names w source kernel within end e left is turns more follows (goes x y s first g.0 w) (breaks_run x y s first g.1 w))
        (told_both (AnyStint end left k0 k) (AnyEnd end left k0 k) before after h b)

    pub told_on : (next : KernelState) (later : Drawn) (result : Option Ending) → ended_by end ≡ None → next.used ≡ k.used →
        next.entering ≡ false → LivesBefore k.table next.table → k0.used < k.used → k.used < 2 ^ 32 →
        ((n : Naming) (m : Machine) (ready : List Name) → HoldsBy n k m None ready → ProceedsBy result n k next m now later ready) →
        WhereTold before after (AnyStint end left k0 k) → WhereTold before after (AnyRound result k0 next now later old names)
    told_on next later result is used entering lives more small proceeds h =
        WhereTold-map (AnyStint end left k0 k) (AnyRound result k0 next now later old names) before after
        (λ x y g s first source w.
        round_on code s bound first k0 k x y now old names w source kernel within was next later result used entering lives more small proceeds end left is turns follows
        (goes x y s first g w)) h
