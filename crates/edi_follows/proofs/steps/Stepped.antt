-- ONE STEP of one process: the machine does what it means; an attempt at a `when`, calls, and lists that are chosen.
use Rattle.std.proofs.Common.{◌≡◌, ℕ, ◌+◌, inl, inr, true, false, ◌||◌, List, [], ◌∷◌, length, refl, sym, subst, ap, arith, ◌++◌, Option, ◌∙◌, zero, suc, ◌-◌}
use Rattle.std.proofs.Common.{◌<◌, Bool, if◌then◌else◌}
use Rattle.std.specs.Prelude.{unwrap_or}
use Rattle.edi_calls.specs.Names.{Name}
use Rattle.edi_unit.specs.declared.expressions.Callee.{Callee}
use Rattle.edi_unit.specs.Tree as tree
use Rattle.edi_unit.specs.Tree.{Arguments, Acts, Clauses, no_clause, clause_then}
use Rattle.edi_unit.specs.Fits.{callee_heading, ClausesFit}
use Rattle.edi_unit.specs.Headings.{Formals, heading_formals}
use Rattle.edi_unit.specs.Need.{clauses_height}
use Rattle.edi_meaning.specs.Store.{Cell, Shape, shape}
use Rattle.edi_meaning.specs.Evaluation.{World, Evaluation, gives, ends, ◌>>=◌, turn_from}
use Rattle.edi_meaning.specs.Whole.{meant, levels_of, whole_arguments, first}
use Rattle.edi_meaning.specs.Step as source
use Rattle.edi_meaning.specs.Step.{Process, Processes, Position, Work, doing, loop_end, procedure_end, branch_end, program_entry, program_end, Standing}
use Rattle.edi_meaning.specs.Step.{called, work_step, local_step, inside, with_chosen, goes, chosen, again, at_when, is_quiet, attempt}
use Rattle.edi_meaning.specs.Permitted.{is_running}
use Rattle.edi_meaning.proofs.Pure.{none_true}
use Rattle.edi_target.specs.Mach.{Machine, is_first, held_at, effect_at, settled}
use Rattle.edi_target.specs.Effect as turn
use Rattle.edi_target.specs.Mach as target
use Rattle.edi_target.specs.Moments.{news_of_effect}
use Rattle.edi_scheme.specs.Code.{call_code}
use Rattle.edi_scheme.specs.Stands as code
use Rattle.edi_scheme.specs.Pieces.{ClauseKind, once, repeated, close_code, released, again_code}
use Rattle.edi_scheme.specs.Sites.{Site, statements, into, nth_list, site}
use Rattle.edi_follows.specs.places.Coded.{Coded, entry}
use Rattle.edi_follows.specs.places.Located.{Matches, IsAt, frame_of, Hops, Room}
use Rattle.edi_follows.specs.places.Walks.{Walker, Gets, plain, Moves, Adds}
use Rattle.edi_follows.specs.places.Scene.{Scene, Outer, alone, here, Does, After, Given}
use Rattle.edi_follows.specs.places.Claims.{Passed, Tried, FirstClaim}
use Rattle.edi_follows.specs.places.Constructs.{Constructs}
use Rattle.edi_follows.specs.places.Instructions.{Instructed}
use Rattle.edi_follows.specs.places.Follows.{Follows, resting}
use Rattle.edi_follows.specs.places.Steps.{CalledClaim, ReturnedClaim}
use Rattle.edi_follows.specs.places.Related.{no_process, standing_of, Related}
use Rattle.edi_follows.specs.places.Lands.{Stepping, taken_as, pc_of, LocalClaim}
use Rattle.edi_follows.specs.places.Spots.{bottom}
use Rattle.edi_follows.proofs.places.Doing.{gets_then, stops_then, stands_after, moves_by, gets_one}
use Rattle.edi_follows.proofs.places.Located.{Listed, listed_from, led_on, matches_kept, matches_acts, matches_jump, at_kept}
use Rattle.edi_follows.proofs.places.Rises.{clauses_rise, one_up, clauses_up}
use Rattle.edi_follows.proofs.places.Knot.{arguments_do, assign_does, first_does, run_does}
use Rattle.edi_follows.proofs.steps.Local.{sc, F, d, base, stands, able, agrees, hops_get, assign_step, now_shape, stretched, rest_matches, skip_step, halt_step}
use Rattle.edi_follows.proofs.steps.Local.{await_step, cobegin_step, loop_step, branch_step, program_step}
use Rattle.edi_follows.proofs.steps.Chosen.{Went, choice_does}

module _ (g : Coded) (s : Processes) (t : Machine) (p : Name) (q : Process) (x : Stepping g s p q) (r : Related g s t)
    (all : Constructs g (sc g s t p q x r)) (i : Instructed g (sc g s t p q x r))
    (call : CalledClaim g (sc g s t p q x r)) (return : ReturnedClaim g (sc g s t p q x r)) where
  abbrev S : Scene
  S = sc g s t p q x r

  abbrev G : Shape
  G = F g s t p q x r

  abbrev low : ℕ
  low = base g s t p q x r

  abbrev depth : ℕ
  depth = d g s t p q x r

  abbrev m : List ℕ
  m = t.memory

  abbrev at_pc : ℕ → Walker
  at_pc pc = alone S G m pc low 0 s.world

  abbrev work_here : List Work → ℕ → Type 0
  work_here ws pc = Matches g (is_first p) (r.first p) (G p) m ws pc depth

  abbrev turns : ℕ
  turns = s.world.turns

  abbrev deeper : Acts → World → Evaluation (Unit {0})
  deeper = levels_of g.unit p (S.size p) turns

  -- ---- an attempt at a `when`, from the claim for its clauses

  module _ (cs : Clauses) (position : Position) (ws : List Work) (pc : ℕ)
      (h : IsAt g (is_first p) (r.first p) (shape s.world.store p) t.memory (at_when cs position) ws pc (length (shape s.world.store p) - 1)) where
    abbrev start : Walker
    start = alone S G t.memory pc low 1 s.world

    abbrev getting : Walker → Walker → Bool → Type 0
    getting a b c = Gets g.fetched (length t.activities) (is_first p) (Outer S) a b c

    -- without operands the process rests
    rests : (words : List ℕ) (c : Bool) (w : World) (a : After g S G s.world w t.memory words low c) (to top : ℕ) → top ≡ low →
        alone S G words to top 0 w ≡ resting g S w words to
    rests words c w a to top e =
        (λ i. alone S G words to (e i) 0 w)
        ∙ (λ i. alone S (now_shape g s t p q x r w words c a i) words to (bottom g S.first (now_shape g s t p q x r w words c a i) p) 0 w)

    after_turn : (w : World) (n : ℕ) (words : List ℕ) (c : Bool) → w.turns ≡ suc n → After g S G s.world w t.memory words low c →
        After g S G s.world (record w { turns = n }) t.memory words low c
    after_turn w n words c e a = record {
      shaped = a.shaped;
      mirrors = a.mirrors;
      typed = a.typed;
      long = a.long;
      untouched = a.untouched;
      turns = omega (arith, e, a.turns);
      clears = λ z. omega (arith, e, a.clears z);
    }

    -- the list was executed: DONE, and then the jump behind the `when`
    succeeded : (w : World) → Given g S G pc low low 1 s.world t.memory (Tried g S G released h.1 h.0 low) true w →
        Follows g S s.world.store t.memory start (gives (goes ws) w)
    succeeded w y =
        let so = y.post.so in
        let done : Moves g.fetched (length t.activities) (is_first p) (Outer S) (alone S G y.memory y.to y.up 1 w) (alone S G y.memory so.2.0 y.up 0 w) true =
        moves_by g.fetched (length t.activities) (is_first p) (Outer S) (alone S G y.memory y.to y.up 1 w) (alone S G y.memory so.2.0 y.up 0 w)
        (turn.released (alone S G y.memory so.2.0 y.up 0 w).local) true
        (ap (λ o. effect_at g.fetched o (length t.activities) (is_first p) (alone S G y.memory y.to y.up 1 w).local) so.2.1) refl refl (λ a o. refl) in
        let there : getting start (alone S G y.memory so.2.0 y.up 0 w) (y.cleared || true) =
        gets_then g.fetched (length t.activities) (is_first p) (Outer S) start (alone S G y.memory y.to y.up 1 w)
        (alone S G y.memory so.2.0 y.up 0 w) y.cleared true y.walked
        (gets_one g.fetched (length t.activities) (is_first p) (Outer S) (alone S G y.memory y.to y.up 1 w) (alone S G y.memory so.2.0 y.up 0 w) true done) in
        let ahead : so.2.0 < h.1 = omega (arith, g.rises so.2.0 _ so.2.2, clauses_rise g (here g S G) released h.1 so.0 so.1 h.0 so.3, up) in
        record {
          memory = y.memory;
          pc = so.2.0;
          cleared = y.cleared || true;
          gets_there = subst (λ z. getting start z (y.cleared || true)) (rests y.memory y.cleared w y.after so.2.0 y.up y.post.top_is) there;
          stretch = stretched g s t p q x r w y.memory y.cleared y.after;
          at = matches_jump g (is_first p) (r.first p) (shape w.store p) y.memory ws so.2.0 h.1 so.1 (length (shape w.store p) - 1) so.2.2 ahead
              (rest_matches g s t p q x r w y.memory y.cleared y.after ws h.1 h.7);
        }
      where
        up : h.0 < h.1
        up = behind (is_quiet cs) h.3
          where
            behind : (v : Bool) → code.AreInstructions g.fetched (again_code v pc) h.0 h.1 → h.0 < h.1
            behind true e = g.rises h.0 _ e
            behind false e = g.rises h.0 _ e

    -- no condition was true: the process stands at its `when` again, after a turn
    failed : (w : World) → first g.unit p (S.size p) deeper cs s.world ≡ gives false w → Given g S G pc low low 1 s.world t.memory
        (Tried g S G released h.1 h.0 low) false w → (n : ℕ) → w.turns ≡ n →
        Follows g S s.world.store t.memory start (turn_from n w (gives (again cs position (is_quiet cs) ws)))
    failed w is y n e = go n e (is_quiet cs) refl h.3
      where
        effect_is : (v : Bool) → code.AreInstructions g.fetched (again_code v pc) h.0 h.1 → effect_at g.fetched (g.fetched y.to) (length t.activities)
            (is_first p) (alone S G y.memory y.to y.up 1 w).local ≡ turn.due (turn.again v) (alone S G y.memory pc y.up 0 w).local
        effect_is true i = ap (λ o. effect_at g.fetched o (length t.activities) (is_first p) (alone S G y.memory y.to y.up 1 w).local)
            (ap g.fetched y.post.so ∙ i)
        effect_is false i = ap (λ o. effect_at g.fetched o (length t.activities) (is_first p) (alone S G y.memory y.to y.up 1 w).local)
            (ap g.fetched y.post.so ∙ i)

        step_is : (v : Bool) → code.AreInstructions g.fetched (again_code v pc) h.0 h.1 → target.local_step g.fetched (length t.activities) (is_first p)
            (plain (alone S G y.memory y.to y.up 1 w)) ≡ target.turn_from w.turns (turn.again v) (alone S G y.memory pc y.up 0 w).local
            (plain (alone S G y.memory y.to y.up 1 w))
        step_is v i = ap (λ e. settled e (plain (alone S G y.memory y.to y.up 1 w))) (effect_is v i)

        adds : (v : Bool) → code.AreInstructions g.fetched (again_code v pc) h.0 h.1 → Adds g.fetched (length t.activities) (is_first p) (Outer S)
            (alone S G y.memory y.to y.up 1 w) (alone S G y.memory y.to y.up 1 w)
        adds v i = ap (λ e. news_of_effect e w.system.now ++ w.system.past) (sym (effect_is v i))

        still : is_quiet cs ≡ true → y.cleared ≡ false
        still quiet = go y.cleared refl
          where
            turns_same : w.turns ≡ s.world.turns
            turns_same = ap (λ (z : World). z.turns) (none_true g.unit p (S.size p) s.world.store cs quiet deeper s.world w refl is).0

            go : (c : Bool) → y.cleared ≡ c → c ≡ false
            go false f = refl
            go true f = absurd (omega (arith, y.after.clears f, turns_same))

        go : (n : ℕ) → w.turns ≡ n → (v : Bool) → is_quiet cs ≡ v → code.AreInstructions g.fetched (again_code v pc) h.0 h.1 →
            Follows g S s.world.store t.memory start (turn_from n w (gives (again cs position v ws)))
        go zero e v f i = inl (record {
          at = alone S G y.memory y.to y.up 1 w;
          cleared = y.cleared;
          gets = y.walked;
          end = alone S G y.memory y.to y.up 1 w;
          is = step_is v i ∙ ap (λ k. target.turn_from k (turn.again v) (alone S G y.memory pc y.up 0 w).local (plain (alone S G y.memory y.to y.up 1 w))) e;
          adds = adds v i;
          system_is = refl;
          turns_are = refl;
          keeps = λ a o. refl;
        })
        go (suc k) e v f i =
            let w' : World = record w { turns = k } in
            let a : After g S G s.world w' t.memory y.memory low y.cleared = after_turn w k y.memory y.cleared e y.after in
            record {
              memory = y.memory;
              pc = pc;
              cleared = y.cleared;
              comes_there = record {
                at = alone S G y.memory y.to y.up 1 w;
                gets = y.walked;
                is = step_is v i ∙ ap (λ z. target.turn_from z (turn.again v) (alone S G y.memory pc y.up 0 w).local
                    (plain (alone S G y.memory y.to y.up 1 w))) e ∙ ap (λ (z : Walker). target.turned (turn.again v) (plain z))
                    (rests y.memory y.cleared w' a pc y.up y.post.top_is);
                adds = adds v i;
                keeps = λ a o. refl;
              };
              still = λ z. still (f ∙ z);
              shaped = now_shape g s t p q x r w' y.memory y.cleared a;
              stretch = stretched g s t p q x r w' y.memory y.cleared a;
              at = subst (λ H. IsAt g (is_first p) (r.first p) (H p) y.memory (at_when cs position) ws pc (length (H p) - 1))
                  (now_shape g s t p q x r w' y.memory y.cleared a)
                  (at_kept g (is_first p) (r.first p) (G p) (G p) t.memory y.memory (at_when cs position) ws pc (length (G p) - 1)
                  (agrees g s t p q x r w' y.memory y.cleared a) h);
            }

    attempt_step : FirstClaim g S deeper s.world.turns → Follows g S s.world.store t.memory start (attempt g.unit p (S.size p) cs position ws s.world)
    attempt_step claim = go (first g.unit p (S.size p) deeper cs s.world) refl
        (claim cs released h.1 G pc h.0 low 1 s.world t.memory (omega arith) (omega arith) h.2 h.4 (able g s t p q x r _ 1 h.5 (omega arith)))
      where
        go : (run : Evaluation Bool) → first g.unit p (S.size p) deeper cs s.world ≡ run → Does g S G pc low low 1 s.world t.memory
            (Tried g S G released h.1 h.0 low) run →
            Follows g S s.world.store t.memory start
            (run >>= λ ran w. if ran then gives (goes ws) w else turn_from w.turns w (gives (again cs position (is_quiet cs) ws)))
        go (gives true w) e y = succeeded w y.is
        go (gives false w) e y = failed w e y.is w.turns refl
        go (ends e system turns) f y = inl y.is

  -- ---- calls

  call_step : (c : Callee) (xs : Arguments) (line : ℕ) (position : Position) (ws : List Work) (pc : ℕ) →
      work_here (doing (tree.call c xs line) position ∷ ws) pc →
      Follows g S s.world.store m (at_pc pc) (work_step g.unit p (S.size p) (doing (tree.call c xs line) position ∷ ws) s.world)
  call_step c xs line position ws pc h =
      go (whole_arguments g.unit p (S.size p) xs s.world)
      (arguments_do g S all deeper turns (run_does g S all turns) xs formals G h.1 h.3.1.0 low 0 s.world m (omega arith) h.3.1.1 h.3.2.2
      (able g s t p q x r _ 0 h.3.3 (omega arith)))
    where
      formals : Formals
      formals = heading_formals (callee_heading g.fits.headings g.unit.blocks (here g S G) c)

      go : (run : Evaluation (List Cell)) → Does g S G h.1 low low 0 s.world m
          (Passed g S G (heading_formals (callee_heading g.fits.headings g.unit.blocks (here g S G) c)) h.3.1.0 low) run →
          Follows g S s.world.store m (at_pc pc) (run >>= λ cells w. called g.unit p (S.size p) (meant g.unit p (S.size p) c w) cells line ws w)
      go (ends e system left) y =
          inl (stops_then g.fetched (length t.activities) (is_first p) (Outer S) (at_pc pc) (at_pc h.1) false e system left
          (hops_get g s t p q x r h.0 pc h.1 low 0 s.world m h.2) y.is)
      go (gives cells v) y =
          call c line cells ws G y.is.to h.3.0 v y.is.memory s.world.store m (at_pc pc) (false || y.is.cleared)
          (subst (λ a. code.AreInstructions g.fetched (call_code g.unit.types g.unit.blocks (entry g) (here g S G) c line) a h.3.0)
          (sym y.is.post.pc_is) h.3.1.2)
          h.3.2.0 h.3.2.1 (stands_after g S G s.world v m y.is.memory low y.is.cleared (stands g s t p q x r) y.is.after)
          (record { pc_is = refl; top_is = refl; words = y.is.post.words; cells_fit = y.is.post.cells_fit })
          (matches_kept g (is_first p) (r.first p) (G p) (G p) m y.is.memory ws h.3.0 depth (agrees g s t p q x r v y.is.memory y.is.cleared y.is.after) h.3.5)
          (subst (λ top. Gets g.fetched (length t.activities) (is_first p) (Outer S) (at_pc pc) (alone S G y.is.memory y.is.to top 0 v)
          (false || y.is.cleared)) y.is.post.top_is
          (gets_then g.fetched (length t.activities) (is_first p) (Outer S) (at_pc pc) (at_pc h.1)
          (alone S G y.is.memory y.is.to y.is.up 0 v) false y.is.cleared (hops_get g s t p q x r h.0 pc h.1 low 0 s.world m h.2) y.is.walked))
          (stands g s t p q x r).shaped
          (λ a where_is o. y.is.after.untouched a (elim where_is [ inl l ↦ inl (omega (arith, l)) | inr l ↦ inr l ]) o)

  -- ---- `if` and `while`: a list is chosen, and comes before the work that was left

  -- what is chosen comes first
  module _ (position : Position) (after ws : List Work) (kind : ClauseKind) (target to : ℕ) (cs : Clauses)
      (room : Room g (frame_of (G p) depth) (clauses_height g.unit.types g.unit.blocks (here g S G) cs)) where
    -- where clause k of the statement stands
    abbrev place : ℕ → Site
    place k = into g.unit.types g.unit.blocks (here g S G) (site g.unit position) k

    numbered : (k j : ℕ) → j ≡ 0 + k → j ≡ k
    numbered k j is = omega (arith, is)

    listed : position.of ≡ here g S G → (list : Acts) (k pc : ℕ) → place k ≡ statements list pc → Listed g (here g S G) (inside position k) list pc 0
    listed of list k pc there = listed_from g (here g S G) (inside position k) list pc of
        (led_on g position k ∙ ap (λ c. into g.unit.types g.unit.blocks c (site g.unit position) k) of ∙ there)

    abbrev Chosen : Option (Acts × ℕ) → ℕ → Type 0
    Chosen c pc = work_here (with_chosen position c after ws) pc

    goes_so : (run : Evaluation (Option (Acts × ℕ))) (n pc at : ℕ) → Hops g n pc at → Does g S G at low low 0 s.world m (Went g S G Chosen) run →
        Follows g S s.world.store m (at_pc pc) (run >>= λ c w. gives (goes (with_chosen position c after ws)) w)
    goes_so (gives c w) n pc at hops h =
        let a : After g S G s.world w m h.is.memory low h.is.cleared = h.is.after in
        let same : alone S G h.is.memory h.is.to h.is.up 0 w ≡ resting g S w h.is.memory h.is.to =
        (λ j. alone S G h.is.memory h.is.to (h.is.post.top_is j) 0 w)
        ∙ (λ j. alone S (now_shape g s t p q x r w h.is.memory h.is.cleared a j) h.is.memory h.is.to
        (bottom g S.first (now_shape g s t p q x r w h.is.memory h.is.cleared a j) p) 0 w) in
        record {
          memory = h.is.memory;
          pc = h.is.to;
          cleared = false || h.is.cleared;
          gets_there = subst (λ y. Gets g.fetched (length t.activities) (is_first p) (Outer S) (at_pc pc) y (false || h.is.cleared)) same
              (gets_then g.fetched (length t.activities) (is_first p) (Outer S) (at_pc pc) (at_pc at)
              (alone S G h.is.memory h.is.to h.is.up 0 w) false h.is.cleared (hops_get g s t p q x r n pc at low 0 s.world m hops) h.is.walked);
          stretch = stretched g s t p q x r w h.is.memory h.is.cleared a;
          at = rest_matches g s t p q x r w h.is.memory h.is.cleared a (with_chosen position c after ws) h.is.to h.is.post.so;
        }
    goes_so (ends e system turns) n pc at hops h =
        inl (stops_then g.fetched (length t.activities) (is_first p) (Outer S) (at_pc pc) (at_pc at) false e system turns
        (hops_get g s t p q x r n pc at low 0 s.world m hops) h.is)

    chosen_step : (n pc at : ℕ) → Hops g n pc at → code.AreClauses g.fetched g.unit.types g.unit.blocks (entry g) (here g S G) kind target cs at to →
        ClausesFit g.unit.types g.unit.blocks g.fits.headings (here g S G) cs → work_here ws to → position.of ≡ here g S G →
        ((k : ℕ) → place k ≡ nth_list g.unit.types g.unit.blocks (here g S G) kind cs at k) →
        ((rest : Clauses) (end next : ℕ) → code.AreInstructions g.fetched (close_code kind target rest) end next →
        code.AreClauses g.fetched g.unit.types g.unit.blocks (entry g) (here g S G) kind target rest next to → work_here (after ++ ws) end) →
        Follows g S s.world.store m (at_pc pc) (chosen g.unit p (S.size p) cs 0 s.world >>= λ c w. gives (goes (with_chosen position c after ws)) w)
    chosen_step n pc at hops st fits rest of placed behind =
        goes_so (chosen g.unit p (S.size p) cs 0 s.world) n pc at hops
        (choice_does g S all i G kind target to (clauses_height g.unit.types g.unit.blocks (here g S G) cs) Chosen rest place
        (λ list k pc end next others there acts close clauses fit le.
        matches_acts g (is_first p) (r.first p) (G p) m list (inside position k) 0 (after ++ ws) pc end depth (listed of list k pc there) acts fit (omega (arith, room, le))
        (behind others end next close clauses))
        cs 0 at s.world m (λ k j is. ap place (numbered k j is) ∙ placed k) st fits (omega arith) (able g s t p q x r _ 0 room (omega arith)))

  if_step : (cs : Clauses) (position : Position) (ws : List Work) (pc : ℕ) → work_here (doing (tree.if_act cs) position ∷ ws) pc →
      Follows g S s.world.store m (at_pc pc) (work_step g.unit p (S.size p) (doing (tree.if_act cs) position ∷ ws) s.world)
  if_step cs position ws pc h = chosen_step position [] ws once h.3.0 h.3.0 cs h.3.3 h.0 pc h.1 h.2 h.3.1 h.3.2 h.3.5
      h.3.4.of (λ k. ap (λ x. into g.unit.types g.unit.blocks (here g S G) x k) h.3.4.there) behind
    where
      behind : (rest : Clauses) (end next : ℕ) → code.AreInstructions g.fetched (close_code once h.3.0 rest) end next →
          code.AreClauses g.fetched g.unit.types g.unit.blocks (entry g) (here g S G) once h.3.0 rest next h.3.0 → work_here ws end
      behind no_clause end next close clauses = subst (work_here ws) (sym (close ∙ clauses)) h.3.5
      behind (clause_then c cs) end next close clauses =
          matches_jump g (is_first p) (r.first p) (G p) m ws end h.3.0 next depth close
          (omega (arith, one_up g end _ next close, clauses_up g (here g S G) once h.3.0 (clause_then c cs) next h.3.0 clauses)) h.3.5

  while_step : (cs : Clauses) (position : Position) (ws : List Work) (pc : ℕ) → work_here (doing (tree.while_act cs) position ∷ ws) pc →
      Follows g S s.world.store m (at_pc pc) (work_step g.unit p (S.size p) (doing (tree.while_act cs) position ∷ ws) s.world)
  while_step cs position ws pc h =
      chosen_step position (loop_end cs position ∷ []) ws repeated h.1 h.3.0 cs h.3.3 h.0 pc h.1 h.2 h.3.1 h.3.2 h.3.5
      h.3.4.of (λ k. ap (λ x. into g.unit.types g.unit.blocks (here g S G) x k) h.3.4.there)
      (λ rest end next close clauses. (0, end, refl, (h.1, next, h.3.0, close, h.3.1, h.3.2, h.3.3, h.3.4, h.3.5)))

  -- ---- any piece of work

  -- the first piece of work
  step_of_work : (ws : List Work) (pc : ℕ) → work_here ws pc → Follows g S s.world.store m (at_pc pc) (work_step g.unit p (S.size p) ws s.world)
  step_of_work [] pc h = absurd h
  step_of_work (doing tree.skip position ∷ ws) pc h = skip_step g s t p q x r position ws pc h
  step_of_work (doing (tree.assign v e) position ∷ ws) pc h = assign_step g s t p q x r
      (assign_does g S all deeper turns (run_does g S all turns)) v e position ws pc h
  step_of_work (doing (tree.call c xs line) position ∷ ws) pc h = call_step c xs line position ws pc h
  step_of_work (doing (tree.halt line) position ∷ ws) pc h = halt_step g s t p q x r line position ws pc h
  step_of_work (doing (tree.if_act cs) position ∷ ws) pc h = if_step cs position ws pc h
  step_of_work (doing (tree.while_act cs) position ∷ ws) pc h = while_step cs position ws pc h
  step_of_work (doing (tree.when_act cs line) position ∷ ws) pc h = await_step g s t p q x r cs line position ws pc h
  step_of_work (doing (tree.cobegin bs line) position ∷ ws) pc h = cobegin_step g s t p q x r bs line position ws pc h
  step_of_work (loop_end cs position ∷ ws) pc h = loop_step g s t p q x r cs position ws pc h
  step_of_work (procedure_end line ∷ ws) pc h = return line ws G pc s.world m (stands g s t p q x r) h
  step_of_work (branch_end ∷ ws) pc h = branch_step g s t p q x r ws pc h
  step_of_work (program_entry ∷ ws) pc h = absurd h.3
  step_of_work (program_end ∷ ws) pc h = program_step g s t p q x r ws pc h

  -- a process at its work, or at its `when` in the critical phase
  step_so : (standing : Standing) (ws : List Work) (pc : ℕ) → is_running standing ≡ true → IsAt g (is_first p) (r.first p) (G p) m standing ws pc depth →
      Follows g S s.world.store m (alone S G m pc low (held_at (standing_of standing) 0) s.world) (local_step g.unit p (S.size p) standing ws s.world)
  step_so source.ready ws pc run h = step_of_work ws pc h
  step_so (source.at_when cs position) ws pc run h = attempt_step cs position ws pc h
      (first_does g S all deeper turns (run_does g S all turns))
  step_so (source.waiting n) ws pc run h = absurd (cc)

  sized : S.size p ≡ q.size
  sized = ap (λ o. (unwrap_or o no_process).size) x.found

  -- as the machine has it
  taken : alone S G m (pc_of g s t p q x r) low (held_at (standing_of q.standing) 0) s.world ≡ taken_as g s t p q x r
  taken = λ j. record (taken_as g s t p q x r) {
    local = record (taken_as g s t p q x r).local { last = r.first p + sized j };
    system = record { now = sym r.system j; past = s.world.system.past };
    turns = sym r.turns j;
  }

  pub one_step : Follows g S s.world.store m (taken_as g s t p q x r) (local_step g.unit p q.size q.standing q.work s.world)
  one_step =
      subst (λ y. Follows g S s.world.store m y (local_step g.unit p q.size q.standing q.work s.world)) taken
      (subst (λ n. Follows g S s.world.store m (alone S G m (pc_of g s t p q x r) low (held_at (standing_of q.standing) 0) s.world)
      (local_step g.unit p n q.standing q.work s.world)) sized
      (step_so q.standing q.work (pc_of g s t p q x r) x.runs (r.words.each p q x.found).at))

-- THE LOCAL CLAIM, from the lemmas for constructs, calls and instructions
pub local_claim : (g : Coded) → ((s : Scene) → Constructs g s) → ((s : Scene) → Instructed g s) → ((s : Scene) → CalledClaim g s) →
    ((s : Scene) → ReturnedClaim g s) → LocalClaim g
local_claim g all instructed call return s t p q x r kept =
    one_step g s t p q x r (all (sc g s t p q x r)) (instructed (sc g s t p q x r)) (call (sc g s t p q x r)) (return (sc g s t p q x r))
