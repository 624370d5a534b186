-- A step of one process, from the claims for its constructs, and those steps that are one instruction, or none.
use Rattle.std.proofs.Common.{◌≡◌, ℕ, zero, suc, ◌+◌, ◌-◌, ◌<◌, ◌≤◌, ◌⊎◌, inl, inr, Bool, false, List, ◌∷◌, length, refl, sym, subst, ap, ◌∙◌, arith, true}
use Rattle.std.specs.Prelude.{◌||◌, not, nat_eq, ◌&&◌, if◌then◌else◌}
use Rattle.std.proofs.lemmas.Bool.{lt-ltb, eq-eqb}
use Rattle.edi_calls.specs.Names.{Name}
use Rattle.edi_calls.specs.declared.kinds.Cause.TheVariants as cause
use Rattle.edi_calls.specs.Outcome as outcome
use Rattle.edi_unit.specs.Tree.{assign, Expression, Place, Clauses}
use Rattle.edi_unit.specs.Tree as tree
use Rattle.edi_meaning.specs.Store.{Shape, shape, now, used}
use Rattle.edi_meaning.specs.Evaluation.{World, Evaluation, gives, ends, ◌>>=◌, turn_from}
use Rattle.edi_meaning.specs.Whole.{levels_of}
use Rattle.edi_meaning.specs.Step.{Process, Processes, Position, Work, doing, goes, work_step, loop_end, branch_end, program_end, arrives, leaves}
use Rattle.edi_meaning.proofs.Frames.{own_shape}
use Rattle.edi_target.specs.Op as op
use Rattle.edi_target.specs.Effect.{needs, to, Effect, Local, due}
use Rattle.edi_target.specs.Mach.{Machine, is_first, effect_at}
use Rattle.edi_target.specs.Effect as turn
use Rattle.edi_target.specs.Memory.{word}
use Rattle.edi_target.specs.Perform.{leave}
use Rattle.edi_target.specs.Mach as target
use Rattle.edi_scheme.specs.Stands as code
use Rattle.edi_follows.specs.places.Coded.{Coded}
use Rattle.edi_follows.specs.places.Spots.{bottom, Fine, Mirrors, Typed, frame_start, address, frames_end}
use Rattle.edi_follows.specs.places.Located.{frame_of, Hops, Room, Matches, Agrees}
use Rattle.edi_follows.specs.places.Walks.{Moves, Gets, Walker, plain, onward, Comes}
use Rattle.edi_follows.specs.places.Scene.{Scene, Outer, alone, base_of, Stands, Able, After, Does, stops}
use Rattle.edi_follows.specs.places.Claims.{Ran, AssignClaim}
use Rattle.edi_follows.specs.places.Follows.{Stretch, Follows, resting, matches}
use Rattle.edi_follows.specs.places.Related.{Related}
use Rattle.edi_follows.specs.places.Lands.{Stepping, scene}
use Rattle.edi_follows.proofs.places.Places.{start_later, control_other, roomy}
use Rattle.edi_follows.proofs.places.Long.{one_long}
use Rattle.edi_follows.proofs.places.Located.{matches_kept}
use Rattle.edi_follows.proofs.places.Doing.{moves_goes, gets_none, gets_one, gets_then, stops_then, give, stops_by, stops_fails, moves_by, comes_by}
use Rattle.edi_follows.proofs.places.Free.{now_ends}

module _ (g : Coded) (s : Processes) (t : Machine) (p : Name) (q : Process) (x : Stepping g s p q) (r : Related g s t) where
  abbrev pub sc : Scene
  sc = scene g s t p q x r

  abbrev pub F : Shape
  F = shape s.world.store

  abbrev pub d : ℕ
  d = length (F p) - 1

  abbrev pub base : ℕ
  base = base_of g sc F

  pub stands : Stands g sc F s.world t.memory
  stands = record {
    shaped = own_shape s.world.store;
    layout = r.words.layout;
    mirrors = r.words.mirrors;
    typed = r.words.typed;
    long = r.words.long;
    others = λ y n. refl;
  }

  -- between steps there is room for what the frame has room for
  pub able : (h held : ℕ) → Room g (frame_of (F p) d) h → held ≤ 1 → Able g sc F s.world t.memory base h held
  able h held room few = record {
    stands = stands;
    low = omega arith;
    high = omega (arith, room, now_ends g sc F s.world t.memory stands);
    few = omega (arith, few, r.words.layout.some p sc.lives);
  }

  -- the links of p's frames stay, so its work stands where it stood
  pub agrees : (w : World) (m' : List ℕ) (c : Bool) → After g sc F s.world w t.memory m' base c → Agrees g (r.first p) (F p) (F p) t.memory m' d
  agrees w m' c a = record {
    starts = λ e h. refl;
    framed = λ e h. refl;
    words = λ e j h k. a.untouched (r.first p + frame_start (F p) e + j) (inl (below e j h k))
        (control_other g sc.live sc.waits sc.first sc.size F r.words.layout (now F p) (p, e) j (lives e h) k);
  }
    where
      lives : (e : ℕ) → e ≤ d → e < length (F p)
      lives e h = omega (arith, h, r.words.layout.some p sc.lives)

      upto : (e : ℕ) → (e < d) ⊎ (e ≡ d) → frame_start (F p) e ≤ frame_start (F p) d
      upto e (inl h) = omega (arith, start_later (F p) e d h (omega (arith, r.words.layout.some p sc.lives)))
      upto e (inr h) = let same : frame_start (F p) e ≡ frame_start (F p) d = ap (frame_start (F p)) h in omega (arith, same)

      split : (e : ℕ) → e ≤ d → (e < d) ⊎ (e ≡ d)
      split e h = grind (arith, h)

      below : (e j : ℕ) → e ≤ d → j < 5 → r.first p + frame_start (F p) e + j < base
      below e j h k = omega (arith, k, upto e (split e h))

  -- what the kernel needs, from what one process did
  module _ (w : World) (m' : List ℕ) (c : Bool) (a : After g sc F s.world w t.memory m' base c) where
    pub now_shape : F ≡ shape w.store
    now_shape = λ i y. sym (a.shaped.each y) i

    pub stretched : Stretch g sc s.world.store w t.memory m'
    stretched = record {
      others = λ y n. a.shaped.each y;
      some = subst (λ G. 0 < length (G p)) now_shape (r.words.layout.some p sc.lives);
      room = subst (λ G. used (G p) ≤ sc.size p) now_shape (r.words.layout.segments.own p sc.lives);
      fine = subst (λ G. (e : ℕ) → e < length (G p) → Fine g G (p, e)) now_shape (λ e l. r.words.layout.fine (p, e) l);
      mirrors = subst (λ G. Mirrors g sc.first G w.store m') now_shape a.mirrors;
      typed = subst (λ G. Typed g G w.store) now_shape a.typed;
      long = a.long;
      outside = λ b l o. a.untouched b (elim l [ inl y ↦ inl (omega (arith, y)) | inr y ↦ inr y ]) o;
    }

    -- the rest of the work stands where it stood
    pub rest_matches : (ws : List Work) (to : ℕ) → Matches g (is_first p) (r.first p) (F p) t.memory ws to d → matches g sc w m' ws to
    rest_matches ws to h = subst (λ G. Matches g (is_first p) (r.first p) (G p) m' ws to (length (G p) - 1)) now_shape
        (matches_kept g (is_first p) (r.first p) (F p) (F p) t.memory m' ws to d (agrees w m' c a) h)

  -- ---- jumps

  jump_moves : (a b next top held : ℕ) (w : World) (m : List ℕ) → code.InstructionStands g.fetched a (op.jump b) next → a < b →
      Moves g.fetched (length t.activities) (is_first p) (Outer sc) (alone sc F m a top held w) (alone sc F m b top held w) false
  jump_moves a b next top held w m at up =
      moves_goes g.fetched (length t.activities) (is_first p) (Outer sc) (alone sc F m a top held w) (alone sc F m b top held w).local
      (ap (λ o. effect_at g.fetched o (length t.activities) (is_first p) (alone sc F m a top held w).local) at
      ∙ ap (λ y. needs y (to b (alone sc F m a top held w).local)) (lt-ltb a b up)) (λ y o. refl)

  pub hops_get : (n a b top held : ℕ) (w : World) (m : List ℕ) → Hops g n a b → Gets g.fetched (length t.activities) (is_first p) (Outer sc)
      (alone sc F m a top held w) (alone sc F m b top held w) false
  hops_get zero a b top held w m h = subst
      (λ y. Gets g.fetched (length t.activities) (is_first p) (Outer sc) (alone sc F m a top held w) (alone sc F m y top held w) false) h
      (gets_none g.fetched (length t.activities) (is_first p) (Outer sc) (alone sc F m a top held w))
  hops_get (suc n) a b top held w m h =
      gets_then g.fetched (length t.activities) (is_first p) (Outer sc) (alone sc F m a top held w) (alone sc F m h.0 top held w)
      (alone sc F m b top held w) false false
      (gets_one g.fetched (length t.activities) (is_first p) (Outer sc) (alone sc F m a top held w) (alone sc F m h.0 top held w) false
      (jump_moves a h.0 h.1 top held w m h.2 h.3)) (hops_get n h.0 b top held w m h.4)

  -- ---- a statement that is done at once: what is left is the rest of the work

  pub goes_on : (ws : List Work) (pc at to n : ℕ) (run : Evaluation (Unit {0})) → Hops g n pc at →
      Does g sc F at base base 0 s.world t.memory (Ran g sc to base) run → Matches g (is_first p) (r.first p) (F p) t.memory ws to d →
      Follows g sc s.world.store t.memory (alone sc F t.memory pc base 0 s.world) (run >>= λ _ w. gives (goes ws) w)
  goes_on ws pc at to n (gives u w) hops h rest =
      let a : After g sc F s.world w t.memory h.is.memory base h.is.cleared = h.is.after in
      let there : Gets g.fetched (length t.activities) (is_first p) (Outer sc) (alone sc F t.memory pc base 0 s.world)
      (alone sc F h.is.memory h.is.to h.is.up 0 w) (false || h.is.cleared) =
      gets_then g.fetched (length t.activities) (is_first p) (Outer sc) (alone sc F t.memory pc base 0 s.world) (alone sc F t.memory at base 0 s.world)
      (alone sc F h.is.memory h.is.to h.is.up 0 w) false h.is.cleared (hops_get n pc at base 0 s.world t.memory hops) h.is.walked in
      let same : alone sc F h.is.memory h.is.to h.is.up 0 w ≡ resting g sc w h.is.memory h.is.to =
      (λ i. alone sc F h.is.memory h.is.to (h.is.post.top_is i) 0 w) ∙
      (λ i. alone sc (now_shape w h.is.memory h.is.cleared a i) h.is.memory h.is.to (bottom g sc.first (now_shape w h.is.memory h.is.cleared a i) p) 0 w) in
      record {
        memory = h.is.memory;
        pc = h.is.to;
        cleared = false || h.is.cleared;
        gets_there = subst (λ y. Gets g.fetched (length t.activities) (is_first p) (Outer sc) (alone sc F t.memory pc base 0 s.world) y
            (false || h.is.cleared)) same there;
        stretch = stretched w h.is.memory h.is.cleared a;
        at = rest_matches w h.is.memory h.is.cleared a ws h.is.to
            (subst (λ y. Matches g (is_first p) (r.first p) (F p) t.memory ws y d) (sym h.is.post.pc_is) rest);
      }
  goes_on ws pc at to n (ends e system turns) hops h rest =
      inl (stops_then g.fetched (length t.activities) (is_first p) (Outer sc) (alone sc F t.memory pc base 0 s.world)
      (alone sc F t.memory at base 0 s.world) false e system turns (hops_get n pc at base 0 s.world t.memory hops) h.is)

  -- an assignment as a step
  pub assign_step : AssignClaim g sc (levels_of g.unit p (sc.size p) s.world.turns) s.world.turns →
      (v : Place) (e : Expression) (position : Position) (ws : List Work) (pc : ℕ) →
      Matches g (is_first p) (r.first p) (F p) t.memory (doing (assign v e) position ∷ ws) pc d →
      Follows g sc s.world.store t.memory (alone sc F t.memory pc base 0 s.world) (work_step g.unit p (sc.size p) (doing (assign v e) position ∷ ws) s.world)
  assign_step claim v e position ws pc h =
      goes_on ws pc h.1 h.3.0 h.0 _ h.2
      (claim v e F h.1 h.3.0 base 0 s.world t.memory (omega arith) h.3.1 h.3.2
      (able _ 0 h.3.3 (omega arith))) h.3.5

  -- ---- the pieces of work that are one instruction, or none

  -- outside critical phases, at an address
  abbrev at_pc : ℕ → Walker
  at_pc pc = alone sc F t.memory pc base 0 s.world

  abbrev does : ℕ → Effect
  does pc = effect_at g.fetched (g.fetched pc) (length t.activities) (is_first p) (at_pc pc).local

  abbrev work_here : List Work → ℕ → Type 0
  work_here ws pc = Matches g (is_first p) (r.first p) (F p) t.memory ws pc d

  -- nothing but turns has changed
  idle : (n : ℕ) → n ≤ s.world.turns → After g sc F s.world (record s.world { turns = n }) t.memory t.memory base false
  idle n le = record {
    shaped = stands.shaped;
    mirrors = r.words.mirrors;
    typed = r.words.typed;
    long = r.words.long;
    untouched = λ a b o. refl;
    turns = le;
    clears = λ e. absurd (cc);
  }

  still : (n : ℕ) → n ≤ s.world.turns → Stretch g sc s.world.store (record s.world { turns = n }) t.memory t.memory
  still n le = stretched (record s.world { turns = n }) t.memory false (idle n le)

  -- no turn is left for an instruction behind some jumps
  none_left : (n pc at : ℕ) (kind : turn.Turn) (l : Local) → Hops g n pc at → does at ≡ due kind l → s.world.turns ≡ 0 →
      stops g sc (at_pc pc) outcome.turns s.world.system s.world.turns
  none_left n pc at kind l hops is none =
      stops_then g.fetched (length t.activities) (is_first p) (Outer sc) (at_pc pc) (at_pc at) false outcome.turns s.world.system s.world.turns
      (hops_get n pc at base 0 s.world t.memory hops)
      (stops_by g.fetched (length t.activities) (is_first p) (Outer sc) (at_pc at) (at_pc at) (due kind l) outcome.turns is
      (ap (λ k. target.turn_from k kind l (plain (at_pc at))) none) refl (λ a o. refl))

  -- an instruction behind some jumps takes its turn, and changes nothing else
  turn_comes : (n pc at left : ℕ) (kind : turn.Turn) → Hops g n pc at → does at ≡ due kind (at_pc at).local → s.world.turns ≡ suc left →
      Comes g.fetched (length t.activities) (is_first p) (Outer sc) (at_pc pc) kind (record (at_pc at) { turns = left }) false
  turn_comes n pc at left kind hops is some =
      comes_by g.fetched (length t.activities) (is_first p) (Outer sc) (at_pc pc) (at_pc at) (record (at_pc at) { turns = left })
      (due kind (at_pc at).local) kind false (hops_get n pc at base 0 s.world t.memory hops) is
      (ap (λ k. target.turn_from k kind (at_pc at).local (plain (at_pc at))) some) refl (λ a o. refl)

  -- ---- statements

  pub skip_step : (position : Position) (ws : List Work) (pc : ℕ) → work_here (doing tree.skip position ∷ ws) pc →
      Follows g sc s.world.store t.memory (at_pc pc) (work_step g.unit p (sc.size p) (doing tree.skip position ∷ ws) s.world)
  skip_step position ws pc h =
      goes_on ws pc h.1 h.3.0 h.0 (gives tt s.world) h.2
      (give g sc F h.1 base base 0 s.world t.memory (Ran g sc h.3.0 base) tt stands (omega arith) within (record { pc_is = h.3.1; top_is = refl })) h.3.5
    where
      within : base ≤ frames_end sc.first F p
      within = omega (
        arith,
        now_ends g sc F s.world t.memory stands,
        roomy g F (now F p)
            (r.words.layout.fine (now F p) (omega (arith, r.words.layout.some p sc.lives))),
      )

  pub halt_step : (line : ℕ) (position : Position) (ws : List Work) (pc : ℕ) → work_here (doing (tree.halt line) position ∷ ws) pc →
      Follows g sc s.world.store t.memory (at_pc pc) (work_step g.unit p (sc.size p) (doing (tree.halt line) position ∷ ws) s.world)
  halt_step line position ws pc h =
      inl (stops_then g.fetched (length t.activities) (is_first p) (Outer sc) (at_pc pc) (at_pc h.1) false (outcome.halted line) s.world.system s.world.turns
      (hops_get h.0 pc h.1 base 0 s.world t.memory h.2)
      (stops_fails g.fetched (length t.activities) (is_first p) (Outer sc) (at_pc h.1) cause.Halt line
      (ap (λ o. effect_at g.fetched o (length t.activities) (is_first p) (at_pc h.1).local) h.3.1)))

  pub await_step : (cs : Clauses) (line : ℕ) (position : Position) (ws : List Work) (pc : ℕ) → work_here (doing (tree.when_act cs line) position ∷ ws) pc →
      Follows g sc s.world.store t.memory (at_pc pc) (work_step g.unit p (sc.size p) (doing (tree.when_act cs line) position ∷ ws) s.world)
  await_step cs line position ws pc h = go s.world.turns refl
    where
      is : does h.1 ≡ due turn.arriving (at_pc h.3.1.0).local
      is = ap (λ o. effect_at g.fetched o (length t.activities) (is_first p) (at_pc h.1).local) h.3.1.2

      go : (n : ℕ) → s.world.turns ≡ n → Follows g sc s.world.store t.memory (at_pc pc) (turn_from n s.world (gives (arrives cs position ws)))
      go zero e = inl (none_left h.0 pc h.1 turn.arriving (at_pc h.3.1.0).local h.2 is e)
      go (suc n) e = record {
        memory = t.memory;
        pc = h.3.1.0;
        cleared = false;
        comes_there =
            comes_by g.fetched (length t.activities) (is_first p) (Outer sc) (at_pc pc) (at_pc h.1)
            (resting g sc (record s.world { turns = n }) t.memory h.3.1.0)
            (due turn.arriving (at_pc h.3.1.0).local) turn.arriving false
            (hops_get h.0 pc h.1 base 0 s.world t.memory h.2) is
            (ap (λ k. target.turn_from k turn.arriving (at_pc h.3.1.0).local (plain (at_pc h.1))) e) refl (λ a o. refl);
        still = λ z. refl;
        shaped = refl;
        stretch = still n (omega (arith, e));
        at = (
          h.3.1.1,
          h.3.0,
          h.3.1.3,
          h.3.1.4,
          h.3.2,
          h.3.3,
          record { line = line; at = h.1; sited = h.3.4; stands = h.3.1.2; behind = one_long g h.1 (op.when line) h.3.1.0 h.3.1.2 },
          h.3.5,
        );
      }

  pub cobegin_step : (bs : List ℕ) (line : ℕ) (position : Position) (ws : List Work) (pc : ℕ) → work_here (doing (tree.cobegin bs line) position ∷ ws) pc →
      Follows g sc s.world.store t.memory (at_pc pc) (work_step g.unit p (sc.size p) (doing (tree.cobegin bs line) position ∷ ws) s.world)
  cobegin_step bs line position ws pc h = record {
    memory = t.memory;
    pc = h.1;
    next = h.3.0;
    cleared = false;
    gets_there = hops_get h.0 pc h.1 base 0 s.world t.memory h.2;
    stands = h.3.1;
    stretch = still s.world.turns (omega arith);
    at = h.3.5;
    some = h.3.2.0;
    fit = h.3.2.2;
  }

  -- ---- ends

  pub loop_step : (cs : Clauses) (position : Position) (ws : List Work) (pc : ℕ) → work_here (loop_end cs position ∷ ws) pc →
      Follows g sc s.world.store t.memory (at_pc pc) (work_step g.unit p (sc.size p) (loop_end cs position ∷ ws) s.world)
  loop_step cs position ws pc h = go s.world.turns refl
    where
      is : does h.1 ≡ due turn.looping (at_pc h.3.0).local
      is = ap (λ o. effect_at g.fetched o (length t.activities) (is_first p) (at_pc h.1).local) h.3.3

      go : (n : ℕ) → s.world.turns ≡ n → Follows g sc s.world.store t.memory (at_pc pc)
          (turn_from n s.world (gives (goes (doing (tree.while_act cs) position ∷ ws))))
      go zero e = inl (none_left h.0 pc h.1 turn.looping (at_pc h.3.0).local h.2 is e)
      go (suc n) e =
          let there : Walker = resting g sc (record s.world { turns = n }) t.memory h.3.0 in
          record {
            memory = t.memory;
            pc = h.3.0;
            cleared = false || true;
            gets_there =
                gets_then g.fetched (length t.activities) (is_first p) (Outer sc) (at_pc pc) (at_pc h.1) there false true
                (hops_get h.0 pc h.1 base 0 s.world t.memory h.2)
                (gets_one g.fetched (length t.activities) (is_first p) (Outer sc) (at_pc h.1) there true
                (moves_by g.fetched (length t.activities) (is_first p) (Outer sc) (at_pc h.1) there (due turn.looping (at_pc h.3.0).local) true is
                (ap (λ k. onward (target.turn_from k turn.looping (at_pc h.3.0).local (plain (at_pc h.1)))) e) refl (λ a o. refl)));
            stretch = still n (omega (arith, e));
            at = (0, h.3.0, refl, (h.3.2, h.3.4, h.3.5, h.3.6, h.3.7, h.3.8));
          }

  -- a process in its first frame is where its segment begins
  first_frame : d ≡ 0 → nat_eq (address sc.first F (now F p)) (sc.first p) ≡ true
  first_frame e =
      let start : frame_start (F p) d ≡ 0 = ap (frame_start (F p)) e in
      eq-eqb (address sc.first F (now F p)) (sc.first p) (omega (arith, start))

  pub branch_step : (ws : List Work) (pc : ℕ) → work_here (branch_end ∷ ws) pc → Follows g sc s.world.store t.memory (at_pc pc)
      (work_step g.unit p (sc.size p) (branch_end ∷ ws) s.world)
  branch_step ws pc h = go s.world.turns refl
    where
      is : does h.1 ≡ due turn.exiting (at_pc h.1).local
      is =
          ap (λ o. effect_at g.fetched o (length t.activities) (is_first p) (at_pc h.1).local) h.3.1
          ∙ ap (λ b. needs (not b && nat_eq (address sc.first F (now F p)) (sc.first p) && nat_eq 0 0) (due turn.exiting (at_pc h.1).local)) h.3.3
          ∙ ap (λ b. needs (not false && b && nat_eq 0 0) (due turn.exiting (at_pc h.1).local)) (first_frame h.3.2)

      go : (n : ℕ) → s.world.turns ≡ n → Follows g sc s.world.store t.memory (at_pc pc) (turn_from n s.world (gives leaves))
      go zero e = inl (none_left h.0 pc h.1 turn.exiting (at_pc h.1).local h.2 is e)
      go (suc n) e = record {
        end = record (at_pc h.1) { turns = n };
        cleared = false;
        comes_there = turn_comes h.0 pc h.1 n turn.exiting h.2 is e;
        memory = refl;
        store_is = refl;
        system = refl;
        turns = refl;
      }

  pub program_step : (ws : List Work) (pc : ℕ) → work_here (program_end ∷ ws) pc → Follows g sc s.world.store t.memory (at_pc pc)
      (work_step g.unit p (sc.size p) (program_end ∷ ws) s.world)
  program_step ws pc h = go s.world.turns refl
    where
      l : Local
      l = (at_pc h.1).local

      is : does h.1 ≡ due turn.finishing (at_pc h.1).local
      is =
          ap (λ o. effect_at g.fetched o (length t.activities) (is_first p) (at_pc h.1).local) h.3.1
          ∙ ap (λ b. if b then needs (is_first p) (due turn.finishing l) else leave 0 0 (word t.memory (l.base + 1)) (word t.memory (l.base + 4)) l)
          (first_frame h.3.2)
          ∙ ap (λ b. needs b (due turn.finishing l)) h.3.3

      go : (n : ℕ) → s.world.turns ≡ n → Follows g sc s.world.store t.memory (at_pc pc) (turn_from n s.world (λ w. ends outcome.done w.system w.turns))
      go zero e = inl (none_left h.0 pc h.1 turn.finishing (at_pc h.1).local h.2 is e)
      go (suc n) e = inr (
        refl,
        record {
          end = record (at_pc h.1) { turns = n };
          cleared = false;
          comes_there = turn_comes h.0 pc h.1 n turn.finishing h.2 is e;
          system_is = refl;
          turns_are = refl;
        },
      )
