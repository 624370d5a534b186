-- THE CALLS: of a function inside an expression, and of a procedure in a critical phase or a function.
use Rattle.std.proofs.Common.{◌≡◌, ℕ, zero, suc, ◌+◌, ◌-◌, ◌<◌, ◌≤◌, ◌^◌, Bool, true, false, if◌then◌else◌, List, length, Some, refl, sym, subst, ap, arith}
use Rattle.std.specs.Prelude.{nat_lt}
use Rattle.edi_calls.specs.declared.kinds.Cause.TheVariants as cause
use Rattle.edi_calls.specs.Names.{Name}
use Rattle.edi_calls.specs.Outcome as outcome
use Rattle.edi_store.specs.Memory.{words_at, written}
use Rattle.edi_unit.specs.Tree.{Acts, Block}
use Rattle.edi_unit.specs.Fits.{ActsFit}
use Rattle.edi_meaning.specs.Store.{Spot, Cell, Frame, Shape, shape, room, used, grown, shrunk}
use Rattle.edi_meaning.specs.Evaluation.{World, Evaluation, gives, ends, ◌>>=◌, fails, turn, turn_from}
use Rattle.edi_meaning.specs.Whole.{instance_of, entered, left}
use Rattle.edi_target.specs.Op as op
use Rattle.edi_target.specs.Effect.{enter}
use Rattle.edi_target.specs.Mach.{effect_at, is_first}
use Rattle.edi_scheme.proofs.Known.{words_sum}
use Rattle.edi_scheme.specs.Pieces as pieces
use Rattle.edi_scheme.specs.Pieces.{function_flag, return_of}
use Rattle.edi_scheme.specs.Stands as code
use Rattle.edi_follows.specs.values.Words.{ValuesAreLong, ZeroIsZeros}
use Rattle.edi_follows.specs.places.Coded.{Coded, block, entry}
use Rattle.edi_follows.specs.places.Spots.{address, frames_end, bottom, cells_words}
use Rattle.edi_follows.specs.places.Walks.{Walker}
use Rattle.edi_follows.specs.places.Scene.{Scene, Outer, alone, base_of, here, Stands, After, Given, DoesSo, Does, gets}
use Rattle.edi_follows.specs.places.Claims.{Ran, DeeperClaim}
use Rattle.edi_follows.proofs.places.Doing.{gets_one, gets_then, stops_then, after_then}
use Rattle.edi_follows.proofs.calls.Grown.{IsGrown}
use Rattle.edi_follows.proofs.calls.Comes.{IsCalled, inst, enough}
use Rattle.edi_follows.proofs.calls.Entering as entering
use Rattle.edi_follows.proofs.calls.Entering.{begins}
use Rattle.edi_follows.proofs.calls.Returning as returning
use Rattle.edi_follows.proofs.calls.Returning.{Keeps, stands_less}
use Rattle.edi_follows.proofs.calls.Blocks.{H, e, mem, inside, of_new, able_new, stands_inside, keeps_inside, untouched_inside}

module _ (g : Coded) (long : ValuesAreLong) (zeros : ZeroIsZeros) (s : Scene) (deeper : Acts → World → Evaluation (Unit {0})) (bound : ℕ)
    (deep : DeeperClaim g s deeper bound) (F : Shape) (w : World) (m : List ℕ) (h : Stands g s F w m)
    (n : ℕ) (parent : Spot) (cells : List Cell) (c : IsCalled g s F n parent cells) (t to : ℕ) (line pc held : ℕ) (low : base_of g s F ≤ t)
    (few : held ≤ length (F s.name))
    (stood : words_at m t (length (cells_words g s.first F cells)) ≡ cells_words g s.first F cells)
    (does : effect_at g.fetched (g.fetched pc) s.count (is_first s.name) (alone s F m pc (t + length (cells_words g s.first F cells)) held w).local ≡ enter
    (g.fetched (entry g n)) (address s.first F parent) to line (alone s F m pc (t + length (cells_words g s.first F cells)) held w).local)
    (high : t + pieces.result_words g.unit.types (block g n).result ≤ frames_end s.first F s.name) (within_bound : w.turns ≤ bound)
    (phase : 0 < held + function_flag (block g n).result) where
  abbrev p : Name
  p = s.name

  abbrev B : Block
  B = block g n

  abbrev r : ℕ
  r = pieces.result_words g.unit.types B.result

  abbrev hold : ℕ
  hold = held + function_flag B.result

  abbrev start : Walker
  start = alone s F m pc (t + length (cells_words g s.first F cells)) held w

  -- what the body's end leaves, from what it finds
  module _ {A : Type 0} (finish : World → A) (Post : A → List ℕ → ℕ → ℕ → Type 0) where
    abbrev run_inside : World → Evaluation A
    run_inside w = deeper B.body w >>= λ _ w. left g.unit p (s.size p) w (gives (finish w))

    module _ (free : nat_lt (s.size p - used (F p)) B.need ≡ false) where
      abbrev K : Shape
      K = H g long zeros s F w m h n parent cells c t to line pc held low few stood does free

      abbrev now_mem : List ℕ
      now_mem = mem g long zeros s F w m h n parent cells c t to line pc held low few stood does free

      abbrev low_there : ℕ
      low_there = bottom g s.first K p

      abbrev in_there : ℕ → World
      in_there k = inside g long zeros s F w m h n parent cells c t to line pc held low few stood does free k

      abbrev bodied : code.IsProcedure g.fetched g.unit.types g.unit.blocks (entry g) n
      bodied = begins g long zeros s F w m h n parent cells c t to

      abbrev fr : Frame
      fr = (inst g long zeros s F w m h n parent cells c).frame

      abbrev gr : IsGrown p fr F K
      gr = e g long zeros s F w m h n parent cells c t to line pc held low few stood does free

      some : 0 < length (F p)
      some = h.layout.some p s.lives

      enters : (k : ℕ) → w.turns ≡ suc k → gets g s start (alone s K now_mem bodied.body low_there hold (in_there k)) true
      enters k turns =
          gets_one g.fetched s.count (is_first p) (Outer s) start (alone s K now_mem bodied.body low_there hold (in_there k)) true
          (entering.moves_there g long zeros s F w m h n parent cells c t to line pc held low few stood does free k turns)

      -- the body does what it means
      body_does : (k : ℕ) → w.turns ≡ suc k → Does g s K bodied.body low_there low_there hold (in_there k) now_mem (Ran g s bodied.end low_there)
          (deeper B.body (in_there k))
      body_does k turns =
          deep B.body K bodied.body bodied.end low_there hold (in_there k) now_mem (omega (arith, turns, within_bound)) phase
          (subst (λ x. code.AreActs g.fetched g.unit.types g.unit.blocks (entry g) x B.body bodied.body bodied.end) (sym of_there) bodied.list)
          (subst (λ x. ActsFit g.unit.types g.unit.blocks g.fits.headings x B.body) (sym of_there) (g.fits.fits_blocks n c.known).statements)
          (able_new g long zeros s F w m h n parent cells c t to line pc held low few stood does free k)
        where
          of_there : here g s K ≡ n
          of_there = of_new g long zeros s F w m h n parent cells c t to line pc held low few stood does free

      module _ (k : ℕ) (turns : w.turns ≡ suc k)
          (post : (v : World) (mm : List ℕ) (j : ℕ) → Stands g s K v mm → Post (finish v) (written mm t (words_at mm (frames_end s.first F p + 5) r)) to
          (t + r)) where
        module _ (u : Unit {0}) (v : World) (x : Given g s K bodied.body low_there low_there hold (in_there k) now_mem (Ran g s bodied.end low_there) u v) where
          stood_there : Stands g s K v x.memory
          stood_there = stands_inside g long zeros s F w m h n parent cells c t to line pc held low few stood does free k turns v x.memory x.cleared x.after

          keeps_there : Keeps s F x.memory to t
          keeps_there = keeps_inside g long zeros s F w m h n parent cells c t to line pc held low few stood does free k turns v x.memory x.cleared x.after

          returns : code.InstructionStands g.fetched x.to (op.return r (function_flag B.result)) bodied.after
          returns = subst (λ y. g.fetched y ≡ Some (return_of g.unit.types B, bodied.after)) (sym x.post.pc_is) bodied.returns

          result_fits : frames_end s.first F p + 5 + r ≤ 2 ^ 16
          result_fits =
              omega (
                arith,
                entering.room g long zeros s F w m h n parent cells c t to line pc held low few stood does free,
                enough g long zeros s F w m h n parent cells c,
                words_sum g.unit.types B,
                h.layout.segments.within p s.lives,
              )

          -- so far
          gets_inside : gets g s start (alone s K x.memory x.to x.up hold v) true
          gets_inside = gets_then g.fetched s.count (is_first p) (Outer s) start (alone s K now_mem bodied.body low_there hold (in_there k))
              (alone s K x.memory x.to x.up hold v) true x.cleared (enters k turns) x.walked

          abbrev mem_after : List ℕ
          mem_after = written x.memory t (words_at x.memory (frames_end s.first F p + 5) r)

          -- the body gave, and the block is left
          leaves : (j : ℕ) → v.turns ≡ j → DoesSo g s F pc (t + length (cells_words g s.first F cells)) t held w m Post
              (turn_from j v (λ y. gives (finish v) (record y { store = shrunk p y.store })))
          leaves zero e =
              stops_then g.fetched s.count (is_first p) (Outer s) start (alone s K x.memory x.to x.up hold v) true outcome.turns v.system v.turns gets_inside
              (returning.ends_here g s F K fr gr some v x.memory stood_there x.to bodied.after x.up held r
              (function_flag B.result) t to returns keeps_there low high result_fits e)
          leaves (suc j) e =
              let out : World = record v { store = shrunk p v.store; turns = j } in
              let less : Stands g s F out x.memory = stands_less g s F K fr gr some v x.memory stood_there j in
              let first_part : After g s F w out m x.memory t true = record {
                shaped = less.shaped;
                mirrors = less.mirrors;
                typed = less.typed;
                long = less.long;
                untouched = λ a b o. untouched_inside g long zeros s F w m h n parent cells c t to line pc held low few stood does free k turns v x.memory
                    x.cleared x.after a b (omega (arith, high)) o;
                turns = omega (arith, turns, e, x.after.turns);
                clears = λ q. omega (arith, turns, e, x.after.turns);
              } in
              record {
                memory = mem_after;
                to = to;
                up = t + r;
                cleared = true;
                walked =
                    gets_then g.fetched s.count (is_first p) (Outer s) start (alone s K x.memory x.to x.up hold v)
                    (alone s F mem_after to (t + r) held out) true true gets_inside
                    (gets_one g.fetched s.count (is_first p) (Outer s) (alone s K x.memory x.to x.up hold v) (alone s F mem_after to (t + r) held out) true
                    (returning.moves_here g s F K fr gr some v x.memory stood_there x.to bodied.after x.up held r
                    (function_flag B.result) t to returns keeps_there low high result_fits j e));
                after =
                    after_then g s F w out out m x.memory mem_after t true false first_part
                    (returning.after_result g s F K fr gr some v x.memory stood_there x.to bodied.after x.up held r
                    (function_flag B.result) t to returns keeps_there low high result_fits j);
                above = omega arith;
                within = high;
                post = post v x.memory j stood_there;
              }

        body_then : (run : Evaluation (Unit {0})) → DoesSo g s K bodied.body low_there low_there hold (in_there k) now_mem (Ran g s bodied.end low_there) run →
            DoesSo g s F pc (t + length (cells_words g s.first F cells)) t held w m Post (run >>= λ _ w. left g.unit p (s.size p) w (gives (finish w)))
        body_then (gives u v) x = leaves u v x v.turns refl
        body_then (ends ending system turns_left) x =
            stops_then g.fetched s.count (is_first p) (Outer s) start
            (alone s K now_mem bodied.body low_there hold (in_there k)) true ending system turns_left (enters k turns) x

    module _ (post : (free : nat_lt (s.size p - used (F p)) B.need ≡ false) (v : World) (mm : List ℕ) (j : ℕ) → Stands g s (K free) v mm →
        Post (finish v) (written mm t (words_at mm (frames_end s.first F p + 5) r)) to (t + r)) where
      turned : (free : nat_lt (s.size p - used (F p)) B.need ≡ false) (k : ℕ) → w.turns ≡ k →
          DoesSo g s F pc (t + length (cells_words g s.first F cells)) t held w m Post
          (turn_from k w (λ y. run_inside (record y { store = grown p (instance_of g.unit p (s.size p) n parent cells) y.store })))
      turned free zero i = entering.ends_there g long zeros s F w m h n parent cells c t to line pc held low few stood does free i
      turned free (suc k) i = body_then free k i (post free) (deeper B.body (in_there free k)) (body_does free k i).is

      tested : (full : Bool) → nat_lt (s.size p - used (F p)) B.need ≡ full →
          DoesSo g s F pc (t + length (cells_words g s.first F cells)) t held w m Post
          (if full then fails cause.VariableLimit line w else turn w
          (λ y. run_inside (record y { store = grown p (instance_of g.unit p (s.size p) n parent cells) y.store })))
      tested true i = entering.fails_there g long zeros s F w m h n parent cells c t to line pc held low few stood does i
      tested false i = turned i w.turns refl

      -- A CALL OF A BLOCK
      pub block_does : Does g s F pc (t + length (cells_words g s.first F cells)) t held w m Post (entered g.unit p (s.size p) n parent cells line w run_inside)
      block_does = record {
        is = tested (nat_lt (room (s.size p) (shape w.store p)) B.need)
            (ap (λ fs. nat_lt (room (s.size p) fs) B.need) (sym (h.shaped.each p)));
      }
