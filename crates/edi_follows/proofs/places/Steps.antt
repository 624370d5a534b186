-- What the machine does by one instruction, from its effect.
use Rattle.std.proofs.Common.{◌≡◌, ℕ, zero, suc, ◌+◌, ◌<◌, ◌≤◌, inl, inr, Bool, true, false, ◌||◌, if◌then◌else◌, List, length, Some, refl, sym, ap, ◌∙◌, arith}
use Rattle.std.proofs.lemmas.Bool.{le-leb}
use Rattle.std.proofs.lemmas.Grind.{same_number_lists}
use Rattle.edi_calls.specs.Outcome as outcome
use Rattle.edi_store.specs.Memory.{words_at, written}
use Rattle.edi_store.proofs.MemoryLaws.{length-words_at, get_or-words_at, words_at-written}
use Rattle.edi_unit.specs.Types.{size}
use Rattle.edi_unit.specs.Values.{Value}
use Rattle.edi_meaning.specs.Store.{Spot, Shape, now}
use Rattle.edi_meaning.specs.Evaluation.{World, Evaluation, gives, ends, turn_from}
use Rattle.edi_target.specs.Op.{Instruction}
use Rattle.edi_target.specs.Memory.{word}
use Rattle.edi_target.specs.Effect.{Local, Turn, entering, leaving, looping, arriving, again, forking, exiting, finishing, Effect, goes, due, bad, to}
use Rattle.edi_target.specs.Mach as target
use Rattle.edi_target.specs.Mach.{effect_at, is_first, turned}
use Rattle.edi_follows.specs.values.Words.{ValuesAreLong}
use Rattle.edi_follows.specs.places.Coded.{Coded}
use Rattle.edi_follows.specs.places.Spots.{frames_end, IsOther}
use Rattle.edi_follows.specs.places.Walks.{plain, onward, onward_turn, Gets}
use Rattle.edi_follows.specs.places.Scene.{Scene, Outer, alone, base_of, Stands, After, Does, local_at}
use Rattle.edi_follows.specs.places.Claims.{Pushed}
use Rattle.edi_follows.specs.places.Instructions.{effect, PushesThen, PopsPushes, PopsPushesValue, GoesThen, FailsAt, StepsTurn, IsOnward, TurnMoves}
use Rattle.edi_follows.specs.places.Instructions.{TurnStops, OperandsStay, AbleThen, AbleAbove}
use Rattle.edi_follows.proofs.places.Doing.{moves_by, moves_goes, gets_one, gets_then, stops_then, stops_by, stops_fails, after_then, after_lower, stands_after}
use Rattle.edi_follows.proofs.places.Doing.{turn_before, give}
use Rattle.edi_follows.proofs.places.Free.{beside, written_free, outer_kept}

module _ (g : Coded) (s : Scene) where
  abbrev walks : Shape → List ℕ → (pc top held : ℕ) → World → Shape → List ℕ → (pc top held : ℕ) → World → Bool → Type 0
  walks F m pc top held w G m' to up held' v c =
      Gets g.fetched s.count (is_first s.name) (Outer s) (alone s F m pc top held w) (alone s G m' to up held' v) c

  -- ---- a stretch, and the rest

  -- where the memory and the world stay
  same_then : (A : Type 0) (Post : A → List ℕ → ℕ → ℕ → Type 0) (run : Evaluation A) (F : Shape) (pc top there up t held : ℕ) (w : World) (m : List ℕ) →
      walks F m pc top held w F m there up held w false → Does g s F there up t held w m Post run → Does g s F pc top t held w m Post run
  same_then A Post (gives a v) F pc top there up t held w m h x = record {
    is = record {
      memory = x.is.memory;
      to = x.is.to;
      up = x.is.up;
      cleared = false || x.is.cleared;
      walked = gets_then g.fetched s.count (is_first s.name) (Outer s) (alone s F m pc top held w) (alone s F m there up held w)
          (alone s F x.is.memory x.is.to x.is.up held v) false x.is.cleared h x.is.walked;
      after = x.is.after;
      above = x.is.above;
      within = x.is.within;
      post = x.is.post;
    };
  }
  same_then A Post (ends e system turns) F pc top there up t held w m h x = record {
    is = stops_then g.fetched s.count (is_first s.name) (Outer s) (alone s F m pc top held w) (alone s F m there up held w) false e system turns h x.is;
  }

  -- where the memory changes
  memory_then : (A : Type 0) (Post : A → List ℕ → ℕ → ℕ → Type 0) (run : Evaluation A) (F : Shape) (pc top there up t held : ℕ) (w : World) (m m' : List ℕ) →
      walks F m pc top held w F m' there up held w false → After g s F w w m m' t false → Does g s F there up t held w m' Post run →
      Does g s F pc top t held w m Post run
  memory_then A Post (gives a v) F pc top there up t held w m m' h after x = record {
    is = record {
      memory = x.is.memory;
      to = x.is.to;
      up = x.is.up;
      cleared = false || x.is.cleared;
      walked = gets_then g.fetched s.count (is_first s.name) (Outer s) (alone s F m pc top held w) (alone s F m' there up held w)
          (alone s F x.is.memory x.is.to x.is.up held v) false x.is.cleared h x.is.walked;
      after = after_then g s F w w v m m' x.is.memory t false x.is.cleared after x.is.after;
      above = x.is.above;
      within = x.is.within;
      post = x.is.post;
    };
  }
  memory_then A Post (ends e system turns) F pc top there up t held w m m' h after x = record {
    is = stops_then g.fetched s.count (is_first s.name) (Outer s) (alone s F m pc top held w) (alone s F m' there up held w) false e system turns h x.is;
  }

  -- where a turn is taken
  turn_then : (A : Type 0) (Post : A → List ℕ → ℕ → ℕ → Type 0) (run : Evaluation A) (F : Shape) (pc top there up t held n : ℕ) (w : World) (m : List ℕ) →
      w.turns ≡ suc n →
      walks F m pc top held w F m there up held (record w { turns = n }) true → Does g s F there up t held (record w { turns = n }) m Post run →
      Does g s F pc top t held w m Post run
  turn_then A Post (gives a v) F pc top there up t held n w m e h x = record {
    is = record {
      memory = x.is.memory;
      to = x.is.to;
      up = x.is.up;
      cleared = true;
      walked = gets_then g.fetched s.count (is_first s.name) (Outer s) (alone s F m pc top held w) (alone s F m there up held (record w { turns = n }))
          (alone s F x.is.memory x.is.to x.is.up held v) true x.is.cleared h x.is.walked;
      after = turn_before g s F w v m x.is.memory t n x.is.cleared e x.is.after;
      above = x.is.above;
      within = x.is.within;
      post = x.is.post;
    };
  }
  turn_then A Post (ends k system turns) F pc top there up t held n w m e h x = record {
    is = stops_then g.fetched s.count (is_first s.name) (Outer s) (alone s F m pc top held w)
        (alone s F m there up held (record w { turns = n })) true k system turns h x.is;
  }

  -- ---- one instruction

  fetched_effect : (i : Instruction) (pc next : ℕ) (l : Local) (e : Effect) → g.fetched pc ≡ Some (i, next) → effect g s i next l ≡ e →
      effect_at g.fetched (g.fetched pc) s.count (is_first s.name) l ≡ e
  fetched_effect i pc next l e at is = ap (λ o. effect_at g.fetched o s.count (is_first s.name) l) at ∙ is

  pub goes_gets : (F G : Shape) (i : Instruction) (pc next there top up held held' : ℕ) (w : World) (m m' : List ℕ) → g.fetched pc ≡ Some (i, next) →
      effect g s i next (local_at s F m pc top held) ≡ goes (local_at s G m' there up held') → ((a : ℕ) → Outer s a → word m' a ≡ word m a) →
      walks F m pc top held w G m' there up held' w false
  goes_gets F G i pc next there top up held held' w m m' at is keeps =
      gets_one g.fetched s.count (is_first s.name) (Outer s) (alone s F m pc top held w) (alone s G m' there up held' w) false
      (moves_goes g.fetched s.count (is_first s.name) (Outer s) (alone s F m pc top held w) (local_at s G m' there up held')
      (fetched_effect i pc next (local_at s F m pc top held) (goes (local_at s G m' there up held')) at is) keeps)

  pub pushes_then : PushesThen g s
  pushes_then A Post run F i pc next top u t held w m zs stands at is le low high rest =
      let fits : u + length zs ≤ length m = omega
      (arith, high, stands.layout.segments.own s.name s.lives, stands.layout.segments.within s.name s.lives, stands.long) in
      let goes_so : effect g s i next (local_at s F m pc top held) ≡ goes (local_at s F (written m u zs) next (u + length zs) held) =
      is ∙ ap (λ b. if b then to next (local_at s F (written m u zs) pc (u + length zs) held) else bad)
      (le-leb (u + length zs) (frames_end s.first F s.name) high) in
      let after : After g s F w w m (written m u zs) u false = written_free g s F w m stands u zs low high in
      memory_then A Post run F pc top next (u + length zs) t held w m (written m u zs)
      (goes_gets F F i pc next next top (u + length zs) held held w m (written m u zs) at goes_so (outer_kept g s F w m stands u zs low high))
      (after_lower g s F w w m (written m u zs) t u false le after)
      (rest (written m u zs) after (words_at-written m u zs fits))

  pub pops_pushes : PopsPushes g s
  pops_pushes A Post a F i pc next top t held w m zs stands at is low high post =
      pushes_then A Post (gives a w) F i pc next top t t held w m zs stands at is (omega arith) low high (λ m' after words.
      give g s F next (t + length zs) t held w m' Post a (stands_after g s F w w m m' t false stands after) (omega arith) high (post m' words))

  pub goes_then : GoesThen g s
  goes_then A Post run F i pc next there top up t held w m at is x =
      same_then A Post run F pc top there up t held w m (goes_gets F F i pc next there top up held held w m m at is (λ a o. refl)) x

  pub fails_at : FailsAt g s
  fails_at A Post F i pc next top t held w m c line at is = record {
    is = stops_fails g.fetched s.count (is_first s.name) (Outer s) (alone s F m pc top held w) c line
        (fetched_effect i pc next (local_at s F m pc top held) _ at is);
  }

  -- ---- turns

  onward_is : (kind : Turn) → IsOnward g s kind → (r : target.Running) → onward_turn kind r ≡ Some (r, true)
  onward_is entering h r = refl
  onward_is leaving h r = refl
  onward_is looping h r = refl
  onward_is arriving h r = absurd h
  onward_is (again marks) h r = absurd h
  onward_is (forking branches) h r = absurd h
  onward_is exiting h r = absurd h
  onward_is finishing h r = absurd h

  pub turn_moves : TurnMoves g s
  turn_moves F G i kind pc next there top up held held' n w m m' at so is e keeps =
      moves_by g.fetched s.count (is_first s.name) (Outer s) (alone s F m pc top held w) (alone s G m' there up held' (record w { turns = n }))
      (due kind (local_at s G m' there up held')) true
      (fetched_effect i pc next (local_at s F m pc top held) (due kind (local_at s G m' there up held')) at is)
      (ap (λ k. onward (target.turn_from k kind (local_at s G m' there up held') (plain (alone s F m pc top held w)))) e
      ∙ onward_is kind so (plain (alone s G m' there up held' (record w { turns = n })))) refl keeps

  pub turn_stops : TurnStops g s
  turn_stops F i kind l pc next top held w m at is e =
      stops_by g.fetched s.count (is_first s.name) (Outer s) (alone s F m pc top held w) (alone s F m pc top held w) (due kind l) outcome.turns
      (fetched_effect i pc next (local_at s F m pc top held) (due kind l) at is)
      (ap (λ k. target.turn_from k kind l (plain (alone s F m pc top held w))) e) refl (λ a o. refl)

  pub steps_turn : StepsTurn g s
  steps_turn A Post run F i pc next there top t held w m at is rest = go w.turns refl
    where
      go : (k : ℕ) → w.turns ≡ k → Does g s F pc top t held w m Post (turn_from k w run)
      go zero e = record { is = turn_stops F i looping (local_at s F m there top held) pc next top held w m at is e }
      go (suc n) e =
          turn_then A Post (run (record w { turns = n })) F pc top there top t held n w m e
          (gets_one g.fetched s.count (is_first s.name) (Outer s) (alone s F m pc top held w) (alone s F m there top held (record w { turns = n })) true
          (turn_moves F F i looping pc next there top top held held n w m m at tt is e (λ a o. refl)))
          (rest n e)

  -- ---- what stays

  -- a word among the operands is of no variable
  operand_other : (F : Shape) (w : World) (m : List ℕ) → Stands g s F w m → (u : Spot) (a : ℕ) → base_of g s F ≤ a → a < frames_end s.first F s.name →
      IsOther g s.first F u a
  operand_other F w m h u a low high r lives older = elim (beside g s F w m h r lives) [
    | inl y ↦ inr (omega (arith, y, low))
    | inr y ↦ inl (omega (arith, y, high))
  ]

  pub operands_stay : OperandsStay g s
  operands_stay F w w' m m' t n u c h after low le high =
      let fits : t + n ≤ length m = omega (arith, high, h.layout.segments.own s.name s.lives, h.layout.segments.within s.name s.lives, h.long) in
      let one : length (words_at m' t n) ≡ n = length-words_at m' t n (omega (arith, fits, h.long, after.long)) in
      let other : length (words_at m t n) ≡ n = length-words_at m t n fits in
      same_number_lists (words_at m' t n) (words_at m t n) (one ∙ sym other) (λ i below.
      let less : i < n = omega (arith, one, below) in
      get_or-words_at m' t n i less
      ∙ after.untouched (t + i) (inl (omega (arith, less, le))) (operand_other F w m h (now F s.name) (t + i) (omega (arith, low)) (omega (arith, less, high)))
      ∙ sym (get_or-words_at m t n i less))

  pub able_above : AbleAbove g s
  able_above F w m t h t' h' held able le room = record {
    stands = able.stands;
    low = omega (arith, able.low, le);
    high = omega (arith, able.high, room);
    few = able.few;
  }

  pub able_then : AbleThen g s
  able_then F w w' m m' t h t' h' u held c able after le room = record {
    stands = stands_after g s F w w' m m' u c able.stands after;
    low = omega (arith, able.low, le);
    high = omega (arith, able.high, room);
    few = able.few;
  }

pub pops_pushes_value : (g : Coded) (s : Scene) → ValuesAreLong → PopsPushesValue g s
pops_pushes_value g s long F i pc next top t held of w m zs v stands at is low high words known typed =
    let count : length zs ≡ size g.unit.types of = ap length words ∙ long g.unit.types
    (record { table = g.fits.table; shapes = g.fits.shapes; parts = g.parts }) v of known typed in
    pops_pushes g s Value (Pushed g s of next t) v F i pc next top t held w m zs stands at is low (omega (arith, high, count)) (λ m' here. record {
      pc_is = refl;
      top_is = ap (λ n. t + n) count;
      words = ap (words_at m' t) (sym count) ∙ here ∙ words;
      typed = typed;
    })
