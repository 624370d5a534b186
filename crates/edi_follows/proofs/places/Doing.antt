-- How stretches are put together.
use Rattle.std.proofs.Common.{◌≡◌, ℕ, zero, suc, ◌≤◌, ◌⊎◌, inl, inr, Bool, true, false, ◌||◌, List, ◌++◌, Option, Some, refl, sym, subst, ap, ◌∙◌, arith}
use Rattle.edi_calls.specs.declared.kinds.Cause.{Cause}
use Rattle.edi_calls.specs.Calls.{answered, call}
use Rattle.edi_calls.specs.Outcome.{Ending}
use Rattle.edi_calls.specs.State.{State, Traced, after_call}
use Rattle.edi_meaning.specs.Store.{Store, Shape}
use Rattle.edi_meaning.specs.Evaluation.{World, Evaluation, gives, ends, ◌>>=◌}
use Rattle.edi_target.specs.Op.{Instruction}
use Rattle.edi_target.specs.Memory.{word}
use Rattle.edi_target.specs.Effect.{Local, Turn, Effect, goes, asks, fails}
use Rattle.edi_target.specs.Mach.{turned, over, answer_at, called, ending_of, is_first, effect_at, settled}
use Rattle.edi_target.specs.Moments.{news_of_call, news_of_effect}
use Rattle.edi_follows.specs.places.Coded.{Coded}
use Rattle.edi_follows.specs.places.Spots.{frames_end}
use Rattle.edi_follows.specs.places.Walks.{onward, Walker, plain, Moves, Walks, Gets, Comes, Stops}
use Rattle.edi_follows.specs.places.Scene.{Scene, Outer, alone, Stands, After, DoesSo, Does}
use Rattle.edi_follows.specs.places.Follows.{Stretch}

or_assoc : (a b c : Bool) → ((a || b) || c) ≡ (a || (b || c))
or_assoc true b c = refl
or_assoc false b c = refl

pub either_true : (a b : Bool) → (a || b) ≡ true → (a ≡ true) ⊎ (b ≡ true)
either_true true b e = inl refl
either_true false b e = inr e

-- ---- walks

module _ (fetched : ℕ → Option (Instruction × ℕ)) (live : ℕ) (first : Bool) (outer : ℕ → Type 0) where
  walks_then : (n : ℕ) (r r' r'' : Walker) (c d : Bool) → Walks fetched live first outer n r r' c → Gets fetched live first outer r' r'' d →
      Gets fetched live first outer r r'' (c || d)
  walks_then zero r r' r'' c d h k =
      subst (λ x. Gets fetched live first outer r r'' (x || d)) (sym h.1) (subst (λ x. Gets fetched live first outer x r'' d) (sym h.0) k)
  walks_then (suc n) r r' r'' c d h k =
      let rest : Gets fetched live first outer h.0 r'' (h.2 || d) = walks_then n h.0 r' r'' h.2 d h.4 k in
      record { steps = suc rest.steps; walks = (h.0, h.1, h.2 || d, h.3, rest.walks, ap (λ x. x || d) h.5 ∙ or_assoc h.1 h.2 d) }

  pub gets_then : (r r' r'' : Walker) (c d : Bool) → Gets fetched live first outer r r' c → Gets fetched live first outer r' r'' d →
      Gets fetched live first outer r r'' (c || d)
  gets_then r r' r'' c d h k = walks_then h.steps r r' r'' c d h.walks k

  pub stops_then : (r r' : Walker) (c : Bool) (e : Ending) (system : Traced) (turns : ℕ) → Gets fetched live first outer r r' c →
      Stops fetched live first outer r' e system turns → Stops fetched live first outer r e system turns
  stops_then r r' c e system turns h k = record {
    at = k.at;
    cleared = c || k.cleared;
    gets = gets_then r r' k.at c k.cleared h k.gets;
    end = k.end;
    is = k.is;
    adds = k.adds;
    system_is = k.system_is;
    turns_are = k.turns_are;
    keeps = k.keeps;
  }

  -- an instruction with this effect
  pub moves_by : (r r' : Walker) (e : Effect) (c : Bool) → effect_at fetched (fetched r.local.pc) live first r.local ≡ e →
      onward (settled e (plain r)) ≡ Some (plain r', c) → r'.system.past ≡ news_of_effect e r.system.now ++ r.system.past →
      ((a : ℕ) → outer a → word r'.local.memory a ≡ word r.local.memory a) → Moves fetched live first outer r r' c
  moves_by r r' e c is so past keeps = record {
    is = ap (λ f. onward (settled f (plain r))) is ∙ so;
    adds = past ∙ ap (λ f. news_of_effect f r.system.now ++ r.system.past) (sym is);
    keeps = keeps;
  }

  -- one that goes on with this activity
  pub moves_goes : (r : Walker) (l : Local) → effect_at fetched (fetched r.local.pc) live first r.local ≡ goes l →
      ((a : ℕ) → outer a → word l.memory a ≡ word r.local.memory a) → Moves fetched live first outer r (record r { local = l }) false
  moves_goes r l is keeps = moves_by r (record r { local = l }) (goes l) false is refl refl keeps

  pub gets_none : (r : Walker) → Gets fetched live first outer r r false
  gets_none r = record { steps = 0; walks = (refl, refl) }

  -- a system call that is answered
  pub moves_asks : (r : Walker) (number : ℕ) (arguments : List ℕ) (address : Option ℕ) (line : ℕ) (l : Local) (words : List ℕ) (system : State) →
      effect_at fetched (fetched r.local.pc) live first r.local ≡ asks number arguments address line l →
      call number arguments r.system.now ≡ answered words system → ((a : ℕ) → outer a → word (answer_at address words l).memory a ≡ word r.local.memory a) →
      Moves fetched live first outer r (record r { local = answer_at address words l; system = after_call system r.system }) false
  moves_asks r number arguments address line l words system is e keeps =
      moves_by r (record r { local = answer_at address words l; system = after_call system r.system }) (asks number arguments address line l) false is
      (ap (λ c. onward (called c address line l (plain r))) e) (ap (λ c. news_of_call c ++ r.system.past) (sym e)) keeps

  -- an instruction with this effect ends the run
  pub stops_by : (r end : Walker) (e : Effect) (ending : Ending) → effect_at fetched (fetched r.local.pc) live first r.local ≡ e →
      settled e (plain r) ≡ over ending (plain end) → end.system.past ≡ news_of_effect e r.system.now ++ r.system.past →
      ((a : ℕ) → outer a → word end.local.memory a ≡ word r.local.memory a) → Stops fetched live first outer r ending end.system end.turns
  stops_by r end e ending is so past keeps = record {
    at = r;
    cleared = false;
    gets = gets_none r;
    end = end;
    is = ap (λ f. settled f (plain r)) is ∙ so;
    adds = past ∙ ap (λ f. news_of_effect f r.system.now ++ r.system.past) (sym is);
    system_is = refl;
    turns_are = refl;
    keeps = keeps;
  }

  -- an instruction with this effect, behind others, takes a turn that the kernel handles
  pub comes_by : (r at r' : Walker) (e : Effect) (kind : Turn) (c : Bool) → Gets fetched live first outer r at c →
      effect_at fetched (fetched at.local.pc) live first at.local ≡ e → settled e (plain at) ≡ turned kind (plain r') →
      r'.system.past ≡ news_of_effect e at.system.now ++ at.system.past →
      ((a : ℕ) → outer a → word r'.local.memory a ≡ word at.local.memory a) → Comes fetched live first outer r kind r' c
  comes_by r at r' e kind c gets is so past keeps = record {
    at = at;
    gets = gets;
    is = ap (λ f. settled f (plain at)) is ∙ so;
    adds = past ∙ ap (λ f. news_of_effect f at.system.now ++ at.system.past) (sym is);
    keeps = keeps;
  }

  -- a failure
  pub stops_fails : (r : Walker) (c : Cause) (line : ℕ) → effect_at fetched (fetched r.local.pc) live first r.local ≡ fails c line →
      Stops fetched live first outer r (ending_of c line) r.system r.turns
  stops_fails r c line is = stops_by r r (fails c line) (ending_of c line) is refl refl (λ a o. refl)

  or_none : (c : Bool) → c ≡ (c || false)
  or_none true = refl
  or_none false = refl

  pub gets_one : (r r' : Walker) (c : Bool) → Moves fetched live first outer r r' c → Gets fetched live first outer r r' c
  gets_one r r' c h = record { steps = 1; walks = (r', c, false, h, (refl, refl), or_none c) }

-- ---- stretches

module _ (g : Coded) (s : Scene) where
  -- what a stretch leaves, and then another
  pub after_then : (F : Shape) (w v u : World) (m m' m'' : List ℕ) (t : ℕ) (c d : Bool) → After g s F w v m m' t c → After g s F v u m' m'' t d →
      After g s F w u m m'' t (c || d)
  after_then F w v u m m' m'' t c d h k = record {
    shaped = k.shaped;
    mirrors = k.mirrors;
    typed = k.typed;
    long = k.long;
    untouched = λ a b o. k.untouched a b o ∙ h.untouched a b o;
    turns = omega (arith, h.turns, k.turns);
    clears = λ e. elim (either_true c d e) [ inl x ↦ omega (arith, h.clears x, k.turns) | inr x ↦ omega (arith, h.turns, k.clears x) ];
  }

  -- where fewer operands are to stay
  pub after_lower : (F : Shape) (w v : World) (m m' : List ℕ) (t u : ℕ) (c : Bool) → t ≤ u → After g s F w v m m' u c → After g s F w v m m' t c
  after_lower F w v m m' t u c le h = record {
    shaped = h.shaped;
    mirrors = h.mirrors;
    typed = h.typed;
    long = h.long;
    untouched = λ a b o. h.untouched a (elim b [ inl x ↦ inl (omega (arith, x, le)) | inr x ↦ inr x ]) o;
    turns = h.turns;
    clears = h.clears;
  }

  -- all that holds of memory and variables holds after it
  pub stands_after : (F : Shape) (w v : World) (m m' : List ℕ) (t : ℕ) (c : Bool) → Stands g s F w m → After g s F w v m m' t c → Stands g s F v m'
  stands_after F w v m m' t c h k = record { shaped = k.shaped; layout = h.layout; mirrors = k.mirrors; typed = k.typed; long = k.long; others = h.others }

  -- with other turns left it is the same that stands, and that a stretch of a step has left
  pub stands_turned : (F : Shape) (w : World) (m : List ℕ) (n : ℕ) → Stands g s F w m → Stands g s F (record w { turns = n }) m
  stands_turned F w m n h = record { shaped = h.shaped; layout = h.layout; mirrors = h.mirrors; typed = h.typed; long = h.long; others = h.others }

  pub stretch_turned : (store : Store) (w : World) (m m' : List ℕ) (n : ℕ) → Stretch g s store w m m' → Stretch g s store (record w { turns = n }) m m'
  stretch_turned store w m m' n h = record {
    others = h.others;
    some = h.some;
    room = h.room;
    fine = h.fine;
    mirrors = h.mirrors;
    typed = h.typed;
    long = h.long;
    outside = h.outside;
  }

  -- a turn is taken before a stretch
  pub turn_before : (F : Shape) (w v : World) (m m' : List ℕ) (t n : ℕ) (c : Bool) → w.turns ≡ suc n → After g s F (record w { turns = n }) v m m' t c →
      After g s F w v m m' t true
  turn_before F w v m m' t n c e h = record {
    shaped = h.shaped;
    mirrors = h.mirrors;
    typed = h.typed;
    long = h.long;
    untouched = h.untouched;
    turns = omega (arith, h.turns, e);
    clears = λ q. omega (arith, h.turns, e);
  }

  module _ (A : Type 0) (F : Shape) (pc top t u held : ℕ) (w : World) (m : List ℕ) where
    -- a stretch whose operands may begin higher, at u, and what comes then
    pub bind_up : (B : Type 0) (P : A → List ℕ → ℕ → ℕ → Type 0) (Q : B → List ℕ → ℕ → ℕ → Type 0) (r : Evaluation A) (f : A → World → Evaluation B) →
        t ≤ u → Does g s F pc top u held w m P r →
        ((a : A) (v : World) (m' : List ℕ) (pc' top' : ℕ) (c : Bool) → u ≤ top' → top' ≤ frames_end s.first F s.name → After g s F w v m m' u c →
        P a m' pc' top' → Does g s F pc' top' t held v m' Q (f a v)) →
        Does g s F pc top t held w m Q (r >>= f)
    bind_up B P Q (gives a v) f le h k = record {
      is = go (f a v) (k a v h.is.memory h.is.to h.is.up h.is.cleared h.is.above h.is.within h.is.after h.is.post).is;
    }
      where
        go : (x : Evaluation B) → DoesSo g s F h.is.to h.is.up t held v h.is.memory Q x → DoesSo g s F pc top t held w m Q x
        go (gives b z) x = record {
          memory = x.memory;
          to = x.to;
          up = x.up;
          cleared = h.is.cleared || x.cleared;
          walked =
              gets_then g.fetched s.count (is_first s.name) (Outer s) (alone s F m pc top held w) (alone s F h.is.memory h.is.to h.is.up held v)
              (alone s F x.memory x.to x.up held z) h.is.cleared x.cleared h.is.walked x.walked;
          after =
              after_then F w v z m h.is.memory x.memory t h.is.cleared x.cleared
              (after_lower F w v m h.is.memory t u h.is.cleared le h.is.after) x.after;
          above = x.above;
          within = x.within;
          post = x.post;
        }
        go (ends e system turns) x =
            stops_then g.fetched s.count (is_first s.name) (Outer s) (alone s F m pc top held w) (alone s F h.is.memory h.is.to h.is.up held v)
            h.is.cleared e system turns h.is.walked x
    bind_up B P Q (ends e system turns) f le h k = record { is = h.is }

  module _ {A : Type 0} (F : Shape) (pc top t held : ℕ) (w : World) (m : List ℕ) where
    -- nothing is to be done
    pub give : (Post : A → List ℕ → ℕ → ℕ → Type 0) (a : A) → Stands g s F w m → t ≤ top → top ≤ frames_end s.first F s.name → Post a m pc top →
        Does g s F pc top t held w m Post (gives a w)
    give Post a h le top_within post = record {
      is = record {
        memory = m;
        to = pc;
        up = top;
        cleared = false;
        walked = gets_none g.fetched s.count (is_first s.name) (Outer s) (alone s F m pc top held w);
        after = record {
          shaped = h.shaped;
          mirrors = h.mirrors;
          typed = h.typed;
          long = h.long;
          untouched = λ a b o. refl;
          turns = omega arith;
          clears =
              λ e. absurd (cc);
        };
        above = le;
        within = top_within;
        post = post;
      };
    }

    -- a stretch, and what comes then; the operands of the second may begin higher
    pub bind : {B : Type 0} (P : A → List ℕ → ℕ → ℕ → Type 0) (Q : B → List ℕ → ℕ → ℕ → Type 0) (r : Evaluation A) (f : A → World → Evaluation B) →
        Does g s F pc top t held w m P r →
        ((a : A) (v : World) (m' : List ℕ) (pc' top' : ℕ) (c : Bool) → t ≤ top' → top' ≤ frames_end s.first F s.name → After g s F w v m m' t c →
        P a m' pc' top' → Does g s F pc' top' t held v m' Q (f a v)) → Does g s F pc top t held w m Q (r >>= f)
    bind {B = B} P Q r f h k = bind_up A F pc top t t held w m B P Q r f (omega arith) h k
