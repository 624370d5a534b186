-- A process between its steps: what a stretch leaves, where it stands and what its segment's words are.
use Rattle.std.proofs.Common.{◌≡◌, ℕ, zero, suc, ◌+◌, ◌<◌, ◌≤◌, ◌⊎◌, Bool, false, List, length, refl, sym, subst, ap, ◌∙◌}
use Rattle.std.proofs.lemmas.Bool.{lt-ltb}
use Rattle.edi_calls.specs.Names.{Name, same}
use Rattle.edi_meaning.specs.Store.{Store, Shape, shape, now, used}
use Rattle.edi_meaning.specs.Evaluation.{World}
use Rattle.edi_meaning.specs.Step.{Work}
use Rattle.edi_target.specs.Op as op
use Rattle.edi_target.specs.Memory.{word}
use Rattle.edi_target.specs.Effect.{needs, to}
use Rattle.edi_target.specs.Mach.{effect_at, is_first}
use Rattle.edi_scheme.specs.Stands as code
use Rattle.edi_follows.specs.places.Coded.{Coded}
use Rattle.edi_follows.specs.places.Spots.{Fine, Mirrors, Typed, IsOther, bottom}
use Rattle.edi_follows.specs.places.Located.{Hops}
use Rattle.edi_follows.specs.places.Walks.{Walker, Moves}
use Rattle.edi_follows.specs.places.Scene.{Scene, Outer, alone, base_of, Stands, gets}
use Rattle.edi_follows.specs.places.Follows.{Stretch, GoesOn}
use Rattle.edi_follows.specs.places.Steps.{work_at}
use Rattle.edi_follows.proofs.places.Doing.{moves_goes, gets_none, gets_one, gets_then}

module _ (g : Coded) (s : Scene) (F : Shape) (w : World) (m : List ℕ) (h : Stands g s F w m) where
  abbrev p : Name
  p = s.name

  pub now_shape : F ≡ shape w.store
  now_shape = λ i y. sym (h.shaped.each y) i

  -- since this store and memory
  module _ (store : Store) (from : List ℕ) (others : (q : Name) → same q p ≡ false → F q ≡ shape store q)
      (outside : (a : ℕ) → (a < s.first p) ⊎ (s.first p + s.size p ≤ a) → IsOther g s.first (shape store) (now (shape store) p) a →
      word m a ≡ word from a) where
    pub stretch_since : Stretch g s store w from m
    stretch_since = record {
      others = λ q n. h.shaped.each q ∙ others q n;
      some = subst (λ G. 0 < length (G p)) now_shape (h.layout.some p s.lives);
      room = subst (λ G. used (G p) ≤ s.size p) now_shape (h.layout.segments.own p s.lives);
      fine = subst (λ G. (e : ℕ) → e < length (G p) → Fine g G (p, e)) now_shape (λ e l. h.layout.fine (p, e) l);
      mirrors = subst (λ G. Mirrors g s.first G w.store m) now_shape h.mirrors;
      typed = subst (λ G. Typed g G w.store) now_shape h.typed;
      long = h.long;
      outside = outside;
    }

    -- it rests, and its work stands there
    pub goes_on_from : (r : Walker) (cleared : Bool) (ws : List Work) (pc : ℕ) → gets g s r (alone s F m pc (base_of g s F) 0 w) cleared →
        work_at g s F m ws pc → GoesOn g s store from r ws w
    goes_on_from r cleared ws pc there at = record {
      memory = m;
      pc = pc;
      cleared = cleared;
      gets_there = subst (λ G. gets g s r (alone s G m pc (bottom g s.first G p) 0 w) cleared) now_shape there;
      stretch = stretch_since;
      at = subst (λ G. work_at g s G m ws pc) now_shape at;
    }

  -- ---- jumps

  jump_moves : (a b next top held : ℕ) → code.InstructionStands g.fetched a (op.jump b) next → a < b →
      Moves g.fetched s.count (is_first p) (Outer s) (alone s F m a top held w) (alone s F m b top held w) false
  jump_moves a b next top held at up =
      moves_goes g.fetched s.count (is_first p) (Outer s) (alone s F m a top held w) (alone s F m b top held w).local
      (ap (λ o. effect_at g.fetched o s.count (is_first p) (alone s F m a top held w).local) at
      ∙ ap (λ y. needs y (to b (alone s F m a top held w).local)) (lt-ltb a b up)) (λ y o. refl)

  pub hops_lead : (n a b top held : ℕ) → Hops g n a b → gets g s (alone s F m a top held w) (alone s F m b top held w) false
  hops_lead zero a b top held k = subst (λ y. gets g s (alone s F m a top held w) (alone s F m y top held w) false) k
      (gets_none g.fetched s.count (is_first p) (Outer s) (alone s F m a top held w))
  hops_lead (suc n) a b top held k =
      gets_then g.fetched s.count (is_first p) (Outer s) (alone s F m a top held w) (alone s F m k.0 top held w) (alone s F m b top held w) false false
      (gets_one g.fetched s.count (is_first p) (Outer s) (alone s F m a top held w) (alone s F m k.0 top held w) false
      (jump_moves a k.0 k.1 top held k.2 k.3)) (hops_lead n k.0 b top held k.4)
