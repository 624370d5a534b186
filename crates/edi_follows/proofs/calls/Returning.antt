-- RETURN: the newest frame goes, and the words of the result take the place of the arguments'.
use Rattle.std.proofs.Common.{◌≡◌, ℕ, suc, ◌+◌, ◌-◌, ◌<◌, ◌≤◌, ◌^◌, ◌⊎◌, inl, inr, true, false, if◌then◌else◌, List, length, refl, sym, ap, ◌∙◌, arith}
use Rattle.std.specs.Prelude.{◌&&◌, nat_eq, nat_le}
use Rattle.std.proofs.lemmas.Bool.{le-leb, ne_eqb, and_from}
use Rattle.edi_calls.specs.Names.{Name}
use Rattle.edi_calls.specs.Outcome as outcome
use Rattle.edi_store.specs.Memory.{words_at, written}
use Rattle.edi_store.proofs.MemoryLaws.{length-words_at, get_or-written_before, get_or-written_after}
use Rattle.edi_meaning.specs.Store.{Frame, Shape, now, used, shrunk}
use Rattle.edi_meaning.specs.Evaluation.{World}
use Rattle.edi_target.specs.Op as op
use Rattle.edi_target.specs.Op.{address_of_words}
use Rattle.edi_target.specs.Memory.{word}
use Rattle.edi_target.specs.Effect.{Local, Effect, leaving, finishing, due, bad, needs, within}
use Rattle.edi_target.specs.Perform.{leave}
use Rattle.edi_target.specs.Mach.{effect_at, is_first, turn_from}
use Rattle.edi_scheme.specs.Stands as code
use Rattle.edi_follows.specs.places.Coded.{Coded}
use Rattle.edi_follows.specs.places.Spots.{address, frames_end, Fine}
use Rattle.edi_follows.specs.places.Walks.{onward, plain, Moves}
use Rattle.edi_follows.specs.places.Scene.{Scene, Outer, alone, base_of, Stands, After, stops}
use Rattle.edi_follows.proofs.places.Places.{start_within, roomy}
use Rattle.edi_follows.proofs.places.Free.{written_free, outer_kept}
use Rattle.edi_follows.proofs.places.Doing.{moves_by, stops_by}
use Rattle.edi_follows.proofs.calls.Grown.{IsGrown, new_address, now_new}
use Rattle.edi_follows.proofs.calls.Goes.{layout_less, shape_less, mirrors_less, typed_less}

-- what the frame keeps for its end: where the frame below begins, the address behind the call, and where its operands are to end
pub record Keeps (s : Scene) (F : Shape) (m : List ℕ) (back t : ℕ) : Type 0 where
  pub base : word m (frames_end s.first F s.name + 1) ≡ address s.first F (now F s.name)
  pub address : address_of_words (word m (frames_end s.first F s.name + 2)) (word m (frames_end s.first F s.name + 3)) ≡ back
  pub top : word m (frames_end s.first F s.name + 4) ≡ t

module _ (g : Coded) (s : Scene) (F G : Shape) (f : Frame) (e : IsGrown s.name f F G) (some : 0 < length (F s.name)) (v : World) (m : List ℕ)
    (h : Stands g s G v m) where
  abbrev p : Name
  p = s.name

  -- without the frame, with so many turns left
  abbrev pub outside : ℕ → World
  outside k = record v { store = shrunk p v.store; turns = k }

  pub stands_less : (k : ℕ) → Stands g s F (outside k) m
  stands_less k = record {
    shaped = shape_less g s F G f e some h.layout v.store m h.shaped h.mirrors h.typed;
    layout = layout_less g s F G f e some h.layout;
    mirrors = mirrors_less g s F G f e some h.layout v.store m h.shaped h.mirrors h.typed;
    typed = typed_less g s F G f e some h.layout v.store m h.shaped h.mirrors h.typed;
    long = h.long;
    others = λ q n. sym (e.theirs q n) ∙ h.others q n;
  }

  module _ (pc next top held r flag t back : ℕ) (at : code.InstructionStands g.fetched pc (op.return r flag) next) (k : Keeps s F m back t)
      (low : base_of g s F ≤ t)
      (high : t + r ≤ frames_end s.first F p) (result : frames_end s.first F p + 5 + r ≤ 2 ^ 16) where
    abbrev b : ℕ
    b = frames_end s.first F p

    abbrev l : Local
    l = (alone s G m pc top (held + flag) v).local

    abbrev pub results : List ℕ
    results = words_at m (b + 5) r

    abbrev pub mem : List ℕ
    mem = written m t results

    abbrev made : Local
    made = (alone s F mem back (t + r) held v).local

    results_length : length results ≡ r
    results_length = length-words_at m (b + 5) r (omega (arith, result, h.long))

    -- words beside the result's stay
    pub word_apart : (a : ℕ) → (a < t) ⊎ (s.first p + s.size p ≤ a) → word mem a ≡ word m a
    word_apart a where_is =
        let fits : t + length results ≤ length m = omega (arith, results_length, high, result, h.long) in
        let own : used (F p) ≤ s.size p = (layout_less g s F G f e some h.layout).segments.own p s.lives in
        elim where_is [
          | inl x ↦ get_or-written_before m t results a fits x
          | inr x ↦ get_or-written_after m t results a fits (omega (arith, x, results_length, high, own))
        ]

    pub outer_returns : (a : ℕ) → Outer s a → word mem a ≡ word m a
    outer_returns = outer_kept g s F (outside 0) m (stands_less 0) t results low (omega (arith, results_length, high))

    -- the words of the result are written among the operands
    pub after_result : (n : ℕ) → After g s F (outside n) (outside n) m mem t false
    after_result n = written_free g s F (outside n) m (stands_less n) t results low (omega (arith, results_length, high))

    does : effect_at g.fetched (g.fetched pc) s.count (is_first p) l ≡ due leaving made
    does =
        ap (λ o. effect_at g.fetched o s.count (is_first p) l) at
        ∙ (λ i. if nat_eq (base_is i) (s.first p) then needs (is_first p) (due finishing (record l { base = base_is i })) else leave r flag
        (word m (base_is i + 1)) (word m (base_is i + 4)) (record l { base = base_is i }))
        ∙ ap (λ c. if c then needs (is_first p) (due finishing lb) else leave r flag (word m (b + 1)) (word m (b + 4)) lb) (ne_eqb b (s.first p) not_first)
        ∙ (λ i. leave r flag (k.base i) (k.top i) lb)
        ∙ ap (λ c. needs c (within (b + 5) r gone)) tests
        ∙ ap (λ c. if c then gone else bad) (le-leb (b + 5 + r) (2 ^ 16) result)
        ∙ ap (due leaving) (λ i. record made { pc = k.address i; held = held_is i })
      where
        base_is : address s.first G (now G p) ≡ b
        base_is = ap (address s.first G) (now_new p f F G e) ∙ new_address p f F G e s.first

        lb : Local
        lb = record l { base = b }

        not_first : b ≡ s.first p → ⊥
        not_first i =
            let f0 : Fine g F (p, 0) = (layout_less g s F G f e some h.layout).fine (p, 0) some in
            omega (arith, i, start_within (F p) 0 some, roomy g F (p, 0) f0)

        held_is : held + flag - flag ≡ held
        held_is = omega arith

        gone : Effect
        gone = due leaving (record made { pc = address_of_words (word m (b + 2)) (word m (b + 3)); held = held + flag - flag })

        tests : (nat_le (s.first p) (address s.first F (now F p)) && nat_le (address s.first F (now F p) + 5) t && nat_le (t + r) b && nat_le flag
            (held + flag)) ≡ true
        tests =
            and_from _ _ (and_from _ _ (and_from _ _ (le-leb (s.first p) (address s.first F (now F p)) (omega arith))
            (le-leb (address s.first F (now F p) + 5) t (omega (arith, low)))) (le-leb (t + r) b high)) (le-leb flag (held + flag) (omega arith))

    -- there is no turn left for it
    pub ends_here : v.turns ≡ 0 → stops g s (alone s G m pc top (held + flag) v) outcome.turns v.system v.turns
    ends_here none =
        stops_by g.fetched s.count (is_first p) (Outer s) (alone s G m pc top (held + flag) v) (alone s G m pc top (held + flag) v)
        (due leaving made) outcome.turns does
        (ap (λ n. turn_from n leaving made (plain (alone s G m pc top (held + flag) v))) none) refl (λ a o. refl)

    -- a turn is taken, and the process is behind the call
    pub moves_here : (n : ℕ) → v.turns ≡ suc n → Moves g.fetched s.count (is_first p) (Outer s) (alone s G m pc top (held + flag) v)
        (alone s F mem back (t + r) held (outside n)) true
    moves_here n turns =
        moves_by g.fetched s.count (is_first p) (Outer s) (alone s G m pc top (held + flag) v) (alone s F mem back (t + r) held (outside n))
        (due leaving made) true does
        (ap (λ z. onward (turn_from z leaving made (plain (alone s G m pc top (held + flag) v)))) turns) refl outer_returns
