-- Words above a process's variables are free: what is written there changes nothing that the memory stands for. So values are
-- pushed.
use Rattle.std.proofs.Common.{◌≡◌, ℕ, zero, suc, ◌+◌, ◌-◌, ◌<◌, ◌≤◌, ◌⊎◌, inl, inr, false, if◌then◌else◌, List, [], ◌∷◌, take, length, Some, refl, sym}
use Rattle.std.proofs.Common.{subst, ap, ◌∙◌, arith}
use Rattle.std.specs.Prelude.{sum_by, slice_get}
use Rattle.std.proofs.lemmas.Bool.{le-leb}
use Rattle.std.proofs.lemmas.List.Sums.{sum_by-cons}
use Rattle.edi_store.specs.Memory.{words_at, written}
use Rattle.edi_store.proofs.MemoryLaws.{length-written, get_or-written_before, get_or-written_after, words_at-written, words_at-written_apart}
use Rattle.edi_unit.specs.declared.units.Parameter.{Parameter}
use Rattle.edi_unit.specs.Types.{size}
use Rattle.edi_unit.specs.Values.{Value, IsOf}
use Rattle.edi_unit.specs.Need.{slots, slot_words}
use Rattle.edi_meaning.specs.Store as meaning
use Rattle.edi_meaning.specs.Store.{Spot, Frame, Store, frame_at, now, used, cell, IsLive}
use Rattle.edi_meaning.specs.Evaluation.{World, gives}
use Rattle.edi_target.specs.Op.{Instruction}
use Rattle.edi_target.specs.Memory.{word}
use Rattle.edi_target.specs.Effect.{Local, Effect, bad, push, to}
use Rattle.edi_target.specs.Mach.{effect_at, is_first}
use Rattle.edi_follows.specs.places.Coded.{Coded, block, slot_in, slots_of, words_in, offset, kept}
use Rattle.edi_follows.specs.values.Words.{value_words}
use Rattle.edi_follows.specs.places.Spots.{frame_start, address, frames_end, block_at, Layout, slot_address}
use Rattle.edi_follows.specs.places.Located.{frame_of}
use Rattle.edi_follows.specs.places.Scene.{Scene, Outer, alone, base_of, Stands, After, Does}
use Rattle.edi_follows.specs.places.Claims.{Pushed}
use Rattle.edi_follows.proofs.places.Places.{start_within, roomy, Differ, same_or_differ, apart}
use Rattle.edi_follows.proofs.places.Doing.{moves_goes, gets_one}

-- ---- variables in a frame

within_sum : (g : Coded) (ps : List Parameter) (v : ℕ) → v < length ps → sum_by (slot_words g.unit.types) (take v ps) + words_in g (slice_get ps v) ≤ sum_by
    (slot_words g.unit.types) ps
within_sum g [] v h = absurd (omega arith)
within_sum g (p ∷ ps) zero h = omega (arith, sum_by-cons (slot_words g.unit.types) p ps)
within_sum g (p ∷ ps) (suc v) h =
    omega (arith, sum_by-cons (slot_words g.unit.types) p ps, sum_by-cons (slot_words g.unit.types) p (take v ps), within_sum g ps v (omega arith))

-- a variable's words lie behind the links and within the frame's variables
pub slot_within : (g : Coded) (b v : ℕ) → v < slots_of g b → offset g b v + words_in g (slot_in g b v) ≤ kept g b
slot_within g b v h = omega (arith, within_sum g (slots (block g b)) v h)

-- the newest frame ends where the frames of its process end
last_frame : (fs : List Frame) → 0 < length fs → frame_start fs (length fs - 1) + (frame_of fs (length fs - 1)).need ≡ used fs
last_frame [] h = absurd (omega arith)
last_frame (f ∷ []) h = omega arith
last_frame (f ∷ k ∷ fs) h =
    let e : length (f ∷ k ∷ fs) - 1 ≡ suc (length (k ∷ fs) - 1) = omega arith in
    subst (λ n. frame_start (f ∷ k ∷ fs) n + (frame_of (f ∷ k ∷ fs) n).need ≡ used (f ∷ k ∷ fs)) (sym e) (omega (arith, last_frame (k ∷ fs) (omega arith)))

module _ (g : Coded) (s : Scene) (F : meaning.Shape) (w : World) (m : List ℕ) (h : Stands g s F w m) where
  abbrev lay : Layout g s.live s.waits s.first s.size F
  lay = h.layout

  some : 0 < length (F s.name)
  some = lay.some s.name s.lives

  now_lives : IsLive F (now F s.name)
  now_lives = omega (arith, some)

  pub now_ends : address s.first F (now F s.name) + (frame_at F (now F s.name)).need ≡ frames_end s.first F s.name
  now_ends = omega (arith, last_frame (F s.name) some)

  -- links and variables of a live instance lie below the operands, or behind the frames of the process
  pub beside : (z : Spot) → IsLive F z → (address s.first F z + kept g (block_at g F z) ≤ base_of g s F) ⊎ (frames_end s.first F s.name ≤ address s.first F z)
  beside z l = go (same_or_differ z (now F s.name))
    where
      go : (z ≡ now F s.name) ⊎ Differ z (now F s.name) → (address s.first F z + kept g (block_at g F z) ≤ base_of g s F)
          ⊎ (frames_end s.first F s.name ≤ address s.first F z)
      go (inl e) = let same : address s.first F z + kept g (block_at g F z) ≡ base_of g s F = ap (λ y. address s.first F y + kept g (block_at g F y)) e in
          inl (omega (arith, same))
      go (inr d) = elim (apart g s.live s.waits s.first s.size F lay z (now F s.name) l now_lives d) [
        | inl a ↦ inl (omega (arith, a, roomy g F z (lay.fine z l)))
        | inr a ↦ inr (omega (arith, a, now_ends))
      ]

  -- and within the memory
  pub in_memory : (z : Spot) → IsLive F z → address s.first F z + kept g (block_at g F z) ≤ length m
  in_memory z l =
      omega (
        arith,
        h.long,
        roomy g F z (lay.fine z l),
        start_within (F z.0) z.1 l,
        lay.segments.own z.0 (lay.owner z l),
        lay.segments.within z.0 (lay.owner z l),
      )

  module _ (t : ℕ) (ws : List ℕ) (low : base_of g s F ≤ t) (high : t + length ws ≤ frames_end s.first F s.name) where
    inside : t + length ws ≤ s.first s.name + s.size s.name
    inside = omega (arith, high, lay.segments.own s.name s.lives)

    fits : t + length ws ≤ length m
    fits = omega (arith, inside, lay.segments.within s.name s.lives, h.long)

    -- what is written among the operands from t on
    pub written_free : After g s F w w m (written m t ws) t false
    written_free = record {
      shaped = h.shaped;
      mirrors = record {
        link = λ z l. link z l (beside z l) ∙ h.mirrors.link z l;
        cells = λ z v l k. words_at-written_apart m t ws (slot_address g s.first F z v) (words_in g (slot_in g (block_at g F z) v)) fits
            (omega (arith, in_memory z l, slot_within g (block_at g F z) v k))
            (elim (beside z l) [
              | inl a ↦ inl (omega (arith, a, low, slot_within g (block_at g F z) v k))
              | inr a ↦ inr (omega (arith, a, high))
            ])
            ∙ h.mirrors.cells z v l k;
      };
      typed = h.typed;
      long = length-written m t ws fits ∙ h.long;
      untouched = λ a b o. elim b [ inl x ↦ get_or-written_before m t ws a fits x | inr x ↦ get_or-written_after m t ws a fits (omega (arith, x, inside)) ];
      turns = omega arith;
      clears = λ e. absurd (cc);
    }
      where
        link : (z : Spot) → IsLive F z → (address s.first F z + kept g (block_at g F z) ≤ base_of g s F)
            ⊎ (frames_end s.first F s.name ≤ address s.first F z) → word (written m t ws) (address s.first F z) ≡ word m (address s.first F z)
        link z l (inl a) = get_or-written_before m t ws (address s.first F z) fits (omega (arith, a, low))
        link z l (inr a) = get_or-written_after m t ws (address s.first F z) fits (omega (arith, a, high))

    -- no word outside the segment is written
    pub outer_kept : (a : ℕ) → Outer s a → word (written m t ws) a ≡ word m a
    outer_kept a o = elim o.0 [
      | inl x ↦ get_or-written_before m t ws a fits (omega (arith, x, low))
      | inr x ↦ get_or-written_after m t ws a fits (omega (arith, x, inside))
    ]

  -- a push, where there is room
  pushed : (ws : List ℕ) (l : Local) (k : Local → Effect) → l.top + length ws ≤ l.end → push ws l k ≡ k
      (record l { memory = written l.memory l.top ws; top = l.top + length ws })
  pushed ws l k room = ap (λ b. if b then k (record l { memory = written l.memory l.top ws; top = l.top + length ws }) else bad)
      (le-leb (l.top + length ws) l.end room)

  -- an instruction that pushes the words of a value
  pub pushes : (i : Instruction) (pc next t held of : ℕ) (v : Value) (ws : List ℕ) → g.fetched pc ≡ Some (i, next) →
      effect_at g.fetched (Some (i, next)) s.count (is_first s.name) (alone s F m pc t held w).local ≡ push ws (alone s F m pc t held w).local (to next) →
      ws ≡ value_words v → length ws ≡ size g.unit.types of → IsOf g.unit.types v of → base_of g s F ≤ t → t + length ws ≤ frames_end s.first F s.name →
      Does g s F pc t t held w m (Pushed g s of next t) (gives v w)
  pushes i pc next t held of v ws at does is long typed low high = record {
    is = record {
      memory = written m t ws;
      to = next;
      up = t + length ws;
      cleared = false;
      walked = gets_one g.fetched s.count (is_first s.name) (Outer s) _ _ false
          (moves_goes g.fetched s.count (is_first s.name) (Outer s) (alone s F m pc t held w) (alone s F (written m t ws) next (t + length ws) held w).local
          (ap (λ o. effect_at g.fetched o s.count (is_first s.name) (alone s F m pc t held w).local) at ∙ does
          ∙ pushed ws (alone s F m pc t held w).local (to next) high) (outer_kept t ws low high));
      after = written_free t ws low high;
      above = omega arith;
      within = high;
      post = record {
        pc_is = refl;
        top_is = ap (λ n. t + n) long;
        words = ap (words_at (written m t ws) t) (sym long) ∙ words_at-written m t ws (fits t ws low high) ∙ is;
        typed = typed;
      };
    };
  }
