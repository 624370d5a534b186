-- Segments and frames: what shares no word.
use Rattle.std.proofs.Common.{◌≡◌, ◌≢◌, ℕ, zero, suc, ◌+◌, ◌<◌, ◌≤◌, ◌⊎◌, inl, inr, false, List, [], ◌∷◌, length, refl, sym, subst, ap, ◌∙◌, arith}
use Rattle.edi_calls.specs.Names.{Name, same}
use Rattle.edi_calls.proofs.Tables.{same-or-other}
use Rattle.edi_meaning.specs.Store.{Spot, Frame, Store, Shape, frame_at, reached, used, IsLive}
use Rattle.edi_target.specs.Memory.{level}
use Rattle.edi_follows.specs.places.Coded.{Coded, kept}
use Rattle.edi_follows.specs.places.Spots.{Inside, Apart, Segments, frame_start, address, block_at, Fine, Layout, Mirrors, IsNoVariable, IsOther}
use Rattle.edi_follows.specs.places.Located.{frame_of}

-- ---- segments

module _ (live waits : Name → Type 0) (first size used : Name → ℕ) (s : Segments live waits first size used) where
  -- the frames of two processes share no word
  pub frames_apart : (p q : Name) → live p → live q → same p q ≡ false → (first p + used p ≤ first q) ⊎ (first q + used q ≤ first p)
  frames_apart p q lp lq n = elim (s.pairs p q lp lq n) [
    | inl i ↦ inl i.behind
    | inr (inl i) ↦ inr i.behind
    | inr (inr (inl a)) ↦ inl (omega (arith, s.own p lp, a))
    | inr (inr (inr a)) ↦ inr (omega (arith, s.own q lq, a))
  ]

  -- a process that does not wait has the rest of its segment alone
  pub tail_free : (p q : Name) → (waits p → ⊥) → live p → live q → same p q ≡ false → (first p + size p ≤ first q) ⊎ (first q + used q ≤ first p)
  tail_free p q runs lp lq n = elim (s.pairs p q lp lq n) [
    | inl i ↦ absurd (runs i.waiting)
    | inr (inl i) ↦ inr i.behind
    | inr (inr (inl a)) ↦ inl a
    | inr (inr (inr a)) ↦ inr (omega (arith, s.own q lq, a))
  ]

-- fewer processes, other frames: what waits for one below it has kept its frames
pub changed : (live live' waits waits' : Name → Type 0) (first size size' used used' : Name → ℕ) → Segments live waits first size used →
    ((q : Name) → live' q → live q) → ((q : Name) → live' q → size' q ≡ size q) → ((q : Name) → live' q → used' q ≤ size' q) →
    ((q : Name) → live' q → waits q → waits' q × (used' q ≡ used q)) → Segments live' waits' first size' used'
changed live live' waits waits' first size size' used used' s fewer sizes own same_frames = record {
  own = own;
  within = λ p l. omega (arith, s.within p (fewer p l), sizes p l);
  pairs = λ p q lp lq n. go p q lp lq (s.pairs p q (fewer p lp) (fewer q lq) n);
}
  where
    inside : (p q : Name) → live' p → live' q → Inside live waits first size used p q → Inside live' waits' first size' used' p q
    inside p q lp lq i =
        let k : waits' p × (used' p ≡ used p) = same_frames p lp i.waiting in
        record { waiting = k.0; below = i.below; behind = omega (arith, i.behind, k.1); within = omega (arith, i.within, sizes p lp, sizes q lq) }

    go : (p q : Name) → live' p → live' q → Inside live waits first size used p q ⊎
        (Inside live waits first size used q p ⊎ Apart live waits first size used p q) → Inside live' waits' first size' used' p q
        ⊎ (Inside live' waits' first size' used' q p ⊎ Apart live' waits' first size' used' p q)
    go p q lp lq (inl i) = inl (inside p q lp lq i)
    go p q lp lq (inr (inl i)) = inr (inl (inside q p lq lp i))
    go p q lp lq (inr (inr (inl x))) = inr (inr (inl (omega (arith, x, sizes p lp, sizes q lq))))
    go p q lp lq (inr (inr (inr x))) = inr (inr (inr (omega (arith, x, sizes p lp, sizes q lq))))

-- ---- frames of one process

pub start_end : (fs : List Frame) → frame_start fs (length fs) ≡ used fs
start_end [] = refl
start_end (f ∷ fs) = ap (λ n. f.need + n) (start_end fs)

pub start_later : (fs : List Frame) (d e : ℕ) → d < e → e ≤ length fs → frame_start fs d + (frame_of fs d).need ≤ frame_start fs e
start_later fs d zero h k = absurd (omega arith)
start_later [] d (suc e) h k = absurd (omega arith)
start_later (f ∷ fs) zero (suc e) h k = omega arith
start_later (f ∷ fs) (suc d) (suc e) h k = omega (arith, start_later fs d e (omega arith) (omega arith))

pub start_within : (fs : List Frame) (d : ℕ) → d < length fs → frame_start fs d + (frame_of fs d).need ≤ used fs
start_within fs d h = omega (arith, start_later fs d (length fs) h (omega arith), start_end fs)

-- ---- frames of all processes

-- a frame has room for its links and variables
pub roomy : (g : Coded) (F : Shape) (s : Spot) → Fine g F s → kept g (block_at g F s) ≤ (frame_at F s).need
roomy g F s f = omega (arith, f.needs, (g.fits.fits_blocks (block_at g F s) f.known).needs)

abbrev pub Differ : Spot → Spot → Type 0
Differ s r = (same s.0 r.0 ≡ false) ⊎ ((s.0 ≡ r.0) × (s.1 ≢ r.1))

trichotomy : (a b : ℕ) → (a < b) ⊎ ((a ≡ b) ⊎ (b < a))
trichotomy a b = grind arith

pub same_or_differ : (s r : Spot) → (s ≡ r) ⊎ Differ s r
same_or_differ s r = go (same-or-other s.0 r.0) (trichotomy s.1 r.1)
  where
    go : (s.0 ≡ r.0) ⊎ (same s.0 r.0 ≡ false) → (s.1 < r.1) ⊎ ((s.1 ≡ r.1) ⊎ (r.1 < s.1)) → (s ≡ r) ⊎ Differ s r
    go (inr n) t = inr (inl n)
    go (inl e) (inl a) = inr (inr (e, omega arith))
    go (inl e) (inr (inl a)) = inl (λ j. (e j, a j))
    go (inl e) (inr (inr a)) = inr (inr (e, omega arith))

module _ (g : Coded) (live waits : Name → Type 0) (first size : Name → ℕ) (F : Shape) (l : Layout g live waits first size F) where
  -- two different frames share no word
  pub apart : (s r : Spot) → IsLive F s → IsLive F r → Differ s r → (address first F s + (frame_at F s).need ≤ address first F r)
      ⊎ (address first F r + (frame_at F r).need ≤ address first F s)
  apart s r ls lr (inl n) = elim (frames_apart live waits first size (λ p. used (F p)) l.segments s.0 r.0 (l.owner s ls) (l.owner r lr) n) [
    | inl a ↦ inl (omega (arith, a, start_within (F s.0) s.1 ls))
    | inr a ↦ inr (omega (arith, a, start_within (F r.0) r.1 lr))
  ]
  apart s r ls lr (inr e) = go (trichotomy s.1 r.1)
    where
      fs : F r.0 ≡ F s.0
      fs = ap F (sym e.0)

      base : first r.0 ≡ first s.0
      base = ap first (sym e.0)

      lr' : r.1 < length (F s.0)
      lr' = subst (λ l. r.1 < length l) fs lr

      rs : frame_start (F r.0) r.1 ≡ frame_start (F s.0) r.1
      rs = ap (λ l. frame_start l r.1) fs

      rn : (frame_of (F r.0) r.1).need ≡ (frame_of (F s.0) r.1).need
      rn = ap (λ l. (frame_of l r.1).need) fs

      go : (s.1 < r.1) ⊎ ((s.1 ≡ r.1) ⊎ (r.1 < s.1)) → (address first F s + (frame_at F s).need ≤ address first F r)
          ⊎ (address first F r + (frame_at F r).need ≤ address first F s)
      go (inl a) = let h : r.1 ≤ length (F s.0) = omega (arith, lr') in inl (omega (arith, start_later (F s.0) s.1 r.1 a h, base, rs))
      go (inr (inl a)) = absurd (e.1 a)
      go (inr (inr a)) = let h : s.1 ≤ length (F s.0) = omega (arith, ls) in inr (omega (arith, start_later (F s.0) r.1 s.1 a h, base, rs, rn))

  -- the five links of a frame are words of no variable
  pub control_other : (u s : Spot) (j : ℕ) → IsLive F s → j < 5 → IsOther g first F u (address first F s + j)
  control_other u s j ls h r lr older = go (same_or_differ s r)
    where
      go : (s ≡ r) ⊎ Differ s r → IsNoVariable g first F r (address first F s + j)
      go (inl e) = let f : address first F s ≡ address first F r = ap (address first F) e in inl (omega (arith, f, h))
      go (inr d) = elim (apart s r ls lr d) [
        | inl a ↦ inl (omega (arith, a, roomy g F s (l.fine s ls), h))
        | inr a ↦ inr (omega (arith, a, roomy g F r (l.fine r lr)))
      ]

  pub reached_live : (k : ℕ) (s : Spot) → IsLive F s → IsLive F (reached F k s)
  reached_live zero s h = h
  reached_live (suc k) s h = reached_live k (frame_at F s).parent (l.fine s h).parent

  pub level_is : (store : Store) (m : List ℕ) → Mirrors g first F store m → (k : ℕ) (s : Spot) → IsLive F s →
      level m k (address first F s) ≡ address first F (reached F k s)
  level_is store m r zero s h = refl
  level_is store m r (suc k) s h = ap (level m k) (r.link s h) ∙ level_is store m r k (frame_at F s).parent (l.fine s h).parent
