-- A frame goes: the newest instance of a process ends, and all that holds of memory and variables holds without it.
use Rattle.std.proofs.Common.{◌≡◌, ℕ, zero, suc, ◌+◌, ◌-◌, ◌<◌, ◌≤◌, ◌⊎◌, inl, inr, false, List, [], ◌∷◌, take, length, length-append, refl, sym, subst, ap}
use Rattle.std.proofs.Common.{◌∙◌, arith}
use Rattle.std.specs.Prelude.{slice_index_or}
use Rattle.edi_calls.specs.Names.{Name, same}
use Rattle.edi_calls.proofs.Tables.{same-or-other}
use Rattle.edi_store.specs.Memory.{words_at}
use Rattle.edi_meaning.specs.Store.{Spot, no_cell, Frame, Instance, Store, Shape, instances, frames, shape, frame_at, used, cells_in, cell, shrunk, IsLive}
use Rattle.edi_meaning.specs.Store.{Older}
use Rattle.edi_meaning.proofs.Frames.{HasShape, shape-shrunk, length-frames}
use Rattle.edi_meaning.proofs.Own.{instances-same, instances-other}
use Rattle.edi_target.specs.Memory.{word}
use Rattle.edi_follows.specs.places.Coded.{Coded, slot_in, slots_of, words_in, offset, heading_of}
use Rattle.edi_follows.specs.places.Spots.{address, block_at, Fine, Layout, Mirrors, Typed, Holds, cell_words}
use Rattle.edi_follows.specs.places.Scene.{Scene}
use Rattle.edi_follows.proofs.places.Places.{changed}
use Rattle.edi_follows.proofs.calls.Grown.{IsGrown, old_lives, old_frame, old_address, ends_later, used_other, older_old, Stays, words_stay}
use Rattle.edi_follows.proofs.calls.Comes.{fine_stays}

cells_taken : (n : ℕ) (is : List Instance) (d : ℕ) → d < n → cells_in (take n is) d ≡ cells_in is d
cells_taken zero is d h = absurd (omega (arith, h))
cells_taken (suc n) [] d h = refl
cells_taken (suc n) (i ∷ is) zero h = refl
cells_taken (suc n) (i ∷ is) (suc d) h = cells_taken n is d (omega (arith, h))

module _ (g : Coded) (s : Scene) (F G : Shape) (f : Frame) (e : IsGrown s.name f F G) (some : 0 < length (F s.name))
    (lay : Layout g s.live s.waits s.first s.size G) where
  abbrev p : Name
  p = s.name

  -- what lived without the new frame stays
  pub stays : (y : Spot) → IsLive F y → Stays g s.first G F y
  stays y l = record { lives = l; at = sym (old_address p f F G e s.first y l); of = sym (ap (λ x. x.block) (old_frame p f F G e y l)) }

  -- and means what stays
  pub meant_stays : (y z : Spot) → IsLive F z → IsLive G y → Older y z → Stays g s.first G F y
  meant_stays y z l k o = stays y (older_old p f F G e (λ z l n o. s.lowest z.0 (lay.owner z (old_lives p f F G e z l)) n o) y z l k o)

  pub layout_less : Layout g s.live s.waits s.first s.size F
  layout_less = record {
    segments =
        changed s.live s.live s.waits s.waits s.first s.size s.size (λ q. used (G q)) (λ q. used (F q)) lay.segments (λ q l. l) (λ q l. refl)
        (λ q l. own q l (same-or-other q p)) (λ q l v. (v, kept_used q v (same-or-other q p)));
    owner = λ z l. lay.owner z (old_lives p f F G e z l);
    some = λ q l. some_of q l (same-or-other q p);
    fine = λ z l.
        let k : IsLive G z = old_lives p f F G e z l in
        let i : frame_at F z ≡ frame_at G z = sym (old_frame p f F G e z l) in
        let fz : Fine g G z = lay.fine z k in
        let st : Stays g s.first G F (frame_at G z).parent = meant_stays (frame_at G z).parent z l fz.parent fz.older in
        fine_stays g G F z i (sym (old_frame p f F G e (frame_at G z).parent st.lives)) st.lives fz;
  }
    where
      own : (q : Name) → s.live q → (q ≡ p) ⊎ (same q p ≡ false) → used (F q) ≤ s.size q
      own q l (inl i) = let k : used (G p) ≤ s.size p = lay.segments.own p s.lives in subst (λ y. used (F y) ≤ s.size y) (sym i)
          (omega (arith, ends_later p f F G e, k))
      own q l (inr n) = omega (arith, used_other p f F G e q n, lay.segments.own q l)

      kept_used : (q : Name) → s.waits q → (q ≡ p) ⊎ (same q p ≡ false) → used (F q) ≡ used (G q)
      kept_used q v (inl i) = absurd (s.runs (subst s.waits i v))
      kept_used q v (inr n) = sym (used_other p f F G e q n)

      some_of : (q : Name) → s.live q → (q ≡ p) ⊎ (same q p ≡ false) → 0 < length (F q)
      some_of q l (inl i) = subst (λ y. 0 < length (F y)) (sym i) some
      some_of q l (inr n) = subst (λ fs. 0 < length fs) (e.theirs q n) (lay.some q l)

  module _ (store : Store) (m : List ℕ) (shaped : HasShape G store) (mirrors : Mirrors g s.first G store m) (typed : Typed g G store) where
    abbrev pub store' : Store
    store' = shrunk p store

    pub shape_less : HasShape F store'
    shape_less = record { each = λ r. go r (same-or-other r p) }
      where
        go : (r : Name) → (r ≡ p) ⊎ (same r p ≡ false) → shape store' r ≡ F r
        go r (inl i) = ap (shape store') i ∙ shape-shrunk p store (F p) f (shaped.each p ∙ e.mine) ∙ sym (ap F i)
        go r (inr n) = ap frames (instances-other store p r _ n) ∙ shaped.each r ∙ e.theirs r n

    cells_same : (z : Spot) → IsLive F z → cells_in (instances store' z.0) z.1 ≡ cells_in (instances store z.0) z.1
    cells_same z l = go (same-or-other z.0 p)
      where
        go : (z.0 ≡ p) ⊎ (same z.0 p ≡ false) → cells_in (instances store' z.0) z.1 ≡ cells_in (instances store z.0) z.1
        go (inl i) =
            let l' : z.1 < length (F p) = subst (λ y. z.1 < length (F y)) i l in
            let count : length (instances store p) ≡ suc (length (F p)) = omega
            (arith, length-frames (instances store p), ap length (shaped.each p), ap length e.mine, length-append (F p) (f ∷ [])) in
            ap (λ y. cells_in (instances store' y) z.1) i ∙ ap (λ is. cells_in is z.1) (instances-same store p _)
            ∙ cells_taken (length (instances store p) - 1) (instances store p) z.1 (omega (arith, l', count))
            ∙ ap (λ y. cells_in (instances store y) z.1) (sym i)
        go (inr n) = ap (λ is. cells_in is z.1) (instances-other store p z.0 _ n)

    both : (z : Spot) (v : ℕ) → IsLive F z → v < slots_of g (block_at g F z) →
        (cell_words g s.first F (cell store z v) ≡ cell_words g s.first G (cell store z v))
        × Holds g F z (heading_of g (block_at g F z) v) (slot_in g (block_at g F z) v) (cell store z v)
    both z v l k =
        let b : block_at g G z ≡ block_at g F z = sym (stays z l).of in
        words_stay g s.first G F z z (heading_of g (block_at g F z) v) (slot_in g (block_at g F z) v) (cell store z v) (λ y k o. (meant_stays y z l k o, o))
        (subst (λ u. Holds g G z (heading_of g u v) (slot_in g u v) (cell store z v)) b
        (typed.holds z v (old_lives p f F G e z l) (subst (λ u. v < slots_of g u) (sym b) k)))

    pub mirrors_less : Mirrors g s.first F store' m
    mirrors_less = record {
      link = λ z l.
          let k : IsLive G z = old_lives p f F G e z l in
          let fz : Fine g G z = lay.fine z k in
          ap (word m) (stays z l).at ∙ mirrors.link z k
          ∙ sym (meant_stays (frame_at G z).parent z l fz.parent fz.older).at
          ∙ ap (λ (y : Frame). address s.first F y.parent) (old_frame p f F G e z l);
      cells = λ z v l k.
          let b : block_at g F z ≡ block_at g G z = (stays z l).of in
          (λ j. words_at m ((stays z l).at j + offset g (b j) v) (words_in g (slot_in g (b j) v)))
          ∙ mirrors.cells z v (old_lives p f F G e z l) (subst (λ u. v < slots_of g u) b k)
          ∙ sym (both z v l k).0
          ∙ ap (λ cs. cell_words g s.first F (slice_index_or cs v no_cell)) (sym (cells_same z l));
    }

    pub typed_less : Typed g F store'
    typed_less = record {
      count = λ z l. ap length (cells_same z l) ∙ typed.count z (old_lives p f F G e z l) ∙ sym (ap (slots_of g) (stays z l).of);
      holds = λ z v l k. subst (λ cs. Holds g F z (heading_of g (block_at g F z) v) (slot_in g (block_at g F z) v) (slice_index_or cs v no_cell))
          (sym (cells_same z l)) (both z v l k).1;
    }
