-- A frame comes: a block is entered, and all that holds of memory and variables holds with the new instance.
use Rattle.std.proofs.Common.{◌≡◌, ℕ, zero, suc, ◌+◌, ◌<◌, ◌≤◌, ◌^◌, ◌⊎◌, inl, inr, false, List, [], ◌∷◌, ◌++◌, take, length, get_or, refl, sym, subst, ap}
use Rattle.std.proofs.Common.{◌∙◌, arith}
use Rattle.std.specs.Prelude.{IsTrue, sum_by, slice_index_or}
use Rattle.edi_calls.specs.Names.{Name, same}
use Rattle.edi_calls.proofs.Tables.{same-or-other, same-symmetric}
use Rattle.edi_store.specs.Memory.{words_at, written}
use Rattle.edi_store.proofs.MemoryLaws.{length-written, get_or-written_before, get_or-written_here, get_or-written_after, words_at-written}
use Rattle.edi_store.proofs.MemoryLaws.{words_at-written_apart}
use Rattle.edi_unit.specs.Need.{slots, slot_words, variable_words, acts_height}
use Rattle.edi_unit.specs.Fits.{block_heading, is_called}
use Rattle.edi_unit.specs.Headings.{heading_formals}
use Rattle.edi_meaning.specs.Store.{Spot, Cell, no_cell, Frame, Instance, Store, Shape, instances, frames, shape, frame_at, now, used, cells_in, cell, grown}
use Rattle.edi_meaning.specs.Store.{Owns, IsLive, Older, within, above}
use Rattle.edi_meaning.specs.Evaluation.{World}
use Rattle.edi_meaning.specs.Whole.{instance_of}
use Rattle.edi_meaning.proofs.Frames.{HasShape, own_shape, shape-grown, length-frames}
use Rattle.edi_meaning.proofs.Own.{instances-same, instances-other}
use Rattle.edi_target.specs.Memory.{word}
use Rattle.edi_follows.specs.values.Words.{ValuesAreLong, ZeroIsZeros}
use Rattle.edi_follows.specs.places.Coded.{Coded, block, slot_in, slots_of, words_in, offset, kept, heading_of}
use Rattle.edi_follows.specs.places.Spots.{address, frames_end, block_at, Fine, Segments, Layout, Mirrors, Typed, Holds, slot_address, cell_words, cells_words}
use Rattle.edi_follows.specs.places.Scene.{Scene, Outer, Stands}
use Rattle.edi_follows.specs.places.Claims.{CellsFit}
use Rattle.edi_follows.proofs.places.Places.{tail_free, changed, start_within, roomy}
use Rattle.edi_follows.proofs.places.Free.{slot_within}
use Rattle.edi_follows.proofs.places.Rows.{part_stands, Aligned, aligned_length, aligned_count, row_words}
use Rattle.edi_follows.proofs.calls.Grown.{IsGrown, new, longer, old_lives, which, new_frame, old_frame, new_address, old_address, ends_later, used_other, Stays}
use Rattle.edi_follows.proofs.calls.Grown.{words_stay}
use Rattle.edi_follows.proofs.calls.Cells.{hold_at, all_aligned, all_hold}

-- ---- one list of instances

cells_old : (is : List Instance) (i : Instance) (d : ℕ) → d < length is → cells_in (is ++ i ∷ []) d ≡ cells_in is d
cells_old [] i d h = absurd (omega arith)
cells_old (x ∷ is) i zero h = refl
cells_old (x ∷ is) i (suc d) h = cells_old is i d (omega (arith, h))

cells_new : (is : List Instance) (i : Instance) → cells_in (is ++ i ∷ []) (length is) ≡ i.cells
cells_new [] i = refl
cells_new (x ∷ is) i = cells_new is i

-- an instance with the same frame, whose parent has the same frame
pub fine_stays : (g : Coded) (F G : Shape) (z : Spot) → frame_at G z ≡ frame_at F z → frame_at G (frame_at F z).parent ≡ frame_at F (frame_at F z).parent →
    IsLive G (frame_at F z).parent → Fine g F z → Fine g G z
fine_stays g F G z i k lives h = record {
  known = subst (λ x. x.block < length g.unit.blocks) (sym i) h.known;
  needs = subst (λ x. x.need ≡ (block g x.block).need) (sym i) h.needs;
  parent = subst (λ x. IsLive G x.parent) (sym i) lives;
  older = subst (λ x. Older x.parent z) (sym i) h.older;
  up = subst (λ x. block_at g G x.parent ≡ (block g x.block).up) (sym i) (ap (λ x. x.block) k ∙ h.up);
}

-- what an older instance than another of its process may mean the other may mean
pub older_later : (y z u : Spot) → z.0 ≡ u.0 → z.1 ≤ u.1 → Older y z → Older y u
older_later y z u e le (within a b) = within (a ∙ e) (omega (arith, b, le))
older_later y z u e le (above n o) = above (sym (ap (same y.0) e) ∙ n) (subst (λ x. Owns x y.0) e o)

-- a call of block n with this static parent and these arguments, from the newest instance of the process
pub record IsCalled (g : Coded) (s : Scene) (F : Shape) (n : ℕ) (parent : Spot) (cells : List Cell) : Type 0 where
  pub known : n < length g.unit.blocks
  pub called : IsTrue (is_called (block g n).kind)
  pub lives : IsLive F parent
  pub older : Older parent (now F s.name)
  pub up : block_at g F parent ≡ (block g n).up
  pub cells_fit : CellsFit g s F (now F s.name) (heading_formals (block_heading g.fits.headings g.unit.blocks n)) cells

module _ (g : Coded) (long : ValuesAreLong) (zeros : ZeroIsZeros) (s : Scene) (F : Shape) (w : World) (m : List ℕ) (h : Stands g s F w m) (n : ℕ)
    (parent : Spot) (cells : List Cell) (c : IsCalled g s F n parent cells) where
  abbrev p : Name
  p = s.name

  abbrev pub inst : Instance
  inst = instance_of g.unit p (s.size p) n parent cells

  abbrev pub store' : Store
  store' = grown p inst w.store

  abbrev pub G : Shape
  G = shape store'

  abbrev lay : Layout g s.live s.waits s.first s.size F
  lay = h.layout

  pub grown_by : IsGrown p inst.frame F G
  grown_by = record {
    mine = shape-grown p inst w.store ∙ ap (λ fs. fs ++ inst.frame ∷ []) (h.shaped.each p);
    theirs = λ y k. ap frames (instances-other w.store p y _ k) ∙ h.shaped.each y;
  }

  abbrev nu : Spot
  nu = new p inst.frame F G grown_by

  some : 0 < length (F p)
  some = lay.some p s.lives

  pub enough : kept g n + acts_height g.unit.types g.unit.blocks n (block g n).body ≡ (block g n).need
  enough = sym (g.fits.fits_blocks n c.known).needs

  -- the spots that lived stay, and the new instance may mean all that the calling one may
  stays : (y : Spot) → IsLive F y → Stays g s.first F G y
  stays y l = record {
    lives = old_lives p inst.frame F G grown_by y l;
    at = old_address p inst.frame F G grown_by s.first y l;
    of =
        ap (λ x. x.block) (old_frame p inst.frame F G grown_by y l);
  }

  later : (y : Spot) → Older y (now F p) → Older y nu
  later y o = older_later y (now F p) nu refl (omega arith) o

  -- ---- the memory with the words of the new frame

  module _ (ws : List ℕ) (as_length : length ws ≡ (block g n).need) (room : used (F p) + (block g n).need ≤ s.size p) where
    abbrev pub m' : List ℕ
    m' = written m (frames_end s.first F p) ws

    inside : frames_end s.first F p + (block g n).need ≤ s.first p + s.size p
    inside = omega (arith, room)

    pub fits : frames_end s.first F p + length ws ≤ length m
    fits = omega (arith, inside, as_length, lay.segments.within p s.lives, h.long)

    pub long' : length m' ≡ 2 ^ 16
    long' = length-written m (frames_end s.first F p) ws fits ∙ h.long

    pub word_before : (a : ℕ) → a < frames_end s.first F p → word m' a ≡ word m a
    word_before a l = get_or-written_before m (frames_end s.first F p) ws a fits l

    pub word_behind : (a : ℕ) → s.first p + s.size p ≤ a → word m' a ≡ word m a
    word_behind a l = get_or-written_after m (frames_end s.first F p) ws a fits (omega (arith, l, inside, as_length))

    pub word_new : (k : ℕ) → k < length ws → word m' (frames_end s.first F p + k) ≡ get_or ws k 0
    word_new k l = get_or-written_here m (frames_end s.first F p) ws k fits l

    pub outer_comes : (a : ℕ) → Outer s a → word m' a ≡ word m a
    outer_comes a o = elim o.0 [ inl x ↦ word_before a (omega (arith, x)) | inr x ↦ word_behind a x ]

    -- no frame that was there has a word of the new one
    clear : (z : Spot) → IsLive F z → (address s.first F z + (frame_at F z).need ≤ frames_end s.first F p)
        ⊎ (frames_end s.first F p + length ws ≤ address s.first F z)
    clear z l = go (same-or-other z.0 p)
      where
        go : (z.0 ≡ p) ⊎ (same z.0 p ≡ false) → (address s.first F z + (frame_at F z).need ≤ frames_end s.first F p)
            ⊎ (frames_end s.first F p + length ws ≤ address s.first F z)
        go (inl e) =
            let l' : z.1 < length (F p) = subst (λ y. z.1 < length (F y)) e l in
            inl (subst (λ y. address s.first F (y, z.1) + (frame_at F (y, z.1)).need ≤ frames_end s.first F p) (sym e)
            (omega (arith, start_within (F p) z.1 l')))
        go (inr k) = elim (tail_free s.live s.waits s.first s.size (λ y. used (F y)) lay.segments p z.0 s.runs s.lives (lay.owner z l)
            (same-symmetric z.0 p k)) [
              | inl a ↦ inr (omega (arith, a, inside, as_length))
              | inr a ↦ inl (omega (arith, a, start_within (F z.0) z.1 l))
            ]

    in_memory : (z : Spot) → IsLive F z → address s.first F z + (frame_at F z).need ≤ length m
    in_memory z l = omega (arith, start_within (F z.0) z.1 l, lay.segments.own z.0 (lay.owner z l), lay.segments.within z.0 (lay.owner z l), h.long)

    word_same : (z : Spot) (a : ℕ) → IsLive F z → address s.first F z ≤ a → a < address s.first F z + (frame_at F z).need → word m' a ≡ word m a
    word_same z a l low high = elim
        (clear z l) [
          | inl x ↦ word_before a (omega (arith, x, high))
          | inr x ↦ get_or-written_after m (frames_end s.first F p) ws a fits
              (omega (arith, x, low))
        ]

    -- ---- segments and frames

    segments' : Segments s.live s.waits s.first s.size (λ q. used (G q))
    segments' =
        changed s.live s.live s.waits s.waits s.first s.size s.size (λ q. used (F q)) (λ q. used (G q)) lay.segments (λ q l. l) (λ q l. refl)
        (λ q l. own q l (same-or-other q p)) (λ q l v. (v, kept_used q v (same-or-other q p)))
      where
        own : (q : Name) → s.live q → (q ≡ p) ⊎ (same q p ≡ false) → used (G q) ≤ s.size q
        own q l (inl e) = subst (λ y. used (G y) ≤ s.size y) (sym e) (omega (arith, ends_later p inst.frame F G grown_by, room))
        own q l (inr k) = omega (arith, used_other p inst.frame F G grown_by q k, lay.segments.own q l)

        kept_used : (q : Name) → s.waits q → (q ≡ p) ⊎ (same q p ≡ false) → used (G q) ≡ used (F q)
        kept_used q v (inl e) = absurd (s.runs (subst s.waits e v))
        kept_used q v (inr k) = used_other p inst.frame F G grown_by q k

    layout' : Layout g s.live s.waits s.first s.size G
    layout' = record {
      segments = segments';
      owner = λ z l. elim (which p inst.frame F G grown_by z l) [ inl e ↦ subst s.live (sym (ap (λ (y : Spot). y.0) e)) s.lives | inr k ↦ lay.owner z k ];
      some = λ q l. some_of q l (same-or-other q p);
      fine = λ z l. fine_of z (which p inst.frame F G grown_by z l);
    }
      where
        some_of : (q : Name) → s.live q → (q ≡ p) ⊎ (same q p ≡ false) → 0 < length (G q)
        some_of q l (inl e) = subst (λ y. 0 < length (G y)) (sym e) (omega (arith, longer p inst.frame F G grown_by))
        some_of q l (inr k) = subst (λ fs. 0 < length fs) (sym (grown_by.theirs q k)) (lay.some q l)

        i : frame_at G nu ≡ inst.frame
        i = new_frame p inst.frame F G grown_by

        fine_of : (z : Spot) → (z ≡ nu) ⊎ IsLive F z → Fine g G z
        fine_of z (inl e) = subst (Fine g G) (sym e) (record {
          known = subst (λ (x : Frame). x.block < length g.unit.blocks) (sym i) c.known;
          needs = subst (λ (x : Frame). x.need ≡ (block g x.block).need) (sym i) refl;
          parent = subst (λ (x : Frame). IsLive G x.parent) (sym i) (stays parent c.lives).lives;
          older = subst (λ (x : Frame). Older x.parent nu) (sym i) (later parent c.older);
          up = subst (λ (x : Frame). block_at g G x.parent ≡ (block g x.block).up) (sym i) ((stays parent c.lives).of ∙ c.up);
        })
        fine_of z (inr l) =
            let fz : Fine g F z = lay.fine z l in
            fine_stays g F G z (old_frame p inst.frame F G grown_by z l) (old_frame p inst.frame F G grown_by (frame_at F z).parent fz.parent)
            (stays (frame_at F z).parent fz.parent).lives fz

    -- ---- words and cells

    module _ (linked : get_or ws 0 0 ≡ address s.first F parent)
        (row : words_at ws 5 (variable_words g.unit.types (block g n)) ≡ cells_words g s.first F inst.cells) where
      count_old : length (instances w.store p) ≡ length (F p)
      count_old = sym (length-frames (instances w.store p)) ∙ ap length (h.shaped.each p)

      instances_new : instances store' p ≡ instances w.store p ++ inst ∷ []
      instances_new = instances-same w.store p (instances w.store p ++ inst ∷ [])

      cells_at_new : cells_in (instances store' p) (length (F p)) ≡ inst.cells
      cells_at_new = ap (cells_in (instances store' p)) (sym count_old) ∙ ap (λ is. cells_in is (length (instances w.store p))) instances_new
          ∙ cells_new (instances w.store p) inst

      cells_at_old : (z : Spot) → IsLive F z → cells_in (instances store' z.0) z.1 ≡ cells_in (instances w.store z.0) z.1
      cells_at_old z l = go (same-or-other z.0 p)
        where
          go : (z.0 ≡ p) ⊎ (same z.0 p ≡ false) → cells_in (instances store' z.0) z.1 ≡ cells_in (instances w.store z.0) z.1
          go (inl e) =
              let l' : z.1 < length (F p) = subst (λ y. z.1 < length (F y)) e l in
              ap (λ y. cells_in (instances store' y) z.1) e ∙ ap (λ is. cells_in is z.1) instances_new
              ∙ cells_old (instances w.store p) inst z.1 (omega (arith, l', count_old)) ∙ ap (λ y. cells_in (instances w.store y) z.1) (sym e)
          go (inr k) = ap (λ is. cells_in is z.1) (instances-other w.store p z.0 _ k)

      block_new : block_at g G nu ≡ n
      block_new = ap (λ (x : Frame). x.block) (new_frame p inst.frame F G grown_by)

      abbrev al : Aligned g s.first F (slots (block g n)) inst.cells
      al = all_aligned g long zeros s F (now F p) n c.known cells c.cells_fit

      -- the words of a new cell, and what it holds
      new_cell : (v : ℕ) → v < slots_of g n →
          (cell_words g s.first G (slice_index_or inst.cells v no_cell) ≡ cell_words g s.first F (slice_index_or inst.cells v no_cell))
          × Holds g G nu (heading_of g n v) (slot_in g n v) (slice_index_or inst.cells v no_cell)
      new_cell v k =
          words_stay g s.first F G (now F p) nu (heading_of g n v) (slot_in g n v) (slice_index_or inst.cells v no_cell) (λ y l o. (stays y l, later y o))
          (subst (λ u. Holds g F (now F p) (heading_of g n u) (slot_in g n v) (slice_index_or inst.cells v no_cell)) (omega arith)
          (hold_at g F (now F p) n 0 (slots (block g n)) inst.cells v (all_hold g long zeros s F (now F p) n c.known cells c.cells_fit) k))

      old_cell : (z : Spot) (v : ℕ) → IsLive F z → v < slots_of g (block_at g F z) →
          (cell_words g s.first G (cell w.store z v) ≡ cell_words g s.first F (cell w.store z v))
          × Holds g G z (heading_of g (block_at g F z) v) (slot_in g (block_at g F z) v) (cell w.store z v)
      old_cell z v l k = words_stay g s.first F G z z (heading_of g (block_at g F z) v) (slot_in g (block_at g F z) v) (cell w.store z v)
          (λ y l o. (stays y l, o)) (h.typed.holds z v l k)

      mirrors' : Mirrors g s.first G store' m'
      mirrors' = record { link = λ z l. link z (which p inst.frame F G grown_by z l); cells = λ z v l k. cells_of z v (which p inst.frame F G grown_by z l) k }
        where
          at_new : address s.first G nu ≡ frames_end s.first F p
          at_new = new_address p inst.frame F G grown_by s.first

          link : (z : Spot) → (z ≡ nu) ⊎ IsLive F z → word m' (address s.first G z) ≡ address s.first G (frame_at G z).parent
          link z (inl e) = subst (λ y. word m' (address s.first G y) ≡ address s.first G (frame_at G y).parent) (sym e) (
              ap (word m') (at_new ∙ omega arith) ∙ word_new 0 (omega (arith, as_length, enough)) ∙ linked
              ∙ sym (stays parent c.lives).at ∙ sym (ap (λ (y : Frame). address s.first G y.parent) (new_frame p inst.frame F G grown_by))
              )
          link z (inr l) =
              let fz : Fine g F z = lay.fine z l in
              ap (word m') (stays z l).at
              ∙ word_same z (address s.first F z) l (omega arith) (omega (arith, roomy g F z fz))
              ∙ h.mirrors.link z l ∙ sym (stays (frame_at F z).parent fz.parent).at ∙ sym
              (ap (λ (y : Frame). address s.first G y.parent) (old_frame p inst.frame F G grown_by z l))

          cells_of : (z : Spot) (v : ℕ) → (z ≡ nu) ⊎ IsLive F z → v < slots_of g (block_at g G z) →
              words_at m' (slot_address g s.first G z v) (words_in g (slot_in g (block_at g G z) v)) ≡ cell_words g s.first G (cell store' z v)
          cells_of z v (inl e) k =
              subst (λ y. v < slots_of g (block_at g G y) → words_at m' (slot_address g s.first G y v)
              (words_in g (slot_in g (block_at g G y) v)) ≡ cell_words g s.first G (cell store' y v)) (sym e) new_words k
            where
              new_words : v < slots_of g (block_at g G nu) → words_at m' (slot_address g s.first G nu v)
                  (words_in g (slot_in g (block_at g G nu) v)) ≡ cell_words g s.first G (cell store' nu v)
              new_words k =
                  let k' : v < slots_of g n = subst (λ b. v < slots_of g b) block_new k in
                  let long_row : length (cells_words g s.first F inst.cells) ≡ variable_words g.unit.types (block g n) =
                  aligned_length g s.first F (slots (block g n)) inst.cells al in
                  (λ j. words_at m' (at_new j + offset g (block_new j) v) (words_in g (slot_in g (block_new j) v)))
                  ∙ part_stands m' ws (frames_end s.first F p) (length ws) (offset g n v) (words_in g (slot_in g n v))
                  (words_at-written m (frames_end s.first F p) ws fits) (omega (arith, fits, long', h.long))
                  (omega (arith, slot_within g n v k', as_length, enough))
                  ∙ part_stands ws (cells_words g s.first F inst.cells) 5 (variable_words g.unit.types (block g n))
                  (sum_by (slot_words g.unit.types) (take v (slots (block g n)))) (words_in g (slot_in g n v)) row (omega (arith, as_length, enough))
                  (omega (arith, slot_within g n v k'))
                  ∙ row_words g s.first F (slots (block g n)) inst.cells v al k'
                  ∙ sym (new_cell v k').0
                  ∙ ap (λ cs. cell_words g s.first G (slice_index_or cs v no_cell)) (sym cells_at_new)
          cells_of z v (inr l) k =
              let e : block_at g G z ≡ block_at g F z = (stays z l).of in
              let k' : v < slots_of g (block_at g F z) = subst (λ b. v < slots_of g b) e k in
              let fz : Fine g F z = lay.fine z l in
              let ends : slot_address g s.first F z v + words_in g (slot_in g (block_at g F z) v) ≤ address s.first F z + (frame_at F z).need =
              omega (arith, slot_within g (block_at g F z) v k', roomy g F z fz) in
              (λ j. words_at m' ((stays z l).at j + offset g (e j) v) (words_in g (slot_in g (e j) v)))
              ∙ words_at-written_apart m (frames_end s.first F p) ws (slot_address g s.first F z v) (words_in g (slot_in g (block_at g F z) v)) fits
              (omega (arith, ends, in_memory z l)) (elim (clear z l) [ inl x ↦ inl (omega (arith, x, ends)) | inr x ↦ inr (omega (arith, x)) ])
              ∙ h.mirrors.cells z v l k'
              ∙ sym (old_cell z v l k').0
              ∙ ap (λ cs. cell_words g s.first G (slice_index_or cs v no_cell)) (sym (cells_at_old z l))

      typed' : Typed g G store'
      typed' = record { count = λ z l. count z (which p inst.frame F G grown_by z l); holds = λ z v l k. holds z v (which p inst.frame F G grown_by z l) k }
        where
          count : (z : Spot) → (z ≡ nu) ⊎ IsLive F z → length (cells_in (instances store' z.0) z.1) ≡ slots_of g (block_at g G z)
          count z (inl e) = subst (λ (y : Spot). length (cells_in (instances store' y.0) y.1) ≡ slots_of g (block_at g G y)) (sym e) (
              ap length cells_at_new ∙ aligned_count g s.first F (slots (block g n)) inst.cells al ∙ sym (ap (slots_of g) block_new)
              )
          count z (inr l) = ap length (cells_at_old z l) ∙ h.typed.count z l ∙ sym (ap (slots_of g) (stays z l).of)

          holds : (z : Spot) (v : ℕ) → (z ≡ nu) ⊎ IsLive F z → v < slots_of g (block_at g G z) →
              Holds g G z (heading_of g (block_at g G z) v) (slot_in g (block_at g G z) v) (cell store' z v)
          holds z v (inl e) k =
              subst (λ y. v < slots_of g (block_at g G y) → Holds g G y (heading_of g (block_at g G y) v) (slot_in g (block_at g G y) v) (cell store' y v))
              (sym e)
              (λ k. subst (λ b. Holds g G nu (heading_of g b v) (slot_in g b v) (cell store' nu v)) (sym block_new)
              (subst (λ cs. Holds g G nu (heading_of g n v) (slot_in g n v) (slice_index_or cs v no_cell)) (sym cells_at_new)
              (new_cell v (subst (λ b. v < slots_of g b) block_new k)).1)) k
          holds z v (inr l) k =
              let e : block_at g G z ≡ block_at g F z = (stays z l).of in
              let k' : v < slots_of g (block_at g F z) = subst (λ b. v < slots_of g b) e k in
              subst (λ b. Holds g G z (heading_of g b v) (slot_in g b v) (cell store' z v)) (sym e)
              (subst (λ cs. Holds g G z (heading_of g (block_at g F z) v) (slot_in g (block_at g F z) v) (slice_index_or cs v no_cell))
              (sym (cells_at_old z l)) (old_cell z v l k').1)

      -- ALL THAT HELD HOLDS with the new frame
      pub stands' : (u : World) → u.store ≡ store' → Stands g s G u m'
      stands' u e = record {
        shaped = subst (HasShape G) (sym e) (own_shape store');
        layout = layout';
        mirrors = subst (λ st. Mirrors g s.first G st m') (sym e) mirrors';
        typed = subst (Typed g G) (sym e) typed';
        long = long';
        others = λ q k. grown_by.theirs q k ∙ h.others q k;
      }
