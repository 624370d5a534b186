-- Where static parents lead: the block of the instance that so many of them reach is the block so many steps out in the text; and
-- from a process of a branch they lead to instances of that process, or to one of a block round the branch.
use Rattle.std.proofs.Common.{◌≡◌, ℕ, zero, suc, ◌-◌, ◌<◌, ◌⊎◌, inl, inr, List, [], ◌∷◌, length, refl, sym, subst, ap, ◌∙◌, arith}
use Rattle.std.specs.Prelude.{slice_get, unwrap_or}
use Rattle.edi_calls.specs.Names.{Name}
use Rattle.edi_unit.specs.Need.{block_at, outer}
use Rattle.edi_unit.specs.Headings.{Heading}
use Rattle.edi_unit.specs.Tree.{Block, ProgramUnit}
use Rattle.edi_meaning.specs.Store.{Spot, Store, Shape, instances, Frame, shape, no_frame, frame_at, reached, now, IsLive}
use Rattle.edi_meaning.specs.Laws.{Means}
use Rattle.edi_meaning.proofs.Lasting.{Every}
use Rattle.edi_meaning.proofs.References.{Refers, reached_means, length_is}
use Rattle.edi_disjoint.specs.Footprints.{Reach, Encloses}
use Rattle.edi_disjoint.specs.Open.{OpenReach}
use Rattle.edi_disjoint.proofs.Opened.{opened_reach}
use Rattle.edi_disjoint.proofs.Cells.{block_in, StoreFits, parent_block}

-- ---- in a shape

module _ (F : Shape) (store : Store) (h : Refers F store) where
  pub frame_same : (s : Spot) → frame_at (shape store) s ≡ frame_at F s
  frame_same s = ap (λ fs. unwrap_or (slice_get fs s.1) no_frame) (h.shape.each s.0)

  pub now_same : (p : Name) → now (shape store) p ≡ now F p
  now_same p = ap (λ fs. (p, length fs - 1)) (h.shape.each p)

  pub reached_same : (levels : ℕ) (s : Spot) → reached (shape store) levels s ≡ reached F levels s
  reached_same zero s = refl
  reached_same (suc levels) s = reached_same levels (frame_at (shape store) s).parent ∙ ap (λ f. reached F levels f.parent) (frame_same s)

  pub lives_in : (s : Spot) → IsLive F s → s.1 < length (instances store s.0)
  lives_in s l = omega (arith, l, length_is F store h.shape s.0)

  pub leads_to : (levels : ℕ) (s : Spot) → IsLive F s → Means F s (reached F levels s)
  leads_to levels s l = subst (Means F s) (reached_same levels s) (reached_means F store h levels s l)

  pub parent_means : (s : Spot) → IsLive F s → Means F s (frame_at F s).parent
  parent_means s l = leads_to 1 s l

-- ---- blocks

-- one step further out
pub outer-suc : (blocks : List Block) (n levels : ℕ) → outer blocks n (suc levels) ≡ (block_at blocks (outer blocks n levels)).up
outer-suc blocks n zero = refl
outer-suc blocks n (suc levels) = outer-suc blocks (block_at blocks n).up levels

module _ (unit : ProgramUnit) (headings : ℕ → ℕ → Heading) (F : Shape) (store : Store) (h : Refers F store) (f : StoreFits unit headings F store) where
  pub parent_is : (s : Spot) → IsLive F s → block_in F (frame_at F s).parent ≡ (block_at unit.blocks (block_in F s)).up
  parent_is s l = parent_block unit headings F store f s (lives_in F store h s l)

  pub reached_block : (levels : ℕ) (s : Spot) → IsLive F s → block_in F (reached F levels s) ≡ outer unit.blocks (block_in F s) levels
  reached_block zero s l = refl
  reached_block (suc levels) s l =
      reached_block levels (frame_at F s).parent (parent_means F store h s l).live ∙ ap (λ n. outer unit.blocks n levels) (parent_is s l)

-- ---- branches

module _ (unit : ProgramUnit) (b : ℕ) (p : Name) where
  -- a frame of a process of b: its block is one that b gets to, and its static parent is with the process, or of a block round b
  pub record FrameFits (f : Frame) : Type 0 where
    pub reach : Reach unit b f.block
    pub place : (f.parent.0 ≡ p) ⊎ Encloses unit.blocks (block_at unit.blocks f.block).up b

  pub frame_fits : (fs : List Frame) (d : ℕ) → d < length fs → Every FrameFits fs → FrameFits (unwrap_or (slice_get fs d) no_frame)
  frame_fits [] d l h = absurd (omega arith)
  frame_fits (f ∷ fs) zero l h = h.0
  frame_fits (f ∷ fs) (suc d) l h = frame_fits fs d (omega (arith, l)) h.1

  -- the same of what b gets to outside critical phases
  pub record OpenFits (f : Frame) : Type 0 where
    pub reach : OpenReach unit b f.block
    pub place : (f.parent.0 ≡ p) ⊎ Encloses unit.blocks (block_at unit.blocks f.block).up b

  pub frames_open : (fs : List Frame) → Every OpenFits fs → Every FrameFits fs
  frames_open [] h = tt
  frames_open (f ∷ fs) h = (record { reach = opened_reach unit b f.block h.0.reach; place = h.0.place }, frames_open fs h.1)

  pub open_fits : (fs : List Frame) (d : ℕ) → d < length fs → Every OpenFits fs → OpenFits (unwrap_or (slice_get fs d) no_frame)
  open_fits [] d l h = absurd (omega arith)
  open_fits (f ∷ fs) zero l h = h.0
  open_fits (f ∷ fs) (suc d) l h = open_fits fs d (omega (arith, l)) h.1

  -- an instance of the process, or of a block round the branch
  abbrev pub InPlace : Shape → Spot → Type 0
  InPlace F s = (s.0 ≡ p) ⊎ Encloses unit.blocks (block_in F s) b

  further_out : (n : ℕ) → Encloses unit.blocks n b → Encloses unit.blocks (block_at unit.blocks n).up b
  further_out n e = record { levels = suc e.levels; is = outer-suc unit.blocks b (suc e.levels) ∙ ap (λ m. (block_at unit.blocks m).up) e.is }

  module _ (headings : ℕ → ℕ → Heading) (F : Shape) (store : Store) (h : Refers F store) (f : StoreFits unit headings F store) (own : Every FrameFits (F p)) where
    pub own_frame : (s : Spot) → s.0 ≡ p → IsLive F s → FrameFits (frame_at F s)
    own_frame s e l = subst (λ fs. s.1 < length fs → Every FrameFits fs → FrameFits (unwrap_or (slice_get fs s.1) no_frame)) (sym (ap F e)) (frame_fits (F p) s.1) l
        (subst (λ fs. Every FrameFits fs) (sym (ap F e)) own)

    parent_place : (s : Spot) → IsLive F s → InPlace F s → InPlace F (frame_at F s).parent
    parent_place s l (inl e) = go (own_frame s e l).place
      where
        go : ((frame_at F s).parent.0 ≡ p) ⊎ Encloses unit.blocks (block_at unit.blocks (block_in F s)).up b → InPlace F (frame_at F s).parent
        go (inl q) = inl q
        go (inr k) = inr (subst (λ n. Encloses unit.blocks n b) (sym (parent_is unit headings F store h f s l)) k)
    parent_place s l (inr k) = inr (subst (λ n. Encloses unit.blocks n b) (sym (parent_is unit headings F store h f s l)) (further_out (block_in F s) k))

    -- where levels lead
    pub reached_place : (levels : ℕ) (s : Spot) → IsLive F s → InPlace F s → InPlace F (reached F levels s)
    reached_place zero s l k = k
    reached_place (suc levels) s l k = reached_place levels (frame_at F s).parent (parent_means F store h s l).live (parent_place s l k)
