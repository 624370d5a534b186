-- A new instance fits, where its arguments fit its block's heading; and so does the store with it, and without it again.
use Rattle.std.proofs.Common.{◌≡◌, ℕ, zero, suc, ◌+◌, ◌-◌, ◌<◌, ◌⊎◌, inl, inr, false, List, [], ◌∷◌, ◌++◌, map, take, length, Option, Some, None, refl, sym}
use Rattle.std.proofs.Common.{subst, ap, ◌∙◌, arith}
use Rattle.std.specs.Prelude.{⊤, ◌≢◌, slice_get, unwrap_or, option_to_list}
use Rattle.edi_calls.specs.Names.{Name, same}
use Rattle.edi_calls.proofs.Tables.{same-or-other}
use Rattle.edi_unit.specs.declared.units.Parameter.{Parameter}
use Rattle.edi_unit.specs.declared.units.Parameter.TheVariants as slot
use Rattle.edi_unit.specs.Need.{block_at, slots}
use Rattle.edi_unit.specs.Fits.{Fits, ArgumentsFit, block_heading, callee_heading, formals_from, first_parameter}
use Rattle.edi_unit.specs.Headings.{Heading, heading_formals}
use Rattle.edi_unit.specs.Values.{Value, zero_value}
use Rattle.edi_unit.specs.Tree as tree
use Rattle.edi_unit.specs.Tree.{Argument, Arguments, ProgramUnit}
use Rattle.edi_meaning.specs.Store.{Spot, Location, system_procedure, block_procedure, Cell, value, location, procedure, Instance, Store, Shape, instances, frames}
use Rattle.edi_meaning.specs.Store.{shape, no_frame, Frame, frame_at, IsLive, put, grown, shrunk}
use Rattle.edi_meaning.specs.Whole.{result_cells, instance_of}
use Rattle.edi_meaning.specs.Laws.{Means, CellMeans}
use Rattle.edi_meaning.proofs.Lasting.{Every}
use Rattle.edi_meaning.proofs.Own.{instances-same, instances-other}
use Rattle.edi_meaning.proofs.Frames.{frames-take, HasShape, own_shape, shape-grown, shape-put}
use Rattle.edi_meaning.proofs.References.{Refers}
use Rattle.edi_disjoint.specs.Footprints.{IsTarget}
use Rattle.edi_disjoint.specs.Leaves.{Each}
use Rattle.edi_disjoint.proofs.Cells.{root, Stands, CellFits, CellsFit, InstanceFits, InstancesFit, StoreFits, cells_moved, fits-append, fits-take, fits-with_cell, fits-moved}

-- ---- frames of a list with one more

get_before : (fs : List Frame) (f : Frame) (d : ℕ) → d < length fs → unwrap_or (slice_get (fs ++ f ∷ []) d) no_frame ≡ unwrap_or (slice_get fs d) no_frame
get_before [] f d l = absurd (omega arith)
get_before (g ∷ fs) f zero l = refl
get_before (g ∷ fs) f (suc d) l = get_before fs f d (omega (arith, l))

-- an instance that lived has the frame that it had
pub grown_frames : (F : Shape) (store : Store) (p : Name) (i : Instance) → HasShape F store → (t : Spot) → IsLive F t
    → frame_at (shape (grown p i store)) t ≡ frame_at F t
grown_frames F store p i h t l = go (same-or-other t.0 p)
  where
    go : (t.0 ≡ p) ⊎ (same t.0 p ≡ false) → frame_at (shape (grown p i store)) t ≡ frame_at F t
    go (inl e) =
        let G : Shape = shape (grown p i store) in
        let is : G p ≡ F p ++ i.frame ∷ [] = shape-grown p i store ∙ ap (λ fs. fs ++ i.frame ∷ []) (h.each p) in
        ap (λ r. frame_at G (r, t.1)) e ∙ ap (λ fs. unwrap_or (slice_get fs t.1) no_frame) is
        ∙ get_before (F p) i.frame t.1 (subst (λ r. t.1 < length (F r)) e l) ∙ ap (λ r. frame_at F (r, t.1)) (sym e)
    go (inr n) = ap (λ is. unwrap_or (slice_get (frames is) t.1) no_frame) (instances-other store p t.0 _ n) ∙ ap (λ fs. unwrap_or (slice_get fs t.1) no_frame) (h.each t.0)

module _ (unit : ProgramUnit) (ok : Fits unit) where
  abbrev H : ℕ → ℕ → Heading
  H = ok.headings

  -- what is handed on by an argument of a text of block n, by an instance; T is what else is known of a location
  abbrev pub Handed : Shape → (here : Spot) → (n : ℕ) → (Location → Type 0) → Argument → Cell → Type 0
  Handed F here n T (tree.by_value e) (value v) = ⊤
  Handed F here n T (tree.by_variable v) (location l) = Means F here l.spot × IsTarget unit (root F l) × T l
  Handed F here n T (tree.by_procedure c) (procedure (system_procedure number)) = ⊤
  Handed F here n T (tree.by_procedure c) (procedure (block_procedure m parent)) =
      Means F here parent × Stands unit H F m parent × (block_heading H unit.blocks m ≡ callee_heading H unit.blocks n c)
  Handed F here n T _ _ = ⊥

  module _ (F : Shape) (here : Spot) (n : ℕ) (T : Location → Type 0) where
    abbrev R : Argument → Cell → Type 0
    R = Handed F here n T

    -- it means what its instance may mean
    handed_means : (a : Argument) (c : Cell) → R a c → CellMeans F here c
    handed_means (tree.by_value e) (value v) h = tt
    handed_means (tree.by_variable v) (location l) h = h.0
    handed_means (tree.by_procedure c) (procedure (system_procedure number)) h = tt
    handed_means (tree.by_procedure c) (procedure (block_procedure m parent)) h = h.0
    handed_means (tree.by_value e) (location l) h = absurd h
    handed_means (tree.by_value e) (procedure c) h = absurd h
    handed_means (tree.by_variable v) (value x) h = absurd h
    handed_means (tree.by_variable v) (procedure c) h = absurd h
    handed_means (tree.by_procedure c) (value v) h = absurd h
    handed_means (tree.by_procedure c) (location l) h = absurd h

    pub each_means : (es : Arguments) (cs : List Cell) → Each R es cs → Every (CellMeans F here) cs
    each_means tree.no_argument [] h = tt
    each_means tree.no_argument (c ∷ cs) h = absurd h
    each_means (tree.argument_then a es) [] h = absurd h
    each_means (tree.argument_then a es) (c ∷ cs) h = (handed_means a c h.0, each_means es cs h.1)

    -- arguments that fit a heading fit the parameters of the block that has it
    module _ (m : ℕ) (named : m ≢ unit.program) where
      record Taken (k : ℕ) (ps : List Parameter) (cs : List Cell) : Type 0 where
        fit : CellsFit unit H F m k ps cs
        many : length ps ≡ length cs

      more : (k : ℕ) (q : Parameter) (ps : List Parameter) (c : Cell) (cs : List Cell) → CellFits unit H F m k (Some q) c → Taken (suc k) ps cs → Taken k (q ∷ ps) (c ∷ cs)
      more k q ps c cs h t = record { fit = (h, t.fit); many = ap suc t.many }

      taken : (k : ℕ) (ps : List Parameter) (es : Arguments) (cs : List Cell) → ArgumentsFit unit.types unit.blocks H n es (formals_from (H m) k ps) → Each R es cs
          → Taken k ps cs
      taken k [] tree.no_argument [] f h = record { fit = tt; many = refl }
      taken k [] tree.no_argument (c ∷ cs) f h = absurd h
      taken k [] (tree.argument_then (tree.by_value e) es) cs f h = absurd f
      taken k [] (tree.argument_then (tree.by_variable v) es) cs f h = absurd f
      taken k [] (tree.argument_then (tree.by_procedure c) es) cs f h = absurd f
      taken k (slot.Value t ∷ ps) tree.no_argument cs f h = absurd f
      taken k (slot.Var t ∷ ps) tree.no_argument cs f h = absurd f
      taken k (slot.Formal r ∷ ps) tree.no_argument cs f h = absurd f
      taken k (q ∷ ps) (tree.argument_then a es) [] f h = absurd h
      taken k (slot.Value t ∷ ps) (tree.argument_then (tree.by_value e) es) (value v ∷ cs) f h =
          more k (slot.Value t) ps (value v) cs tt (taken (suc k) ps es cs f.2 h.1)
      taken k (slot.Value t ∷ ps) (tree.argument_then (tree.by_value e) es) (location l ∷ cs) f h = absurd h.0
      taken k (slot.Value t ∷ ps) (tree.argument_then (tree.by_value e) es) (procedure c ∷ cs) f h = absurd h.0
      taken k (slot.Value t ∷ ps) (tree.argument_then (tree.by_variable v) es) (c ∷ cs) f h = absurd f
      taken k (slot.Value t ∷ ps) (tree.argument_then (tree.by_procedure d) es) (c ∷ cs) f h = absurd f
      taken k (slot.Var t ∷ ps) (tree.argument_then (tree.by_variable v) es) (location l ∷ cs) f h =
          more k (slot.Var t) ps (location l) cs (tt, h.0.1) (taken (suc k) ps es cs f.2 h.1)
      taken k (slot.Var t ∷ ps) (tree.argument_then (tree.by_variable v) es) (value x ∷ cs) f h = absurd h.0
      taken k (slot.Var t ∷ ps) (tree.argument_then (tree.by_variable v) es) (procedure c ∷ cs) f h = absurd h.0
      taken k (slot.Var t ∷ ps) (tree.argument_then (tree.by_value e) es) (c ∷ cs) f h = absurd f
      taken k (slot.Var t ∷ ps) (tree.argument_then (tree.by_procedure d) es) (c ∷ cs) f h = absurd f
      taken k (slot.Formal r ∷ ps) (tree.argument_then (tree.by_procedure d) es) (procedure (system_procedure number) ∷ cs) f h =
          more k (slot.Formal r) ps (procedure (system_procedure number)) cs tt (taken (suc k) ps es cs f.2 h.1)
      taken k (slot.Formal r ∷ ps) (tree.argument_then (tree.by_procedure d) es) (procedure (block_procedure j parent) ∷ cs) f h =
          more k (slot.Formal r) ps (procedure (block_procedure j parent)) cs (h.0.1, named, h.0.2 ∙ f.0) (taken (suc k) ps es cs f.2 h.1)
      taken k (slot.Formal r ∷ ps) (tree.argument_then (tree.by_procedure d) es) (value v ∷ cs) f h = absurd h.0
      taken k (slot.Formal r ∷ ps) (tree.argument_then (tree.by_procedure d) es) (location l ∷ cs) f h = absurd h.0
      taken k (slot.Formal r ∷ ps) (tree.argument_then (tree.by_value e) es) (c ∷ cs) f h = absurd f
      taken k (slot.Formal r ∷ ps) (tree.argument_then (tree.by_variable v) es) (c ∷ cs) f h = absurd f

  -- ---- all cells of a new instance

  pub zeros_fit : (F : Shape) (n k : ℕ) (ps : List Parameter) (vs : List ℕ) → CellsFit unit H F n k ps (map (λ t. value (zero_value unit.types t)) vs)
  zeros_fit F n k ps [] = tt
  zeros_fit F n k [] (v ∷ vs) = (tt, zeros_fit F n (suc k) [] vs)
  zeros_fit F n k (q ∷ ps) (v ∷ vs) = (tt, zeros_fit F n (suc k) ps vs)

  two_fit : (F : Shape) (n k m : ℕ) (ps qs : List Parameter) (cs ds : List Cell) → length ps ≡ length cs → k + length ps ≡ m → CellsFit unit H F n k ps cs →
      CellsFit unit H F n m qs ds → CellsFit unit H F n k (ps ++ qs) (cs ++ ds)
  two_fit F n k m [] qs [] ds l e h g = let q : m ≡ k = omega (arith, e) in subst (λ x. CellsFit unit H F n x qs ds) q g
  two_fit F n k m [] qs (c ∷ cs) ds l e h g = absurd (omega (arith, l))
  two_fit F n k m (q ∷ ps) qs [] ds l e h g = absurd (omega (arith, l))
  two_fit F n k m (q ∷ ps) qs (c ∷ cs) ds l e h g = (h.0, two_fit F n (suc k) m ps qs cs ds (omega (arith, l)) (omega (arith, e)) h.1 g)

  pub result_fit : (F : Shape) (n m : ℕ) (r : Option ℕ) (qs : List Parameter) (ds : List Cell) → first_parameter r ≡ m → CellsFit unit H F n m qs ds →
      CellsFit unit H F n 0 (map slot.Value (option_to_list r) ++ qs) (result_cells unit.types r ++ ds)
  result_fit F n m None qs ds e g = subst (λ x. CellsFit unit H F n x qs ds) (sym e) g
  result_fit F n m (Some t) qs ds e g = (tt, subst (λ x. CellsFit unit H F n x qs ds) (sym e) g)

  -- where a block is entered by an instance of block n, with arguments that fit its heading, its new instance fits
  pub entered_fits : (F G : Shape) (here : Spot) (n : ℕ) (T : Location → Type 0) → ((t : Spot) → IsLive F t → frame_at G t ≡ frame_at F t) →
      (p : Name) (size m : ℕ) (parent : Spot) (es : Arguments) (cells : List Cell) → Means F here parent → Stands unit H F m parent →
      ArgumentsFit unit.types unit.blocks H n es (heading_formals (block_heading H unit.blocks m)) → Each (Handed F here n T) es cells →
      InstanceFits unit H G (instance_of unit p size m parent cells)
  entered_fits F G here n T same_frames p size m parent es cells pm st af each = record {
    parent = ap (λ f. f.block) (same_frames parent pm.live) ∙ st.up;
    cells = all;
  }
    where
      first : ℕ
      first = first_parameter (block_at unit.blocks m).result

      ps : List Parameter
      ps = (block_at unit.blocks m).parameters

      vs : List ℕ
      vs = (block_at unit.blocks m).variables

      t : Taken F here n T m st.unnamed first ps cells
      t = taken F here n T m st.unnamed first ps es cells af each

      all : CellsFit unit H G m 0 (slots (block_at unit.blocks m)) (instance_of unit p size m parent cells).cells
      all = result_fit G m first (block_at unit.blocks m).result (ps ++ map slot.Value vs) (cells ++ map (λ t. value (zero_value unit.types t)) vs) refl
          (two_fit G m first (first + length ps) ps (map slot.Value vs) cells (map (λ t. value (zero_value unit.types t)) vs) t.many refl
          (cells_moved unit H F G F here (λ t k. same_frames t k.live) m first ps cells (each_means F here n T es cells each) t.fit)
          (zeros_fit G m (first + length ps) (map slot.Value vs) vs))

  -- ---- the whole store

  pub put_fits : (F : Shape) (store : Store) (l : Location) (v : Value) → StoreFits unit H F store → StoreFits unit H F (put store l v)
  put_fits F store l v h = record { shape = record { each = λ r. shape-put store l v r ∙ h.shape.each r }; each = λ r. go r (same-or-other r l.spot.0) }
    where
      go : (r : Name) → (r ≡ l.spot.0) ⊎ (same r l.spot.0 ≡ false) → InstancesFit unit H F (instances (put store l v) r)
      go r (inl e) =
          subst (λ x. InstancesFit unit H F (instances (put store l v) x)) (sym e)
          (subst (InstancesFit unit H F) (sym (instances-same store l.spot.0 _))
          (fits-with_cell unit H F (instances store l.spot.0) l.spot.1 l.variable _ (h.each l.spot.0)))
      go r (inr n) = subst (InstancesFit unit H F) (sym (instances-other store l.spot.0 r _ n)) (h.each r)

  pub grown_fits : (F : Shape) (store : Store) (p : Name) (i : Instance) → Refers F store → StoreFits unit H F store → InstanceFits unit H (shape (grown p i store)) i
      → StoreFits unit H (shape (grown p i store)) (grown p i store)
  grown_fits F store p i m h k = record { shape = own_shape (grown p i store); each = λ r. go r (same-or-other r p) }
    where
      G : Shape
      G = shape (grown p i store)

      old : (r : Name) → InstancesFit unit H G (instances store r)
      old r = fits-moved unit H F G F r (grown_frames F store p i h.shape) (instances store r) 0 (m.each r) (h.each r)

      go : (r : Name) → (r ≡ p) ⊎ (same r p ≡ false) → InstancesFit unit H G (instances (grown p i store) r)
      go r (inl e) =
          subst (λ x. InstancesFit unit H G (instances (grown p i store) x)) (sym e)
          (subst (InstancesFit unit H G) (sym (instances-same store p _)) (fits-append unit H G (instances store p) i (old p) k))
      go r (inr n) = subst (InstancesFit unit H G) (sym (instances-other store p r _ n)) (old r)

  -- the newest instance of p goes, and what is meant then has the frame that it had
  pub shrunk_fits : (F G : Shape) (store : Store) (p : Name) → ((t : Spot) → IsLive G t → frame_at G t ≡ frame_at F t) → Refers G (shrunk p store) →
      StoreFits unit H F store → StoreFits unit H G (shrunk p store)
  shrunk_fits F G store p same_frames m h = record { shape = m.shape; each = λ r. fits-moved unit H F G G r same_frames (instances (shrunk p store) r) 0 (m.each r) (go r (same-or-other r p)) }
    where
      go : (r : Name) → (r ≡ p) ⊎ (same r p ≡ false) → InstancesFit unit H F (instances (shrunk p store) r)
      go r (inl e) =
          subst (λ x. InstancesFit unit H F (instances (shrunk p store) x)) (sym e)
          (subst (InstancesFit unit H F) (sym (instances-same store p _)) (fits-take unit H F _ (instances store p) (h.each p)))
      go r (inr n) = subst (InstancesFit unit H F) (sym (instances-other store p r _ n)) (h.each r)

  -- the same store with its own shape, or with any that has the same frames where something lives
  pub shape_fits : (F G : Shape) (store : Store) → ((t : Spot) → frame_at G t ≡ frame_at F t) → HasShape G store → Refers G store → StoreFits unit H F store → StoreFits unit H G store
  shape_fits F G store same_frames g m h = record { shape = g; each = λ r. fits-moved unit H F G G r (λ t l. same_frames t) (instances store r) 0 (m.each r) (h.each r) }

-- who still lives has the frame that it had
pub shrunk_frames : (F : Shape) (store : Store) (p : Name) → HasShape F store → (t : Spot) → IsLive (shape (shrunk p store)) t → frame_at (shape (shrunk p store)) t ≡ frame_at F t
shrunk_frames F store p h t l = go (same-or-other t.0 p)
  where
    is : shape (shrunk p store) p ≡ take (length (instances store p) - 1) (F p)
    is = ap frames (instances-same store p _) ∙ frames-take (length (instances store p) - 1) (instances store p) ∙ ap (take (length (instances store p) - 1)) (h.each p)

    kept : (n : ℕ) (fs : List Frame) (d : ℕ) → d < length (take n fs) → unwrap_or (slice_get (take n fs) d) no_frame ≡ unwrap_or (slice_get fs d) no_frame
    kept zero fs d l = absurd (omega (arith, l))
    kept (suc n) [] d l = refl
    kept (suc n) (f ∷ fs) zero l = refl
    kept (suc n) (f ∷ fs) (suc d) l = kept n fs d (omega (arith, l))

    go : (t.0 ≡ p) ⊎ (same t.0 p ≡ false) → frame_at (shape (shrunk p store)) t ≡ frame_at F t
    go (inl e) =
        ap (λ r. frame_at (shape (shrunk p store)) (r, t.1)) e ∙ ap (λ fs. unwrap_or (slice_get fs t.1) no_frame) is
        ∙ kept (length (instances store p) - 1) (F p) t.1 (subst (λ fs. t.1 < length fs) is (subst (λ r. t.1 < length (shape (shrunk p store) r)) e l))
        ∙ ap (λ r. frame_at F (r, t.1)) (sym e)
    go (inr n) = ap (λ is. unwrap_or (slice_get (frames is) t.1) no_frame) (instances-other store p t.0 _ n) ∙ ap (λ fs. unwrap_or (slice_get fs t.1) no_frame) (h.each t.0)
