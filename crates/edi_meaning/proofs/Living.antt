-- An evaluation keeps all that lives: what cells and static parents mean. So does a local step.
use Rattle.std.proofs.Common.{◌≡◌, ℕ, ◌-◌, ◌<◌, ◌≤◌, ◌⊎◌, inl, inr, false, List, [], ◌∷◌, ◌++◌, map, take, length, length-append, refl, sym, subst, ap, ◌∙◌}
use Rattle.std.proofs.Common.{arith}
use Rattle.std.specs.Prelude.{⊤}
use Rattle.std.proofs.lemmas.List.{length-take}
use Rattle.edi_calls.specs.Names.{Name, same, with_at}
use Rattle.edi_calls.proofs.Tables.{same-or-other, same-symmetric}
use Rattle.edi_unit.specs.Tree.{ProgramUnit}
use Rattle.edi_unit.specs.Values.{Value}
use Rattle.edi_meaning.specs.Store.{Spot, Location, system_procedure, block_procedure, Cell, procedure, Instance, Store, Shape, instances, frames, shape}
use Rattle.edi_meaning.specs.Store.{now, put, grown, shrunk, Owns, IsLive, Older, within, above}
use Rattle.edi_meaning.specs.Evaluation.{World}
use Rattle.edi_meaning.specs.Whole.{instance_of}
use Rattle.edi_meaning.specs.Step.{Work, Standing, local_step}
use Rattle.edi_meaning.specs.Laws.{Means, CellMeans}
use Rattle.edi_meaning.proofs.Lasting.{Every, Lasting, Keeps}
use Rattle.edi_meaning.proofs.Local.{Moving, local_keeps}
use Rattle.edi_meaning.proofs.Own.{owns_first, new_cells_fit, calls_fit, instances-same, instances-other}
use Rattle.edi_meaning.proofs.Frames.{HasShape, own_shape, returned, shape-put}
use Rattle.edi_meaning.proofs.References.{older_all, InstanceMeans, InstancesMean, cells_moved, mean-append, mean-take, mean-with_cell, mean-moved, Refers}
use Rattle.edi_meaning.proofs.References.{length_is, slot_means, meant_means}

-- ---- changes of a store

-- the instances of p are these, and the others stay
pub refers_with : (F : Shape) (store : Store) (p : Name) (is : List Instance) → HasShape F (with_at store p is) → InstancesMean F p 0 is
    → ((r : Name) → same r p ≡ false → InstancesMean F r 0 (instances store r)) → Refers F (with_at store p is)
refers_with F store p is h k others = record { shape = h; each = λ r. go r (same-or-other r p) }
  where
    go : (r : Name) → (r ≡ p) ⊎ (same r p ≡ false) → InstancesMean F r 0 (instances (with_at store p is) r)
    go r (inl e) = subst (λ x. InstancesMean F x 0 (instances (with_at store p is) x)) (sym e) (subst (InstancesMean F p 0) (sym (instances-same store p is)) k)
    go r (inr n) = subst (InstancesMean F r 0) (sym (instances-other store p r is n)) (others r n)

pub refers_put : (F : Shape) (store : Store) (l : Location) (v : Value) → Refers F store → Refers F (put store l v)
refers_put F store l v h =
    refers_with F store l.spot.0 _ (record { each = λ r. shape-put store l v r ∙ h.shape.each r })
    (mean-with_cell F l.spot.0 (instances store l.spot.0) 0 l.spot.1 l.variable _ (h.each l.spot.0)) (λ r n. h.each r)

-- where no process has fewer instances, all that was meant is meant still
abbrev pub NoFewer : Shape → Shape → Type 0
NoFewer F G = (r : Name) → length (F r) ≤ length (G r)

pub means_more : (F G : Shape) → NoFewer F G → (s t : Spot) → Means F s t → Means G s t
means_more F G more s t h = record { live = omega (arith, h.live, more t.0); older = h.older }

pub instances_more : (F G : Shape) → NoFewer F G → (r : Name) (is : List Instance) → InstancesMean F r 0 is → InstancesMean G r 0 is
instances_more F G more r is h = mean-moved F G r (length is) (λ d l t k. means_more F G more (r, d) t k) is 0 (omega arith) h

-- the same in the store's own shape
pub refers_here : (F : Shape) (store : Store) → Refers F store → Refers (shape store) store
refers_here F store h = record {
  shape = own_shape store;
  each = λ r. instances_more F (shape store) (λ x. omega (arith, ap length (h.shape.each x))) r
      (instances store r) (h.each r);
}

-- whoever is below p has no instances
abbrev pub Alone : Name → Shape → Type 0
Alone p F = (r : Name) → 0 < length (F r) → same r p ≡ false → Owns r p → ⊥

-- where nobody is below p, and r has no more instances than before, those of r mean what they meant
others_moved : (F G : Shape) (p : Name) → Alone p F → ((r : Name) → same r p ≡ false → length (G r) ≡ length (F r)) → (r : Name) → length (G r) ≤ length (F r)
    → (is : List Instance) → length is ≡ length (G r) → InstancesMean F r 0 is → InstancesMean G r 0 is
others_moved F G p alone others r fewer is l h = mean-moved F G r (length (G r)) move is 0 (omega (arith, l)) h
  where
    lives : (d : ℕ) → d < length (G r) → (t : Spot) → IsLive F t → Older t (r, d) → IsLive G t
    lives d b t k (within e le) = let q : length (G t.0) ≡ length (G r) = ap (λ x. length (G x)) e in omega (arith, q, le, b)
    lives d b t k (above n o) = elim (same-or-other t.0 p) [
      | inl e ↦
          let apart : same r p ≡ false = ap (same r) (sym e) ∙ same-symmetric t.0 r n in
          absurd (alone r (omega (arith, b, fewer)) apart (subst (Owns r) e o))
      | inr m ↦ omega (arith, k, others t.0 m)
    ]

    move : (d : ℕ) → d < length (G r) → (t : Spot) → Means F (r, d) t → Means G (r, d) t
    move d b t k = record { live = lives d b t k.live k.older; older = k.older }

-- p has fewer instances
pub refers_less : (F G : Shape) (store : Store) (p : Name) → Alone p F → HasShape G store → ((r : Name) → InstancesMean F r 0 (instances store r))
    → ((r : Name) → same r p ≡ false → length (G r) ≡ length (F r)) → length (G p) ≤ length (F p) → Refers G store
refers_less F G store p alone h each others fewer =
    record { shape = h; each = λ r. others_moved F G p alone others r (no_more r (same-or-other r p)) (instances store r) (length_is G store h r) (each r) }
  where
    no_more : (x : Name) → (x ≡ p) ⊎ (same x p ≡ false) → length (G x) ≤ length (F x)
    no_more x (inl e) = subst (λ y. length (G y) ≤ length (F y)) (sym e) fewer
    no_more x (inr n) = omega (arith, others x n)

-- the newest instance of p goes
pub shrunk_refers : (F G : Shape) (store : Store) (p : Name) → Alone p F → Refers F store → HasShape G (shrunk p store) → Refers G (shrunk p store)
shrunk_refers F G store p alone h g = refers_less F G (shrunk p store) p alone g each others fewer
  where
    each : (r : Name) → InstancesMean F r 0 (instances (shrunk p store) r)
    each r = elim (same-or-other r p) [
      | inl e ↦
          subst (λ x. InstancesMean F x 0 (instances (shrunk p store) x)) (sym e)
          (subst (InstancesMean F p 0) (sym (instances-same store p _)) (mean-take F p (length (instances store p) - 1) (instances store p) 0 (h.each p)))
      | inr n ↦ subst (InstancesMean F r 0) (sym (instances-other store p r _ n)) (h.each r)
    ]

    others : (r : Name) → same r p ≡ false → length (G r) ≡ length (F r)
    others r n = sym (length_is G (shrunk p store) g r) ∙ ap length (instances-other store p r _ n) ∙ length_is F store h.shape r

    fewer : length (G p) ≤ length (F p)
    fewer = omega (
      arith,
      length_is G (shrunk p store) g p,
      ap length (instances-same store p (take (length (instances store p) - 1) (instances store p))),
      length-take (length (instances store p) - 1) (instances store p),
      length_is F store h.shape p,
    )

-- p has one instance more
grown_more : (F G : Shape) (store : Store) (p : Name) (i : Instance) → HasShape F store → HasShape G (grown p i store) → NoFewer F G
grown_more F G store p i h g r = go (same-or-other r p)
  where
    go : (r ≡ p) ⊎ (same r p ≡ false) → length (F r) ≤ length (G r)
    go (inl e) =
        subst (λ x. length (F x) ≤ length (G x)) (sym e)
        (omega (
          arith,
          length_is F store h p,
          length_is G (grown p i store) g p,
          ap length (instances-same store p (instances store p ++ i ∷ [])),
          length-append (instances store p) (i ∷ []),
        ))
    go (inr n) = omega (arith, length_is F store h r, length_is G (grown p i store) g r, ap length (instances-other store p r (instances store p ++ i ∷ []) n))

grown_refers : (F G : Shape) (store : Store) (p : Name) (i : Instance) → Refers F store → HasShape G (grown p i store) → InstanceMeans G (p, length (F p)) i
    → Refers G (grown p i store)
grown_refers F G store p i h g k =
    let more : NoFewer F G = grown_more F G store p i h.shape g in
    refers_with G store p (instances store p ++ i ∷ []) g
    (mean-append G p (instances store p) 0 (length (F p)) i (omega (arith, length_is F store h.shape p))
    (instances_more F G more p (instances store p) (h.each p)) k)
    (λ r n. instances_more F G more r (instances store r) (h.each r))

-- ---- evaluation

-- where p evaluates: it has an instance, nobody below it has any, and the first process has one
pub record Setting (p : Name) (F : Shape) : Type 0 where
  pub some : 0 < length (F p)
  pub alone : Alone p F
  pub first : 0 < length (F [])

module _ (unit : ProgramUnit) (p : Name) (size : ℕ) where
  -- what a call means at its place, its instance may mean
  call_means : (F G : Shape) (number : ℕ) (parent : Spot) (cells : List Cell) → NoFewer F G
      → CellMeans F (now F p) (procedure (block_procedure number parent)) → Every (CellMeans F (now F p)) cells →
      InstanceMeans G (p, length (F p)) (instance_of unit p size number parent cells)
  call_means F G number parent cells more c f =
      let move : (t : Spot) → Means F (now F p) t → Means G (p, length (F p)) t =
      λ t k. record { live = omega (arith, k.live, more t.0); older = older_all t (now F p) (p, length (F p)) k.older (within refl (omega arith)) } in
      record {
        parent = move parent c;
        cells = new_cells_fit (CellMeans G (p, length (F p))) (λ v. tt) unit p size number parent cells
            (cells_moved F G (now F p) (p, length (F p)) move cells f);
      }

  pub entered_refers : (F : Shape) (number : ℕ) (parent : Spot) (cells : List Cell) (store : Store)
      → CellMeans F (now F p) (procedure (block_procedure number parent)) → Every (CellMeans F (now F p)) cells → Refers F store →
      Refers (shape (grown p (instance_of unit p size number parent cells) store)) (grown p (instance_of unit p size number parent cells) store)
  entered_refers F number parent cells store c f h =
      let i : Instance = instance_of unit p size number parent cells in
      let g : HasShape (shape (grown p i store)) (grown p i store) = own_shape (grown p i store) in
      grown_refers F (shape (grown p i store)) store p i h g
      (call_means F (shape (grown p i store)) number parent cells (grown_more F (shape (grown p i store)) store p i h.shape g) c f)

  pub setting_inside : (F : Shape) (i : Instance) (store : Store) → HasShape F store → Setting p F → Setting p (shape (grown p i store))
  setting_inside F i store h c =
      let G : Shape = shape (grown p i store) in
      let more : NoFewer F G = grown_more F G store p i h (own_shape (grown p i store)) in
      record {
        some = omega (arith, c.some, more p);
        alone = λ r l n o. c.alone r (omega (
          arith,
          l,
          length_is F store h r,
          length_is G (grown p i store) (own_shape (grown p i store)) r,
          ap length (instances-other store p r (instances store p ++ i ∷ []) n),
        )) n o;
        first = omega (arith, c.first, more []);
      }

  abbrev pub living : Lasting unit p size
  living = record {
    Level = Shape;
    Holds = λ F w. Setting p F × Refers F w.store;
    Ends = λ e system turns. ⊤;
    Comes = λ F l. Means F (now F p) l.spot;
    Fits = λ F c. CellMeans F (now F p) c;
    over = λ F e w o h. tt;
    turned = λ F n w e h. h;
    stored = λ F l v w c h. (h.0, refers_put F w.store l v h.1);
    replied = λ F number asked words system w e h. h;
    called = λ F number parent cells w c f h.
        let i : Instance = instance_of unit p size number parent cells in (
          shape (grown p i w.store),
          (setting_inside F i w.store h.1.shape h.0, entered_refers F number parent cells w.store c f h.1),
          λ v k. (h.0, shrunk_refers (shape (grown p i w.store)) F v.store p k.0.alone k.1 (returned p i F w.store v.store h.1.shape k.1.shape)),
        );
    of_slot = λ F levels variable w h. slot_means unit p size F w.store h.1 h.0.some levels variable;
    of_part = λ F l n c. c;
    by_value = λ F v. tt;
    by_location = λ F l c. c;
    to_location = λ F l c. c;
    by_procedure = λ F c w h. meant_means unit p size F w h.1 h.0.some c;
  }

  -- ---- a local step

  -- the program is entered: its instance is the first of all, or p has one already
  pub begun_refers : (F : Shape) (store : Store) → Refers F store → Alone p F → (p ≡ []) ⊎ (0 < length (F [])) →
      Refers (shape (with_at store p (instance_of unit p size unit.program ([], 0) (map (λ n. procedure (system_procedure n)) unit.calls) ∷ [])))
      (with_at store p (instance_of unit p size unit.program ([], 0) (map (λ n. procedure (system_procedure n)) unit.calls) ∷ []))
  begun_refers F store h alone first =
      refers_with G store p (i ∷ []) (own_shape after)
      (record { parent = record { live = lives first; older = older (same-or-other [] p) }; cells = cells }, tt)
      (λ r n. others_moved F G p alone others r (omega (arith, others r n)) (instances store r) (omega (arith, others r n, length_is F store h.shape r))
      (h.each r))
    where
      i : Instance
      i = instance_of unit p size unit.program ([], 0) (map (λ n. procedure (system_procedure n)) unit.calls)

      after : Store
      after = with_at store p (i ∷ [])

      G : Shape
      G = shape after

      others : (r : Name) → same r p ≡ false → length (G r) ≡ length (F r)
      others r n = ap (λ is. length (frames is)) (instances-other store p r (i ∷ []) n) ∙ ap length (h.shape.each r)

      one : length (G p) ≡ 1
      one = ap (λ is. length (frames is)) (instances-same store p (i ∷ []))

      lives_at : (0 < length (F [])) → ([] ≡ p) ⊎ (same [] p ≡ false) → 0 < length (G [])
      lives_at l (inl e) = omega (arith, ap (λ x. length (G x)) e, one)
      lives_at l (inr n) = omega (arith, l, others [] n)

      lives : (p ≡ []) ⊎ (0 < length (F [])) → 0 < length (G [])
      lives (inl e) = omega (arith, ap (λ x. length (G x)) (sym e), one)
      lives (inr l) = lives_at l (same-or-other [] p)

      older : ([] ≡ p) ⊎ (same [] p ≡ false) → Older ([], 0) (p, 0)
      older (inl e) = within e (omega arith)
      older (inr n) = above n (owns_first p)

      cells : Every (CellMeans G (p, 0)) i.cells
      cells = new_cells_fit (CellMeans G (p, 0)) (λ v. tt) unit p size unit.program ([], 0) (map (λ n. procedure (system_procedure n)) unit.calls)
          (calls_fit (CellMeans G (p, 0)) (λ n. tt) unit.calls)

  living_moves : (F : Shape) → Moving living F (λ w. Refers (shape w.store) w.store)
  living_moves F = record {
    stays = λ w h. refers_here F w.store h.1;
    grows = λ number parent cells w c f h. entered_refers F number parent cells w.store c f h.1;
    shrinks = λ w h. shrunk_refers F (shape (shrunk p w.store)) w.store p h.0.alone h.1 (own_shape (shrunk p w.store));
    begins = λ w h. begun_refers F w.store h.1 h.0.alone (inr h.0.first);
  }

  pub local_refers : (standing : Standing) (work : List Work) (w : World) → Setting p (shape w.store) → Refers (shape w.store) w.store
      → Keeps living (λ a v. Refers (shape v.store) v.store) (local_step unit p size standing work w)
  local_refers standing work w c h = local_keeps living (shape w.store) (λ v. Refers (shape v.store) v.store) (living_moves (shape w.store)) standing work w
      (λ idle v g. tt) (c, h)
