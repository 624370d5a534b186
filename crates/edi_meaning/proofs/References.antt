-- What cells and static parents mean lives, and is no newer than where it is meant.
use Rattle.std.proofs.Common.{◌≡◌, ℕ, zero, suc, ◌+◌, ◌-◌, ◌<◌, ◌≤◌, ◌⊎◌, inl, inr, true, false, List, [], ◌∷◌, ◌++◌, take, length, refl, sym, subst, ap}
use Rattle.std.proofs.Common.{◌∙◌, arith}
use Rattle.std.specs.Prelude.{⊤, slice_get, unwrap_or}
use Rattle.std.proofs.lemmas.Bool.{cases_lt}
use Rattle.std.proofs.lemmas.List.{nil_from_length}
use Rattle.edi_calls.specs.Names.{Name, same}
use Rattle.edi_calls.proofs.Tables.{same-refl, same-or-other}
use Rattle.edi_unit.specs.declared.expressions.Callee.{Callee}
use Rattle.edi_unit.specs.declared.expressions.Callee.TheVariants as callee
use Rattle.edi_unit.specs.Values.{Value}
use Rattle.edi_unit.specs.Tree.{ProgramUnit}
use Rattle.edi_meaning.specs.Store.{Spot, system_procedure, block_procedure, Cell, value, location, procedure, Instance, Store, Shape, instances, frames}
use Rattle.edi_meaning.specs.Store.{shape, no_frame, frame_at, reached, now, cells_in, with_cell_in, no_cell, cell, located, slot, procedure_in, ancestor}
use Rattle.edi_meaning.specs.Store.{Owns, IsLive, Older, within, above}
use Rattle.edi_meaning.specs.Evaluation.{World}
use Rattle.edi_meaning.specs.Whole.{meant}
use Rattle.edi_meaning.specs.Laws.{Means, CellMeans, NothingDangles}
use Rattle.edi_meaning.proofs.Lasting.{Every}
use Rattle.edi_meaning.proofs.Own.{owns_all, length-ancestor, every-at, every-set}
use Rattle.edi_meaning.proofs.Frames.{HasShape, length-frames}

-- ---- older instances

not_other : (p r : Name) → r ≡ p → same r p ≡ false → ⊥
not_other p r e n = let a : true ≡ false = sym (same-refl p) ∙ sym (ap (λ x. same x p) e) ∙ n in absurd (cc)

-- an ancestor's name is shorter
owns_shorter : (p r : Name) → Owns p r → same r p ≡ false → length r < length p
owns_shorter p r o n = go o.generation o.is (cases_lt (length r) (length p))
  where
    go : (k : ℕ) → r ≡ ancestor k p → (length r < length p) ⊎ (length p ≤ length r) → length r < length p
    go k e (inl h) = h
    go zero e (inr h) = absurd (not_other p r e n)
    go (suc k) e (inr h) =
        let l : length r ≡ length (ancestor (suc k) p) = ap length e in
        let none : length p ≡ 0 = omega (arith, h, l, length-ancestor (suc k) p) in
        let neither : length r ≡ 0 = omega (arith, l, length-ancestor (suc k) p, none) in
        absurd (not_other p r (nil_from_length r neither ∙ sym (nil_from_length p none)) n)

pub older_self : (s : Spot) → Older s s
older_self s = within refl (omega arith)

other_by_length : (p r : Name) → length r < length p → same r p ≡ false
other_by_length p r h = go (same-or-other r p)
  where
    go : (r ≡ p) ⊎ (same r p ≡ false) → same r p ≡ false
    go (inl e) = let l : length r ≡ length p = ap length e in absurd (omega arith)
    go (inr n) = n

pub older_all : (r s u : Spot) → Older r s → Older s u → Older r u
older_all r s u (within a le) (within b lf) = within (a ∙ b) (omega arith)
older_all r s u (within a le) (above n o) = above (ap (λ x. same x u.0) a ∙ n) (subst (Owns u.0) (sym a) o)
older_all r s u (above n o) (within b lf) = above (sym (ap (same r.0) b) ∙ n) (subst (λ x. Owns x r.0) b o)
older_all r s u (above n o) (above m q) =
    above (other_by_length u.0 r.0 (omega (arith, owns_shorter s.0 r.0 o n, owns_shorter u.0 s.0 q m))) (owns_all u.0 s.0 r.0 q o)

module _ (F : Shape) where
  pub means_self : (s : Spot) → IsLive F s → Means F s s
  means_self s l = record { live = l; older = older_self s }

  pub means_all : (s t u : Spot) → Means F s t → Means F t u → Means F s u
  means_all s t u a b = record { live = b.live; older = older_all u t s b.older a.older }

  cell_means_all : (s t : Spot) (c : Cell) → Means F s t → CellMeans F t c → CellMeans F s c
  cell_means_all s t (value v) a h = tt
  cell_means_all s t (location l) a h = means_all s t l.spot a h
  cell_means_all s t (procedure (system_procedure number)) a h = tt
  cell_means_all s t (procedure (block_procedure number parent)) a h = means_all s t parent a h

-- what is meant may be moved from one place in one shape to another
cell_moved : (F G : Shape) (s s' : Spot) → ((t : Spot) → Means F s t → Means G s' t) → (c : Cell) → CellMeans F s c → CellMeans G s' c
cell_moved F G s s' g (value v) h = tt
cell_moved F G s s' g (location l) h = g l.spot h
cell_moved F G s s' g (procedure (system_procedure number)) h = tt
cell_moved F G s s' g (procedure (block_procedure number parent)) h = g parent h

pub cells_moved : (F G : Shape) (s s' : Spot) → ((t : Spot) → Means F s t → Means G s' t) → (cs : List Cell) → Every (CellMeans F s) cs
    → Every (CellMeans G s') cs
cells_moved F G s s' g [] h = tt
cells_moved F G s s' g (c ∷ cs) h = (cell_moved F G s s' g c h.0, cells_moved F G s s' g cs h.1)

-- ---- the instances of a process, from depth d on

pub record InstanceMeans (F : Shape) (s : Spot) (i : Instance) : Type 0 where
  pub parent : Means F s i.frame.parent
  pub cells : Every (CellMeans F s) i.cells

abbrev pub InstancesMean : Shape → Name → ℕ → List Instance → Type 0
InstancesMean F r d [] = ⊤
InstancesMean F r d (i ∷ is) = InstanceMeans F (r, d) i × InstancesMean F r (suc d) is

module _ (F : Shape) (r : Name) where
  pub mean-append : (is : List Instance) (d m : ℕ) (i : Instance) → d + length is ≡ m → InstancesMean F r d is → InstanceMeans F (r, m) i
      → InstancesMean F r d (is ++ i ∷ [])
  mean-append [] d m i e h k = let q : m ≡ d = omega (arith, e) in (subst (λ x. InstanceMeans F (r, x) i) q k, tt)
  mean-append (j ∷ js) d m i e h k = (h.0, mean-append js (suc d) m i (omega (arith, e)) h.1 k)

  pub mean-take : (n : ℕ) (is : List Instance) (d : ℕ) → InstancesMean F r d is → InstancesMean F r d (take n is)
  mean-take zero is d h = tt
  mean-take (suc n) [] d h = tt
  mean-take (suc n) (i ∷ is) d h = (h.0, mean-take n is (suc d) h.1)

  pub mean-with_cell : (is : List Instance) (d depth variable : ℕ) (v : Value) → InstancesMean F r d is
      → InstancesMean F r d (with_cell_in is depth variable (value v))
  mean-with_cell [] d depth variable v h = tt
  mean-with_cell (i ∷ is) d zero variable v h =
      (record { parent = h.0.parent; cells = every-set (CellMeans F (r, d)) i.cells variable (value v) tt h.0.cells }, h.1)
  mean-with_cell (i ∷ is) d (suc depth) variable v h = (h.0, mean-with_cell is (suc d) depth variable v h.1)

  pub parent_of_one : (is : List Instance) (d k m : ℕ) → d + k ≡ m → k < length is → InstancesMean F r d is
      → Means F (r, m) (unwrap_or (slice_get (frames is) k) no_frame).parent
  parent_of_one [] d k m e l h = absurd (omega arith)
  parent_of_one (i ∷ is) d zero m e l h = let q : d ≡ m = omega (arith, e) in subst (λ x. Means F (r, x) i.frame.parent) q h.0.parent
  parent_of_one (i ∷ is) d (suc k) m e l h = parent_of_one is (suc d) k m (omega (arith, e)) (omega (arith, l)) h.1

  pub cells_of_one : (is : List Instance) (d k m : ℕ) → d + k ≡ m → InstancesMean F r d is → Every (CellMeans F (r, m)) (cells_in is k)
  cells_of_one [] d k m e h = tt
  cells_of_one (i ∷ is) d zero m e h = let q : d ≡ m = omega (arith, e) in subst (λ x. Every (CellMeans F (r, x)) i.cells) q h.0.cells
  cells_of_one (i ∷ is) d (suc k) m e h = cells_of_one is (suc d) k m (omega (arith, e)) h.1

pub mean-moved : (F G : Shape) (r : Name) (n : ℕ) → ((d : ℕ) → d < n → (t : Spot) → Means F (r, d) t → Means G (r, d) t) → (is : List Instance) (d : ℕ)
    → d + length is ≤ n → InstancesMean F r d is → InstancesMean G r d is
mean-moved F G r n g [] d le h = tt
mean-moved F G r n g (i ∷ is) d le h = (
  record {
    parent = g d (omega (arith, le)) i.frame.parent h.0.parent;
    cells = cells_moved F G (r, d) (r, d) (g d (omega (arith, le))) i.cells h.0.cells;
  },
  mean-moved F G r n g is (suc d) (omega (arith, le)) h.1,
)

-- ---- the whole store

pub record Refers (F : Shape) (store : Store) : Type 0 where
  pub shape : HasShape F store
  pub each : (r : Name) → InstancesMean F r 0 (instances store r)

pub length_is : (F : Shape) (store : Store) → HasShape F store → (r : Name) → length (instances store r) ≡ length (F r)
length_is F store h r = sym (length-frames (instances store r)) ∙ ap length (h.each r)

module _ (F : Shape) (store : Store) (h : Refers F store) where
  parent_means : (s : Spot) → IsLive F s → Means F s (frame_at (shape store) s).parent
  parent_means s l = parent_of_one F s.0 (instances store s.0) 0 s.1 s.1 (omega arith) (omega (arith, l, length_is F store h.shape s.0)) (h.each s.0)

  pub cell_means : (s : Spot) (variable : ℕ) → CellMeans F s (cell store s variable)
  cell_means s variable = every-at (CellMeans F s) (cells_in (instances store s.0) s.1) variable no_cell
      (cells_of_one F s.0 (instances store s.0) 0 s.1 s.1 (omega arith) (h.each s.0)) tt

  pub reached_means : (levels : ℕ) (s : Spot) → IsLive F s → Means F s (reached (shape store) levels s)
  reached_means zero s l = means_self F s l
  reached_means (suc levels) s l =
      let up : Means F s (frame_at (shape store) s).parent = parent_means s l in
      means_all F s (frame_at (shape store) s).parent (reached (shape store) levels (frame_at (shape store) s).parent) up
      (reached_means levels (frame_at (shape store) s).parent up.live)

located_means : (F : Shape) (s t : Spot) (variable : ℕ) (c : Cell) → Means F s t → CellMeans F t c → Means F s (located t variable c).spot
located_means F s t variable (value v) a h = a
located_means F s t variable (location l) a h = means_all F s t l.spot a h
located_means F s t variable (procedure c) a h = a

procedure_means : (F : Shape) (s : Spot) (c : Cell) → CellMeans F s c → CellMeans F s (procedure (procedure_in c))
procedure_means F s (value v) h = tt
procedure_means F s (location l) h = tt
procedure_means F s (procedure c) h = h

-- the newest instance of p, where there is one
module _ (unit : ProgramUnit) (p : Name) (size : ℕ) (F : Shape) (store : Store) (h : Refers F store) (some : 0 < length (F p)) where
  here : now (shape store) p ≡ now F p
  here = ap (λ fs. (p, length fs - 1)) (h.shape.each p)

  now_lives : IsLive F (now F p)
  now_lives = omega (arith, some)

  from_here : (levels : ℕ) → Means F (now F p) (reached (shape store) levels (now (shape store) p))
  from_here levels = subst (λ x. Means F (now F p) (reached (shape store) levels x)) (sym here) (reached_means F store h levels (now F p) now_lives)

  pub slot_means : (levels variable : ℕ) → Means F (now F p) (slot store p levels variable).spot
  slot_means levels variable =
      let t : Spot = reached (shape store) levels (now (shape store) p) in
      located_means F (now F p) t variable (cell store t variable) (from_here levels) (cell_means F store h t variable)

pub meant_means : (unit : ProgramUnit) (p : Name) (size : ℕ) (F : Shape) (w : World) → Refers F w.store → 0 < length (F p) → (c : Callee)
    → CellMeans F (now F p) (procedure (meant unit p size c w))
meant_means unit p size F w h some (callee.Block levels number) = from_here unit p size F w.store h some levels
meant_means unit p size F w h some (callee.Formal levels variable) =
    let t : Spot = reached (shape w.store) levels (now (shape w.store) p) in
    procedure_means F (now F p) (cell w.store t variable)
    (cell_means_all F (now F p) t (cell w.store t variable) (from_here unit p size F w.store h some levels) (cell_means F w.store h t variable))

pub nothing_dangles : (store : Store) → Refers (shape store) store → NothingDangles store
nothing_dangles store h = record {
  parents = λ s l. parent_means (shape store) store h s l;
  cells = λ s variable l. cell_means (shape store) store h s
      variable;
}
