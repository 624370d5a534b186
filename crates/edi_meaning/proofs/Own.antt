-- Where variables may be: what a cell of a process means, and where a static parent is, is with that process or an
-- ancestor of it.
use Rattle.std.proofs.Common.{◌≡◌, ℕ, zero, suc, ◌+◌, ◌-◌, ◌≤◌, ◌⊎◌, inl, inr, false, List, [], ◌∷◌, ◌++◌, map, take, length, Option, Some, None, refl, sym}
use Rattle.std.proofs.Common.{subst, ap, ◌∙◌, arith}
use Rattle.std.specs.Prelude.{⊤, slice_get, slice_set, slice_index_or, unwrap_or}
use Rattle.std.proofs.lemmas.List.{length-take, nil_from_length}
use Rattle.edi_calls.specs.Names.{Name, same, with_at, without}
use Rattle.edi_calls.specs.Ready.{child, parent_of}
use Rattle.edi_calls.proofs.Tables.{same-or-other, find-with_at-same, find-with_at-other, find-without-same, find-without-other}
use Rattle.edi_unit.specs.declared.expressions.Callee.{Callee}
use Rattle.edi_unit.specs.declared.expressions.Callee.TheVariants as callee
use Rattle.edi_unit.specs.Need.{block_at}
use Rattle.edi_unit.specs.Types as types
use Rattle.edi_unit.specs.Values.{Value, zero_value}
use Rattle.edi_unit.specs.Tree.{ProgramUnit}
use Rattle.edi_meaning.specs.Store.{Spot, Location, system_procedure, block_procedure, Cell, value, location, procedure, Instance, Store, instances, frames}
use Rattle.edi_meaning.specs.Store.{shape, no_frame, frame_at, reached, now, cells_in, with_cell_in, no_cell, cell, located, slot, put, procedure_in}
use Rattle.edi_meaning.specs.Store.{ancestor, Owns}
use Rattle.edi_meaning.specs.Evaluation.{World}
use Rattle.edi_meaning.specs.Whole.{result_cells, meant, instance_of}
use Rattle.edi_meaning.proofs.Lasting.{Every}
use Rattle.edi_calls.proofs.Names.{parent-child}

-- ---- ancestors

pub owns_self : (p : Name) → Owns p p
owns_self p = record { generation = 0; is = refl }

ancestor-add : (m n : ℕ) (p : Name) → ancestor m (ancestor n p) ≡ ancestor (m + n) p
ancestor-add zero n p = let e : n ≡ zero + n = omega arith in ap (λ k. ancestor k p) e
ancestor-add (suc m) n p = let e : suc (m + n) ≡ suc m + n = omega arith in ap parent_of (ancestor-add m n p) ∙ ap (λ k. ancestor k p) e

-- an ancestor of an ancestor is one
pub owns_all : (p r s : Name) → Owns p r → Owns r s → Owns p s
owns_all p r s a b = record {
  generation = b.generation + a.generation;
  is = b.is ∙ ap (ancestor b.generation) a.is ∙ ancestor-add b.generation a.generation p;
}

pub length-ancestor : (n : ℕ) (p : Name) → length (ancestor n p) ≤ length p - n
length-ancestor zero p = omega arith
length-ancestor (suc n) p = omega (arith, length-ancestor n p, length-take (length (ancestor n p) - 2) (ancestor n p))

-- the first process is an ancestor of all
pub owns_first : (p : Name) → Owns p []
owns_first p = record { generation = length p; is = sym (nil_from_length (ancestor (length p) p) (omega (arith, length-ancestor (length p) p))) }

-- a child's parent is its ancestor
pub owns_parent : (p : Name) (f i : ℕ) → Owns (child p f i) p
owns_parent p f i = record { generation = 1; is = sym (parent-child p f i) }

-- ---- lists

module _ {A : Type 0} (P : A → Type 0) where
  pub every-append : (xs ys : List A) → Every P xs → Every P ys → Every P (xs ++ ys)
  every-append [] ys h k = k
  every-append (x ∷ xs) ys h k = (h.0, every-append xs ys h.1 k)

  pub every-take : (n : ℕ) (xs : List A) → Every P xs → Every P (take n xs)
  every-take zero xs h = tt
  every-take (suc n) [] h = tt
  every-take (suc n) (x ∷ xs) h = (h.0, every-take n xs h.1)

  pub every-at : (xs : List A) (i : ℕ) (d : A) → Every P xs → P d → P (slice_index_or xs i d)
  every-at [] i d h k = k
  every-at (x ∷ xs) zero d h k = h.0
  every-at (x ∷ xs) (suc i) d h k = every-at xs i d h.1 k

  pub every-set : (xs : List A) (i : ℕ) (y : A) → P y → Every P xs → Every P (slice_set xs i y)
  every-set [] i y k h = tt
  every-set (x ∷ xs) zero y k h = (k, h.1)
  every-set (x ∷ xs) (suc i) y k h = (h.0, every-set xs i y k h.1)

-- ---- cells and static parents

-- what a cell of r means is with r or an ancestor of r
abbrev pub CellOwned : Name → Cell → Type 0
CellOwned r (value v) = ⊤
CellOwned r (location l) = Owns r l.spot.0
CellOwned r (procedure (system_procedure number)) = ⊤
CellOwned r (procedure (block_procedure number parent)) = Owns r parent.0

pub record InstanceOwned (r : Name) (i : Instance) : Type 0 where
  pub parent : Owns r i.frame.parent.0
  pub cells : Every (CellOwned r) i.cells

-- so it is in the whole store
pub record Owned (store : Store) : Type 0 where
  pub each : (r : Name) → Every (InstanceOwned r) (instances store r)

-- what an ancestor's cell means is with an ancestor
cell_of_ancestor : (p r : Name) (c : Cell) → Owns p r → CellOwned r c → CellOwned p c
cell_of_ancestor p r (value v) o h = tt
cell_of_ancestor p r (location l) o h = owns_all p r l.spot.0 o h
cell_of_ancestor p r (procedure (system_procedure number)) o h = tt
cell_of_ancestor p r (procedure (block_procedure number parent)) o h = owns_all p r parent.0 o h

parent_in : (r : Name) (is : List Instance) (depth : ℕ) → Every (InstanceOwned r) is → Owns r (unwrap_or (slice_get (frames is) depth) no_frame).parent.0
parent_in r [] depth h = owns_first r
parent_in r (i ∷ is) zero h = h.0.parent
parent_in r (i ∷ is) (suc depth) h = parent_in r is depth h.1

cells_owned : (r : Name) (is : List Instance) (depth : ℕ) → Every (InstanceOwned r) is → Every (CellOwned r) (cells_in is depth)
cells_owned r [] depth h = tt
cells_owned r (i ∷ is) zero h = h.0.cells
cells_owned r (i ∷ is) (suc depth) h = cells_owned r is depth h.1

cell_owned : (store : Store) (s : Spot) (variable : ℕ) → Owned store → CellOwned s.0 (cell store s variable)
cell_owned store s variable o =
    every-at (CellOwned s.0) (cells_in (instances store s.0) s.1) variable no_cell (cells_owned s.0 (instances store s.0) s.1 (o.each s.0)) tt

-- static parents lead to ancestors
reached_owned : (store : Store) (levels : ℕ) (s : Spot) → Owned store → Owns s.0 (reached (shape store) levels s).0
reached_owned store zero s o = owns_self s.0
reached_owned store (suc levels) s o =
    owns_all s.0 (frame_at (shape store) s).parent.0 (reached (shape store) levels (frame_at (shape store) s).parent).0
    (parent_in s.0 (instances store s.0) s.1 (o.each s.0)) (reached_owned store levels (frame_at (shape store) s).parent o)

located_owned : (p : Name) (s : Spot) (variable : ℕ) (c : Cell) → Owns p s.0 → CellOwned s.0 c → Owns p (located s variable c).spot.0
located_owned p s variable (value v) o h = o
located_owned p s variable (location l) o h = owns_all p s.0 l.spot.0 o h
located_owned p s variable (procedure c) o h = o

-- a slot of p is with p or an ancestor
pub slot_owned : (p : Name) (store : Store) (levels variable : ℕ) → Owned store → Owns p (slot store p levels variable).spot.0
slot_owned p store levels variable o =
    let s : Spot = reached (shape store) levels (now (shape store) p) in
    located_owned p s variable (cell store s variable) (reached_owned store levels (now (shape store) p) o) (cell_owned store s variable o)

procedure_owned : (p : Name) (c : Cell) → CellOwned p c → CellOwned p (procedure (procedure_in c))
procedure_owned p (value v) h = tt
procedure_owned p (location l) h = tt
procedure_owned p (procedure c) h = h

-- and so is what a callee means
pub meant_owned : (unit : ProgramUnit) (p : Name) (size : ℕ) (c : Callee) (w : World) → Owned w.store → CellOwned p (procedure (meant unit p size c w))
meant_owned unit p size (callee.Block levels number) w o = reached_owned w.store levels (now (shape w.store) p) o
meant_owned unit p size (callee.Formal levels variable) w o =
    let s : Spot = reached (shape w.store) levels (now (shape w.store) p) in
    procedure_owned p (cell w.store s variable)
    (cell_of_ancestor p s.0 (cell w.store s variable) (reached_owned w.store levels (now (shape w.store) p) o) (cell_owned w.store s variable o))

-- ---- new instances

module _ (P : Cell → Type 0) (values : (v : Value) → P (value v)) where
  result_cells_fit : (ts : List types.Shape) (t : Option ℕ) → Every P (result_cells ts t)
  result_cells_fit ts None = tt
  result_cells_fit ts (Some t) = (values (zero_value ts t), tt)

  zeros_fit : (ts : List types.Shape) (vs : List ℕ) → Every P (map (λ t. value (zero_value ts t)) vs)
  zeros_fit ts [] = tt
  zeros_fit ts (v ∷ vs) = (values (zero_value ts v), zeros_fit ts vs)

  -- what holds of values and of the arguments holds of all cells
  pub new_cells_fit : (unit : ProgramUnit) (r : Name) (size number : ℕ) (parent : Spot) (cells : List Cell) → Every P cells
      → Every P (instance_of unit r size number parent cells).cells
  new_cells_fit unit r size number parent cells h =
      let vs : List ℕ = (block_at unit.blocks number).variables in
      every-append P (result_cells unit.types (block_at unit.blocks number).result) (cells ++ map (λ t. value (zero_value unit.types t)) vs)
      (result_cells_fit unit.types (block_at unit.blocks number).result)
      (every-append P cells (map (λ t. value (zero_value unit.types t)) vs) h (zeros_fit unit.types vs))

pub calls_fit : (P : Cell → Type 0) → ((n : ℕ) → P (procedure (system_procedure n))) → (ns : List ℕ) → Every P (map (λ n. procedure (system_procedure n)) ns)
calls_fit P h [] = tt
calls_fit P h (n ∷ ns) = (h n, calls_fit P h ns)

pub instance_owned : (unit : ProgramUnit) (r : Name) (size number : ℕ) (parent : Spot) (cells : List Cell) → Owns r parent.0 → Every (CellOwned r) cells
    → InstanceOwned r (instance_of unit r size number parent cells)
instance_owned unit r size number parent cells o h = record { parent = o; cells = new_cells_fit (CellOwned r) (λ v. tt) unit r size number parent cells h }

-- ---- changes of a store

pub instances-same : (store : Store) (p : Name) (is : List Instance) → instances (with_at store p is) p ≡ is
instances-same store p is = ap (λ x. unwrap_or x []) (find-with_at-same store p is)

pub instances-other : (store : Store) (p r : Name) (is : List Instance) → same r p ≡ false → instances (with_at store p is) r ≡ instances store r
instances-other store p r is n = ap (λ x. unwrap_or x []) (find-with_at-other store p r is n)

pub instances-gone : (store : Store) (p : Name) → instances (without store p) p ≡ []
instances-gone store p = ap (λ x. unwrap_or x []) (find-without-same store p)

pub instances-left : (store : Store) (p r : Name) → same r p ≡ false → instances (without store p) r ≡ instances store r
instances-left store p r n = ap (λ x. unwrap_or x []) (find-without-other store p r n)

pub owned_with : (store : Store) (p : Name) (is : List Instance) → Owned store → Every (InstanceOwned p) is → Owned (with_at store p is)
owned_with store p is o h = record { each = λ r. go r (same-or-other r p) }
  where
    go : (r : Name) → (r ≡ p) ⊎ (same r p ≡ false) → Every (InstanceOwned r) (instances (with_at store p is) r)
    go r (inl e) = subst (λ z. Every (InstanceOwned z) (instances (with_at store p is) z)) (sym e)
        (subst (Every (InstanceOwned p)) (sym (instances-same store p is)) h)
    go r (inr n) = subst (Every (InstanceOwned r)) (sym (instances-other store p r is n)) (o.each r)

pub owned_without : (store : Store) (p : Name) → Owned store → Owned (without store p)
owned_without store p o = record { each = λ r. go r (same-or-other r p) }
  where
    go : (r : Name) → (r ≡ p) ⊎ (same r p ≡ false) → Every (InstanceOwned r) (instances (without store p) r)
    go r (inl e) = subst (λ z. Every (InstanceOwned z) (instances (without store p) z)) (sym e)
        (subst (Every (InstanceOwned p)) (sym (instances-gone store p)) tt)
    go r (inr n) = subst (Every (InstanceOwned r)) (sym (instances-left store p r n)) (o.each r)

with_cell_owned : (r : Name) (is : List Instance) (depth variable : ℕ) (c : Cell) → CellOwned r c → Every (InstanceOwned r) is
    → Every (InstanceOwned r) (with_cell_in is depth variable c)
with_cell_owned r [] depth variable c k h = tt
with_cell_owned r (i ∷ is) zero variable c k h = (record { parent = h.0.parent; cells = every-set (CellOwned r) i.cells variable c k h.0.cells }, h.1)
with_cell_owned r (i ∷ is) (suc depth) variable c k h = (h.0, with_cell_owned r is depth variable c k h.1)

pub put_owned : (store : Store) (l : Location) (v : Value) → Owned store → Owned (put store l v)
put_owned store l v o = owned_with store l.spot.0 _ o (with_cell_owned l.spot.0 (instances store l.spot.0) l.spot.1 l.variable _ tt (o.each l.spot.0))
