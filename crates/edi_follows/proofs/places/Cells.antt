-- What the variables hold after a value has been put at a location: the one variable is changed, and no other.
use Rattle.std.proofs.Common.{◌≡◌, ◌≢◌, ℕ, zero, suc, ◌<◌, ◌⊎◌, inl, inr, false, List, [], ◌∷◌, length, refl, sym, ap, ◌∙◌}
use Rattle.std.specs.Prelude.{slice_set, slice_index_or}
use Rattle.std.proofs.lemmas.List.{length-set, get_or-set_same, get_or-set_other}
use Rattle.edi_calls.specs.Names.{same}
use Rattle.edi_unit.specs.Values.{Value}
use Rattle.edi_meaning.specs.Parts.{with_part}
use Rattle.edi_meaning.specs.Store.{Spot, Location, Cell, value, Instance, Store, instances, cells_in, with_cell_in, no_cell, cell, put, value_in}
use Rattle.edi_meaning.proofs.Own.{instances-same, instances-other}

-- ---- the cells of one process

cells-same : (is : List Instance) (d v : ℕ) (c : Cell) → cells_in (with_cell_in is d v c) d ≡ slice_set (cells_in is d) v c
cells-same [] d v c = refl
cells-same (i ∷ is) zero v c = refl
cells-same (i ∷ is) (suc d) v c = cells-same is d v c

cells-other : (is : List Instance) (d e v : ℕ) (c : Cell) → e ≢ d → cells_in (with_cell_in is d v c) e ≡ cells_in is e
cells-other [] d e v c n = refl
cells-other (i ∷ is) zero zero v c n = absurd (n refl)
cells-other (i ∷ is) zero (suc e) v c n = refl
cells-other (i ∷ is) (suc d) zero v c n = refl
cells-other (i ∷ is) (suc d) (suc e) v c n = cells-other is d e v c (λ h. n (ap suc h))

-- ---- the cells of all

module _ (store : Store) (l : Location) (x : Value) where
  -- what the variable holds then
  abbrev pub new_cell : Cell
  new_cell = value (with_part (value_in (cell store l.spot l.variable)) l.path x)

  abbrev here : List Instance
  here = instances store l.spot.0

  here_is : instances (put store l x) l.spot.0 ≡ with_cell_in here l.spot.1 l.variable new_cell
  here_is = instances-same store l.spot.0 (with_cell_in here l.spot.1 l.variable new_cell)

  frame_is : cells_in (instances (put store l x) l.spot.0) l.spot.1 ≡ slice_set (cells_in here l.spot.1) l.variable new_cell
  frame_is = ap (λ is. cells_in is l.spot.1) here_is ∙ cells-same here l.spot.1 l.variable new_cell

  -- another instance keeps its cells
  pub cells_elsewhere : (z : Spot) → (same z.0 l.spot.0 ≡ false) ⊎ ((z.0 ≡ l.spot.0) × (z.1 ≢ l.spot.1)) →
      cells_in (instances (put store l x) z.0) z.1 ≡ cells_in (instances store z.0) z.1
  cells_elsewhere z (inl n) = ap (λ is. cells_in is z.1) (instances-other store l.spot.0 z.0 (with_cell_in here l.spot.1 l.variable new_cell) n)
  cells_elsewhere z (inr e) =
      ap (λ y. cells_in (instances (put store l x) y) z.1) e.0 ∙ ap (λ is. cells_in is z.1) here_is
      ∙ cells-other here l.spot.1 z.1 l.variable new_cell e.1 ∙ sym (ap (λ y. cells_in (instances store y) z.1) e.0)

  pub cell_here : l.variable < length (cells_in here l.spot.1) → cell (put store l x) l.spot l.variable ≡ new_cell
  cell_here h = ap (λ cs. slice_index_or cs l.variable no_cell) frame_is ∙ get_or-set_same (cells_in here l.spot.1) l.variable new_cell no_cell h

  pub cell_beside : (v : ℕ) → v ≢ l.variable → cell (put store l x) l.spot v ≡ cell store l.spot v
  cell_beside v n = ap (λ cs. slice_index_or cs v no_cell) frame_is ∙ get_or-set_other (cells_in here l.spot.1) l.variable v new_cell no_cell n

  pub count_here : length (cells_in (instances (put store l x) l.spot.0) l.spot.1) ≡ length (cells_in here l.spot.1)
  count_here = ap length frame_is ∙ length-set (cells_in here l.spot.1) l.variable new_cell
