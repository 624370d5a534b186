-- The cells of a new instance: as many words as its variables have, and each holds what its variable may hold.
use Rattle.std.proofs.Common.{◌≡◌, ℕ, zero, suc, ◌+◌, ◌<◌, List, [], ◌∷◌, ◌++◌, map, length, append_assoc, Option, Some, None, refl, sym, subst, ap, ◌∙◌, arith}
use Rattle.std.specs.Prelude.{sum_by, slice_get, slice_index_or, replicate, option_to_list, All}
use Rattle.std.proofs.lemmas.List.{replicate-append-replicate}
use Rattle.std.proofs.lemmas.List.Sums.{sum_by-cons}
use Rattle.edi_calls.specs.Names.{Name}
use Rattle.edi_unit.specs.declared.units.Parameter.{Parameter}
use Rattle.edi_unit.specs.declared.units.Parameter.TheVariants as slot
use Rattle.edi_unit.specs.Types as types
use Rattle.edi_unit.specs.Types.{size}
use Rattle.edi_unit.specs.Values.{zero_value}
use Rattle.edi_unit.proofs.ZeroValues.{zero_is_of}
use Rattle.edi_unit.specs.Tree.{Block}
use Rattle.edi_unit.specs.Need.{slots}
use Rattle.edi_unit.specs.Fits as fits
use Rattle.edi_unit.specs.Fits.{BlockFits, SlotIsKnown, block_heading}
use Rattle.edi_unit.specs.Headings.{heading_formals}
use Rattle.edi_meaning.specs.Store.{Spot, system_procedure, block_procedure, Cell, value, location, procedure, no_cell, Shape}
use Rattle.edi_meaning.specs.Whole.{result_cells}
use Rattle.edi_scheme.specs.Pieces as pieces
use Rattle.edi_follows.specs.values.Words.{IsTable, ValuesAreLong, ZeroIsZeros}
use Rattle.edi_follows.specs.places.Coded.{Coded, block, heading_of}
use Rattle.edi_follows.specs.places.Spots.{cell_words, cells_words, Holds}
use Rattle.edi_follows.specs.places.Scene.{Scene}
use Rattle.edi_follows.specs.places.Claims.{CellsFit}
use Rattle.edi_follows.proofs.places.Rows.{Aligned, aligned_append}

known_right : (types : List types.Shape) (ps qs : List Parameter) → All (SlotIsKnown types) (ps ++ qs) → All (SlotIsKnown types) qs
known_right types [] qs h = h
known_right types (p ∷ ps) qs h = known_right types ps qs (λ k d l. h (suc k) d (omega (arith, l)))

known_left : (types : List types.Shape) (ps qs : List Parameter) → All (SlotIsKnown types) (ps ++ qs) → All (SlotIsKnown types) ps
known_left types [] qs h = λ k d l. absurd (omega (arith, l))
known_left types (p ∷ ps) qs h = go (known_left types ps qs (λ k d l. h (suc k) d (omega (arith, l))))
  where
    go : All (SlotIsKnown types) ps → All (SlotIsKnown types) (p ∷ ps)
    go rest zero d l = h zero d (omega arith)
    go rest (suc k) d l = rest k d (omega (arith, l))

pub cells_append : (g : Coded) (first : Name → ℕ) (F : Shape) (cs ds : List Cell) → cells_words g first F
    (cs ++ ds) ≡ cells_words g first F cs ++ cells_words g first F ds
cells_append g first F [] ds = refl
cells_append g first F (c ∷ cs) ds = ap (λ l. cell_words g first F c ++ l) (cells_append g first F cs ds)
    ∙ sym (append_assoc (cell_words g first F c) (cells_words g first F cs) (cells_words g first F ds))

-- what the cells of a frame at z hold, of a block with number n
module _ (g : Coded) (F : Shape) (z : Spot) (n : ℕ) where
  -- the cells of variables from number v on
  abbrev pub HoldAll : ℕ → List Parameter → List Cell → Type 0
  HoldAll v [] [] = Unit {0}
  HoldAll v [] (c ∷ cs) = ⊥
  HoldAll v (p ∷ ps) [] = ⊥
  HoldAll v (p ∷ ps) (c ∷ cs) = Holds g F z (heading_of g n v) (Some p) c × HoldAll (suc v) ps cs

  pub hold_at : (u : ℕ) (ps : List Parameter) (cs : List Cell) (v : ℕ) → HoldAll u ps cs → v < length ps →
      Holds g F z (heading_of g n (u + v)) (slice_get ps v) (slice_index_or cs v no_cell)
  hold_at u [] cs v h l = absurd (omega (arith, l))
  hold_at u (p ∷ ps) [] v h l = absurd h
  hold_at u (p ∷ ps) (c ∷ cs) zero h l = subst (λ k. Holds g F z (heading_of g n k) (Some p) c) (omega arith) h.0
  hold_at u (p ∷ ps) (c ∷ cs) (suc v) h l = subst (λ k. Holds g F z (heading_of g n k) (slice_get ps v) (slice_index_or cs v no_cell)) (omega arith)
      (hold_at (suc u) ps cs v h.1 (omega (arith, l)))

  pub hold_append : (u v : ℕ) (ps qs : List Parameter) (cs ds : List Cell) → u + length ps ≡ v → HoldAll u ps cs → HoldAll v qs ds → HoldAll u (ps ++ qs) (cs ++ ds)
  hold_append u v [] qs [] ds e h k = subst (λ y. HoldAll y qs ds) (omega (arith, e)) k
  hold_append u v [] qs (c ∷ cs) ds e h k = absurd h
  hold_append u v (p ∷ ps) qs [] ds e h k = absurd h
  hold_append u v (p ∷ ps) qs (c ∷ cs) ds e h k = (h.0, hold_append (suc u) v ps qs cs ds (omega (arith, e)) h.1 k)

  pub zeros_hold : (v : ℕ) (vs : List ℕ) → All (SlotIsKnown g.unit.types) (map slot.Value vs) → HoldAll v (map slot.Value vs) (map (λ t. value (zero_value g.unit.types t)) vs)
  zeros_hold v [] h = tt
  zeros_hold v (t ∷ vs) h = (
    zero_is_of g.unit.types t g.fits.table g.fits.shapes (h 0 (slot.Value t) (omega arith)),
    zeros_hold (suc v) vs (λ i d l. h (suc i) d (omega (arith, l))),
  )

module _ (g : Coded) (long : ValuesAreLong) (zeros : ZeroIsZeros) (s : Scene) (F : Shape) (z : Spot) (n : ℕ) (known : n < length g.unit.blocks) where
  abbrev ts : List types.Shape
  ts = g.unit.types

  abbrev B : Block
  B = block g n

  abbrev bf : BlockFits ts g.unit.blocks g.fits.headings n
  bf = g.fits.fits_blocks n known

  table : IsTable ts
  table = record { table = g.fits.table; shapes = g.fits.shapes; parts = g.parts }

  -- ---- zeros

  zeros_aligned : (vs : List ℕ) → All (SlotIsKnown ts) (map slot.Value vs) → Aligned g s.first F (map slot.Value vs) (map (λ t. value (zero_value ts t)) vs)
  zeros_aligned [] h = tt
  zeros_aligned (t ∷ vs) h =
      let k : t < length ts = h 0 (slot.Value t) (omega arith) in
      (long ts table (zero_value ts t) t k (zero_is_of ts t g.fits.table g.fits.shapes k), zeros_aligned vs (λ i d l. h (suc i) d (omega (arith, l))))

  zero_words_of : (vs : List ℕ) → All (SlotIsKnown ts) (map slot.Value vs) → cells_words g s.first F (map (λ t. value (zero_value ts t)) vs) ≡ replicate
      (sum_by (size ts) vs) 0
  zero_words_of [] h = refl
  zero_words_of (t ∷ vs) h =
      (λ i. zeros ts table t (h 0 (slot.Value t) (omega arith)) i ++ zero_words_of vs (λ i d l. h (suc i) d (omega (arith, l))) i)
      ∙ replicate-append-replicate (size ts t) (sum_by (size ts) vs) 0
      ∙ ap (λ k. replicate k 0) (sym (sum_by-cons (size ts) t vs))

  -- the function variable
  result_aligned : (r : Option ℕ) → All (SlotIsKnown ts) (map slot.Value (option_to_list r)) →
      Aligned g s.first F (map slot.Value (option_to_list r)) (result_cells ts r)
  result_aligned None h = tt
  result_aligned (Some t) h = zeros_aligned (t ∷ []) h

  result_holds : (r : Option ℕ) → All (SlotIsKnown ts) (map slot.Value (option_to_list r)) → HoldAll g F z n 0 (map slot.Value (option_to_list r)) (result_cells ts r)
  result_holds None h = tt
  result_holds (Some t) h = zeros_hold g F z n 0 (t ∷ []) h

  result_zeros : (r : Option ℕ) → All (SlotIsKnown ts) (map slot.Value (option_to_list r)) →
      cells_words g s.first F (result_cells ts r) ≡ replicate (pieces.result_words ts r) 0
  result_zeros None h = refl
  result_zeros (Some t) h =
      let one : sum_by (size ts) (t ∷ []) ≡ size ts t = omega (arith, sum_by-cons (size ts) t []) in
      zero_words_of (t ∷ []) h ∙ ap (λ k. replicate {A = ℕ} k 0) one

  result_count : (r : Option ℕ) → 0 + length (map slot.Value (option_to_list r)) ≡ fits.first_parameter r
  result_count None = refl
  result_count (Some t) = refl

  -- ---- arguments

  args_aligned : (v : ℕ) (ps : List Parameter) (cs : List Cell) → All (SlotIsKnown ts) ps →
      CellsFit g s F z (fits.formals_from (g.fits.headings n) v ps) cs → Aligned g s.first F ps cs
  args_aligned v [] [] k h = tt
  args_aligned v [] (c ∷ cs) k h = absurd h
  args_aligned v (slot.Value t ∷ ps) [] k h = absurd h
  args_aligned v (slot.Var t ∷ ps) [] k h = absurd h
  args_aligned v (slot.Formal r ∷ ps) [] k h = absurd h
  args_aligned v (slot.Value t ∷ ps) (value x ∷ cs) k h =
      (long ts table x t (k 0 (slot.Value t) (omega arith)) h.0, args_aligned (suc v) ps cs (λ i d l. k (suc i) d (omega (arith, l))) h.1)
  args_aligned v (slot.Value t ∷ ps) (location l ∷ cs) k h = absurd h.0
  args_aligned v (slot.Value t ∷ ps) (procedure c ∷ cs) k h = absurd h.0
  args_aligned v (slot.Var t ∷ ps) (value x ∷ cs) k h = absurd h.0
  args_aligned v (slot.Var t ∷ ps) (location l ∷ cs) k h = (refl, args_aligned (suc v) ps cs (λ i d l. k (suc i) d (omega (arith, l))) h.1)
  args_aligned v (slot.Var t ∷ ps) (procedure c ∷ cs) k h = absurd h.0
  args_aligned v (slot.Formal r ∷ ps) (value x ∷ cs) k h = absurd h.0
  args_aligned v (slot.Formal r ∷ ps) (location l ∷ cs) k h = absurd h.0
  args_aligned v (slot.Formal r ∷ ps) (procedure (system_procedure number) ∷ cs) k h =
      (refl, args_aligned (suc v) ps cs (λ i d l. k (suc i) d (omega (arith, l))) h.1)
  args_aligned v (slot.Formal r ∷ ps) (procedure (block_procedure number parent) ∷ cs) k h =
      (refl, args_aligned (suc v) ps cs (λ i d l. k (suc i) d (omega (arith, l))) h.1)

  args_hold : (v : ℕ) (ps : List Parameter) (cs : List Cell) → CellsFit g s F z (fits.formals_from (g.fits.headings n) v ps) cs → HoldAll g F z n v ps cs
  args_hold v [] [] h = tt
  args_hold v [] (c ∷ cs) h = absurd h
  args_hold v (slot.Value t ∷ ps) [] h = absurd h
  args_hold v (slot.Var t ∷ ps) [] h = absurd h
  args_hold v (slot.Formal r ∷ ps) [] h = absurd h
  args_hold v (slot.Value t ∷ ps) (value x ∷ cs) h = (h.0, args_hold (suc v) ps cs h.1)
  args_hold v (slot.Value t ∷ ps) (location l ∷ cs) h = absurd h.0
  args_hold v (slot.Value t ∷ ps) (procedure c ∷ cs) h = absurd h.0
  args_hold v (slot.Var t ∷ ps) (value x ∷ cs) h = absurd h.0
  args_hold v (slot.Var t ∷ ps) (location l ∷ cs) h = (h.0, args_hold (suc v) ps cs h.1)
  args_hold v (slot.Var t ∷ ps) (procedure c ∷ cs) h = absurd h.0
  args_hold v (slot.Formal r ∷ ps) (value x ∷ cs) h = absurd h.0
  args_hold v (slot.Formal r ∷ ps) (location l ∷ cs) h = absurd h.0
  args_hold v (slot.Formal r ∷ ps) (procedure (system_procedure number) ∷ cs) h = (h.0, args_hold (suc v) ps cs h.1)
  args_hold v (slot.Formal r ∷ ps) (procedure (block_procedure number parent) ∷ cs) h = (h.0, args_hold (suc v) ps cs h.1)

  -- ---- all of them

  known_result : All (SlotIsKnown ts) (map slot.Value (option_to_list B.result))
  known_result = known_left ts (map slot.Value (option_to_list B.result)) (B.parameters ++ map slot.Value B.variables) bf.known

  known_rest : All (SlotIsKnown ts) (B.parameters ++ map slot.Value B.variables)
  known_rest = known_right ts (map slot.Value (option_to_list B.result)) (B.parameters ++ map slot.Value B.variables) bf.known

  known_parameters : All (SlotIsKnown ts) B.parameters
  known_parameters = known_left ts B.parameters (map slot.Value B.variables) known_rest

  known_variables : All (SlotIsKnown ts) (map slot.Value B.variables)
  known_variables = known_right ts B.parameters (map slot.Value B.variables) known_rest

  module _ (cells : List Cell) (fit : CellsFit g s F z (heading_formals (block_heading g.fits.headings g.unit.blocks n)) cells) where
    abbrev pub all_cells : List Cell
    all_cells = result_cells ts B.result ++ (cells ++ map (λ t. value (zero_value ts t)) B.variables)

    pub arguments_aligned : Aligned g s.first F B.parameters cells
    arguments_aligned = args_aligned (fits.first_parameter B.result) B.parameters cells known_parameters fit

    pub all_aligned : Aligned g s.first F (slots B) all_cells
    all_aligned =
        aligned_append g s.first F (map slot.Value (option_to_list B.result)) (B.parameters ++ map slot.Value B.variables) (result_cells ts B.result) _
        (result_aligned B.result known_result)
        (aligned_append g s.first F B.parameters (map slot.Value B.variables) cells (map (λ t. value (zero_value ts t)) B.variables) arguments_aligned
        (zeros_aligned B.variables known_variables))

    pub all_hold : HoldAll g F z n 0 (slots B) all_cells
    all_hold =
        hold_append g F z n 0 (fits.first_parameter B.result) (map slot.Value (option_to_list B.result)) (B.parameters ++ map slot.Value B.variables)
        (result_cells ts B.result) _ (result_count B.result) (result_holds B.result known_result)
        (hold_append g F z n (fits.first_parameter B.result) (fits.first_parameter B.result + length B.parameters) B.parameters (map slot.Value B.variables) cells
        (map (λ t. value (zero_value ts t)) B.variables) refl
        (args_hold (fits.first_parameter B.result) B.parameters cells fit)
        (zeros_hold g F z n (fits.first_parameter B.result + length B.parameters) B.variables known_variables))

    -- their words: zeros, the arguments, and zeros
    pub all_words : cells_words g s.first F all_cells ≡ replicate (pieces.result_words ts B.result) 0 ++
        (cells_words g s.first F cells ++ replicate (sum_by (size ts) B.variables) 0)
    all_words =
        cells_append g s.first F (result_cells ts B.result) (cells ++ map (λ t. value (zero_value ts t)) B.variables)
        ∙ (λ i. result_zeros B.result known_result i ++
        (cells_append g s.first F cells (map (λ t. value (zero_value ts t)) B.variables)
        ∙ ap (λ l. cells_words g s.first F cells ++ l) (zero_words_of B.variables known_variables)) i)
