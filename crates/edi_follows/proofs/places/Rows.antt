-- The variables of a frame stand one behind another: so the words of a row of cells, where they stand, are those of each.
use Rattle.std.proofs.Common.{◌≡◌, ℕ, zero, suc, ◌+◌, ◌<◌, ◌≤◌, List, [], ◌∷◌, ◌++◌, take, drop, length, get_or, drop-drop, refl, sym, ap, ◌∙◌, arith}
use Rattle.std.proofs.Common.{length-append}
use Rattle.std.specs.Prelude.{sum_by, slice_get, slice_index_or}
use Rattle.std.proofs.Math.Seq.{take-append_seam, drop-append_seam}
use Rattle.std.proofs.lemmas.Grind.{same_number_lists}
use Rattle.std.proofs.lemmas.List.Sums.{sum_by-cons}
use Rattle.edi_calls.specs.Names.{Name}
use Rattle.edi_store.specs.Memory.{words_at}
use Rattle.edi_store.proofs.MemoryLaws.{length-words_at, get_or-words_at}
use Rattle.edi_unit.specs.declared.units.Parameter.{Parameter}
use Rattle.edi_unit.specs.Need.{slot_words}
use Rattle.edi_meaning.specs.Store.{Cell, no_cell, Shape}
use Rattle.edi_follows.specs.places.Coded.{Coded, words_in}
use Rattle.edi_follows.specs.places.Spots.{cell_words, cells_words}

-- a part of words that stand somewhere
pub part_stands : (m ws : List ℕ) (at n k j : ℕ) → words_at m at n ≡ ws → at + n ≤ length m → k + j ≤ n → words_at m (at + k) j ≡ words_at ws k j
part_stands m ws at n k j e room le =
    let long : length ws ≡ n = ap length (sym e) ∙ length-words_at m at n room in
    let one : length (words_at m (at + k) j) ≡ j = length-words_at m (at + k) j (omega (arith, room, le)) in
    let other : length (words_at ws k j) ≡ j = length-words_at ws k j (omega (arith, long, le)) in
    same_number_lists (words_at m (at + k) j) (words_at ws k j) (one ∙ sym other) (λ i below.
    let less : i < j = omega (arith, one, below) in
    get_or-words_at m (at + k) j i less
    ∙ ap (λ x. get_or m x 0) (omega arith)
    ∙ sym (get_or-words_at m at n (k + i) (omega (arith, less, le)))
    ∙ ap (λ l. get_or l (k + i) 0) e
    ∙ sym (get_or-words_at ws k j i less))

module _ (g : Coded) (first : Name → ℕ) (F : Shape) where
  -- each cell has as many words as its variable
  abbrev pub Aligned : List Parameter → List Cell → Type 0
  Aligned [] [] = Unit {0}
  Aligned [] (c ∷ cs) = ⊥
  Aligned (p ∷ ps) [] = ⊥
  Aligned (p ∷ ps) (c ∷ cs) = (length (cell_words g first F c) ≡ slot_words g.unit.types p) × Aligned ps cs

  pub aligned_length : (ps : List Parameter) (cs : List Cell) → Aligned ps cs → length (cells_words g first F cs) ≡ sum_by (slot_words g.unit.types) ps
  aligned_length [] [] h = refl
  aligned_length [] (c ∷ cs) h = absurd h
  aligned_length (p ∷ ps) [] h = absurd h
  aligned_length (p ∷ ps) (c ∷ cs) h =
      omega (
        arith,
        length-append (cell_words g first F c) (cells_words g first F cs),
        h.0,
        aligned_length ps cs h.1,
        sum_by-cons (slot_words g.unit.types) p ps,
      )

  pub aligned_count : (ps : List Parameter) (cs : List Cell) → Aligned ps cs → length cs ≡ length ps
  aligned_count [] [] h = refl
  aligned_count [] (c ∷ cs) h = absurd h
  aligned_count (p ∷ ps) [] h = absurd h
  aligned_count (p ∷ ps) (c ∷ cs) h = ap suc (aligned_count ps cs h.1)

  pub aligned_append : (ps qs : List Parameter) (cs ds : List Cell) → Aligned ps cs → Aligned qs ds → Aligned (ps ++ qs) (cs ++ ds)
  aligned_append [] qs [] ds h k = k
  aligned_append [] qs (c ∷ cs) ds h k = absurd h
  aligned_append (p ∷ ps) qs [] ds h k = absurd h
  aligned_append (p ∷ ps) qs (c ∷ cs) ds h k = (h.0, aligned_append ps qs cs ds h.1 k)

  pub row_words : (ps : List Parameter) (cs : List Cell) (v : ℕ) → Aligned ps cs → v < length ps →
      words_at (cells_words g first F cs) (sum_by (slot_words g.unit.types) (take v ps)) (words_in g (slice_get ps v)) ≡ cell_words g first F
      (slice_index_or cs v no_cell)
  row_words [] cs v h l = absurd (omega arith)
  row_words (p ∷ ps) [] v h l = absurd h
  row_words (p ∷ ps) (c ∷ cs) zero h l = ap (λ n. take n (cell_words g first F c ++ cells_words g first F cs)) (sym h.0)
      ∙ take-append_seam (cell_words g first F c) (cells_words g first F cs)
  row_words (p ∷ ps) (c ∷ cs) (suc v) h l =
      let n : sum_by (slot_words g.unit.types) (p ∷ take v ps) ≡ length (cell_words g first F c) + sum_by (slot_words g.unit.types) (take v ps) =
      omega (arith, sum_by-cons (slot_words g.unit.types) p (take v ps), h.0) in
      ap (λ k. words_at (cell_words g first F c ++ cells_words g first F cs) k (words_in g (slice_get ps v))) n
      ∙ ap (take (words_in g (slice_get ps v))) (
      sym (drop-drop (sum_by (slot_words g.unit.types) (take v ps)) (length (cell_words g first F c)) (cell_words g first F c ++ cells_words g first F cs)
      ∙ ap (λ k. drop k (cell_words g first F c ++ cells_words g first F cs)) (omega arith))
      ∙ ap (drop (sum_by (slot_words g.unit.types) (take v ps))) (drop-append_seam (cell_words g first F c) (cells_words g first F cs)))
      ∙ row_words ps cs v h.1 (omega arith)
