-- The lines of a frame are read off the words that stand for what the variables of its instance hold.
use Rattle.std.proofs.Common.{◌≡◌, ℕ, zero, suc, ◌+◌, List, [], ◌∷◌, ◌++◌, drop, take, Some, slice_get, refl, sym, subst, ap, ◌∙◌, arith}
use Rattle.std.proofs.Common.{drop-drop, get_or}
use Rattle.std.proofs.lemmas.List.Sums.{sum_by-cons}
use Rattle.std.specs.Prelude.{slice_index, sum_by}
use Rattle.edi_calls.proofs.Names.{some_is}
use Rattle.edi_store.specs.Memory.{words_at}
use Rattle.edi_unit.specs.declared.units.Parameter.{Parameter}
use Rattle.edi_unit.specs.declared.units.Parameter.TheVariants as slot
use Rattle.edi_unit.specs.Types.{size}
use Rattle.edi_unit.specs.Need.{link_words, slots, slot_words}
use Rattle.edi_meaning.specs.Step.{Process}
use Rattle.edi_meaning.specs.Store.{Spot, Location, Shape, shape, located, cell, get, IsLive}
use Rattle.edi_meaning.specs.Evaluation.{World}
use Rattle.edi_meaning.specs.Laws.{IsWaiting}
use Rattle.edi_meaning.proofs.Dangling.{owner_waits}
use Rattle.edi_meaning.proofs.Parents.{waiting_does_not_run}
use Rattle.edi_follows.specs.values.Words.{IsTable}
use Rattle.edi_follows.proofs.values.Lengths.{values_are_long}
use Rattle.edi_follows.proofs.values.Portions.{parts_stand}
use Rattle.edi_follows.specs.places.Coded.{Coded, block, slot_in, words_in, heading_of}
use Rattle.edi_follows.specs.places.Spots.{address, block_at, Holds, Leads, slot_address, location_address, cell_words}
use Rattle.edi_follows.specs.places.Scene.{Scene, Stands}
use Rattle.edi_follows.specs.places.Instructions.{IsPart}
use Rattle.edi_follows.specs.places.Lands.{Stepping, scene}
use Rattle.edi_follows.proofs.places.Slots.{slot_is_in, HasValue, value_cell, HasLocation, location_cell}
use Rattle.edi_follows.proofs.places.Stores.{parts_are_there}
use Rattle.edi_follows.proofs.steps.Local.{stands}
use Rattle.edi_sights.specs.named.Naming.{Names, named_at}
use Rattle.edi_dump.specs.Frames.{Program, value_line, variable_text, variables_text}
use Rattle.edi_dump.specs.values.Laws.{value_text}
use Rattle.edi_dump.specs.values.Words.{words_text}
use Rattle.edi_dumped.specs.Instances.{instance_text, meant_text, LinesAreOfInstances}
use Rattle.edi_dump.proofs.valued.Told.{texts_are_of_values}

-- ---- lists

cut : (xs : List ℕ) (n : ℕ) → take n xs ++ drop n xs ≡ xs
cut xs zero = refl
cut [] (suc n) = refl
cut (x ∷ xs) (suc n) = ap (λ ys. x ∷ ys) (cut xs n)

first_is : (xs : List ℕ) (x : ℕ) → take 1 xs ≡ x ∷ [] → slice_index xs 0 ≡ x
first_is [] x e = absurd (cc)
first_is (y ∷ xs) x e = ap (λ l. slice_index l 0) e

-- what stands at a place of a list that is known from there on
there_is : {A : Type 0} (xs : List A) (v : ℕ) (p : A) (ps : List A) → drop v xs ≡ p ∷ ps → slice_get xs v ≡ Some p
there_is [] zero p ps e = absurd (cc)
there_is [] (suc v) p ps e = absurd (cc)
there_is (x ∷ xs) zero p ps e = ap (λ l. slice_get l 0) e
there_is (x ∷ xs) (suc v) p ps e = there_is xs v p ps e

rest_is : {A : Type 0} (xs : List A) (v : ℕ) (p : A) (ps : List A) → drop v xs ≡ p ∷ ps → drop (suc v) xs ≡ ps
rest_is [] zero p ps e = absurd (cc)
rest_is [] (suc v) p ps e = absurd (cc)
rest_is (x ∷ xs) zero p ps e = ap (drop 1) e
rest_is (x ∷ xs) (suc v) p ps e = rest_is xs v p ps e

sum_is : (f : Parameter → ℕ) (xs : List Parameter) (v : ℕ) (p : Parameter) (ps : List Parameter) → drop v xs ≡ p ∷ ps
    → sum_by f (take (suc v) xs) ≡ sum_by f (take v xs) + f p
sum_is f [] zero p ps e = absurd (cc)
sum_is f [] (suc v) p ps e = absurd (cc)
sum_is f (x ∷ xs) zero p ps e = let same : f x ≡ f p = ap (λ l. f (get_or l 0 p)) e in omega (arith, sum_by-cons f x [], same)
sum_is f (x ∷ xs) (suc v) p ps e = omega (arith, sum_by-cons f x (take (suc v) xs), sum_by-cons f x (take v xs), sum_is f xs v p ps e)

-- ---- the variables of an instance

module _ (g : Coded) (sc : Scene) (F : Shape) (w : World) (m : List ℕ) (h : Stands g sc F w m) (names : Names) (z : Spot) (lives : IsLive F z) where
  abbrev b : ℕ
  b = block_at g F z

  abbrev program : Program
  program = record { unit = g.unit; names = names }

  abbrev at : ℕ → ℕ
  at v = slot_address g sc.first F z v

  table : IsTable g.unit.types
  table = record { table = g.fits.table; shapes = g.fits.shapes; parts = g.parts }

  -- a value at a location
  at_location : (l : Location) (t : ℕ) → Leads g F l t
      → words_text g.unit.types names.constants t (drop (location_address g sc.first F l) m) ≡ value_text g.unit.types names.constants t (get w.store l)
  at_location l t leads =
      let part : IsPart g sc F w m l t = parts_are_there g sc values_are_long parts_stand F w m l t h leads in
      let a : ℕ = location_address g sc.first F l in
      let rest : List ℕ = drop (size g.unit.types t) (drop a m) in
      ap (words_text g.unit.types names.constants t) (sym (cut (drop a m) (size g.unit.types t)) ∙ ap (λ ws. ws ++ rest) part.words)
      ∙ texts_are_of_values g.unit.types names.constants table (get w.store l) t part.known part.typed rest

  -- what a variable may hold
  holds : (v : ℕ) (p : Parameter) → slot_in g b v ≡ Some p → Holds g F z (heading_of g b v) (Some p) (cell w.store z v)
  holds v p is = subst (λ o. Holds g F z (heading_of g b v) o (cell w.store z v)) is (h.typed.holds z v lives (slot_is_in g b v p is))

  variable_is : (v : ℕ) (p : Parameter) → slot_in g b v ≡ Some p
      → variable_text program m p (drop (at v) m) ≡ meant_text g.unit.types names.constants w.store z v p
  variable_is v (slot.Formal r) is = refl
  variable_is v (slot.Value t) is =
      let has : HasValue g F z (heading_of g b v) t (cell w.store z v) = value_cell g F z (heading_of g b v) t (cell w.store z v) (holds v (slot.Value t) is) in
      let l : Location = record { spot = z; variable = v; path = [] } in
      let leads : Leads g F l t = record { lives = lives; of = t; holds = is; path = tt; type = refl } in
      let same_place : at v ≡ location_address g sc.first F l = omega arith in
      let meant : located z v (cell w.store z v) ≡ l = ap (located z v) has.is in
      ap (λ a. words_text g.unit.types names.constants t (drop a m)) same_place
      ∙ (at_location l t leads ∙ ap (λ x. value_text g.unit.types names.constants t (get w.store x)) (sym meant))
  variable_is v (slot.Var t) is =
      let has : HasLocation g F z (heading_of g b v) t (cell w.store z v) =
      location_cell g F z (heading_of g b v) t (cell w.store z v) (holds v (slot.Var t) is) in
      let one : words_in g (slot_in g b v) ≡ 1 = ap (words_in g) is in
      let words : words_at m (at v) 1 ≡ location_address g sc.first F has.at ∷ [] =
      ap (words_at m (at v)) (sym one)
      ∙ (h.mirrors.cells z v lives (slot_is_in g b v (slot.Var t) is) ∙ ap (cell_words g sc.first F) has.is) in
      let meant : located z v (cell w.store z v) ≡ has.at = ap (located z v) has.is in
      ap (λ a. words_text g.unit.types names.constants t (drop a m)) (first_is (drop (at v) m) (location_address g sc.first F has.at) words)
      ∙ (at_location has.at t has.leads ∙ ap (λ x. value_text g.unit.types names.constants t (get w.store x)) (sym meant))

  next_address : (v : ℕ) (p : Parameter) (ps : List Parameter) → drop v (slots (block g b)) ≡ p ∷ ps → at (suc v) ≡ slot_words g.unit.types p + at v
  next_address v p ps e = omega (arith, sum_is (slot_words g.unit.types) (slots (block g b)) v p ps e)

  lines_are : (v : ℕ) (own : List (List ℕ)) (ps : List Parameter) → drop v (slots (block g b)) ≡ ps
      → variables_text program m own ps (drop (at v) m) ≡ instance_text g.unit.types names.constants w.store z v own ps
  lines_are v [] ps e = refl
  lines_are v (name ∷ own) [] e = refl
  lines_are v (name ∷ own) (p ∷ ps) e =
      let line : List ℕ → List ℕ = value_line name in
      let behind : drop (slot_words g.unit.types p) (drop (at v) m) ≡ drop (at (suc v)) m =
      drop-drop (slot_words g.unit.types p) (at v) m ∙ ap (λ k. drop k m) (omega (arith, next_address v p ps e)) in
      ap (λ text. line text ++ variables_text program m own ps (drop (slot_words g.unit.types p) (drop (at v) m)))
      (variable_is v p (there_is (slots (block g b)) v p ps e))
      ∙ (ap (λ ws. line (meant_text g.unit.types names.constants w.store z v p) ++ variables_text program m own ps ws) behind
      ∙ ap (λ more. line (meant_text g.unit.types names.constants w.store z v p) ++ more)
      (lines_are (suc v) own ps (rest_is (slots (block g b)) v p ps e)))

pub lines_are_of_instances : LinesAreOfInstances
lines_are_of_instances g s t coherent r p q found runs names z lives =
    let stepping : Stepping g s p q = record {
      found = found;
      runs = runs;
      free = free;
      lowest = λ y l n o. free (owner_waits s.live coherent.family.family y p l.process l.found n o);
    } in
    let first : slot_address g r.first (shape s.world.store) z 0 ≡ address r.first (shape s.world.store) z + link_words = omega arith in
    ap (λ a. variables_text (record { unit = g.unit; names = names }) t.memory (named_at names.blocks (block_at g (shape s.world.store) z)).variables
    (slots (block g (block_at g (shape s.world.store) z))) (drop a t.memory)) (sym first)
    ∙ lines_are g (scene g s t p q stepping r) (shape s.world.store) s.world t.memory (stands g s t p q stepping r) names z lives 0
    (named_at names.blocks (block_at g (shape s.world.store) z)).variables (slots (block g (block_at g (shape s.world.store) z))) refl
  where
    free : IsWaiting s.live p → ⊥
    free v = waiting_does_not_run q.standing v.number runs (ap (λ (y : Process). y.standing) (some_is (sym found ∙ v.found)) ∙ v.standing)
