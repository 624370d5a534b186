-- The claims for calls, whatever is called: of a function, and of a procedure or the system.
use Rattle.std.proofs.Common.{◌≡◌, ℕ, ◌+◌, ◌<◌, ◌≤◌, ◌⊎◌, inl, inr, List, ◌++◌, map, length, Option, Some, None, refl, sym, subst, ap, ◌∙◌, arith}
use Rattle.std.specs.Prelude.{slice_get, option_to_list}
use Rattle.std.proofs.lemmas.Option.{slice_get_within}
use Rattle.edi_calls.specs.Names.{Name}
use Rattle.edi_store.specs.Memory.{words_at, written}
use Rattle.edi_store.proofs.MemoryLaws.{length-words_at, words_at-written}
use Rattle.edi_unit.specs.declared.units.Parameter.{Parameter}
use Rattle.edi_unit.specs.declared.units.Parameter.TheVariants as slot
use Rattle.edi_unit.specs.Types.{size}
use Rattle.edi_unit.specs.Values.{IsOf}
use Rattle.edi_unit.specs.Tree.{Acts}
use Rattle.edi_unit.specs.Need as need
use Rattle.edi_unit.specs.Need.{slots, callee_result}
use Rattle.edi_unit.specs.Headings.{Heading}
use Rattle.edi_meaning.specs.Store.{Spot, Cell, value, location, procedure, value_in, Shape, now, cell, IsLive}
use Rattle.edi_meaning.specs.Evaluation.{World, Evaluation}
use Rattle.edi_meaning.specs.Whole.{meant, result_of, function_call, procedure_call}
use Rattle.edi_scheme.specs.Pieces as pieces
use Rattle.edi_scheme.specs.Pieces.{function_flag}
use Rattle.edi_follows.specs.values.Words.{value_words, ValuesAreLong, ZeroIsZeros}
use Rattle.edi_follows.specs.places.Coded.{Coded, block, slot_in, slots_of, words_in, heading_of}
use Rattle.edi_follows.specs.places.Spots.{address, frames_end, block_at, Holds, slot_address, cell_words, cells_words}
use Rattle.edi_follows.specs.places.Scene.{Scene, here, Stands, Does}
use Rattle.edi_follows.specs.places.Claims.{Pushed, Ran, FunctionClaim, ProcedureClaim, SystemClaim, DeeperClaim}
use Rattle.edi_follows.specs.places.Constructs.{Calls}
use Rattle.edi_follows.proofs.places.Free.{slot_within, in_memory}
use Rattle.edi_follows.proofs.calls.Callees.{ByBlock, BySystem, called_so}
use Rattle.edi_follows.proofs.calls.Blocks.{H, at_new, of_new}
use Rattle.edi_follows.proofs.calls.Called.{block_does}

-- a variable for values holds one of its type
cell_value : (g : Coded) (F : Shape) (z : Spot) (h : Heading) (t : ℕ) (c : Cell) → Holds g F z h (Some (slot.Value t)) c →
    (c ≡ value (value_in c)) × IsOf g.unit.types (value_in c) t
cell_value g F z h t (value v) fits = (refl, fits)
cell_value g F z h t (location l) fits = absurd fits
cell_value g F z h t (procedure c) fits = absurd fits

-- the function variable is the first
first_slot : (r : Option ℕ) (of : ℕ) (ps : List Parameter) → r ≡ Some of → slice_get (map slot.Value (option_to_list r) ++ ps) 0 ≡ Some (slot.Value of)
first_slot r of ps e = ap (λ o. slice_get (map slot.Value (option_to_list o) ++ ps) 0) e

module _ (g : Coded) (s : Scene) (K : Shape) (v : World) (mm : List ℕ) (st : Stands g s K v mm) (n of : ℕ) (b : ℕ)
    (at : address s.first K (now K s.name) ≡ b) (here_is : here g s K ≡ n) (result : (block g n).result ≡ Some of) where
  abbrev nu : Spot
  nu = now K s.name

  nu_lives : IsLive K nu
  nu_lives = omega (arith, st.layout.some s.name s.lives)

  slot_is : slot_in g (block_at g K nu) 0 ≡ Some (slot.Value of)
  slot_is = ap (λ x. slot_in g x 0) here_is ∙ first_slot (block g n).result of ((block g n).parameters ++ map slot.Value (block g n).variables) result

  below : 0 < slots_of g (block_at g K nu)
  below = slice_get_within (slots (block g (block_at g K nu))) 0 (slot.Value of) slot_is

  holds : (cell v.store nu 0 ≡ value (value_in (cell v.store nu 0))) × IsOf g.unit.types (value_in (cell v.store nu 0)) of
  holds = cell_value g K nu (heading_of g (block_at g K nu) 0) of (cell v.store nu 0)
      (subst (λ o. Holds g K nu (heading_of g (block_at g K nu) 0) o (cell v.store nu 0)) slot_is (st.typed.holds nu 0 nu_lives below))

  result_here : result_of g.unit s.name (s.size s.name) v ≡ value_in (cell v.store nu 0)
  result_here = λ i. value_in (cell v.store (now (λ y. st.shaped.each y i) s.name) 0)

  pub result_typed : IsOf g.unit.types (result_of g.unit s.name (s.size s.name) v) of
  result_typed = subst (λ x. IsOf g.unit.types x of) (sym result_here) holds.1

  pub result_words : words_at mm (b + 5) (size g.unit.types of) ≡ value_words (result_of g.unit s.name (s.size s.name) v)
  result_words =
      (λ i. words_at mm (place i) (words_in g (sym slot_is i)))
      ∙ st.mirrors.cells nu 0 nu_lives below ∙ ap (cell_words g s.first K) holds.0 ∙ ap value_words (sym result_here)
    where
      place : b + 5 ≡ slot_address g s.first K nu 0
      place = omega (arith, at)

  -- and what RETURN writes is a value that is given
  pub result_pushed : (t to r : ℕ) → r ≡ size g.unit.types of → t + r ≤ b → Pushed g s of to t (result_of g.unit s.name (s.size s.name) v)
      (written mm t (words_at mm (b + 5) r)) to (t + r)
  result_pushed t to r sized high =
      let three : words_in g (slot_in g (block_at g K nu) 0) ≡ size g.unit.types of = ap (words_in g) slot_is in
      let inside : b + 5 + r ≤ length mm = omega (arith, at, sized, three, slot_within g (block_at g K nu) 0 below, in_memory g s K v mm st nu nu_lives) in
      let count : length (words_at mm (b + 5) r) ≡ r = length-words_at mm (b + 5) r inside in
      record {
        pc_is = refl;
        top_is = ap (λ k. t + k) sized;
        words =
            ap (words_at (written mm t (words_at mm (b + 5) r)) t) (sym (count ∙ sized))
            ∙ words_at-written mm t (words_at mm (b + 5) r) (omega (arith, count, inside, high)) ∙ ap (words_at mm (b + 5)) sized ∙ result_words;
        typed = result_typed;
      }

module _ (g : Coded) (long : ValuesAreLong) (zeros : ZeroIsZeros) (s : Scene) (deeper : Acts → World → Evaluation (Unit {0})) (bound : ℕ)
    (deep : DeeperClaim g s deeper bound) where
  abbrev p : Name
  p = s.name

  pub function_claim : FunctionClaim g s deeper bound
  function_claim c of line cells F pc to t held w m turns st fits res able passed = go
      (called_so g s F w m able.stands line pc to (t + length (cells_words g s.first F cells)) held cells c st fits passed.cells_fit)
    where
      go : ByBlock g s F w m able.stands c line pc to (t + length (cells_words g s.first F cells)) held cells
          ⊎ BySystem g s F w m able.stands c line pc to (t + length (cells_words g s.first F cells)) held cells →
          Does g s F pc (t + length (cells_words g s.first F cells)) t held w m (Pushed g s of to t)
          (function_call g.unit p (s.size p) deeper (meant g.unit p (s.size p) c w) cells line w)
      go (inr y) = let e : None ≡ Some of = sym y.result ∙ res in absurd (cc)
      go (inl y) =
          let result : (block g y.number).result ≡ Some of = y.result ∙ res in
          let sized : pieces.result_words g.unit.types (block g y.number).result ≡ size g.unit.types of = ap (pieces.result_words g.unit.types) result in
          let same : pieces.result_words g.unit.types (block g y.number).result ≡ need.result_words g.unit.types g.unit.blocks (here g s F) c =
          ap (pieces.result_words g.unit.types) y.result in
          let flag : function_flag (block g y.number).result ≡ 1 = ap function_flag result in
          let high : t + pieces.result_words g.unit.types (block g y.number).result ≤ frames_end s.first F p = omega (arith, same, able.high) in
          subst (λ cl. Does g s F pc (t + length (cells_words g s.first F cells)) t held w m (Pushed g s of to t)
          (function_call g.unit p (s.size p) deeper cl cells line w)) (sym y.means)
          (block_does g long zeros s deeper bound deep F w m able.stands y.number y.parent cells y.called t to line pc held able.low able.few passed.words
          y.does high turns (omega (arith, flag)) (result_of g.unit p (s.size p)) (Pushed g s of to t) (λ free v mm j stood.
          result_pushed g s (H g long zeros s F w m able.stands y.number y.parent cells y.called t to line pc held able.low able.few passed.words y.does free)
          v mm stood y.number of (frames_end s.first F p)
          (at_new g long zeros s F w m able.stands y.number y.parent cells y.called t to line pc held able.low able.few passed.words y.does free)
          (of_new g long zeros s F w m able.stands y.number y.parent cells y.called t to line pc held able.low able.few passed.words y.does free) result t to
          (pieces.result_words g.unit.types (block g y.number).result) sized high))

  pub procedure_claim : SystemClaim g s deeper bound → ProcedureClaim g s deeper bound
  procedure_claim system c line cells F pc to t held w m turns phase st fits res able passed =
      go (called_so g s F w m able.stands line pc to (t + length (cells_words g s.first F cells)) held cells c st fits passed.cells_fit)
    where
      go : ByBlock g s F w m able.stands c line pc to (t + length (cells_words g s.first F cells)) held cells
          ⊎ BySystem g s F w m able.stands c line pc to (t + length (cells_words g s.first F cells)) held cells →
          Does g s F pc (t + length (cells_words g s.first F cells)) t held w m (Ran g s to t)
          (procedure_call g.unit p (s.size p) deeper (meant g.unit p (s.size p) c w) cells line w)
      go (inr y) =
          subst (λ cl. Does g s F pc (t + length (cells_words g s.first F cells)) t held w m (Ran g s to t)
          (procedure_call g.unit p (s.size p) deeper cl cells line w)) (sym y.means)
          (system c line cells y.number F pc to t held w m turns st fits res able passed y.means)
      go (inl y) =
          let none : pieces.result_words g.unit.types (block g y.number).result ≡ 0 = ap (pieces.result_words g.unit.types) (y.result ∙ res) in
          subst (λ cl. Does g s F pc (t + length (cells_words g s.first F cells)) t held w m (Ran g s to t)
          (procedure_call g.unit p (s.size p) deeper cl cells line w)) (sym y.means)
          (block_does g long zeros s deeper bound deep F w m able.stands y.number y.parent cells y.called t to line pc held able.low able.few passed.words
          y.does (omega (arith, none, able.high)) turns (omega (arith, phase)) (λ v. tt) (Ran g s to t)
          (λ free v mm j stood. record { pc_is = refl; top_is = omega (arith, none) }))

-- THE CALLS, from what a call of the system does
pub calls : (g : Coded) → ValuesAreLong → ZeroIsZeros → (s : Scene) (deeper : Acts → World → Evaluation (Unit {0})) (bound : ℕ) → SystemClaim g s deeper bound →
    Calls g s deeper bound
calls g long zeros s deeper bound system = record {
  function = λ deep. function_claim g long zeros s deeper bound deep;
  procedure = λ deep. procedure_claim g long zeros s deeper bound deep system;
}
