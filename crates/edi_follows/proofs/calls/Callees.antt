-- What a callee means where it is called: its block, with the instance round it.
use Rattle.std.proofs.Common.{◌≡◌, ℕ, zero, suc, ◌+◌, ◌<◌, ◌≤◌, ◌^◌, ◌⊎◌, inl, inr, false, if◌then◌else◌, List, [], ◌∷◌, ◌++◌, map, length, get_or, Option}
use Rattle.std.proofs.Common.{Some, None, refl, sym, subst, ap, ◌∙◌, arith}
use Rattle.std.specs.Prelude.{IsTrue, nat_eq, slice_get, option_to_list}
use Rattle.std.proofs.lemmas.Bool.{le-leb, ne_eqb}
use Rattle.std.proofs.lemmas.Option.{slice_get_within}
use Rattle.edi_calls.specs.Names.{Name}
use Rattle.edi_store.specs.Memory.{words_at}
use Rattle.edi_store.proofs.MemoryLaws.{get_or-words_at}
use Rattle.edi_unit.specs.declared.expressions.Callee.{Callee}
use Rattle.edi_unit.specs.declared.expressions.Callee.TheVariants as callee
use Rattle.edi_unit.specs.declared.units.Parameter.{Parameter}
use Rattle.edi_unit.specs.declared.units.Parameter.TheVariants as slot
use Rattle.edi_unit.specs.Need.{outer, slots, slot_at, slot_result, callee_result}
use Rattle.edi_unit.specs.Fits.{callee_heading, CalleeFits, ResultAgrees, ResultsAgree, first_parameter, is_procedure}
use Rattle.edi_unit.specs.Headings.{Heading, heading_result, heading_formals}
use Rattle.edi_meaning.specs.Store.{Spot, Closure, system_procedure, block_procedure, Cell, value, location, procedure, procedure_in, Shape, shape, frame_at}
use Rattle.edi_meaning.specs.Store.{reached, now, cell, IsLive, Older}
use Rattle.edi_meaning.specs.Evaluation.{World}
use Rattle.edi_meaning.specs.Whole.{meant}
use Rattle.edi_meaning.proofs.References.{older_self, older_all}
use Rattle.edi_target.specs.Op as op
use Rattle.edi_target.specs.Op.{high_word, low_word, address_of_words}
use Rattle.edi_target.specs.Memory.{word, level}
use Rattle.edi_target.specs.Effect.{Local, Effect, bad, within, enter}
use Rattle.edi_target.specs.Perform.{system_call, call_described}
use Rattle.edi_target.specs.Mach.{effect_at, is_first}
use Rattle.edi_scheme.specs.Code.{slot_offset, call_code}
use Rattle.edi_scheme.specs.Stands as code
use Rattle.edi_follows.specs.places.Coded.{Coded, block, entry, slot_in, slots_of, words_in, offset, heading_of}
use Rattle.edi_follows.specs.places.Spots.{address, block_at, Fine, Layout, IsMeantBy, Holds, slot_address, closure_words, cell_words}
use Rattle.edi_follows.specs.places.Scene.{Scene, here, alone, Stands}
use Rattle.edi_follows.specs.places.Claims.{CellsFit}
use Rattle.edi_follows.proofs.places.Places.{start_within, roomy, reached_live, level_is}
use Rattle.edi_follows.proofs.places.Free.{slot_within}
use Rattle.edi_follows.proofs.calls.Comes.{IsCalled}

-- ---- instances that are reached

module _ (g : Coded) (live waits : Name → Type 0) (first size : Name → ℕ) (F : Shape) (l : Layout g live waits first size F) where
  pub reached_block : (k : ℕ) (z : Spot) → IsLive F z → block_at g F (reached F k z) ≡ outer g.unit.blocks (block_at g F z) k
  reached_block zero z h = refl
  reached_block (suc k) z h = reached_block k (frame_at F z).parent (l.fine z h).parent ∙ ap (λ b. outer g.unit.blocks b k) (l.fine z h).up

  pub reached_older : (k : ℕ) (z : Spot) → IsLive F z → Older (reached F k z) z
  reached_older zero z h = older_self z
  reached_older (suc k) z h = older_all (reached F k (frame_at F z).parent) (frame_at F z).parent z
      (reached_older k (frame_at F z).parent (l.fine z h).parent) (l.fine z h).older

-- ---- callees

-- a procedure parameter with this result
formal_slot : (o : Option Parameter) → IsTrue (is_procedure o) → o ≡ Some (slot.Formal (slot_result o))
formal_slot None h = absurd (cc)
formal_slot (Some (slot.Value t)) h = absurd (cc)
formal_slot (Some (slot.Var t)) h = absurd (cc)
formal_slot (Some (slot.Formal r)) h = refl

-- what a procedure parameter holds is a procedure, which answers its heading
cell_procedure : (g : Coded) (F : Shape) (z : Spot) (h : Heading) (r : Option ℕ) (c : Cell) → Holds g F z h (Some (slot.Formal r)) c →
    (c ≡ procedure (procedure_in c)) × IsMeantBy g F z h (procedure_in c)
cell_procedure g F z h r (value v) fits = absurd fits
cell_procedure g F z h r (location l) fits = absurd fits
cell_procedure g F z h r (procedure c) fits = (refl, fits)

no_formal_there : (vs : List ℕ) (v : ℕ) (r : Option ℕ) → slice_get (map slot.Value vs) v ≡ Some (slot.Formal r) → ⊥
no_formal_there [] v r e = let a : ◌≡◌ {A = Option Parameter} None (Some (slot.Formal r)) = e in absurd (cc)
no_formal_there (t ∷ vs) zero r e = let a : ◌≡◌ {A = Option Parameter} (Some (slot.Value t)) (Some (slot.Formal r)) = e in absurd (cc)
no_formal_there (t ∷ vs) (suc v) r e = no_formal_there vs v r e

some_same : {A : Type 0} {x y : A} → Some x ≡ Some y → x ≡ y
some_same e = cc

parameter_result : (headings : ℕ → Heading) (n : ℕ) (ps : List Parameter) (vs : List ℕ) (v : ℕ) (r : Option ℕ) →
    slice_get (ps ++ map slot.Value vs) v ≡ Some (slot.Formal r) → ResultsAgree headings n ps → heading_result (headings (n + v)) ≡ r
parameter_result headings n [] vs v r e h = absurd (no_formal_there vs v r e)
parameter_result headings n (p ∷ ps) vs zero r e h =
    let same : n ≡ n + 0 = omega arith in
    subst (λ k. heading_result (headings k) ≡ r) same (subst (ResultAgrees (headings n)) (some_same e) h.0)
parameter_result headings n (p ∷ ps) vs (suc v) r e h =
    let same : suc n + v ≡ n + suc v = omega arith in
    subst (λ k. heading_result (headings k) ≡ r) same (parameter_result headings (suc n) ps vs v r e h.1)

-- the heading of a procedure parameter has its result
formal_result : (headings : ℕ → Heading) (o : Option ℕ) (ps : List Parameter) (vs : List ℕ) (v : ℕ) (r : Option ℕ) →
    slice_get (map slot.Value (option_to_list o) ++ (ps ++ map slot.Value vs)) v ≡ Some (slot.Formal r) → ResultsAgree headings (first_parameter o) ps →
    heading_result (headings v) ≡ r
formal_result headings None ps vs v r e h =
    let same : 0 + v ≡ v = omega arith in
    subst (λ k. heading_result (headings k) ≡ r) same (parameter_result headings 0 ps vs v r e h)
formal_result headings (Some t) ps vs zero r e h = let a : ◌≡◌ {A = Option Parameter} (Some (slot.Value t)) (Some (slot.Formal r)) = e in absurd (cc)
formal_result headings (Some t) ps vs (suc v) r e h =
    let same : 1 + v ≡ suc v = omega arith in
    subst (λ k. heading_result (headings k) ≡ r) same (parameter_result headings 1 ps vs v r e h)

-- three words that stand somewhere
again : (a : ℕ) → address_of_words (high_word a) (low_word a) ≡ a
again a = omega arith

-- the high word of an entry is not the mark of a system call
no_mark : (a : ℕ) → a < 2 ^ 31 → nat_eq (high_word a) 65535 ≡ false
no_mark a small = let below : high_word a < 65535 = omega (arith, small) in ne_eqb (high_word a) 65535 (λ e. omega (arith, e, below))

three_words : (m : List ℕ) (a x y z : ℕ) → words_at m a 3 ≡ x ∷ y ∷ z ∷ [] → (word m a ≡ x) × (word m (a + 1) ≡ y) × (word m (a + 2) ≡ z)
three_words m a x y z e = (at 0 (omega arith) (omega arith), at 1 (omega arith) refl, at 2 (omega arith) refl)
  where
    at : (k : ℕ) → k < 3 → {b : ℕ} → b ≡ a + k → word m b ≡ get_or (x ∷ y ∷ z ∷ []) k 0
    at k l i = ap (word m) i ∙ sym (get_or-words_at m a 3 k l) ∙ ap (λ ws. get_or ws k 0) e

module _ (g : Coded) (s : Scene) (F : Shape) (w : World) (m : List ℕ) (h : Stands g s F w m) (c : Callee) (line pc to top held : ℕ) (cells : List Cell) where
  abbrev done : Effect
  done = effect_at g.fetched (g.fetched pc) s.count (is_first s.name) (alone s F m pc top held w).local

  -- it is a block
  pub record ByBlock : Type 0 where
    pub number : ℕ
    pub parent : Spot
    pub means : meant g.unit s.name (s.size s.name) c w ≡ block_procedure number parent
    pub called : IsCalled g s F number parent cells
    pub result : (block g number).result ≡ callee_result g.unit.blocks (here g s F) c
    pub does : done ≡ enter (g.fetched (entry g number)) (address s.first F parent) to line (alone s F m pc top held w).local

  -- or a call of the system, which has no result
  pub record BySystem : Type 0 where
    pub number : ℕ
    pub means : meant g.unit s.name (s.size s.name) c w ≡ system_procedure number
    pub result : callee_result g.unit.blocks (here g s F) c ≡ None

module _ (g : Coded) (s : Scene) (F : Shape) (w : World) (m : List ℕ) (h : Stands g s F w m) (line pc to top held : ℕ) (cells : List Cell) where
  abbrev lay : Layout g s.live s.waits s.first s.size F
  lay = h.layout

  abbrev r : Spot
  r = now F s.name

  now_lives : IsLive F r
  now_lives = omega (arith, lay.some s.name s.lives)

  seen : shape w.store ≡ F
  seen = λ i y. h.shaped.each y i

  abbrev lo : Local
  lo = (alone s F m pc top held w).local

  module _ (levels : ℕ) where
    abbrev far : Spot
    far = reached F levels r

    far_lives : IsLive F far
    far_lives = reached_live g s.live s.waits s.first s.size F lay levels r now_lives

    far_older : Older far r
    far_older = reached_older g s.live s.waits s.first s.size F lay levels r now_lives

    far_block : block_at g F far ≡ outer g.unit.blocks (here g s F) levels
    far_block = reached_block g s.live s.waits s.first s.size F lay levels r now_lives

    far_level : level m levels (address s.first F r) ≡ address s.first F far
    far_level = level_is g s.live s.waits s.first s.size F lay w.store m h.mirrors levels r now_lives

    -- a block by its name
    by_name : (n : ℕ) → code.InstructionStands g.fetched pc (op.call levels (entry g n) line) to → CalleeFits g.unit.blocks (here g s F)
        (callee.Block levels n) →
        CellsFit g s F r (heading_formals (callee_heading g.fits.headings g.unit.blocks (here g s F) (callee.Block levels n))) cells →
        ByBlock g s F w m h (callee.Block levels n) line pc to top held cells
    by_name n at fits args = record {
      number = n;
      parent = far;
      means = λ i. block_procedure n (reached (seen i) levels (now (seen i) s.name));
      called = record { known = fits.1; called = fits.2; lives = far_lives; older = far_older; up = far_block ∙ fits.3; cells_fit = args };
      result = refl;
      does = ap (λ o. effect_at g.fetched o s.count (is_first s.name) lo) at ∙ ap (λ a. enter (g.fetched (entry g n)) a to line lo) far_level;
    }

    module _ (v : ℕ) (fits : CalleeFits g.unit.blocks (here g s F) (callee.Formal levels v)) where
      abbrev res : Option ℕ
      res = slot_result (slot_at g.unit.blocks (here g s F) levels v)

      abbrev head : Heading
      head = callee_heading g.fits.headings g.unit.blocks (here g s F) (callee.Formal levels v)

      far_slot : slot_in g (block_at g F far) v ≡ Some (slot.Formal res)
      far_slot = ap (λ b. slot_in g b v) far_block ∙ formal_slot (slot_at g.unit.blocks (here g s F) levels v) fits.1

      far_below : v < slots_of g (block_at g F far)
      far_below = slice_get_within (slots (block g (block_at g F far))) v (slot.Formal res) far_slot

      abbrev cl : Closure
      cl = procedure_in (cell w.store far v)

      far_holds : (cell w.store far v ≡ procedure cl) × IsMeantBy g F far head cl
      far_holds =
          cell_procedure g F far head res (cell w.store far v)
          (subst (λ b. Holds g F far (heading_of g b v) (Some (slot.Formal res)) (cell w.store far v)) far_block
          (subst (λ o. Holds g F far (heading_of g (block_at g F far) v) o (cell w.store far v)) far_slot (h.typed.holds far v far_lives far_below)))

      formal_here : meant g.unit s.name (s.size s.name) (callee.Formal levels v) w ≡ cl
      formal_here = λ i. procedure_in (cell w.store (reached (seen i) levels (now (seen i) s.name)) v)

      -- its heading has its result
      head_result : heading_result head ≡ res
      head_result =
          let known : block_at g F far < length g.unit.blocks = (lay.fine far far_lives).known in
          ap (λ b. heading_result (heading_of g b v)) (sym far_block)
          ∙ formal_result (heading_of g (block_at g F far)) (block g (block_at g F far)).result (block g (block_at g F far)).parameters
          (block g (block_at g F far)).variables v res far_slot (g.fits.fits_blocks (block_at g F far) known).results

      abbrev at : ℕ
      at = slot_address g s.first F far v

      -- the three words of the parameter
      far_words : words_at m at 3 ≡ closure_words g s.first F cl
      far_words = ap (λ o. words_at m at (words_in g o)) (sym far_slot) ∙ h.mirrors.cells far v far_lives far_below ∙ ap (cell_words g s.first F) far_holds.0

      far_end : at + 3 ≤ 2 ^ 16
      far_end =
          let f : Fine g F far = lay.fine far far_lives in
          let three : words_in g (slot_in g (block_at g F far) v) ≡ 3 = ap (words_in g) far_slot in
          omega (
            arith,
            three,
            slot_within g (block_at g F far) v far_below,
            roomy g F far f,
            start_within (F far.0) far.1 far_lives,
            lay.segments.own far.0 (lay.owner far far_lives),
            lay.segments.within far.0 (lay.owner far far_lives),
          )

      at_is : level m levels (address s.first F r) + slot_offset g.unit.types g.unit.blocks (entry g) (here g s F) levels v ≡ at
      at_is = λ i. far_level i + offset g (sym far_block i) v

      -- what CALLP does
      call_does : code.InstructionStands g.fetched pc (op.call_p levels (slot_offset g.unit.types g.unit.blocks (entry g) (here g s F) levels v) line) to →
          effect_at g.fetched (g.fetched pc) s.count (is_first s.name) lo ≡ call_described g.fetched s.count (is_first s.name) (word m at) (word m (at + 1))
          (word m (at + 2)) line to lo
      call_does st =
          ap (λ o. effect_at g.fetched o s.count (is_first s.name) lo) st
          ∙ ap (λ a. within a 3 (call_described g.fetched s.count (is_first s.name) (word m a) (word m (a + 1)) (word m (a + 2)) line to lo)) at_is
          ∙ ap (λ b. if b then call_described g.fetched s.count (is_first s.name) (word m at) (word m (at + 1)) (word m (at + 2)) line to lo else bad)
          (le-leb (at + 3) (2 ^ 16) far_end)

      by_formal : code.InstructionStands g.fetched pc (op.call_p levels (slot_offset g.unit.types g.unit.blocks (entry g) (here g s F) levels v) line) to →
          CellsFit g s F r (heading_formals head) cells →
          ByBlock g s F w m h (callee.Formal levels v) line pc to top held cells ⊎ BySystem g s F w m h (callee.Formal levels v) line pc to top held cells
      by_formal st args = go cl refl far_holds.1 far_words
        where
          go : (k : Closure) → cl ≡ k → IsMeantBy g F far head k → words_at m at 3 ≡ closure_words g s.first F k →
              ByBlock g s F w m h (callee.Formal levels v) line pc to top held cells ⊎ BySystem g s F w m h (callee.Formal levels v) line pc to top held cells
          go (system_procedure number) e answers words = inr (record { number = number; means = formal_here ∙ e; result = sym head_result ∙ answers.1 })
          go (block_procedure number parent) e answers words =
              let three : (word m at ≡ high_word (entry g number)) × (word m (at + 1) ≡ low_word (entry g number))
              × (word m (at + 2) ≡ address s.first F parent) =
              three_words m at (high_word (entry g number)) (low_word (entry g number)) (address s.first F parent) words in
              inl (record {
                number = number;
                parent = parent;
                means = formal_here ∙ e;
                called = record {
                  known = answers.0;
                  called = answers.1;
                  lives = answers.3;
                  older = older_all parent far r answers.4 far_older;
                  up =
                      answers.5;
                  cells_fit = subst (λ x. CellsFit g s F r (heading_formals x) cells) (sym answers.2) args;
                };
                result = ap heading_result answers.2 ∙ head_result;
                does =
                    call_does st
                    ∙ (λ i. call_described g.fetched s.count (is_first s.name) (three.0 i) (three.1 i) (three.2 i) line to lo)
                    ∙ ap (λ b. if b then system_call (low_word (entry g number)) line to lo else enter
                    (g.fetched (address_of_words (high_word (entry g number)) (low_word (entry g number)))) (address s.first F parent) to line lo)
                    (no_mark (entry g number) (g.low number answers.0))
                    ∙ ap (λ a. enter (g.fetched a) (address s.first F parent) to line lo) (again (entry g number));
              })

  -- whatever is called
  pub called_so : (c : Callee) → code.AreInstructions g.fetched (call_code g.unit.types g.unit.blocks (entry g) (here g s F) c line) pc to →
      CalleeFits g.unit.blocks (here g s F) c → CellsFit g s F r (heading_formals (callee_heading g.fits.headings g.unit.blocks (here g s F) c)) cells →
      ByBlock g s F w m h c line pc to top held cells ⊎ BySystem g s F w m h c line pc to top held cells
  called_so (callee.Block levels n) st fits args = inl (by_name levels n st fits args)
  called_so (callee.Formal levels v) st fits args = by_formal levels v fits st args
