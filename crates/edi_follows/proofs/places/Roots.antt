-- The variable of a block so many levels out: ADDRESS finds it, and LOAD what a `var` parameter means.
use Rattle.std.proofs.Common.{◌≡◌, ℕ, ◌+◌, ◌<◌, ◌≤◌, false, List, [], ◌∷◌, Option, Some, None, refl, sym, subst, ap, ◌∙◌, arith}
use Rattle.std.specs.Prelude.{IsTrue, slice_get}
use Rattle.std.proofs.lemmas.Bool.{false≢true}
use Rattle.edi_unit.specs.declared.units.Parameter.{Parameter}
use Rattle.edi_unit.specs.declared.units.Parameter.TheVariants as slot
use Rattle.edi_unit.specs.Tree as tree
use Rattle.edi_unit.specs.Tree.{Parts, Acts}
use Rattle.edi_unit.specs.Need.{slots, slot_at, slot_type, parts_type, parts_height, place_height}
use Rattle.edi_unit.specs.Need as need
use Rattle.edi_unit.specs.Fits.{is_variable}
use Rattle.edi_meaning.specs.Store.{Spot, Location, Shape, shape, frame_at, reached, now, cell, located, Older}
use Rattle.edi_meaning.specs.Evaluation.{World, Evaluation}
use Rattle.edi_meaning.specs.Whole.{Designated, named, parts}
use Rattle.edi_meaning.proofs.References.{older_all}
use Rattle.edi_target.specs.Op as op
use Rattle.edi_target.specs.Memory.{word}
use Rattle.edi_target.specs.Effect.{push, to}
use Rattle.edi_scheme.specs.Pieces.{variable_code}
use Rattle.edi_scheme.specs.Code.{slot_offset}
use Rattle.edi_scheme.specs.Stands as code
use Rattle.edi_follows.specs.places.Coded.{Coded, entry, slot_in, slots_of, words_in, offset, heading_of}
use Rattle.edi_follows.specs.places.Spots.{frames_end, block_at, slot_address, location_address, cell_words, Leads, Holds}
use Rattle.edi_follows.specs.places.Scene.{Scene, here, base_of, Stands, After, Does, local_at}
use Rattle.edi_follows.specs.places.Claims.{Pointed}
use Rattle.edi_follows.specs.places.Constructs.{P, Ps}
use Rattle.edi_follows.specs.places.Instructions.{effect, Reaches}
use Rattle.edi_follows.proofs.places.Doing.{stands_after, after_then}
use Rattle.edi_follows.proofs.places.Effects.{word_is}
use Rattle.edi_follows.proofs.places.Slots.{slot_is_in, value_cell, HasLocation, location_cell}
use Rattle.edi_follows.proofs.places.Steps.{pushes_then, able_then}
use Rattle.edi_follows.proofs.places.Variables.{levels_reach, address_is, loads_cell}

module _ (g : Coded) (s : Scene) (F : Shape) (w : World) (m : List ℕ) (h : Stands g s F w m) (levels v : ℕ) where
  abbrev far : Spot
  far = reached F levels (now F s.name)

  reaches : Reaches g s F levels far
  reaches = levels_reach g s F w m levels h

  -- the variable's parameter, and its type
  abbrev named_slot : Option Parameter
  named_slot = slot_at g.unit.blocks (here g s F) levels v

  abbrev of : ℕ
  of = slot_type named_slot

  abbrev d : Designated
  d = named g.unit s.name (s.size s.name) levels v w.store

  slot_is : slot_in g (block_at g F far) v ≡ named_slot
  slot_is = ap (λ b. slot_in g b v) reaches.block_is

  seen : shape w.store ≡ F
  seen = λ i y. h.shaped.each y i

  at_is : d.at ≡ located far v (cell w.store far v)
  at_is = λ i. located (reached (seen i) levels (now (seen i) s.name)) v (cell w.store (reached (seen i) levels (now (seen i) s.name)) v)

  of_is : d.of ≡ of
  of_is =
      (λ i. slot_type (slice_get (slots (need.block_at g.unit.blocks (frame_at (seen i) (reached (seen i) levels (now (seen i) s.name))).block)) v))
      ∙ ap slot_type slot_is

  -- what it holds
  module _ (p : Parameter) (e : named_slot ≡ Some p) where
    there : slot_in g (block_at g F far) v ≡ Some p
    there = slot_is ∙ e

    below : v < slots_of g (block_at g F far)
    below = slot_is_in g (block_at g F far) v p there

    cell_holds : Holds g F far (heading_of g (block_at g F far) v) (Some p) (cell w.store far v)
    cell_holds = subst (λ o. Holds g F far (heading_of g (block_at g F far) v) o (cell w.store far v)) there (h.typed.holds far v reaches.lives below)

    o_is : slot_offset g.unit.types g.unit.blocks (entry g) (here g s F) levels v ≡ offset g (block_at g F far) v
    o_is = ap (λ b. offset g b v) (sym reaches.block_is)

  -- ---- a variable that holds a value

  module _ (u : ℕ) (e : named_slot ≡ Some (slot.Value u)) where
    abbrev root : Location
    root = record { spot = far; variable = v; path = [] }

    root_is : d.at ≡ root
    root_is =
        let holds = value_cell g F far (heading_of g (block_at g F far) v) u (cell w.store far v) (cell_holds (slot.Value u) e) in at_is ∙ ap (located far v) holds.is

    root_leads : Leads g F root of
    root_leads = record { lives = reaches.lives; of = u; holds = there (slot.Value u) e; path = tt; type = sym (ap slot_type e) }

    value_pointed : (a t : ℕ) (m' : List ℕ) → word m' t ≡ slot_address g s.first F far v → Pointed g s F of a t d m' a (t + 1)
    value_pointed a t m' is = record {
      pc_is = refl;
      top_is = refl;
      address =
          let same : slot_address g s.first F far v ≡ location_address g s.first F root = omega arith in is ∙ same
          ∙ ap (location_address g s.first F) (sym root_is);
      leads = subst (λ l. Leads g F l of) (sym root_is) root_leads;
      older = subst (λ l. Older l.spot (now F s.name)) (sym root_is) reaches.older;
      of_is = of_is;
    }

  -- ---- one that holds the location of another

  module _ (u : ℕ) (e : named_slot ≡ Some (slot.Var u)) where
    holds : HasLocation g F far (heading_of g (block_at g F far) v) u (cell w.store far v)
    holds = location_cell g F far (heading_of g (block_at g F far) v) u (cell w.store far v) (cell_holds (slot.Var u) e)

    meant_is : d.at ≡ holds.at
    meant_is = at_is ∙ ap (located far v) holds.is

    location_pointed : (a t : ℕ) (m' : List ℕ) → word m' t ≡ location_address g s.first F holds.at → Pointed g s F of a t d m' a (t + 1)
    location_pointed a t m' is = record {
      pc_is = refl;
      top_is = refl;
      address = is ∙ ap (location_address g s.first F) (sym meant_is);
      leads = subst (λ l. Leads g F l of) (sym meant_is) (subst (λ x. Leads g F holds.at x) (sym (ap slot_type e)) holds.leads);
      older = subst (λ l. Older l.spot (now F s.name)) (sym meant_is) (older_all holds.at.spot far (now F s.name) holds.older reaches.older);
      of_is = of_is;
    }

    -- LOAD finds it
    loads_location : (m' : List ℕ) (pc next t kept : ℕ) → Stands g s F w m' → base_of g s F ≤ t → word m' t ≡ slot_address g s.first F far v →
        effect g s (op.load 1) next (local_at s F m' pc (t + 1) kept) ≡ push (location_address g s.first F holds.at ∷ []) (local_at s F m' pc t kept) (to next)
    loads_location m' pc next t kept stood low is =
        (λ i. effect g s (op.load (words_in g (sym (there (slot.Var u) e) i))) next (local_at s F m' pc (t + 1) kept))
        ∙ loads_cell g s F w m' far v next pc t (t + 1) kept stood reaches.lives (below (slot.Var u) e) low refl is
        ∙ ap (λ c. push (cell_words g s.first F c) (local_at s F m' pc t kept) (to next)) holds.is

module _ (g : Coded) (s : Scene) (deeper : Acts → World → Evaluation (Unit {0})) (bound : ℕ) where
  pub place_does : (levels v : ℕ) (ps : Parts) → Ps g s deeper bound ps → P g s deeper bound (tree.place levels v ps)
  place_does levels v ps does F pc to t held w m turns st fits able = go (named_slot g s F w m able.stands levels v) refl fits.1 st.1
    where
      a : ℕ
      a = st.0

      root : ℕ
      root = of g s F w m able.stands levels v

      here_at : Designated
      here_at = d g s F w m able.stands levels v

      Done : (pc top : ℕ) → List ℕ → Type 0
      Done pc top m' =
          Does g s F pc top t held w m' (Pointed g s F (parts_type g.unit.types root ps) to t) (parts g.unit s.name (s.size s.name) deeper here_at ps w)

      room : t + 1 ≤ frames_end s.first F s.name
      room = omega (arith, able.high)

      -- the parts behind it
      behind : (m' : List ℕ) → After g s F w w m m' t false → Pointed g s F root a t here_at m' a (t + 1) → Done a (t + 1) m'
      behind m' after pointed =
          does here_at root F a to t held w m' turns st.2 fits.2
          (able_then g s F w w m m' t (place_height g.unit.types g.unit.blocks (here g s F) (tree.place levels v ps)) t
          (parts_height g.unit.types g.unit.blocks (here g s F) ps) t held false able after (omega arith) (omega arith))
          room pointed

      -- behind ADDRESS
      addressed : (p : Parameter) (next : ℕ) → named_slot g s F w m able.stands levels v ≡ Some p →
          g.fetched pc ≡ Some (op.address levels (slot_offset g.unit.types g.unit.blocks (entry g) (here g s F) levels v), next) →
          ((m' : List ℕ) → After g s F w w m m' t false → word m' t ≡ slot_address g s.first F (far g s F w m able.stands levels v) v →
          Done next (t + 1) m') → Done pc t m
      addressed p next e at rest =
          pushes_then g s Designated (Pointed g s F (parts_type g.unit.types root ps) to t) (parts g.unit s.name (s.size s.name) deeper here_at ps w) F
          (op.address levels (slot_offset g.unit.types g.unit.blocks (entry g) (here g s F) levels v)) pc next t t t held w m
          (slot_address g s.first F (far g s F w m able.stands levels v) v ∷ []) able.stands at
          (address_is g s F w m levels v (slot_offset g.unit.types g.unit.blocks (entry g) (here g s F) levels v) next pc t held able.stands
          (below g s F w m able.stands levels v p e) (o_is g s F w m able.stands levels v p e))
          (omega arith) able.low room (λ m' after words. rest m' after (word_is m' [] _ t 1 words))

      go : (o : Option Parameter) → named_slot g s F w m able.stands levels v ≡ o → IsTrue (is_variable o) →
          code.AreInstructions g.fetched (variable_code levels (slot_offset g.unit.types g.unit.blocks (entry g) (here g s F) levels v) o) pc a → Done pc t m
      go None e is at = absurd (false≢true is)
      go (Some (slot.Formal r)) e is at = absurd (false≢true is)
      go (Some (slot.Value u)) e is at =
          addressed (slot.Value u) a e at (λ m' after found. behind m' after (value_pointed g s F w m able.stands levels v u e a t m' found))
      go (Some (slot.Var u)) e is at =
          addressed (slot.Var u) at.0 e at.1 (λ m' after found.
          pushes_then g s Designated (Pointed g s F (parts_type g.unit.types root ps) to t) (parts g.unit s.name (s.size s.name) deeper here_at ps w) F
          (op.load 1) at.0 a (t + 1) t t held w m' (location_address g s.first F (holds g s F w m able.stands levels v u e).at ∷ [])
          (stands_after g s F w w m m' t false able.stands after) at.2
          (loads_location g s F w m able.stands levels v u e m' at.0 a t held (stands_after g s F w w m m' t false able.stands after) able.low found)
          (omega arith) able.low room (λ m'' later words.
          behind m'' (after_then g s F w w w m m' m'' t false false after later)
          (location_pointed g s F w m able.stands levels v u e a t m'' (word_is m'' [] _ t 1 words))))
