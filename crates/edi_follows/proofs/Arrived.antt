-- A process that stands at a `when` in a state of the meaning stands there in the machine that agrees with it, with the words of its
-- variables.
use Rattle.std.proofs.Common.{◌≡◌, ℕ, ◌+◌, ◌-◌, ◌<◌, Bool, true, false, if◌then◌else◌, List, [], ◌∷◌, length, Some, None, slice_get, refl, sym}
use Rattle.std.proofs.Common.{subst, ap, ◌∙◌, arith, IsTrue}
use Rattle.std.proofs.lemmas.Bool.{lt-ltb}
use Rattle.edi_calls.specs.Names.{Name, Table, find, names, same}
use Rattle.edi_calls.proofs.Names.{some_is}
use Rattle.edi_store.specs.Memory.{words_at}
use Rattle.edi_word.specs.Words.{signed}
use Rattle.edi_unit.specs.declared.units.Parameter.{Parameter}
use Rattle.edi_unit.specs.declared.units.Parameter.TheVariants as slot
use Rattle.edi_unit.specs.Types.{is_elementary, size}
use Rattle.edi_unit.specs.Values.{Value, IsOf, ordinal_of}
use Rattle.edi_unit.specs.Tree.{Clauses}
use Rattle.edi_unit.specs.Need.{outer, slot_at}
use Rattle.edi_meaning.specs.Store.{Spot, Location, Cell, value, location, Shape, shape, frame_at, reached, now, located, cell, get, IsLive}
use Rattle.edi_meaning.specs.Store as store
use Rattle.edi_meaning.specs.Permitted as source
use Rattle.edi_meaning.specs.Step.{Process, Processes, Position, Standing, at_when}
use Rattle.edi_meaning.specs.Laws.{IsWaiting}
use Rattle.edi_meaning.proofs.Dangling.{Coherent, owner_waits}
use Rattle.edi_meaning.proofs.Parents.{waiting_does_not_run}
use Rattle.edi_target.specs.Memory.{word, level}
use Rattle.edi_target.specs.Mach.{Activity, Machine, is_first}
use Rattle.edi_follows.specs.values.Words.{value_words, IsTable}
use Rattle.edi_follows.proofs.values.Lengths.{values_are_long}
use Rattle.edi_follows.proofs.values.Portions.{parts_stand}
use Rattle.edi_follows.specs.values.Operated.{word_of, IsAlone}
use Rattle.edi_follows.proofs.values.Alone.{elementary_is_alone}
use Rattle.edi_follows.specs.places.Coded.{Coded, slot_in, slots_of, words_in, heading_of}
use Rattle.edi_follows.specs.places.Spots.{address, block_at, Holds, Leads, slot_address, location_address, cell_words}
use Rattle.edi_follows.specs.places.Located.{IsAt, IsAwaited}
use Rattle.edi_follows.specs.places.Scene.{Scene, Stands}
use Rattle.edi_follows.specs.places.Instructions.{IsPart, Reaches}
use Rattle.edi_follows.specs.places.Related.{standing_of, activity, IsPlaced, Related}
use Rattle.edi_follows.specs.places.Lands.{Stepping, scene}
use Rattle.edi_follows.proofs.places.Places.{level_is}
use Rattle.edi_follows.proofs.places.Slots.{slot_is_in, HasValue, value_cell, HasLocation, location_cell}
use Rattle.edi_follows.proofs.places.Effects.{word_is}
use Rattle.edi_follows.proofs.places.Variables.{levels_reach}
use Rattle.edi_follows.proofs.places.Stores.{parts_are_there}
use Rattle.edi_follows.proofs.steps.Local.{stands}
use Rattle.edi_scheme.specs.Awaits.{await_paths, block_awaits, place_of, variable_offset}
use Rattle.edi_scheme.proofs.Awaits.{await_stands}
use Rattle.edi_meaning.specs.Arrivals.{Arrival, arrival_as, arrival_of}
use Rattle.edi_target.specs.Arrivals.{Arrived, arrived_as, arrived_in}
use Rattle.edi_follows.specs.Arrivals.{StandsFor, AreAlike}

-- who is in no table of these names is in no other
pub none_by_names : {A B : Type 0} (t : Table A) (u : Table B) (p : Name) → names t ≡ names u → find u p ≡ None → find t p ≡ None
none_by_names [] u p e f = refl
none_by_names (x ∷ t) [] p e f = absurd (cc)
none_by_names {A} {B} (x ∷ t) (y ∷ u) p e f = go (same p y.0) refl f (none_by_names t u p (rest e))
  where
    first : x.0 ∷ names t ≡ y.0 ∷ names u → x.0 ≡ y.0
    first h = cc

    rest : x.0 ∷ names t ≡ y.0 ∷ names u → names t ≡ names u
    rest h = cc

    go : (b : Bool) → same p y.0 ≡ b → (if b then Some y.1 else find u p) ≡ None → (find u p ≡ None → find t p ≡ None) → find (x ∷ t) p ≡ None
    go true i f k = absurd (cc)
    go false i f k = ap (λ c. if c then Some x.1 else find t p) (ap (same p) (first e) ∙ i) ∙ k f

module _ (g : Coded) (s : Processes) (t : Machine) (coherent : Coherent s) (r : Related g s t) (p : Name) (q : Process) (cs : Clauses) (position : Position)
    (found : find s.live p ≡ Some q) (standing : q.standing ≡ at_when cs position) where
  free : IsWaiting s.live p → ⊥
  free v = waiting_does_not_run q.standing v.number (ap source.is_running standing) (ap (λ (y : Process). y.standing) (some_is (sym found ∙ v.found)) ∙ v.standing)

  stepping : Stepping g s p q
  stepping = record {
    found = found;
    runs = ap source.is_running standing;
    free = free;
    lowest = λ y l n o. free (owner_waits s.live coherent.family.family y p l.process l.found n o);
  }

  abbrev S : Scene
  S = scene g s t p q stepping r

  abbrev F : Shape
  F = shape s.world.store

  abbrev there : Stands g S F s.world t.memory
  there = stands g s t p q stepping r

  placed : IsPlaced g r.first F t.memory t.activities p q
  placed = r.words.each p q found

  abbrev a : Activity
  a = activity g r.first F p q placed.pc

  abbrev x : Arrival
  x = record { process = p; position = position; store = s.world.store; turns = s.world.turns }

  abbrev y : Arrived
  y = record { process = p; activity = a; memory = t.memory; turns = t.turns }

  table : IsTable g.unit.types
  table = record { table = g.fits.table; shapes = g.fits.shapes; parts = g.parts }

  awaited : IsAwaited g (block_at g F (now F p)) position cs placed.pc
  awaited = of_standing q.standing standing placed.at
    where
      of_standing : (st : Standing) → st ≡ at_when cs position → IsAt g (is_first p) (r.first p) (F p) t.memory st q.work placed.pc (length (F p) - 1) →
          IsAwaited g (block_at g F (now F p)) position cs placed.pc
      of_standing st e h = (subst (λ z. IsAt g (is_first p) (r.first p) (F p) t.memory z q.work placed.pc (length (F p) - 1)) e h).6

  -- ---- the instances that static parents lead to

  abbrev far : ℕ → Spot
  far k = reached F k (now F p)

  reach : (k : ℕ) → Reaches g S F k (far k)
  reach k = levels_reach g S F s.world t.memory k there

  blocks : (k : ℕ) → block_at g F (far k) ≡ outer g.unit.blocks position.of k
  blocks k = (reach k).block_is ∙ ap (λ b. outer g.unit.blocks b k) (sym awaited.sited.of)

  base_is : (k : ℕ) → level t.memory k a.base ≡ address r.first F (far k)
  base_is k = level_is g S.live S.waits S.first S.size F there.layout s.world.store t.memory there.mirrors k (now F p) (lives 0)
    where
      lives : (k : ℕ) → IsLive F (far k)
      lives k = (reach k).lives

  address_is : (k v : ℕ) → level t.memory k a.base + variable_offset g.unit (outer g.unit.blocks position.of k) v ≡ slot_address g r.first F (far k) v
  address_is k v = (λ i. base_is k i + variable_offset g.unit (sym (blocks k) i) v)

  -- the slot of a variable there
  slot_here : (k v : ℕ) (o : Parameter) → slot_at g.unit.blocks position.of k v ≡ Some o → slot_in g (block_at g F (far k)) v ≡ Some o
  slot_here k v o e = ap (λ b. slot_in g b v) (blocks k) ∙ e

  -- ---- elementary values as words

  word_signed : (v : Value) (of : ℕ) (m : List ℕ) (at : ℕ) → of < length g.unit.types → IsTrue (is_elementary g.unit.types of) → IsOf g.unit.types v of →
      words_at m at (size g.unit.types of) ≡ value_words v → signed (word m at) ≡ ordinal_of v
  word_signed v of m at known elementary is words =
      let alone : IsAlone g.unit.types v of = elementary_is_alone g.unit.types table v of known elementary is in
      ap signed (word_is m [] (word_of v) at (size g.unit.types of) (words ∙ alone.words)) ∙ alone.integer

  -- the words at a location
  part : (l : Location) (of : ℕ) → Leads g F l of → IsPart g S F s.world t.memory l of
  part l of leads = parts_are_there g S values_are_long parts_stand F s.world t.memory l of there leads

  at_location : (l : Location) (of : ℕ) → Leads g F l of → IsTrue (is_elementary g.unit.types of) →
      signed (word t.memory (location_address g r.first F l)) ≡ ordinal_of (get s.world.store l)
  at_location l of leads elementary =
      let h : IsPart g S F s.world t.memory l of = part l of leads in
      word_signed (get s.world.store l) of t.memory (location_address g r.first F l) h.known elementary h.typed h.words

  -- a variable that holds values
  of_value : (k v of : ℕ) → slot_at g.unit.blocks position.of k v ≡ Some (slot.Value of) → IsTrue (is_elementary g.unit.types of) →
      signed (word t.memory (level t.memory k a.base + variable_offset g.unit (outer g.unit.blocks position.of k) v))
      ≡ ordinal_of (get s.world.store (store.slot s.world.store p k v))
  of_value k v of e elementary =
      let is : slot_in g (block_at g F (far k)) v ≡ Some (slot.Value of) = slot_here k v (slot.Value of) e in
      let less : v < slots_of g (block_at g F (far k)) = slot_is_in g (block_at g F (far k)) v (slot.Value of) is in
      let lives : IsLive F (far k) = (reach k).lives in
      let holds : Holds g F (far k) (heading_of g (block_at g F (far k)) v) (Some (slot.Value of)) (cell s.world.store (far k) v) =
      subst (λ o. Holds g F (far k) (heading_of g (block_at g F (far k)) v) o (cell s.world.store (far k) v)) is (there.typed.holds (far k) v lives less) in
      let has : HasValue g F (far k) (heading_of g (block_at g F (far k)) v) of (cell s.world.store (far k) v) =
      value_cell g F (far k) (heading_of g (block_at g F (far k)) v) of (cell s.world.store (far k) v) holds in
      let l : Location = record { spot = far k; variable = v; path = [] } in
      let leads : Leads g F l of = record { lives = lives; of = of; holds = is; path = tt; type = refl } in
      let same_place : slot_address g r.first F (far k) v ≡ location_address g r.first F l = omega arith in
      let meant : store.slot s.world.store p k v ≡ l = ap (located (far k) v) has.is in
      ap (λ z. signed (word t.memory z)) (address_is k v ∙ same_place) ∙ at_location l of leads elementary
      ∙ ap (λ z. ordinal_of (get s.world.store z)) (sym meant)

  -- a `var` parameter
  of_place : (k v of : ℕ) → slot_at g.unit.blocks position.of k v ≡ Some (slot.Var of) → IsTrue (is_elementary g.unit.types of) →
      signed (word t.memory (word t.memory (level t.memory k a.base + variable_offset g.unit (outer g.unit.blocks position.of k) v)))
      ≡ ordinal_of (get s.world.store (store.slot s.world.store p k v))
  of_place k v of e elementary =
      let is : slot_in g (block_at g F (far k)) v ≡ Some (slot.Var of) = slot_here k v (slot.Var of) e in
      let less : v < slots_of g (block_at g F (far k)) = slot_is_in g (block_at g F (far k)) v (slot.Var of) is in
      let lives : IsLive F (far k) = (reach k).lives in
      let holds : Holds g F (far k) (heading_of g (block_at g F (far k)) v) (Some (slot.Var of)) (cell s.world.store (far k) v) =
      subst (λ o. Holds g F (far k) (heading_of g (block_at g F (far k)) v) o (cell s.world.store (far k) v)) is (there.typed.holds (far k) v lives less) in
      let has : HasLocation g F (far k) (heading_of g (block_at g F (far k)) v) of (cell s.world.store (far k) v) =
      location_cell g F (far k) (heading_of g (block_at g F (far k)) v) of (cell s.world.store (far k) v) holds in
      let one : words_in g (slot_in g (block_at g F (far k)) v) ≡ 1 = ap (words_in g) is in
      let words : words_at t.memory (slot_address g r.first F (far k) v) 1 ≡ location_address g r.first F has.at ∷ [] =
      ap (words_at t.memory (slot_address g r.first F (far k) v)) (sym one) ∙ there.mirrors.cells (far k) v lives less ∙ ap (cell_words g r.first F) has.is in
      let meant : store.slot s.world.store p k v ≡ has.at = ap (located (far k) v) has.is in
      ap (λ z. signed (word t.memory (word t.memory z))) (address_is k v)
      ∙ ap (λ z. signed (word t.memory z)) (word_is t.memory [] (location_address g r.first F has.at) (slot_address g r.first F (far k) v) 1 words)
      ∙ at_location has.at of has.leads elementary ∙ ap (λ z. ordinal_of (get s.world.store z)) (sym meant)

  -- ---- the `when`

  number_here : (i : ℕ) × (place_of (await_paths g.unit.blocks position.of) position.path ≡ Some i)
      × (slice_get (block_awaits g.unit.types g.unit.blocks position.of) i ≡ Some (awaited.at + 2))
  number_here = await_stands g.unit.types g.unit.blocks position.of cs awaited.line awaited.at position.path awaited.sited.there

  known : position.of < length g.unit.blocks
  known = let here : block_at g F (now F p) < length g.unit.blocks = (reach 0).known in omega (arith, here, awaited.sited.of)

  stands_for : StandsFor g.unit x y
  stands_for = record {
    process = refl;
    turns = r.turns;
    number = number_here.0;
    is = number_here.1;
    address =
        ap (λ b. if b then slice_get (block_awaits g.unit.types g.unit.blocks position.of) number_here.0 else None)
        (lt-ltb position.of (length g.unit.blocks) known) ∙ number_here.2 ∙ ap (λ z. Some z) (sym awaited.behind);
    blocks = blocks;
    values = of_value;
    places = of_place;
  }

  pub alike_here : AreAlike g.unit (arrival_of p s.world (find s.live p)) (arrived_in t p (find t.activities p))
  alike_here =
      subst (λ o. AreAlike g.unit (arrival_of p s.world o) (arrived_in t p (find t.activities p))) (sym found)
      (subst (λ o. AreAlike g.unit (arrival_of p s.world (Some q)) (arrived_in t p o)) (sym placed.found)
      (subst (λ z. AreAlike g.unit (arrival_as p s.world z) (arrived_as t p a (standing_of z))) (sym standing) (stands_for, tt)))
