-- Names of a table with a new entry, and cells whose frames and first words stay where they were.
use Rattle.std.proofs.Common.{◌≡◌, ℕ, ◌+◌, ◌<◌, Bool, true, false, if◌then◌else◌, List, [], ◌∷◌, length, Option, Some, refl, sym, subst, ap, ◌∙◌}
use Rattle.edi_calls.specs.Names.{Name, Table, same, with_at, names}
use Rattle.edi_unit.specs.declared.units.Parameter.{Parameter}
use Rattle.edi_unit.specs.declared.units.Parameter.TheVariants as slot
use Rattle.edi_unit.specs.Headings.{Heading}
use Rattle.edi_meaning.specs.Store.{Spot, Location, system_procedure, block_procedure, Cell, value, location, procedure, Shape, IsLive}
use Rattle.edi_target.specs.Op.{high_word, low_word}
use Rattle.edi_follows.specs.places.Coded.{Coded, entry, slot_in}
use Rattle.edi_follows.specs.places.Spots.{address, block_at, Leads, Holds, location_address, cell_words, frame_start}
use Rattle.edi_follows.specs.places.Located.{frame_of}

-- ---- names

abbrev pub names_with : Name → List Name → List Name
names_with p [] = p ∷ []
names_with p (n ∷ ns) = if same p n then n ∷ ns else n ∷ names_with p ns

pub names-with : {A : Type 0} (t : Table A) (p : Name) (a : A) → names (with_at t p a) ≡ names_with p (names t)
names-with [] p a = refl
names-with (entry ∷ t) p a = go (same p entry.0) (names-with t p a)
  where
    go : (c : Bool) → names (with_at t p a) ≡ names_with p (names t) → names (if c then (entry.0, a) ∷ t else entry ∷ with_at t p a) ≡
        (if c then entry.0 ∷ names t else entry.0 ∷ names_with p (names t))
    go true h = refl
    go false h = ap (λ l. entry.0 ∷ l) h

-- ---- cells, where frames and first words stay

module _ (g : Coded) (first first' : Name → ℕ) (F G : Shape) where
  abbrev pub SameSeg : Name → Type 0
  SameSeg y = (G y ≡ F y) × (first' y ≡ first y)

  pub address_moved : (z : Spot) → SameSeg z.0 → address first' G z ≡ address first F z
  address_moved z e = λ i. e.1 i + frame_start (e.0 i) z.1

  pub block_moved : (z : Spot) → SameSeg z.0 → block_at g G z ≡ block_at g F z
  block_moved z e = ap (λ fs. (frame_of fs z.1).block) e.0

  location_moved : (l : Location) → SameSeg l.spot.0 → location_address g first' G l ≡ location_address g first F l
  location_moved l e = λ i. location_address g (λ _. e.1 i) (λ _. e.0 i) l

  leads_moved : (l : Location) (t : ℕ) → SameSeg l.spot.0 → Leads g F l t → Leads g G l t
  leads_moved l t e h = record {
    lives = subst (λ fs. l.spot.1 < length fs) (sym e.0) h.lives;
    of = h.of;
    holds = ap (λ b. slot_in g b l.variable) (block_moved l.spot e) ∙ h.holds;
    path = h.path;
    type = h.type;
  }

  pub words_moved : (z : Spot) (h : Heading) (v : Option Parameter) (c : Cell) → ((y : Spot) → IsLive F y → SameSeg y.0) → Holds g F z h v c →
      (cell_words g first' G c ≡ cell_words g first F c) × Holds g G z h v c
  words_moved z h (Some (slot.Value t)) (value x) k held = (refl, held)
  words_moved z h (Some (slot.Var t)) (location l) k held =
      let e : SameSeg l.spot.0 = k l.spot held.0.lives in (ap (λ a. a ∷ []) (location_moved l e), (leads_moved l t e held.0, held.1))
  words_moved z h (Some (slot.Formal r)) (procedure (system_procedure number)) k held = (refl, held)
  words_moved z h (Some (slot.Formal r)) (procedure (block_procedure number parent)) k held =
      let e : SameSeg parent.0 = k parent held.3 in (
        ap (λ a. high_word (entry g number) ∷ low_word (entry g number) ∷ a ∷ []) (address_moved parent e),
        (held.0, held.1, held.2, subst (λ fs. parent.1 < length fs) (sym e.0) held.3, held.4, block_moved parent e ∙ held.5),
      )
  words_moved z h v c k held = absurd held
