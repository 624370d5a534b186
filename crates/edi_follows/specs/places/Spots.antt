-- Helper. Where the instances of all processes lie in the one memory, and how its words stand for what their variables hold.
use Rattle.std.specs.Prelude.{◌≡◌, ◌⊎◌, ℕ, ◌+◌, ◌<◌, ◌≤◌, ◌^◌, false, IsTrue, List, [], ◌∷◌, ◌++◌, length, take, Option, Some, None}
use Rattle.edi_calls.specs.Names.{Name, same}
use Rattle.edi_store.specs.Memory.{words_at}
use Rattle.edi_unit.specs.declared.units.Parameter.{Parameter}
use Rattle.edi_unit.specs.declared.units.Parameter.TheVariants as slot
use Rattle.edi_unit.specs.Need.{slot_type}
use Rattle.edi_unit.specs.Values.{IsOf}
use Rattle.edi_unit.specs.Fits.{block_heading, is_called, IsCall}
use Rattle.edi_unit.specs.Headings.{Heading, heading_formals, heading_result}
use Rattle.edi_meaning.specs.Store.{Spot, Location, Closure, system_procedure, block_procedure, Cell, value, location, procedure, Frame, Store, Shape}
use Rattle.edi_meaning.specs.Store.{instances, frame_at, now, used, cells_in, cell, IsLive, Older}
use Rattle.edi_target.specs.Memory.{word}
use Rattle.edi_target.specs.Op.{high_word, low_word}
use Rattle.edi_target.specs.Mach.{IsAncestor}
use Rattle.edi_follows.specs.values.Words.{value_words, path_type, path_offset, IsPath}
use Rattle.edi_follows.specs.places.Coded.{Coded, block, entry, slot_in, slots_of, words_in, offset, kept, heading_of}

-- ---- segments

module _ (live waits : Name → Type 0) (first size used : Name → ℕ) where
  -- the segment of q lies behind the frames of p, which waits
  pub record Inside (p q : Name) : Type 0 where
    pub waiting : waits p
    pub below : IsAncestor p q
    pub behind : first p + used p ≤ first q
    pub within : first q + size q ≤ first p + size p

  abbrev pub Apart : Name → Name → Type 0
  Apart p q = (first p + size p ≤ first q) ⊎ (first q + size q ≤ first p)

  -- of two live processes one lies inside the other, or they are apart
  pub record Segments : Type 0 where
    pub own : (p : Name) → live p → used p ≤ size p
    pub within : (p : Name) → live p → first p + size p ≤ 2 ^ 16
    pub pairs : (p q : Name) → live p → live q → same p q ≡ false → Inside p q ⊎ (Inside q p ⊎ Apart p q)

-- ---- frames

-- where a frame begins behind the first
abbrev pub frame_start : List Frame → ℕ → ℕ
frame_start fs d = used (take d fs)

module _ (first : Name → ℕ) (F : Shape) where
  abbrev pub address : Spot → ℕ
  address s = first s.0 + frame_start (F s.0) s.1

  -- the end of the newest frame of a process
  abbrev pub frames_end : Name → ℕ
  frames_end p = first p + used (F p)

module _ (g : Coded) where
  abbrev pub block_at : Shape → Spot → ℕ
  block_at F s = (frame_at F s).block

  -- an instance as the static rules have it
  pub record Fine (F : Shape) (s : Spot) : Type 0 where
    pub known : block_at F s < length g.unit.blocks
    pub needs : (frame_at F s).need ≡ (block g (block_at F s)).need
    pub parent : IsLive F (frame_at F s).parent
    pub older : Older (frame_at F s).parent s
    pub up : block_at F (frame_at F s).parent ≡ (block g (block_at F s)).up

  -- where the operands of the newest frame of a process begin
  abbrev pub bottom : (Name → ℕ) → Shape → Name → ℕ
  bottom first F p = address first F (now F p) + kept g (block_at F (now F p))

  pub record Layout (live waits : Name → Type 0) (first size : Name → ℕ) (F : Shape) : Type 0 where
    pub segments : Segments live waits first size (λ p. used (F p))
    pub owner : (s : Spot) → IsLive F s → live s.0
    pub some : (p : Name) → live p → 0 < length (F p)
    pub fine : (s : Spot) → IsLive F s → Fine F s

  -- ---- locations, closures and cells

  -- a location leads to a part of this type of a live variable that holds values
  pub record Leads (F : Shape) (l : Location) (t : ℕ) : Type 0 where
    pub lives : IsLive F l.spot
    pub of : ℕ
    pub holds : slot_in g (block_at F l.spot) l.variable ≡ Some (slot.Value of)
    pub path : IsPath g.unit.types of l.path
    pub type : path_type g.unit.types of l.path ≡ t

  -- a procedure with this heading, that an instance at s may mean
  abbrev pub IsMeantBy : Shape → Spot → Heading → Closure → Type 0
  IsMeantBy F s h (system_procedure number) = IsCall g.unit.types number (heading_formals h) × (heading_result h ≡ None)
  IsMeantBy F s h (block_procedure number parent) =
      (number < length g.unit.blocks)
      × IsTrue (is_called (block g number).kind)
      × (block_heading g.fits.headings g.unit.blocks number ≡ h)
      × IsLive F parent
      × Older parent s
      × (block_at F parent ≡ (block g number).up)

  -- a cell is one of its variable, which is variable v of block b; the heading is that of a procedure parameter
  abbrev pub Holds : Shape → Spot → Heading → Option Parameter → Cell → Type 0
  Holds F s h (Some (slot.Value t)) (value x) = IsOf g.unit.types x t
  Holds F s h (Some (slot.Var t)) (location l) = Leads F l t × Older l.spot s
  Holds F s h (Some (slot.Formal r)) (procedure c) = IsMeantBy F s h c
  Holds F s h _ _ = ⊥

  module _ (first : Name → ℕ) (F : Shape) where
    abbrev pub slot_address : Spot → ℕ → ℕ
    slot_address s v = address first F s + offset g (block_at F s) v

    abbrev pub location_address : Location → ℕ
    location_address l =
        slot_address l.spot l.variable + path_offset g.unit.types (slot_type (slot_in g (block_at F l.spot) l.variable)) l.path

    abbrev pub closure_words : Closure → List ℕ
    closure_words (system_procedure number) = 65535 ∷ number ∷ 0 ∷ []
    closure_words (block_procedure number parent) = high_word (entry g number) ∷ low_word (entry g number) ∷ address first F parent ∷ []

    abbrev pub cell_words : Cell → List ℕ
    cell_words (value v) = value_words v
    cell_words (location l) = location_address l ∷ []
    cell_words (procedure c) = closure_words c

    abbrev pub cells_words : List Cell → List ℕ
    cells_words [] = []
    cells_words (c ∷ cs) = cell_words c ++ cells_words cs

    -- the words of links and variables stand for the instances
    pub record Mirrors (store : Store) (m : List ℕ) : Type 0 where
      pub link : (s : Spot) → IsLive F s → word m (address first F s) ≡ address first F (frame_at F s).parent
      pub cells : (s : Spot) (v : ℕ) → IsLive F s → v < slots_of g (block_at F s) →
          words_at m (slot_address s v) (words_in g (slot_in g (block_at F s) v)) ≡ cell_words (cell store s v)

  -- and each variable holds what it may hold
  pub record Typed (F : Shape) (store : Store) : Type 0 where
    pub count : (s : Spot) → IsLive F s → length (cells_in (instances store s.0) s.1) ≡ slots_of g (block_at F s)
    pub holds : (s : Spot) (v : ℕ) → IsLive F s → v < slots_of g (block_at F s) →
        Holds F s (heading_of g (block_at F s) v) (slot_in g (block_at F s) v) (cell store s v)

  -- ---- words that are of no variable

  -- a is no word of a variable of r
  abbrev pub IsNoVariable : (Name → ℕ) → Shape → Spot → ℕ → Type 0
  IsNoVariable first F r a =
      (a < address first F r + 5) ⊎ (address first F r + kept g (block_at F r) ≤ a)

  -- nor of one that an instance at s may mean
  abbrev pub IsOther : (Name → ℕ) → Shape → Spot → ℕ → Type 0
  IsOther first F s a = (r : Spot) → IsLive F r → Older r s → IsNoVariable first F r a
