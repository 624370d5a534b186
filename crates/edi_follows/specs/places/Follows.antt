-- Helper. What the machine does for one step of a process alone: the interface between a process and the kernel.
use Rattle.std.specs.Prelude.{◌≡◌, ◌⊎◌, ℕ, ◌+◌, ◌-◌, ◌<◌, ◌≤◌, ◌^◌, Bool, true, false, List, length, map}
use Rattle.std.specs.List.{All}
use Rattle.edi_calls.specs.Names.{Name, same}
use Rattle.edi_calls.specs.Outcome as outcome
use Rattle.edi_calls.specs.Outcome.{Ending}
use Rattle.edi_calls.specs.State.{Traced}
use Rattle.edi_unit.specs.Fits.{BranchFits}
use Rattle.edi_meaning.specs.Store.{Store, shape, frame_at, now, used}
use Rattle.edi_meaning.specs.Evaluation.{World, Evaluation, gives, ends}
use Rattle.edi_meaning.specs.Step.{Work, Standing, at_when, Asks, goes, arrives, again, forks, leaves}
use Rattle.edi_target.specs.Op as op
use Rattle.edi_target.specs.Op.{Branch}
use Rattle.edi_target.specs.Memory.{word}
use Rattle.edi_target.specs.Effect as turn
use Rattle.edi_target.specs.Mach.{is_first}
use Rattle.edi_scheme.specs.Stands as code
use Rattle.edi_follows.specs.places.Coded.{Coded, entry, block}
use Rattle.edi_follows.specs.places.Spots.{Fine, Mirrors, Typed, IsOther, bottom}
use Rattle.edi_follows.specs.places.Walks.{Walker, Gets, Comes, Stops}
use Rattle.edi_follows.specs.places.Scene.{Scene, Outer, alone}
use Rattle.edi_follows.specs.places.Located.{Matches, IsAt}

-- the branches of a fork into these blocks, as its COBEGIN has them
abbrev pub branches_of : Coded → List ℕ → List Branch
branches_of g bs = map (λ n. record { need = (block g n).need; address = entry g n }) bs

module _ (g : Coded) (s : Scene) where
  abbrev pub gets : Walker → Walker → Bool → Type 0
  gets r r' c = Gets g.fetched s.count (is_first s.name) (Outer s) r r' c

  abbrev pub comes : Walker → turn.Turn → Walker → Bool → Type 0
  comes r kind r' c = Comes g.fetched s.count (is_first s.name) (Outer s) r kind r' c

  -- outside critical phases, with no operands
  abbrev pub resting : World → List ℕ → ℕ → Walker
  resting w m pc = alone s (shape w.store) m pc (bottom g s.first (shape w.store) s.name) 0 w

  -- what a stretch leaves, from this store and memory on
  pub record Stretch (store : Store) (w : World) (m m' : List ℕ) : Type 0 where
    pub others : (r : Name) → same r s.name ≡ false → shape w.store r ≡ shape store r
    pub some : 0 < length (shape w.store s.name)
    pub room : used (shape w.store s.name) ≤ s.size s.name
    pub fine : (d : ℕ) → d < length (shape w.store s.name) → Fine g (shape w.store) (s.name, d)
    pub mirrors : Mirrors g s.first (shape w.store) w.store m'
    pub typed : Typed g (shape w.store) w.store
    pub long : length m' ≡ 2 ^ 16
    -- outside the segment only variables have changed that the newest instance before could mean
    pub outside : (a : ℕ) → (a < s.first s.name) ⊎ (s.first s.name + s.size s.name ≤ a) → IsOther g s.first (shape store) (now (shape store) s.name) a →
        word m' a ≡ word m a

  abbrev pub matches : World → List ℕ → List Work → ℕ → Type 0
  matches w m ws pc = Matches g (is_first s.name) (s.first s.name) (shape w.store s.name) m ws pc (length (shape w.store s.name) - 1)

  abbrev pub is_at : World → List ℕ → Standing → List Work → ℕ → Type 0
  is_at w m standing ws pc = IsAt g (is_first s.name) (s.first s.name) (shape w.store s.name) m standing ws pc (length (shape w.store s.name) - 1)

  -- it goes on
  pub record GoesOn (store : Store) (m : List ℕ) (r : Walker) (ws : List Work) (w : World) : Type 0 where
    pub memory : List ℕ
    pub pc : ℕ
    pub cleared : Bool
    pub gets_there : gets r (resting w memory pc) cleared
    pub stretch : Stretch store w m memory
    pub at : matches w memory ws pc

  -- it stands at a `when`, after this turn
  pub record Waits (store : Store) (m : List ℕ) (r : Walker) (kind : turn.Turn) (standing : Standing) (ws : List Work) (w : World)
      (silent : Bool) : Type 0 where
    pub memory : List ℕ
    pub pc : ℕ
    pub cleared : Bool
    pub comes_there : comes r kind (resting w memory pc) cleared
    -- an attempt without calls took no turn before its own
    pub still : silent ≡ true → cleared ≡ false
    -- in the frames where it was
    pub shaped : shape store ≡ shape w.store
    pub stretch : Stretch store w m memory
    pub at : is_at w memory standing ws pc

  -- it stands before its COBEGIN
  pub record Forks (store : Store) (m : List ℕ) (r : Walker) (bs : List ℕ) (line : ℕ) (ws : List Work) (w : World) : Type 0 where
    pub memory : List ℕ
    pub pc : ℕ
    pub next : ℕ
    pub cleared : Bool
    pub gets_there : gets r (resting w memory pc) cleared
    pub stands : code.InstructionStands g.fetched pc (op.cobegin line (branches_of g bs)) next
    pub stretch : Stretch store w m memory
    pub at : matches w memory ws next
    pub some : 0 < length bs
    pub fit : All (BranchFits g.unit.types g.unit.blocks g.fits.headings (frame_at (shape w.store) (now (shape w.store) s.name)).block) bs

  -- it leaves, and has changed nothing
  pub record Leaves (store : Store) (m : List ℕ) (r : Walker) (w : World) : Type 0 where
    pub end : Walker
    pub cleared : Bool
    pub comes_there : comes r turn.exiting end cleared
    pub memory : end.local.memory ≡ m
    pub store_is : w.store ≡ store
    pub system : end.system ≡ w.system
    pub turns : end.turns ≡ w.turns

  -- the program ends: by an instruction, or by the RETURN of the program
  pub record Done (r : Walker) (system : Traced) (turns : ℕ) : Type 0 where
    pub end : Walker
    pub cleared : Bool
    pub comes_there : comes r turn.finishing end cleared
    pub system_is : end.system ≡ system
    pub turns_are : end.turns ≡ turns

  abbrev pub Follows : Store → List ℕ → Walker → Evaluation Asks → Type 0
  Follows store m r (gives (goes ws) w) = GoesOn store m r ws w
  Follows store m r (gives (arrives cs position ws) w) = Waits store m r turn.arriving (at_when cs position) ws w false
  Follows store m r (gives (again cs position quiet ws) w) = Waits store m r (turn.again quiet) (at_when cs position) ws w quiet
  Follows store m r (gives (forks bs line ws) w) = Forks store m r bs line ws w
  Follows store m r (gives leaves w) = Leaves store m r w
  Follows store m r (ends ending system turns) =
      Stops g.fetched s.count (is_first s.name) (Outer s) r ending system turns ⊎ ((ending ≡ outcome.done) × Done r system turns)
