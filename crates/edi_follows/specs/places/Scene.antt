-- Helper. One process at its work: where it stands in the memory, what it may do, and what a stretch of it leaves.
use Rattle.std.specs.Prelude.{◌≡◌, ◌⊎◌, ℕ, ◌+◌, ◌<◌, ◌≤◌, ◌^◌, Bool, true, false, List, length}
use Rattle.edi_calls.specs.Names.{Name, same}
use Rattle.edi_calls.specs.Outcome.{Ending}
use Rattle.edi_calls.specs.State.{Traced}
use Rattle.edi_meaning.specs.Store.{Shape, now, Owns}
use Rattle.edi_meaning.specs.Evaluation.{World, Evaluation, gives, ends}
use Rattle.edi_meaning.proofs.Frames.{HasShape}
use Rattle.edi_target.specs.Memory.{word}
use Rattle.edi_target.specs.Effect.{Local}
use Rattle.edi_target.specs.Mach.{IsAncestor, is_first}
use Rattle.edi_follows.specs.places.Coded.{Coded}
use Rattle.edi_follows.specs.places.Spots.{address, frames_end, block_at, bottom, Layout, Mirrors, Typed, IsOther}
use Rattle.edi_follows.specs.places.Walks.{Walker, Gets, Stops}

-- a live process that does not wait, beside the others: their segments, and their frames, which stay
pub record Scene : Type 1 where
  pub name : Name
  pub live : Name → Type 0
  pub waits : Name → Type 0
  pub first : Name → ℕ
  pub size : Name → ℕ
  -- the frames of all processes, of which those of the others count
  pub around : Shape
  -- how many processes live
  pub count : ℕ
  pub lives : live name
  pub runs : waits name → ⊥
  -- no live process is below it, since one that has children waits
  pub lowest : (q : Name) → live q → same q name ≡ false → Owns q name → ⊥

module _ (s : Scene) where
  -- a is no word of the process's segment, nor of an ancestor's frames
  abbrev pub Outer : ℕ → Type 0
  Outer a =
      ((a < s.first s.name) ⊎ (s.first s.name + s.size s.name ≤ a))
      × ((q : Name) → IsAncestor q s.name → s.live q → (a < s.first q) ⊎ (frames_end s.first s.around q ≤ a))

  -- the process with these frames, as an instruction has it
  abbrev pub local_at : Shape → List ℕ → (pc top held : ℕ) → Local
  local_at F m pc top held = record {
    memory = m;
    base = address s.first F (now F s.name);
    end = frames_end s.first F s.name;
    top = top;
    pc = pc;
    first = s.first s.name;
    last = s.first s.name + s.size s.name;
    held = held;
  }

  -- the process alone: all of it is told by its frames but the memory, the program counter, the top, and how many critical
  -- phases and function calls it is in
  abbrev pub alone : Shape → List ℕ → (pc top held : ℕ) → World → Walker
  alone F m pc top held w = record { local = local_at F m pc top held; system = w.system; turns = w.turns }

module _ (g : Coded) (s : Scene) where
  abbrev pub here : Shape → ℕ
  here F = block_at g F (now F s.name)

  abbrev pub base_of : Shape → ℕ
  base_of F = bottom g s.first F s.name

  -- memory and variables agree, and all that the static rules have made sure of holds
  pub record Stands (F : Shape) (w : World) (m : List ℕ) : Type 0 where
    pub shaped : HasShape F w.store
    pub layout : Layout g s.live s.waits s.first s.size F
    pub mirrors : Mirrors g s.first F w.store m
    pub typed : Typed g F w.store
    pub long : length m ≡ 2 ^ 16
    pub others : (q : Name) → same q s.name ≡ false → F q ≡ s.around q

  -- the operands reach up to t, and there is room for h words above them
  pub record Able (F : Shape) (w : World) (m : List ℕ) (t h held : ℕ) : Type 0 where
    pub stands : Stands F w m
    pub low : base_of F ≤ t
    pub high : t + h ≤ frames_end s.first F s.name
    pub few : held ≤ length (F s.name)

  -- what a stretch leaves: every process has the frames that it had; and below t, and behind the segment, only variables have
  -- changed that the newest instance may mean. The marks are taken away only by a turn
  pub record After (F : Shape) (w w' : World) (m m' : List ℕ) (t : ℕ) (cleared : Bool) : Type 0 where
    pub shaped : HasShape F w'.store
    pub mirrors : Mirrors g s.first F w'.store m'
    pub typed : Typed g F w'.store
    pub long : length m' ≡ 2 ^ 16
    pub untouched : (a : ℕ) → (a < t) ⊎ (s.first s.name + s.size s.name ≤ a) → IsOther g s.first F (now F s.name) a → word m' a ≡ word m a
    pub turns : w'.turns ≤ w.turns
    pub clears : cleared ≡ true → w'.turns < w.turns

  abbrev pub gets : Walker → Walker → Bool → Type 0
  gets r r' c = Gets g.fetched s.count (is_first s.name) (Outer s) r r' c

  abbrev pub stops : Walker → Ending → Traced → ℕ → Type 0
  stops r e system turns = Stops g.fetched s.count (is_first s.name) (Outer s) r e system turns

  -- the stretch that gives a value: from pc and this top, where the operands below t are to stay; `held` is the same at its end
  pub record Given {A : Type 0} (F : Shape) (pc top t held : ℕ) (w : World) (m : List ℕ) (Post : A → List ℕ → ℕ → ℕ → Type 0) (a : A)
      (w' : World) : Type 0 where
    pub memory : List ℕ
    pub to : ℕ
    pub up : ℕ
    pub cleared : Bool
    pub walked : gets (alone s F m pc top held w) (alone s F memory to up held w') cleared
    pub after : After F w w' m memory t cleared
    pub above : t ≤ up
    -- the operands have not gone beyond the frame
    pub within : up ≤ frames_end s.first F s.name
    pub post : Post a memory to up

  abbrev pub DoesSo : {A : Type 0} → Shape → (pc top t held : ℕ) → World → List ℕ → (A → List ℕ → ℕ → ℕ → Type 0) → Evaluation A → Type 0
  DoesSo F pc top t held w m Post (gives a w') = Given F pc top t held w m Post a w'
  DoesSo F pc top t held w m Post (ends e system turns) = stops (alone s F m pc top held w) e system turns

  -- WHAT THE MACHINE DOES FOR AN EVALUATION
  pub record Does {A : Type 0} (F : Shape) (pc top t held : ℕ) (w : World) (m : List ℕ) (Post : A → List ℕ → ℕ → ℕ → Type 0) (r : Evaluation A) : Type 0 where
    pub is : DoesSo F pc top t held w m Post r
