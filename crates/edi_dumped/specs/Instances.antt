-- Words of contracts. The frames of a process are its instances, and the lines of a frame tell what the variables of its instance hold.
use Rattle.std.specs.Prelude.{◌≡◌, ℕ, zero, suc, ◌+◌, ◌-◌, true, List, [], ◌∷◌, ◌++◌, codes, drop, length, map, Some}
use Rattle.edi_calls.specs.Names.{Name, find}
use Rattle.edi_unit.specs.declared.units.Parameter.{Parameter}
use Rattle.edi_unit.specs.declared.units.Parameter.TheVariants as slot
use Rattle.edi_unit.specs.Types.{Shape}
use Rattle.edi_unit.specs.Need as need
use Rattle.edi_unit.specs.Need.{link_words, slots}
use Rattle.edi_meaning.specs.Permitted.{is_running}
use Rattle.edi_meaning.specs.Step.{Process, Processes}
use Rattle.edi_meaning.specs.Store.{Frame, Spot, Store, cell, get, located, shape, IsLive}
use Rattle.edi_meaning.proofs.Dangling.{Coherent}
use Rattle.edi_target.specs.Mach.{Activity, Machine}
use Rattle.edi_kernel.specs.declared.frames.Below.{Below}
use Rattle.edi_follows.specs.places.Coded.{Coded}
use Rattle.edi_follows.specs.places.Related.{Related}
use Rattle.edi_follows.specs.places.Spots.{address, block_at, frame_start}
use Rattle.edi_sights.specs.named.Naming.{Names, named_at}
use Rattle.edi_waits.specs.Ends.{frames_of}
use Rattle.edi_dump.specs.Frames.{Program, value_line, variables_text}
use Rattle.edi_dump.specs.values.Laws.{value_text}

-- of an instance of the meaning
module _ (types : List Shape) (constants : List (List (List ℕ))) (store : Store) (s : Spot) where
  -- the value of variable v, or of the variable that it means; a procedure parameter has none
  abbrev pub meant_text : (v : ℕ) → Parameter → List ℕ
  meant_text v (slot.Value t) = value_text types constants t (get store (located s v (cell store s v)))
  meant_text v (slot.Var t) = value_text types constants t (get store (located s v (cell store s v)))
  meant_text v (slot.Formal r) = codes "proc"

  -- the lines of the variables from v on
  abbrev pub instance_text : (v : ℕ) → (names : List (List ℕ)) → List Parameter → List ℕ
  instance_text v [] ps = []
  instance_text v (name ∷ names) [] = []
  instance_text v (name ∷ names) (p ∷ ps) =
      value_line name (meant_text v p) ++ instance_text (suc v) names ps

-- THE LINES ARE OF INSTANCES. Where the machine agrees with a state of the meaning, as it does between two steps and at a standstill, and a process
-- may go on, the lines of each frame are those of its instance.
abbrev pub LinesAreOfInstances : Type 0
LinesAreOfInstances =
    (g : Coded) (s : Processes) (t : Machine) → Coherent s → (r : Related g s t) → (p : Name) (q : Process) → find s.live p ≡ Some q →
    is_running q.standing ≡ true → (names : Names) (z : Spot) → IsLive (shape s.world.store) z →
    let b : ℕ = block_at g (shape s.world.store) z in
    let program : Program = record { unit = g.unit; names = names } in
    variables_text program t.memory (named_at names.blocks b).variables (slots (need.block_at g.unit.blocks b))
    (drop (address r.first (shape s.world.store) z + link_words) t.memory)
    ≡ instance_text g.unit.types names.constants s.world.store z 0 (named_at names.blocks b).variables (slots (need.block_at g.unit.blocks b))

-- where the first instances of a process begin in the memory, the newest of them first
abbrev pub bases : (first : ℕ) → List Frame → ℕ → List ℕ
bases first fs zero = []
bases first fs (suc d) = (first + frame_start fs d) ∷ bases first fs d

-- THE FRAMES ARE INSTANCES. And there the frames that are told of a process begin where its instances do.
abbrev pub FramesAreInstances : Type 0
FramesAreInstances =
    (g : Coded) (s : Processes) (t : Machine) → (r : Related g s t) → (p : Name) (q : Process) → find s.live p ≡ Some q →
    (a : Activity) × (find t.activities p ≡ Some a)
    × (map (λ (f : Below). f.base) (frames_of (suc (a.base - a.first)) t.memory a.first a.base a.top a.pc)
    ≡ bases (r.first p) (shape s.world.store p) (length (shape s.world.store p)))
