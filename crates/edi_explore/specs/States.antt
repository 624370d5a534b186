-- Words of contracts. The states that a search keeps, by numbers.
use Rattle.std.specs.Prelude.{◌≡◌, ◌⊎◌, ℕ, zero, suc, ◌-◌, ◌<◌, ◌≤◌, ◌^◌, Bool, true, false, List, [], ◌++◌, length, slice_get, slice_index_or, Contains, Some, None, take, drop}
use Rattle.std.specs.Option.{option_map}
use Rattle.edi_kernel.specs.declared.kept.Kept.{Kept}
use Rattle.edi_kernel.specs.declared.state.KernelState.{KernelState}
use Rattle.edi_kernel.specs.Table.{is_live, no_marks, ready_slots}
use Rattle.edi_kernel.specs.Kernel.{IsKernel}
use Rattle.edi_kernel.specs.Kept.{IsKeptOf, IsWhole}
use Rattle.edi_explore.specs.declared.offline.Place.{Place}
use Rattle.edi_explore.specs.declared.offline.Offline.{Offline}
use Rattle.edi_explore.specs.declared.states.Key.{Key}
use Rattle.edi_explore.specs.declared.states.Origin.{Origin}
use Rattle.edi_explore.specs.declared.states.States.{States}
use Rattle.edi_explore.specs.Back.{AreApart, AreProcesses, IsPart}
use Rattle.edi_explore.specs.Links.{targets_of}
use Rattle.edi_explore.specs.Systems.{IsPlaceOf}

-- where the ready slots of a state begin in the list of all of them, and those slots
abbrev pub start_of : States → ℕ → ℕ
start_of s zero = 0
start_of s (suc v) = slice_index_or s.ends.items v 0

abbrev pub end_of : States → ℕ → ℕ
end_of s v = slice_index_or s.ends.items v 0

abbrev pub slots_of : States → ℕ → List ℕ
slots_of s v = take (end_of s v - start_of s v) (drop (start_of s v) s.orders.items)

module _ (s : States) where
  -- the parts of a state are there, the first process among them, and these are the slots of those that are ready, each once
  pub record IsState (key : Key) (slots : List ℕ) : Type 0 where
    pub place : key.place < length s.places.keys
    pub processes : AreProcesses s.processes.keys key.parts.items
    pub first : (index : ℕ) × (part : Kept) × IsPart s.processes.keys key.parts.items index part × (part.slot ≡ 0)
    pub lined : (i slot : ℕ) → slice_get slots i ≡ Some slot →
        (index : ℕ) × (part : Kept) × IsPart s.processes.keys key.parts.items index part × (part.slot ≡ slot) × (part.ready ≡ true)
    pub distinct : (i j slot : ℕ) → slice_get slots i ≡ Some slot → slice_get slots j ≡ Some slot → i ≡ j
    pub ready : (index : ℕ) (part : Kept) → IsPart s.processes.keys key.parts.items index part → part.ready ≡ true →
        (i : ℕ) × (slice_get slots i ≡ Some part.slot)
    pub few : length slots ≤ 32

  -- each state but the first came from an earlier one, by one of those that were ready there
  pub record AreStates : Type 0 where
    pub ends : length s.ends.items ≡ length s.keys.keys
    pub origins : length s.origins.items ≡ length s.keys.keys
    pub from : (v : ℕ) (o : Origin) → slice_get s.origins.items (suc v) ≡ Some o → (o.state ≤ v) × (o.index < length (slots_of s o.state))
    pub closes : start_of s (length s.keys.keys) ≡ length s.orders.items
    pub within : (v : ℕ) → v < length s.keys.keys → (start_of s v ≤ end_of s v) × (end_of s v ≤ length s.orders.items)
    pub states : (v : ℕ) (key : Key) → slice_get s.keys.keys v ≡ Some key → IsState key (slots_of s v)

  -- the kernel has the processes of the state, these are ready in it, and none is marked or taken
  pub record IsBackOf (key : Key) (slots : List ℕ) (k : KernelState) : Type 0 where
    pub kernel : IsKernel k
    pub each : AreApart s.processes.keys key.parts.items → (index : ℕ) (part : Kept) → IsPart s.processes.keys key.parts.items index part → IsKeptOf k part
    pub all : (slot : ℕ) → is_live k.table slot ≡ true →
        (index : ℕ) × (part : Kept) × IsPart s.processes.keys key.parts.items index part × (part.slot ≡ slot)
    pub ready : ready_slots k.table ≡ slots
    pub marked : k.table.marked ≡ no_marks
    pub taken : k.taken ≡ None
    pub entering : k.entering ≡ false
    pub long : length k.store ≡ 2 ^ 16

  -- the state of this number has been put back
  pub record PutsStateBack (v : ℕ) (k : KernelState) (o : Offline) : Type 0 where
    pub key : Key
    pub is : slice_get s.keys.keys v ≡ Some key
    pub back : IsBackOf key (slots_of s v) k
    pub place : Place
    pub at : slice_get s.places.keys key.place ≡ Some place
    pub system : IsPlaceOf true o place

-- no state is kept
pub record AreNone (s : States) : Type 0 where
  pub processes : s.processes.keys ≡ []
  pub places : s.places.keys ≡ []
  pub keys : s.keys.keys ≡ []
  pub origins : s.origins.items ≡ []
  pub orders : s.orders.items ≡ []
  pub ends : s.ends.items ≡ []

-- this is where a state may come from
abbrev pub MayComeFrom : States → Origin → Type 0
MayComeFrom s o = 0 < length s.keys.keys → (o.state < length s.keys.keys) × (o.index < length (slots_of s o.state))

-- ---- a state that is added

-- more comes behind what was there
abbrev pub Follows : {X : Type 0} → List X → List X → Type 0
Follows {X = X} old new = (more : List X) × (new ≡ old ++ more)

-- the parts of a state are those of a kernel and a system
pub record IsKeyOf (asks : Bool) (s : States) (key : Key) (k : KernelState) (o : Offline) : Type 0 where
  pub place : Place
  pub at : slice_get s.places.keys key.place ≡ Some place
  pub system : IsPlaceOf asks o place
  pub processes : AreProcesses s.processes.keys key.parts.items
  pub each : (index : ℕ) (part : Kept) → IsPart s.processes.keys key.parts.items index part → IsKeptOf k part
  pub all : (slot : ℕ) → is_live k.table slot ≡ true →
      (index : ℕ) × (part : Kept) × IsPart s.processes.keys key.parts.items index part × (part.slot ≡ slot)

-- the numbers of the parts of the live processes at slots below n
pub record ArePartsBelow (n : ℕ) (kept : List Kept) (numbers : List ℕ) (k : KernelState) : Type 0 where
  pub there : (index number : ℕ) → slice_get numbers index ≡ Some number → number < length kept
  pub whole : (index : ℕ) (part : Kept) → IsPart kept numbers index part → IsWhole part
  pub distinct : (i j : ℕ) (a b : Kept) → IsPart kept numbers i a → IsPart kept numbers j b → a.slot ≡ b.slot → i ≡ j
  pub below : (index : ℕ) (part : Kept) → IsPart kept numbers index part → part.slot < n
  pub each : (index : ℕ) (part : Kept) → IsPart kept numbers index part → IsKeptOf k part
  pub all : (slot : ℕ) → slot < n → is_live k.table slot ≡ true → (index : ℕ) × (part : Kept) × IsPart kept numbers index part × (part.slot ≡ slot)

-- only parts have been added
pub record AddsParts (old new : States) : Type 0 where
  pub processes : Follows old.processes.keys new.processes.keys
  pub places : Follows old.places.keys new.places.keys
  pub rest : new ≡ record old { processes = new.processes; places = new.places }

-- equal parts
abbrev pub IsSameKept : Kept → Kept → Type 0
IsSameKept a b =
    (b.slot ≡ a.slot) × (b.parent ≡ a.parent) × (b.standing ≡ a.standing) × (b.base ≡ a.base) × (b.end ≡ a.end) × (b.top ≡ a.top) × (b.pc ≡ a.pc)
    × (b.first ≡ a.first) × (b.last ≡ a.last) × (b.held ≡ a.held) × (b.ready ≡ a.ready) × (b.words.items ≡ a.words.items)

abbrev pub IsSamePlace : Place → Place → Type 0
IsSamePlace a b =
    (b.taken ≡ a.taken) × (option_map (λ bytes. bytes.items) b.buffer ≡ option_map (λ bytes. bytes.items) a.buffer) × (b.shown.items ≡ a.shown.items)

abbrev pub IsSameKey : Key → Key → Type 0
IsSameKey a b = (b.place ≡ a.place) × (b.parts.items ≡ a.parts.items)

-- a state of this kernel and this system is kept, and no other one is new; what was kept before is as it was
pub record IsAdded (asks : Bool) (old new : States) (k : KernelState) (o : Offline) : Type 0 where
  pub number : ℕ
  pub key : Key
  pub is : slice_get new.keys.keys number ≡ Some key
  pub of : IsKeyOf asks new key k o
  pub states : AreStates new
  pub processes : Follows old.processes.keys new.processes.keys
  pub places : Follows old.places.keys new.places.keys
  pub keys : Follows old.keys.keys new.keys.keys
  pub slots : (v : ℕ) → v < length old.keys.keys → slots_of new v ≡ slots_of old v
  pub fresh : (v : ℕ) → v < length new.keys.keys → (v < length old.keys.keys) ⊎ ((v ≡ number) × (slots_of new v ≡ ready_slots k.table))

-- a link leads from there to the state of this number, and those that were there are as they were
pub record IsLinkedTo (from number : ℕ) (old new : States) : Type 0 where
  pub links : Follows old.links.items new.links.items
  pub there : Contains (targets_of new.links.items from) number

-- that state is kept, and a link leads there
abbrev pub IsAddedFrom : (from : ℕ) (asks : Bool) (old new : States) → KernelState → Offline → Type 0
IsAddedFrom from asks old new k o = (h : IsAdded asks old new k o) × IsLinkedTo from h.number old new
