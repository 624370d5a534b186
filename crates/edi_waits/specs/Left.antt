-- Words of contracts. The processes that a kernel has left, by their names.
use Rattle.std.specs.Prelude.{ℕ, zero, suc, ◌-◌, ◌==◌, ◌&&◌, ◌||◌, nat_lt, nat_eq, Bool, true, false, if◌then◌else◌, List, [], ◌∷◌, map, Option, Some, None}
use Rattle.std.specs.Global.{Vec}
use Rattle.edi_calls.specs.Names.{Name, same}
use Rattle.edi_machine.specs.declared.activity.Activity.{Activity}
use Rattle.edi_kernel.specs.declared.frames.Below.{Below}
use Rattle.edi_kernel.specs.declared.state.KernelState.{KernelState}
use Rattle.edi_kernel.specs.Kept.{below_of}
use Rattle.edi_kernel.specs.Table.{is_live, process_at}
use Rattle.edi_kernel.specs.TableIsMachine.{standing_of}
use Rattle.edi_waits.specs.declared.births.Branch.{Branch}
use Rattle.edi_waits.specs.declared.births.Names.{Names}
use Rattle.edi_waits.specs.declared.ends.Process.{Process}
use Rattle.edi_waits.specs.Ends.{AtEnd, is_before, stands_by}
use Rattle.edi_waits.specs.Names.{forks_at, name_at}
use Rattle.edi_waits.specs.Told.{name_of}

-- whether the process at this slot is taken
abbrev pub is_slot : Option ℕ → ℕ → Bool
is_slot None slot = false
is_slot (Some at) slot = at == slot

-- whether a process is the one that ended the run, if one did
abbrev pub is_broken : Option Name → Name → Bool
is_broken None = λ p. false
is_broken (Some q) = same q

abbrev pub frames_after : (ℕ → List Below) → Option Below → List Below
frames_after more None = []
frames_after more (Some frame) = frame ∷ more frame.base

-- the frames below the one at this base, at most so many, the newest first
abbrev pub frames_below : ℕ → List ℕ → (first base : ℕ) → List Below
frames_below zero memory first base = []
frames_below (suc n) memory first base = frames_after (frames_below n memory first) (below_of memory first base)

abbrev pub frames_by : List ℕ → Activity → List Below
frames_by memory a = record { base = a.base; top = a.top; back = a.pc } ∷ frames_below (a.base - a.segment.first) memory a.segment.first a.base

-- what is told of the process at a slot
abbrev pub at_end_of : KernelState → Names → ℕ → AtEnd
at_end_of k names slot = record {
  process = name_at names k.table slot;
  stands = stands_by (is_slot k.taken slot) (standing_of (process_at k.table slot).standing) (forks_at names slot);
  frames = frames_by k.store (process_at k.table slot).activity;
}

-- ---- by names

-- Whether a name comes before another by their branches at one index; nothing is said where these are the same.
abbrev pub decided_by : (same before : Bool) → Option Bool
decided_by true before = None
decided_by false before = Some before

abbrev pub decided : Option Branch → Option Branch → Option Bool
decided None None = Some false
decided None (Some c) = Some true
decided (Some b) None = Some false
decided (Some b) (Some c) =
    decided_by (nat_eq b.fork c.fork && nat_eq b.number c.number) (nat_lt b.fork c.fork || (nat_eq b.fork c.fork && nat_lt b.number c.number))

-- how many of these come before the one of this name, up to the first that does not
abbrev pub index_among : Name → List AtEnd → ℕ
index_among p [] = 0
index_among p (y ∷ ys) = if is_before p y.process then 0 else suc (index_among p ys)

-- these with one more, before the first that comes after it
abbrev pub put_in : AtEnd → List AtEnd → List AtEnd
put_in x [] = x ∷ []
put_in x (y ∷ ys) = if is_before x.process y.process then x ∷ y ∷ ys else y ∷ put_in x ys

-- whether this name comes before a process, or there is none
abbrev pub comes_before : Name → Option Process → Bool
comes_before p None = true
comes_before p (Some y) = is_before p (name_of y.name.items)

-- those at the slots below n that live
abbrev pub at_ends : KernelState → Names → ℕ → List AtEnd
at_ends k names zero = []
at_ends k names (suc n) = if is_live k.table n then put_in (at_end_of k names n) (at_ends k names n) else at_ends k names n

-- as plain data
abbrev pub told_end : Process → AtEnd
told_end p = record { process = name_of p.name.items; stands = p.stands; frames = p.frames.items }

abbrev pub told_ends : Vec Process → List AtEnd
told_ends ps = map told_end ps.items
