-- The states that a search keeps as a table, as the laws of a search speak of them.
use Rattle.std.proofs.Common.{◌≡◌, ℕ, ◌<◌, ◌≤◌, arith, Bool, List, [], length, Option, Some, None, refl, sym, ap, subst, ◌∙◌}
use Rattle.std.specs.Prelude.{slice_get, drop}
use Rattle.edi_kernel.specs.declared.kept.Kept.{Kept}
use Rattle.edi_kernel.specs.declared.state.KernelState.{KernelState}
use Rattle.edi_explored.specs.machine.Alike.{Alike}
use Rattle.edi_explored.specs.machine.Kernels as law
use Rattle.edi_explored.specs.machine.Kernels.{AreKeptOf, IsBack}
use Rattle.edi_calls.specs.Outcome.{Ending}
use Rattle.std.proofs.lemmas.List.{length-append}
use Rattle.std.proofs.lemmas.Option.{slice_get_within}
use Rattle.edi_explored.specs.Covered.{Report, Tells, tells_shown}
use Rattle.edi_explored.proofs.machine.Levels.{IsLater}
use Rattle.edi_explored.specs.machine.Levels.{StateTable}
use Rattle.edi_explore.specs.declared.offline.Offline.{Offline}
use Rattle.edi_explore.specs.declared.offline.Place.{Place}
use Rattle.edi_explore.specs.declared.states.Key.{Key}
use Rattle.edi_explore.specs.declared.states.States.{States}
use Rattle.edi_explore.specs.Offline.{no_files}
use Rattle.edi_explore.specs.Systems.{system_of}
use Rattle.edi_explore.specs.States.{AreStates, Follows, IsAdded, IsAddedFrom, PutsStateBack}
use Rattle.edi_explore.specs.Tables.{Grows, parts_at, parts_of, place_of, shown_at, shown_in, system_at, table_of}
use Rattle.edi_explore.proofs.Growing.{follows_on, follows_same, stays_at}
use Rattle.edi_explore.proofs.Keying.{lookup}
use Rattle.edi_explore.proofs.Tabled.{are_kept, are_apart, parts_last, there_still}

-- ---- a state that was put back

module _ (s : States) (input : List ℕ) (v : ℕ) (k : KernelState) (o : Offline) (states : AreStates s) (h : PutsStateBack s v k o) where
  abbrev T : StateTable
  T = table_of s input

  abbrev processes : List Kept
  processes = parts_at s.processes.keys h.key.parts.items

  same_processes : T.processes v ≡ processes
  same_processes = ap (parts_of s) h.is

  pub is_back : law.AreApart (T.processes v) → IsBack (T.processes v) k
  is_back apart = record {
    kernel = h.back.kernel;
    free = h.back.taken;
    unmarked = h.back.marked;
    long = h.back.long;
    has = subst (λ ps. AreKeptOf ps k) (sym same_processes)
        (are_kept s.processes.keys h.key.parts.items k
        (h.back.each (are_apart s.processes.keys h.key.parts.items (states.states v h.key h.is).processes (subst law.AreApart same_processes apart))) h.back.all);
  }

  pub is_order : Rattle.edi_kernel.specs.Table.ready_slots k.table ≡ T.slots v
  is_order = h.back.ready

  pub is_system : o.printed.items ≡ [] → o.input.items ≡ input → system_of o ≡ T.system v
  is_system printed same =
      (λ i. record {
        input = drop (sym h.system.taken i) (same i);
        shown = h.system.shown i;
        printed = printed i;
        slots = no_files;
        blocks = 0;
        found = None;
        buffer = sym h.system.buffer i;
      })
      ∙ sym (ap (λ x. system_at input (place_of s x)) h.is ∙ ap (system_at input) h.at)

-- what was shown in a state is that of its system
pub shown_of : (s : States) (input : List ℕ) (v : ℕ) → ((table_of s input).system v).shown ≡ shown_at s v
shown_of s input v = of (place_of s (slice_get s.keys.keys v))
  where
    of : (place : Option Place) → (system_at input place).shown ≡ shown_in place
    of None = refl
    of (Some place) = refl

-- ---- states that grow

pub grows_same : (s : States) → Grows s s
grows_same s = record {
  processes = follows_same s.processes.keys;
  places = follows_same s.places.keys;
  keys = follows_same s.keys.keys;
  slots = λ v l. refl;
  links = follows_same s.links.items;
}

pub follows_long : {X : Type 0} (xs ys : List X) → Follows xs ys → length xs ≤ length ys
follows_long xs ys f = omega (arith, ap length f.1, length-append xs f.0)

pub grows_on : (a b c : States) → Grows a b → Grows b c → Grows a c
grows_on a b c f g = record {
  processes = follows_on a.processes.keys b.processes.keys c.processes.keys f.processes g.processes;
  places = follows_on a.places.keys b.places.keys c.places.keys f.places g.places;
  keys = follows_on a.keys.keys b.keys.keys c.keys.keys f.keys g.keys;
  slots = λ v l. g.slots v (omega (arith, l, follows_long a.keys.keys b.keys.keys f.keys)) ∙ f.slots v l;
  links = follows_on a.links.items b.links.items c.links.items f.links g.links;
}

pub grows_added : (from : ℕ) (asks : Bool) (old new : States) (k : KernelState) (o : Offline) → IsAddedFrom from asks old new k o → Grows old new
grows_added from asks old new k o (h, l) = record { processes = h.processes; places = h.places; keys = h.keys; slots = h.slots; links = l.links }

pub grows_equal : (old new : States) → new ≡ old → Grows old new
grows_equal old new e = subst (Grows old) (sym e) (grows_same old)

module _ (old new : States) (input : List ℕ) (before : AreStates old) (h : Grows old new) where
  abbrev N : StateTable
  N = table_of new input

  abbrev O : StateTable
  O = table_of old input

  pub longer : length old.keys.keys ≤ length new.keys.keys
  longer = follows_long old.keys.keys new.keys.keys h.keys

  processes_still_at : (v : ℕ) (key : Key) → slice_get old.keys.keys v ≡ Some key → N.processes v ≡ O.processes v
  processes_still_at v key e =
      ap (parts_of new) (stays_at old.keys.keys new.keys.keys v key h.keys e)
      ∙ ap (λ kept. parts_at kept key.parts.items) h.processes.1
      ∙ parts_last old.processes.keys h.processes.0 key.parts.items (before.states v key e).processes.there
      ∙ sym (ap (parts_of old) e)

  system_still_at : (v : ℕ) (key : Key) → slice_get old.keys.keys v ≡ Some key → N.system v ≡ O.system v
  system_still_at v key e =
      ap (λ x. system_at input (place_of new x)) (stays_at old.keys.keys new.keys.keys v key h.keys e)
      ∙ ap (system_at input) (ap (λ xs. slice_get xs key.place) h.places.1
      ∙ there_still old.places.keys h.places.0 key.place (before.states v key e).place)
      ∙ sym (ap (λ x. system_at input (place_of old x)) e)

  pub processes_still : (v : ℕ) → v < length old.keys.keys → N.processes v ≡ O.processes v
  processes_still v l = let key : (x : Key) × (slice_get old.keys.keys v ≡ Some x) = lookup old.keys.keys v l in processes_still_at v key.0 key.1

  pub system_still : (v : ℕ) → v < length old.keys.keys → N.system v ≡ O.system v
  system_still v l = let key : (x : Key) × (slice_get old.keys.keys v ≡ Some x) = lookup old.keys.keys v l in system_still_at v key.0 key.1

  -- WHAT WAS FOUND of the states before is so of those now, while more is told
  pub later_of : (report report' : Report) → ((e : Ending) (shown : List ℕ) → Tells report e shown → Tells report' e shown) →
      tells_shown report' ≡ tells_shown report → (Had Has : ℕ → Type 0) → ((w : ℕ) → Had w → Has w × (w < length old.keys.keys)) →
      IsLater report report' O N Had Has
  later_of report report' tells alike Had Has all = record {
    tells = tells;
    alike = alike;
    states = λ w h. let x = all w h in (x.0, processes_still w x.1, system_still w x.1);
  }

-- ---- a state that was added

module _ (old new : States) (input : List ℕ) (asks : Bool) (k : KernelState) (o : Offline) (h : IsAdded asks old new k o) where
  abbrev A : StateTable
  A = table_of new input

  pub leads_there : AreKeptOf (A.processes h.number) k
  leads_there = subst (λ ps. AreKeptOf ps k) (sym (ap (parts_of new) h.is)) (are_kept new.processes.keys h.key.parts.items k h.of.each h.of.all)

  pub alike_there : o.input.items ≡ input → Alike asks (A.system h.number) (system_of o)
  alike_there same = subst (λ x. Alike asks x (system_of o)) (sym (ap (λ x. system_at input (place_of new x)) h.is ∙ ap (system_at input) h.of.at)) (record {
    input = λ i. drop (sym h.of.system.taken i) (same i);
    slots = refl;
    blocks = refl;
    found = refl;
    buffer = sym h.of.system.buffer;
    shown = h.of.system.shown;
  })

  pub number_within : h.number < length new.keys.keys
  number_within = slice_get_within new.keys.keys h.number h.key h.is
