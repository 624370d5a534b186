-- The end of a process: its frames go, and its parent waits for one child less.
use Rattle.std.proofs.Common.{◌≡◌, ℕ, zero, suc, ◌+◌, ◌-◌, ◌<◌, ◌⊎◌, inl, inr, Bool, true, false, if◌then◌else◌, List, [], ◌∷◌, length, Option, Some, None}
use Rattle.std.proofs.Common.{refl, sym, subst, ap, ◌∙◌, arith}
use Rattle.std.specs.Prelude.{slice_index_or, is_some}
use Rattle.edi_calls.specs.Names.{Name, Table, same, find, with_at, without, names}
use Rattle.edi_calls.specs.Ready.{parent_of, joins, freed}
use Rattle.edi_calls.proofs.Tables.{same-or-other, find-with_at-same, find-with_at-other, find-without-same, find-without-other}
use Rattle.edi_store.specs.Memory.{words_at}
use Rattle.edi_calls.specs.State.{Traced}
use Rattle.edi_meaning.specs.Store.{Spot, Store, Shape, no_cell, instances, frames, shape, frame_at, cells_in, cell, Owns, IsLive, Older, within, above}
use Rattle.edi_meaning.specs.Evaluation.{World, gives}
use Rattle.edi_meaning.specs.Step as source
use Rattle.edi_meaning.specs.Step.{Process, Processes, Asks, leaves, kernel}
use Rattle.edi_meaning.specs.Laws.{IsWaiting}
use Rattle.edi_meaning.proofs.Kernel.{After, rest_of}
use Rattle.edi_meaning.proofs.Dangling.{Coherent, alone_now}
use Rattle.edi_meaning.proofs.Family.{kept_without}
use Rattle.edi_calls.proofs.Names.{some_is}
use Rattle.edi_meaning.proofs.Own.{instances-gone, instances-left}
use Rattle.edi_meaning.proofs.Parents.{names-with_at}
use Rattle.edi_target.specs.Memory.{word}
use Rattle.edi_target.specs.Effect as turn
use Rattle.edi_target.specs.Mach as target
use Rattle.edi_target.specs.Mach.{Machine, Running, Activity, is_first, turned}
use Rattle.edi_target.proofs.segments.Families.{Sound}
use Rattle.edi_follows.specs.places.Coded.{Coded, slot_in, slots_of, words_in, offset, heading_of}
use Rattle.edi_follows.specs.places.Spots.{address, block_at, Fine, Layout, Mirrors, Typed, cell_words, Holds}
use Rattle.edi_follows.specs.places.Located.{frame_of, IsAt}
use Rattle.edi_follows.specs.places.Scene.{Outer}
use Rattle.edi_follows.specs.places.Walks.{plain, Comes}
use Rattle.edi_follows.specs.places.Follows.{Leaves}
use Rattle.edi_follows.specs.places.Related.{Lives, size_in, standing_of, activity, IsPlaced, Words, Related}
use Rattle.edi_follows.specs.places.Lands.{step, Keeps, Switches, LandsNext, Lands, Taken, Outside, Stepping, scene, taken_as, LeaveClaim}
use Rattle.edi_follows.proofs.kernel.Lifting.{Before}
use Rattle.edi_follows.proofs.kernel.Kernels.{activity_here, in_outer, before_here, stepped, words_there, adds_there, step_after_sound, fails_there}
use Rattle.edi_follows.proofs.kernel.Attempted.{was_ready, ready_spot, not_again}
use Rattle.edi_follows.proofs.kernel.Settled.{fine_kept}
use Rattle.edi_follows.proofs.places.Nested.{SameAt, segments_of, address_kept, block_kept, words_kept}
use Rattle.edi_follows.proofs.kernel.Going.{may_go_on}

module _ (g : Coded) (s : Processes) (t : Machine) (p : Name) (q : Process) (x : Stepping g s p q) (r : Related g s t) (coherent : Coherent s) (w : World)
    (same_store : w.store ≡ s.world.store) where
  abbrev F : Shape
  F = shape s.world.store

  abbrev store' : Store
  store' = without w.store p

  abbrev G : Shape
  G = shape store'

  abbrev lay : Layout g (Lives s.live) (IsWaiting s.live) r.first (size_in s.live) F
  lay = r.words.layout

  instances_same : (y : Name) → same y p ≡ false → instances store' y ≡ instances s.world.store y
  instances_same y n = instances-left w.store p y n ∙ ap (λ st. instances st y) same_store

  frames_same : (y : Name) → same y p ≡ false → SameAt F G y
  frames_same y n = ap frames (instances_same y n)

  gone : G p ≡ []
  gone = ap frames (instances-gone w.store p)

  -- whose instances live is not p
  other_of : (z : Spot) → IsLive G z → same z.0 p ≡ false
  other_of z l = go (same-or-other z.0 p)
    where
      go : (z.0 ≡ p) ⊎ (same z.0 p ≡ false) → same z.0 p ≡ false
      go (inl e) = let none : length (G z.0) ≡ 0 = ap (λ y. length (G y)) e ∙ ap length gone in absurd (omega (arith, l, none))
      go (inr n) = n

  was_live : (z : Spot) → IsLive G z → IsLive F z
  was_live z l = subst (λ fs. z.1 < length fs) (frames_same z.0 (other_of z l)) l

  -- nor is what another's instance may mean
  not_mine : (y z : Spot) → IsLive F z → same z.0 p ≡ false → Older y z → same y.0 p ≡ false
  not_mine y z l n (within e le) = ap (λ a. same a p) e ∙ n
  not_mine y z l n (above m o) = go (same-or-other y.0 p)
    where
      go : (y.0 ≡ p) ⊎ (same y.0 p ≡ false) → same y.0 p ≡ false
      go (inl e) = absurd (alone_now g.unit s p q x.found x.runs coherent z.0 (omega (arith, l)) n (subst (Owns z.0) e o))
      go (inr k) = k

  module _ (live : Table Process) (acts : Table Activity) (u : Machine) (sound : Sound acts)
      (placed : (y : Name) (z : Process) → find live y ≡ Some z → IsPlaced g r.first F t.memory acts y z × (same y p ≡ false))
      (still : (y : Name) → same y p ≡ false → Lives s.live y → Lives live y)
      (was : (y : Name) → Lives live y → Lives s.live y)
      (its : u.activities ≡ acts) (memory : u.memory ≡ t.memory) (same_names : names acts ≡ names live) (system : u.system ≡ w.system.now)
      (turns : u.turns ≡ w.turns) where
    where_now : (y : Name) (z : Process) → find live y ≡ Some z → (pc : ℕ) × (find acts y ≡ Some (activity g r.first G y z pc))
    where_now y z e =
        let h : IsPlaced g r.first F t.memory acts y z × (same y p ≡ false) = placed y z e in
        (h.0.pc, h.0.found ∙ ap (λ fs. Some (activity g r.first (λ _. fs) y z h.0.pc)) (sym (frames_same y h.1)))

    layout' : Layout g (Lives live) (IsWaiting live) r.first (size_in live) G
    layout' = record {
      segments = segments_of g live r.first G acts sound where_now;
      owner = λ z l. still z.0 (other_of z l) (lay.owner z (was_live z l));
      some = λ y l.
          let n : same y p ≡ false = (placed y l.process l.found).1 in
          subst (λ fs. 0 < length fs) (sym (frames_same y n)) (lay.some y (was y l));
      fine = λ z l.
          let n : same z.0 p ≡ false = other_of z l in
          let f : Fine g F z = lay.fine z (was_live z l) in
          fine_kept g F G z (frames_same z.0 n) (frames_same (frame_at F z).parent.0 (not_mine (frame_at F z).parent z (was_live z l) n f.older)) f;
    }

    cell_same : (z : Spot) (v : ℕ) → same z.0 p ≡ false → cell store' z v ≡ cell s.world.store z v
    cell_same z v n = ap (λ is. slice_index_or (cells_in is z.1) v no_cell) (instances_same z.0 n)

    both : (z : Spot) (v : ℕ) → IsLive G z → v < slots_of g (block_at g F z) →
        (cell_words g r.first G (cell s.world.store z v) ≡ cell_words g r.first F (cell s.world.store z v))
        × Holds g G z (heading_of g (block_at g F z) v) (slot_in g (block_at g F z) v) (cell s.world.store z v)
    both z v l k = words_kept g r.first F G z (heading_of g (block_at g F z) v) (slot_in g (block_at g F z) v) (cell s.world.store z v)
        (λ y m o. frames_same y.0 (not_mine y z (was_live z l) (other_of z l) o)) (r.words.typed.holds z v (was_live z l) k)

    mirrors' : Mirrors g r.first G store' t.memory
    mirrors' = record {
      link = λ z l.
          let n : same z.0 p ≡ false = other_of z l in
          let f : Fine g F z = lay.fine z (was_live z l) in
          let frame : frame_at G z ≡ frame_at F z = ap (λ fs. frame_of fs z.1) (frames_same z.0 n) in
          ap (word t.memory) (address_kept g r.first F G z (frames_same z.0 n)) ∙ r.words.mirrors.link z (was_live z l)
          ∙ sym (address_kept g r.first F G (frame_at F z).parent
          (frames_same (frame_at F z).parent.0 (not_mine (frame_at F z).parent z (was_live z l) n f.older)))
          ∙ sym (ap (λ y. address r.first G y.parent) frame);
      cells = λ z v l k.
          let n : same z.0 p ≡ false = other_of z l in
          let e : block_at g G z ≡ block_at g F z = block_kept g r.first F G z (frames_same z.0 n) in
          let k' : v < slots_of g (block_at g F z) = subst (λ b. v < slots_of g b) e k in
          (λ i. words_at t.memory (address_kept g r.first F G z (frames_same z.0 n) i + offset g (e i) v) (words_in g (slot_in g (e i) v)))
          ∙ r.words.mirrors.cells z v (was_live z l) k' ∙ sym (both z v l k').0 ∙ ap (cell_words g r.first G) (sym (cell_same z v n));
    }

    typed' : Typed g G store'
    typed' = record {
      count = λ z l.
          let n : same z.0 p ≡ false = other_of z l in
          ap (λ is. length (cells_in is z.1)) (instances_same z.0 n) ∙ r.words.typed.count z (was_live z l)
          ∙ sym (ap (slots_of g) (block_kept g r.first F G z (frames_same z.0 n)));
      holds = λ z v l k.
          let n : same z.0 p ≡ false = other_of z l in
          let e : block_at g G z ≡ block_at g F z = block_kept g r.first F G z (frames_same z.0 n) in
          let k' : v < slots_of g (block_at g F z) = subst (λ b. v < slots_of g b) e k in
          subst (λ b. Holds g G z (heading_of g b v) (slot_in g b v) (cell store' z v)) (sym e)
          (subst (Holds g G z (heading_of g (block_at g F z) v) (slot_in g (block_at g F z) v)) (sym (cell_same z v n)) (both z v l k').1);
    }

    pub gone_related : Related g (record { live = live; world = record w { store = store' } }) u
    unfolding where_now
    gone_related = record {
      first = r.first;
      words = subst (λ m. Words g r.first live store' m u.activities) (sym memory) (subst (Words g r.first live store' t.memory) (sym its) (record {
        layout = layout';
        mirrors = mirrors';
        typed = typed';
        long = r.words.long;
        each = λ y z e.
            let h : IsPlaced g r.first F t.memory acts y z × (same y p ≡ false) = placed y z e in
            record {
              pc = h.0.pc;
              found = (where_now y z e).1;
              at = subst (λ fs. IsAt g (is_first y) (r.first y) fs t.memory z.standing z.work h.0.pc (length fs - 1)) (sym (frames_same y h.1)) h.0.at;
            };
      }));
      same_names = ap names its ∙ same_names;
      system = system;
      turns = turns;
    }

-- ---- names that are left

abbrev names_but : Name → List Name → List Name
names_but p [] = []
names_but p (n ∷ ns) = if same p n then names_but p ns else n ∷ names_but p ns

names-without : {A : Type 0} (t : Table A) (p : Name) → names (without t p) ≡ names_but p (names t)
names-without [] p = refl
names-without (entry ∷ t) p = go (same p entry.0) (names-without t p)
  where
    go : (c : Bool) → names (without t p) ≡ names_but p (names t) → names (if c then without t p else entry ∷ without t p) ≡
        (if c then names_but p (names t) else entry.0 ∷ names_but p (names t))
    go true h = h
    go false h = ap (λ l. entry.0 ∷ l) h

-- ---- the parent

standing_awaits : (n : ℕ) → standing_of (source.awaits n) ≡ target.awaits n
standing_awaits zero = refl
standing_awaits (suc n) = refl

-- the work of a process that waits for one child less stands where it stood
awaits_at : (g : Coded) (lead : Bool) (from : ℕ) (fs : List _) (m : List ℕ) (n k : ℕ) (ws : List _) (pc d : ℕ) →
    IsAt g lead from fs m (source.waiting k) ws pc d → IsAt g lead from fs m (source.awaits n) ws pc d
awaits_at g lead from fs m zero k ws pc d h = h
awaits_at g lead from fs m (suc n) k ws pc d h = h

module _ (g : Coded) (w : World) (outer : ℕ → Type 0) (s : Processes) (t : Machine) (p : Name) (others marks : List Name) (k : Taken g s t p others marks)
    (out : Outside g t p outer) (q : Process) (x : Stepping g s p q)
    (h : Leaves g (scene g s t p q x k.related) s.world.store t.memory (taken_as g s t p q x k.related) w) (rested : q.standing ≡ source.ready) where
  abbrev r : Related g s t
  r = k.related

  abbrev c : Comes g.fetched (length t.activities) (is_first p) (Outer (scene g s t p q x r)) (taken_as g s t p q x r) turn.exiting h.end h.cleared
  c = h.comes_there

  abbrev a : Activity
  a = activity_here g s t p q x r

  abbrev b : Before g p others outer t s.world.system.past a c.at h.cleared
  b = before_here g s t p q x r others outer out c.at h.cleared c.gets

  abbrev par : Name
  par = parent_of p

  -- what is left of both sides
  abbrev live1 : Table Process
  live1 = without s.live p

  abbrev acts1 : Table Activity
  acts1 = without b.machine.activities p

  abbrev rest : Machine
  rest = record { memory = h.end.local.memory; activities = acts1; marks = []; turns = h.end.turns; system = h.end.system.now }

  here : step g b.machine p others ≡ target.notified rest par (find acts1 par)
  here = stepped g p others outer t s.world.system.past a c.at h.cleared b (turned turn.exiting (plain h.end)) c.is

  apart : (y : Name) (z : Process) → find live1 y ≡ Some z → same y p ≡ false
  apart y z e = go (same-or-other y p)
    where
      go : (y ≡ p) ⊎ (same y p ≡ false) → same y p ≡ false
      go (inl i) = let n : ◌≡◌ {A = Option Process} None (Some z) = sym (ap (find live1) i ∙ find-without-same s.live p) ∙ e in absurd (cc)
      go (inr n) = n

  acts_same : (y : Name) → same y p ≡ false → find acts1 y ≡ find t.activities y
  acts_same y n = ap (λ l. find l y) b.same_without ∙ find-without-other t.activities p y n

  placed1 : (y : Name) (z : Process) → find live1 y ≡ Some z → IsPlaced g r.first (shape s.world.store) t.memory acts1 y z × (same y p ≡ false)
  placed1 y z e =
      let n : same y p ≡ false = apart y z e in
      let o : IsPlaced g r.first (shape s.world.store) t.memory t.activities y z = r.words.each y z (sym (find-without-other s.live p y n) ∙ e) in
      (record { pc = o.pc; found = acts_same y n ∙ o.found; at = o.at }, n)

  still1 : (y : Name) → same y p ≡ false → Lives s.live y → Lives live1 y
  still1 y n l = record { process = l.process; found = find-without-other s.live p y n ∙ l.found }

  was1 : (y : Name) → Lives live1 y → Lives s.live y
  was1 y l = record { process = l.process; found = kept_without s.live p y l.process l.found }

  names1 : names acts1 ≡ names live1
  names1 = names-without b.machine.activities p ∙ ap (names_but p) (b.same_names ∙ r.same_names) ∙ sym (names-without s.live p)

  keeps_after : (acts : Table Activity) → Keeps g outer b.machine (record rest { activities = acts })
  keeps_after acts y o = c.keeps y (in_outer g s t p q x r others outer out y o) ∙ sym (words_there g p others outer t s.world.system.past a c.at h.cleared b y)

  hands_over : (state : Processes) (acts : Table Activity) (ps : List Name) → state.world.system ≡ w.system → Coherent state →
      Related g state (record rest { activities = acts }) → step g b.machine p others ≡ target.went (record rest { activities = acts }) (joins ps) →
      Switches g outer t s.world.system.past p others [] state ps
  hands_over state acts ps of_world coherent related is = record {
    steps = b.steps;
    before = b.machine;
    since = c.at.system.past;
    passes = b.passes;
    machine = record rest { activities = acts };
    is = is;
    adds = ap (λ (y : Traced). y.past) (of_world ∙ sym h.system) ∙ adds_there g p others outer t s.world.system.past a c.at h.cleared b h.end c.adds;
    keeps = keeps_after acts;
    related = related;
    kept = record { coherent = coherent; sound = sound_after acts ps is };
    same_marks = refl;
    fails = fails_there g p others outer t s.world.system.past a c.at h.cleared b (turned turn.exiting (plain h.end)) c.is
        ∙ sym (ap is_some (ready_spot g s t p q x r rested));
    spots = not_again g s t p q x r rested _;
  }
    where
      sound_after : (acts : Table Activity) (ps : List Name) → step g b.machine p others ≡ target.went (record rest { activities = acts }) (joins ps) →
          Sound acts
      sound_after acts ps is = step_after_sound g outer b.steps t s.world.system.past p others b.machine c.at.system.past
          (record rest { activities = acts }) (joins ps) b.passes is k.kept.sound (may_go_on g outer s t p others marks k out q x)

  -- nobody waits for p: it is the first of all
  first_leaves : find live1 par ≡ None → find acts1 par ≡ None → After Coherent (kernel g.unit s p q (gives leaves w)) →
      Lands g outer t s.world.system.past p others marks (kernel g.unit s p q (gives leaves w))
  first_leaves e f coherent =
      let is : step g b.machine p others ≡ target.went rest (joins []) = here ∙ ap (target.notified rest par) f in
      let sound : Sound acts1 = step_after_sound g outer b.steps t s.world.system.past p others b.machine c.at.system.past rest
      (joins []) b.passes is k.kept.sound (may_go_on g outer s t p others marks k out q x) in
      let coherent' : Coherent (rest_of s p w) = subst (λ o. After Coherent (source.notified (rest_of s p w) par o)) e coherent in
      subst (λ o. Lands g outer t s.world.system.past p others marks (source.notified (rest_of s p w) par o)) (sym e)
      (hands_over (rest_of s p w) acts1 [] refl coherent'
      (gone_related g s t p q x r k.kept.coherent w h.store_is live1 acts1 rest sound placed1 still1 was1 refl h.memory names1
      (ap (λ (y : Traced). y.now) h.system) h.turns) is)

  -- the parent waits for one child less
  module _ (v : IsWaiting s.live par) (n : same par p ≡ false) where
    abbrev less : ℕ
    less = v.number - 1

    abbrev y' : Process
    y' = record v.process { standing = source.awaits less }

    abbrev old : IsPlaced g r.first (shape s.world.store) t.memory t.activities par v.process
    old = r.words.each par v.process v.found

    abbrev a1 : Activity
    a1 = activity g r.first (shape s.world.store) par v.process old.pc

    abbrev a2 : Activity
    a2 = record a1 { standing = target.awaits less }

    abbrev live2 : Table Process
    live2 = with_at live1 par y'

    abbrev acts2 : Table Activity
    acts2 = with_at acts1 par a2

    found1 : find live1 par ≡ Some v.process
    found1 = find-without-other s.live p par n ∙ v.found

    act1 : find acts1 par ≡ Some a1
    act1 = acts_same par n ∙ old.found

    standing1 : a1.standing ≡ target.waiting v.number
    standing1 = ap standing_of v.standing

    is_told : target.notified rest par (find acts1 par) ≡ target.went (record rest { activities = acts2 }) (freed less par)
    is_told = ap (target.notified rest par) act1 ∙ ap (target.one_less rest par a1) standing1

    source_told : source.notified (rest_of s p w) par (find live1 par) ≡ source.went (record (rest_of s p w) { live = live2 }) (freed less par) false
    source_told = ap (source.notified (rest_of s p w) par) found1 ∙ ap (source.one_less (rest_of s p w) par v.process) v.standing

    placed2 : (y : Name) (z : Process) → find live2 y ≡ Some z → IsPlaced g r.first (shape s.world.store) t.memory acts2 y z × (same y p ≡ false)
    placed2 y z e = go (same-or-other y par)
      where
        go : (y ≡ par) ⊎ (same y par ≡ false) → IsPlaced g r.first (shape s.world.store) t.memory acts2 y z × (same y p ≡ false)
        go (inr m) =
            let h : IsPlaced g r.first (shape s.world.store) t.memory acts1 y z × (same y p ≡ false) =
            placed1 y z (sym (find-with_at-other live1 par y y' m) ∙ e) in
            (record { pc = h.0.pc; found = find-with_at-other acts1 par y a2 m ∙ h.0.found; at = h.0.at }, h.1)
        go (inl i) =
            let one : y' ≡ z = some_is (sym (find-with_at-same live1 par y') ∙ sym (ap (find live2) i) ∙ e) in
            subst (λ u. IsPlaced g r.first (shape s.world.store) t.memory acts2 u z × (same u p ≡ false)) (sym i)
            (subst (λ u. IsPlaced g r.first (shape s.world.store) t.memory acts2 par u × (same par p ≡ false)) one (
              record {
                pc = old.pc;
                found = find-with_at-same acts1 par a2 ∙ ap (λ (u : Activity). Some u) (λ j. record a1 { standing = sym (standing_awaits less) j });
                at = awaits_at g (is_first par) (r.first par) (shape s.world.store par) t.memory less v.number v.process.work old.pc
                    (length (shape s.world.store par) - 1)
                    (subst (λ st. IsAt g (is_first par) (r.first par) (shape s.world.store par) t.memory st v.process.work old.pc
                    (length (shape s.world.store par) - 1)) v.standing old.at);
              },
              n,
            ))

    still2 : (y : Name) → same y p ≡ false → Lives s.live y → Lives live2 y
    still2 y m l = go (same-or-other y par)
      where
        go : (y ≡ par) ⊎ (same y par ≡ false) → Lives live2 y
        go (inl i) = subst (Lives live2) (sym i) (record { process = y'; found = find-with_at-same live1 par y' })
        go (inr o) = let h : Lives live1 y = still1 y m l in record { process = h.process; found = find-with_at-other live1 par y y' o ∙ h.found }

    was2 : (y : Name) → Lives live2 y → Lives s.live y
    was2 y l = go (same-or-other y par)
      where
        go : (y ≡ par) ⊎ (same y par ≡ false) → Lives s.live y
        go (inl i) = subst (Lives s.live) (sym i) (record { process = v.process; found = v.found })
        go (inr o) = was1 y (record { process = l.process; found = sym (find-with_at-other live1 par y y' o) ∙ l.found })

    names2 : names acts2 ≡ names live2
    names2 = names-with_at acts1 par a2 a1 act1 ∙ names1 ∙ sym (names-with_at live1 par y' v.process found1)

    abbrev state2 : Processes
    state2 = record (rest_of s p w) { live = live2 }

    handed : (ps : List Name) → Coherent state2 → step g b.machine p others ≡ target.went (record rest { activities = acts2 }) (joins ps) →
        Switches g outer t s.world.system.past p others [] state2 ps
    handed ps coherent is =
        let sound : Sound acts2 = step_after_sound g outer b.steps t s.world.system.past p others b.machine c.at.system.past
        (record rest { activities = acts2 }) (joins ps) b.passes is k.kept.sound (may_go_on g outer s t p others marks k out q x) in
        hands_over state2 acts2 ps refl coherent
        (gone_related g s t p q x r k.kept.coherent w h.store_is live2 acts2
        (record rest { activities = acts2 }) sound placed2 still2 was2 refl h.memory names2 (ap (λ (y : Traced). y.now) h.system) h.turns) is

    lands_freed : (m : ℕ) → Coherent state2 → step g b.machine p others ≡ target.went (record rest { activities = acts2 }) (freed m par) →
        LandsNext g outer t s.world.system.past p others [] state2 (freed m par)
    lands_freed zero coherent is = handed (par ∷ []) coherent is
    lands_freed (suc m) coherent is = handed [] coherent is

    child_leaves : After Coherent (kernel g.unit s p q (gives leaves w)) → Lands g outer t s.world.system.past p others marks
        (kernel g.unit s p q (gives leaves w))
    child_leaves coherent =
        subst (Lands g outer t s.world.system.past p others marks) (sym source_told)
        (lands_freed less (subst (After Coherent) source_told coherent) (here ∙ is_told))

pub leave_claim : (g : Coded) → LeaveClaim g
leave_claim g w outer s t p others marks k out q x of coherent h = go (k.kept.coherent.family.family.parents p q x.found)
  where
    rested : q.standing ≡ source.ready
    rested = was_ready g.unit p q.size q.work s.world q.standing (gives leaves w) of x.runs (λ c o n. n)

    go : (p ≡ []) ⊎ IsWaiting s.live (parent_of p) → Lands g outer t s.world.system.past p others marks (kernel g.unit s p q (gives leaves w))
    go (inr v) = child_leaves g w outer s t p others marks k out q x h rested v (other (same-or-other (parent_of p) p)) coherent
      where
        other : (parent_of p ≡ p) ⊎ (same (parent_of p) p ≡ false) → same (parent_of p) p ≡ false
        other (inl e) = absurd (x.free (subst (IsWaiting s.live) e v))
        other (inr n) = n
    go (inl e) =
        let own : parent_of p ≡ p = ap parent_of e ∙ sym e in
        first_leaves g w outer s t p others marks k out q x h rested
        (ap (find (without s.live p)) own ∙ find-without-same s.live p)
        (ap (find (acts1 g w outer s t p others marks k out q x h rested)) own ∙ find-without-same
        (b g w outer s t p others marks k out q x h rested).machine.activities p) coherent
