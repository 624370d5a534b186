-- A fork: the limits, the turn, and all children, on both sides.
use Rattle.std.proofs.Common.{◌≡◌, ℕ, zero, suc, ◌+◌, ◌-◌, ◌/◌, ◌≤◌, ◌⊎◌, inl, inr, Bool, true, false, ◌||◌, if◌then◌else◌, List, [], ◌∷◌, ◌++◌, length}
use Rattle.std.proofs.Common.{Some, None, refl, sym, ap, ◌∙◌, arith}
use Rattle.std.specs.Prelude.{nat_lt, All, is_some}
use Rattle.std.specs.List.{list_any}
use Rattle.std.proofs.lemmas.Bool.{ltb-false}
use Rattle.std.proofs.Math.Nat.{mul-div-le}
use Rattle.edi_calls.specs.declared.kinds.Cause.TheVariants as cause
use Rattle.edi_calls.specs.Names.{Name, same, find, with_at}
use Rattle.edi_calls.specs.Forks.{most_processes, equal_share}
use Rattle.edi_calls.specs.Outcome as outcome
use Rattle.edi_calls.specs.Ready.{child, children, joins}
use Rattle.edi_calls.proofs.Tables.{same-or-other, same-symmetric, find-with_at-same, find-with_at-other}
use Rattle.edi_calls.specs.State.{Traced}
use Rattle.edi_unit.specs.Tree.{ProgramUnit}
use Rattle.edi_unit.specs.Fits.{BranchFits}
use Rattle.edi_meaning.specs.Store.{Spot, Shape, instances, frames, shape, frame_at, now, used, room, IsLive}
use Rattle.edi_meaning.specs.Evaluation.{World, gives}
use Rattle.edi_meaning.specs.Step as source
use Rattle.edi_meaning.specs.Step.{Process, Processes, Work, ready, Asks, forks, kernel, fork_taken}
use Rattle.edi_meaning.specs.Laws.{IsWaiting}
use Rattle.edi_meaning.proofs.Kernel.{After}
use Rattle.edi_meaning.proofs.Dangling.{Coherent}
use Rattle.edi_meaning.proofs.Family.{free_name, free_next}
use Rattle.edi_meaning.proofs.Parents.{child_differs, names-with_at}
use Rattle.edi_meaning.proofs.Private.{none_before, no_frames}
use Rattle.edi_target.specs.Effect as turn
use Rattle.edi_target.specs.Effect.{Local, Effect, fails, due}
use Rattle.edi_target.specs.Perform as perform
use Rattle.edi_target.specs.Mach as target
use Rattle.edi_target.specs.Mach.{Machine, Running, Activity, is_first, turned, over, local_step, effect_at, settled}
use Rattle.edi_target.specs.Moments.{news_of_effect, news_at}
use Rattle.edi_target.proofs.segments.Families.{Sound}
use Rattle.edi_follows.specs.places.Coded.{Coded, block}
use Rattle.edi_follows.specs.places.Spots.{address, frames_end, block_at, Layout}
use Rattle.edi_follows.specs.places.Walks.{Walker, plain, Adds}
use Rattle.edi_follows.specs.places.Follows.{Stretch, Forks, resting, branches_of}
use Rattle.edi_follows.specs.places.Related.{Lives, size_in, activity, Related}
use Rattle.edi_follows.specs.places.Lands.{step, Keeps, Switches, EndsSo, Lands, Taken, Outside, Stepping, scene, taken_as, ForkClaim}
use Rattle.edi_follows.proofs.kernel.Lifting.{length-names, Before}
use Rattle.edi_follows.proofs.places.Places.{tail_free, start_within}
use Rattle.edi_follows.proofs.places.Doing.{stretch_turned}
use Rattle.edi_follows.proofs.kernel.Kernels.{activity_here, size_here, in_outer, before_here, stepped, words_there, adds_there, step_after_sound, fails_there}
use Rattle.edi_follows.proofs.kernel.Attempted.{was_ready, ready_spot, not_again}
use Rattle.edi_follows.proofs.kernel.Settled.{Written, related_on}
use Rattle.edi_follows.proofs.kernel.Going.{may_go_on, theirs}
use Rattle.edi_follows.proofs.kernel.Forking.{Stage}
use Rattle.edi_follows.proofs.kernel.Children.{Fit, AreSmall, HaveRoom, rooms, children_stage, stage_related, children_word, children_marks}

-- ---- the limits are the same

branches_length : (g : Coded) (bs : List ℕ) → length (branches_of g bs) ≡ length bs
branches_length g [] = refl
branches_length g (n ∷ bs) = ap suc (branches_length g bs)

any_same : (g : Coded) (share : ℕ) (bs : List ℕ) → list_any (perform.exceeds share) (branches_of g bs) ≡ list_any (source.exceeds g.unit share) bs
any_same g share [] = refl
any_same g share (n ∷ bs) = ap (λ b. nat_lt share (block g n).need || b) (any_same g share bs)

none_exceeds : (g : Coded) (share : ℕ) (bs : List ℕ) → list_any (source.exceeds g.unit share) bs ≡ false → AreSmall g share bs
none_exceeds g share [] e = tt
none_exceeds g share (n ∷ bs) e =
    let both : (nat_lt share (block g n).need ≡ false) × (list_any (source.exceeds g.unit share) bs ≡ false) = or_parts (nat_lt share (block g n).need) _ e in
    (ltb-false share (block g n).need both.0, none_exceeds g share bs both.1)
  where
    or_parts : (a b : Bool) → (a || b) ≡ false → (a ≡ false) × (b ≡ false)
    or_parts true b e = absurd (cc)
    or_parts false b e = (refl, e)

-- a fork leaves the system
system_of_children : (unit : ProgramUnit) (p : Name) (f i share : ℕ) (parent : Spot) (bs : List ℕ) (s : Processes) →
    (source.with_children unit p f i share parent bs s).world.system ≡ s.world.system
system_of_children unit p f i share parent [] s = refl
system_of_children unit p f i share parent (b ∷ bs) s = system_of_children unit p f (suc i) share parent bs
    (source.with_child unit (child p f i) share parent b s)

fit_all : (g : Coded) (b : ℕ) (bs : List ℕ) → All (BranchFits g.unit.types g.unit.blocks g.fits.headings b) bs → Fit g b bs
fit_all g b [] h = tt
fit_all g b (n ∷ bs) h = (h 0 n (omega arith), fit_all g b bs (λ k d l. h (suc k) d (omega (arith, l))))

module _ (g : Coded) (bs : List ℕ) (line : ℕ) (ws : List Work) (w : World) (outer : ℕ → Type 0) (s : Processes) (t : Machine) (p : Name)
    (others marks : List Name) (k : Taken g s t p others marks) (out : Outside g t p outer) (q : Process) (x : Stepping g s p q)
    (h : Forks g (scene g s t p q x k.related) s.world.store t.memory (taken_as g s t p q x k.related) bs line ws w) (rested : q.standing ≡ ready) where
  abbrev r : Related g s t
  r = k.related

  abbrev a : Activity
  a = activity_here g s t p q x r

  abbrev F : Shape
  F = shape s.world.store

  abbrev G : Shape
  G = shape w.store

  abbrev at : Walker
  at = resting g (scene g s t p q x r) w h.memory h.pc

  abbrev b : Before g p others outer t s.world.system.past a at h.cleared
  b = before_here g s t p q x r others outer out at h.cleared h.gets_there

  abbrev share : ℕ
  share = equal_share (room q.size (G p)) (length bs)

  abbrev shareT : ℕ
  shareT = perform.share_of at.local (length (branches_of g bs))

  abbrev next_local : Local
  next_local = record at.local { pc = h.next }

  -- what the machine and the meaning do, as the two limits say
  abbrev effect : Bool → Bool → Effect
  effect v1 v2 = if v1 then fails cause.ProcessLimit line else if v2 then fails cause.VariableLimit line else due (turn.forking (branches_of g bs)) next_local

  abbrev meant : Bool → Bool → source.Stepped
  meant v1 v2 =
      if v1 then source.ended (outcome.failed cause.ProcessLimit line) w.system w.turns
      else if v2 then source.ended (outcome.failed cause.VariableLimit line) w.system w.turns
      else fork_taken g.unit s p q bs ws w w.turns share

  abbrev over1 : Bool
  over1 = nat_lt most_processes (length s.live + length bs)

  abbrev over2 : Bool
  over2 = list_any (source.exceeds g.unit share) bs

  same_share : shareT ≡ share
  same_share =
      let num : (r.first p + size_in s.live p) - (r.first p + used (G p)) ≡ q.size - used (G p) = omega (arith, size_here g s t p q x r) in
      (λ i. num i / branches_length g bs i)

  same_live : length t.activities ≡ length s.live
  same_live = sym (length-names t.activities) ∙ ap length r.same_names ∙ length-names s.live

  effect_is : effect_at g.fetched (g.fetched h.pc) (length t.activities) (is_first p) at.local ≡ effect over1 over2
  effect_is =
      ap (λ o. effect_at g.fetched o (length t.activities) (is_first p) at.local) h.stands
      ∙ (λ i. effect (nat_lt most_processes (same_live i + branches_length g bs i)) (list_any (perform.exceeds (same_share i)) (branches_of g bs)))
      ∙ (λ i. effect over1 (any_same g share bs i))

  step_is : local_step g.fetched (length t.activities) (is_first p) (plain at) ≡ settled (effect over1 over2) (plain at)
  step_is = ap (λ e. settled e (plain at)) effect_is

  -- a fork calls no system
  adds : Adds g.fetched (length t.activities) (is_first p) outer at at
  adds = sym (ap (λ e. news_of_effect e w.system.now ++ w.system.past) effect_is ∙ none over1 over2)
    where
      none : (v1 v2 : Bool) → news_of_effect (effect v1 v2) w.system.now ++ w.system.past ≡ w.system.past
      none true v2 = refl
      none false true = refl
      none false false = refl

  adds_after : w.system.past ≡ news_at g.fetched b.machine p ++ at.system.past
  adds_after = adds_there g p others outer t s.world.system.past a at h.cleared b at adds

  ends_over : (ending : outcome.Ending) → local_step g.fetched (length t.activities) (is_first p) (plain at) ≡ over ending (plain at) →
      EndsSo g outer t s.world.system.past p others ending w.system w.turns
  ends_over ending e = record {
    steps = b.steps;
    before = b.machine;
    since = at.system.past;
    passes = b.passes;
    machine = target.back b.machine p b.now b.machine.marks (plain at);
    is = stepped g p others outer t s.world.system.past a at h.cleared b (over ending (plain at)) e;
    adds = adds_after;
    keeps = λ y o. sym (words_there g p others outer t s.world.system.past a at h.cleared b y);
    system_is = refl;
    turns_are = refl;
  }

  module _ (n : ℕ) (small : over2 ≡ false)
      (e : local_step g.fetched (length t.activities) (is_first p) (plain at) ≡ turned (turn.forking (branches_of g bs))
      (record (plain at) { local = next_local; turns = n })) where
    abbrev f : ℕ
    f = suc q.forks

    abbrev w' : World
    w' = record w { turns = n }

    abbrev q' : Process
    q' = record q { forks = f; work = ws; standing = source.waiting (length bs) }

    abbrev end : Running
    end = record (plain at) { local = next_local; turns = n }

    abbrev parent : Spot
    parent = now G p

    abbrev base : ℕ
    base = address r.first G parent

    abbrev from : ℕ
    from = frames_end r.first G p

    abbrev limit : ℕ
    limit = r.first p + size_in s.live p

    abbrev t0 : Machine
    t0 = target.back b.machine p (target.activity_of next_local f (target.waiting (length bs))) [] end

    abbrev s0 : Processes
    s0 = source.back s p q' w'

    stretch' : Stretch g (scene g s t p q x r) s.world.store w' t.memory h.memory
    stretch' = stretch_turned g (scene g s t p q x r) s.world.store w t.memory h.memory n h.stretch

    mine : target.activity_of next_local f (target.waiting (length bs)) ≡ activity g r.first G p q' h.next
    mine = λ i. record (target.activity_of next_local f (target.waiting (length bs))) { last = r.first p + size_here g s t p q x r i }

    written : Written g s t p q x r k.kept.coherent w' h.memory stretch' q' refl t0 h.next
    written = record {
      memory = refl;
      mine = find-with_at-same b.machine.activities p _ ∙ ap (λ (z : Activity). Some z) mine;
      theirs = λ y m. find-with_at-other b.machine.activities p y _ m ∙ theirs g outer s t p others marks k out q x at h.cleared b y m;
      same_names = names-with_at b.machine.activities p _ b.now b.found ∙ b.same_names;
      system = refl;
      turns = refl;
    }

    abbrev r0 : Related g s0 t0
    r0 = related_on g s t p q x r k.kept.coherent w' h.memory stretch' q' refl t0 h.next written h.at

    abbrev l0 : Layout g (Lives s0.live) (IsWaiting s0.live) r.first (size_in s0.live) G
    l0 = r0.words.layout

    abbrev lay : Layout g (Lives s.live) (IsWaiting s.live) r.first (size_in s.live) F
    lay = r.words.layout

    was : (y : Name) → same y p ≡ false → Lives s0.live y → Lives s.live y
    was y m l = record { process = l.process; found = sym (find-with_at-other s.live p y q' m) ∙ l.found }

    clear : (z : Spot) → IsLive G z → (address r.first G z + (frame_at G z).need ≤ from) ⊎ (limit ≤ address r.first G z)
    clear z l = go (same-or-other z.0 p)
      where
        go : (z.0 ≡ p) ⊎ (same z.0 p ≡ false) → (address r.first G z + (frame_at G z).need ≤ from) ⊎ (limit ≤ address r.first G z)
        go (inl i) =
            let ends : r.first z.0 + used (G z.0) ≡ from = ap (λ y. r.first y + used (G y)) i in
            inl (omega (arith, start_within (G z.0) z.1 l, ends))
        go (inr m) = elim (tail_free (Lives s.live) (IsWaiting s.live) r.first (size_in s.live) (λ y. used (F y)) lay.segments p z.0 x.free
            (record { process = q; found = x.found }) (was z.0 m (l0.owner z l)) (same-symmetric z.0 p m)) [
              | inl y ↦ inr (omega (arith, y))
              | inr y ↦ let same_used : used (G z.0) ≡ used (F z.0) = ap used (h.stretch.others z.0 m) in
                  inl (omega (arith, y, same_used, start_within (G z.0) z.1 l))
            ]

    bare : (j : ℕ) → instances w.store (child p f j) ≡ []
    bare j =
        let none : find s.live (child p f j) ≡ None =
        none_before s.live p q' (child p f j)
        (free_name (with_at s.live p q') p f 0 j (omega arith) (free_next s.live p q q' x.found k.kept.coherent.family.proper.fresh)) in
        no_frames (instances w.store (child p f j))
        (h.stretch.others (child p f j) (child_differs p f j) ∙ ap frames (k.kept.coherent.family.proper.bare (child p f j) none))

    stage : Stage g p f limit parent r.first 0 from base s0 t0
    stage = record {
      mirrors = r0.words.mirrors;
      typed = r0.words.typed;
      fine = l0.fine;
      owner = l0.owner;
      some = l0.some;
      long = r0.words.long;
      each = r0.words.each;
      same_names = r0.same_names;
      system = r0.system;
      turns = r0.turns;
      clear = clear;
      fits = lay.segments.within p (record { process = q; found = x.found });
      in_memory = λ z l. omega (arith, r0.words.long, start_within (G z.0) z.1 l, l0.segments.own z.0 (l0.owner z l), l0.segments.within z.0 (l0.owner z l));
      bare = λ j le. bare j;
      parent_lives = omega (arith, h.stretch.some);
      parent_is = refl;
      based = refl;
    }

    abbrev after : Machine
    after = target.with_children p f 0 base from share (branches_of g bs) t0

    all : (first' : Name → ℕ) × (j : ℕ) × (to : ℕ) × Stage g p f limit parent first' j to base (source.with_children g.unit p f 0 share parent bs s0) after
    all =
        children_stage g p f limit share base parent (block_at g G parent) bs r.first 0 from s0 t0 stage refl (fit_all g (block_at g G parent) bs h.fit)
        (none_exceeds g share bs small)
        (rooms share limit bs from (omega (arith, mul-div-le (q.size - used (G p)) (length bs), size_here g s t p q x r, h.stretch.room)))

    is : step g b.machine p others ≡ target.went after (joins (children p f 0 (length bs)))
    is =
        stepped g p others outer t s.world.system.past a at h.cleared b (turned (turn.forking (branches_of g bs)) end) e
        ∙ (λ i. target.went (target.with_children p (suc (b.forks i)) 0 base from (same_share i) (branches_of g bs)
        (target.back b.machine p (target.activity_of next_local (suc (b.forks i)) (target.waiting (branches_length g bs i))) [] end))
        (joins (children p (suc (b.forks i)) 0 (branches_length g bs i))))

    have_room : HaveRoom share limit from bs
    have_room = rooms share limit bs from (omega (arith, mul-div-le (q.size - used (G p)) (length bs), size_here g s t p q x r, h.stretch.room))

    keeps_after : Keeps g outer b.machine after
    keeps_after y o =
        let own = (in_outer g s t p q x r others outer out y o).0 in
        children_word g p f base share limit (block_at g G parent) bs 0 from t0 y (fit_all g (block_at g G parent) bs h.fit)
        (none_exceeds g share bs small) have_room
        (omega (arith, r0.words.long, lay.segments.within p (record { process = q; found = x.found })))
        (elim own [ inl l ↦ inl (omega (arith, l)) | inr l ↦ inr l ])
        ∙ sym (words_there g p others outer t s.world.system.past a at h.cleared b y)

    past_is : (source.with_children g.unit p f 0 share parent bs s0).world.system.past ≡ news_at g.fetched b.machine p ++ at.system.past
    past_is = ap (λ (y : Traced). y.past) (system_of_children g.unit p f 0 share parent bs s0) ∙ adds_after

    forked : After Coherent (fork_taken g.unit s p q bs ws w (suc n) share) → Switches g outer t s.world.system.past p others []
        (source.with_children g.unit p f 0 share parent bs s0) (children p f 0 (length bs))
    forked coherent =
        let sound : Sound after.activities = step_after_sound g outer b.steps t s.world.system.past p others b.machine at.system.past after
        (joins (children p f 0 (length bs))) b.passes is k.kept.sound (may_go_on g outer s t p others marks k out q x) in
        record {
          steps = b.steps;
          before = b.machine;
          since = at.system.past;
          passes = b.passes;
          machine = after;
          is = is;
          adds = past_is;
          keeps = keeps_after;
          related = stage_related g p f limit base parent all.0 all.1 all.2 (source.with_children g.unit p f 0 share parent bs s0) after all.3 sound;
          kept = record { coherent = coherent; sound = sound };
          same_marks = children_marks p f 0 base from share (branches_of g bs) t0;
          fails = fails_there g p others outer t s.world.system.past a at h.cleared b (turned (turn.forking (branches_of g bs)) end) e
              ∙ sym (ap is_some (ready_spot g s t p q x r rested));
          spots = not_again g s t p q x r rested _;
        }

  -- the turn
  taken : (m : ℕ) → w.turns ≡ m → over2 ≡ false → local_step g.fetched (length t.activities) (is_first p) (plain at) ≡ target.turn_from m
      (turn.forking (branches_of g bs)) next_local (plain at) → After Coherent (fork_taken g.unit s p q bs ws w m share) →
      Lands g outer t s.world.system.past p others marks (fork_taken g.unit s p q bs ws w m share)
  taken zero e small f coherent = ends_over outcome.turns f
  taken (suc n) e small f coherent = forked n small f coherent

  limits : (v1 v2 : Bool) → over2 ≡ v2 → local_step g.fetched (length t.activities) (is_first p) (plain at) ≡ settled (effect v1 v2) (plain at) →
      After Coherent (meant v1 v2) → Lands g outer t s.world.system.past p others marks (meant v1 v2)
  limits true v2 small e coherent = ends_over (outcome.failed cause.ProcessLimit line) e
  limits false true small e coherent = ends_over (outcome.failed cause.VariableLimit line) e
  limits false false small e coherent = taken w.turns refl small e coherent

pub fork_claim : (g : Coded) → ForkClaim g
fork_claim g bs line ws w outer s t p others marks k out q x of coherent h =
    let rested : q.standing ≡ ready =
    was_ready g.unit p q.size q.work s.world q.standing (gives (forks bs line ws) w) of x.runs (λ c o n. n) in
    limits g bs line ws w outer s t p others marks k out q x h rested (over1 g bs line ws w outer s t p others marks k out q x h rested)
    (over2 g bs line ws w outer s t p others marks k out q x h rested) refl (step_is g bs line ws w outer s t p others marks k out q x h rested) coherent
