-- A process that goes on, that arrives at its `when`, or that stands there again: the kernels agree.
use Rattle.std.proofs.Common.{◌≡◌, ℕ, ◌+◌, ◌-◌, ◌⊎◌, inl, inr, Bool, true, false, if◌then◌else◌, List, [], ◌∷◌, ◌++◌, length, length-append, Some, refl, sym}
use Rattle.std.proofs.Common.{subst, ap, ◌∙◌, arith}
use Rattle.std.specs.Prelude.{unwrap_or, is_some}
use Rattle.edi_calls.specs.Names.{Name, same, find}
use Rattle.edi_calls.specs.Outcome as outcome
use Rattle.edi_calls.specs.Ready.{joins, all_marked}
use Rattle.edi_calls.proofs.Tables.{same-or-other, find-with_at-same, find-with_at-other}
use Rattle.edi_unit.specs.Tree.{Clauses}
use Rattle.edi_meaning.specs.Store.{shape}
use Rattle.edi_meaning.specs.Evaluation.{World, Evaluation, gives}
use Rattle.edi_meaning.specs.Step as source
use Rattle.edi_meaning.specs.Step.{Process, Processes, Position, Work, Asks, goes, arrives, again, ready, at_when, waiting, local_step}
use Rattle.edi_meaning.specs.Permitted.{is_running}
use Rattle.edi_meaning.specs.Step.{work_step, kernel}
use Rattle.edi_meaning.proofs.Kernel.{After}
use Rattle.edi_meaning.proofs.Dangling.{Coherent}
use Rattle.edi_calls.proofs.Names.{some_is}
use Rattle.edi_meaning.proofs.Parents.{names-with_at}
use Rattle.edi_meaning.proofs.Standstill.{Unmarked, work_unmarked}
use Rattle.edi_target.specs.Effect as turn
use Rattle.edi_target.specs.Mach as target
use Rattle.edi_target.specs.Mach.{Machine, Running, Activity, running_of, activity_of, held_at, is_first, turned, OwnWords, IsAncestor}
use Rattle.edi_target.specs.Attempts.{is_failed_turn}
use Rattle.edi_target.specs.Moments.{news_at}
use Rattle.edi_target.specs.segments.Nested.{MayGoOn}
use Rattle.edi_follows.specs.places.Coded.{Coded}
use Rattle.edi_follows.specs.places.Walks.{Walker, plain, Comes}
use Rattle.edi_follows.specs.places.Scene.{Outer}
use Rattle.edi_follows.specs.places.Follows.{GoesOn, Waits, resting}
use Rattle.edi_follows.specs.places.Related.{no_process, standing_of, activity, Related, MarksAgree}
use Rattle.edi_follows.specs.places.Lands.{step, spot_of, Keeps, Switches, LandsTested, Lands, Taken, Outside, Stepping, scene, taken_as, GoesClaim}
use Rattle.edi_follows.specs.places.Lands.{ArrivesClaim, AgainClaim}
use Rattle.edi_follows.proofs.kernel.Lifting.{marks_after, Before}
use Rattle.edi_follows.proofs.kernel.Kernels.{activity_here, found_here, size_here, in_outer, before_here, stepped, words_there, adds_there, passes_sound}
use Rattle.edi_follows.proofs.kernel.Kernels.{step_after_sound, fails_there}
use Rattle.edi_follows.proofs.kernel.Attempted.{was_ready, stood_there, ready_spot, not_again, when_spot, same_spot}
use Rattle.edi_follows.proofs.kernel.Settled.{process_same, Written, related_on}

-- ---- the activity of p

-- who does not wait may go on
not_waiting : (st : source.Standing) (n : ℕ) → is_running st ≡ true → standing_of st ≡ target.waiting n → ⊥
not_waiting ready n h e = cc
not_waiting (at_when cs position) n h e = cc
not_waiting (waiting k) n h e = cc

-- outside critical phases p is ready
ready_now : (t : Machine) (a : Activity) (at : Running) (st : source.Standing) → is_running st ≡ true → a.standing ≡ standing_of st → running_of t a ≡ at →
    at.local.held ≡ 0 → a ≡ activity_of at.local a.forks target.ready
ready_now t a at ready h e f g =
    (λ i. record a { held = sym (ap (λ y. held_at y a.held) e) i; standing = e i }) ∙ ap (λ (r : Running). activity_of r.local a.forks target.ready) f
ready_now t a at (at_when cs position) h e f g =
    let one : ◌≡◌ {A = ℕ} 1 0 = sym (ap (λ y. held_at y a.held) e) ∙ ap (λ (r : Running). r.local.held) f ∙ g in absurd (omega (arith, one))
ready_now t a at (waiting n) h e f g = absurd (cc)

ancestor_other : (y p : Name) → IsAncestor y p → same y p ≡ false
ancestor_other y p i = go (same-or-other y p)
  where
    go : (y ≡ p) ⊎ (same y p ≡ false) → same y p ≡ false
    go (inl e) = let l : length y ≡ length p = ap length e in absurd (omega (arith, l, ap length i.2, length-append y i.0, i.1))
    go (inr n) = n

module _ (g : Coded) (outer : ℕ → Type 0) (s : Processes) (t : Machine) (p : Name) (others marks : List Name) (k : Taken g s t p others marks)
    (out : Outside g t p outer) (q : Process) (x : Stepping g s p q) where
  abbrev r : Related g s t
  r = k.related

  abbrev a : Activity
  a = activity_here g s t p q x r

  pub may_go_on : MayGoOn t p
  may_go_on = record { activity = a; lives = found_here g s t p q x r; free = λ n e. not_waiting q.standing n x.runs e }

  -- the others are as they were
  pub theirs : (at : Walker) (cleared : Bool) (b : Before g p others outer t s.world.system.past a at cleared) (y : Name) → same y p ≡ false →
      find b.machine.activities y ≡ find t.activities y
  theirs at cleared b y n = sym (find-with_at-other b.machine.activities p y a n) ∙ ap (λ l. find l y) (b.same_with a) ∙ find-with_at-other t.activities p y a n

  -- the words of p are still those
  own_still : (at : Walker) (cleared : Bool) (b : Before g p others outer t s.world.system.past a at cleared) → at.local.first ≡ a.first →
      at.local.last ≡ a.last → (c : ℕ) → OwnWords b.machine p c → OwnWords t p c
  own_still at cleared b f l c (inl h) =
      let one : b.now ≡ h.0 = some_is (sym b.found ∙ h.1) in
      let e : h.0.first ≡ a.first = sym (ap (λ (z : Activity). z.first) one) ∙ ap (λ (z : Running). z.local.first) b.running ∙ f in
      let d : h.0.last ≡ a.last = sym (ap (λ (z : Activity). z.last) one) ∙ ap (λ (z : Running). z.local.last) b.running ∙ l in
      inl (a, found_here g s t p q x r, omega (arith, h.2, e), omega (arith, h.3, d))
  own_still at cleared b f l c (inr h) =
      inr (h.0, h.1, h.2, sym (theirs at cleared b h.0 (ancestor_other h.0 p h.2)) ∙ h.3, h.4, h.5)

  -- ---- p goes on

  goes_lands : (ws : List Work) (w : World) → After Coherent (kernel g.unit s p q (gives (goes ws) w)) →
      GoesOn g (scene g s t p q x r) s.world.store t.memory (taken_as g s t p q x r) ws w →
      Lands g outer t s.world.system.past p others marks (kernel g.unit s p q (gives (goes ws) w))
  goes_lands ws w coherent h =
      let at : Walker = resting g (scene g s t p q x r) w h.memory h.pc in
      let b : Before g p others outer t s.world.system.past a at h.cleared = before_here g s t p q x r others outer out at h.cleared h.gets_there in
      let q' : Process = record q { work = ws; standing = ready } in
      let now : b.now ≡ activity_of at.local q.forks target.ready =
      elim b.either [ inl z ↦ z.1 ∙ ready_now t a (plain at) q.standing x.runs refl z.2 refl | inr z ↦ z ] in
      let mine : activity_of at.local q.forks target.ready ≡ activity g r.first (shape w.store) p q' h.pc =
      (λ i. record (activity_of at.local q.forks target.ready) { last = r.first p + size_here g s t p q x r i }) in
      let written : Written g s t p q x r k.kept.coherent w h.memory h.stretch q' refl b.machine h.pc = record {
        memory = ap (λ (z : Running). z.local.memory) b.running;
        mine = b.found ∙ ap (λ (z : Activity). Some z) (now ∙ mine);
        theirs = λ y n. theirs at h.cleared b y n;
        same_names = b.same_names;
        system = ap (λ (z : Running). z.system) b.running;
        turns = ap (λ (z : Running). z.turns) b.running;
      } in
      let related : Related g (source.back s p q' w) b.machine =
      related_on g s t p q x r k.kept.coherent w h.memory h.stretch q' refl b.machine h.pc written h.at in
      record {
        steps = b.steps;
        machine = b.machine;
        passes = b.passes;
        related = related;
        kept = record {
          coherent = coherent;
          sound =
              (passes_sound g outer b.steps t s.world.system.past p others b.machine at.system.past b.passes k.kept.sound may_go_on).0;
        };
        marks_agree = inr (refl, ap (λ z. z.standing) (process_same s.live p q'));
        own = λ c o. own_still at h.cleared b refl (ap (λ n. r.first p + n) (size_here g s t p q x r)) c o;
      }

  -- ---- p stands at a `when`

  module _ (kind : turn.Turn) (cs : Clauses) (position : Position) (ws : List Work) (w : World) (silent : Bool)
      (h : Waits g (scene g s t p q x r) s.world.store t.memory (taken_as g s t p q x r) kind (at_when cs position) ws w silent) where
    abbrev c : Comes g.fetched (length t.activities) (is_first p) (Outer (scene g s t p q x r)) (taken_as g s t p q x r) kind
        (resting g (scene g s t p q x r) w h.memory h.pc) h.cleared
    c = h.comes_there

    abbrev end : Walker
    end = resting g (scene g s t p q x r) w h.memory h.pc

    abbrev b : Before g p others outer t s.world.system.past a c.at h.cleared
    b = before_here g s t p q x r others outer out c.at h.cleared c.gets

    abbrev q' : Process
    q' = record q { work = ws; standing = at_when cs position }

    -- written back with these marks
    abbrev after : List Name → Machine
    after ms = target.back b.machine p (activity_of end.local b.now.forks target.at_when) ms (plain end)

    mine : activity_of end.local b.now.forks target.at_when ≡ activity g r.first (shape w.store) p q' h.pc
    mine = λ i. record (activity_of end.local b.now.forks target.at_when) { last = r.first p + size_here g s t p q x r i; forks = b.forks i }

    related_after : (ms : List Name) → Related g (source.back s p q' w) (after ms)
    related_after ms =
        related_on g s t p q x r k.kept.coherent w h.memory h.stretch q' refl (after ms) h.pc
        (record {
          memory = refl;
          mine = find-with_at-same b.machine.activities p _ ∙ ap (λ (z : Activity). Some z) mine;
          theirs = λ y n. find-with_at-other b.machine.activities p y _ n ∙ theirs c.at h.cleared b y n;
          same_names = names-with_at b.machine.activities p _ b.now b.found ∙ b.same_names;
          system = refl;
          turns = refl;
        }) h.at

    keeps_after : (ms : List Name) → Keeps g outer b.machine (after ms)
    keeps_after ms y o = c.keeps y (in_outer g s t p q x r others outer out y o) ∙ sym (words_there g p others outer t s.world.system.past a c.at h.cleared b y)

    adds_after : w.system.past ≡ news_at g.fetched b.machine p ++ c.at.system.past
    adds_after = adds_there g p others outer t s.world.system.past a c.at h.cleared b end c.adds

    -- after an attempt that has failed it stands where it stood
    stands_again : (ms : List Name) → q.standing ≡ at_when cs position → (spot : ℕ × ℕ) → spot_of (find t.activities p) ≡ Some spot →
        spot_of (find (after ms).activities p) ≡ Some spot
    stands_again ms was spot e =
        ap spot_of (find-with_at-same b.machine.activities p (activity_of end.local b.now.forks target.at_when))
        ∙ same_spot g s t p q x r cs position was (shape w.store) h.memory ws h.pc (length (shape w.store p) - 1) h.shaped h.at spot e

    hands_over : (ms ms' : List Name) → ms ≡ ms' → Coherent (source.back s p q' w) → step g b.machine p others ≡ target.went (after ms) (joins (p ∷ [])) →
        is_failed_turn (turned kind (plain end)) ≡ is_some (spot_of (find t.activities p)) →
        ((spot : ℕ × ℕ) → spot_of (find t.activities p) ≡ Some spot → spot_of (find (after ms).activities p) ≡ Some spot) →
        Switches g outer t s.world.system.past p others ms' (source.back s p q' w) (p ∷ [])
    hands_over ms ms' e coherent is fails spots = record {
      steps = b.steps;
      before = b.machine;
      since = c.at.system.past;
      passes = b.passes;
      machine = after ms;
      is = is;
      adds = adds_after;
      keeps = keeps_after ms;
      related = related_after ms;
      kept = record {
        coherent = coherent;
        sound = step_after_sound g outer b.steps t s.world.system.past p others b.machine c.at.system.past (after ms)
            (joins (p ∷ [])) b.passes is k.kept.sound may_go_on;
      };
      same_marks = e;
      fails = fails_there g p others outer t s.world.system.past a c.at h.cleared b (turned kind (plain end)) c.is ∙ fails;
      spots = spots;
    }

    here : step g b.machine p others ≡ target.kernel b.machine p others b.now (turned kind (plain end))
    here = stepped g p others outer t s.world.system.past a c.at h.cleared b (turned kind (plain end)) c.is

pub goes_claim : (g : Coded) → GoesClaim g
goes_claim g ws w outer s t p others marks k out q x of coherent h = goes_lands g outer s t p others marks k out q x ws w coherent h

pub arrives_claim : (g : Coded) → ArrivesClaim g
arrives_claim g cs position ws w outer s t p others marks k out q x of coherent h =
    let was : q.standing ≡ ready =
    was_ready g.unit p q.size q.work s.world q.standing (gives (arrives cs position ws) w) of x.runs (λ c o n. n) in
    hands_over g outer s t p others marks k out q x turn.arriving cs position ws w false h [] [] refl coherent
    (here g outer s t p others marks k out q x turn.arriving cs position ws w false h)
    (sym (ap is_some (ready_spot g s t p q x k.related was))) (not_again g s t p q x k.related was _)

-- only an attempt stands again
no_again : {r : Evaluation Asks} {cs : Clauses} {position : Position} {quiet : Bool} {ws : List Work} {w : World} → Unmarked r →
    r ≡ gives (again cs position quiet ws) w → ⊥
no_again u e = subst Unmarked e u

at_when_now : (g : Coded) (p : Name) (size : ℕ) (st : source.Standing) (work : List Work) (v : World) (cs : Clauses) (position : Position) (quiet : Bool)
    (ws : List Work) (w : World) → local_step g.unit p size st work v ≡ gives (again cs position quiet ws) w → st ≡ ready → ⊥
at_when_now g p size st work v cs position quiet ws w e f = no_again (work_unmarked g.unit p size work v)
    (ap (λ y. local_step g.unit p size y work v) (sym f) ∙ e)

same_marks_now : (g : Coded) (s : Processes) (t : Machine) (p : Name) (q : Process) (marks : List Name) → MarksAgree s t p marks → find s.live p ≡ Some q →
    (q.standing ≡ ready → ⊥) → t.marks ≡ marks
same_marks_now g s t p q marks (inl e) found never = e
same_marks_now g s t p q marks (inr e) found never = absurd (never (sym (ap (λ o. (unwrap_or o no_process).standing) found) ∙ e.1))

pub again_claim : (g : Coded) → AgainClaim g
again_claim g cs position false ws w outer s t p others marks k out q x of coherent h =
    let was : q.standing ≡ at_when cs position = stood_there g.unit p q.size q.work s.world q.standing cs position false ws w of x.runs in
    hands_over g outer s t p others marks k out q x (turn.again false) cs position ws w false h [] [] refl coherent
    (here g outer s t p others marks k out q x (turn.again false) cs position ws w false h)
    (sym (ap is_some (when_spot g s t p q x k.related cs position was)))
    (stands_again g outer s t p others marks k out q x (turn.again false) cs position ws w false h [] was)
again_claim g cs position true ws w outer s t p others marks k out q x of coherent h = tested (all_marked (p ∷ marks) (p ∷ others)) refl
  where
    was : q.standing ≡ at_when cs position
    was = stood_there g.unit p q.size q.work s.world q.standing cs position true ws w of x.runs

    there : Before g p others outer t s.world.system.past (activity_here g s t p q x k.related) h.comes_there.at h.cleared
    there = b g outer s t p others marks k out q x (turn.again true) cs position ws w true h

    same_marks : there.machine.marks ≡ marks
    same_marks =
        there.marks ∙ ap (λ c. marks_after c t.marks) (h.still refl)
        ∙ same_marks_now g s t p q marks k.marks_agree x.found (at_when_now g p q.size q.standing q.work s.world cs position true ws w of)

    both : p ∷ there.machine.marks ≡ p ∷ marks
    both = ap (λ l. p ∷ l) same_marks

    now : Machine
    now = after g outer s t p others marks k out q x (turn.again true) cs position ws w true h (p ∷ there.machine.marks)

    is : (v : Bool) → all_marked (p ∷ marks) (p ∷ others) ≡ v → step g there.machine p others ≡
        (if v then target.ended outcome.standstill now else target.went now (joins (p ∷ [])))
    is v e =
        here g outer s t p others marks k out q x (turn.again true) cs position ws w true h
        ∙ ap (λ y. if y then target.ended outcome.standstill now else target.went now (joins (p ∷ []))) (ap (λ l. all_marked l (p ∷ others)) both ∙ e)

    tested : (v : Bool) → all_marked (p ∷ marks) (p ∷ others) ≡ v → LandsTested g outer v t s.world.system.past p others (p ∷ marks)
        (source.back s p (record q { work = ws; standing = at_when cs position }) w) (joins (p ∷ []))
    tested true e = record {
      ends = record {
        steps = there.steps;
        before = there.machine;
        since = h.comes_there.at.system.past;
        passes = there.passes;
        machine = now;
        is = is true e;
        adds = adds_after g outer s t p others marks k out q x (turn.again true) cs position ws w true h;
        keeps = keeps_after g outer s t p others marks k out q x (turn.again true) cs position ws w true h (p ∷ there.machine.marks);
        system_is = refl;
        turns_are = refl;
      };
      related = related_after g outer s t p others marks k out q x (turn.again true) cs position ws w true h (p ∷ there.machine.marks);
    }
    tested false e =
        hands_over g outer s t p others marks k out q x (turn.again true) cs position ws w true h (p ∷ there.machine.marks) (p ∷ marks) both coherent
        (is false e) (sym (ap is_some (when_spot g s t p q x k.related cs position was)))
        (stands_again g outer s t p others marks k out q x (turn.again true) cs position ws w true h (p ∷ there.machine.marks) was)
