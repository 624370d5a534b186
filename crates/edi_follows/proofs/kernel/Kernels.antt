-- What serves every claim of the kernels: own words, and the step at which a process hands itself over.
use Rattle.std.proofs.Common.{◌≡◌, ℕ, zero, suc, ◌+◌, ◌<◌, ◌≤◌, ◌⊎◌, inl, inr, Bool, List, [], ◌++◌, length, Option, Some, refl, sym, subst, ap, ◌∙◌, arith}
use Rattle.std.proofs.lemmas.Bool.{cases_lt}
use Rattle.std.specs.Prelude.{unwrap_or}
use Rattle.edi_calls.specs.Names.{Name, find}
use Rattle.edi_calls.specs.Ready.{Next}
use Rattle.edi_calls.specs.State.{State, Traced}
use Rattle.edi_meaning.specs.Store.{shape}
use Rattle.edi_meaning.specs.Step.{Process, Processes}
use Rattle.edi_target.specs.Op.{Instruction}
use Rattle.edi_target.specs.Memory.{word}
use Rattle.edi_target.specs.Effect as turn
use Rattle.edi_target.specs.Mach as target
use Rattle.edi_target.specs.Mach.{Machine, Running, Answer, Activity, is_first, turned, over, running_of, kernel, local_step, OwnWords, IsAncestor}
use Rattle.edi_target.specs.Attempts.{is_failed_turn, attempt_fails}
use Rattle.edi_target.specs.Moments.{news_of, news_from, news_at}
use Rattle.edi_target.specs.segments.Nested.{MayGoOn}
use Rattle.edi_target.proofs.segments.Families.{Sound}
use Rattle.edi_target.proofs.segments.Steps.{Left, step_leaves}
use Rattle.edi_target.proofs.segments.Queues.{Queues, step_queues}
use Rattle.edi_target.specs.segments.Nested.{machine_after}
use Rattle.edi_follows.specs.places.Coded.{Coded}
use Rattle.edi_follows.specs.places.Spots.{frames_end}
use Rattle.edi_follows.specs.places.Walks.{Walker, plain, Adds, Walks, Gets, Comes}
use Rattle.edi_follows.specs.places.Scene.{Outer}
use Rattle.edi_follows.specs.places.Related.{Lives, size_in, no_process, activity, Related}
use Rattle.edi_follows.specs.places.Lands.{step, Passes, Outside, Stepping, scene, taken_as, pc_of, EndsClaim}
use Rattle.edi_follows.proofs.kernel.Lifting.{step_at, Before, lifted}

-- ---- fewer words to keep

module _ (fetched : ℕ → Option (Instruction × ℕ)) (count : ℕ) (first : Bool) (outer inner : ℕ → Type 0) (in_it : (a : ℕ) → inner a → outer a) where
  pub walks_less : (n : ℕ) (r r' : Walker) (c : Bool) → Walks fetched count first outer n r r' c → Walks fetched count first inner n r r' c
  walks_less zero r r' c h = h
  walks_less (suc n) r r' c h =
      (h.0, h.1, h.2, record { is = h.3.is; adds = h.3.adds; keeps = λ a o. h.3.keeps a (in_it a o) }, walks_less n h.0 r' h.2 h.4, h.5)

-- ---- own words

module _ (g : Coded) (s : Processes) (t : Machine) (p : Name) (q : Process) (x : Stepping g s p q) (r : Related g s t) where
  abbrev pub activity_here : Activity
  activity_here = activity g r.first (shape s.world.store) p q (pc_of g s t p q x r)

  pub found_here : find t.activities p ≡ Some activity_here
  found_here = (r.words.each p q x.found).found

  pub size_here : size_in s.live p ≡ q.size
  size_here = ap (λ o. (unwrap_or o no_process).size) x.found

  -- a word that is none of p's own may not change
  pub outer_here : (a : ℕ) → (OwnWords t p a → ⊥) → Outer (scene g s t p q x r) a
  outer_here a n = (segment (cases_lt a (r.first p)) (cases_lt a (r.first p + size_in s.live p)), ancestors)
    where
      segment : (a < r.first p) ⊎ (r.first p ≤ a) → (a < r.first p + size_in s.live p) ⊎ (r.first p + size_in s.live p ≤ a) →
          (a < r.first p) ⊎ (r.first p + size_in s.live p ≤ a)
      segment (inl h) k = inl h
      segment (inr h) (inr k) = inr k
      segment (inr h) (inl k) = absurd (n (inl (activity_here, found_here, h, omega (arith, k, size_here))))

      ancestor : (y : Name) → IsAncestor y p → Lives s.live y → (a < r.first y) ⊎ (r.first y ≤ a) →
          (a < frames_end r.first (shape s.world.store) y) ⊎ (frames_end r.first (shape s.world.store) y ≤ a) →
          (a < r.first y) ⊎ (frames_end r.first (shape s.world.store) y ≤ a)
      ancestor y i l (inl h) k = inl h
      ancestor y i l (inr h) (inr k) = inr k
      ancestor y i l (inr h) (inl k) = absurd (n (inr (y, _, i, (r.words.each y l.process l.found).found, h, k)))

      ancestors : (y : Name) → IsAncestor y p → Lives s.live y → (a < r.first y) ⊎ (frames_end r.first (shape s.world.store) y ≤ a)
      ancestors y i l = ancestor y i l (cases_lt a (r.first y)) (cases_lt a (frames_end r.first (shape s.world.store) y))

  module _ (others : List Name) (outer : ℕ → Type 0) (out : Outside g t p outer) where
    pub in_outer : (a : ℕ) → outer a → Outer (scene g s t p q x r) a
    in_outer a o = outer_here a (out a o)

    -- where p has come to by itself
    pub before_here : (at : Walker) (cleared : Bool) → Gets g.fetched (length t.activities) (is_first p) (Outer (scene g s t p q x r))
        (taken_as g s t p q x r) at cleared → Before g p others outer t s.world.system.past activity_here at cleared
    before_here at cleared h =
        lifted g p others outer h.steps (length t.activities) t activity_here (taken_as g s t p q x r) at cleared refl found_here refl
        (walks_less g.fetched (length t.activities) (is_first p) (Outer (scene g s t p q x r)) outer in_outer h.steps
        (taken_as g s t p q x r) at cleared h.walks)

-- ---- the step there

module _ (g : Coded) (p : Name) (others : List Name) (outer : ℕ → Type 0) (t : Machine) (past : List State) (a : Activity) (at : Walker) (cleared : Bool)
    (b : Before g p others outer t past a at cleared) where
  pub stepped : (x : Answer) → local_step g.fetched (length t.activities) (is_first p) (plain at) ≡ x →
      step g b.machine p others ≡ kernel b.machine p others b.now x
  stepped x e =
      step_at g p others b.machine b.now b.found
      ∙ (λ i. kernel b.machine p others b.now (local_step g.fetched (b.as_many i) (is_first p) (b.running i)))
      ∙ ap (kernel b.machine p others b.now) e

  -- whether it is the end of an attempt that has failed
  pub fails_there : (x : Answer) → local_step g.fetched (length t.activities) (is_first p) (plain at) ≡ x →
      attempt_fails g.fetched b.machine p (find b.machine.activities p) ≡ is_failed_turn x
  fails_there x e =
      ap (attempt_fails g.fetched b.machine p) b.found
      ∙ (λ i. is_failed_turn (local_step g.fetched (b.as_many i) (is_first p) (b.running i)))
      ∙ ap is_failed_turn e

  pub words_there : (x : ℕ) → word b.machine.memory x ≡ word at.local.memory x
  words_there x = ap (λ (r : Running). word r.local.memory x) b.running

  -- what the instruction there adds to the past
  pub adds_there : (end : Walker) → Adds g.fetched (length t.activities) (is_first p) outer at end →
      end.system.past ≡ news_at g.fetched b.machine p ++ at.system.past
  adds_there end h =
      h ∙ ap (λ n. n ++ at.system.past) (sym (ap (news_from g.fetched b.machine p) b.found ∙ (λ i. news_of g.fetched (b.as_many i) (is_first p) (b.running i))))

-- ---- the end of the run

pub ends_claim : (g : Coded) → EndsClaim g
ends_claim g ending system turns outer s t p others marks k out q x of coherent (inl h) =
    let b : Before g p others outer t s.world.system.past (activity_here g s t p q x k.related) h.at h.cleared =
    before_here g s t p q x k.related others outer out h.at h.cleared h.gets in
    record {
      steps = b.steps;
      before = b.machine;
      since = h.at.system.past;
      passes = b.passes;
      machine = target.back b.machine p b.now b.machine.marks (plain h.end);
      is = stepped g p others outer t s.world.system.past _ h.at h.cleared b (over ending (plain h.end)) h.is;
      adds = ap (λ (y : Traced). y.past) (sym h.system_is) ∙ adds_there g p others outer t s.world.system.past _ h.at h.cleared b h.end h.adds;
      keeps = λ y o. h.keeps y (in_outer g s t p q x k.related others outer out y o) ∙ sym
          (words_there g p others outer t s.world.system.past _ h.at h.cleared b y);
      system_is = ap (λ (y : Traced). y.now) h.system_is;
      turns_are = h.turns_are;
    }
ends_claim g ending system turns outer s t p others marks k out q x of coherent (inr h) =
    let c : Comes g.fetched (length t.activities) (is_first p) (Outer (scene g s t p q x k.related))
    (taken_as g s t p q x k.related) turn.finishing h.1.end h.1.cleared = h.1.comes_there in
    let b : Before g p others outer t s.world.system.past (activity_here g s t p q x k.related) c.at h.1.cleared =
    before_here g s t p q x k.related others outer out c.at h.1.cleared c.gets in
    record {
      steps = b.steps;
      before = b.machine;
      since = c.at.system.past;
      passes = b.passes;
      machine = target.back b.machine p (target.activity_of h.1.end.local b.now.forks target.ready) [] (plain h.1.end);
      is = stepped g p others outer t s.world.system.past _ c.at h.1.cleared b (turned turn.finishing (plain h.1.end)) c.is
          ∙ ap (λ e. target.ended e (target.back b.machine p (target.activity_of h.1.end.local b.now.forks target.ready) [] (plain h.1.end))) (sym h.0);
      adds = ap (λ (y : Traced). y.past) (sym h.1.system_is) ∙ adds_there g p others outer t s.world.system.past _ c.at h.1.cleared b h.1.end c.adds;
      keeps = λ y o. c.keeps y (in_outer g s t p q x k.related others outer out y o) ∙ sym
          (words_there g p others outer t s.world.system.past _ c.at h.1.cleared b y);
      system_is = ap (λ (y : Traced). y.now) h.1.system_is;
      turns_are = h.1.turns_are;
    }

-- ---- segments stay nested

step_sound : (g : Coded) (m : Machine) (p : Name) (others : List Name) → Sound m.activities → MayGoOn m p →
    Left m.activities p (machine_after (step g m p others)).activities
step_sound g m p others s f = step_leaves m p f.activity f.lives f.free s g.fetched (g.allows f.activity.first f.activity.last) others

pub passes_sound : (g : Coded) (outer : ℕ → Type 0) (k : ℕ) (m : Machine) (past : List State) (p : Name) (others : List Name) (u : Machine)
    (now : List State) → Passes g outer k m past p others u now → Sound m.activities → MayGoOn m p → Sound u.activities × MayGoOn u p
passes_sound g outer zero m past p others u now h s f = (subst (λ x. Sound x.activities) h.0 s, subst (λ x. MayGoOn x p) h.0 f)
passes_sound g outer (suc k) m past p others u now h s f =
    let left : Left m.activities p (machine_after (step g m p others)).activities = step_sound g m p others s f in
    let goes : Queues m p (step g m p others) = step_queues m p f.activity f.lives f.free s g.fetched others in
    passes_sound g outer k h.0 (news_at g.fetched m p ++ past) p others u now h.3 (subst (λ y. Sound (machine_after y).activities) h.1 left.sound)
    (subst (Queues m p) h.1 goes)

-- and so after the step at which p hands itself over
pub step_after_sound : (g : Coded) (outer : ℕ → Type 0) (k : ℕ) (m : Machine) (past : List State) (p : Name) (others : List Name) (u : Machine)
    (now : List State) (v : Machine) (next : Next) → Passes g outer k m past p others u now → step g u p others ≡ target.went v next → Sound m.activities →
    MayGoOn m p → Sound v.activities
step_after_sound g outer k m past p others u now v next h e s f =
    let there : Sound u.activities × MayGoOn u p = passes_sound g outer k m past p others u now h s f in
    subst (λ y. Sound (machine_after y).activities) e (step_sound g u p others there.0 there.1).sound
