-- What a process does alone, lifted to the whole machine.
use Rattle.std.proofs.Common.{◌≡◌, ℕ, zero, suc, ◌⊎◌, inl, inr, Bool, true, false, ◌||◌, if◌then◌else◌, List, [], ◌∷◌, ◌++◌, length, Some, None, refl, sym}
use Rattle.std.proofs.Common.{subst, ap, ◌∙◌}
use Rattle.edi_calls.specs.Names.{Name, Table, same, find, with_at, without, names}
use Rattle.edi_calls.specs.Ready.{stays}
use Rattle.edi_calls.specs.State.{State}
use Rattle.edi_calls.proofs.Tables.{same-refl, find-with_at-same}
use Rattle.edi_meaning.proofs.Parents.{names-with_at}
use Rattle.edi_target.specs.Memory.{word}
use Rattle.edi_target.specs.Effect.{Turn, entering, leaving, looping, arriving, again, forking, exiting, finishing}
use Rattle.edi_target.specs.Mach as target
use Rattle.edi_target.specs.Moments.{news_of, news_from, news_at}
use Rattle.edi_target.specs.Mach.{Running, Answer, on, behind, turned, over, Activity, Machine, ready, running_of, activity_of, back, kernel, is_first}
use Rattle.edi_target.specs.Mach.{local_step}
use Rattle.edi_follows.specs.places.Coded.{Coded}
use Rattle.edi_follows.specs.places.Walks.{onward_turn, onward, Walker, plain, Walks}
use Rattle.edi_follows.specs.places.Lands.{step, Passes}

abbrev Pair : Type 0
Pair = Running × Bool

some_pair : {x y : Pair} → Some x ≡ Some y → x ≡ y
some_pair e = cc

some_running : {x y : Pair} → Some x ≡ Some y → x.0 ≡ y.0
some_running e = ap (λ z. z.0) (some_pair e)

some_cleared : {x y : Pair} → Some x ≡ Some y → x.1 ≡ y.1
some_cleared e = ap (λ z. z.1) (some_pair e)

none_some : {A : Type 0} {a : A} → None ≡ Some a → ⊥
none_some e = cc

-- the marks, taken away or not
abbrev pub marks_after : Bool → List Name → List Name
marks_after true marks = []
marks_after false marks = marks

module _ (g : Coded) (p : Name) (others : List Name) where
  -- the machine t, in which p is so
  abbrev pub with_running : Machine → (forks : ℕ) → Running → Bool → Machine
  with_running t forks r cleared = back t p (activity_of r.local forks ready) (marks_after cleared t.marks) r

  -- what the kernel makes of an answer with which the process goes on
  kernel_goes_turn : (t : Machine) (a : Activity) (kind : Turn) (r r' : Running) (c : Bool) → onward_turn kind r ≡ Some (r', c) →
      kernel t p others a (turned kind r) ≡ target.went (with_running t a.forks r' c) stays
  kernel_goes_turn t a entering r r' c e = λ i. target.went (with_running t a.forks (some_running e i) (some_cleared e i)) stays
  kernel_goes_turn t a leaving r r' c e = λ i. target.went (with_running t a.forks (some_running e i) (some_cleared e i)) stays
  kernel_goes_turn t a looping r r' c e = λ i. target.went (with_running t a.forks (some_running e i) (some_cleared e i)) stays
  kernel_goes_turn t a arriving r r' c e = absurd (none_some e)
  kernel_goes_turn t a (again marks) r r' c e = absurd (none_some e)
  kernel_goes_turn t a (forking branches) r r' c e = absurd (none_some e)
  kernel_goes_turn t a exiting r r' c e = absurd (none_some e)
  kernel_goes_turn t a finishing r r' c e = absurd (none_some e)

  kernel_goes : (t : Machine) (a : Activity) (x : Answer) (r' : Running) (c : Bool) → onward x ≡ Some (r', c) →
      kernel t p others a x ≡ target.went (with_running t a.forks r' c) stays
  kernel_goes t a (on r) r' c e = λ i. target.went (with_running t a.forks (some_running e i) (some_cleared e i)) stays
  kernel_goes t a (behind r) r' c e = λ i. target.went (with_running t a.forks (some_running e i) (some_cleared e i)) stays
  kernel_goes t a (turned kind r) r' c e = kernel_goes_turn t a kind r r' c e
  kernel_goes t a (over ending r) r' c e = absurd (none_some e)

  -- a step of p, which this activity is
  pub step_at : (t : Machine) (a : Activity) → find t.activities p ≡ Some a → step g t p others ≡ kernel t p others a
      (local_step g.fetched (length t.activities) (is_first p) (running_of t a))
  step_at t a e = ap (target.step_of g.fetched t p others) e

-- ---- tables

module _ {A : Type 0} where
  pub with_twice : (t : Table A) (p : Name) (a b : A) → with_at (with_at t p a) p b ≡ with_at t p b
  with_twice [] p a b = ap (λ c. if c then (p, b) ∷ [] else (p, a) ∷ (p, b) ∷ []) (same-refl p)
  with_twice (entry ∷ t) p a b = go (same p entry.0) refl (with_twice t p a b)
    where
      go : (c : Bool) → same p entry.0 ≡ c → with_at (with_at t p a) p b ≡ with_at t p b →
          with_at (if c then (entry.0, a) ∷ t else entry ∷ with_at t p a) p b ≡ (if c then (entry.0, b) ∷ t else entry ∷ with_at t p b)
      go true e h = ap (λ c. if c then (entry.0, b) ∷ t else (entry.0, a) ∷ with_at t p b) e
      go false e h = ap (λ c. if c then (entry.0, b) ∷ with_at t p a else entry ∷ with_at (with_at t p a) p b) e ∙ ap (λ l. entry ∷ l) h

  pub without_with : (t : Table A) (p : Name) (a : A) → without (with_at t p a) p ≡ without t p
  without_with [] p a = ap (λ c. if c then [] else (p, a) ∷ []) (same-refl p)
  without_with (entry ∷ t) p a = go (same p entry.0) refl (without_with t p a)
    where
      go : (c : Bool) → same p entry.0 ≡ c → without (with_at t p a) p ≡ without t p →
          without (if c then (entry.0, a) ∷ t else entry ∷ with_at t p a) p ≡ (if c then without t p else entry ∷ without t p)
      go true e h = ap (λ c. if c then without t p else (entry.0, a) ∷ without t p) e
      go false e h = ap (λ c. if c then without (with_at t p a) p else entry ∷ without (with_at t p a) p) e ∙ ap (λ l. entry ∷ l) h

  pub length-names : (t : Table A) → length (names t) ≡ length t
  length-names [] = refl
  length-names (entry ∷ t) = ap suc (length-names t)

  pub length-with : (t : Table A) (p : Name) (a b : A) → find t p ≡ Some b → length (with_at t p a) ≡ length t
  length-with t p a b e = sym (length-names (with_at t p a)) ∙ ap length (names-with_at t p a b e) ∙ length-names t

marks_twice : (c d : Bool) (marks : List Name) → marks_after d (marks_after c marks) ≡ marks_after (c || d) marks
marks_twice true true marks = refl
marks_twice true false marks = refl
marks_twice false d marks = refl

-- ---- a walk of p is a run of the machine

module _ (g : Coded) (p : Name) (others : List Name) (outer : ℕ → Type 0) where
  -- the machine when p has come to this by itself, from t and this past, where it was a
  pub record Before (t : Machine) (past : List State) (a : Activity) (at : Walker) (cleared : Bool) : Type 0 where
    pub steps : ℕ
    pub machine : Machine
    pub now : Activity
    pub passes : Passes g outer steps t past p others machine at.system.past
    pub found : find machine.activities p ≡ Some now
    pub running : running_of machine now ≡ plain at
    pub forks : now.forks ≡ a.forks
    pub marks : machine.marks ≡ marks_after cleared t.marks
    pub as_many : length machine.activities ≡ length t.activities
    pub same_names : names machine.activities ≡ names t.activities
    pub same_with : (x : Activity) → with_at machine.activities p x ≡ with_at t.activities p x
    pub same_without : without machine.activities p ≡ without t.activities p
    -- nothing has happened, or p is ready
    pub either : ((machine ≡ t) × (now ≡ a) × (running_of t a ≡ plain at)) ⊎ (now ≡ activity_of at.local a.forks ready)

  pub lifted : (n count : ℕ) (t : Machine) (a : Activity) (r at : Walker) (cleared : Bool) → length t.activities ≡ count → find t.activities p ≡ Some a →
      running_of t a ≡ plain r →
      Walks g.fetched count (is_first p) outer n r at cleared → Before t r.system.past a at cleared
  lifted zero count t a r at cleared l e f h = record {
    steps = 0;
    machine = t;
    now = a;
    passes = (refl, ap (λ (x : Walker). x.system.past) h.0);
    found = e;
    running = f ∙ ap plain h.0;
    forks = refl;
    marks = ap (λ c. marks_after c t.marks) (sym h.1);
    as_many = refl;
    same_names = refl;
    same_with = λ x. refl;
    same_without = refl;
    either = inl (refl, refl, f ∙ ap plain h.0);
  }
  lifted (suc n) count t a r at cleared l e f h =
      let mid : Walker = h.0 in
      let c : Bool = h.1 in
      let v : Machine = with_running g p others t a.forks (plain mid) c in
      let b : Activity = activity_of mid.local a.forks ready in
      let is : onward (local_step g.fetched (length t.activities) (is_first p) (running_of t a)) ≡ Some (plain mid, c) =
      (λ i. onward (local_step g.fetched (l i) (is_first p) (f i))) ∙ h.3.is in
      let stepped : step g t p others ≡ target.went v stays =
      step_at g p others t a e ∙ kernel_goes g p others t a (local_step g.fetched (length t.activities) (is_first p) (running_of t a)) (plain mid) c is in
      let many : length v.activities ≡ length t.activities = length-with t.activities p b a e in
      let rest : Before v mid.system.past b at h.2 = lifted n count v b mid at h.2 (many ∙ l) (find-with_at-same t.activities p b) refl h.4 in
      let news : news_of g.fetched count (is_first p) (plain r) ≡ news_at g.fetched t p =
      sym (ap (news_from g.fetched t p) e ∙ (λ i. news_of g.fetched (l i) (is_first p) (f i))) in
      let past : mid.system.past ≡ news_at g.fetched t p ++ r.system.past = h.3.adds ∙ ap (λ n. n ++ r.system.past) news in
      record {
        steps = suc rest.steps;
        machine = rest.machine;
        now = rest.now;
        passes = (
          v,
          stepped,
          (λ x o. h.3.keeps x o ∙ ap (λ y. word y.local.memory x) (sym f)),
          subst (λ y. Passes g outer rest.steps v y p others rest.machine at.system.past) past rest.passes,
        );
        found = rest.found;
        running = rest.running;
        forks = rest.forks;
        marks = rest.marks ∙ marks_twice c h.2 t.marks ∙ ap (λ d. marks_after d t.marks) (sym h.5);
        as_many = rest.as_many ∙ many;
        same_names = rest.same_names ∙ names-with_at t.activities p b a e;
        same_with = λ x. rest.same_with x ∙ with_twice t.activities p b x;
        same_without = rest.same_without ∙ without_with t.activities p b;
        either = inr (elim rest.either [
          | inl k ↦ k.1 ∙ ap (λ (x : Running). activity_of x.local a.forks ready) k.2
          | inr k ↦ k
        ]);
      }
