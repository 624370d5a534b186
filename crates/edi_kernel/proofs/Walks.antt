-- A stretch of one activity is a stint of its process.
use Rattle.std.proofs.Common.{◌≡◌, ℕ, zero, suc, Bool, true, false, if◌then◌else◌, List, [], ◌∷◌, length, Option, Some, refl, sym, subst, ap, ◌∙◌}
use Rattle.std.specs.Prelude.{⊤}
use Rattle.edi_calls.specs.Names.{Name, same, find, with_at, names}
use Rattle.edi_calls.specs.Names as tables
use Rattle.edi_calls.specs.Outcome as outcome
use Rattle.edi_calls.proofs.Tables.{find-with_at-same, find-with_at-other}
use Rattle.edi_target.specs.Op.{Instruction}
use Rattle.edi_calls.specs.Calls.{CallResult, answered, no_file, file_limit, call}
use Rattle.edi_target.specs.Effect.{Local, Turn, entering, leaving, looping, arriving, again, forking, exiting, finishing}
use Rattle.edi_target.specs.Effect.{Effect, goes, released, asks, due, fails, bad}
use Rattle.edi_target.specs.Mach.{Running, Answer, on, behind, turned, over, local_step, Activity, ready, Machine, running_of, activity_of, back, at_turn}
use Rattle.edi_target.specs.Mach.{called, turn_from, settled, effect_at}
use Rattle.edi_target.specs.Mach.{went, kernel, is_first, step_of, step}
use Rattle.edi_calls.specs.Ready.{stays}
use Rattle.edi_kernel.specs.Stretch.{Paused, going, pausing, stopping, after_answer, after_turn, stretch, walk_turn, walk_on, walked}
use Rattle.edi_kernel.specs.Stints as stints
use Rattle.edi_kernel.specs.Stints.{Stint, stint, stint_after, goes_with, followed}
use Rattle.edi_kernel.proofs.Changes.{length-names}

-- a name that a table has keeps its slot
pub names-with_at : {A : Type 0} (es : tables.Table A) (p : Name) (a b : A) → find es p ≡ Some b → names (with_at es p a) ≡ names es
names-with_at [] p a b e = absurd (cc)
names-with_at (x ∷ es) p a b e = go (same p x.0) e (names-with_at es p a b)
  where
    go : (d : Bool) → (if d then Some x.1 else find es p) ≡ Some b → (find es p ≡ Some b → names (with_at es p a) ≡ names es)
        → names (if d then (x.0, a) ∷ es else x ∷ with_at es p a) ≡ (x.0 ∷ names es)
    go true f ih = refl
    go false f ih = ap (λ ns. x.0 ∷ ns) (ih f)

-- an instruction that ends the run leaves all as it was
over_as : (effect : Effect) (r s : Running) (ending : outcome.Ending) → settled effect r ≡ over ending s → s ≡ r
over_as effect r s ending h = by_effect effect h
  where
    same : {d e : outcome.Ending} {x y : Running} → over d x ≡ over e y → y ≡ x
    same f = cc

    by_call : (result : CallResult) (address : Option ℕ) (line : ℕ) (l : Local) → called result address line l r ≡ over ending s → s ≡ r
    by_call (answered words system) address line l f = absurd (cc)
    by_call no_file address line l f = same f
    by_call file_limit address line l f = same f

    by_left : (n : ℕ) (turn : Turn) (l : Local) → turn_from n turn l r ≡ over ending s → s ≡ r
    by_left zero turn l f = same f
    by_left (suc n) turn l f = absurd (cc)

    by_effect : (effect : Effect) → settled effect r ≡ over ending s → s ≡ r
    by_effect (goes l) f = absurd (cc)
    by_effect (released l) f = absurd (cc)
    by_effect (asks number arguments address line l) f = by_call (call number arguments r.system) address line l f
    by_effect (due turn l) f = by_left r.turns turn l f
    by_effect (fails c line) f = same f
    by_effect bad f = same f

-- the machine k is m, but for the activity of p, which is this one, and the marks
pub record Follows (m k : Machine) (p : Name) (forks : ℕ) (marks : List Name) (a : Activity) : Type 0 where
  pub found : find k.activities p ≡ Some a
  pub forked : a.forks ≡ forks
  pub others : (q : Name) → same q p ≡ false → find k.activities q ≡ find m.activities q
  pub named : names k.activities ≡ names m.activities
  pub marks_are : k.marks ≡ marks

-- it still is where p is given another activity
pub written : (m k : Machine) (p : Name) (forks : ℕ) (marks marks' : List Name) (a b : Activity) (r : Running) → Follows m k p forks marks a → b.forks ≡ forks
    → Follows m (back k p b marks' r) p forks marks' b
written m k p forks marks marks' a b r f e = record {
  found = find-with_at-same k.activities p b;
  forked = e;
  others = λ q n. find-with_at-other k.activities p q b n ∙ f.others q n;
  named = names-with_at k.activities p b a f.found ∙ f.named;
  marks_are = refl;
}

pub follows_itself : (m : Machine) (p : Name) (a : Activity) → find m.activities p ≡ Some a → Follows m m p a.forks m.marks a
follows_itself m p a e = record { found = e; forked = refl; others = λ q n. refl; named = refl; marks_are = refl }

module _ (fetch : ℕ → Option (Instruction × ℕ)) (m : Machine) (p : Name) (others : List Name) (forks : ℕ) where
  abbrev pub marks_after : Bool → List Name
  marks_after cleared = if cleared then [] else m.marks

  -- where the stint of n steps from k comes to
  pub record Turns (n : ℕ) (k : Machine) (turn : Turn) (r : Running) (cleared : Bool) : Type 0 where
    pub machine : Machine
    pub activity : Activity
    pub rest : ℕ
    pub before : ℕ
    pub follows : Follows m machine p forks (marks_after cleared) activity
    pub reached : followed fetch before k p others ≡ Some machine
    pub took : local_step fetch (length m.activities) (is_first p) (running_of machine activity) ≡ turned turn r
    pub last : step fetch machine p others ≡ at_turn machine p others activity turn r
    pub is : stint fetch n k p others ≡ stint_after (λ m. stint fetch rest m p others) (at_turn machine p others activity turn r)

  pub record Stopped (n : ℕ) (k : Machine) (ending : outcome.Ending) (r : Running) (cleared : Bool) : Type 0 where
    pub machine : Machine
    pub activity : Activity
    pub follows : Follows m machine p forks (marks_after cleared) activity
    pub runs : running_of machine activity ≡ r
    pub is : stint fetch n k p others ≡ stints.over ending (back machine p activity machine.marks r)

  abbrev pub Comes : (n : ℕ) → (k : Machine) → Paused → Type 0
  Comes n k going = ⊤
  Comes n k (pausing turn r cleared) = Turns n k turn r cleared
  Comes n k (stopping ending r cleared) = Stopped n k ending r cleared

  -- one step more
  one_more : (n : ℕ) (k l : Machine) (x : Paused) → step fetch k p others ≡ went l stays → Comes n l x → Comes (suc n) k x
  one_more n k l going e c = tt
  one_more n k l (pausing turn r cleared) e c = record {
    machine = c.machine;
    activity = c.activity;
    rest = c.rest;
    before = suc c.before;
    follows = c.follows;
    reached = ap (goes_with (λ m. followed fetch c.before m p others)) e ∙ c.reached;
    took = c.took;
    last = c.last;
    is = ap (stint_after (λ m. stint fetch n m p others)) e ∙ c.is;
  }
  one_more n k l (stopping ending r cleared) e c = record {
    machine = c.machine;
    activity = c.activity;
    follows = c.follows;
    runs = c.runs;
    is = ap (stint_after (λ m. stint fetch n m p others)) e ∙ c.is;
  }

  step_is : (k : Machine) (a : Activity) (r : Running) → find k.activities p ≡ Some a → running_of k a ≡ r → names k.activities ≡ names m.activities →
      step fetch k p others ≡ kernel k p others a (local_step fetch (length m.activities) (is_first p) r)
  step_is k a r found runs named =
      ap (step_of fetch k p others) found
      ∙ ap (λ n. kernel k p others a (local_step fetch n (is_first p) (running_of k a)))
      (sym (length-names k.activities) ∙ ap length named ∙ length-names m.activities)
      ∙ ap (λ r. kernel k p others a (local_step fetch (length m.activities) (is_first p) r)) runs

  pub comes : (n : ℕ) (k : Machine) (a : Activity) (r : Running) (cleared : Bool) → Follows m k p forks (marks_after cleared) a → running_of k a ≡ r →
      Comes n k (stretch fetch (length m.activities) (is_first p) n r cleared)
  comes zero k a r cleared f e = tt
  comes (suc n) k a r cleared f e =
      by_answer (local_step fetch (length m.activities) (is_first p) r) refl (step_is k a r f.found e f.named) (comes n)
    where
      -- it took a turn that the kernel handles
      turns : (turn : Turn) (s : Running) → local_step fetch (length m.activities) (is_first p) r ≡ turned turn s
          → step fetch k p others ≡ at_turn k p others a turn s → Turns (suc n) k turn s cleared
      turns turn s x g = record {
        machine = k;
        activity = a;
        rest = n;
        before = 0;
        follows = f;
        reached = refl;
        took = ap (local_step fetch (length m.activities) (is_first p)) e ∙ x;
        last = g;
        is = ap (stint_after (λ m. stint fetch n m p others)) g;
      }

      by_turn : (turn : Turn) (s : Running) → local_step fetch (length m.activities) (is_first p) r ≡ turned turn s
          → step fetch k p others ≡ at_turn k p others a turn s →
          ((l : Machine) (b : Activity) (s : Running) (cleared : Bool) → Follows m l p forks (marks_after cleared) b → running_of l b ≡ s
          → Comes n l (stretch fetch (length m.activities) (is_first p) n s cleared)) →
          Comes (suc n) k (after_turn (stretch fetch (length m.activities) (is_first p) n) cleared turn s)
      by_turn entering s x g more = one_more n k (back k p (activity_of s.local a.forks ready) [] s) _ g
          (more (back k p (activity_of s.local a.forks ready) [] s) (activity_of s.local a.forks ready) s true
          (written m k p forks _ [] a (activity_of s.local a.forks ready) s f f.forked) refl)
      by_turn leaving s x g more = one_more n k (back k p (activity_of s.local a.forks ready) [] s) _ g
          (more (back k p (activity_of s.local a.forks ready) [] s) (activity_of s.local a.forks ready) s true
          (written m k p forks _ [] a (activity_of s.local a.forks ready) s f f.forked) refl)
      by_turn looping s x g more = one_more n k (back k p (activity_of s.local a.forks ready) [] s) _ g
          (more (back k p (activity_of s.local a.forks ready) [] s) (activity_of s.local a.forks ready) s true
          (written m k p forks _ [] a (activity_of s.local a.forks ready) s f f.forked) refl)
      by_turn arriving s x g more = turns arriving s x g
      by_turn (again marks) s x g more = turns (again marks) s x g
      by_turn (forking branches) s x g more = turns (forking branches) s x g
      by_turn exiting s x g more = turns exiting s x g
      by_turn finishing s x g more = turns finishing s x g

      by_answer : (answer : Answer) → local_step fetch (length m.activities) (is_first p) r ≡ answer → step fetch k p others ≡ kernel k p others a answer →
          ((l : Machine) (b : Activity) (s : Running) (cleared : Bool) → Follows m l p forks (marks_after cleared) b → running_of l b ≡ s
          → Comes n l (stretch fetch (length m.activities) (is_first p) n s cleared)) →
          Comes (suc n) k (after_answer (stretch fetch (length m.activities) (is_first p) n) cleared answer)
      by_answer (on s) x g more =
          one_more n k (back k p (activity_of s.local a.forks ready) k.marks s) _ g
          (more (back k p (activity_of s.local a.forks ready) k.marks s) (activity_of s.local a.forks ready) s cleared
          (subst (λ ms. Follows m (back k p (activity_of s.local a.forks ready) k.marks s) p forks ms (activity_of s.local a.forks ready)) f.marks_are
          (written m k p forks _ k.marks a (activity_of s.local a.forks ready) s f f.forked)) refl)
      by_answer (behind s) x g more = one_more n k (back k p (activity_of s.local a.forks ready) [] s) _ g
          (more (back k p (activity_of s.local a.forks ready) [] s) (activity_of s.local a.forks ready) s true
          (written m k p forks _ [] a (activity_of s.local a.forks ready) s f f.forked) refl)
      by_answer (turned turn s) x g more = by_turn turn s x g more
      by_answer (over ending s) x g more =
          record {
            machine = k;
            activity = a;
            follows = f;
            runs = e ∙ sym (over_as (effect_at fetch (fetch r.local.pc) (length m.activities) (is_first p) r.local) r s ending x);
            is = ap (stint_after (λ m. stint fetch n m p others)) g;
          }

  -- ---- where the process is after n steps in which it goes on

  pub record Walked (n : ℕ) (k : Machine) (r : Running) (cleared : Bool) : Type 0 where
    pub machine : Machine
    pub activity : Activity
    pub follows : Follows m machine p forks (marks_after cleared) activity
    pub runs : running_of machine activity ≡ r
    pub is : followed fetch n k p others ≡ Some machine

  walk_more : (n : ℕ) (k l : Machine) (r : Running) (c : Bool) → followed fetch (suc n) k p others ≡ followed fetch n l p others → Walked n l r c
      → Walked (suc n) k r c
  walk_more n k l r c e w = record { machine = w.machine; activity = w.activity; follows = w.follows; runs = w.runs; is = e ∙ w.is }

  some_same : (x y : Running × Bool) → Some x ≡ Some y → x ≡ y
  some_same x y e = cc

  -- what is shown of n steps, from any machine
  abbrev Walks : ℕ → Type 0
  Walks n =
      (l : Machine) (b : Activity) (s : Running) (cleared : Bool) (to : Running) (c : Bool) → Follows m l p forks (marks_after cleared) b → running_of l b ≡ s →
      walked fetch (length m.activities) (is_first p) n s cleared ≡ Some (to, c) → Walked n l to c

  pub walks : (n : ℕ) (k : Machine) (a : Activity) (r : Running) (cleared : Bool) (to : Running) (c : Bool) → Follows m k p forks (marks_after cleared) a
      → running_of k a ≡ r →
      walked fetch (length m.activities) (is_first p) n r cleared ≡ Some (to, c) → Walked n k to c
  walks zero k a r cleared to c f e w =
      let same = some_same (r, cleared) (to, c) w in
      record {
        machine = k;
        activity = a;
        follows = subst (λ b. Follows m k p forks (marks_after b) a) (ap (λ x. x.1) same) f;
        runs = e ∙ ap (λ x. x.0) same;
        is = refl;
      }
  walks (suc n) k a r cleared to c f e w =
      by_answer (local_step fetch (length m.activities) (is_first p) r) (ap (goes_with (λ m. followed fetch n m p others)) (step_is k a r f.found e f.named))
      w (walks n)
    where
      -- it goes on, and the marks are taken away
      cleared_on : (s : Running) → followed fetch (suc n) k p others ≡ followed fetch n (back k p (activity_of s.local a.forks ready) [] s) p others →
          walked fetch (length m.activities) (is_first p) n s true ≡ Some (to, c) → Walks n → Walked (suc n) k to c
      cleared_on s g h more =
          walk_more n k (back k p (activity_of s.local a.forks ready) [] s) to c g
          (more (back k p (activity_of s.local a.forks ready) [] s) (activity_of s.local a.forks ready) s true to c
          (written m k p forks _ [] a (activity_of s.local a.forks ready) s f f.forked) refl h)

      by_turn : (turn : Turn) (s : Running) → followed fetch (suc n) k p others ≡ goes_with (λ m. followed fetch n m p others) (at_turn k p others a turn s) →
          walk_turn (walked fetch (length m.activities) (is_first p) n) turn s ≡ Some (to, c) → Walks n → Walked (suc n) k to c
      by_turn entering s g h more = cleared_on s g h more
      by_turn leaving s g h more = cleared_on s g h more
      by_turn looping s g h more = cleared_on s g h more
      by_turn arriving s g h more = absurd (cc)
      by_turn (again marks) s g h more = absurd (cc)
      by_turn (forking branches) s g h more = absurd (cc)
      by_turn exiting s g h more = absurd (cc)
      by_turn finishing s g h more = absurd (cc)

      by_answer : (answer : Answer) → followed fetch (suc n) k p others ≡ goes_with (λ m. followed fetch n m p others) (kernel k p others a answer) →
          walk_on (walked fetch (length m.activities) (is_first p) n) cleared answer ≡ Some (to, c) → Walks n → Walked (suc n) k to c
      by_answer (on s) g h more =
          walk_more n k (back k p (activity_of s.local a.forks ready) k.marks s) to c g
          (more (back k p (activity_of s.local a.forks ready) k.marks s) (activity_of s.local a.forks ready) s cleared to c
          (subst (λ ms. Follows m (back k p (activity_of s.local a.forks ready) k.marks s) p forks ms (activity_of s.local a.forks ready)) f.marks_are
          (written m k p forks _ k.marks a (activity_of s.local a.forks ready) s f f.forked)) refl h)
      by_answer (behind s) g h more = cleared_on s g h more
      by_answer (turned turn s) g h more = by_turn turn s g h more
      by_answer (over ending s) g h more = absurd (cc)
