-- A step leaves the segments nested, and the frames and segments of all other processes as they were.
use Rattle.std.proofs.Common.{◌≡◌, ℕ, zero, suc, ◌+◌, ◌-◌, ◌*◌, ◌/◌, ◌<◌, ◌≤◌, ◌⊎◌, inl, inr, Bool, true, false, if◌then◌else◌, List, [], ◌∷◌, length}
use Rattle.std.proofs.Common.{Option, Some, None, refl, sym, subst, ap, ◌∙◌, arith}
use Rattle.std.specs.Prelude.{⊤}
use Rattle.std.proofs.lemmas.Nat.{div-add-mod'}
use Rattle.edi_calls.proofs.Names.{some_is, parent-child, child_some}
use Rattle.edi_calls.specs.Names.{Name, Table, same, find, with_at, without}
use Rattle.edi_calls.specs.Ready.{child, parent_of, all_marked}
use Rattle.edi_calls.specs.Calls.{CallResult, answered, no_file, file_limit, call}
use Rattle.edi_calls.proofs.Tables.{same-refl, same-or-other, find-with_at-same, find-with_at-other, find-without-other}
use Rattle.edi_target.specs.Op.{Instruction, Branch}
use Rattle.edi_target.specs.Effect.{Local, Turn, entering, leaving, looping, arriving, again, forking, exiting, finishing, Effect, goes, released, asks, due}
use Rattle.edi_target.specs.Effect.{fails, bad}
use Rattle.edi_target.specs.Perform.{share_of}
use Rattle.edi_target.specs.Mach.{Running, Answer, on, behind, turned, over, answer_at, called, turn_from, settled, effect_at, local_step, Standing, ready}
use Rattle.edi_target.specs.Mach.{at_when, waiting, Activity, Machine, Stepped, running_of, activity_of, back, with_children, awaits, one_less, notified}
use Rattle.edi_target.specs.Mach.{exited, attempted, at_turn, kernel, is_first, step_of, step}
use Rattle.edi_target.specs.segments.Nested.{machine_after, IsInOrder, Stays, unchanged, awaited}
use Rattle.edi_target.proofs.segments.Keeping.{HaveRoom, Is, Keeping, Allows, each}
use Rattle.edi_target.proofs.segments.Families.{IsFree, Sound, Alike, no_children, was, replaced, left}
use Rattle.edi_target.proofs.segments.Children as children
use Rattle.edi_target.proofs.segments.Children.{Stage, born, others_stay}

-- ---- what an activity answers

module _ (first last : ℕ) where
  abbrev pub Fine : Answer → Type 0
  Fine (on r) = Is first last r.local
  Fine (behind r) = Is first last r.local
  Fine (turned (forking branches) r) = Is first last r.local × HaveRoom (share_of r.local (length branches)) branches
  Fine (turned kind r) = Is first last r.local
  Fine (over ending r) = ⊤

  answer_fits : (address : Option ℕ) (words : List ℕ) (l : Local) → Is first last l → Is first last (answer_at address words l)
  answer_fits None words l h = h
  answer_fits (Some address) words l h = h

  called_fine : (result : CallResult) (address : Option ℕ) (line : ℕ) (l : Local) (r : Running) → Is first last l → Fine (called result address line l r)
  called_fine (answered words system) address line l r h = answer_fits address words l h
  called_fine no_file address line l r h = tt
  called_fine file_limit address line l r h = tt

  turn_fine : (turns : ℕ) (kind : Turn) (l : Local) (r : Running) → Keeping first last (due kind l) → Fine (turn_from turns kind l r)
  turn_fine zero kind l r h = tt
  turn_fine (suc n) entering l r h = h
  turn_fine (suc n) leaving l r h = h
  turn_fine (suc n) looping l r h = h
  turn_fine (suc n) arriving l r h = h
  turn_fine (suc n) (again marks) l r h = h
  turn_fine (suc n) (forking branches) l r h = h
  turn_fine (suc n) exiting l r h = h
  turn_fine (suc n) finishing l r h = h

  settled_fine : (effect : Effect) (r : Running) → Keeping first last effect → Fine (settled effect r)
  settled_fine (goes l) r h = h
  settled_fine (released l) r h = h
  settled_fine (asks number arguments address line l) r h = called_fine (call number arguments r.system) address line l r h
  settled_fine (due kind l) r h = turn_fine r.turns kind l r h
  settled_fine (fails c line) r h = tt
  settled_fine bad r h = tt

-- ---- what the kernel makes of it

-- what a step of p leaves of the activities
pub record Left (t : Table Activity) (p : Name) (u : Table Activity) : Type 0 where
  pub sound : Sound u
  pub others : (q : Name) (b : Activity) → same q p ≡ false → find t q ≡ Some b → Stays u q b

module _ (m : Machine) (p : Name) (a : Activity) (lives : find m.activities p ≡ Some a) (free : IsFree a) (s : Sound m.activities) where
  abbrev pub Leaves : Stepped → Type 0
  Leaves x = Left m.activities p (machine_after x).activities

  -- its activity is another one, in the same segment
  changed : (a' : Activity) → Alike a a' → IsInOrder a' → Left m.activities p (with_at m.activities p a')
  changed a' alike order = record {
    sound = replaced m.activities p a lives free s a' alike order;
    others = λ q b n e. unchanged (find-with_at-other m.activities p q a' n ∙ e);
  }

  now : (l : Local) (forks : ℕ) (standing : Standing) → Is a.first a.last l → Left m.activities p (with_at m.activities p (activity_of l forks standing))
  now l forks standing h = changed (activity_of l forks standing) (sym h.from_is, sym h.upto_is) h.order

  as_before : Left m.activities p (with_at m.activities p a)
  as_before = changed a (refl, refl) (s.ordered p a lives)

  either : (b : Bool) (x y : Stepped) → Leaves x → Leaves y → Leaves (if b then x else y)
  either true x y h k = h
  either false x y h k = k

  -- an attempt that failed
  tried : (others : List Name) (marks : Bool) (r : Running) → Is a.first a.last r.local → Leaves (attempted m p others a marks r)
  tried others false r h = now r.local a.forks at_when h
  tried others true r h = either (all_marked (p ∷ m.marks) (p ∷ others)) _ _ (now r.local a.forks at_when h) (now r.local a.forks at_when h)

  -- a child that ends
  rest : Left m.activities p (without m.activities p)
  rest = record {
    sound = left m.activities p a lives free s;
    others = λ q b n e. unchanged (find-without-other m.activities p q n ∙ e);
  }

  less : (y : Activity) (n : ℕ) → find (without m.activities p) (parent_of p) ≡ Some y → y.standing ≡ waiting n →
      Left m.activities p (with_at (without m.activities p) (parent_of p) (record y { standing = awaits (n - 1) }))
  less y n found waits = record {
    sound = children.awaited m.activities p a lives free s y n found waits;
    others = λ q b k e. other q b k e (same-or-other q (parent_of p));
  }
    where
      other : (q : Name) (b : Activity) → same q p ≡ false → find m.activities q ≡ Some b → (q ≡ parent_of p) ⊎ (same q (parent_of p) ≡ false) →
          Stays (with_at (without m.activities p) (parent_of p) (record y { standing = awaits (n - 1) })) q b
      other q b k e (inr d) =
          unchanged (find-with_at-other (without m.activities p) (parent_of p) q (record y { standing = awaits (n - 1) }) d ∙ find-without-other m.activities
          p q k ∙ e)
      other q b k e (inl i) =
          let one : y ≡ b = some_is (sym found ∙ sym (ap (find (without m.activities p)) i) ∙ find-without-other m.activities p q k ∙ e) in
          awaited n (sym (ap (λ x. x.standing) one) ∙ waits)
          (ap (find (with_at (without m.activities p) (parent_of p) (record y { standing = awaits (n - 1) }))) i
          ∙ find-with_at-same (without m.activities p) (parent_of p) (record y { standing = awaits (n - 1) })
          ∙ ap (λ (x : Activity). let z : Activity = record x { standing = awaits (n - 1) } in Some z) one)

  abbrev without_it : Running → Machine
  without_it r = record { memory = r.local.memory; activities = without m.activities p; marks = []; turns = r.turns; system = r.system }

  lessening : (r : Running) (y : Activity) (standing : Standing) → find (without m.activities p) (parent_of p) ≡ Some y → y.standing ≡ standing
      → Leaves (one_less (without_it r) (parent_of p) y standing)
  lessening r y ready found e = rest
  lessening r y at_when found e = rest
  lessening r y (waiting n) found e = less y n found e

  telling : (r : Running) (y : Option Activity) → find (without m.activities p) (parent_of p) ≡ y → Leaves (notified (without_it r) (parent_of p) y)
  telling r None e = rest
  telling r (Some y) e = lessening r y y.standing e refl

  gone : (r : Running) → Leaves (exited m p r)
  gone r = telling r (find (without m.activities p) (parent_of p)) refl

  -- a fork
  module _ (l : Local) (forks n : ℕ) (h : Is a.first a.last l) where
    abbrev parent : Activity
    parent = activity_of l forks (waiting n)

    nobody : (r : Name) (b : Activity) → 0 < length r → parent_of r ≡ p → find (with_at m.activities p parent) r ≡ Some b → ⊥
    nobody r b some own e =
        let c : (c : Activity) × (find m.activities r ≡ Some c) × Alike c b = was m.activities p a lives free s parent (sym h.from_is, sym h.upto_is) h.order
        r b e in
        let yes : same (parent_of r) p ≡ true = ap (λ y. same y p) own ∙ same-refl p in
        let no : true ≡ false = sym yes ∙ no_children m.activities p a lives free s r c.0 some c.1 in
        absurd (cc)

    stage : Stage (with_at m.activities p parent) p parent l.end n
    stage = record {
      sound = (now l forks (waiting n) h).sound;
      lives = find-with_at-same m.activities p parent;
      begins = omega arith;
      below = λ r b some own e. absurd (nobody r b some own e);
      idle = λ r b some own e. absurd (nobody r b some own e);
      list = [];
      size = λ k e. omega (arith, numbers n k e);
      all = λ r b some own e. absurd (nobody r b some own e);
    }
      where
        numbers : (n k : ℕ) → waiting n ≡ waiting k → n ≡ k
        numbers n k e = cc

  -- who lives is no child of p
  pub no_child : (q : Name) (b : Activity) (f i : ℕ) → find m.activities q ≡ Some b → same q (child p f i) ≡ false
  no_child q b f i e = go (same-or-other q (child p f i))
    where
      go : (q ≡ child p f i) ⊎ (same q (child p f i) ≡ false) → same q (child p f i) ≡ false
      go (inr n) = n
      go (inl k) =
          let yes : same (parent_of q) p ≡ true = ap (λ y. same (parent_of y) p) k ∙ ap (λ y. same y p) (parent-child p f i) ∙ same-refl p in
          let no : true ≡ false = sym yes ∙ no_children m.activities p a lives free s q b (subst (λ y. 0 < length y) (sym k) (child_some p f i)) e in
          absurd (cc)

  abbrev waiting_now : (r : Running) (n : ℕ) → Machine
  waiting_now r n = back m p (activity_of r.local (suc a.forks) (waiting n)) [] r

  -- the children of a fork are born, n of them
  forked : (branches : List Branch) (n : ℕ) (r : Running) → length branches ≡ n → Is a.first a.last r.local → HaveRoom ((r.local.last - r.local.end) / n)
      branches →
      Left m.activities p (with_children p (suc a.forks) 0 r.local.base r.local.end ((r.local.last - r.local.end) / n) branches (waiting_now r n)).activities
  forked branches n r count h room = record {
    sound = born p (suc a.forks) r.local.base ((r.local.last - r.local.end) / n) (activity_of r.local (suc a.forks) (waiting n)) n refl branches 0 r.local.end
        (waiting_now r n)
        (subst (Stage (with_at m.activities p (activity_of r.local (suc a.forks) (waiting n))) p (activity_of r.local (suc a.forks) (waiting n)) r.local.end)
        (sym count) (stage r.local (suc a.forks) n h))
        room
        (subst (λ k. r.local.end + (r.local.last - r.local.end) / n * k ≤ r.local.last) (sym count)
        (omega (arith, div-add-mod' (r.local.last - r.local.end) n, h.order.ends)));
    others = λ q b d e.
        unchanged (others_stay p (suc a.forks) r.local.base ((r.local.last - r.local.end) / n) q (λ i. no_child q b (suc a.forks) i e) branches 0 r.local.end
        (waiting_now r n)
        ∙ find-with_at-other m.activities p q (activity_of r.local (suc a.forks) (waiting n)) d ∙ e);
  }

  turn_leaves : (others : List Name) (kind : Turn) (r : Running) → Fine a.first a.last (turned kind r) → Leaves (at_turn m p others a kind r)
  turn_leaves others entering r h = now r.local a.forks ready h
  turn_leaves others leaving r h = now r.local a.forks ready h
  turn_leaves others looping r h = now r.local a.forks ready h
  turn_leaves others arriving r h = now r.local a.forks at_when h
  turn_leaves others (again marks) r h = tried others marks r h
  turn_leaves others (forking branches) r h = forked branches (length branches) r refl h.0 h.1
  turn_leaves others exiting r h = gone r
  turn_leaves others finishing r h = now r.local a.forks ready h

  kernel_leaves : (others : List Name) (answer : Answer) → Fine a.first a.last answer → Leaves (kernel m p others a answer)
  kernel_leaves others (on r) h = now r.local a.forks ready h
  kernel_leaves others (behind r) h = now r.local a.forks ready h
  kernel_leaves others (turned kind r) h = turn_leaves others kind r h
  kernel_leaves others (over ending r) h = as_before

  -- the instruction that stands there
  module _ (code : ℕ → Option (Instruction × ℕ)) (allows : (at : ℕ) → Allows a.first a.last (code at)) where
    effect_keeps : (found : Option (Instruction × ℕ)) → Allows a.first a.last found → (live : ℕ) (first : Bool) (l : Local) → Is a.first a.last l
        → Keeping a.first a.last (effect_at code found live first l)
    effect_keeps None allowed live first l h = tt
    effect_keeps (Some x) allowed live first l h = (each a.first a.last code allows live first l x.0 x.1 h allowed).keeping

    taken_is : Is a.first a.last (running_of m a).local
    taken_is = record { from_is = refl; upto_is = refl; order = s.ordered p a lives }

    pub step_leaves : (others : List Name) → Leaves (step code m p others)
    step_leaves others =
        subst (λ x. Leaves (step_of code m p others x)) (sym lives)
        (kernel_leaves others (local_step code (length m.activities) (is_first p) (running_of m a))
        (settled_fine a.first a.last _ (running_of m a)
        (effect_keeps (code a.pc) (allows a.pc) (length m.activities) (is_first p) (running_of m a).local taken_is)))
