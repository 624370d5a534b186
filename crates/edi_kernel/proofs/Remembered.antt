-- Who may go on is in the list of those that are ready, and who waits has children: then somebody is in the list.
use Rattle.std.proofs.Common.{◌≡◌, ℕ, zero, suc, ◌+◌, ◌<◌, ◌≤◌, ◌⊎◌, inl, inr, Bool, true, false, ◌||◌, if◌then◌else◌, max, List, [], ◌∷◌}
use Rattle.std.proofs.Common.{length, Option, Some, refl, sym, subst, ap, ◌∙◌, arith}
use Rattle.std.specs.Prelude.{⊤}
use Rattle.edi_calls.specs.declared.kinds.Cause.{Cause}
use Rattle.edi_calls.specs.declared.kinds.Cause.TheVariants as cause
use Rattle.edi_calls.specs.Calls.{CallResult, answered, no_file, file_limit, call}
use Rattle.edi_calls.specs.Names.{Name, Table, same, find}
use Rattle.edi_calls.specs.Outcome as outcome
use Rattle.edi_calls.specs.Ready.{child, children, parent_of, has}
use Rattle.edi_calls.proofs.Names.{parent-child, child_some}
use Rattle.edi_calls.proofs.Tables.{same-refl, same-equal, same-or-other, find-with_at-other}
use Rattle.edi_target.specs.Op.{Branch}
use Rattle.edi_target.specs.Effect.{Local, Turn, entering, leaving, looping, arriving, again, forking, exiting, finishing, Effect, goes, released, asks, due}
use Rattle.edi_target.specs.Effect.{fails, bad}
use Rattle.edi_target.specs.Mach.{Running, Answer, on, behind, turned, over, ending_of, called, turn_from, settled, Standing, ready}
use Rattle.edi_target.specs.Mach.{at_when, waiting, Activity, Machine, with_child, with_children}
use Rattle.edi_target.specs.segments.Nested.{MayGoOn}
use Rattle.edi_target.proofs.segments.Families.{parent_shorter}
use Rattle.edi_target.proofs.segments.Queues.{Once}
use Rattle.edi_target.proofs.segments.Running.{has-here}
use Rattle.edi_machine.specs.Steps.{Forks}
use Rattle.edi_kernel.proofs.Effects.{Fits}
use Rattle.edi_kernel.proofs.NameLists.{or_right}

-- the children of a fork
pub counted : (p : Name) (f i n : ℕ) → length (children p f i n) ≡ n
counted p f i zero = refl
counted p f i (suc n) = ap suc (counted p f (suc i) n)

pub child_of : (p : Name) (f i n : ℕ) (r : Name) → has (children p f i n) r ≡ true → (parent_of r ≡ p) × (0 < length r)
child_of p f i zero r h = absurd (cc)
child_of p f i (suc n) r h = go (same-or-other r (child p f i)) (child_of p f (suc i) n r)
  where
    go : (r ≡ child p f i) ⊎ (same r (child p f i) ≡ false) → (has (children p f (suc i) n) r ≡ true → (parent_of r ≡ p) × (0 < length r))
        → (parent_of r ≡ p) × (0 < length r)
    go (inl k) ih = (ap parent_of k ∙ parent-child p f i, subst (λ x. 0 < length x) (sym k) (child_some p f i))
    go (inr d) ih = ih (sym (ap (λ b. b || has (children p f (suc i) n) r) d) ∙ h)

-- who lives after a fork is a child of it, or lived before
pub born_only : (p : Name) (f base share : ℕ) (q : Name) (b : Activity) (branches : List Branch) (i at : ℕ) (m : Machine)
    → find (with_children p f i base at share branches m).activities q ≡ Some b
    → (has (children p f i (length branches)) q ≡ true) ⊎ (find m.activities q ≡ Some b)
born_only p f base share q b [] i at m e = inr e
born_only p f base share q b (branch ∷ branches) i at m e =
    go (born_only p f base share q b branches (suc i) (at + share) (with_child (child p f i) base at share branch m) e) (same-or-other q (child p f i))
  where
    go : (has (children p f (suc i) (length branches)) q ≡ true) ⊎ (find (with_child (child p f i) base at share branch m).activities q ≡ Some b)
        → (q ≡ child p f i) ⊎ (same q (child p f i) ≡ false)
        → (has (children p f i (length (branch ∷ branches))) q ≡ true) ⊎ (find m.activities q ≡ Some b)
    go (inl h) k = inl (or_right (same q (child p f i)) (has (children p f (suc i) (length branches)) q) h)
    go (inr h) (inl k) = inl (ap (λ x. x || has (children p f (suc i) (length branches)) q) (ap (λ x. same x (child p f i)) k ∙ same-refl (child p f i)))
    go (inr h) (inr n) = inr (sym (find-with_at-other m.activities (child p f i) q _ n) ∙ h)

-- ---- nobody is forgotten

-- r is a child of p and lives
pub record IsChild (t : Table Activity) (p r : Name) : Type 0 where
  pub own : parent_of r ≡ p
  pub some : 0 < length r
  pub activity : Activity
  pub lives : find t r ≡ Some activity

-- n children of p live at least, and n is not 0
pub record Many (t : Table Activity) (p : Name) (n : ℕ) : Type 0 where
  pub list : List Name
  pub some : 0 < n
  pub size : n ≤ length list
  pub once : Once list
  pub each : (r : Name) → has list r ≡ true → IsChild t p r

-- who may go on is in the list, who waits has children, and the first process lives
pub record Full (m : Machine) (queue : List Name) : Type 0 where
  pub all : (q : Name) → MayGoOn m q → has queue q ≡ true
  pub many : (q : Name) (b : Activity) (n : ℕ) → find m.activities q ≡ Some b → b.standing ≡ waiting n → Many m.activities q n
  pub first : (b : Activity) × (find m.activities [] ≡ Some b)

pub many_stay : (t u : Table Activity) (q : Name) (n : ℕ)
    → ((r : Name) (b : Activity) → parent_of r ≡ q → 0 < length r → find t r ≡ Some b → (c : Activity) × (find u r ≡ Some c)) → Many t q n → Many u q n
many_stay t u q n stay many = record {
  list = many.list;
  some = many.some;
  size = many.size;
  once = many.once;
  each = λ r h. let c : IsChild t q r = many.each r h in
      let d : (d : Activity) × (find u r ≡ Some d) = stay r c.activity c.own c.some c.lives in
      record { own = c.own; some = c.some; activity = d.0; lives = d.1 };
}

-- ---- and so somebody may go on

longest : Table Activity → ℕ
longest [] = 0
longest (entry ∷ t) = max (length entry.0) (longest t)

not_longer : (t : Table Activity) (q : Name) (b : Activity) → find t q ≡ Some b → length q ≤ longest t
unfolding longest
not_longer [] q b e = absurd (cc)
not_longer (entry ∷ t) q b e = go (same q entry.0) refl e (not_longer t q b)
  where
    go : (c : Bool) → same q entry.0 ≡ c → (if c then Some entry.1 else find t q) ≡ Some b → (find t q ≡ Some b → length q ≤ longest t)
        → length q ≤ max (length entry.0) (longest t)
    go true k h ih = let one : length q ≡ length entry.0 = ap length (same-equal q entry.0 k) in omega (arith, one)
    go false k h ih = omega (arith, ih h)

first_in : (ps : List Name) → 0 < length ps → (r : Name) × (has ps r ≡ true)
first_in [] some = absurd (omega (arith, some))
first_in (p ∷ ps) some = (p, has-here p ps)

module _ (m : Machine) (queue : List Name) (f : Full m queue) where
  climb : (fuel : ℕ) (q : Name) (b : Activity) → find m.activities q ≡ Some b → longest m.activities < length q + fuel → (x : Name) × (has queue x ≡ true)
  climb zero q b e less = absurd (omega (arith, less, not_longer m.activities q b e))
  climb (suc fuel) q b e less = go b.standing refl (climb fuel)
    where
      go : (standing : Standing) → b.standing ≡ standing
          → ((r : Name) (c : Activity) → find m.activities r ≡ Some c → longest m.activities < length r + fuel → (x : Name) × (has queue x ≡ true))
          → (x : Name) × (has queue x ≡ true)
      go ready k rest =
          (q, f.all q (record { activity = b; lives = e; free = λ n w. let no : ready ≡ waiting n = sym k ∙ w in absurd (cc) }))
      go at_when k rest =
          (q, f.all q (record { activity = b; lives = e; free = λ n w. let no : at_when ≡ waiting n = sym k ∙ w in absurd (cc) }))
      go (waiting n) k rest =
          let many : Many m.activities q n = f.many q b n e k in
          let r : (r : Name) × (has many.list r ≡ true) = first_in many.list (omega (arith, many.some, many.size)) in
          let c : IsChild m.activities q r.0 = many.each r.0 r.1 in
          let own : length (parent_of r.0) ≡ length q = ap length c.own in
          rest r.0 c.activity c.lives (omega (arith, less, own, parent_shorter r.0 c.some))

  pub someone : (x : Name) × (has queue x ≡ true)
  someone = climb (suc (longest m.activities)) [] f.first.0 f.first.1 (omega arith)

-- ---- what an activity answers

abbrev pub Fair : (first : Bool) → Answer → Type 0
Fair first (turned (forking branches) r) = 0 < length branches
Fair first (turned exiting r) = first ≡ false
Fair first (turned kind r) = ⊤
Fair first (over outcome.standstill r) = ⊥
Fair first (over ending r) = ⊤
Fair first (on r) = ⊤
Fair first (behind r) = ⊤

module _ (words : List ℕ) (at live : ℕ) (first : Bool) where
  call_fair : (result : CallResult) (address : Option ℕ) (line : ℕ) (l : Local) (r : Running) → Fair first (called result address line l r)
  call_fair (answered ws system) address line l r = tt
  call_fair no_file address line l r = tt
  call_fair file_limit address line l r = tt

  turn_fair : (turns : ℕ) (kind : Turn) (l : Local) (r : Running) → Forks (due kind l) words at → Fits live first (due kind l)
      → Fair first (turn_from turns kind l r)
  turn_fair zero kind l r fork fits = tt
  turn_fair (suc n) entering l r fork fits = tt
  turn_fair (suc n) leaving l r fork fits = tt
  turn_fair (suc n) looping l r fork fits = tt
  turn_fair (suc n) arriving l r fork fits = tt
  turn_fair (suc n) (again marks) l r fork fits = tt
  turn_fair (suc n) (forking branches) l r fork fits = fork.some
  turn_fair (suc n) exiting l r fork fits = fits
  turn_fair (suc n) finishing l r fork fits = tt

  failure_fair : (c : Cause) (line : ℕ) (r : Running) → Fair first (over (ending_of c line) r)
  failure_fair cause.Range line r = tt
  failure_fair cause.VariableLimit line r = tt
  failure_fair cause.ProcessLimit line r = tt
  failure_fair cause.Held line r = tt
  failure_fair cause.NoFile line r = tt
  failure_fair cause.FileLimit line r = tt
  failure_fair cause.Halt line r = tt

  pub settled_fair : (e : Effect) (r : Running) → Forks e words at → Fits live first e → Fair first (settled e r)
  settled_fair (goes l) r fork fits = tt
  settled_fair (released l) r fork fits = tt
  settled_fair (asks number arguments address line l) r fork fits = call_fair (call number arguments r.system) address line l r
  settled_fair (due kind l) r fork fits = turn_fair r.turns kind l r fork fits
  settled_fair (fails c line) r fork fits = failure_fair c line r
  settled_fair bad r fork fits = tt
