-- A branch comes to its end.
use Rattle.std.proofs.Common.{◌≡◌, ℕ, zero, suc, ◌+◌, ◌-◌, ◌<◌, ◌≤◌, inl, inr, Bool, true, false, ◌&&◌, not, nat_eq, nat_lt, nat_le, List, [], ◌∷◌, ◌++◌}
use Rattle.std.proofs.Common.{length, map, Option, Some, None, refl, sym, ◌∙◌, ap, arith, subst, slice_set, slice_index_or, eq-eqb, length-append}
use Rattle.std.proofs.lemmas.Bool.{cases_eq, ne_eqb, leb-true, leb-false}
use Rattle.std.proofs.lemmas.List.{length_push, append-nil}
use Rattle.edi_calls.specs.Names.{Name, same, find, with_at, without, names}
use Rattle.edi_calls.specs.Ready.{has, child, parent_of, joins, freed}
use Rattle.edi_calls.proofs.Tables.{same-or-other, find-with_at-same, find-with_at-other, find-without-same, find-without-other}
use Rattle.edi_target.specs.Mach as mach
use Rattle.edi_target.specs.Mach.{Machine, Running, Stepped, went, activity_of, awaits, one_less, notified, exited}
use Rattle.edi_ring.specs.Lists.{home_of}
use Rattle.edi_kernel.specs.declared.table.Standing.{Standing}
use Rattle.edi_kernel.specs.declared.table.Standing.TheVariants as standing
use Rattle.edi_kernel.specs.declared.table.Process.{Process}
use Rattle.edi_kernel.specs.declared.table.Table.{Table}
use Rattle.edi_kernel.specs.Table.{PutsProcess, Notifies, NotifiesOne, Removed, process_at, ready_slots, free_slots, is_live, is_free_home, is_waiting, no_marks}
use Rattle.edi_kernel.specs.Named.{SlotsStay}
use Rattle.edi_kernel.specs.TableIsMachine.{IsTable, IsTaken, Naming, Once, Awaits, Born, TableIsMachine, entry_of, standing_of, children_of}
use Rattle.edi_calls.proofs.Names.{parent-child}
use Rattle.edi_kernel.proofs.Counts.{map-append}
use Rattle.edi_kernel.proofs.Changes.{one_changes, length-names}
use Rattle.edi_kernel.proofs.Deaths as deaths
use Rattle.edi_kernel.proofs.Lists.{put_list, put_other, put_home_here, put_home_there, put_here, put_there, put_lives, put_table, unmarked_at}
use Rattle.edi_kernel.proofs.Walks.{Follows, names-with_at}
use Rattle.edi_kernel.proofs.Switches.{At, taken_live}

-- ---- the slot is free

module _ (t u : Table) (p : ℕ) (table : IsTable t) (taken : IsTaken t p) (put : PutsProcess 1 p (process_at t p) t u) where
  freed_there : (i : ℕ) → process_at u i ≡ process_at t i
  freed_there i = elim (cases_eq i p) [
    | inl e ↦ ap (process_at u) e ∙ put_here t u 1 p (process_at t p) put (omega (arith, table.wide, taken.inside)) ∙ sym (ap (process_at t) e)
    | inr ne ↦ put_there t u 1 p (process_at t p) put i ne
  ]

  freed_lives : (i : ℕ) → is_live u i ≡ (not (nat_eq i p) && is_live t i)
  freed_lives i = elim (cases_eq i p) [
    | inl e ↦
        ap (λ b. nat_lt i 32 && not b) (ap (λ j. is_free_home (home_of u.lists j)) e ∙ ap is_free_home (put_home_here t u 1 p (process_at t p) put))
        ∙ dead (nat_lt i 32)
        ∙ sym (ap (λ b. not b && is_live t i) (eq-eqb i p e))
    | inr ne ↦
        ap (λ h. nat_lt i 32 && not (is_free_home h)) (put_home_there t u 1 p (process_at t p) put i ne)
        ∙ sym (ap (λ b. not b && is_live t i) (ne_eqb i p ne))
  ]
    where
      dead : (b : Bool) → (b && false) ≡ false
      dead true = refl
      dead false = refl

  freed_ready : ready_slots u ≡ ready_slots t
  freed_ready = put_other t u 1 p (process_at t p) put table.sound (omega arith) 0 (λ e. omega (arith, e))

  freed_free : length (free_slots u) ≡ length (free_slots t) + 1
  freed_free = ap length (put_list t u 1 p (process_at t p) put table.sound (omega arith)) ∙ length_push (free_slots t) p

  pub freed_table : 0 < p → IsTable u
  freed_table pos = put_table t u 1 p (process_at t p) table put (inr pos) taken.inside (table.parents p) (table.ordered p taken.inside) taken.going

  no_children : (n : Naming) (m : Machine) → TableIsMachine t n m → children_of t p ≡ 0
  no_children n m s = none (process_at t p).standing (children_of t p) taken.going (s.awaits p (taken_live t p taken))
    where
      none : (s : Standing) (c : ℕ) → is_waiting s ≡ false → Awaits s c → c ≡ 0
      none standing.Ready c w h = h
      none standing.AtWhen c w h = h
      none (standing.Waiting x) c w h = absurd (cc)

  module _ (n : Naming) (m k : Machine) (a : mach.Activity) (xs : List Name) (r : Running) where
    -- the machine without the process
    abbrev rest : Machine
    rest = record { memory = r.local.memory; activities = without k.activities (n.name p); marks = []; turns = r.turns; system = r.system }

    gone : TableIsMachine t n m → 0 < p → Follows m k (n.name p) (n.forks p) xs a → t.marked ≡ no_marks → deaths.Ends t u n m rest p
    gone s pos f unmarked = record {
      stands = s;
      live = taken_live t p taken;
      later = pos;
      there = freed_there;
      lives = freed_lives;
      free = freed_free;
      others = λ q ne. find-without-other k.activities (n.name p) q ne ∙ f.others q ne;
      named = λ q h. let b : (has (names k.activities) q ≡ true) × (same q (n.name p) ≡ false) = deaths.has-without k.activities (n.name p) q h in
          (sym (ap (λ ns. has ns q) f.named) ∙ b.0, b.1);
      once = deaths.once-without k.activities (n.name p) (subst Once (sym f.named) s.once);
      one_less = deaths.length-without k.activities (n.name p) a (subst Once (sym f.named) s.once) f.found ∙ same_length k.activities m.activities f.named;
      marks = λ i l. sym (ap (λ ms. slice_index_or ms i false) (put.marked ∙ unmarked) ∙ none i);
      childless = no_children n m s;
    }
      where
        same_length : (es fs : List (Name × mach.Activity)) → names es ≡ names fs → length es ≡ length fs
        same_length es fs e = sym (length-names es) ∙ ap length e ∙ length-names fs

        none : (i : ℕ) → slice_index_or no_marks i false ≡ false
        none i = unmarked_at 32 i

-- ---- its parent is notified

-- the kernel's end of a branch is the machine's
pub record Exited (u : Table) (n : Naming) (before after : List Name) (s : Stepped) : Type 0 where
  pub machine : Machine
  pub joined : List Name
  pub is : s ≡ went machine (joins joined)
  pub stands : TableIsMachine u n machine
  pub ready : after ≡ before ++ joined

module _ (t u : Table) (n : Naming) (m : Machine) (p w : ℕ) where
  -- the process at p waits for w children, and one less of them is left
  pub record Waits : Type 0 where
    pub table : IsTable t
    pub stands : TableIsMachine t n m
    pub live : is_live t p ≡ true
    pub unmarked : t.marked ≡ no_marks
    pub none : m.marks ≡ []
    pub waiting : (process_at t p).standing ≡ standing.Waiting w
    pub few : suc (children_of t p) ≤ w

  module _ (h : Waits) where
    abbrev entry : mach.Activity
    entry = entry_of (process_at t p) (n.forks p)

    -- the machine where it is this instead
    abbrev changed : mach.Standing → Machine
    changed s = record m { activities = with_at m.activities (n.name p) (record entry { standing = s }) }

    changes : (s : Standing) → u.processes ≡ slice_set t.processes p (record (process_at t p) { standing = s }) → ((i : ℕ) → is_live u i ≡ is_live t i) →
        length (free_slots u) ≡ length (free_slots t) → u.marked ≡ t.marked → Awaits s (children_of t p) → TableIsMachine u n (changed (standing_of s))
    changes s e lives free marked few =
        one_changes t u n n.forks m (changed (standing_of s)) p (record (process_at t p) { standing = s })
        (record {
          stands = h.stands;
          live = h.live;
          wide = h.table.wide;
          processes = e;
          parent = refl;
          lives = lives;
          free = free;
          forks_here = omega arith;
          forks_there = λ i ne. refl;
          found_here = find-with_at-same m.activities (n.name p) (record entry { standing = standing_of s });
          found_there = λ q ne. find-with_at-other m.activities (n.name p) q (record entry { standing = standing_of s }) ne;
          named = names-with_at m.activities (n.name p) (record entry { standing = standing_of s }) entry (h.stands.found p h.live);
          marks = λ i l. ap (λ ms. has ms (n.name i)) h.none ∙ sym (ap (λ ms. slice_index_or ms i false) (marked ∙ h.unmarked) ∙ unmarked_at 32 i);
          awaits = few;
        })

    homeless : home_of t.lists p ≡ None
    homeless = h.table.waiting p (ap is_waiting h.waiting)

    step_is : one_less m (n.name p) entry entry.standing ≡ went (changed (awaits (w - 1))) (freed (w - 1) (n.name p))
    step_is = ap (λ s. one_less m (n.name p) entry (standing_of s)) h.waiting

    by_number : (v : ℕ) → w ≡ suc v → (is_last : Bool) → nat_le w 1 ≡ is_last → NotifiesOne is_last w p t u → Exited u n (map n.name (ready_slots t))
        (map n.name (ready_slots u)) (one_less m (n.name p) entry entry.standing)
    by_number zero e true f put =
        let x : Process = record (process_at t p) { standing = standing.Ready } in
        let one : w - 1 ≡ 0 = omega (arith, e) in
        let none : children_of t p ≡ 0 = omega (arith, e, h.few) in
        record {
          machine = changed mach.ready;
          joined = n.name p ∷ [];
          is = step_is ∙ ap (λ v. went (changed (awaits v)) (freed v (n.name p))) one;
          stands = changes standing.Ready put.processes (put_lives t u p x put homeless)
              (ap length (put_other t u 0 p x put h.table.sound (omega arith) 1 (λ e. omega (arith, e)))) put.marked none;
          ready = ap (map n.name) (put_list t u 0 p x put h.table.sound (omega arith)) ∙ map-append n.name (ready_slots t) (p ∷ []);
        }
    by_number zero e false f is = let g : 1 < w = leb-false w 1 f in absurd (omega (arith, e, g))
    by_number (suc v) e true f put = let g : w ≤ 1 = leb-true w 1 f in absurd (omega (arith, e, g))
    by_number (suc v) e false f is =
        let less : w - 1 ≡ suc v = omega (arith, e) in
        record {
          machine = changed (mach.waiting (suc v));
          joined = [];
          is = step_is ∙ ap (λ v. went (changed (awaits v)) (freed v (n.name p))) less;
          stands =
              subst (λ x. TableIsMachine u n (changed (mach.waiting x))) less
              (changes (standing.Waiting (w - 1)) (ap (λ t. t.processes) is) (λ i. ap (λ t. is_live t i) is) (ap (λ t. length (free_slots t)) is)
              (ap (λ t. t.marked) is) (omega (arith, h.few)));
          ready = ap (λ t. map n.name (ready_slots t)) is ∙ sym (append-nil (map n.name (ready_slots t)));
        }

    pub notifies_one : (v : ℕ) → w ≡ suc v → NotifiesOne (nat_le w 1) w p t u → Exited u n (map n.name (ready_slots t)) (map n.name (ready_slots u))
        (one_less m (n.name p) entry entry.standing)
    notifies_one v e notifies = by_number v e (nat_le w 1) refl notifies

-- ---- who lives after the end of a branch

notified_lives : (s : Standing) (slot : ℕ) (t u : Table) → IsTable t → (process_at t slot).standing ≡ s → Notifies s slot t u → (i : ℕ)
    → is_live u i ≡ is_live t i
notified_lives standing.Ready slot t u h e notifies i = ap (λ v. is_live v i) notifies
notified_lives standing.AtWhen slot t u h e notifies i = ap (λ v. is_live v i) notifies
notified_lives (standing.Waiting n) slot t u h e notifies i = by_number (nat_le n 1) notifies
  where
    by_number : (b : Bool) → NotifiesOne b n slot t u → is_live u i ≡ is_live t i
    by_number true put = put_lives t u slot (record (process_at t slot) { standing = standing.Ready }) put (h.waiting slot (ap is_waiting e)) i
    by_number false is = ap (λ v. is_live v i) is

pub removed_slots : (t u : Table) (p : ℕ) → IsTable t → IsTaken t p → 0 < p → Removed p t u → SlotsStay t u
removed_slots t u p table taken pos removed = λ i l.
    rest (not (nat_eq i p)) (is_live t i)
    (sym (freed_lives t removed.between p table taken removed.put i)
    ∙ sym (notified_lives (process_at removed.between (process_at t p).parent).standing (process_at t p).parent removed.between u
    (freed_table t removed.between p table taken removed.put pos) refl removed.notified i) ∙ l)
  where
    rest : (a b : Bool) → (a && b) ≡ true → b ≡ true
    rest true b e = e
    rest false b e = absurd (cc)

-- ---- what the end of a branch leaves as it is

module _ {X : Type 0} (part : Machine → X) (same : (m : Machine) (es : List (Name × mach.Activity)) → part (record m { activities = es }) ≡ part m) where
  abbrev part_of : Stepped → X
  part_of (went m next) = part m
  part_of (mach.ended ending m) = part m

  kept_one : (m : Machine) (p : Name) (a : mach.Activity) (s : mach.Standing) → part_of (one_less m p a s) ≡ part m
  kept_one m p a mach.ready = refl
  kept_one m p a mach.at_when = refl
  kept_one m p a (mach.waiting n) = same m (with_at m.activities p (record a { standing = awaits (n - 1) }))

  kept_told : (m : Machine) (p : Name) (o : Option mach.Activity) → part_of (notified m p o) ≡ part m
  kept_told m p None = refl
  kept_told m p (Some a) = kept_one m p a a.standing

  pub kept : (k : Machine) (p : Name) (r : Running) (machine : Machine) (joined : List Name) → exited k p r ≡ went machine (joins joined) →
      part machine ≡ part (record { memory = r.local.memory; activities = without k.activities p; marks = []; turns = r.turns; system = r.system })
  kept k p r machine joined e =
      sym (ap part_of e) ∙ kept_told (record { memory = r.local.memory; activities = without k.activities p; marks = []; turns = r.turns; system = r.system })
      (parent_of p) (find (without k.activities p) (parent_of p))

-- the process has gone
abbrev found_in : Stepped → Name → Option mach.Activity
found_in (went m next) p = find m.activities p
found_in (mach.ended ending m) p = find m.activities p

none_told_one : (m : Machine) (q p : Name) (a : mach.Activity) (s : mach.Standing) → find m.activities q ≡ Some a → find m.activities p ≡ None
    → found_in (one_less m q a s) p ≡ None
none_told_one m q p a mach.ready f e = e
none_told_one m q p a mach.at_when f e = e
none_told_one m q p a (mach.waiting n) f e = elim (same-or-other p q) [
  | inl is ↦ absurd (no_some (sym e ∙ ap (find m.activities) is ∙ f))
  | inr other ↦ find-with_at-other m.activities q p (record a { standing = awaits (n - 1) }) other ∙ e
]
  where
    no_some : None ≡ Some a → ⊥
    no_some e = cc

none_told : (m : Machine) (q p : Name) (o : Option mach.Activity) → find m.activities q ≡ o → find m.activities p ≡ None → found_in (notified m q o) p ≡ None
none_told m q p None f e = e
none_told m q p (Some a) f e = none_told_one m q p a a.standing f e

pub none_left : (k : Machine) (p : Name) (r : Running) (machine : Machine) (joined : List Name) → exited k p r ≡ went machine (joins joined)
    → find machine.activities p ≡ None
none_left k p r machine joined e =
    let rest : Machine = record { memory = r.local.memory; activities = without k.activities p; marks = []; turns = r.turns; system = r.system } in
    sym (ap (λ s. found_in s p) e) ∙ none_told rest (parent_of p) p (find rest.activities (parent_of p)) refl (find-without-same k.activities p)

-- ---- the end of a branch

module _ (t u : Table) (n : Naming) (m k : Machine) (p : ℕ) (a : mach.Activity) (xs : List Name) (r : Running) (removed : Removed p t u) where
  abbrev parent : ℕ
  parent = (process_at t p).parent

  module _ (at : At t n m p) (pos : 0 < p) (f : Follows m k (n.name p) (n.forks p) xs a) (unmarked : t.marked ≡ no_marks) where
    abbrev without_p : Machine
    without_p = rest t removed.between p at.table at.taken removed.put n m k a xs r

    ending : deaths.Ends t removed.between n m without_p p
    ending = gone t removed.between p at.table at.taken removed.put n m k a xs r at.stands pos f unmarked

    stands_between : TableIsMachine removed.between n without_p
    stands_between = deaths.ends t removed.between n m without_p p ending

    birth : Born t n p
    birth = at.stands.born p (taken_live t p at.taken) pos

    -- its parent is another process
    not_self : parent ≡ p → ⊥
    not_self e =
        let b : n.name p ≡ child (n.name p) birth.fork birth.number = birth.named ∙ ap (λ j. child (n.name j) birth.fork birth.number) e in
        longer (n.name p) birth.fork birth.number b
      where
        longer : (q : Name) (f i : ℕ) → q ≡ child q f i → ⊥
        longer q f i e = let h : length q ≡ length (child q f i) = ap length e in omega (arith, h, length-append q (f ∷ i ∷ []))

    parent_live : is_live removed.between parent ≡ true
    parent_live = freed_lives t removed.between p at.table at.taken removed.put parent ∙ ap (λ b. not b && is_live t parent) (ne_eqb parent p not_self)
        ∙ birth.lives

    its_parent : parent_of (n.name p) ≡ n.name parent
    its_parent = ap parent_of birth.named ∙ parent-child (n.name parent) birth.fork birth.number

    told_is : exited k (n.name p) r ≡ one_less without_p (n.name parent) (entry_of (process_at removed.between parent) (n.forks parent))
        (standing_of (process_at removed.between parent).standing)
    told_is =
        ap (λ q. notified without_p q (find without_p.activities q)) its_parent
        ∙ ap (notified without_p (n.name parent)) (stands_between.found parent parent_live)

    -- before the end the parent awaited its children, one more than now
    awaited : (s : Standing) → (process_at removed.between parent).standing ≡ s → Awaits s (children_of t parent)
    awaited s e = subst (λ s. Awaits s (children_of t parent))
        (sym (ap (λ y. y.standing) (freed_there t removed.between p at.table at.taken removed.put parent)) ∙ e) (at.stands.awaits parent birth.lives)

    one_more : children_of t parent ≡ suc (children_of removed.between parent)
    one_more = deaths.one_child_less t removed.between n m without_p p ending

    -- the parent waits
    waits : (s : Standing) → (process_at removed.between parent).standing ≡ s → Notifies s parent removed.between u →
        Exited u n (map n.name (ready_slots removed.between)) (map n.name (ready_slots u))
        (one_less without_p (n.name parent) (entry_of (process_at removed.between parent) (n.forks parent))
        (standing_of (process_at removed.between parent).standing))
    waits standing.Ready e notifies = absurd (omega (arith, awaited standing.Ready e, one_more))
    waits standing.AtWhen e notifies = absurd (omega (arith, awaited standing.AtWhen e, one_more))
    waits (standing.Waiting w) e notifies =
        notifies_one removed.between u n without_p parent w
        (record {
          table = freed_table t removed.between p at.table at.taken removed.put pos;
          stands = stands_between;
          live = parent_live;
          unmarked = removed.put.marked ∙ unmarked;
          none = refl;
          waiting = e;
          few = omega (arith, awaited (standing.Waiting w) e, one_more);
        })
        (w - 1) (omega (arith, awaited (standing.Waiting w) e, one_more)) notifies

    pub exits : Exited u n (map n.name (ready_slots t)) (map n.name (ready_slots u)) (exited k (n.name p) r)
    exits =
        let e : Exited u n (map n.name (ready_slots removed.between)) (map n.name (ready_slots u))
        (one_less without_p (n.name parent) (entry_of (process_at removed.between parent) (n.forks parent))
        (standing_of (process_at removed.between parent).standing)) =
        waits (process_at removed.between parent).standing refl removed.notified in
        record {
          machine = e.machine;
          joined = e.joined;
          is = told_is ∙ e.is;
          stands = e.stands;
          ready = e.ready ∙ ap (λ qs. map n.name qs ++ e.joined) (freed_ready t removed.between p at.table at.taken removed.put);
        }
