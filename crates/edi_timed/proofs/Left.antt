-- How a stint has left its process: what the kernel keeps tells what the machine has.
use Rattle.std.proofs.Common.{◌≡◌, ◌⊎◌, inl, inr, ℕ, ◌+◌, Bool, true, false, ◌&&◌, ◌||◌, if◌then◌else◌, nat_lt, List, [], ◌∷◌, ◌++◌}
use Rattle.std.proofs.Common.{length, map, Option, Some, None, refl, ap, sym, ◌∙◌, arith, length-append}
use Rattle.std.proofs.lemmas.List.{length-map}
use Rattle.edi_calls.specs.Names.{Name, find, same}
use Rattle.edi_calls.specs.Outcome as outcome
use Rattle.edi_calls.specs.Ready.{all_marked, has, joins, children}
use Rattle.edi_calls.proofs.Tables.{same-refl}
use Rattle.edi_target.specs.Attempts.{is_failed_turn, attempt_fails}
use Rattle.edi_target.specs.Effect.{entering, leaving, looping, arriving, again, forking, exiting, finishing}
use Rattle.edi_target.specs.Fetch.{fetch}
use Rattle.edi_target.specs.Mach.{Answer, on, behind, turned, local_step, running_of, is_first, Running, Activity, Machine, Stepped, went, ended, step, step_of}
use Rattle.edi_target.specs.Mach.{at_when, waiting, activity_of, back, kernel}
use Rattle.edi_target.specs.Mach as mach
use Rattle.edi_kernel.specs.declared.ends.StintEnd.TheVariants as stint_end
use Rattle.edi_kernel.specs.declared.state.KernelState.{KernelState}
use Rattle.edi_kernel.specs.declared.table.Standing.TheVariants as standing
use Rattle.edi_kernel.specs.Table.{is_live, process_at, ready_slots}
use Rattle.edi_kernel.specs.TableIsMachine.{Naming, TableIsMachine, entry_of, standing_of}
use Rattle.edi_kernel.specs.Kernel.{IsKernel, Holds, StandsArrived}
use Rattle.edi_kernel.specs.Kept.{IsMarkCount}
use Rattle.edi_kernel.proofs.Again.{mark_count}
use Rattle.edi_kernel.proofs.Changes.{positive}
use Rattle.edi_timeline.specs.Stints.{Start, End, arrives, waits, tries, forks}
use Rattle.edi_timeline.specs.Adding.{is_at}
use Rattle.edi_waits.specs.Places.{place}
use Rattle.edi_timed.specs.declared.leaving.Begun.{Begun}
use Rattle.edi_timed.specs.Ran.{Open, is_spot, is_marked, left_as, end_in}
use Rattle.edi_timed.specs.Leaving.{spot_in, arrived_at, left_at}
use Rattle.edi_timed.proofs.Families.{as_many_children}

-- ---- marks

-- an attempt that has failed has marked its process, and then it is among the ready ones; or nobody is marked
abbrev pub Marks : Machine → Name → List Name → Type 0
Marks t p ps = ((t.marks ≡ []) ⊎ (has t.marks p ≡ true)) × (ps ≡ p ∷ [])

abbrev marks_in : Stepped → List Name
marks_in (went m next) = m.marks
marks_in (ended ending m) = m.marks

module _ (words : List ℕ) (m t : Machine) (p : Name) (others ps : List Name) where
  has_first : (ms : List Name) → has (p ∷ ms) p ≡ true
  has_first ms = ap (λ b. b || has ms p) (same-refl p)

  joined : (u : Machine) (qs : List Name) → went u (joins qs) ≡ went t (joins ps) → ps ≡ qs
  joined u qs e = cc

  by_marks : (after : Machine) (b : Bool) → after.marks ≡ p ∷ m.marks →
      (if b then ended outcome.standstill after else went after (joins (p ∷ []))) ≡ went t (joins ps) → Marks t p ps
  by_marks after true marks e = absurd (cc)
  by_marks after false marks e =
      (inr (ap (λ ms. has ms p) (sym (sym marks ∙ ap marks_in e)) ∙ has_first m.marks), joined after (p ∷ []) e)

  turn : (a : Activity) (x : Answer) → kernel m p others a x ≡ went t (joins ps) → is_failed_turn x ≡ true → Marks t p ps
  turn a (turned (again false) r) e f = (inl (sym (ap marks_in e)), joined _ (p ∷ []) e)
  turn a (turned (again true) r) e f =
      by_marks (back m p (activity_of r.local a.forks at_when) (p ∷ m.marks) r) (all_marked (p ∷ m.marks) (p ∷ others)) refl e
  turn a (on r) e f = let w : false ≡ true = f in absurd (cc)
  turn a (behind r) e f = let w : false ≡ true = f in absurd (cc)
  turn a (mach.over ending r) e f = let w : false ≡ true = f in absurd (cc)
  turn a (turned entering r) e f = let w : false ≡ true = f in absurd (cc)
  turn a (turned leaving r) e f = let w : false ≡ true = f in absurd (cc)
  turn a (turned looping r) e f = let w : false ≡ true = f in absurd (cc)
  turn a (turned arriving r) e f = let w : false ≡ true = f in absurd (cc)
  turn a (turned (forking branches) r) e f = let w : false ≡ true = f in absurd (cc)
  turn a (turned exiting r) e f = let w : false ≡ true = f in absurd (cc)
  turn a (turned finishing r) e f = let w : false ≡ true = f in absurd (cc)

  by_activity : (o : Option Activity) → step_of (fetch words) m p others o ≡ went t (joins ps) → attempt_fails (fetch words) m p o ≡ true → Marks t p ps
  by_activity None e f = let w : false ≡ true = f in absurd (cc)
  by_activity (Some a) e f = turn a (local_step (fetch words) (length m.activities) (is_first p) (running_of m a)) e f

  pub failed_marks : step (fetch words) m p others ≡ went t (joins ps) → attempt_fails (fetch words) m p (find m.activities p) ≡ true → Marks t p ps
  failed_marks e f = by_activity (find m.activities p) e f

has_last : (qs : List Name) (p : Name) → has (qs ++ p ∷ []) p ≡ true
has_last [] p = ap (λ b. b || false) (same-refl p)
has_last (q ∷ qs) p = ap (λ b. same p q || b) (has_last qs p) ∙ or_true (same p q)
  where
    or_true : (b : Bool) → (b || true) ≡ true
    or_true true = refl
    or_true false = refl

is_marked_by : (ms : List Name) (p : Name) → has ms p ≡ true → is_marked ms ≡ true
is_marked_by [] p h = let w : false ≡ true = h in absurd (cc)
is_marked_by (q ∷ ms) p h = refl

pub marks_are : (k : KernelState) (t : Machine) (p : Name) (others ps : List Name) → IsKernel k → k.taken ≡ None → Holds k t None (others ++ ps) →
    Marks t p ps → is_marked t.marks ≡ nat_lt 0 k.table.marks
marks_are k t p others ps kernel free holds marks = go marks.0
  where
    count : IsMarkCount k.table.marks t.marks (others ++ ps)
    count = mark_count k t (others ++ ps) kernel free holds

    go : (t.marks ≡ []) ⊎ (has t.marks p ≡ true) → is_marked t.marks ≡ nat_lt 0 k.table.marks
    go (inl e) = ap is_marked e ∙ sym (ap (nat_lt 0) (count.none e))
    go (inr e) =
        is_marked_by t.marks p e
        ∙ sym (positive k.table.marks (count.some p (ap (λ qs. has (others ++ qs) p) marks.1 ∙ has_last others p) e))

-- ---- at a `when`

chosen : (c d : Bool) (x y z w : End) → c ≡ d → (c ≡ true → x ≡ y) → z ≡ w → (if c then x else z) ≡ (if d then y else w)
chosen true true x y z w e f g = f refl
chosen false false x y z w e f g = g
chosen true false x y z w e f g = absurd (cc)
chosen false true x y z w e f g = absurd (cc)

first_true : (a b : Bool) → (a && b) ≡ true → a ≡ true
first_true true b h = refl
first_true false b h = absurd (cc)

module _ (words : List ℕ) (k : KernelState) (t : Machine) (p : Name) (b : Open) (begun : Begun) (from : Start) (stands failed : Bool)
    (failed_is : k.failed ≡ failed) (stands_is : stands ≡ is_at from) (spot : is_at from ≡ true → spot_in begun.stood ≡ b.stood) where
  same_spot : (base pc : ℕ) → (k.failed && (stands && is_spot (spot_in begun.stood) base pc)) ≡ (failed && (is_at from && is_spot b.stood base pc))
  same_spot base pc =
      (λ i. failed_is i && (stands_is i && is_spot (spot_in begun.stood) base pc)) ∙ ap (λ x. failed && x) (by_from (is_at from) refl)
    where
      by_from : (x : Bool) → is_at from ≡ x → (is_at from && is_spot (spot_in begun.stood) base pc) ≡ (is_at from && is_spot b.stood base pc)
      by_from true e = ap (λ o. is_at from && is_spot o base pc) (spot e)
      by_from false e = ap (λ x. x && is_spot (spot_in begun.stood) base pc) e ∙ sym (ap (λ x. x && is_spot b.stood base pc) e)

  pub arrived_is : StandsArrived k t p → t.memory ≡ k.store → (k.failed ≡ true → is_marked t.marks ≡ nat_lt 0 k.table.marks) → (used : ℕ) →
      left_at words k stands begun (stint_end.Arrived used) ≡ end_in words failed from b t (find t.activities p)
  arrived_is a memory marks used =
      let base : ℕ = a.activity.base in
      let pc : ℕ = a.activity.pc in
      ap (arrived_at words k stands begun) a.arrival
      ∙ chosen (k.failed && (stands && is_spot (spot_in begun.stood) base pc)) (failed && (is_at from && is_spot b.stood base pc))
      (if nat_lt 0 k.table.marks then waits else tries) (if is_marked t.marks then waits else tries)
      (arrives (place words k.store a.activity.segment.first base pc)) (arrives (place words t.memory a.activity.segment.first base pc)) (same_spot base pc)
      (λ h.
      ap (λ x. if x then waits else tries) (sym (marks (first_true k.failed (stands && is_spot (spot_in begun.stood) base pc) h))))
      (ap (λ ws. arrives (place words ws a.activity.segment.first base pc)) (sym memory))
      ∙ sym (ap (end_in words failed from b t) a.found)

  -- ---- by a fork

  pub forked_is : (n : Naming) (slot others number used : ℕ) → TableIsMachine k.table n t → is_live k.table slot ≡ true → n.name slot ≡ p →
      (process_at k.table slot).standing ≡ standing.Waiting number → begun.others ≡ others → length (ready_slots k.table) ≡ others + number →
      left_at words k stands begun (stint_end.Forked used) ≡ end_in words failed from b t (find t.activities p)
  forked_is n slot others number used table live name stays_so beside ready =
      let a : Activity = entry_of (process_at k.table slot) (n.forks slot) in
      ap forks (omega (arith, beside, ready))
      ∙ sym (ap (λ s. left_as words failed from b t a (standing_of s)) stays_so)
      ∙ sym (ap (end_in words failed from b t) (ap (find t.activities) (sym name) ∙ table.found slot live))

-- as many are ready as were, and the branches
pub ready_more : (name before : ℕ → Name) (new old : List ℕ) (p : Name) (others ps : List Name) (fork number : ℕ) → others ++ ps ≡ map name new →
    ps ≡ children p fork 0 number → others ≡ map before old → length new ≡ length old + number
ready_more name before new old p others ps fork number now are was =
    let all : length (others ++ ps) ≡ length (map name new) = ap length now in
    let few : length others ≡ length (map before old) = ap length was in
    let some : length ps ≡ length (children p fork 0 number) = ap length are in
    omega (
      arith,
      all,
      few,
      some,
      length-append others ps,
      length-map new name,
      length-map old before,
      as_many_children p fork 0 number,
    )
