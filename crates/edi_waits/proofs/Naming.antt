-- The names of processes: by their parents, at the start, over a stint, and over a choice.
use Rattle.std.proofs.Common.{◌≡◌, ◌⊎◌, inl, inr, ℕ, zero, suc, ◌+◌, ◌-◌, ◌^◌, ◌<◌, ◌≤◌, Bool, true, false, if◌then◌else◌, List, [], ◌∷◌, ◌++◌, length, Option}
use Rattle.std.proofs.Common.{Some, None, refl, sym, ap, subst, ◌∙◌, arith, slice_get, ◌==◌, nat_lt, not, ◌&&◌, append_assoc, reverse, replicate, slice_index_or}
use Rattle.std.proofs.lemmas.Bool.{cases_eq, cases_lt, eqb-true}
use Rattle.std.proofs.lemmas.List.{length-append, reverse-append}
use Rattle.std.proofs.lemmas.Option.{slice_get_within}
use Rattle.edi_calls.specs.Names.{Name, find, same}
use Rattle.edi_calls.specs.Ready.{child, stays}
use Rattle.edi_calls.specs.State.{State}
use Rattle.edi_calls.proofs.Names.{same_ends}
use Rattle.edi_calls.proofs.Tables.{same-equal}
use Rattle.edi_target.specs.Op as op
use Rattle.edi_target.specs.Op.{Instruction}
use Rattle.edi_target.specs.Mach.{Activity, Machine, entered, went}
use Rattle.edi_ring.specs.Lists.{home_of}
use Rattle.edi_trace.specs.Drawn.{Drawn}
use Rattle.edi_kernel.specs.declared.table.Table.{Table}
use Rattle.edi_kernel.specs.declared.state.KernelState.{KernelState}
use Rattle.edi_kernel.specs.Table.{is_free_home, is_live, process_at, ready_slots}
use Rattle.edi_kernel.specs.TableIsMachine.{Born, Naming, TableIsMachine}
use Rattle.edi_kernel.specs.Named.{NamesGrow}
use Rattle.edi_kernel.specs.Runs.{TakesNext}
use Rattle.edi_kernel.proofs.Changes.{live_below}
use Rattle.edi_kernel.proofs.Lists.{live_of_home}
use Rattle.edi_waits.specs.declared.births.Birth.{Birth}
use Rattle.edi_waits.specs.declared.births.Branch.{Branch}
use Rattle.edi_waits.specs.declared.births.Names.{Names}
use Rattle.edi_waits.specs.Names.{AreNames, Bears, HasForked, IsBorn, LivesBefore, birth_at, child_of, depth_at, forked_more, forks_at, name_at, name_from}
use Rattle.edi_waits.specs.Names.{named, next_of, no_birth}
use Rattle.edi_waits.specs.Told.{name_of}

long : (p : Name) (f i : ℕ) → length (child p f i) ≡ length p + 2
long p f i = length-append p (f ∷ i ∷ [])

-- ---- by their parents

module _ (names : Names) (n : Naming) (t : Table) (m : Machine) (used : ℕ) (stands : TableIsMachine t n m) (a : AreNames names n t used) where
  nobody : (p : Name) → length p ≡ 0 → p ≡ []
  nobody [] e = refl
  nobody (x ∷ p) e = absurd (omega (arith, e))

  name_is : (d slot : ℕ) → is_live t slot ≡ true → depth_at names slot ≡ d → name_from names t d slot ≡ n.name slot
  name_is zero slot l e = sym (nobody (n.name slot) (omega (arith, a.deep slot l, e)))
  name_is (suc d) slot l e = go (cases_lt 0 slot) (name_is d)
    where
      go : (0 < slot) ⊎ (slot ≤ 0) →
          ((parent : ℕ) → is_live t parent ≡ true → depth_at names parent ≡ d → name_from names t d parent ≡ n.name parent) →
          name_from names t (suc d) slot ≡ n.name slot
      go (inr none) more =
          let first : slot ≡ 0 = omega (arith, none) in
          let empty : length (n.name slot) ≡ 0 = ap length (ap n.name first ∙ stands.root) in
          absurd (omega (arith, empty, a.deep slot l, e))
      go (inl some) more =
          let b : Born t n slot = stands.born slot l some in
          let parent : ℕ = (process_at t slot).parent in
          let birth : Birth = birth_at names slot in
          let x : (p : Name) × (n.name slot ≡ named p birth) = a.ends slot l (omega (arith, e)) in
          let same = same_ends x.0 (n.name parent) birth.fork birth.number b.fork b.number (sym x.1 ∙ b.named) in
          let deep : length (n.name slot) ≡ length (n.name parent) + 2 = ap length b.named ∙ long (n.name parent) b.fork b.number in
          let up : depth_at names parent ≡ d = omega (arith, deep, a.deep slot l, e, a.deep parent b.lives) in
          ap (λ p. named p birth) (more parent b.lives up ∙ sym same.0) ∙ sym x.1

  -- the names that are told are those of the machine
  pub told_name : (slot : ℕ) → is_live t slot ≡ true → name_at names t slot ≡ n.name slot
  told_name slot l = name_is (depth_at names slot) slot l refl

-- one branch more, from the process to its parent
pub name_more : (names : Names) (t : Table) (d at : ℕ) (bs : List Branch) (b : Branch) → b.fork ≡ (birth_at names at).fork →
    b.number ≡ (birth_at names at).number →
    name_from names t d (process_at t at).parent ++ name_of (reverse (bs ++ b ∷ [])) ≡ name_from names t (suc d) at ++ name_of (reverse bs)
name_more names t d at bs b fork number =
    let above : Name = name_from names t d (process_at t at).parent in
    let own : Birth = birth_at names at in
    ap (λ (xs : List Branch). above ++ name_of xs) (reverse-append bs (b ∷ []))
    ∙ (λ i. above ++ (fork i ∷ number i ∷ name_of (reverse bs)))
    ∙ sym (append_assoc above (own.fork ∷ own.number ∷ []) (name_of (reverse bs)))

-- at the start each is what the first process is
pub none_born : (k slot : ℕ) → slice_index_or (replicate k no_birth) slot no_birth ≡ no_birth
none_born zero slot = refl
none_born (suc k) zero = refl
none_born (suc k) (suc slot) = none_born k slot

-- nobody was born
pub names_stay : (names : Names) (n : Naming) (old new : Table) (used later : ℕ) → LivesBefore old new → used ≤ later → AreNames names n old used →
    AreNames names n new later
names_stay names n old new used later lives le a = record {
  wide = a.wide;
  ends = λ i l d. a.ends i (lives i l) d;
  deep = λ i l. a.deep i (lives i l);
  forks = λ i l. a.forks i (lives i l);
  few = λ i l. omega (arith, a.few i (lives i l), le);
  shallow = λ i l. omega (arith, a.shallow i (lives i l), le);
}

-- ---- a fork

module _ (names next : Names) (n after : Naming) (old new : Table) (fork number used later : ℕ) (taken : Option ℕ) (g : NamesGrow fork number taken old new n after)
    (lives : is_live old g.slot ≡ true) (more : used < later) (small : later < 2 ^ 32) (a : AreNames names n old used)
    (joined : (k i : ℕ) → length (ready_slots old) ≤ k → slice_get (ready_slots new) k ≡ Some i →
    after.name i ≡ child (n.name g.slot) fork (k - length (ready_slots old)))
    (once : (i j x : ℕ) → slice_get (ready_slots new) i ≡ Some x → slice_get (ready_slots new) j ≡ Some x → i ≡ j)
    (b : HasForked g.slot (length (ready_slots old)) (ready_slots new) names next) where
  abbrev others : ℕ
  others = length (ready_slots old)

  abbrev parent : Birth
  parent = birth_at names g.slot

  same_fork : next_of (forks_at names g.slot) ≡ fork
  same_fork = omega (arith, a.few g.slot lives, more, small, a.forks g.slot lives, g.next)

  same_depth : next_of (depth_at names g.slot) ≡ suc (depth_at names g.slot)
  same_depth = omega (arith, a.shallow g.slot lives, more, small)

  -- who lived before is none of the children
  not_born : (i : ℕ) → is_live old i ≡ true → IsBorn others (ready_slots new) i → ⊥
  not_born i l h = g.fresh i (h.0 - others) l (sym (g.names i l) ∙ joined h.0 i h.1 h.2)

  not_parent : (i : ℕ) → is_live old i ≡ false → i ≡ g.slot → ⊥
  not_parent i dead e = let x : false ≡ true = sym dead ∙ ap (is_live old) e ∙ lives in absurd (cc)

  -- what is known of a process afterwards
  record Known (i : ℕ) : Type 0 where
    ends : 0 < depth_at next i → (p : Name) × (after.name i ≡ named p (birth_at next i))
    deep : length (after.name i) ≡ depth_at next i + depth_at next i
    forks : forks_at next i ≡ after.forks i
    few : forks_at next i ≤ later
    shallow : depth_at next i ≤ later

  -- who did not live before is a child
  known_child : (i : ℕ) → is_live old i ≡ false → is_live new i ≡ true → Known i
  known_child i dead l =
      let x = g.born i dead l in
      let at : slice_get (ready_slots new) (others + x.number) ≡ Some i = x.at in
      let number_is : others + x.number - others ≡ x.number = omega arith in
      let is : birth_at next i ≡ child_of parent x.number =
      b.born (others + x.number) i (omega arith) at (live_below new i l) (not_parent i dead) (λ j q. once j (others + x.number) i q at)
      ∙ ap (child_of parent) number_is in
      let depth : depth_at next i ≡ suc (depth_at names g.slot) = ap (λ (z : Birth). z.depth) is ∙ same_depth in
      let name : after.name i ≡ child (n.name g.slot) fork x.number = x.named in
      let length_is : length (after.name i) ≡ length (n.name g.slot) + 2 = ap length name ∙ long (n.name g.slot) fork x.number in
      let fork_is : fork ≡ (birth_at next i).fork = sym (ap (λ (z : Birth). z.fork) is ∙ same_fork) in
      let own : x.number ≡ (birth_at next i).number = sym (ap (λ (z : Birth). z.number) is) in
      let none : forks_at next i ≡ 0 = ap (λ (z : Birth). z.forks) is in
      record {
        ends = λ d. (n.name g.slot, name ∙ (λ t. child (n.name g.slot) (fork_is t) (own t)));
        deep = omega (arith, length_is, depth, a.deep g.slot lives);
        forks = none ∙ sym x.forks;
        few = omega (arith, none);
        shallow = omega (arith, depth, a.shallow g.slot lives, more);
      }

  -- who lived before, and has not forked
  known_other : (i : ℕ) → (i ≡ g.slot → ⊥) → is_live old i ≡ true → Known i
  known_other i other e =
      let is : birth_at next i ≡ birth_at names i = b.stays i other (not_born i e) in
      let depth : depth_at next i ≡ depth_at names i = ap (λ (z : Birth). z.depth) is in
      let forks : forks_at next i ≡ forks_at names i = ap (λ (z : Birth). z.forks) is in
      record {
        ends = λ d. let r = a.ends i e (omega (arith, d, depth)) in (r.0, g.names i e ∙ r.1 ∙ ap (named r.0) (sym is));
        deep = omega (arith, ap length (g.names i e), depth, a.deep i e);
        forks = forks ∙ a.forks i e ∙ sym (g.forks i e other);
        few = omega (arith, forks, a.few i e, more);
        shallow = omega (arith, depth, a.shallow i e, more);
      }

  -- the parent
  known_parent : Known g.slot
  known_parent =
      let depth : depth_at next g.slot ≡ depth_at names g.slot = ap (λ (z : Birth). z.depth) b.own in
      let forks : forks_at next g.slot ≡ next_of (forks_at names g.slot) = ap (λ (z : Birth). z.forks) b.own in
      let fork_is : parent.fork ≡ (birth_at next g.slot).fork = sym (ap (λ (z : Birth). z.fork) b.own) in
      let number_is : parent.number ≡ (birth_at next g.slot).number = sym (ap (λ (z : Birth). z.number) b.own) in
      record {
        ends = λ d.
            let r = a.ends g.slot lives (omega (arith, d, depth)) in
            (r.0, g.names g.slot lives ∙ r.1 ∙ (λ t. child r.0 (fork_is t) (number_is t)));
        deep = omega (arith, ap length (g.names g.slot lives), depth, a.deep g.slot lives);
        forks = forks ∙ same_fork ∙ sym g.forked;
        few = omega (arith, forks, a.few g.slot lives, more);
        shallow = omega (arith, depth, a.shallow g.slot lives, more);
      }

  known : (i : ℕ) → is_live new i ≡ true → Known i
  known i l = elim (cases_eq i g.slot) [
    | inl same ↦ subst Known (sym same) known_parent
    | inr other ↦ go other (is_live old i) refl
  ]
    where
      go : (i ≡ g.slot → ⊥) → (t : Bool) → is_live old i ≡ t → Known i
      go other true e = known_other i other e
      go other false e = known_child i e l

  pub names_grow : AreNames next after new later
  names_grow = record {
    wide = b.wide;
    ends = λ i l d. (known i l).ends d;
    deep = λ i l. (known i l).deep;
    forks = λ i l. (known i l).forks;
    few = λ i l. (known i l).few;
    shallow = λ i l. (known i l).shallow;
  }

-- ---- child after child is named

module _ (slot from to : ℕ) (ready : List ℕ) (old now : Names) (child_slot : ℕ) (b : Bears slot from to ready old now) (at : slice_get ready to ≡ Some child_slot) where
  some_same : {X : Type 0} {x y : X} → Some x ≡ Some y → x ≡ y
  some_same e = cc

  -- who is no child is as before
  skipped : ((i : ℕ) → i ≡ child_slot → i < 32 → (i ≡ slot → ⊥) → ⊥) → Bears slot from (to + 1) ready old now
  skipped none = record {
    wide = b.wide;
    own = b.own;
    stays = b.stays;
    born = λ k i le lt e small other once. elim (cases_lt k to) [
      | inl less ↦ b.born k i le less e small other once
      | inr past ↦
          let same : k ≡ to = omega (arith, lt, past) in
          absurd (none i (some_same (sym e ∙ ap (slice_get ready) same ∙ at)) small other)
    ];
  }

  pub bears_same : child_slot ≡ slot → Bears slot from (to + 1) ready old now
  bears_same e = skipped (λ i same small other. other (same ∙ e))

  pub bears_past : 32 ≤ child_slot → Bears slot from (to + 1) ready old now
  bears_past l = skipped (λ i same small other. absurd (omega (arith, same, small, l)))

  -- this one is named
  pub bears_more : (next : Names) → from ≤ to → (child_slot ≡ slot → ⊥) → length next.births ≡ 32 →
      birth_at next child_slot ≡ child_of (birth_at old slot) (to - from) →
      ((i : ℕ) → (i ≡ child_slot → ⊥) → birth_at next i ≡ birth_at now i) → Bears slot from (to + 1) ready old next
  bears_more next first apart wide named others = record {
    wide = wide;
    own = others slot (λ e. apart (sym e)) ∙ b.own;
    stays = λ i nobody. others i (λ e. nobody (to, first, at ∙ ap Some (sym e))) ∙ b.stays i nobody;
    born = λ k i le lt e small other once. elim (cases_lt k to) [
      | inl less ↦
          let away : i ≡ child_slot → ⊥ = λ same. absurd (omega (arith, less, once to (at ∙ ap Some (sym same)))) in
          others i away ∙ b.born k i le less e small other once
      | inr past ↦
          let same : k ≡ to = omega (arith, lt, past) in
          let it : i ≡ child_slot = some_same (sym e ∙ ap (slice_get ready) same ∙ at) in
          ap (birth_at next) it ∙ named ∙ ap (λ n. child_of (birth_at old slot) (n - from)) (sym same)
    ];
  }

-- fewer have been named
pub bears_less : (slot from to less : ℕ) (ready : List ℕ) (old now : Names) → less ≤ to → Bears slot from to ready old now → Bears slot from less ready old now
bears_less slot from to less ready old now l b = record {
  wide = b.wide;
  own = b.own;
  stays = b.stays;
  born = λ k i le lt e small other once. b.born k i le (omega (arith, lt, l)) e small other once;
}

-- all have been named, and the parent has forked once more
pub has_forked : (slot from to : ℕ) (ready : List ℕ) (old now next : Names) → length ready ≤ to → Bears slot from to ready old now → length next.births ≡ 32 →
    birth_at next slot ≡ forked_more (birth_at now slot) → ((i : ℕ) → (i ≡ slot → ⊥) → birth_at next i ≡ birth_at now i) → HasForked slot from ready old next
has_forked slot from to ready old now next all b wide own others = record {
  wide = wide;
  own = own ∙ ap forked_more b.own;
  stays = λ i other nobody. others i other ∙ b.stays i nobody;
  born = λ k i le e small other once.
      others i other ∙ b.born k i le (omega (arith, all, slice_get_within ready k i e)) e small other once;
}

-- ---- a choice

-- who lives after it lived before
pub chosen_lives : (old new : KernelState) (before after : Drawn) →
    ((i slot : ℕ) → slice_get (ready_slots old.table) i ≡ Some slot → is_live old.table slot ≡ true) → TakesNext old new before after → LivesBefore old.table new.table
chosen_lives old new before after lives t i l = elim (cases_eq i t.slot) [
  | inl same ↦ ap (is_live old.table) same ∙ lives t.index t.slot t.at
  | inr other ↦
      live_of_home old.table i (live_below new.table i l)
      (ap is_free_home (sym (t.withdrawn.homes i ∙ at_other i t.slot (home_of old.table.lists i) other)) ∙ homed new.table i l)
]
  where
    at_other : (i slot : ℕ) (home : Option ℕ) → (i ≡ slot → ⊥) → (if i == slot then None else home) ≡ home
    at_other i slot home h = go (i == slot) refl
      where
        go : (t : Bool) → (i == slot) ≡ t → (if t then None else home) ≡ home
        go true e = absurd (h (eqb-true i slot e))
        go false e = refl

    homed : (u : Table) (i : ℕ) → is_live u i ≡ true → is_free_home (home_of u.lists i) ≡ false
    homed u i l = go (nat_lt i 32) (is_free_home (home_of u.lists i)) l
      where
        go : (x y : Bool) → (x && not y) ≡ true → y ≡ false
        go true true e = absurd (cc)
        go true false e = refl
        go false y e = absurd (cc)

-- ---- the start

-- the machine has the first process alone, which has not forked
pub first_alone : (found : Option (Instruction × ℕ)) (entry : ℕ) (calls : List ℕ) (left : ℕ) (s : State) (m : Machine) →
    entered found entry calls (suc left) s ≡ went m stays → (q : Name) (a : Activity) → find m.activities q ≡ Some a → (q ≡ []) × (a.forks ≡ 0)
first_alone found entry calls left s m e q a h = go found e h
  where
    some_is : {X : Type 0} {x y : X} → Some x ≡ Some y → x ≡ y
    some_is e = cc

    went_is : {x y : Machine} → went x stays ≡ went y stays → x ≡ y
    went_is e = cc

    one : (x : Activity) → x.forks ≡ 0 → find (([], x) ∷ []) q ≡ Some a → (q ≡ []) × (a.forks ≡ 0)
    one x none f = by (same q []) refl f
      where
        by : (t : Bool) → same q [] ≡ t → (if t then Some x else None) ≡ Some a → (q ≡ []) × (a.forks ≡ 0)
        by true is f = (same-equal q [] is, ap (λ (y : Activity). y.forks) (sym (some_is f)) ∙ none)
        by false is f = absurd (cc)

    go : (found : Option (Instruction × ℕ)) → entered found entry calls (suc left) s ≡ went m stays → find m.activities q ≡ Some a → (q ≡ []) × (a.forks ≡ 0)
    go (Some (op.entry need r p v f, body)) e h =
        one _ refl (ap (λ (x : Machine). find x.activities q) (went_is e) ∙ h)
    go None e h = absurd (cc)
    go (Some x) e h = absurd (cc)

pub names_begin : (names : Names) (n : Naming) (t : Table) (used : ℕ) →
    ((slot : ℕ) → is_live t slot ≡ true → (n.name slot ≡ []) × (n.forks slot ≡ 0)) → length names.births ≡ 32 →
    ((slot : ℕ) → birth_at names slot ≡ no_birth) → AreNames names n t used
names_begin names n t used alone wide none = record {
  wide = wide;
  ends = λ i l d. absurd (omega (arith, d, depth i));
  deep = λ i l. omega (arith, empty i l, depth i);
  forks = λ i l. forks i ∙ sym (alone i l).1;
  few = λ i l. omega (arith, forks i);
  shallow = λ i l. omega (arith, depth i);
}
  where
    depth : (i : ℕ) → depth_at names i ≡ 0
    depth i = ap (λ (z : Birth). z.depth) (none i)

    forks : (i : ℕ) → forks_at names i ≡ 0
    forks i = ap (λ (z : Birth). z.forks) (none i)

    empty : (i : ℕ) → is_live t i ≡ true → length (n.name i) ≡ 0
    empty i l = ap length (alone i l).0
