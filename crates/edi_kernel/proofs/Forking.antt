-- The children of a fork begin one after another.
use Rattle.std.proofs.Common.{◌≡◌, ℕ, zero, suc, ◌+◌, ◌*◌, ◌<◌, ◌≤◌, inl, inr, Bool, true, false, ◌&&◌, ◌||◌, not, nat_eq, nat_lt, if◌then◌else◌, List, []}
use Rattle.std.proofs.Common.{◌∷◌, ◌++◌, length, map, drop, Option, Some, None, refl, sym, ◌∙◌, ap, arith, subst, slice_index_or, eq-eqb, append_assoc}
use Rattle.std.specs.Prelude.{slice_get}
use Rattle.std.specs.Option.{option_map}
use Rattle.std.proofs.lemmas.Bool.{cases_eq, ne_eqb}
use Rattle.std.proofs.lemmas.List.{append-nil, length-append}
use Rattle.edi_calls.specs.Names.{Name, with_at}
use Rattle.edi_calls.specs.Ready.{child, children, has}
use Rattle.edi_store.specs.Memory.{written}
use Rattle.edi_target.specs.Op.{Branch}
use Rattle.edi_target.specs.Mach.{Machine, with_child, with_children}
use Rattle.edi_ring.specs.Lists.{home_of}
use Rattle.edi_ring.specs.Links.{IsAmong}
use Rattle.edi_machine.specs.declared.activity.Activity.{Activity}
use Rattle.edi_machine.specs.Activities.{local_of}
use Rattle.edi_machine.specs.Starts.{child_at, child_first}
use Rattle.edi_kernel.specs.declared.table.Standing.TheVariants as standing
use Rattle.edi_kernel.specs.declared.table.Table.{Table}
use Rattle.edi_kernel.specs.Table.{Added, beginning, process_at, ready_slots, is_live, is_free_home, no_marks, no_process}
use Rattle.edi_kernel.specs.TableIsMachine.{IsTable, Naming, Awaits, TableIsMachine, entry_of, children_of}
use Rattle.edi_kernel.specs.Forks.{OneMore, HaveBegun, share_in}
use Rattle.edi_kernel.specs.Named.{IsBorn}
use Rattle.edi_calls.proofs.Names.{same_ends}
use Rattle.edi_kernel.proofs.Counts.{map_same, map-append}
use Rattle.edi_kernel.proofs.Lists.{home_among, not_both, live_of_home, put_home_here, put_home_there, put_here, put_there, unmarked_at}
use Rattle.edi_kernel.proofs.Births as births
use Rattle.edi_kernel.proofs.Sharing.{added_table, added_free, added_ready}

-- ---- lists

drop_none : {A : Type 0} (xs : List A) → drop 0 xs ≡ xs
drop_none [] = refl
drop_none (x ∷ xs) = refl

drop_at : {A : Type 0} (xs : List A) (i : ℕ) (x : A) → slice_get xs i ≡ Some x → drop i xs ≡ x ∷ drop (suc i) xs
drop_at [] i x e = let a : None ≡ Some x = e in absurd (cc)
drop_at (y ∷ xs) zero x e = let h : y ≡ x = cc in ap (λ z. z ∷ xs) h ∙ ap (λ zs. x ∷ zs) (sym (drop_none xs))
drop_at (y ∷ xs) (suc i) x e = drop_at xs i x e

pub drop_all : {A : Type 0} (xs : List A) → drop (length xs) xs ≡ []
drop_all [] = refl
drop_all (x ∷ xs) = drop_all xs

get_front : {A : Type 0} (xs ys : List A) (i : ℕ) (x : A) → slice_get xs i ≡ Some x → slice_get (xs ++ ys) i ≡ Some x
get_front [] ys i x e = let a : None ≡ Some x = e in absurd (cc)
get_front (y ∷ xs) ys zero x e = e
get_front (y ∷ xs) ys (suc i) x e = get_front xs ys i x e

get_end : {A : Type 0} (xs : List A) (x : A) → slice_get (xs ++ x ∷ []) (length xs) ≡ Some x
get_end [] x = refl
get_end (y ∷ xs) x = get_end xs x

children-push : (p : Name) (f k n : ℕ) → children p f k (suc n) ≡ children p f k n ++ child p f (k + n) ∷ []
children-push p f k zero = ap (λ j. child p f j ∷ []) (omega arith)
children-push p f k (suc n) = ap (λ ps. child p f k ∷ ps) (children-push p f (suc k) n ∙ ap (λ j. children p f (suc k) n ++ child p f j ∷ []) (omega arith))

-- ---- one child

module _ (t u : Table) (parent : ℕ) (a : Activity) (s : IsTable t) (added : Added parent a t u) where
  abbrev c : ℕ
  c = added.slot

  dead : is_live t c ≡ false
  dead = ap (λ h. nat_lt c 32 && not (is_free_home h)) added.was ∙ neither (nat_lt c 32)
    where
      neither : (b : Bool) → (b && false) ≡ false
      neither true = refl
      neither false = refl

  later : 0 < c
  later = elim (cases_eq c 0) [
    | inl e ↦ let h : true ≡ false = sym (ap is_free_home (ap (home_of t.lists) (sym e) ∙ added.was)) ∙ s.root in absurd (cc)
    | inr ne ↦ omega (arith, ne)
  ]

  home_there : (i : ℕ) → (i ≡ c → ⊥) → home_of u.lists i ≡ home_of t.lists i
  home_there i ne = put_home_there added.between u 0 c (beginning parent a) added.put i ne ∙ added.taken.homes i
      ∙ ap (λ b. if b then None else home_of t.lists i) (ne_eqb i c ne)

  process_there : (i : ℕ) → (i ≡ c → ⊥) → process_at u i ≡ process_at t i
  process_there i ne = put_there added.between u 0 c (beginning parent a) added.put i ne ∙ ap (λ xs. slice_index_or xs i no_process) added.taken.processes

  process_here : process_at u c ≡ beginning parent a
  process_here = put_here added.between u 0 c (beginning parent a) added.put
      (let e : length added.between.processes ≡ length t.processes = ap length added.taken.processes in omega (arith, e, s.wide, added.inside))

  lives : (i : ℕ) → is_live u i ≡ (nat_eq i c || is_live t i)
  lives i = elim (cases_eq i c) [
    | inl e ↦
        ap (is_live u) e ∙ live_of_home u c added.inside (ap is_free_home (put_home_here added.between u 0 c (beginning parent a) added.put))
        ∙ sym (ap (λ b. b || is_live t i) (eq-eqb i c e))
    | inr ne ↦ ap (λ h. nat_lt i 32 && not (is_free_home h)) (home_there i ne) ∙ sym (ap (λ b. b || is_live t i) (ne_eqb i c ne))
  ]

  marked_same : u.marked ≡ t.marked
  marked_same = added.put.marked ∙ added.taken.marked

  marks_same : u.marks ≡ t.marks
  marks_same = added.put.marks ∙ added.taken.marks

  -- a ready one had another slot
  ready_not : (i : ℕ) → IsAmong i (ready_slots t) → i ≡ c → ⊥
  ready_not i h e = not_both (home_of t.lists c) (ap (home_of t.lists) (sym e) ∙ home_among t 0 i s.sound (omega arith) h) added.was

-- ---- the children one after another

-- the process at this slot is taken, the table is that of the machine with this memory, and no process is marked
pub record Stood (slot : ℕ) (words : List ℕ) (t : Table) (n : Naming) (m : Machine) : Type 0 where
  pub table : IsTable t
  pub stands : TableIsMachine t n m
  pub live : is_live t slot ≡ true
  pub homeless : home_of t.lists slot ≡ None
  pub memory : m.memory ≡ words
  pub no_marks_left : m.marks ≡ []
  pub unmarked : t.marked ≡ no_marks
  pub none_counted : t.marks ≡ 0

module _ (slot : ℕ) (parent : Activity) (branches : List Branch) (store : List ℕ) (t : Table) (n : Naming) (m : Machine) (f : ℕ) where
  abbrev share : ℕ
  share = share_in parent branches

  abbrev p : Name
  p = n.name slot

  pub record Starts : Type 0 where
    pub inside : slot < 32
    pub stood : Stood slot store t n m
    pub none : children_of t slot ≡ 0
    pub waiting : (process_at t slot).standing ≡ standing.Waiting (length branches)
    pub fork : f ≤ n.forks slot
    pub fresh : (i q : ℕ) → is_live t i ≡ true → n.name i ≡ child p f q → ⊥

  abbrev others : ℕ
  others = length (ready_slots t)

  -- after i children
  pub record Grown (i : ℕ) (words : List ℕ) (u : Table) : Type 0 where
    pub naming : Naming
    pub machine : Machine
    pub stood : Stood slot words u naming machine
    pub few : children_of u slot ≤ i
    pub waiting : (process_at u slot).standing ≡ standing.Waiting (length branches)
    pub fork : f ≤ naming.forks slot
    pub named : naming.name slot ≡ p
    pub fresh : (j q : ℕ) → i ≤ q → is_live u j ≡ true → naming.name j ≡ child p f q → ⊥
    pub ready : map naming.name (ready_slots u) ≡ map n.name (ready_slots t) ++ children p f 0 i
    pub many : length (ready_slots u) ≡ others + i
    pub lives : (j : ℕ) → is_live t j ≡ true → is_live u j ≡ true
    pub names : (j : ℕ) → is_live t j ≡ true → naming.name j ≡ n.name j
    pub forks : (j : ℕ) → is_live t j ≡ true → naming.forks j ≡ n.forks j
    pub born : (j : ℕ) → is_live t j ≡ false → is_live u j ≡ true → IsBorn p f others u naming j
    pub turns : machine.turns ≡ m.turns
    pub system : machine.system ≡ m.system
    pub chain : with_children p f i parent.base (parent.end + i * share) share (drop i branches) machine ≡ with_children p f 0 parent.base parent.end share
        branches m

  module _ (s : Starts) where
    grown_none : Grown 0 store t
    grown_none = record {
      naming = n;
      machine = m;
      stood = s.stood;
      few = omega (arith, s.none);
      waiting = s.waiting;
      fork = s.fork;
      named = refl;
      fresh = λ j q _ l e. s.fresh j q l e;
      ready = sym (append-nil (map n.name (ready_slots t)));
      many = omega arith;
      lives = λ j l. l;
      names = λ j l. refl;
      forks = λ j l. refl;
      born = λ j absent l. let a : false ≡ true = sym absent ∙ l in absurd (cc);
      turns = refl;
      system = refl;
      chain = ap (λ a. with_children p f 0 parent.base a share (drop 0 branches) m) (omega arith)
          ∙ ap (λ bs. with_children p f 0 parent.base parent.end share bs m) (drop_none branches);
    }

    module _ (i : ℕ) (words : List ℕ) (u : Table) (h : OneMore slot parent branches i (HaveBegun slot parent branches store t i) words u)
        (g : Grown i h.store_before h.table_before) (b : Branch) (at_i : slice_get branches i ≡ Some b)
        (is : h.child ≡ child_at (child_first (local_of [] parent) share i) share b) (less : i < length branches) where
      abbrev at : ℕ
      at = parent.end + i * share

      abbrev slot_i : ℕ
      slot_i = h.added.slot

      abbrev machine_i : Machine
      machine_i = with_child (child p f i) parent.base at share b g.machine

      abbrev naming_i : Naming
      naming_i = births.now_named h.table_before u g.naming g.machine machine_i slot slot_i f i (beginning slot h.child)

      begins : births.ChildBegins h.table_before u g.naming g.machine machine_i slot slot_i f i (beginning slot h.child)
      begins = record {
        stands = g.stood.stands;
        live = g.stood.live;
        dead = dead h.table_before u slot h.child g.stood.table h.added;
        slot = h.added.inside;
        later = later h.table_before u slot h.child g.stood.table h.added;
        here = process_here h.table_before u slot h.child g.stood.table h.added;
        parent = refl;
        there = process_there h.table_before u slot h.child g.stood.table h.added;
        lives = lives h.table_before u slot h.child g.stood.table h.added;
        free = added_free slot h.child h.table_before u g.stood.table s.inside h.ordered h.added;
        activities =
            ap (λ q. with_at g.machine.activities q (entry_of (beginning slot (child_at (child_first (local_of [] parent) share i) share b)) 0))
            (ap (λ q. child q f i) (sym g.named))
            ∙ ap (λ c. with_at g.machine.activities (child (g.naming.name slot) f i) (entry_of (beginning slot c) 0)) (sym is);
        marks = λ j l. ap (λ ms. has ms (naming_i.name j)) g.stood.no_marks_left
            ∙ sym (ap (λ ms. slice_index_or ms j false) (marked_same h.table_before u slot h.child g.stood.table h.added ∙ g.stood.unmarked)
            ∙ unmarked_at 32 j);
        going = refl;
        fork = g.fork;
        fresh = λ j l e. g.fresh j i (omega arith) l (e ∙ ap (λ q. child q f i) g.named);
        awaits = subst (λ x. Awaits x (suc (children_of h.table_before slot))) (sym g.waiting) (omega (arith, g.few, less));
      }

      not_slot : slot ≡ slot_i → ⊥
      not_slot = births.other h.table_before u g.naming g.machine machine_i slot slot_i f i (beginning slot h.child) begins slot g.stood.live

      name_other : (j : ℕ) → (j ≡ slot_i → ⊥) → naming_i.name j ≡ g.naming.name j
      name_other = births.not_c h.table_before u g.naming g.machine machine_i slot slot_i f i (beginning slot h.child) begins

      name_new : naming_i.name slot_i ≡ child p f i
      name_new = births.at_c h.table_before u g.naming g.machine machine_i slot slot_i f i (beginning slot h.child) begins slot_i refl
          ∙ ap (λ q. child q f i) g.named

      fresh_i : (j q : ℕ) → suc i ≤ q → is_live u j ≡ true → naming_i.name j ≡ child p f q → ⊥
      fresh_i j q le l e = elim (cases_eq j slot_i) [
        | inl x ↦
            let y : child p f i ≡ child p f q = sym (ap naming_i.name x ∙ name_new) ∙ e in
            let z : (p ≡ p) × (f ≡ f) × (i ≡ q) = same_ends p p f i f q y in
            let w : i ≡ q = z.2 in omega (arith, w, le)
        | inr ne ↦
            g.fresh j q (omega (arith, le)) (births.was h.table_before u g.naming g.machine machine_i slot slot_i f i (beginning slot h.child) begins j ne l)
            (sym (name_other j ne) ∙ e)
      ]

      ready_i : map naming_i.name (ready_slots u) ≡ map n.name (ready_slots t) ++ children p f 0 (suc i)
      ready_i =
          ap (map naming_i.name) (added_ready slot h.child h.table_before u g.stood.table s.inside h.ordered h.added)
          ∙ map-append naming_i.name (ready_slots h.table_before) (slot_i ∷ [])
          ∙ ap (λ qs. qs ++ naming_i.name slot_i ∷ [])
          (map_same naming_i.name g.naming.name (ready_slots h.table_before)
          (λ j k. name_other j (ready_not h.table_before u slot h.child g.stood.table h.added j k)) ∙ g.ready)
          ∙ ap (λ q. (map n.name (ready_slots t) ++ children p f 0 i) ++ q ∷ []) name_new
          ∙ append_assoc (map n.name (ready_slots t)) (children p f 0 i) (child p f i ∷ [])
          ∙ ap (λ qs. map n.name (ready_slots t) ++ qs) (ap (λ j. children p f 0 i ++ child p f j ∷ []) (omega arith) ∙ sym (children-push p f 0 i))

      more_ready : ready_slots u ≡ ready_slots h.table_before ++ slot_i ∷ []
      more_ready = added_ready slot h.child h.table_before u g.stood.table s.inside h.ordered h.added

      -- who lived before the fork has another slot than the child
      not_child : (j : ℕ) → is_live t j ≡ true → j ≡ slot_i → ⊥
      not_child j l =
          births.other h.table_before u g.naming g.machine machine_i slot slot_i f i (beginning slot h.child) begins j (g.lives j l)

      born_i : (j : ℕ) → is_live t j ≡ false → is_live u j ≡ true → IsBorn p f others u naming_i j
      born_i j absent l = elim (cases_eq j slot_i) [
        | inl e ↦ record {
          number = i;
          at = ap (λ xs. slice_get xs (others + i)) more_ready ∙ ap (slice_get (ready_slots h.table_before ++ slot_i ∷ [])) (sym g.many)
              ∙ get_end (ready_slots h.table_before) slot_i ∙ ap Some (sym e);
          named = ap naming_i.name e ∙ name_new;
          forks = births.forks_c h.table_before u g.naming g.machine machine_i slot slot_i f i (beginning slot h.child) begins j e;
        }
        | inr ne ↦
            let b : IsBorn p f others h.table_before g.naming j =
            g.born j absent (births.was h.table_before u g.naming g.machine machine_i slot slot_i f i (beginning slot h.child) begins j ne l) in
            record {
              number = b.number;
              at = ap (λ xs. slice_get xs (others + b.number)) more_ready
                  ∙ get_front (ready_slots h.table_before) (slot_i ∷ []) (others + b.number) j b.at;
              named = name_other j ne ∙ b.named;
              forks = births.forks_not_c h.table_before u g.naming g.machine machine_i slot slot_i f i (beginning slot h.child) begins j ne ∙ b.forks;
            }
      ]

      chain_i : with_children p f (suc i) parent.base (parent.end + suc i * share) share (drop (suc i) branches) machine_i ≡ with_children p f 0 parent.base
          parent.end share branches m
      chain_i =
          ap (λ a. with_children p f (suc i) parent.base a share (drop (suc i) branches) machine_i) (next parent.end i share)
          ∙ ap (λ bs. with_children p f i parent.base at share bs g.machine) (sym (drop_at branches i b at_i)) ∙ g.chain
        where
          next : (a i s : ℕ) → a + suc i * s ≡ a + i * s + s
          next a i s = omega arith

      grown_more : Grown (suc i) words u
      grown_more = record {
        naming = naming_i;
        machine = machine_i;
        stood = record {
          table = added_table slot h.child h.table_before u g.stood.table s.inside h.ordered h.added;
          stands = births.begins h.table_before u g.naming g.machine machine_i slot slot_i f i (beginning slot h.child) begins;
          live = births.still h.table_before u g.naming g.machine machine_i slot slot_i f i (beginning slot h.child) begins slot g.stood.live;
          homeless = home_there h.table_before u slot h.child g.stood.table h.added slot not_slot ∙ g.stood.homeless;
          memory = ap (λ ws. written ws at (parent.base ∷ 0 ∷ 0 ∷ 0 ∷ 0 ∷ [])) g.stood.memory ∙ sym h.words;
          no_marks_left = g.stood.no_marks_left;
          unmarked = marked_same h.table_before u slot h.child g.stood.table h.added ∙ g.stood.unmarked;
          none_counted = marks_same h.table_before u slot h.child g.stood.table h.added ∙ g.stood.none_counted;
        };
        few = let e = births.children_p h.table_before u g.naming g.machine machine_i slot slot_i f i (beginning slot h.child) begins in
            omega (arith, e, g.few);
        waiting = ap (λ y. y.standing) (process_there h.table_before u slot h.child g.stood.table h.added slot not_slot) ∙ g.waiting;
        fork = let e = births.forks_not_c h.table_before u g.naming g.machine machine_i slot slot_i f i (beginning slot h.child) begins slot not_slot in
            omega (arith, e, g.fork);
        named = name_other slot not_slot ∙ g.named;
        fresh = fresh_i;
        ready = ready_i;
        many = ap length more_ready ∙ length-append (ready_slots h.table_before) (slot_i ∷ []) ∙ omega (arith, g.many);
        lives = λ j l.
            births.still h.table_before u g.naming g.machine machine_i slot slot_i f i (beginning slot h.child) begins j (g.lives j l);
        names = λ j l. name_other j (not_child j l) ∙ g.names j l;
        forks = λ j l.
            births.forks_not_c h.table_before u g.naming g.machine machine_i slot slot_i f i (beginning slot h.child) begins j (not_child j l)
            ∙ g.forks j l;
        born = born_i;
        turns = g.turns;
        system = g.system;
        chain = chain_i;
      }

    pub grown : (i : ℕ) (words : List ℕ) (u : Table) → i ≤ length branches → HaveBegun slot parent branches store t i words u → Grown i words u
    grown zero words u le h = subst (λ w. Grown 0 w u) (sym h.0) (subst (λ v. Grown 0 store v) (sym h.1) grown_none)
    grown (suc i) words u le h = by_branch (slice_get branches i) refl h.is (grown i h.store_before h.table_before (omega (arith, le)) h.begun)
      where
        by_branch : (o : Option Branch) → slice_get branches i ≡ o → Some h.child ≡ option_map (child_at (child_first (local_of [] parent) share i) share) o
            → Grown i h.store_before h.table_before → Grown (suc i) words u
        by_branch None e k g = let a : Some h.child ≡ None = k in absurd (cc)
        by_branch (Some b) e k g = grown_more i words u h g b e (some k) (omega (arith, le))
          where
            some : {x y : Activity} → Some x ≡ Some y → x ≡ y
            some e = cc
