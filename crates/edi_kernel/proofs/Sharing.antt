-- Lists of slots with one of them taken out, and the slots of children.
use Rattle.std.proofs.Common.{Bor, ◌≡◌, ℕ, zero, suc, ◌+◌, ◌-◌, ◌/◌, ◌<◌, inl, inr, Bool, true, false, nat_eq, if◌then◌else◌, List, [], ◌∷◌, ◌++◌, length}
use Rattle.std.proofs.Common.{map, Some, None, refl, sym, ◌∙◌, ap, arith, subst, eq-eqb, drop}
use Rattle.std.specs.Prelude.{slice_get}
use Rattle.std.specs.List.{IsDistinct, AllByRecursion}
use Rattle.edi_calls.specs.Names.{Name}
use Rattle.edi_calls.specs.Ready.{name_at, without_index}
use Rattle.edi_ring.specs.Lists.{list_at, has, home_of, without}
use Rattle.edi_ring.specs.Links.{IsAmong, NoneTwice}
use Rattle.edi_ring.proofs.Chain.{minus, length-minus, minus_none, minus_here, minus_there}
use Rattle.edi_ring.proofs.Homes.{among-from_has, has-from_among}
use Rattle.std.proofs.Common.{◌&&◌, ◌^◌}
use Rattle.std.specs.List.{list_all}
use Rattle.std.specs.Option.{option_map}
use Rattle.std.proofs.lemmas.Bool.Decides.{nat_tests}
use Rattle.edi_store.specs.Memory.{written}
use Rattle.edi_target.specs.Op as op
use Rattle.edi_target.specs.Op.{Branch, is_allowed, is_count, has_frame}
use Rattle.edi_target.specs.View.{Found, instruction_of}
use Rattle.edi_target.specs.declared.op.Op.{Op}
use Rattle.edi_target.specs.declared.op.Op.TheVariants as code
use Rattle.edi_machine.specs.Activities.{local_of}
use Rattle.edi_machine.specs.Starts.{child_at, child_first}
use Rattle.edi_kernel.specs.Forks.{HaveBegun, share_in}
use Rattle.edi_target.specs.Decode.{branches_of, decode}
use Rattle.edi_machine.specs.Starts.{branches_at, branches_in}
use Rattle.edi_kernel.specs.declared.table.Table.{Table}
use Rattle.edi_kernel.specs.Table.{Withdraws, Added, beginning, ready_slots, free_slots}
use Rattle.edi_kernel.specs.TableIsMachine.{IsTable}
use Rattle.edi_machine.specs.declared.activity.Activity.{Activity}
use Rattle.edi_machine.specs.Activities.{IsOrdered}
use Rattle.edi_kernel.proofs.Lists.{withdrawn_table, put_table, put_list, put_other}

-- ---- lists without one of their nodes

none_like : (x y : ℕ) (xs : List ℕ) → AllByRecursion (λ z. nat_eq x z ≡ false) xs → IsAmong y xs → x ≡ y → ⊥
none_like x y [] a i e = i
none_like x y (z ∷ xs) a (inl h) e = let t : true ≡ false = sym (eq-eqb x z (e ∙ h)) ∙ a.0 in absurd (cc)
none_like x y (z ∷ xs) a (inr h) e = none_like x y xs a.1 h e

pub none_twice : (xs : List ℕ) → IsDistinct nat_eq xs → NoneTwice xs
unfolding IsDistinct
none_twice [] d = tt
none_twice (x ∷ xs) d = (λ i. none_like x x xs d.0 i refl, none_twice xs d.1)

pub list_without : (ls : List (List ℕ)) (l x : ℕ) → list_at (without ls x) l ≡ minus x (list_at ls l)
list_without [] l x = refl
list_without (a ∷ ls) zero x = refl
list_without (a ∷ ls) (suc l) x = list_without ls l x

-- a free slot is in the list of the free ones
pub among_home : (ls : List (List ℕ)) (x l : ℕ) → length ls ≡ 2 → home_of ls x ≡ Some l → IsAmong x (list_at ls l)
among_home [] x l e h = absurd (omega (arith, e))
among_home (a ∷ []) x l e h = absurd (omega (arith, e))
among_home (a ∷ b ∷ c ∷ ls) x l e h = absurd (omega (arith, e))
among_home (a ∷ b ∷ []) x l e h = go (has a x) (has b x) refl refl h
  where
    go : (s t : Bool) → has a x ≡ s → has b x ≡ t → (if s then Some 0 else if t then Some 1 else None) ≡ Some l → IsAmong x (list_at (a ∷ b ∷ []) l)
    go true t f g k = let z : 0 ≡ l = cc in subst (λ l. IsAmong x (list_at (a ∷ b ∷ []) l)) z (among-from_has x a f)
    go false true f g k = let z : 1 ≡ l = cc in subst (λ l. IsAmong x (list_at (a ∷ b ∷ []) l)) z (among-from_has x b g)
    go false false f g k = absurd (cc)

-- the names of the others, where the node at a slot is taken out
pub others_named : (name : ℕ → Name) (xs : List ℕ) (k x : ℕ) → NoneTwice xs → slice_get xs k ≡ Some x → (name_at (map name xs) k ≡ name x)
    × (map name (minus x xs) ≡ without_index (map name xs) k)
others_named name [] k x t e = absurd (cc)
others_named name (y ∷ xs) zero x t e =
    let same : y ≡ x = some e in
    (ap name same, ap (map name) (minus_here x y xs (sym same) (λ i. t.0 (subst (λ z. IsAmong z xs) (sym same) i))))
  where
    some : Some y ≡ Some x → y ≡ x
    some e = cc
others_named name (y ∷ xs) (suc k) x t e =
    let r : (name_at (map name xs) k ≡ name x) × (map name (minus x xs) ≡ without_index (map name xs) k) = others_named name xs k x t.1 e in
    (r.0, ap (map name) (minus_there x y xs (λ h. t.0 (subst (λ z. IsAmong z xs) h (among xs k e)))) ∙ ap (λ ns. name y ∷ ns) r.1)
  where
    among : (xs : List ℕ) (k : ℕ) → slice_get xs k ≡ Some x → IsAmong x xs
    among [] k e = let a : None ≡ Some x = e in absurd (cc)
    among (z ∷ xs) zero e = inl (cc)
    among (z ∷ xs) (suc k) e = inr (among xs k e)

-- ---- a free slot is taken

module _ (t u : Table) (x : ℕ) (s : IsTable t) (w : Withdraws x t u) (was : home_of t.lists x ≡ Some 1) where
  pub fewer_free : length (free_slots t) ≡ length (free_slots u) + 1
  fewer_free =
      length-minus x (free_slots t) (among_home t.lists x 1 s.sound.as_many was) (none_twice (free_slots t) (s.sound.once 1))
      ∙ ap (λ n. n + 1) (sym (ap length (ap (λ ls. list_at ls 1) w.lists ∙ list_without t.lists 1 x)))

  pub same_ready : ready_slots u ≡ ready_slots t
  same_ready = ap (λ ls. list_at ls 0) w.lists ∙ list_without t.lists 0 x ∙ minus_none x (ready_slots t) (λ i. other (has_both i))
    where
      has_both : IsAmong x (ready_slots t) → ◌≡◌ {A = ℕ} 0 1
      has_both i = s.sound.in_one_list 0 1 x (has-from_among x (ready_slots t) i) (has-from_among x (free_slots t) (among_home t.lists x 1 s.sound.as_many was))

      other : ◌≡◌ {A = ℕ} 0 1 → ⊥
      other e = omega (arith, e)

module _ (parent : ℕ) (a : Activity) (t u : Table) (s : IsTable t) (lt : parent < 32) (ordered : IsOrdered a) (added : Added parent a t u) where
  pub between_table : IsTable added.between
  between_table = withdrawn_table t added.between added.slot s added.taken

  pub added_table : IsTable u
  added_table = put_table added.between u 0 added.slot (beginning parent a) between_table added.put (inl refl) added.inside lt ordered refl

  pub added_free : length (free_slots u) + 1 ≡ length (free_slots t)
  added_free =
      let other : length (free_slots u) ≡ length (free_slots added.between) = ap length
      (put_other added.between u 0 added.slot (beginning parent a) added.put between_table.sound (omega arith) 1 (λ e. omega (arith, e))) in
      omega (arith, other, fewer_free t added.between added.slot s added.taken added.was)

  pub added_ready : ready_slots u ≡ ready_slots t ++ added.slot ∷ []
  added_ready =
      put_list added.between u 0 added.slot (beginning parent a) added.put between_table.sound (omega arith)
      ∙ ap (λ xs. xs ++ added.slot ∷ []) (same_ready t added.between added.slot s added.taken added.was)

-- ---- the number of branches

pub length-branches : (ws : List ℕ) → length (branches_of ws) ≡ length ws / 3
length-branches [] = refl
length-branches (a ∷ []) = refl
length-branches (a ∷ b ∷ []) = refl
length-branches (a ∷ b ∷ c ∷ ws) = let r : length (branches_of ws) ≡ length ws / 3 = length-branches ws in omega (arith, r)

branches_of_found : (words : List ℕ) (at line n : ℕ) (bs : List Branch) → decode (drop at words) ≡ Some (op.cobegin line bs, n) → branches_at words at ≡ bs
branches_of_found words at line n bs e = ap (λ d. branches_in (elim d [ None ↦ None | Some found ↦ Some (found.0, at + found.1) ])) e

-- the COBEGIN that was read gives its branches
pub branches_read : (words : List ℕ) (at next line : ℕ) (x : Op) (ws : Bor (List ℕ)) → Found words at (instruction_of x) next → x ≡ code.Cobegin line ws →
    length ws.now / 3 ≡ length (branches_at words at)
branches_read words at next line x ws f e =
    let d : decode (drop at words) ≡ Some (op.cobegin line (branches_of ws.now), next - at) = f.decoded ∙ ap (λ x. Some (instruction_of x, next - at)) e in
    sym (length-branches ws.now) ∙ sym (ap length (branches_of_found words at line (next - at) (branches_of ws.now) d))

-- there are fewer than 65,536 of them
pub branches_few : (words : List ℕ) (at next line : ℕ) (x : Op) (ws : Bor (List ℕ)) → Found words at (instruction_of x) next → x ≡ code.Cobegin line ws
    → length ws.now / 3 < 2 ^ 32
branches_few words at next line x ws f e =
    let a : is_allowed (op.cobegin line (branches_of ws.now)) ≡ true = sym (ap (λ x. is_allowed (instruction_of x)) e) ∙ f.reads.allowed in
    few (length (branches_of ws.now)) (list_all has_frame (branches_of ws.now)) (length ws.now / 3) (length-branches ws.now) a
  where
    below : (n : ℕ) → is_count n ≡ true → n < 2 ^ 16
    below n h = grind (arith, nat_tests)

    left : (a b : Bool) → (a && b) ≡ true → a ≡ true
    left true b h = refl
    left false b h = absurd (cc)

    few : (n : ℕ) (b : Bool) (k : ℕ) → n ≡ k → (is_count n && b) ≡ true → k < 2 ^ 32
    few n b k e h = let l : n < 2 ^ 16 = below n (left (is_count n) b h) in omega (arith, e, l)

-- one child more has begun
pub one_child : (slot : ℕ) (parent : Activity) (branches : List Branch) (store : List ℕ) (table : Table) (i : ℕ) (s u : List ℕ) (t v : Table)
    (child : Activity) →
    HaveBegun slot parent branches store table i s t →
    Some child ≡ option_map (child_at (child_first (local_of [] parent) (share_in parent branches) i) (share_in parent branches)) (slice_get branches i)
    → IsOrdered child →
    u ≡ written s (child_first (local_of [] parent) (share_in parent branches) i) (parent.base ∷ 0 ∷ 0 ∷ 0 ∷ 0 ∷ []) → Added slot child t v →
    HaveBegun slot parent branches store table (i + 1) u v
one_child slot parent branches store table i s u t v child begun is ordered words added =
    let e : suc i ≡ i + 1 = omega arith in
    subst (λ j. HaveBegun slot parent branches store table j u v) e
    (record { store_before = s; table_before = t; begun = begun; child = child; is = is; ordered = ordered; words = words; added = added })
