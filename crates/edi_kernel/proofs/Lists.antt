-- What a slot that joins or leaves a list changes, and what every table keeps.
use Rattle.std.proofs.Common.{◌≡◌, ℕ, zero, suc, ◌<◌, ◌⊎◌, inl, inr, Bool, true, false, ◌&&◌, not, nat_eq, nat_lt, if◌then◌else◌, List, [], ◌∷◌, ◌++◌}
use Rattle.std.proofs.Common.{length, Option, Some, None, refl, sym, ◌∙◌, ap, arith, subst, slice_index_or, get_or-set_same, get_or-set_other, length-set}
use Rattle.std.proofs.Common.{eq-eqb}
use Rattle.std.specs.Prelude.{replicate, ◌==◌}
use Rattle.std.proofs.lemmas.Bool.{cases_eq, ne_eqb, eqb-true}
use Rattle.std.proofs.lemmas.Bool.Decides.{nat_tests}
use Rattle.edi_ring.specs.Lists.{list_at, home_of, IsSound}
use Rattle.edi_ring.specs.Links.{IsAmong}
use Rattle.edi_ring.proofs.Homes.{has-from_among}
use Rattle.edi_machine.specs.Activities.{IsOrdered}
use Rattle.edi_kernel.specs.declared.table.Process.{Process}
use Rattle.edi_kernel.specs.declared.table.Table.{Table}
use Rattle.edi_kernel.specs.Table.{PutsProcess, Withdraws, process_at, ready_slots, is_live, is_free_home, is_waiting, no_process, no_marks, with_process}
use Rattle.edi_kernel.specs.TableIsMachine.{IsTable, marked_among}
use Rattle.edi_kernel.proofs.Slots.{home_in}
use Rattle.edi_kernel.proofs.Changes.{at_set_same, at_set_other}

-- ---- the lists

-- who is in a list has it as its home
pub home_among : (t : Table) (l i : ℕ) → IsSound 32 2 t.lists → l < 2 → IsAmong i (list_at t.lists l) → home_of t.lists i ≡ Some l
home_among t l i s lt h =
    home_in t.lists l i s.as_many lt (has-from_among i (list_at t.lists l) h)
    (λ a b. let e : 0 ≡ 1 = s.in_one_list 0 1 i a b in absurd (omega (arith, e)))

-- no slot is ready and free
pub not_both : (o : Option ℕ) → o ≡ Some 0 → o ≡ Some 1 → ⊥
not_both o ready free = let same : 0 ≡ 1 = some (sym ready ∙ free) in absurd (omega (arith, same))
  where
    some : {x y : ℕ} → Some x ≡ Some y → x ≡ y
    some e = cc

pub live_of_home : (t : Table) (i : ℕ) → i < 32 → is_free_home (home_of t.lists i) ≡ false → is_live t i ≡ true
live_of_home t i h e = ap (λ b. nat_lt i 32 && not b) e ∙ go (nat_lt i 32) (below i h)
  where
    below : (i : ℕ) → i < 32 → nat_lt i 32 ≡ true
    below i h = grind (arith, nat_tests)

    go : (b : Bool) → b ≡ true → (b && true) ≡ true
    go true e = refl
    go false e = absurd (cc)

pub ready_live : (t : Table) (i : ℕ) → IsSound 32 2 t.lists → IsAmong i (ready_slots t) → is_live t i ≡ true
ready_live t i s h =
    live_of_home t i (s.in_range 0 i (has-from_among i (ready_slots t) h)) (ap is_free_home (home_among t 0 i s (omega arith) h))

-- ---- a slot that joins a list

module _ (t u : Table) (l p : ℕ) (x : Process) (put : PutsProcess l p x t u) (sound : IsSound 32 2 t.lists) (lt : l < 2) where
  pub put_list : list_at u.lists l ≡ list_at t.lists l ++ p ∷ []
  put_list = ap (λ ls. list_at ls l) put.lists ∙ get_or-set_same t.lists l (list_at t.lists l ++ p ∷ []) [] (omega (arith, sound.as_many))

  pub put_other : (k : ℕ) → (k ≡ l → ⊥) → list_at u.lists k ≡ list_at t.lists k
  put_other k ne = ap (λ ls. list_at ls k) put.lists ∙ get_or-set_other t.lists l k (list_at t.lists l ++ p ∷ []) [] ne

module _ (t u : Table) (l p : ℕ) (x : Process) (put : PutsProcess l p x t u) where
  pub put_home_here : home_of u.lists p ≡ Some l
  put_home_here = put.homes p ∙ ap (λ b. if b then Some l else home_of t.lists p) (eq-eqb p p refl)

  pub put_home_there : (i : ℕ) → (i ≡ p → ⊥) → home_of u.lists i ≡ home_of t.lists i
  put_home_there i ne = put.homes i ∙ ap (λ b. if b then Some l else home_of t.lists i) (ne_eqb i p ne)

  pub put_here : p < length t.processes → process_at u p ≡ x
  put_here h = ap (λ xs. slice_index_or xs p no_process) put.processes ∙ at_set_same t.processes p x h

  pub put_there : (i : ℕ) → (i ≡ p → ⊥) → process_at u i ≡ process_at t i
  put_there i ne = ap (λ xs. slice_index_or xs i no_process) put.processes ∙ at_set_other t.processes p i x ne

-- who joins the ready ones from no list stays alive
pub put_lives : (t u : Table) (p : ℕ) (x : Process) → PutsProcess 0 p x t u → home_of t.lists p ≡ None → (i : ℕ) → is_live u i ≡ is_live t i
put_lives t u p x put none i = ap (λ b. nat_lt i 32 && not b) (elim (cases_eq i p) [
  | inl e ↦ ap (λ j. is_free_home (home_of u.lists j)) e ∙ ap is_free_home (put_home_here t u 0 p x put)
      ∙ sym (ap (λ j. is_free_home (home_of t.lists j)) e ∙ ap is_free_home none)
  | inr ne ↦ ap is_free_home (put_home_there t u 0 p x put i ne)
])

pub put_table : (t u : Table) (l p : ℕ) (x : Process) → IsTable t → PutsProcess l p x t u → (nat_eq l 1 ≡ false) ⊎ (0 < p) → p < 32 → x.parent < 32
    → IsOrdered x.activity → is_waiting x.standing ≡ false → IsTable u
put_table t u l p x s put rooted lt parent ordered going = record {
  sound = put.sound;
  wide = ap length put.processes ∙ length-set t.processes p x ∙ s.wide;
  marked_wide = ap length put.marked ∙ s.marked_wide;
  clear = λ none. put.marked ∙ s.clear (sym put.marks ∙ none);
  parents = λ i. elim (cases_eq i p) [
    | inl e ↦ subst (λ y. y.parent < 32) (sym (here i e)) parent
    | inr ne ↦ subst (λ y. y.parent < 32) (sym (put_there t u l p x put i ne)) (s.parents i)
  ];
  ordered = λ i b. elim (cases_eq i p) [
    | inl e ↦ subst (λ y. IsOrdered y.activity) (sym (here i e)) ordered
    | inr ne ↦ subst (λ y. IsOrdered y.activity) (sym (put_there t u l p x put i ne)) (s.ordered i b)
  ];
  root = ap is_free_home (put.homes 0) ∙ rooted_at (0 == p) refl rooted;
  waiting = λ i w. elim (cases_eq i p) [
    | inl e ↦ let a : true ≡ false = sym w ∙ ap (λ y. is_waiting y.standing) (here i e) ∙ going in absurd (cc)
    | inr ne ↦ put_home_there t u l p x put i ne ∙ s.waiting i (sym (ap (λ y. is_waiting y.standing) (put_there t u l p x put i ne)) ∙ w)
  ];
}
  where
    rooted_at : (b : Bool) → (0 == p) ≡ b → (nat_eq l 1 ≡ false) ⊎ (0 < p) → is_free_home (if b then Some l else home_of t.lists 0) ≡ false
    rooted_at false e r = s.root
    rooted_at true e (inl r) = r
    rooted_at true e (inr r) = let h : 0 ≡ p = eqb-true 0 p e in absurd (omega (arith, h, r))

    here : (i : ℕ) → i ≡ p → process_at u i ≡ x
    here i e = ap (process_at u) e ∙ put_here t u l p x put (omega (arith, s.wide, lt))

pub written_table : (t : Table) (p : ℕ) (x : Process) → IsTable t → p < 32 → x.parent < 32 → IsOrdered x.activity → home_of t.lists p ≡ None
    → IsTable (with_process t p x)
written_table t p x s lt parent ordered none = record {
  sound = s.sound;
  wide = length-set t.processes p x ∙ s.wide;
  marked_wide = s.marked_wide;
  clear = s.clear;
  parents = λ i. elim (cases_eq i p) [
    | inl e ↦ subst (λ y. y.parent < 32) (sym (here i e)) parent
    | inr ne ↦ subst (λ y. y.parent < 32) (sym (at_set_other t.processes p i x ne)) (s.parents i)
  ];
  ordered = λ i b. elim (cases_eq i p) [
    | inl e ↦ subst (λ y. IsOrdered y.activity) (sym (here i e)) ordered
    | inr ne ↦ subst (λ y. IsOrdered y.activity) (sym (at_set_other t.processes p i x ne)) (s.ordered i b)
  ];
  root = s.root;
  waiting = λ i w. elim (cases_eq i p) [
    | inl e ↦ ap (home_of t.lists) e ∙ none
    | inr ne ↦ s.waiting i (sym (ap (λ y. is_waiting y.standing) (at_set_other t.processes p i x ne)) ∙ w)
  ];
}
  where
    here : (i : ℕ) → i ≡ p → process_at (with_process t p x) i ≡ x
    here i e = ap (process_at (with_process t p x)) e ∙ at_set_same t.processes p x (omega (arith, s.wide, lt))

pub withdrawn_table : (t u : Table) (p : ℕ) → IsTable t → Withdraws p t u → IsTable u
withdrawn_table t u p s w = record {
  sound = w.sound;
  wide = ap length w.processes ∙ s.wide;
  marked_wide = ap length w.marked ∙ s.marked_wide;
  clear = λ none. w.marked ∙ s.clear (sym w.marks ∙ none);
  parents = λ i. subst (λ xs. (slice_index_or xs i no_process).parent < 32) (sym w.processes) (s.parents i);
  ordered = λ i b. subst (λ xs. IsOrdered (slice_index_or xs i no_process).activity) (sym w.processes) (s.ordered i b);
  root = ap is_free_home (w.homes 0) ∙ taken (0 == p) (home_of t.lists 0) s.root;
  waiting = λ i h. w.homes i ∙ none (i == p) (home_of t.lists i)
      (s.waiting i (sym (ap (λ xs. is_waiting (slice_index_or xs i no_process).standing) w.processes) ∙ h));
}
  where
    taken : (b : Bool) (o : Option ℕ) → is_free_home o ≡ false → is_free_home (if b then None else o) ≡ false
    taken true o e = refl
    taken false o e = e

    none : (b : Bool) (o : Option ℕ) → o ≡ None → (if b then None else o) ≡ None
    none true o e = refl
    none false o e = e

-- ---- marks

pub unmarked_at : (n i : ℕ) → slice_index_or (replicate n false) i false ≡ false
unmarked_at zero i = refl
unmarked_at (suc n) zero = refl
unmarked_at (suc n) (suc i) = unmarked_at n i

pub none_marked : (t : Table) (xs : List ℕ) → t.marked ≡ no_marks → marked_among t xs ≡ 0
none_marked t [] e = refl
none_marked t (x ∷ xs) e =
    ap (λ b. if b then suc (marked_among t xs) else marked_among t xs) (ap (λ ms. slice_index_or ms x false) e ∙ unmarked_at 32 x) ∙ none_marked t xs e
