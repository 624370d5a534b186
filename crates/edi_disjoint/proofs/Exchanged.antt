-- THE EXCHANGE, from what the first law says of a state: two steps of processes of disjoint branches lead to the same state in either
-- order.
use Rattle.std.proofs.Common.{◌≡◌, ℕ, suc, ◌⊎◌, inl, inr, true, false, [], length, Some}
use Rattle.std.proofs.Common.{refl, sym, subst, ap, ◌∙◌, arith}
use Rattle.std.proofs.lemmas.List.{nil_from_length}
use Rattle.std.specs.Prelude.{IsTrue, slice_get, slice_index_or}
use Rattle.edi_calls.specs.Names.{Name, same, find}
use Rattle.edi_calls.specs.Ready.{parent_of}
use Rattle.edi_calls.proofs.Tables.{same-or-other, same-symmetric}
use Rattle.edi_unit.specs.Need.{block_at, slots}
use Rattle.edi_unit.specs.Fits.{Fits, is_procedure}
use Rattle.edi_unit.specs.Tree.{ProgramUnit}
use Rattle.edi_meaning.specs.Store.{Spot, instances, frames, shape, now, cells_in, no_cell, cell, ancestor, Owns}
use Rattle.edi_meaning.specs.Evaluation.{World, Evaluation, gives}
use Rattle.edi_meaning.specs.Step.{Asks, Process, Processes, local_step}
use Rattle.edi_meaning.specs.Permitted.{is_running}
use Rattle.edi_meaning.specs.Laws.{IsWaiting}
use Rattle.edi_meaning.proofs.Own.{owns_self, owns_first, length-ancestor}
use Rattle.edi_meaning.proofs.Parents.{Family, waiting_does_not_run}
use Rattle.edi_meaning.proofs.Dangling.{owner_waits}
use Rattle.edi_calls.proofs.Names.{some_is}
use Rattle.edi_disjoint.specs.Footprints.{Sees, CallsSystem, CallsParameter, NamesProgram, Disjoint}
use Rattle.edi_disjoint.proofs.Pairing.{Pair}
use Rattle.edi_disjoint.proofs.Locally.{StandingMay}
use Rattle.edi_disjoint.proofs.Cells.{block_in}
use Rattle.edi_disjoint.proofs.Puts.{cells_of}
use Rattle.edi_disjoint.proofs.Texts.{text_of}
use Rattle.edi_disjoint.proofs.Agreeing.{variable_in, Agree, Changes, Rewritten}
use Rattle.edi_disjoint.proofs.Beside.{Knows}
use Rattle.edi_disjoint.proofs.SecondLaw.{Second, second_law}
use Rattle.edi_disjoint.proofs.Effects.{Results}
use Rattle.edi_disjoint.proofs.Commuting.{instances_equal, store_off}
use Rattle.edi_disjoint.proofs.Written.{writes_variable, not_both}

-- ---- names

pub owns_parent_of : (q r : Name) → Owns q r → Owns q (parent_of r)
owns_parent_of q r o = record { generation = suc o.generation; is = ap parent_of o.is }

-- who has a parent below itself is nobody
pub not_round : (p r : Name) → (p ≡ [] → ⊥) → parent_of r ≡ p → Owns p r → ⊥
not_round p r some e o =
    let is : p ≡ ancestor (suc o.generation) p = sym e ∙ ap parent_of o.is in
    let long : length p ≡ length (ancestor (suc o.generation) p) = ap length is in
    let none : length p ≡ 0 = omega (arith, long, length-ancestor (suc o.generation) p) in
    some (nil_from_length p none)

pub not_equal : (r p : Name) → (r ≡ p → ⊥) → same r p ≡ false
not_equal r p h = go (same-or-other r p)
  where
    go : (r ≡ p) ⊎ (same r p ≡ false) → same r p ≡ false
    go (inl e) = absurd (h e)
    go (inr n) = n

-- ---- two results of evaluations

pair_of : {A : Type 0} (P : A → World → World → Type 0) (r t : Evaluation A) (a b : A) (w u : World) → r ≡ gives a w → t ≡ gives b u → Pair P r t → (a ≡ b) × P a w u
pair_of P r t a b w u e f h = subst (λ z. Pair P (gives a w) z) f (subst (λ z. Pair P z t) e h)

module _ (unit : ProgramUnit) where
  -- whoever's instances p may not use are as they were
  pub unowned : (b : ℕ) (p r : Name) (before after : World) → Changes unit b p before after → (Owns p r → ⊥) → same r p ≡ false → instances after.store r ≡ instances before.store r
  unowned b p r before after h apart off =
      instances_equal (instances after.store r) (instances before.store r) (h.frames r off) (λ d. h.counts (r, d) off) (λ d k. go d k (h.cells (r, d) k off))
    where
      go : (d k : ℕ) → (cell after.store (r, d) k ≡ cell before.store (r, d) k) ⊎ Rewritten unit b p before.store after.store (r, d) k →
          cell after.store (r, d) k ≡ cell before.store (r, d) k
      go d k (inl e) = e
      go d k (inr w) = absurd (apart w.owned)

  pub agree_self : (b : ℕ) (p : Name) (w : World) → Agree unit b p w w
  agree_self b p w = record { own = refl; frames = λ r o. refl; counts = λ s o. refl; seen = λ s k o m. refl; formals = λ s k o m. refl; system = λ c. refl }

  abbrev pub disjoint_swap : (a b : ℕ) → Disjoint unit a b → Disjoint unit b a
  disjoint_swap a b d = record {
    unnamed = d.unnamed;
    first_writes = λ v x y. d.second_writes v y x;
    second_writes = λ v x y. d.first_writes v y x;
    one_calls = λ x y. d.one_calls y x;
    first_others = d.second_others;
    second_others = d.first_others;
  }

module _ (unit : ProgramUnit) (ok : Fits unit) where
  -- what the first law says of a process of branch b that may step
  pub record Prepared (b : ℕ) (unnamed : NamesProgram unit → ⊥) (quiet : CallsParameter unit b → ⊥) (s : Processes) (p : Name) : Type 0 where
    pub process : Process
    pub found : find s.live p ≡ Some process
    pub runs : is_running process.standing ≡ true
    pub may : StandingMay (text_of unit ok (block_in (shape s.world.store) (now (shape s.world.store) p))) process.standing process.work
    pub knows : Knows unit ok unnamed b quiet p process.size (shape s.world.store) s.world

  -- a step of p from s to t, which asks for this and leaves that world
  pub record Takes (s : Processes) (p : Name) (q : Process) (a : Asks) (w : World) (t : Processes) : Type 0 where
    pub local : local_step unit p q.size q.standing q.work s.world ≡ gives a w
    pub results : Results unit s p q a w t

  module _ (b : ℕ) (unnamed : NamesProgram unit → ⊥) (quiet : CallsParameter unit b → ⊥) (s : Processes) (p : Name) (k : Prepared b unnamed quiet s p) where
    abbrev Leaves : World → World → World → Type 0
    Leaves u w v = Second unit ok unnamed b quiet p k.process.size s.world u (shape s.world.store) w v

    -- beside the same step in another world that agrees
    pub law : (u : World) (a c : Asks) (w v : World) → Agree unit b p s.world u → local_step unit p k.process.size k.process.standing k.process.work s.world ≡ gives a w →
        local_step unit p k.process.size k.process.standing k.process.work u ≡ gives c v → (a ≡ c) × Leaves u w v
    law u a c w v agree e f =
        pair_of (λ a w v. Leaves u w v) _ _ a c w v e f
        (second_law unit ok unnamed b quiet p k.process.size s.world u (shape s.world.store) k.process.standing k.process.work k.may k.knows agree).is

    alone : (a : Asks) (w : World) → local_step unit p k.process.size k.process.standing k.process.work s.world ≡ gives a w → Changes unit b p s.world w
    alone a w e = (law s.world a a w w (agree_self unit b p s.world) e e).1.left

  -- p of branch a and q of branch b, which may both step
  pub record Two (a b : ℕ) (d : Disjoint unit a b) (s : Processes) (p q : Name) : Type 0 where
    pub one : Prepared a d.unnamed d.first_others s p
    pub other : Prepared b d.unnamed d.second_others s q
    pub different : same p q ≡ false
    pub family : Family s.live

  abbrev pub two_swap : (a b : ℕ) (d : Disjoint unit a b) (s : Processes) (p q : Name) → Two a b d s p q → Two b a (disjoint_swap unit a b d) s q p
  two_swap a b d s p q t = record { one = t.other; other = t.one; different = same-symmetric p q t.different; family = t.family }

  module _ (a b : ℕ) (d : Disjoint unit a b) (s : Processes) (p q : Name) (t : Two a b d s p q) where
    abbrev P : Process
    P = t.one.process

    abbrev Q : Process
    Q = t.other.process

    -- p is no ancestor of q, and so is none of its children
    pub not_above : Owns q p → ⊥
    not_above o =
        let w : IsWaiting s.live p = owner_waits s.live t.family q p Q t.other.found (same-symmetric p q t.different) o in
        waiting_does_not_run P.standing w.number t.one.runs (ap (λ x. x.standing) (some_is (sym t.one.found ∙ w.found)) ∙ w.standing)

    pub not_first : p ≡ [] → ⊥
    not_first e = not_above (subst (Owns q) (sym e) (owns_first q))

    pub off : (r : Name) → Owns q r → same r p ≡ false
    off r o = not_equal r p (λ e. not_above (subst (Owns q) e o))

    pub off_child : (r : Name) → Owns q r → same (parent_of r) p ≡ false
    off_child r o = off (parent_of r) (owns_parent_of q r o)

  -- ---- after a step of q all is as before for p

  module _ (a b : ℕ) (d : Disjoint unit a b) (s : Processes) (p q : Name) (t : Two a b d s p q) (c : Asks) (w : World) (u : Processes)
      (k : Takes s q t.other.process c w u) where
    abbrev e : Disjoint unit b a
    e = disjoint_swap unit a b d

    abbrev back : Two b a e s q p
    back = two_swap a b d s p q t

    changes : Changes unit b q s.world w
    changes = alone b d.unnamed d.second_others s q t.other c w k.local

    kept : (r : Name) → Owns p r → instances u.world.store r ≡ instances w.store r
    kept r o = k.results.store r ∙ store_off unit q t.other.process (shape w.store q) c r (off b a e s q p back r o) (off_child b a e s q p back r o) (instances w.store r)

    shape_kept : (r : Name) → Owns p r → shape u.world.store r ≡ shape s.world.store r
    shape_kept r o = ap frames (kept r o) ∙ changes.frames r (off b a e s q p back r o)

    count_kept : (x : Spot) → Owns p x.0 → length (cells_of u.world.store x) ≡ length (cells_of s.world.store x)
    count_kept x o = ap (λ is. length (cells_in is x.1)) (kept x.0 o) ∙ changes.counts x (off b a e s q p back x.0 o)

    cell_kept : (x : Spot) (j : ℕ) → Owns p x.0 → cell w.store x j ≡ cell s.world.store x j → cell s.world.store x j ≡ cell u.world.store x j
    cell_kept x j o h = sym (ap (λ is. slice_index_or (cells_in is x.1) j no_cell) (kept x.0 o) ∙ h)

    pub agree_after : Agree unit a p s.world u.world
    agree_after = record {
      own = own;
      frames = λ r o. sym (shape_kept r o);
      counts = λ x o. sym (count_kept x o);
      seen = λ x j o m. seen x j o m (changes.cells x j (off b a e s q p back x.0 o));
      formals = λ x j o m. formals x j o m (changes.cells x j (off b a e s q p back x.0 o));
      system = λ m. system m changes.system;
    }
      where
        seen : (x : Spot) (j : ℕ) → Owns p x.0 → Sees unit a (variable_in s.world.store x j) →
            (cell w.store x j ≡ cell s.world.store x j) ⊎ Rewritten unit b q s.world.store w.store x j → cell s.world.store x j ≡ cell u.world.store x j
        seen x j o m (inl h) = cell_kept x j o h
        seen x j o m (inr h) = absurd (d.second_writes (variable_in s.world.store x j) m h.writes)

        formals : (x : Spot) (j : ℕ) → Owns p x.0 → IsTrue (is_procedure (slice_get (slots (block_at unit.blocks (block_in (shape s.world.store) x))) j)) →
            (cell w.store x j ≡ cell s.world.store x j) ⊎ Rewritten unit b q s.world.store w.store x j → cell s.world.store x j ≡ cell u.world.store x j
        formals x j o m (inl h) = cell_kept x j o h
        formals x j o m (inr h) = absurd (not_both _ (writes_variable unit ok b (variable_in s.world.store x j) h.writes) m)

        system : CallsSystem unit a → (w.system ≡ s.world.system) ⊎ CallsSystem unit b → s.world.system ≡ u.world.system
        system m (inl h) = sym (k.results.system ∙ h)
        system m (inr h) = absurd (d.one_calls m h)

        mine : (i j : ℕ) → (cell w.store (p, i) j ≡ cell s.world.store (p, i) j) ⊎ Rewritten unit b q s.world.store w.store (p, i) j →
            cell s.world.store (p, i) j ≡ cell u.world.store (p, i) j
        mine i j (inl h) = cell_kept (p, i) j (owns_self p) h
        mine i j (inr h) = absurd (not_above a b d s p q t h.owned)

        own : instances s.world.store p ≡ instances u.world.store p
        own = instances_equal (instances s.world.store p) (instances u.world.store p) (sym (shape_kept p (owns_self p)))
            (λ i. sym (count_kept (p, i) (owns_self p))) (λ i j. mine i j (changes.cells (p, i) j t.different))
